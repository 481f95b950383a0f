-- The branches of the questions about a line. Assumes nothing.
use Prim.Native.Nat.{◌≤◌}
use mathlib.Core.Path.{◌≡◌, sym, ap, ◌∙◌}
use mathlib.Core.Bool.{Bool, true, false}
use native.Mathlib.Omega.{arith}
use lib.ListN.{length, drop, length-append}
use Rattle.meaning.specs.Bytes.{Text, bytes, every, begins}
use Rattle.promises.proofs.Captures.{begins-is}
use Rattle.text_lists.specs.declared.line.Line.TheVariants.{Nothing, Fetch, Push, Name, Shown, Marked, Unknown}
use Rattle.text_lists.specs.Line.{blank_byte, byte_order_mark, held_in, TellsLine}

-- what a line begins with is no longer than the line
word-within : (p t : Text) (b : Bool) → b ≡ begins p t → b ≡ true → length p ≤ length t
word-within p t b e f = omega (arith, ap length (begins-is p t (sym e ∙ f)), length-append p (drop (length p) t))

-- each kind of line
module _ (t : Text) (a : Bool) (ea : a ≡ every blank_byte t) where
  pub line-blank : a ≡ true → TellsLine t Nothing
  unfolding held_in
  line-blank e = record { means = rw (sym ea ∙ e); within = _ }

  module _ (na : a ≡ false) (b : Bool) (eb : b ≡ begins (bytes "#") t) where
    pub line-comment : b ≡ true → TellsLine t Nothing
    unfolding held_in
    line-comment e = record { means = rw (sym ea ∙ na, sym eb ∙ e); within = _ }

    module _ (nb : b ≡ false) (f : Bool) (ef : f ≡ begins (bytes "fetch ") t) where
      pub line-fetch : f ≡ true → TellsLine t (Fetch 6)
      unfolding held_in
      line-fetch e = record { means = rw (sym ea ∙ na, sym eb ∙ nb, sym ef ∙ e); within = word-within (bytes "fetch ") t f ef e }

      module _ (nf : f ≡ false) (p : Bool) (ep : p ≡ begins (bytes "push ") t) where
        pub line-push : p ≡ true → TellsLine t (Push 5)
        unfolding held_in
        line-push e = record { means = rw (sym ea ∙ na, sym eb ∙ nb, sym ef ∙ nf, sym ep ∙ e); within = word-within (bytes "push ") t p ep e }

        module _ (np : p ≡ false) (n : Bool) (en : n ≡ begins (bytes "name ") t) where
          pub line-name : n ≡ true → TellsLine t (Name 5)
          unfolding held_in
          line-name e = record { means = rw (sym ea ∙ na, sym eb ∙ nb, sym ef ∙ nf, sym ep ∙ np, sym en ∙ e); within = word-within (bytes "name ") t n en e }

          module _ (nn : n ≡ false) (w : Bool) (ew : w ≡ begins (bytes "shown ") t) where
            pub line-shown : w ≡ true → TellsLine t (Shown 6)
            unfolding held_in
            line-shown e = record { means = rw (sym ea ∙ na, sym eb ∙ nb, sym ef ∙ nf, sym ep ∙ np, sym en ∙ nn, sym ew ∙ e); within = word-within (bytes "shown ") t w ew e }

            module _ (nw : w ≡ false) (m : Bool) (em : m ≡ begins byte_order_mark t) where
              pub line_marked : m ≡ true → TellsLine t Marked
              unfolding held_in
              line_marked e = record { means = rw (sym ea ∙ na, sym eb ∙ nb, sym ef ∙ nf, sym ep ∙ np, sym en ∙ nn, sym ew ∙ nw, sym em ∙ e); within = _ }

              pub line-unknown : m ≡ false → TellsLine t Unknown
              unfolding held_in
              line-unknown e = record { means = rw (sym ea ∙ na, sym eb ∙ nb, sym ef ∙ nf, sym ep ∙ np, sym en ∙ nn, sym ew ∙ nw, sym em ∙ e); within = _ }
