-- Which byte of a line a refusal is about, from the answer about the line. Assumes nothing.
use mathlib.Core.Path.{◌≡◌, ap, ◌∙◌}
use mathlib.Core.Logic.{◌⊎◌, inl, inr}
use Prim.Native.Nat.{ℕ, suc, ◌+◌, ◌-◌, ◌≤◌}
use native.Mathlib.Omega.{arith}
use Rattle.std.specs.Prelude.{Bool, true, false, cond, [], ◌∷◌, Option, Some, None, take, take_while, zip, nat_eq, eqb, max}
use Rattle.std.specs.List.{prefix_len}
use Rattle.std.proofs.Common.{refl}
use Rattle.std.proofs.lemmas.Bool.Decides.{nat_tests}
use lib.ListN.{length, drop, length-take, length-drop}
use Rattle.meaning.specs.Bytes.{Text, bytes}
use Rattle.text.specs.Last.{later}
use Rattle.text.proofs.Rests.{rest_part}
use Rattle.print.specs.Unshown.{unshown}
use Rattle.text_lists.specs.declared.line.Line.{Line}
use Rattle.text_lists.specs.declared.line.Line.TheVariants.{Nothing, Fetch, Push, Name, Shown, Marked, Unknown}
use Rattle.text_lists.specs.Line.{Held, nothing, marked, unknown, fetch, push, name, shown, held_in, TellsLine}
use Rattle.refused_line.specs.Byte.{past, counted, byte_after, spec_byte, unshown_byte, alike, known, held_byte, line_byte}

-- how many bytes two texts begin with alike, as the code counts them
abbrev pub same_bytes : ℕ × ℕ → Bool
same_bytes z = nat_eq z.0 z.1

pub alike_is : (p t : Text) → length (take_while same_bytes (zip p t)) ≡ alike p t
alike_is [] t = refl
alike_is (a ∷ p) [] = refl
alike_is (a ∷ p) (x ∷ s) = go (eqb a x) (alike_is p s)
  where
    go : (b : Bool) → length (take_while same_bytes (zip p s)) ≡ alike p s → length (take (cond b (1 + prefix_len same_bytes (zip p s)) 0) ((a, x) ∷ zip p s)) ≡ cond b (suc (alike p s)) 0
    go true h = let e : 1 + prefix_len same_bytes (zip p s) ≡ suc (prefix_len same_bytes (zip p s)) = omega arith in rw e (ap suc h)
    go false h = refl

-- the words that lines begin with
later-max : (a b : ℕ) → max a b ≡ later a b
unfolding later
later-max a b = grind (arith, nat_tests)

pub known-max : (t : Text) (a b d e m n r : ℕ) → a ≡ length (take_while same_bytes (zip (bytes "fetch ") t)) → b ≡ length (take_while same_bytes (zip (bytes "push ") t)) → m ≡ max a b → d ≡ length (take_while same_bytes (zip (bytes "name ") t)) → e ≡ length (take_while same_bytes (zip (bytes "shown ") t)) → n ≡ max d e → r ≡ max m n → r ≡ known t
unfolding known
known-max t a b d e m n r ea eb em ed ee en er =
    let fa = ea ∙ alike_is (bytes "fetch ") t in
    let fb = eb ∙ alike_is (bytes "push ") t in
    let fd = ed ∙ alike_is (bytes "name ") t in
    let fe = ee ∙ alike_is (bytes "shown ") t in
    er ∙ later-max m n ∙ rw (em ∙ later-max a b, en ∙ later-max d e, fa, fb, fd, fe)

-- what a line holds from a place on
module _ (l : Text) (at : ℕ) (within : at ≤ length l) (o : Option ℕ) (few : counted o ≤ length (take (length l - at) (drop at l))) (m : ℕ) (e : past at (counted o) ≡ m) where
  pub from-none : o ≡ None → (r : Option ℕ) → r ≡ None → (counted r ≡ m) × (counted r ≤ length l)
  from-none n r f = rw f (rw n at e, omega arith)

  pub from-some : (i : ℕ) → o ≡ Some i → (suc (at + i) ≡ m) × (suc (at + i) ≤ length l)
  from-some i n =
      let h : suc i ≤ length (take (length l - at) (drop at l)) = rw n at few in
      (omega arith ∙ rw n at e, omega (arith, length-take (length l - at) (drop at l), length-drop at l))

pub spec-held : (n : ℕ) (l : Text) (at m : ℕ) → m ≡ spec_byte n (take (length l - at) (drop at l)) → past at m ≡ past at (spec_byte n (drop at l))
spec-held n l at m e = rw (e, rest_part l at)

pub unshown-held : (l : Text) (at m : ℕ) → m ≡ unshown_byte (take (length l - at) (drop at l)) (unshown (take (length l - at) (drop at l))) → past at m ≡ past at (unshown_byte (drop at l) (unshown (drop at l)))
unshown-held l at m e = rw (e, rest_part l at)

-- each kind of line
module _ (n : ℕ) (l : Text) (a : Line) (tells : TellsLine l a) where
  by-held : (h : Held) → h ≡ held_in l → (r : ℕ) → r ≡ held_byte n l h → r ≡ line_byte n l
  unfolding line_byte
  by-held h e r f = f ∙ ap (held_byte n l) e

  pub byte-nothing : a ≡ Nothing → (0 ≡ line_byte n l) × (0 ≤ length l)
  byte-nothing e = (by-held nothing (rw e at tells.means) 0 (omega arith), omega arith)

  pub byte-marked : a ≡ Marked → (0 ≡ line_byte n l) × (0 ≤ length l)
  byte-marked e = (by-held marked (rw e at tells.means) 0 (omega arith), omega arith)

  pub byte-name : (at : ℕ) → a ≡ Name at → (0 ≡ line_byte n l) × (0 ≤ length l)
  byte-name at e = (by-held (name (drop at l)) (rw e at tells.means) 0 (omega arith), omega arith)

  pub byte-unknown : a ≡ Unknown → (k r : ℕ) → k ≡ known l → r ≡ byte_after k l → r ≡ line_byte n l
  byte-unknown e k r f g = by-held unknown (rw e at tells.means) r (g ∙ rw f)

  module _ (at : ℕ) where
    -- what it holds begins where the line is longer
    begins-at : at ≤ length l → length l - length (drop at l) ≡ at
    begins-at h = omega (arith, length-drop at l)

    pub byte-fetch : a ≡ Fetch at → past at (spec_byte n (drop at l)) ≡ line_byte n l
    byte-fetch e = by-held (fetch (drop at l)) (rw e at tells.means) _ (rw (begins-at (rw e at tells.within)))

    pub byte-push : a ≡ Push at → past at (spec_byte n (drop at l)) ≡ line_byte n l
    byte-push e = by-held (push (drop at l)) (rw e at tells.means) _ (rw (begins-at (rw e at tells.within)))

    pub byte-spec : (a ≡ Fetch at) ⊎ (a ≡ Push at) → past at (spec_byte n (drop at l)) ≡ line_byte n l
    byte-spec (inl e) = byte-fetch e
    byte-spec (inr e) = byte-push e

    pub spec-at : (a ≡ Fetch at) ⊎ (a ≡ Push at) → at ≤ length l
    spec-at (inl e) = rw e at tells.within
    spec-at (inr e) = rw e at tells.within

    pub byte-shown : a ≡ Shown at → past at (unshown_byte (drop at l) (unshown (drop at l))) ≡ line_byte n l
    byte-shown e = by-held (shown (drop at l)) (rw e at tells.means) _ (rw (begins-at (rw e at tells.within)))
