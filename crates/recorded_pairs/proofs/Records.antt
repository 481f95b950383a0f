-- A whole record: two texts, and the report on them. Assumes nothing.
use Prim.Native.Nat.{ℕ, ◌+◌, ◌-◌, ◌≤◌}
use mathlib.Core.Path.{◌≡◌, sym, ap, ◌∙◌}
use mathlib.Core.Bool.{Bool, true, false, false≢true}
use mathlib.Core.Logic.{◌↔◌}
use mathlib.Core.List.{◌++◌}
use lib.ListN.{take, drop}
use Rattle.meaning.specs.Bytes.{Text, same}
use Rattle.meaning.specs.Collide.{collide}
use Rattle.promises.proofs.Laws.{same-is, same_refl}
use Rattle.std.specs.Prelude.{Option, Some, None}
use Rattle.recorded.specs.Record.{sized}
use Rattle.recorded.specs.Field.{TextFound}
use Rattle.recorded.proofs.Fields.{sized-once}
use Rattle.recorded.proofs.Texts.{text_at_lem, text-long}
use Rattle.recorded_pairs.specs.PairRecord.{report_bytes, pair_record, IsPairRecord}

-- the first text begins after the two bytes of its length
pub first-long : (s : Text) (r : Option ℕ) (n : ℕ) → TextFound s 0 r → r ≡ Some n → 2 ≤ n
first-long s r n f e = text-long s 0 r n f e

module _ (told : Text) where
  -- a record is two texts and a report
  texts-follow : (g : IsPairRecord told) → drop 0 told ≡ sized g.first ++ (sized g.second ++ report_bytes (collide g.first g.second))
  unfolding pair_record
  texts-follow g = g.is

  module _ (p : Option ℕ) (fp : TextFound told 0 p) where
    pub first-differs : p ≡ None → (false ≡ true) ↔ IsPairRecord told
    first-differs e =
        let f : TextFound told 0 None = rw e at fp in
        ((λ y. absurd (false≢true y)), (λ g. absurd (f g.first (sized g.second ++ report_bytes (collide g.first g.second)) (texts-follow g))))

    module _ (from : ℕ) (ep : p ≡ Some from) where
      abbrev first : Text
      first = take (from - 2) (drop 2 told)

      -- the first text is the record's, and the rest follows it
      first-is : (g : IsPairRecord told) → (first ≡ g.first) × (drop from told ≡ sized g.second ++ report_bytes (collide g.first g.second))
      first-is g =
          sized-once first g.first (drop from told) (sized g.second ++ report_bytes (collide g.first g.second)) (sym (text_at_lem told 0 p from fp ep).stands.is ∙ texts-follow g)

      module _ (q : Option ℕ) (fq : TextFound told from q) where
        pub second-differs : q ≡ None → (false ≡ true) ↔ IsPairRecord told
        second-differs e =
            let f : TextFound told from None = rw e at fq in
            ((λ y. absurd (false≢true y)), (λ g. absurd (f g.second (report_bytes (collide g.first g.second)) (first-is g).1)))

        -- both texts and the report
        pub record-whole : (at : ℕ) → q ≡ Some at → (b : Bool) → b ≡ same (report_bytes (collide (take (from - 2) (drop 2 told)) (take (at - (from + 2)) (drop (from + 2) told)))) (drop at told) → (b ≡ true) ↔ IsPairRecord told
        unfolding pair_record
        record-whole at eq b f = (is, tells)
          where
            second : Text
            second = take (at - (from + 2)) (drop (from + 2) told)

            after : drop from told ≡ sized second ++ drop at told
            after = (text_at_lem told from q at fq eq).stands.is

            is : b ≡ true → IsPairRecord told
            is y =
                let report : drop at told ≡ report_bytes (collide first second) = sym (same-is (report_bytes (collide first second)) (drop at told) (sym f ∙ y)) in
                let rest : drop from told ≡ sized second ++ report_bytes (collide first second) = after ∙ ap (λ (x : Text). sized second ++ x) report in
                record { first = first; second = second; is = (text_at_lem told 0 p from fp ep).stands.is ∙ ap (λ (x : Text). sized first ++ x) rest }

            tells : IsPairRecord told → b ≡ true
            tells g =
                let x = first-is g in
                let y = sized-once second g.second (drop at told) (report_bytes (collide g.first g.second)) (sym after ∙ x.1) in
                f ∙ rw (x.0, y.0, y.1) (same_refl (report_bytes (collide g.first g.second)))
