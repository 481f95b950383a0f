-- The bytes of a fix: the number of its name's bytes, the name, the spec number. Assumes nothing.
use mathlib.Core.Path.{◌≡◌, refl, sym, ap, ◌∙◌}
use mathlib.Core.Bool.{Bool, true, false, cond}
use mathlib.Core.Logic.{◌⊎◌, inl, inr}
use mathlib.Core.List.{[], ◌∷◌, ◌++◌, append_assoc, append-nil}
use mathlib.Core.Option.{Option, none, some}
use Prim.Native.Nat.{ℕ, suc, ◌+◌, ◌-◌, ◌≤◌}
use native.Mathlib.Omega.{arith}
use mir.Val.{Fits}
use mir.Syntax.{w64}
use lib.ListN.{length, take, drop, length-append}
use Rattle.meaning.specs.Bytes.{Text, each}
use Rattle.meaning.specs.Limits.{row_list_bytes, number_groups}
use Rattle.meaning.specs.Number.{number_bytes, text_bytes}
use Rattle.meaning.specs.Rows.{Row, destination_bytes, row_bytes}
use Rattle.meaning.specs.Validation.{is_full, fix_by, fix_bytes}
use Rattle.promises.proofs.Reading.{number-long}
use Rattle.buffer.specs.Splice.{splice}
use Rattle.buffer.proofs.Splices.{splice-none}
use Rattle.buffer.proofs.Threes.{three-first, three-second, three_third, three-put, three-end}
use Rattle.number.proofs.Bytes.{bytes-few}
use Rattle.parse.specs.declared.types.Side.{Side}
use Rattle.parse.specs.declared.types.Side.TheVariants.{Absent, Part, Head}
use Rattle.parse.specs.Places.{part_at, side_meant}
use Rattle.parse.proofs.Parts.{part_of, part_length}
use Rattle.kept_rows.specs.Rows.{fix_on, fix_numbers_most, fix_for, row_fix}

-- a destination that is full gives none
module _ (t : Text) (i : ℕ) (b : Bool) (e : b ≡ is_full t) (h : b ≡ true) where
  full-none : fix_on i t ≡ []
  unfolding fix_on
  full-none = let q : is_full t ≡ true = rw e at h in rw q

  pub full_size : 0 ≡ length (fix_on i t)
  full_size = rw full-none

  pub full_put : (d : Text) (to : ℕ) → d ≡ splice d to (fix_on i t)
  full_put d to = rw full-none (sym (splice-none d to))

  pub full-end : (to : ℕ) → to ≡ to + length (fix_on i t)
  full-end to = rw full-none (omega arith)

-- one that is partial gives its fix
module _ (t : Text) (i : ℕ) (short : length t ≤ row_list_bytes) (b : Bool) (e : b ≡ is_full t) (h : b ≡ false) where
  pieces : fix_on i t ≡ number_bytes (length t) ++ (t ++ number_bytes i)
  unfolding fix_on fix_bytes text_bytes
  pieces =
      let q : is_full t ≡ false = rw e at h in
      rw q (append_assoc (number_bytes (length t)) t (number_bytes i))

  module _ (a c : ℕ) (ea : a ≡ length (number_bytes (length t))) (ec : c ≡ length (number_bytes i)) where
    pub fix-size : a + length t + c ≡ length (fix_on i t)
    fix-size = omega (arith, ap length pieces, length-append (number_bytes (length t)) (t ++ number_bytes i), length-append t (number_bytes i))

    pub fix-small : a + length t + c ≤ length t + fix_numbers_most
    fix-small = omega (arith, bytes-few (length t), bytes-few i)

    pub fix-fits : Fits w64 (a + length t + c)
    fix-fits = omega (arith, bytes-few (length t), bytes-few i)

  pub name-fits : (a : ℕ) → a ≡ length (number_bytes (length t)) → Fits w64 (a + length t)
  name-fits a ea = omega (arith, bytes-few (length t))

  -- written piece by piece
  module _ (d : Text) (to : ℕ) (fits : to + length (fix_on i t) ≤ length d) where
    all_fit : to + length (number_bytes (length t) ++ (t ++ number_bytes i)) ≤ length d
    all_fit = rw (← pieces) fits

    pub fix-first : to + length (number_bytes (length t)) ≤ length d
    fix-first = three-first d to (number_bytes (length t)) t (number_bytes i) all_fit

    module _ (o : Text) (j : ℕ) (eo : o ≡ splice d to (number_bytes (length t))) (ej : j ≡ to + length (number_bytes (length t))) where
      pub fix-second : j + length t ≤ length o
      fix-second = three-second d to (number_bytes (length t)) t (number_bytes i) all_fit o j eo ej

      module _ (p : Text) (k : ℕ) (ep : p ≡ splice o j t) (ek : k ≡ j + length t) where
        pub fix-third : k + length (number_bytes i) ≤ length p
        fix-third = three_third d to (number_bytes (length t)) t (number_bytes i) all_fit o j eo ej p k ep ek

        pub fix-put : (q : Text) → q ≡ splice p k (number_bytes i) → q ≡ splice d to (fix_on i t)
        fix-put q eq = three-put d to (number_bytes (length t)) t (number_bytes i) all_fit o j eo ej p k ep ek q eq ∙ ap (splice d to) (sym pieces)

        pub fix-end : (l : ℕ) → l ≡ k + length (number_bytes i) → l ≡ to + length (fix_on i t)
        fix-end l el = three-end d to (number_bytes (length t)) t (number_bytes i) all_fit o j eo ej p k ep ek l el ∙ ap (λ (x : Text). to + length x) (sym pieces)

-- a destination as it is lent
abbrev pub lent : Text → ℕ → ℕ → Text
lent s at n = take (at + n - at) (drop at s)

pub lent-long : (s : Text) (at n : ℕ) → at + n ≤ length s → length (lent s at n) ≤ length s
lent-long s at n h = rw (part_of s at n) (omega (arith, part_length s at n h))

-- the arms of a `match` on a destination
module _ (s : Text) (i : ℕ) (side : Side) where
  none-for : (side ≡ Absent) ⊎ (side ≡ Head) → fix_for i (side_meant s side) ≡ []
  unfolding fix_for is_full
  none-for (inl e) = rw e
  none-for (inr e) = rw e

  part-for : (at n : ℕ) → side ≡ Part at n → fix_for i (side_meant s side) ≡ fix_on i (lent s at n)
  unfolding fix_for fix_on
  part-for at n e = rw (e, part_of s at n) (go (is_full (part_at s at n)))
    where
      go : (b : Bool) → each (cond b [] (record { name = part_at s at n; spec = i } ∷ [])) fix_bytes ≡ cond b [] (fix_bytes (record { name = part_at s at n; spec = i }))
      go true = refl
      go false = append-nil (fix_bytes (record { name = part_at s at n; spec = i }))

  pub none-size : (side ≡ Absent) ⊎ (side ≡ Head) → 0 ≡ length (fix_for i (side_meant s side))
  none-size e = rw (none-for e)

  pub part-size : (at n : ℕ) → side ≡ Part at n → (r : ℕ) → r ≡ length (fix_on i (lent s at n)) → r ≡ length (fix_for i (side_meant s side))
  part-size at n e r f = f ∙ ap length (sym (part-for at n e))

  module _ (d : Text) (to : ℕ) where
    pub none-put : (side ≡ Absent) ⊎ (side ≡ Head) → d ≡ splice d to (fix_for i (side_meant s side))
    none-put e = rw (none-for e) (sym (splice-none d to))

    pub none_end : (side ≡ Absent) ⊎ (side ≡ Head) → to ≡ to + length (fix_for i (side_meant s side))
    none_end e = rw (none-for e) (omega arith)

    module _ (at n : ℕ) (e : side ≡ Part at n) where
      pub part_room : to + length (fix_for i (side_meant s side)) ≤ length d → to + length (fix_on i (lent s at n)) ≤ length d
      part_room h = rw (← part-for at n e) h

      pub part-put : (o : Text) → o ≡ splice d to (fix_on i (lent s at n)) → o ≡ splice d to (fix_for i (side_meant s side))
      part-put o f = f ∙ ap (splice d to) (sym (part-for at n e))

      pub part_end : (r : ℕ) → r ≡ to + length (fix_on i (lent s at n)) → r ≡ to + length (fix_for i (side_meant s side))
      part_end r f = f ∙ ap (λ (x : Text). to + length x) (sym (part-for at n e))

-- a fix is no longer than its row, which has the same destination, four numbers more and the spec number
fix-long : (i : ℕ) (t : Text) → length (fix_bytes (record { name = t; spec = i })) ≤ number_groups + length t + length (number_bytes i)
unfolding fix_bytes text_bytes
fix-long i t = omega (arith, bytes-few (length t), length-append (number_bytes (length t) ++ t) (number_bytes i), length-append (number_bytes (length t)) t)

pub fix-shorter : (r : Row) → length (row_fix r) ≤ length (row_bytes r)
unfolding row_fix fix_for row_bytes text_bytes
fix-shorter r = go r.destination
  where
    whole : (d : Text) → length (number_bytes r.item ++ (number_bytes r.spec ++ (number_bytes r.kind ++ ((number_bytes (length r.source) ++ r.source) ++ d)))) ≡ length (number_bytes r.item) + length (number_bytes r.spec) + length (number_bytes r.kind) + length (number_bytes (length r.source)) + length r.source + length d
    whole d =
        let t = number_bytes (length r.source) ++ r.source in
        omega (
          arith,
          length-append (number_bytes r.item) (number_bytes r.spec ++ (number_bytes r.kind ++ (t ++ d))),
          length-append (number_bytes r.spec) (number_bytes r.kind ++ (t ++ d)),
          length-append (number_bytes r.kind) (t ++ d),
          length-append t d,
          length-append (number_bytes (length r.source)) r.source,
        )

    four : 4 ≤ length (number_bytes r.item) + length (number_bytes r.kind) + length (number_bytes (length r.source)) + 1
    four = omega (arith, number-long r.item, number-long r.kind, number-long (length r.source))

    go : (o : Option Text) → length (each (fix_by r.spec o) fix_bytes) ≤ length (number_bytes r.item ++ (number_bytes r.spec ++ (number_bytes r.kind ++ ((number_bytes (length r.source) ++ r.source) ++ destination_bytes o))))
    go none = omega arith
    go (some t) = at (is_full t)
      where
        size : length (destination_bytes (some t)) ≡ length (number_bytes (suc (length t))) + length t
        size = length-append (number_bytes (suc (length t))) t

        at : (b : Bool) → length (each (cond b [] (record { name = t; spec = r.spec } ∷ [])) fix_bytes) ≤ length (number_bytes r.item ++ (number_bytes r.spec ++ (number_bytes r.kind ++ ((number_bytes (length r.source) ++ r.source) ++ destination_bytes (some t)))))
        at true = omega arith
        at false = omega (arith, fix-long r.spec t, whole (destination_bytes (some t)), size, four, number-long (suc (length t)), ap length (append-nil (fix_bytes (record { name = t; spec = r.spec }))))
