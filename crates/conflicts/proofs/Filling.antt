-- The index of a row list: the places of its rows that have a destination. Assumes nothing.
use mathlib.Core.Path.{◌≡◌, refl, sym, ap, ◌∙◌}
use mathlib.Core.Bool.{Bool, true, false, cond}
use mathlib.Core.List.{List, [], ◌∷◌, ◌++◌}
use Prim.Native.Nat.{ℕ, zero, suc, ◌+◌, ◌≤◌, ◌<◌}
use native.Mathlib.Numerals.{add-one}
use native.Mathlib.Omega.{arith}
use lib.ListN.{length, take, drop, set, length-set, length-drop}
use lib.Seq.{take-suc-set}
use Rattle.meaning.specs.Bytes.{Text, keep, present}
use Rattle.meaning.specs.Limits.{row_list_bytes}
use Rattle.meaning.specs.Number.{took, need, give}
use Rattle.meaning.specs.Rows as meaning
use Rattle.promises.proofs.Members.{step-took}
use Rattle.parse.specs.declared.types.Side.{Side}
use Rattle.parse.specs.declared.types.Side.TheVariants.{Absent, Part, Head}
use Rattle.parse.specs.Places.{side_meant}
use Rattle.std.specs.Prelude.{Option, None, Some}
use Rattle.list.specs.declared.cursor.Record.{Record}
use Rattle.row_fields.specs.declared.RowPlace.{RowPlace}
use Rattle.row_fields.specs.Fields.{row_meant}
use Rattle.row_list.specs.Rows.{RowTaken, RowHere}
use Rattle.order.specs.Sorting.{Above, Increasing}
use Rattle.keys.specs.Keys.{row_or, row_at}
use Rattle.row_list.specs.Lists.{rows_in, RowsRead}
use Rattle.conflicts.specs.ConflictBytes.{InList}
use Rattle.conflict.specs.Shared.{rows_at}
use Rattle.conflicts.specs.Indexed.{has_destination, Given, Indexed, Stored}
use Rattle.conflicts.proofs.Walks.{At, at-start, next_row, next-destination, end_row, taken}

-- a place as it is stored

module _ (specs : ℕ) (s : Text) (at : ℕ) (row : RowPlace) (next : ℕ) (t : RowTaken specs s at row next) where
  -- the row that was taken is the one that begins there
  row-there : row_at s at ≡ row_meant s row
  unfolding row_at meaning.row_record meaning.read_row
  row-there =
      let q = step-took (meaning.read_front (drop at s)) (λ r. need 16 (meaning.row_passes specs r) (give r)) (t.reads 0) in
      ap row_or q.2 ∙ passed (meaning.row_passes specs q.0) q.0 q.1 q.3
    where
      passed : (b : Bool) (r : meaning.Row) (rest : Text) → need 16 b (give r) rest ≡ took (row_meant s row) (drop next s) → r ≡ row_meant s row
      passed true r rest e = cc
      passed false r rest e = absurd (let z : ◌≡◌ {A = ℕ} 0 1 = cc in omega arith)

-- all places are before one
abbrev Under : ℕ → List ℕ → Type 0
Under at [] = Unit {0}
Under at (x ∷ l) = (x < at) × Under at l

under_more : (at next : ℕ) (l : List ℕ) → at ≤ next → Under at l → Under next l
under_more at next [] h u = tt
under_more at next (x ∷ l) h u = (omega (arith, u.0), under_more at next l h u.1)

under-put : (at next : ℕ) (l : List ℕ) → at < next → Under at l → Under next (l ++ (at ∷ []))
under-put at next [] h u = (h, tt)
under-put at next (x ∷ l) h u = (omega (arith, u.0), under-put at next l h u.1)

above-put : (x at : ℕ) (l : List ℕ) → x < at → Above x l → Above x (l ++ (at ∷ []))
above-put x at [] h a = (h, tt)
above-put x at (y ∷ l) h a = (a.0, above-put x at l h a.1)

ascending-put : (at : ℕ) (l : List ℕ) → Under at l → Increasing l → Increasing (l ++ (at ∷ []))
ascending-put at [] u a = (tt, tt)
ascending-put at (x ∷ l) u a = (above-put x at l u.0 a.0, ascending-put at l u.1 a.1)

given-put : (s : Text) (at : ℕ) (l : List ℕ) → has_destination (row_at s at) ≡ true → Given s l → Given s (l ++ (at ∷ []))
given-put s at [] h g = (h, tt)
given-put s at (x ∷ l) h g = (g.0, given-put s at l h g.1)

map-put : (s : Text) (at : ℕ) (l : List ℕ) → rows_at s (l ++ (at ∷ [])) ≡ rows_at s l ++ (row_at s at ∷ [])
map-put s at [] = refl
map-put s at (x ∷ l) = ap (λ k. row_at s x ∷ k) (map-put s at l)

keep-put : (test : meaning.Row → Bool) (r : meaning.Row) (l : List meaning.Row) → keep test (l ++ (r ∷ [])) ≡ keep test l ++ cond (test r) (r ∷ []) []
keep-put test r [] = refl
keep-put test r (x ∷ l) = go (test x) (keep-put test r l)
  where
    go : (b : Bool) → keep test (l ++ (r ∷ [])) ≡ keep test l ++ cond (test r) (r ∷ []) [] → cond b (x ∷ keep test (l ++ (r ∷ []))) (keep test (l ++ (r ∷ []))) ≡ cond b (x ∷ keep test l) (keep test l) ++ cond (test r) (r ∷ []) []
    go true e = ap (λ k. x ∷ k) e
    go false e = e

take-suc : {A : Type 0} (l : List A) (j : ℕ) (x : A) (rest : List A) → drop j l ≡ x ∷ rest → take (suc j) l ≡ take j l ++ (x ∷ [])
take-suc [] zero x rest e = absurd (let z : ◌≡◌ {A = ℕ} 0 1 = cc in omega arith)
take-suc [] (suc j) x rest e = absurd (let z : ◌≡◌ {A = ℕ} 0 1 = cc in omega arith)
take-suc (y ∷ l) zero x rest e = let q : y ≡ x = cc in ap (λ z. z ∷ []) q
take-suc (y ∷ l) (suc j) x rest e = ap (λ k. y ∷ k) (take-suc l j x rest e)

take_past : {A : Type 0} (l : List A) (j : ℕ) → drop j l ≡ [] → take j l ≡ l
take_past [] zero e = refl
take_past [] (suc j) e = refl
take_past (x ∷ l) zero e = absurd (let z : ◌≡◌ {A = ℕ} 0 1 = cc in omega arith)
take_past (x ∷ l) (suc j) e = ap (λ k. x ∷ k) (take_past l j e)

append-none : {A : Type 0} (l : List A) → l ++ [] ≡ l
append-none [] = refl
append-none (x ∷ l) = ap (λ k. x ∷ k) (append-none l)

-- the places of the rows before the cursor are stored
pub record Filling (specs : ℕ) (s : Text) (d₀ d : List ℕ) (at n : ℕ) : Type 0 where
  pub passed : ℕ
  pub here : At specs s at passed
  pub some_left : passed ≤ length (rows_in specs s)
  pub few : n ≤ passed
  pub same-long : length d ≡ length d₀
  pub rows_are : rows_at s (take n d) ≡ keep has_destination (take passed (rows_in specs s))
  pub given : Given s (take n d)
  pub ascends : Increasing (take n d)
  pub under : Under at (take n d)

pub filling-starts : (specs : ℕ) (s : Text) → RowsRead specs s → (d : List ℕ) (at : ℕ) → at ≡ 0 → Filling specs s d d at 0
filling-starts specs s r d at e =
    record { passed = 0; here = at-start specs s r at e; some_left = omega arith; few = omega arith; same-long = refl; rows_are = refl; given = tt; ascends = tt; under = tt }

module _ (specs : ℕ) (s : Text) (d₀ d : List ℕ) (at n : ℕ) (m : Filling specs s d₀ d at n) (w : Option (Record RowPlace)) (says : RowHere specs s at w) where
  whole : length (rows_in specs s) ≤ length d₀ → drop m.passed (rows_in specs s) ≡ [] → Indexed specs s (take n d) × (n ≤ length d₀)
  whole h e = (
    record { rows_are = m.rows_are ∙ ap (keep has_destination) (take_past (rows_in specs s) m.passed e); given = m.given; ascends = m.ascends },
    omega (arith, m.few, m.some_left),
  )

  pub filling-done : length (rows_in specs s) ≤ length d₀ → w ≡ None → Indexed specs s (take n d)
  filling-done h e = (whole h (end_row specs s at m.passed m.here w says e)).0

  pub filling-few : length (rows_in specs s) ≤ length d₀ → w ≡ None → n ≤ length d₀
  filling-few h e = (whole h (end_row specs s at m.passed m.here w says e)).1

  module _ (r : Record RowPlace) (e : w ≡ Some r) where
    there : RowTaken specs s at r.value r.next.at
    there = taken specs s at m.passed m.here w says r e

    one_more : m.passed < length (rows_in specs s)
    one_more =
        let q = next_row specs s at m.passed m.here w says r e in
        omega (arith, ap length q.is, length-drop m.passed (rows_in specs s))

    pub filling-room : length (rows_in specs s) ≤ length d₀ → n < length d
    filling-room h = omega (arith, m.few, one_more, m.same-long)

    pub filling-place : at ≤ row_list_bytes
    filling-place = omega (arith, there.here, m.here.short)

    pub filling-side : InList row_list_bytes r.value.dst
    filling-side = go r.value.dst (next-destination specs s at m.passed m.here w says r e)
      where
        go : (side : Side) → InList (length s) side → InList row_list_bytes side
        go Absent i = tt
        go (Part a b) i = omega (arith, m.here.short)
        go Head i = i

    more : take (suc m.passed) (rows_in specs s) ≡ take m.passed (rows_in specs s) ++ (row_meant s r.value ∷ [])
    more =
        let q = next_row specs s at m.passed m.here w says r e in
        take-suc (rows_in specs s) m.passed (row_meant s r.value) (drop (m.passed + 1) (rows_in specs s)) q.is

    pub filling-more : length (rows_in specs s) ≤ length d₀ → (d' : List ℕ) (k : ℕ) → Stored d n at r.value.dst d' k → Filling specs s d₀ d' r.next.at k
    unfolding row_meant
    filling-more room d' k z = go r.value.dst refl z
      where
        h : n < length d
        h = filling-room room

        q : At specs s r.next.at (m.passed + 1)
        q = (next_row specs s at m.passed m.here w says r e).there

        kept : rows_at s (take n d) ++ cond (has_destination (row_meant s r.value)) (row_meant s r.value ∷ []) [] ≡ keep has_destination (take (m.passed + 1) (rows_in specs s))
        kept = rw (add-one, more, keep-put has_destination (row_meant s r.value) (take m.passed (rows_in specs s)), m.rows_are)

        put-there : take (n + 1) (set d n at) ≡ take n d ++ (at ∷ [])
        put-there = rw add-one (take-suc-set d n at h)

        go : (side : Side) → r.value.dst ≡ side → Stored d n at side d' k → Filling specs s d₀ d' r.next.at k
        go Absent f z =
            rw (z.0, z.1)
            (record {
              passed = m.passed + 1;
              here = q;
              some_left = omega (arith, one_more);
              few = omega (arith, m.few);
              same-long = m.same-long;
              rows_are = sym (append-none (rows_at s (take n d))) ∙ (rw f at kept);
              given = m.given;
              ascends = m.ascends;
              under = under_more at r.next.at (take n d) (omega (arith, there.on)) m.under;
            })
        go (Part a b) f z =
            rw (z.0, z.1)
            (record {
              passed = m.passed + 1;
              here = q;
              some_left = omega (arith, one_more);
              few = omega (arith, m.few);
              same-long = length-set d n at ∙ m.same-long;
              rows_are = let g : present (side_meant s r.value.dst) ≡ true = rw f in rw (put-there, map-put s at (take n d), row-there specs s at r.value r.next.at there) (rw g at kept);
              given = rw put-there (given-put s at (take n d) (rw (row-there specs s at r.value r.next.at there, f)) m.given);
              ascends = rw put-there (ascending-put at (take n d) m.under m.ascends);
              under = rw put-there (under-put at r.next.at (take n d) there.on m.under);
            })
        go Head f z = absurd z
