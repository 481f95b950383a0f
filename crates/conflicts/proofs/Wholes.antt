-- The conflicts of a row list are those of its sorted index, run by run. Assumes nothing.
use mathlib.Core.Path.{◌≡◌, refl, sym, ap, ap₂, subst, ◌∙◌}
use mathlib.Core.Bool.{Bool, true, false, cond}
use mathlib.Core.List.{List, [], ◌∷◌, ◌++◌, map}
use mathlib.Core.Logic.{◌↔◌}
use mathlib.Core.Option.{Option, none, some}
use Prim.Native.Nat.{ℕ, zero, suc, ◌+◌, ◌-◌, ◌*◌, ◌≤◌, ◌<◌}
use native.Mathlib.Omega.{arith}
use borrow.Author.Tests.{le-leb, lt-leb}
use borrow.Rule.Slice.PartMut.{put_mid, mid_len, put_same, drop_put, same_len_mid}
use lib.ListN.{length, get_or, take, drop, length-append}
use lib.Seq.{drop-drop}
use Rattle.meaning.specs.Bytes.{Text, keep, each, present, in_order}
use Rattle.meaning.specs.Limits.{row_list_bytes}
use Rattle.meaning.specs.Number.{number_bytes, text_bytes}
use Rattle.meaning.specs.Rows.{Row}
use Rattle.meaning.specs.Validation.{listed, destination_of, is_text, onto, rows_onto, in_conflict, Conflict, conflict_on, conflicts, source_bytes, conflict_bytes}
use Rattle.promises.proofs.Reading.{number-long}
use Rattle.buffer.specs.Splice.{splice}
use Rattle.buffer.proofs.Splices.{splice-none}
use Rattle.text.proofs.Rests.{rest-cons, rest_end}
use Rattle.buffer.proofs.Writing.{Writing, writing-starts, writing-room, writing_more, written-whole}
use Rattle.order.specs.Sorting.{insert_by, sort_by, Sorted, run_of, heads, Increasing}
use Rattle.keys.specs.Keys.{row_at, same_at, not_after, destination_key}
use Rattle.order.proofs.Sorts.{sorted_sort}
use Rattle.order.proofs.Keys.{keys-order}
use Rattle.order.proofs.Runs.{group-kept}
use Rattle.order.proofs.Heads.{ascending-keep}
use Rattle.row_list.specs.Lists.{rows_in}
use Rattle.conflicts.specs.ConflictBytes.{conflicts_bytes, put_if_room}
use Rattle.conflict.specs.Sizes.{conflict_row_most}
use Rattle.conflict.specs.Shared.{conflict_part}
use Rattle.conflict.specs.Shared.{rows_at, destination_at, OneRun, run_bytes}
use Rattle.conflicts.specs.Indexed.{has_destination, Given, SortedIndex}
use Rattle.conflict.proofs.Shares.{each_map}
use Rattle.conflicts.proofs.InOrder.{in_order_lem}
use Rattle.conflicts.proofs.Grouped.{part_by, walk, walk-run, onto-keep, onto-again, run-shares}

pub no_bytes : (t : Text) → length t ≡ 0 → t ≡ []
no_bytes [] e = refl
no_bytes (x ∷ t) e = absurd (omega arith)

each-kept : {A B C : Type 0} (test : A → Bool) (f : A → B) (g : B → List C) (l : List A) → each (map f (keep test l)) g ≡ each l (λ x. cond (test x) (g (f x)) [])
each-kept test f g [] = refl
each-kept test f g (x ∷ l) = go (test x) (each-kept test f g l)
  where
    go : (b : Bool) → each (map f (keep test l)) g ≡ each l (λ y. cond (test y) (g (f y)) []) → each (map f (cond b (x ∷ keep test l) (keep test l))) g ≡ cond b (g (f x)) [] ++ each l (λ y. cond (test y) (g (f y)) [])
    go true e = ap (λ k. g (f x) ++ k) e
    go false e = e

-- the bytes of the conflicts, destination by destination
conflicts-parts : (rows : List Row) → each (in_order (each rows destination_of)) (conflict_part rows) ≡ conflicts_bytes rows
unfolding conflicts_bytes conflicts conflict_part
conflicts-parts rows = sym (each-kept (in_conflict rows) (conflict_on rows) conflict_bytes (in_order (each rows destination_of)))

-- only rows with a destination matter

destinations-kept : (rows : List Row) → each (keep has_destination rows) destination_of ≡ each rows destination_of
unfolding destination_of
destinations-kept [] = refl
destinations-kept (r ∷ rows) = go r.destination refl (destinations-kept rows)
  where
    go : (o : Option Text) → r.destination ≡ o → each (keep has_destination rows) (λ q. listed q.destination) ≡ each rows (λ q. listed q.destination)
        → each (cond (present o) (r ∷ keep has_destination rows) (keep has_destination rows)) (λ q. listed q.destination) ≡ listed o ++ each rows (λ q. listed q.destination)
    go none f i = i
    go (some t) f i = rw f (ap (λ (k : List Text). t ∷ k) i)

onto-kept : (rows : List Row) (d : Text) → rows_onto (keep has_destination rows) d ≡ rows_onto rows d
unfolding onto
onto-kept [] d = refl
onto-kept (r ∷ rows) d = go r.destination refl (onto-kept rows d)
  where
    go : (o : Option Text) → r.destination ≡ o → keep (λ q. is_text d q.destination) (keep has_destination rows) ≡ keep (λ q. is_text d q.destination) rows
        → keep (λ q. is_text d q.destination) (cond (present o) (r ∷ keep has_destination rows) (keep has_destination rows)) ≡ cond (is_text d o) (r ∷ keep (λ q. is_text d q.destination) rows) (keep (λ q. is_text d q.destination) rows)
    go none f i = i
    go (some t) f i = rw (f, i)

destinations-at : (s : Text) (l : List ℕ) → Given s l → each (rows_at s l) destination_of ≡ map (destination_at s) l
unfolding destination_of destination_at
destinations-at s [] g = refl
destinations-at s (p ∷ l) g = go (row_at s p).destination refl g.0 (destinations-at s l g.1)
  where
    go : (o : Option Text) → (row_at s p).destination ≡ o → present (row_at s p).destination ≡ true → each (rows_at s l) (λ q. listed q.destination) ≡ map (destination_at s) l
        → listed (row_at s p).destination ++ each (rows_at s l) (λ q. listed q.destination) ≡ destination_at s p ∷ map (destination_at s) l
    go none f h i = absurd (let z : false ≡ true = rw f at h in let y : ◌≡◌ {A = ℕ} 0 1 = cc in omega arith)
    go (some t) f h i = rw (f, i)

given-insert : (s : Text) (le : ℕ → ℕ → Bool) (p : ℕ) (l : List ℕ) → has_destination (row_at s p) ≡ true → Given s l → Given s (insert_by le p l)
given-insert s le p [] h g = (h, tt)
given-insert s le p (q ∷ l) h g = go (le p q) (given-insert s le p l h g.1)
  where
    go : (b : Bool) → Given s (insert_by le p l) → Given s (cond b (p ∷ q ∷ l) (q ∷ insert_by le p l))
    go true i = (h, g)
    go false i = (g.0, i)

given-sort : (s : Text) (le : ℕ → ℕ → Bool) (l : List ℕ) → Given s l → Given s (sort_by le l)
given-sort s le [] g = tt
given-sort s le (p ∷ l) g = given-insert s le p (sort_by le l) g.0 (given-sort s le l g.1)

module _ (specs : ℕ) (s : Text) (d : List ℕ) (x : SortedIndex specs s d) where
  abbrev rows : List Row
  rows = rows_in specs s

  group : (p : ℕ) → keep (same_at destination_key s p) d ≡ keep (same_at destination_key s p) x.places
  group p = ap (keep (same_at destination_key s p)) x.sorted ∙ group-kept destination_key s x.places p

  rows_on : (p : ℕ) → rows_onto rows (destination_at s p) ≡ rows_at s (keep (same_at destination_key s p) d)
  rows_on p =
      sym (onto-kept rows (destination_at s p)) ∙ ap (λ (l : List Row). rows_onto l (destination_at s p)) (sym x.indexed.rows_are)
      ∙ onto-keep s p x.places x.indexed.given ∙ ap (rows_at s) (sym (group p))

  part-is : (p : ℕ) → conflict_part rows (destination_at s p) ≡ conflict_part (rows_at s (keep (same_at destination_key s p) d)) (destination_at s p)
  part-is p =
      part_by rows (rows_at s (keep (same_at destination_key s p) d)) (destination_at s p)
      (rows_on p ∙ ap (rows_at s) (group p) ∙ sym (onto-again s p x.places x.indexed.given) ∙ ap (λ (l : List ℕ). rows_onto (rows_at s l) (destination_at s p)) (sym (group p)))

  parts_are : (l : List ℕ) → each l (λ p. conflict_part rows (destination_at s p)) ≡ each l (λ p. conflict_part (rows_at s (keep (same_at destination_key s p) d)) (destination_at s p))
  parts_are [] = refl
  parts_are (p ∷ l) = rw (part-is p, parts_are l)

  -- the whole, destination by destination
  walk-whole : walk s d ≡ conflicts_bytes rows
  walk-whole =
      let e : each rows destination_of ≡ map (destination_at s) x.places = sym (destinations-kept rows) ∙ ap (λ (l : List Row). each l destination_of) (sym x.indexed.rows_are) ∙ destinations-at s x.places x.indexed.given in
      let o : in_order (each rows destination_of) ≡ map (destination_at s) (heads (same_at destination_key s) d) = ap in_order e ∙ in_order_lem s x.places ∙ ap (λ (l : List ℕ). map (destination_at s) (heads (same_at destination_key s) l)) (sym x.sorted) in
      sym (parts_are (heads (same_at destination_key s) d)) ∙ sym (each_map (destination_at s) (conflict_part rows) (heads (same_at destination_key s) d)) ∙ ap (λ (l : List Text). each l (conflict_part rows)) (sym o) ∙ conflicts-parts rows

  index-sorted : Sorted (not_after destination_key s) d
  index-sorted = rw x.sorted (sorted_sort (not_after destination_key s) (keys-order destination_key s) x.places)

  index-grouped : (p : ℕ) → Increasing (keep (same_at destination_key s p) d)
  index-grouped p = rw (group p) (ascending-keep (same_at destination_key s p) x.places x.indexed.ascends)

  index-given : Given s d
  index-given = rw x.sorted (given-sort s (not_after destination_key s) x.places x.indexed.given)

-- what is left of an index

sorted-drop : (le : ℕ → ℕ → Bool) (i : ℕ) (l : List ℕ) → Sorted le l → Sorted le (drop i l)
sorted-drop le zero l o = o
sorted-drop le (suc i) [] o = o
sorted-drop le (suc i) (x ∷ l) o = sorted-drop le i l o.1

given-drop : (s : Text) (i : ℕ) (l : List ℕ) → Given s l → Given s (drop i l)
given-drop s zero l g = g
given-drop s (suc i) [] g = g
given-drop s (suc i) (x ∷ l) g = given-drop s i l g.1

grouped-drop : (test : ℕ → Bool) (i : ℕ) (l : List ℕ) → Increasing (keep test l) → Increasing (keep test (drop i l))
grouped-drop test zero l a = a
grouped-drop test (suc i) [] a = a
grouped-drop test (suc i) (x ∷ l) a = grouped-drop test i l (go (test x) a)
  where
    go : (b : Bool) → Increasing (cond b (x ∷ keep test l) (keep test l)) → Increasing (keep test l)
    go true c = c.1
    go false c = c

-- the index from a position on, where a run begins
pub record Here (s : Text) (d : List ℕ) (i : ℕ) : Type 0 where
  pub within : i ≤ length d
  pub sorted : Sorted (not_after destination_key s) (drop i d)
  pub given : Given s (drop i d)
  pub grouped : (p : ℕ) → Increasing (keep (same_at destination_key s p) (drop i d))

here-starts : (specs : ℕ) (s : Text) (d : List ℕ) → SortedIndex specs s d → Here s d 0
here-starts specs s d x = record { within = omega arith; sorted = index-sorted specs s d x; given = index-given specs s d x; grouped = index-grouped specs s d x }

module _ (s : Text) (d : List ℕ) (i : ℕ) (h : Here s d i) (some : i < length d) (end : ℕ) (run : end ≡ i + run_of (same_at destination_key s (get_or d i 0)) (drop i d)) (begun : i < end) (room : end ≤ length d) where
  abbrev first : ℕ
  first = get_or d i 0

  abbrev size : ℕ
  size = run_of (same_at destination_key s first) (first ∷ drop (i + 1) d)

  abbrev rest : List ℕ
  rest = first ∷ drop (i + 1) d

  left : drop i d ≡ rest
  left = rest-cons d i some

  size_is : end - i ≡ size
  size_is = omega (arith, ap (run_of (same_at destination_key s first)) left)

  after_is : drop size rest ≡ drop end d
  after_is =
      let e : i + size ≡ end = omega (arith, size_is) in
      ap (drop size) (sym left) ∙ drop-drop size i d ∙ ap (λ (n : ℕ). drop n d) e

  run_is : take (end - i) (drop i d) ≡ take size rest
  run_is = ap (λ (n : ℕ). take n (drop i d)) size_is ∙ ap (take size) left

  rest_sorted : Sorted (not_after destination_key s) rest
  rest_sorted = subst (Sorted (not_after destination_key s)) left h.sorted

  rest-given : Given s rest
  rest-given = subst (Given s) left h.given

  rest-grouped : (p : ℕ) → Increasing (keep (same_at destination_key s p) rest)
  rest-grouped p = subst (λ (l : List ℕ). Increasing (keep (same_at destination_key s p) l)) left (h.grouped p)

  pub run-one : OneRun s (take (end - i) (drop i d))
  run-one = subst (OneRun s) (sym run_is) (run-shares s first (drop (i + 1) d) rest_sorted rest-given (rest-grouped first))

  pub run_long : length (take (end - i) (drop i d)) ≡ end - i
  run_long = mid_len i end d room

  pub run-some : 0 < length (take (end - i) (drop i d))
  run-some = omega (arith, run_long)

  pub run_small : length d ≤ row_list_bytes → length (take (end - i) (drop i d)) ≤ row_list_bytes
  run_small k = omega (arith, run_long)

  pub run_room : (n : ℕ) → length d ≤ 2 * n + 1 → length (take (end - i) (drop i d)) ≤ 2 * n + 1
  run_room n k = omega (arith, run_long)

  walk-on : walk s (drop i d) ≡ run_bytes s (take (end - i) (drop i d)) ++ walk s (drop end d)
  walk-on = ap (walk s) left ∙ walk-run s first (drop (i + 1) d) rest_sorted ∙ ap₂ (λ (x y : List ℕ). run_bytes s x ++ walk s y) (sym run_is) after_is

  module _ (ys : List ℕ) (same : length ys ≡ length (take (end - i) (drop i d))) where
    abbrev back : List ℕ
    back = put_mid i (end - i) d ys

    back-drop : drop end back ≡ drop end d
    back-drop = drop_put i end d ys (omega arith) room (same ∙ run_long)

    back_long : length back ≡ length d
    back_long = same_len_mid i (end - i) d ys same

    there : drop size rest ≡ drop end back
    there = after_is ∙ sym back-drop

    here-next : Here s back end
    here-next =
        record {
          within = omega (arith, back_long);
          sorted = subst (Sorted (not_after destination_key s)) there (sorted-drop (not_after destination_key s) size rest rest_sorted);
          given = subst (Given s) there (given-drop s size rest rest-given);
          grouped = λ p. subst (λ (l : List ℕ). Increasing (keep (same_at destination_key s p) l)) there (grouped-drop (same_at destination_key s p) size rest (rest-grouped p));
        }

-- the runs before a position are measured
pub record Walking (specs : ℕ) (s : Text) (d₀ d : List ℕ) (i size : ℕ) : Type 0 where
  pub at : Here s d i
  pub as-was : d ≡ d₀
  pub same-long : length d ≡ length d₀
  pub measured : size + length (walk s (drop i d)) ≡ length (conflicts_bytes (rows_in specs s))
  pub small : size ≤ i * conflict_row_most

pub walking-starts : (specs : ℕ) (s : Text) (d : List ℕ) → SortedIndex specs s d → Walking specs s d d 0 0
walking-starts specs s d x = record { at = here-starts specs s d x; as-was = refl; same-long = refl; measured = omega (arith, ap length (walk-whole specs s d x)); small = omega arith }

module _ (specs : ℕ) (s : Text) (d₀ d : List ℕ) (i size : ℕ) (m : Walking specs s d₀ d i size) where
  module _ (some : i < length d) (end : ℕ) (run : end ≡ i + run_of (same_at destination_key s (get_or d i 0)) (drop i d)) (begun : i < end) (room : end ≤ length d) (n : ℕ) (few : n ≤ length (take (end - i) (drop i d)) * conflict_row_most) where
    pub walking-more : n ≡ length (run_bytes s (take (end - i) (drop i d))) → (ys : List ℕ) → ys ≡ take (end - i) (drop i d) → Walking specs s d₀ (put_mid i (end - i) d ys) end (size + n)
    walking-more e ys kept =
        let same : length ys ≡ length (take (end - i) (drop i d)) = ap length kept in
        record {
          at = here-next s d i m.at some end run begun room ys same;
          as-was = rw (kept, put_same i (end - i) d) m.as-was;
          same-long = back_long s d i m.at some end run begun room ys same ∙ m.same-long;
          measured =
              let w = walk-on s d i m.at some end run begun room in
              let b = back-drop s d i m.at some end run begun room ys same in
              omega (arith, m.measured, ap length w, length-append (run_bytes s (take (end - i) (drop i d))) (walk s (drop end d)), ap (λ (l : List ℕ). length (walk s l)) b);
          small = omega (arith, m.small, mid_len i end d room);
        }

-- the runs before a position are written
pub record Putting (specs : ℕ) (s : Text) (d₀ d : List ℕ) (i : ℕ) (buffer out : Text) (to : ℕ) : Type 0 where
  pub at : Here s d i
  pub same-long : length d ≡ length d₀
  pub writing : Writing buffer 0 (conflicts_bytes (rows_in specs s)) out to (walk s (drop i d))

pub putting-starts : (specs : ℕ) (s : Text) (d : List ℕ) → SortedIndex specs s d → (buffer : Text) → length (conflicts_bytes (rows_in specs s)) ≤ length buffer → Putting specs s d d 0 buffer buffer 0
putting-starts specs s d x buffer h =
    record { at = here-starts specs s d x; same-long = refl; writing = rw (walk-whole specs s d x) (writing-starts buffer 0 (conflicts_bytes (rows_in specs s)) (omega arith)) }

module _ (specs : ℕ) (s : Text) (d₀ d : List ℕ) (i : ℕ) (buffer out : Text) (to : ℕ) (k : Putting specs s d₀ d i buffer out to) where
  pub putting-done : length d ≤ i → out ≡ splice buffer 0 (conflicts_bytes (rows_in specs s))
  putting-done h = written-whole buffer 0 (conflicts_bytes (rows_in specs s)) out to (walk s (drop i d)) k.writing (ap (walk s) (rest_end d i h))

  module _ (some : i < length d) (end : ℕ) (run : end ≡ i + run_of (same_at destination_key s (get_or d i 0)) (drop i d)) (begun : i < end) (room : end ≤ length d) where
    pub putting-room : to + length (run_bytes s (take (end - i) (drop i d))) ≤ length out
    putting-room =
        writing-room buffer 0 (conflicts_bytes (rows_in specs s)) out to (walk s (drop i d)) k.writing (run_bytes s (take (end - i) (drop i d))) (walk s (drop end d)) (walk-on s d i k.at some end run begun room)

    pub putting-more : (new : Text) (stop : ℕ) → new ≡ splice out to (run_bytes s (take (end - i) (drop i d))) → stop ≡ to + length (run_bytes s (take (end - i) (drop i d)))
        → (ys : List ℕ) → length ys ≡ length (take (end - i) (drop i d)) → Putting specs s d₀ (put_mid i (end - i) d ys) end buffer new stop
    putting-more new stop p q ys same =
        record {
          at = here-next s d i k.at some end run begun room ys same;
          same-long = back_long s d i k.at some end run begun room ys same ∙ k.same-long;
          writing =
              rw (back-drop s d i k.at some end run begun room ys same)
              (writing_more buffer 0 (conflicts_bytes (rows_in specs s)) out to (walk s (drop i d)) k.writing (run_bytes s (take (end - i) (drop i d))) (walk s (drop end d)) (walk-on s d i k.at some end run begun room) new stop p q);
        }

-- `put_if_room`: the conflicts of a sorted index, measured and then written

module _ (rows : List Row) (size : ℕ) (es : size ≡ length (conflicts_bytes rows)) (d : Text) where
  pub none-put : size ≡ 0 → d ≡ put_if_room d (conflicts_bytes rows)
  unfolding put_if_room
  none-put z =
      let n : conflicts_bytes rows ≡ [] = no_bytes (conflicts_bytes rows) (sym es ∙ z) in
      rw (n, le-leb 0 (length d) (omega arith)) (sym (splice-none d 0))

  pub none-size : size ≡ 0 → 0 ≡ length (conflicts_bytes rows)
  none-size z = sym z ∙ es

  pub short-left : length d < size → d ≡ put_if_room d (conflicts_bytes rows)
  unfolding put_if_room
  short-left h = rw (lt-leb (length (conflicts_bytes rows)) (length d) (rw (← es) h))

  pub whole-put : size ≤ length d → (o : Text) → o ≡ splice d 0 (conflicts_bytes rows) → o ≡ put_if_room d (conflicts_bytes rows)
  unfolding put_if_room
  whole-put h o e = rw (le-leb (length (conflicts_bytes rows)) (length d) (rw (← es) h)) e

-- there are bytes exactly where there are conflicts

conflict-long : (c : Conflict) → 0 < length (conflict_bytes c)
unfolding conflict_bytes text_bytes
conflict-long c =
    let d = number_bytes (length c.destination) ++ c.destination in
    let l = number_bytes (length c.sources) ++ each c.sources source_bytes in
    omega (arith, length-append d l, length-append (number_bytes (length c.destination)) c.destination, number-long (length c.destination))

each_none : (l : List Conflict) → each l conflict_bytes ≡ [] → l ≡ []
each_none [] e = refl
each_none (c ∷ l) e = absurd (omega (arith, ap length e, length-append (conflict_bytes c) (each l conflict_bytes), conflict-long c))

pub bytes-exactly : (rows : List Row) → (conflicts_bytes rows ≡ []) ↔ (conflicts rows ≡ [])
unfolding conflicts_bytes
bytes-exactly rows = ((λ e. each_none (conflicts rows) e), (λ e. rw e))
