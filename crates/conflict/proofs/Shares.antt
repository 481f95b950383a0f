-- The conflict of rows that share a destination, from the first row of each source. Assumes nothing.
use mathlib.Core.Path.{◌≡◌, refl, sym, ap, ◌∙◌}
use mathlib.Core.Bool.{Bool, true, false, cond}
use mathlib.Core.List.{List, [], ◌∷◌, ◌++◌, map, append-nil, append_assoc}
use Prim.Native.Nat.{ℕ, suc, ◌+◌, ◌*◌, ◌≤◌, ◌<◌}
use native.Mathlib.Nat.{add-zero}
use native.Mathlib.Omega.{arith}
use mir.Val.{Fits}
use mir.Syntax.{w64}
use lib.ListN.{length, get_or, take, drop, length-append, length-map}
use lib.Seq.{length-take-le}
use Rattle.meaning.specs.Bytes.{Text, any, keep, each, In, here, there}
use Rattle.meaning.specs.Limits.{row_list_bytes}
use Rattle.meaning.specs.Number.{number_bytes, text_bytes}
use Rattle.meaning.specs.Rows.{Row, read_front}
use Rattle.meaning.specs.Validation.{differ, rows_onto, two_differ, in_conflict, first_seen, row_source, conflict_on, source_bytes, conflict_bytes}
use Rattle.promises.proofs.Laws.{in-any, keep-in}
use Rattle.promises.proofs.Conflicts.{found-two}
use Rattle.promises.proofs.Sources.{seen-in, two-listed}
use Rattle.buffer.specs.Splice.{splice}
use Rattle.buffer.proofs.Splices.{splice-none}
use Rattle.buffer.proofs.Writing.{Writing, writing-starts, writing-room, writing_more, written-place, written-whole}
use Rattle.number.proofs.Bytes.{bytes-few}
use Rattle.parse.specs.Places.{part_at}
use Rattle.list.specs.declared.stretch.Stretch.{Stretch}
use Rattle.row_fields.specs.Stages.{destination_in, StretchSpells}
use Rattle.order.specs.Sorting.{firsts_by}
use Rattle.keys.specs.Keys.{row_at, same_at, source_key}
use Rattle.keys.proofs.Rows.{destination-there}
use Rattle.conflict.specs.Sizes.{conflict_destination_most, conflict_source_most, conflict_row_most}
use Rattle.conflict.specs.Shared.{conflict_part}
use Rattle.conflict.specs.FirstSeen.{sources_on, sources_bytes, listed_bytes}
use Rattle.conflict.specs.Shared.{rows_at, destination_at, OneRun, run_bytes, head_at, listed_at, sources_at, firsts_at}
use Rattle.conflict.proofs.Pieces.{text-long}

-- a destination is in conflict exactly where it has two sources at least

first_two : (l : List Row) → 2 ≤ length (first_seen l) → two_differ l ≡ true
first_two [] h = absurd (omega arith)
first_two (r ∷ l) h = go (keep (differ r) (first_seen l)) refl h
  where
    go : (k : List Row) → keep (differ r) (first_seen l) ≡ k → 2 ≤ suc (length k) → two_differ (r ∷ l) ≡ true
    go [] e g = absurd (omega arith)
    go (q ∷ k) e g =
        let i : In q (keep (differ r) (first_seen l)) = rw e here in
        let m = keep-in (differ r) (first_seen l) i in
        let j : In q (r ∷ l) = there (seen-in l m.0) in
        let f : In r (r ∷ l) = here in
        in-any (λ x. any (differ x) (r ∷ l)) f (in-any (differ r) j m.1)

pub each_map : {A B C : Type 0} (f : A → B) (g : B → List C) (l : List A) → each (map f l) g ≡ each l (λ x. g (f x))
each_map f g [] = refl
each_map f g (x ∷ l) = ap (λ k. g (f x) ++ k) (each_map f g l)

module _ (rows : List Row) (d : Text) where
  two_is : 2 ≤ length (sources_on rows d) → in_conflict rows d ≡ true
  unfolding in_conflict sources_on
  two_is h = first_two (rows_onto rows d) h

  one-is : length (sources_on rows d) < 2 → in_conflict rows d ≡ false
  unfolding sources_on
  one-is h = go (in_conflict rows d) refl
    where
      go : (b : Bool) → in_conflict rows d ≡ b → b ≡ false
      go true e = let t = two-listed rows d (found-two rows d e) in absurd (omega (arith, length-map (sources_on rows d) row_source))
      go false e = refl

  part_none : length (sources_on rows d) < 2 → conflict_part rows d ≡ []
  unfolding conflict_part
  part_none h = rw (one-is h)

  part-pieces : 2 ≤ length (sources_on rows d) → conflict_part rows d ≡ listed_bytes d (sources_on rows d)
  unfolding conflict_part conflict_on conflict_bytes sources_on listed_bytes
  part-pieces h = rw (two_is h, length-map (sources_on rows d) row_source, each_map row_source source_bytes (sources_on rows d))

-- rows at places

pub keep-rows : (s : Text) (test : Row → Bool) (l : List ℕ) → rows_at s (keep (λ p. test (row_at s p)) l) ≡ keep test (rows_at s l)
keep-rows s test [] = refl
keep-rows s test (p ∷ l) = go (test (row_at s p)) (keep-rows s test l)
  where
    go : (b : Bool) → rows_at s (keep (λ p. test (row_at s p)) l) ≡ keep test (rows_at s l) → rows_at s (cond b (p ∷ keep (λ p. test (row_at s p)) l) (keep (λ p. test (row_at s p)) l)) ≡ cond b (row_at s p ∷ keep test (rows_at s l)) (keep test (rows_at s l))
    go true e = ap (λ k. row_at s p ∷ k) e
    go false e = e

-- the first place of each source is that of a row that is first seen
firsts_rows : (s : Text) (l : List ℕ) → rows_at s (firsts_by (same_at source_key s) l) ≡ first_seen (rows_at s l)
unfolding differ
firsts_rows s [] = refl
firsts_rows s (p ∷ l) = ap (λ k. row_at s p ∷ k) (keep-rows s (differ (row_at s p)) (firsts_by (same_at source_key s) l) ∙ ap (keep (differ (row_at s p))) (firsts_rows s l))

pub firsts-first : (s : Text) (l : List ℕ) → get_or (firsts_by (same_at source_key s) l) 0 0 ≡ get_or l 0 0
firsts-first s [] = refl
firsts-first s (p ∷ l) = refl

module _ (s : Text) (l : List ℕ) (run : OneRun s l) where
  abbrev dst : Text
  dst = destination_at s (get_or l 0 0)

  sources-are : sources_on (rows_at s l) dst ≡ first_seen (rows_at s l)
  unfolding sources_on
  sources-are = ap first_seen run.shared

  single : length l < 2 → length (first_seen (rows_at s l)) < 2
  single h = go l h
    where
      go : (l : List ℕ) → length l < 2 → length (first_seen (rows_at s l)) < 2
      go [] h = omega arith
      go (p ∷ []) h = omega arith
      go (p ∷ q ∷ l) h = absurd (omega arith)

  short_none : length l < 2 → run_bytes s l ≡ []
  unfolding run_bytes
  short_none h = part_none (rows_at s l) dst (rw sources-are (single h))

  pub short-size : length l < 2 → 0 ≡ length (run_bytes s l)
  short-size h = rw (short_none h)

  pub short-put : length l < 2 → (o : Text) (to : ℕ) → o ≡ splice o to (run_bytes s l)
  short-put h o to = rw (short_none h) (sym (splice-none o to))

  pub short-after : length l < 2 → (to : ℕ) → to ≡ to + length (run_bytes s l)
  short-after h to = rw (short_none h) (sym (add-zero to))

  module _ (n : ℕ) (e : List ℕ) (long : length e ≡ length l) (few : n ≤ length l) (firsts : take n e ≡ firsts_by (same_at source_key s) l) where
    rows_are : rows_at s (take n e) ≡ sources_on (rows_at s l) dst
    rows_are = ap (rows_at s) firsts ∙ firsts_rows s l ∙ sym sources-are

    counted : n ≡ length (sources_on (rows_at s l) dst)
    counted = omega (arith, length-take-le n e (rw long few), length-map (take n e) (row_at s), ap length rows_are)

    one_none : n < 2 → run_bytes s l ≡ []
    unfolding run_bytes
    one_none h = part_none (rows_at s l) dst (omega (arith, counted))

    pub one_size : n < 2 → 0 ≡ length (run_bytes s l)
    one_size h = rw (one_none h)

    pub one-put : n < 2 → (o : Text) (to : ℕ) → o ≡ splice o to (run_bytes s l)
    one-put h o to = rw (one_none h) (sym (splice-none o to))

    pub one-after : n < 2 → (to : ℕ) → to ≡ to + length (run_bytes s l)
    one-after h to = rw (one_none h) (sym (add-zero to))

    pub firsts-count : n ≡ length (take n e)
    firsts-count = sym (length-take-le n e (rw long few))

    pub firsts-some : 2 ≤ n → 0 < length (take n e)
    firsts-some h = omega (arith, firsts-count)

    pub firsts-short : length l ≤ row_list_bytes → length (take n e) ≤ row_list_bytes
    firsts-short h = omega (arith, firsts-count)

    whole : 2 ≤ n → run_bytes s l ≡ listed_at s (take n e)
    unfolding run_bytes listed_at
    whole h = part-pieces (rows_at s l) dst (omega (arith, counted)) ∙ rw (rows_are, firsts, firsts-first s l)

    module _ (two : 2 ≤ n) where
      pub two_size : (k : ℕ) → k ≡ length (listed_at s (take n e)) → k ≡ length (run_bytes s l)
      two_size k h = rw (whole two) h

      pub two-small : (k : ℕ) → k ≤ length (take n e) * conflict_row_most → k ≤ length l * conflict_row_most
      two-small k h = omega (arith, firsts-count)

      module _ (o : Text) (to : ℕ) where
        pub two-room : to + length (run_bytes s l) ≤ length o → to + length (listed_at s (take n e)) ≤ length o
        two-room h = rw (whole two) at h

        pub two-put : (q : Text) → q ≡ splice o to (listed_at s (take n e)) → q ≡ splice o to (run_bytes s l)
        two-put q h = rw (whole two) h

        pub two-after : (k : ℕ) → k ≡ to + length (listed_at s (take n e)) → k ≡ to + length (run_bytes s l)
        two-after k h = rw (whole two) h

-- `counted_size`: so many rows are the first of their source, and the sources take so many bytes
module _ (s : Text) (l : List ℕ) (run : OneRun s l) (count : ℕ) (ec : count ≡ length (firsts_at s l)) where
  seen : count ≡ length (sources_on (rows_at s l) (destination_at s (get_or l 0 0)))
  seen = ec ∙ sym (length-map (firsts_at s l) (row_at s)) ∙ ap length (firsts_rows s l ∙ sym (sources-are s l run))

  pub few-none : count < 2 → 0 ≡ length (run_bytes s l)
  unfolding run_bytes
  few-none h = rw (part_none (rows_at s l) (destination_at s (get_or l 0 0)) (omega (arith, seen)))

  listed : 2 ≤ count → run_bytes s l ≡ listed_at s (firsts_at s l)
  unfolding run_bytes listed_at
  listed h = part-pieces (rows_at s l) (destination_at s (get_or l 0 0)) (omega (arith, seen)) ∙ rw (sources-are s l run, ← firsts_rows s l, firsts-first s l)

-- the destination of the row at a place, by its own place
module _ (s : Text) (p : ℕ) (f : Stretch) (w : StretchSpells s (destination_in (read_front (drop p s))) f) where
  destination-is : destination_at s p ≡ part_at s f.at f.len
  unfolding destination_at
  destination-is = sym (w.is ∙ destination-there s p)

  module _ (short : length s ≤ row_list_bytes) (x : ℕ) (ex : x ≡ length (number_bytes f.len)) where
    pub destination-fits : Fits w64 (x + f.len)
    destination-fits = omega (arith, bytes-few f.len, w.within)

    pub destination-small : x + f.len ≤ conflict_destination_most
    destination-small = omega (arith, bytes-few f.len, w.within)

    pub destination-size : x + f.len ≡ length (text_bytes (destination_at s p))
    destination-size = rw destination-is (text-long s f.at f.len w.within x ex)

  module _ (o : Text) (to : ℕ) where
    pub destination-room : to + length (text_bytes (destination_at s p)) ≤ length o → to + length (text_bytes (part_at s f.at f.len)) ≤ length o
    destination-room h = rw destination-is at h

    pub destination-put : (q : Text) → q ≡ splice o to (text_bytes (part_at s f.at f.len)) → q ≡ splice o to (text_bytes (destination_at s p))
    destination-put q h = rw destination-is h

    pub destination-after : (k : ℕ) → k ≡ to + length (text_bytes (part_at s f.at f.len)) → k ≡ to + length (text_bytes (destination_at s p))
    destination-after k h = rw destination-is h

-- the sizes of a destination, of a number and of the sources of at most k rows
module _ (x y n : ℕ) (small-x : x ≤ conflict_destination_most) (ey : y ≡ length (number_bytes n)) where
  pub size-two : Fits w64 (x + y)
  size-two = omega (arith, bytes-few n)

  module _ (z k : ℕ) (small : z ≤ k * conflict_source_most) where
    pub size-three : k ≤ row_list_bytes → Fits w64 (x + y + z)
    size-three h = omega (arith, bytes-few n)

    pub size_small : 0 < k → x + y + z ≤ k * conflict_row_most
    size_small h = omega (arith, bytes-few n)

-- a destination with its rows
module _ (s : Text) (l : List ℕ) (p : ℕ) (ep : p ≡ get_or l 0 0) where
  abbrev text : Text
  text = text_bytes (destination_at s p)

  listed-pieces : listed_at s l ≡ text ++ (number_bytes (length l) ++ sources_at s l)
  unfolding listed_at listed_bytes sources_at
  listed-pieces = rw (← ep, length-map l (row_at s))

  pub size-whole : (x y z : ℕ) → x ≡ length (text_bytes (destination_at s p)) → y ≡ length (number_bytes (length l)) → z ≡ length (sources_at s l) → x + y + z ≡ length (listed_at s l)
  size-whole x y z ex ey ez = omega (arith, ap length listed-pieces, length-append text (number_bytes (length l) ++ sources_at s l), length-append (number_bytes (length l)) (sources_at s l))

  head-pieces : head_at s l ≡ text ++ number_bytes (length l)
  unfolding head_at
  head-pieces = rw ep

  module _ (o : Text) (end : ℕ) (fits : end + length (head_at s l) ≤ length o) where
    abbrev head : Text
    head = head_at s l

    start : Writing o end head o end head
    start = writing-starts o end head fits

    pub first-room : end + length (text_bytes (destination_at s p)) ≤ length o
    first-room = writing-room o end head o end head start text (number_bytes (length l)) head-pieces

    module _ (o₁ : Text) (i : ℕ) (p₁ : o₁ ≡ splice o end (text_bytes (destination_at s p))) (e₁ : i ≡ end + length (text_bytes (destination_at s p))) where
      first : Writing o end head o₁ i (number_bytes (length l))
      first = writing_more o end head o end head start text (number_bytes (length l)) head-pieces o₁ i p₁ e₁

      pub count_room : i + length (number_bytes (length l)) ≤ length o₁
      count_room = writing-room o end head o₁ i (number_bytes (length l)) first (number_bytes (length l)) [] (sym (append-nil (number_bytes (length l))))

      module _ (o₂ : Text) (j : ℕ) (p₂ : o₂ ≡ splice o₁ i (number_bytes (length l))) (e₂ : j ≡ i + length (number_bytes (length l))) where
        second : Writing o end head o₂ j []
        second = writing_more o end head o₁ i (number_bytes (length l)) first (number_bytes (length l)) [] (sym (append-nil (number_bytes (length l)))) o₂ j p₂ e₂

        pub head-put : o₂ ≡ splice o end (head_at s l)
        head-put = written-whole o end head o₂ j [] second refl

        pub head-after : j ≡ end + length (head_at s l)
        head-after = written-place o end head o₂ j [] second refl

-- `counted_size`: the destination, how many sources, and the sources
pub counted-whole : (s : Text) (l : List ℕ) → OneRun s l → (count : ℕ) → count ≡ length (firsts_at s l) → (p : ℕ) → p ≡ get_or l 0 0 → (x y z : ℕ) → 2 ≤ count → x ≡ length (text_bytes (destination_at s p)) → y ≡ length (number_bytes count) → z ≡ length (sources_at s (firsts_at s l)) → x + y + z ≡ length (run_bytes s l)
counted-whole s l run count ec p ep x y z h ex ey ez = size-whole s (firsts_at s l) p (ep ∙ sym (firsts-first s l)) x y z ex (rw (← ec) ey) ez ∙ ap length (sym (listed s l run count ec h))

-- the head, then the sources
module _ (s : Text) (l : List ℕ) (o : Text) (end : ℕ) (fits : end + length (listed_at s l) ≤ length o) where
  abbrev all : Text
  all = listed_at s l

  all-pieces : listed_at s l ≡ head_at s l ++ sources_at s l
  unfolding listed_at listed_bytes head_at sources_at
  all-pieces = rw (length-map l (row_at s)) (sym (append_assoc (text_bytes (destination_at s (get_or l 0 0))) (number_bytes (length l)) (sources_bytes (rows_at s l))))

  begun : Writing o end all o end all
  begun = writing-starts o end all fits

  pub head-room : end + length (head_at s l) ≤ length o
  head-room = writing-room o end all o end all begun (head_at s l) (sources_at s l) all-pieces

  module _ (o₁ : Text) (i : ℕ) (p₁ : o₁ ≡ splice o end (head_at s l)) (e₁ : i ≡ end + length (head_at s l)) where
    headed : Writing o end all o₁ i (sources_at s l)
    headed = writing_more o end all o end all begun (head_at s l) (sources_at s l) all-pieces o₁ i p₁ e₁

    pub sources-room : i + length (sources_at s l) ≤ length o₁
    sources-room = writing-room o end all o₁ i (sources_at s l) headed (sources_at s l) [] (sym (append-nil (sources_at s l)))

    module _ (o₂ : Text) (j : ℕ) (p₂ : o₂ ≡ splice o₁ i (sources_at s l)) (e₂ : j ≡ i + length (sources_at s l)) where
      finished : Writing o end all o₂ j []
      finished = writing_more o end all o₁ i (sources_at s l) headed (sources_at s l) [] (sym (append-nil (sources_at s l))) o₂ j p₂ e₂

      pub listed-put : o₂ ≡ splice o end (listed_at s l)
      listed-put = written-whole o end all o₂ j [] finished refl

      pub listed-after : j ≡ end + length (listed_at s l)
      listed-after = written-place o end all o₂ j [] finished refl
