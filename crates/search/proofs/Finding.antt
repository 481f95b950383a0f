-- The loops of the search: what was found, and what the names and the specs that are left give, make the whole. Assumes nothing.
use mathlib.Core.Path.{◌≡◌, refl, ap, ◌∙◌}
use mathlib.Core.Bool.{Bool, true, false}
use mathlib.Core.List.{List, []}
use Prim.Native.Nat.{ℕ, ◌+◌, ◌-◌, ◌*◌, ◌≤◌, ◌<◌}
use native.Mathlib.Omega.{arith}
use mir.Val.{Fits}
use mir.Syntax.{w64}
use lib.ListN.{length, get_or}
use Rattle.meaning.specs.Bytes.{Text}
use Rattle.meaning.specs.Limits.{name_bytes, item_count, spec_count}
use Rattle.meaning.specs.Spec.{Spec}
use Rattle.parse.specs.Places.{part_at}
use Rattle.parse.proofs.Parts.{part_length}
use Rattle.matcher.specs.declared.types.Matcher.{Matcher}
use Rattle.matcher_table.specs.Numbers.{matcher_numbers, matcher_at}
use Rattle.filter.specs.declared.Filter.{Filter}
use Rattle.filter.specs.Filters.{passes, name_at, next_passing, forward_filter, reverse_filter}
use Rattle.filter.proofs.Filters.{forward-stops, reverse-stops}
use Rattle.filter.proofs.Looks.{First, next-first, none_passes}
use Rattle.row.specs.Rows.{row_most}
use Rattle.match_row.specs.Pairs.{matcher_spec, item_bytes, object_bytes}
use Rattle.match_row.specs.Asking.{MatcherReady}
use Rattle.search.specs.Hits.{across, spec_at, pair_gives, names_give, spec_gives, hit_stride, hit_of, hit_most, hit_if, pair_hits, names_hits, spec_hits}
use Rattle.search.specs.Noting.{spec_most, group_most, objects_most, PlacesIn, TableReady, Stops, Adds}
use Rattle.search.proofs.Across.{across-next, across-none, across-jump}
use Rattle.search.proofs.Counting.{Counted, counted-starts, counted-more, counted-on, counted-whole}
use Rattle.search.proofs.Notes.{Noting, noting-starts, noting-more, noting-on, noting-done}

-- ---- places and matchers that are there

module _ (items : Text) (places : List ℕ) (n : ℕ) (p : PlacesIn items places n) where
  pub places-room : 2 * n ≤ length places
  places-room = p.room

  pub places-within : (k : ℕ) → k < n → get_or places (2 * k) 0 + get_or places (2 * k + 1) 0 ≤ length items
  places-within = p.within

  module _ (j : ℕ) (h : j < n) where
    pub place-first : 2 * j < length places
    place-first = omega (arith, p.room)

    pub place-second : 2 * j + 1 < length places
    place-second = omega (arith, p.room)

    pub place_inside : (a b : ℕ) → a ≡ get_or places (2 * j) 0 → b ≡ get_or places (2 * j + 1) 0 → a + b ≤ length items
    place_inside a b e f = rw (e, f) (p.within j h)

    pub place-few : j < item_count
    place-few = omega (arith, p.few)

    name-short : length (name_at items places j) ≤ name_bytes
    name-short = omega (arith, part_length items (get_or places (2 * j) 0) (get_or places (2 * j + 1) 0) (p.within j h), p.short j h)

    pub place-name : (t : Text) (a b : ℕ) → a ≡ get_or places (2 * j) 0 → b ≡ get_or places (2 * j + 1) 0 → t ≡ part_at items a b → t ≡ name_at items places j
    place-name t a b e f g = rw (e, f) at g

    pub place_short : (t : Text) (a b : ℕ) → a ≡ get_or places (2 * j) 0 → b ≡ get_or places (2 * j + 1) 0 → t ≡ part_at items a b → length t ≤ name_bytes
    place_short t a b e f g = rw (place-name t a b e f g) name-short

module _ (specs : Text) (table : List ℕ) (group : ℕ) (t : TableReady specs table group) (i : ℕ) (h : i < group) where
  pub matcher-room : matcher_numbers * i + matcher_numbers ≤ length table
  matcher-room = omega (arith, t.few, t.room)

  pub matcher-ready : (m : Matcher) → m ≡ matcher_at table i → MatcherReady specs m
  matcher-ready m e = rw e (t.ready i h)

  pub spec-few : i ≤ spec_count
  spec-few = omega (arith, t.few)

-- ---- a filter

module _ (specs : Text) (m : Matcher) (f : Filter) (r : MatcherReady specs m) where
  pub stops-back : f ≡ reverse_filter specs m → Stops true specs m f
  stops-back q =
      let h = reverse-stops specs m r.matches.within in
      rw q (record { stops = λ name l p. h.stops name l p (matcher_spec specs m) r.matches; within = h.within })

  pub stops-on : f ≡ forward_filter specs m → Stops false specs m f
  stops-on q =
      let h = forward-stops specs m r.matches.within in
      rw q (record { stops = λ name l p. h.stops name l p (matcher_spec specs m) r.matches; within = h.within })

-- the next name that passes
next-over : (f : Filter) (items : Text) (places : List ℕ) (n a b : ℕ) → b ≡ next_passing f items places n a → a ≤ n → First (λ k. passes f (name_at items places k)) a n b
next-over f items places n a b e h = rw e (next-first f items places n a h)

pub next-less : (f : Filter) (items : Text) (places : List ℕ) (n j to : ℕ) → j < n → to ≡ next_passing f items places n (j + 1) → n - to < n - j
next-less f items places n j to h e = omega (arith, (next-over f items places n (j + 1) to e (omega arith)).after)

-- ---- the names under one spec

-- the names before number j are found
pub record NamesFound (back : Bool) (gone : Text → Bool) (s : Spec) (items : Text) (places : List ℕ) (n i : ℕ) (first : List ℕ) (start : ℕ) (hits : List ℕ) (size known j : ℕ) : Type 0 where
  pub there : j ≤ n
  pub counted : Counted (names_give back gone s items places n i) size (across (pair_gives back gone s items places i) j (n - j)) j row_most
  pub long : length hits ≡ length first
  pub noting : Noting first start (names_hits back gone s items places n i) hits known (across (pair_hits back gone s items places i) j (n - j))

module _ (back : Bool) (gone : Text → Bool) (specs : Text) (m : Matcher) (f : Filter) (st : Stops back specs m f) (items : Text) (places : List ℕ) (n : ℕ) (p : PlacesIn items places n) (i : ℕ) where
  abbrev s : Spec
  s = matcher_spec specs m

  abbrev bytes_of : ℕ → Text
  bytes_of = pair_gives back gone s items places i

  abbrev hits_of : ℕ → List ℕ
  hits_of = pair_hits back gone s items places i

  -- a name that is stopped gives nothing
  stopped : (k : ℕ) → k < n → passes f (name_at items places k) ≡ false → bytes_of k ≡ []
  unfolding item_bytes
  stopped k h e = rw (st.stops (name_at items places k) (name-short items places n p k h) e)

  stopped-hit : (k : ℕ) → k < n → passes f (name_at items places k) ≡ false → hits_of k ≡ []
  stopped-hit k h e = rw (stopped k h e)

  module _ (a b : ℕ) (over : First (λ k. passes f (name_at items places k)) a n b) where
    jump-bytes : across bytes_of a (n - a) ≡ across bytes_of b (n - b)
    jump-bytes = across-jump bytes_of a b n over.after over.within (λ k q r. stopped k (omega (arith, over.within)) (over.none k q r))

    jump-hits : across hits_of a (n - a) ≡ across hits_of b (n - b)
    jump-hits = across-jump hits_of a b n over.after over.within (λ k q r. stopped-hit k (omega (arith, over.within)) (over.none k q r))

  names-start : (hits : List ℕ) (noted j : ℕ) → First (λ k. passes f (name_at items places k)) 0 n j → NamesFound back gone (matcher_spec specs m) items places n i hits noted hits 0 noted j
  names-start hits noted j over =
      let e : n - 0 ≡ n = omega arith in
      record {
        there = over.within;
        counted = counted-starts (across bytes_of 0 n) (across bytes_of j (n - j)) row_most (rw e at (jump-bytes 0 j over)) j;
        long = refl;
        noting = noting-starts hits noted (across hits_of 0 n) (across hits_of j (n - j)) (rw e at (jump-hits 0 j over));
      }

  pub names-begin : (hits : List ℕ) (noted j : ℕ) → j ≡ next_passing f items places n 0 → NamesFound back gone (matcher_spec specs m) items places n i hits noted hits 0 noted j
  names-begin hits noted j e = names-start hits noted j (next-over f items places n 0 j e (omega arith))

  module _ (first : List ℕ) (start : ℕ) (hits : List ℕ) (size known j : ℕ) (c : NamesFound back gone (matcher_spec specs m) items places n i first start hits size known j) where
    -- one name more
    pub names-next : j < n → (k : ℕ) (name : Text) → k ≡ length (item_bytes back gone i j name (matcher_spec specs m)) → (at len : ℕ) → name ≡ part_at items at len → at ≡ get_or places (2 * j) 0 → len ≡ get_or places (2 * j + 1) 0 → k ≤ row_most
        → (after : List ℕ) (next : ℕ) → Adds hits known (hit_if (length (item_bytes back gone i j name (matcher_spec specs m))) (hit_of i (j + 1))) after next
        → (to : ℕ) → to ≡ next_passing f items places n (j + 1)
        → NamesFound back gone (matcher_spec specs m) items places n i first start after (size + k) next to
    names-next h k name es at len en ea el ks after next a to et =
        let over = next-over f items places n (j + 1) to et (omega arith) in
        let e : name ≡ name_at items places j = rw (ea, el) at en in
        let text = across-next bytes_of j n h in
        let codes = across-next hits_of j n h in
        let more = counted-more (across bytes_of 0 n) size (across bytes_of j (n - j)) j row_most c.counted (bytes_of j) (across bytes_of (j + 1) (n - (j + 1))) text k (es ∙ ap (λ (t : Text). length (item_bytes back gone i j t s)) e) ks in
        let noted = noting-more first start (across hits_of 0 n) hits known (across hits_of j (n - j)) c.noting (hits_of j) (across hits_of (j + 1) (n - (j + 1))) codes after next (rw e at a) in
        record {
          there = over.within;
          counted = counted-on (across bytes_of 0 n) (size + k) (across bytes_of (j + 1) (n - (j + 1))) (j + 1) row_most more (across bytes_of to (n - to)) (jump-bytes (j + 1) to over) to (omega (arith, over.after));
          long = a.long ∙ c.long;
          noting = noting-on first start (across hits_of 0 n) after next (across hits_of (j + 1) (n - (j + 1))) noted (across hits_of to (n - to)) (jump-hits (j + 1) to over);
        }

    pub names-fit : j < n → (k : ℕ) → k ≤ row_most → Fits w64 (size + k)
    names-fit h k b = omega (arith, c.counted.small, p.few)

    pub names-small : size ≤ spec_most
    names-small = omega (arith, c.counted.small, c.there, p.few)

    pub names-measured : n ≤ j → size ≡ length (names_give back gone (matcher_spec specs m) items places n i)
    names-measured h = counted-whole (across bytes_of 0 n) size (across bytes_of j (n - j)) j row_most c.counted (across-none bytes_of j n h)

    pub names-noted : n ≤ j → Adds first start (names_hits back gone (matcher_spec specs m) items places n i) hits known
    names-noted h = noting-done first start (across hits_of 0 n) hits known (across hits_of j (n - j)) c.noting (across-none hits_of j n h)

  -- where no name passes, none gives anything
  module _ (empty : f.most < f.least) (hits : List ℕ) (noted : ℕ) where
    all-stopped : NamesFound back gone (matcher_spec specs m) items places n i hits noted hits 0 noted n
    all-stopped = names-start hits noted n (record { after = omega arith; within = omega arith; none = λ k a b. none_passes f empty (name_at items places k) })

    pub stopped-measured : 0 ≡ length (names_give back gone (matcher_spec specs m) items places n i)
    stopped-measured = names-measured hits noted hits 0 noted n all-stopped (omega arith)

    pub stopped-noted : Adds hits noted (names_hits back gone (matcher_spec specs m) items places n i) hits noted
    stopped-noted = names-noted hits noted hits 0 noted n all-stopped (omega arith)

-- ---- one spec of a table

module _ (back : Bool) (gone : Text → Bool) (specs : Text) (table : List ℕ) (items : Text) (places : List ℕ) (n i : ℕ) (m : Matcher) (e : m ≡ matcher_at table i) where
  pub spec-measured : (k : ℕ) → k ≡ length (names_give back gone (matcher_spec specs m) items places n i) → k ≡ length (spec_gives back gone specs table items places n i)
  spec-measured k h = rw e at h

  pub spec-noted : (hits : List ℕ) (count : ℕ) (after : List ℕ) (next : ℕ) → Adds hits count (names_hits back gone (matcher_spec specs m) items places n i) after next → Adds hits count (spec_hits back gone specs table items places n i) after next
  spec-noted hits count after next a = rw e at a

-- ---- members in a row, each of which gives a text and hits

-- those before number i are found, each of which takes at most b
pub record RowFound (text : ℕ → Text) (codes : ℕ → List ℕ) (group b : ℕ) (first : List ℕ) (start : ℕ) (hits : List ℕ) (size noted i : ℕ) : Type 0 where
  pub there : i ≤ group
  pub counted : Counted (across text 0 group) size (across text i (group - i)) i b
  pub long : length hits ≡ length first
  pub noting : Noting first start (across codes 0 group) hits noted (across codes i (group - i))

module _ (text : ℕ → Text) (codes : ℕ → List ℕ) (group b : ℕ) where
  pub row-begin : (hits : List ℕ) (noted : ℕ) → RowFound text codes group b hits noted hits 0 noted 0
  row-begin hits noted =
      let e : group - 0 ≡ group = omega arith in
      record {
        there = omega arith;
        counted = counted-starts (across text 0 group) (across text 0 (group - 0)) b (rw e) 0;
        long = refl;
        noting = noting-starts hits noted (across codes 0 group) (across codes 0 (group - 0)) (rw e);
      }

  module _ (first : List ℕ) (start : ℕ) (hits : List ℕ) (size noted i : ℕ) (c : RowFound text codes group b first start hits size noted i) where
    pub row_next : i < group → (k : ℕ) → k ≡ length (text i) → k ≤ b → (after : List ℕ) (next : ℕ) → Adds hits noted (codes i) after next → RowFound text codes group b first start after (size + k) next (i + 1)
    row_next h k e l after next a =
        record {
          there = omega arith;
          counted = counted-more (across text 0 group) size (across text i (group - i)) i b c.counted (text i) (across text (i + 1) (group - (i + 1))) (across-next text i group h) k e l;
          long = a.long ∙ c.long;
          noting = noting-more first start (across codes 0 group) hits noted (across codes i (group - i)) c.noting (codes i) (across codes (i + 1) (group - (i + 1))) (across-next codes i group h) after next a;
        }

    pub row-measured : group ≤ i → size ≡ length (across text 0 group)
    row-measured h = counted-whole (across text 0 group) size (across text i (group - i)) i b c.counted (across-none text i group h)

    pub row-noted : group ≤ i → Adds first start (across codes 0 group) hits noted
    row-noted h = noting-done first start (across codes 0 group) hits noted (across codes i (group - i)) c.noting (across-none codes i group h)

-- how much all of them take
module _ (text : ℕ → Text) (codes : ℕ → List ℕ) (group : ℕ) (few : group ≤ spec_count) (first : List ℕ) (start : ℕ) (hits : List ℕ) (size noted i : ℕ) where
  pub specs-fit : RowFound text codes group spec_most first start hits size noted i → (k : ℕ) → k ≤ spec_most → Fits w64 (size + k)
  specs-fit c k h = omega (arith, c.counted.small, c.there)

  pub specs-small : RowFound text codes group spec_most first start hits size noted i → size ≤ group_most
  specs-small c = omega (arith, c.counted.small, c.there)

  pub objects-fit : RowFound text codes group row_most first start hits size noted i → (k : ℕ) → k ≤ row_most → Fits w64 (size + k)
  objects-fit c k h = omega (arith, c.counted.small, c.there)

  pub objects-small : RowFound text codes group row_most first start hits size noted i → size ≤ objects_most
  objects-small c = omega (arith, c.counted.small, c.there)

-- ---- one spec as an object source

module _ (specs : Text) (table : List ℕ) (i : ℕ) (m : Matcher) (e : m ≡ matcher_at table i) where
  pub object-measured : (k : ℕ) → k ≡ length (object_bytes i (matcher_spec specs m)) → k ≡ length (object_bytes i (spec_at specs table i))
  object-measured k h = rw e at h

  pub object-noted : (k : ℕ) → k ≡ length (object_bytes i (matcher_spec specs m)) → (hits : List ℕ) (count : ℕ) (after : List ℕ) (next : ℕ) → Adds hits count (hit_if k (hit_stride * i)) after next
      → Adds hits count (hit_if (length (object_bytes i (spec_at specs table i))) (hit_of i 0)) after next
  object-noted k h hits count after next a =
      let z : hit_stride * i ≡ hit_of i 0 = omega arith in
      let l : k ≡ length (object_bytes i (spec_at specs table i)) = object-measured k h in
      rw (z, l) at a

pub object-hit : (specs : Text) (table : List ℕ) (group : ℕ) → TableReady specs table group → (i : ℕ) → i < group → hit_stride * i ≤ hit_most
object-hit specs table group t i h = omega (arith, t.few)
