-- The loop that writes: what is written, and what the hits that are left give, make the whole. Assumes nothing.
use mathlib.Core.Path.{◌≡◌, refl, ap, ◌∙◌}
use mathlib.Core.Bool.{Bool}
use mathlib.Core.List.{List, [], ◌++◌}
use Prim.Native.Nat.{ℕ, zero, suc, ◌+◌, ◌-◌, ◌*◌, ◌/◌, ◌%◌, ◌≤◌, ◌<◌}
use native.Mathlib.Omega.{arith}
use native.Mathlib.Numerals.{add-one}
use lib.ListN.{length, get_or, drop, drop_of_length-le}
use lib.Seq.{drop-cons}
use Rattle.meaning.specs.Bytes.{Text, each}
use Rattle.meaning.specs.Limits.{name_bytes, item_count, spec_count}
use Rattle.meaning.specs.Spec.{Spec}
use Rattle.buffer.proofs.Writing.{Writing, writing-starts, writing-room, writing_more, written-place, written-whole}
use Rattle.parse.specs.Places.{part_at}
use Rattle.parse.proofs.Parts.{part_length}
use Rattle.matcher.specs.declared.types.Matcher.{Matcher}
use Rattle.matcher_table.specs.Numbers.{matcher_numbers, matcher_at}
use Rattle.match_row.specs.Pairs.{matcher_spec, field_bytes}
use Rattle.buffer.specs.Splice.{Puts}
use Rattle.match_row.specs.Asking.{MatcherReady}
use Rattle.search.specs.Hits.{hit_stride, field_start, field_size, under_spec, hit_bytes}
use Rattle.search.specs.Noting.{PlacesIn, TableReady, Good, AllGood}

drop_all : (l : List ℕ) (i : ℕ) → length l ≤ i → drop i l ≡ []
drop_all l i h = drop_of_length-le l h

-- what the hits from number k on give is still to be written
abbrev pub HitsWritten : (ℕ → Text) → List ℕ → Text → ℕ → ℕ → Text → ℕ → Type 0
HitsWritten f hits first at k out end = Writing first at (each hits f) out end (each (drop k hits) f)

module _ (f : ℕ → Text) (hits : List ℕ) (first : Text) (at : ℕ) where
  pub hits-begin : at + length (each hits f) ≤ length first → HitsWritten f hits first at 0 first at
  hits-begin h = writing-starts first at (each hits f) h

  module _ (k : ℕ) (out : Text) (end : ℕ) (w : HitsWritten f hits first at k out end) where
    next : k < length hits → each (drop k hits) f ≡ f (get_or hits k 0) ++ each (drop (k + 1) hits) f
    next h = rw (add-one k) (ap (λ (l : List ℕ). each l f) (drop-cons hits k 0 h))

    hits-room : k < length hits → (x : ℕ) → x ≡ get_or hits k 0 → (t : Text) → t ≡ f x → end + length t ≤ length out
    hits-room h x e t q = rw (q, e) (writing-room first at (each hits f) out end (each (drop k hits) f) w (f (get_or hits k 0)) (each (drop (k + 1) hits) f) (next h))

    hits_next : k < length hits → (x : ℕ) → x ≡ get_or hits k 0 → (t : Text) → t ≡ f x → (o : Text) (e : ℕ) → Puts out end t o e → HitsWritten f hits first at (k + 1) o e
    hits_next h x e t et o end₂ q =
        let p : Puts out end (f (get_or hits k 0)) o end₂ = rw (et, e) at q in
        writing_more first at (each hits f) out end (each (drop k hits) f) w (f (get_or hits k 0)) (each (drop (k + 1) hits) f) (next h) o end₂ p.0 p.1

    pub hits-end : length hits ≤ k → Puts first at (each hits f) out end
    hits-end h =
        let e : each (drop k hits) f ≡ [] = ap (λ (l : List ℕ). each l f) (drop_all hits k h) in
        (written-whole first at (each hits f) out end (each (drop k hits) f) w e, written-place first at (each hits f) out end (each (drop k hits) f) w e)

  -- no hit gives nothing
  pub hits-none : length hits ≡ 0 → at + length (each hits f) ≤ length first → Puts first at (each hits f) first at
  hits-none z h = hits-end 0 first at (hits-begin h) (omega arith)

-- ---- one hit

module _ (places : List ℕ) where
  pub field-start : (field : ℕ) → (field ≡ 0 → ⊥) → (x : ℕ) → x ≡ get_or places (2 * (field - 1)) 0 → x ≡ field_start places field
  field-start zero d x e = absurd (d refl)
  field-start (suc j) d x e = let h : suc j - 1 ≡ j = omega arith in rw h at e

  pub field-size : (field : ℕ) → (field ≡ 0 → ⊥) → (x : ℕ) → x ≡ get_or places (2 * (field - 1) + 1) 0 → x ≡ field_size places field
  field-size zero d x e = absurd (d refl)
  field-size (suc j) d x e = let h : suc j - 1 ≡ j = omega arith in rw h at e

field-inside : (items : Text) (places : List ℕ) (n : ℕ) → PlacesIn items places n → (field : ℕ) → field ≤ n → field_start places field + field_size places field ≤ length items
field-inside items places n p zero h = omega arith
field-inside items places n p (suc j) h = p.within j (omega arith)

field-short : (items : Text) (places : List ℕ) (n : ℕ) → PlacesIn items places n → (field : ℕ) → field ≤ n → field_size places field ≤ name_bytes
field-short items places n p zero h = omega arith
field-short items places n p (suc j) h = p.short j (omega arith)

module _ (items : Text) (places : List ℕ) (n : ℕ) (p : PlacesIn items places n) (hit : ℕ) (there : hit % hit_stride ≤ n) where
  pub hit-field-few : hit % hit_stride ≤ item_count
  hit-field-few = omega (arith, p.few)

  pub hit-places : 2 * (hit % hit_stride) ≤ length places
  hit-places = omega (arith, p.room)

  module _ (start size : ℕ) (es : start ≡ field_start places (hit % hit_stride)) (ez : size ≡ field_size places (hit % hit_stride)) where
    pub hit-inside : start + size ≤ length items
    hit-inside = rw (es, ez) (field-inside items places n p (hit % hit_stride) there)

    module _ (name : Text) (en : name ≡ part_at items start size) where
      name-long : length name ≡ size
      name-long = ap length en ∙ part_length items start size hit-inside

      pub hit-short : length name ≤ name_bytes
      hit-short = omega (arith, name-long, ez, field-short items places n p (hit % hit_stride) there)

      pub hit-empty : hit % hit_stride ≡ 0 → length name ≡ 0
      hit-empty z = name-long ∙ ez ∙ rw z

      module _ (back : Bool) (s : Spec) where
        same : field_bytes back (hit / hit_stride) (hit % hit_stride) name s ≡ under_spec back items places hit s
        same = rw (en, es, ez)

        pub hit-some : 0 < length (under_spec back items places hit s) → 0 < length (field_bytes back (hit / hit_stride) (hit % hit_stride) name s)
        hit-some h = rw same h

        pub hit-room : (d : Text) (at : ℕ) → at + length (under_spec back items places hit s) ≤ length d → at + length (field_bytes back (hit / hit_stride) (hit % hit_stride) name s) ≤ length d
        hit-room d at h = rw same h

        pub hit-put : (d : Text) (at : ℕ) (o : Text) (e : ℕ) → Puts d at (field_bytes back (hit / hit_stride) (hit % hit_stride) name s) o e → Puts d at (under_spec back items places hit s) o e
        hit-put d at o e q = rw same at q

-- ---- where there is a hit there is a spec

pub first-matcher : (back : Bool) (specs : Text) (table : List ℕ) (group : ℕ) → TableReady specs table group → (items : Text) (places : List ℕ) (n : ℕ) (hits : List ℕ) → AllGood back specs table group items places n hits → (length hits ≡ 0 → ⊥) → matcher_numbers * 0 + matcher_numbers ≤ length table
first-matcher back specs table group t items places n hits q z = let h : 0 < length hits = omega arith in omega (arith, (q.each-good 0 h).spec-there, t.room)

-- ---- a turn of the loop: hit number k, of a spec whose matcher is at hand

module _ (back : Bool) (specs : Text) (table : List ℕ) (group : ℕ) (t : TableReady specs table group) (items : Text) (places : List ℕ) (n : ℕ) (hits : List ℕ) (q : AllGood back specs table group items places n hits) (k : ℕ) (h : k < length hits) (hit : ℕ) (e : hit ≡ get_or hits k 0) where
  good : Good back specs table group items places n hit
  good = rw e (q.each-good k h)

  pub turn-matcher : matcher_numbers * (hit / hit_stride) + matcher_numbers ≤ length table
  turn-matcher = omega (arith, good.spec-there, t.few, t.room)

  pub turn_spec : hit / hit_stride ≤ spec_count
  turn_spec = omega (arith, good.spec-there, t.few)

  pub turn-item : hit % hit_stride ≤ n
  turn-item = good.item-there

  module _ (m : Matcher) (em : m ≡ matcher_at table (hit / hit_stride)) where
    pub turn-ready : MatcherReady specs m
    turn-ready = rw em (t.ready (hit / hit_stride) good.spec-there)

    own : under_spec back items places hit (matcher_spec specs m) ≡ hit_bytes back specs table items places hit
    own = rw em

    pub turn-gives : 0 < length (under_spec back items places hit (matcher_spec specs m))
    turn-gives = rw own good.gives

    module _ (first : Text) (at : ℕ) (out : Text) (end : ℕ) (w : HitsWritten (hit_bytes back specs table items places) hits first at k out end) where
      pub turn-room : end + length (under_spec back items places hit (matcher_spec specs m)) ≤ length out
      turn-room = hits-room (hit_bytes back specs table items places) hits first at k out end w h hit e _ own

      pub turn-next : (o : Text) (r : ℕ) → Puts out end (under_spec back items places hit (matcher_spec specs m)) o r → HitsWritten (hit_bytes back specs table items places) hits first at (k + 1) o r
      turn-next o r p = hits_next (hit_bytes back specs table items places) hits first at k out end w h hit e _ own o r p
