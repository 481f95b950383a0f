-- Entering what a side, a yield and a group of specs yield, one text after the other. Assumes nothing.
use Prim.Native.Nat.{ℕ, suc, ◌+◌, ◌*◌, ◌≤◌, ◌<◌}
use native.Mathlib.Numerals.{add-one}
use native.Mathlib.Omega.{arith}
use mathlib.Core.Path.{◌≡◌, refl, sym, ap, ◌∙◌}
use mathlib.Core.List.{List, [], ◌∷◌, ◌++◌, append-nil}
use borrow.Author.Tests.{lt-ltb}
use lib.ListN.{length, take, drop, length-append}
use lib.Seq.{take-suc}
use Rattle.meaning.specs.Bytes.{Text, each}
use Rattle.meaning.specs.Limits.{spec_count}
use Rattle.meaning.specs.Prefix.{candidates, expand_prefixes}
use Rattle.parse.specs.declared.types.Side.{Side}
use Rattle.parse.specs.declared.types.Side.TheVariants.{Absent, Part, Head}
use Rattle.parse.specs.declared.types.RefSpec.{RefSpec}
use Rattle.parse.specs.Places.{part_at, Within, SidesWithin, spec_meant}
use Rattle.refspec.specs.Instructions.{side_text}
use Rattle.refspec.specs.Prefixes.{remote_place}
use Rattle.frames.specs.Frames.{candidate}
use Rattle.expand.specs.declared.Yield.{Yield}
use Rattle.expand.specs.declared.Yield.TheVariants.{Nothing, One, Six}
use Rattle.expand.specs.Yields.{yield_place, yield_meant, YieldWithin}
use Rattle.refspec.proofs.Fronts.{remote-within}
use Rattle.expand.proofs.Lists.{expand-is, yield-within}
use Rattle.spec_list.specs.Group.{group_meant, AllWithin}
use Rattle.spec_list.specs.declared.record.SpecRecord.{SpecRecord}
use Rattle.spec_list.specs.Table.{spec_from_record, record_at}
use Rattle.spec_list.proofs.Groups.{table-next, table-within, table-end}
use Rattle.prefixes.specs.declared.entry.Entry.{Entry}
use Rattle.prefixes.specs.Distinct.{add_all}
use Rattle.prefixes.specs.Table.{entry_text, entry, side_entry, table_texts, EntryWithin, Entries, Entered}
use Rattle.prefixes.specs.Group.{group_texts, table_room, Collected}
use Rattle.prefixes.proofs.Distinct.{all_append}

-- ---- the entry of a side

-- its text is the side's
side-text : (specs : Text) (side : Side) → entry_text specs (side_entry side) ≡ side_text specs side
unfolding entry_text candidate
side-text specs Absent = refl
side-text specs (Part at n) = append-nil (part_at specs at n)
side-text specs Head = refl

-- it stands within what the side stands within
side-in : (len : ℕ) (side : Side) → Within len side → EntryWithin len (side_entry side)
side-in len Absent w = omega arith
side-in len (Part at n) w = w
side-in len Head w = omega arith

-- ---- one after the other

-- some texts, and then others
entered-then : (specs : Text) (a b : List Text) (t : List Entry) (c : ℕ) (t₁ : List Entry) (c₁ : ℕ) (t₂ : List Entry) (c₂ : ℕ) → Entered specs a t c t₁ c₁ → Entered specs b t₁ c₁ t₂ c₂ → Entered specs (a ++ b) t c t₂ c₂
entered-then specs a b t c t₁ c₁ t₂ c₂ x y = record {
  room = y.room;
  entries = y.entries;
  holds = y.holds ∙ ap (λ (l : List Text). add_all l b) x.holds ∙ sym (all_append (table_texts specs (take c t)) a b);
  most = omega (arith, x.most, y.most, length-append a b);
}

-- ---- the six candidates

-- a candidate is the text of its entry
candidate-text : (specs : Text) (k at n : ℕ) → k < 6 → entry_text specs (entry k at n) ≡ candidate k (part_at specs at n)
unfolding entry_text
candidate-text specs k at n h = rw (lt-ltb k 6 h)

-- one candidate more
candidates-more : (t : Text) (k : ℕ) → k < 6 → take (k + 1) (candidates t) ≡ take k (candidates t) ++ (candidate k t ∷ [])
unfolding candidate
candidates-more t k h = rw (add-one k) (take-suc (candidates t) k [] h)

-- the candidates are entered as far as number k
pub record Adding (specs : Text) (at n : ℕ) (table₀ : List Entry) (count : ℕ) (scratch₀ : Text) (table : List Entry) (scratch : Text) (c k : ℕ) : Type 0 where
  pub turn : k ≤ 6
  pub entered : Entered specs (take k (candidates (part_at specs at n))) table₀ count table c
  pub kept : length table ≡ length table₀
  pub lent : length scratch ≡ length scratch₀

module _ (specs : Text) (at n : ℕ) (table₀ : List Entry) (count : ℕ) (scratch₀ : Text) (table : List Entry) (scratch : Text) (c k : ℕ) (m : Adding specs at n table₀ count scratch₀ table scratch c k) where
  -- which is entered
  pub adding-more : k < 6 → (next : List Entry) (lent : Text) (d : ℕ) → Entered specs (entry_text specs (entry k at n) ∷ []) table c next d → length next ≡ length table → length lent ≡ length scratch → Adding specs at n table₀ count scratch₀ next lent d (k + 1)
  adding-more h next lent d x p q = record {
    turn = omega arith;
    entered = rw (candidates-more (part_at specs at n) k h) (entered-then specs (take k (candidates (part_at specs at n))) (candidate k (part_at specs at n) ∷ []) table₀ count table c next d m.entered (rw (← candidate-text specs k at n h) x));
    kept = p ∙ m.kept;
    lent = q ∙ m.lent;
  }

-- ---- what a spec yields

-- the arms of a `match` on a yield
module _ (specs : Text) (table : List Entry) (c : ℕ) (y : Yield) where
  module _ (side : Side) (is : y ≡ One side) (e : Entry) (q : e ≡ side_entry side) where
    -- and is entered
    pub add-one-is : (after : List Entry) (d : ℕ) → Entered specs (entry_text specs e ∷ []) table c after d → Entered specs (yield_meant specs y) table c after d
    add-one-is after d x = rw is (rw (q, side-text specs side) at x)

-- a yield has at most six
yield-few : (specs : Text) (y : Yield) → length (yield_meant specs y) ≤ 6
yield-few specs Nothing = omega arith
yield-few specs (One side) = omega arith
yield-few specs (Six at n) = let l : length (candidates (part_at specs at n)) ≡ 6 = refl in omega arith

-- ---- a spec

module _ (op : ℕ) (specs : Text) (r : RefSpec) (in_List : SidesWithin (length specs) r) (side : Side) (es : side ≡ remote_place op r) where
  -- its side stands within the list
  pub spec-side : Within (length specs) side
  spec-side = remote-within op (length specs) r side in_List es

  module _ (y : Yield) (ey : y ≡ yield_place specs side) where
    -- so does what it yields
    pub spec-yield : YieldWithin (length specs) y
    spec-yield = yield-within op specs r side y es ey in_List

    -- which is entered
    pub spec-entered : (table : List Entry) (c : ℕ) (next : List Entry) (k : ℕ) → Entered specs (yield_meant specs y) table c next k → Entered specs (expand_prefixes op (spec_meant specs r)) table c next k
    spec-entered table c next k x = rw (← expand-is op specs r side y es ey in_List) x

-- a spec yields at most six
spec-few : (op : ℕ) (specs : Text) (r : RefSpec) → SidesWithin (length specs) r → length (expand_prefixes op (spec_meant specs r)) ≤ 6
spec-few op specs r w =
    let side = remote_place op r in
    let y = yield_place specs side in
    rw (← expand-is op specs r side y refl refl w) (yield-few specs y)

-- ---- a group

-- a record of the first n stands within the list
module _ (len : ℕ) (group : List SpecRecord) (n j : ℕ) (size : length group ≡ spec_count) (few-specs : n ≤ spec_count) (below : j < n) (q : SpecRecord) (is : q ≡ record_at (take n group) j) (r : RefSpec) (tells : r ≡ spec_from_record q) where
  pub collecting-within : AllWithin len (take n group) → SidesWithin len r
  collecting-within in_List = rw tells (table-within group n j q is size few-specs below len in_List)

-- what the first i specs yield is entered, and the others make the whole
pub record Collecting (op : ℕ) (specs : Text) (group : List SpecRecord) (n : ℕ) (table₀ : List Entry) (scratch₀ : Text) (table : List Entry) (scratch : Text) (c i : ℕ) : Type 0 where
  pub few : c ≤ 6 * i
  pub turn : i ≤ n
  pub room : c ≤ length table
  pub entries : Entries (length specs) (take c table)
  pub whole : add_all (table_texts specs (take c table)) (each (group_meant specs (drop i (take n group))) (expand_prefixes op)) ≡ group_texts op (group_meant specs (take n group))
  pub kept : length table ≡ length table₀
  pub lent : length scratch ≡ length scratch₀

-- nothing at the start
pub collecting-starts : (op : ℕ) (specs : Text) (group : List SpecRecord) (n : ℕ) (table : List Entry) (scratch : Text) → Collecting op specs group n table scratch table scratch 0 0
unfolding group_texts
collecting-starts op specs group n table scratch =
    record { few = omega arith; turn = omega arith; room = omega arith; entries = record { within = λ i l. absurd (omega arith) }; whole = refl; kept = refl; lent = refl }

module _ (op : ℕ) (specs : Text) (group : List SpecRecord) (n : ℕ) (table₀ : List Entry) (scratch₀ : Text) (table : List Entry) (scratch : Text) (c i : ℕ) (m : Collecting op specs group n table₀ scratch₀ table scratch c i) where
  module _ (below : i < n) (few-specs : n ≤ spec_count) where
    -- the table has room for six more
    pub collecting-room : table_room n ≤ length table₀ → c + 6 ≤ length table
    collecting-room h = omega (arith, m.few, m.kept)

    module _ (size : length group ≡ spec_count) (q : SpecRecord) (is : q ≡ record_at (take n group) i) (r : RefSpec) (tells : r ≡ spec_from_record q) (in_List : AllWithin (length specs) (take n group)) where
      -- what the next record yields is entered
      pub collecting-more : (next : List Entry) (lent : Text) (k : ℕ) → Entered specs (expand_prefixes op (spec_meant specs r)) table c next k → length next ≡ length table → length lent ≡ length scratch → Collecting op specs group n table₀ scratch₀ next lent k (i + 1)
      collecting-more next lent k x p l = record {
        few = omega (arith, m.few, x.most, spec-few op specs r (collecting-within (length specs) group n i size few-specs below q is r tells in_List));
        turn = omega arith;
        room = x.room;
        entries = x.entries;
        whole =
            rw (x.holds, add-one i)
            (sym (all_append (table_texts specs (take c table)) (expand_prefixes op (spec_meant specs r)) (each (group_meant specs (drop (suc i) (take n group))) (expand_prefixes op)))
            ∙ rw (table-next group n i q is size few-specs below specs, ← tells) at m.whole);
        kept = p ∙ m.kept;
        lent = l ∙ m.lent;
      }

  -- after the last all is
  pub collecting-whole : n ≤ i → n ≤ spec_count → Collected op specs (group_meant specs (take n group)) table c
  collecting-whole h k = record {
    room = m.room;
    entries = m.entries;
    holds = rw (table-end group n i h specs) at m.whole;
    few = omega (arith, m.few, m.turn);
  }
