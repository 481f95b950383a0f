-- A spec list that is being read into a table: the specs that are behind and those that are left make the whole. And what a table's
-- place holds. Assumes nothing.
use mathlib.Core.Path.{◌≡◌, refl, sym, ap, ◌∙◌}
use mathlib.Core.List.{List, [], ◌∷◌, ◌++◌, append-nil, append_assoc, map-append}
use mathlib.Core.Option.{some}
use Prim.Native.Nat.{ℕ, zero, suc, ◌+◌, ◌-◌, ◌<◌, ◌≤◌}
use native.Mathlib.Omega.{arith}
use native.Mathlib.Numerals.{add-one}
use borrow.Author.Tests.{le-leb, lt-leb}
use lib.ListN.{length, take, drop, set, length-set, length-take, length-map, length-replicate, drop_of_length-le}
use lib.Seq.{length-take-le, take-suc-set, drop-set-lt, drop-drop, drop-cons}
use Rattle.meaning.specs.Bytes.{Text}
use Rattle.meaning.specs.Limits.{spec_list_bytes, spec_count}
use Rattle.meaning.specs.Spec.{Answer, accepted, refused, Spec}
use Rattle.meaning.specs.Lists.{with_first, spec_record, read_specs}
use Rattle.promises.specs.Facts.{records}
use Rattle.promises.proofs.Members.{specs-long}
use Rattle.promises.proofs.Steps.{specs-shrink, list-records}
use Rattle.parse.specs.declared.types.RefSpec.{RefSpec}
use Rattle.parse.specs.Places.{SidesWithin, spec_meant}
use Rattle.sides.proofs.Told.{side-wider}
use Rattle.std.specs.Prelude.{Option, None, Some, Result, Ok, Err}
use Rattle.refusal.specs.declared.Refusal.{Refusal}
use Rattle.refusal.specs.Numbers.{number_of}
use Rattle.list.specs.declared.cursor.Record.{Record}
use Rattle.list.specs.declared.refused.Refused.{Refused}
use Rattle.refusal.specs.declared.Refusal.TheVariants as refusals
use Rattle.list.specs.Checked.{carrying, numbered}
use Rattle.spec_list.specs.declared.Group.{Group}
use Rattle.spec_list.specs.declared.record.SpecRecord.{SpecRecord}
use Rattle.spec_list.specs.Group.{record_meant, group_meant, AllWithin, GroupRead, SpecTaken, SpecSays}
use Rattle.spec_list.specs.Table.{spec_from_record, blank, blanks, record_at}
use Rattle.list.proofs.Records.{records-past, records-no, records-took}
use Rattle.spec_list.proofs.SpecReadings.{spec-some, spec-ended, spec-err}

-- an answer on the specs that are left, where these stand before them
abbrev read_after : List Spec → Answer (List Spec) → Answer (List Spec)
read_after l (accepted m) = accepted (l ++ m)
read_after l (refused n r) = refused n r

after_none : (a : Answer (List Spec)) → read_after [] a ≡ a
after_none (accepted m) = refl
after_none (refused n r) = refl

after_first : (l : List Spec) (x : Spec) (a : Answer (List Spec)) → read_after l (with_first x a) ≡ read_after (l ++ (x ∷ [])) a
after_first l x (accepted m) = ap (λ (k : List Spec). accepted k) (sym (append_assoc l (x ∷ []) m))
after_first l x (refused n r) = refl

within_more : (len : ℕ) (l : List SpecRecord) (q : SpecRecord) → AllWithin len l → SidesWithin len (spec_from_record q) → AllWithin len (l ++ (q ∷ []))
within_more len [] q w h = (h, tt)
within_more len (p ∷ l) q w h = (w.0, within_more len l q w.1 h)

-- places without a spec
blanks-long : (n : ℕ) → length (blanks n) ≡ n
unfolding blanks
blanks-long n = length-replicate n blank

blanks-less : (n : ℕ) → drop 1 (blanks (suc n)) ≡ blanks n
unfolding blanks
blanks-less n = refl

-- one of them less
blanks-after : (j n : ℕ) (t : List SpecRecord) → j < n → drop j t ≡ blanks (n - j) → drop (suc j) t ≡ blanks (n - suc j)
blanks-after j n t h e =
    let k : n - j ≡ suc (n - suc j) = omega arith in
    let m : j + 1 ≡ suc j = add-one j in
    ap (λ (i : ℕ). drop i t) (sym m) ∙ sym (drop-drop 1 j t) ∙ ap (drop 1) (e ∙ ap blanks k) ∙ blanks-less (n - suc j)

-- a spec list is read into a table as far as a place, with j specs behind it
pub record Filling (op : ℕ) (s : Text) (t : List SpecRecord) (at j : ℕ) : Type 0 where
  pub others : drop j t ≡ blanks (spec_count - j)
  pub size : length t ≡ spec_count
  pub count : j ≤ spec_count
  pub whole : read_after (group_meant s (take j t)) (records (spec_record op) j (drop at s)) ≡ records (spec_record op) 0 s
  pub sides : AllWithin (length s) (take j t)

-- nothing is read yet
pub filling-starts : (op : ℕ) (s : Text) (t : List SpecRecord) (at : ℕ) → t ≡ blanks spec_count → at ≡ 0 → Filling op s t at 0
filling-starts op s t at h e = record { others = h; size = ap length h ∙ blanks-long spec_count; count = omega arith; whole = rw e (after_none (records (spec_record op) 0 s)); sides = tt }

module _ (op : ℕ) (s : Text) (t : List SpecRecord) (at j : ℕ) (f : Filling op s t at j) (w : Result (Option (Record RefSpec)) Refusal) (says : SpecSays op j s at w) (m : Result (Option (Record RefSpec)) Refused) (em : m ≡ numbered w j) where
  module _ (o : Option (Record RefSpec)) (eo : m ≡ Ok o) (r : Record RefSpec) (e : o ≡ Some r) where
    told : SpecTaken op j s at r.value r.next.at
    told = spec-some op s at j w says m em o eo r e

    -- there is a place for it
    pub filling-room : j < spec_count
    filling-room = told.number

    -- less of the list is left
    pub filling-less : length s - r.next.at < length s - at
    filling-less = omega (arith, told.on, told.within)

    -- its sides are small enough for a record
    pub filling-small : length s ≤ spec_list_bytes → SidesWithin spec_list_bytes r.value
    filling-small h = record { src-within = side-wider (length s) spec_list_bytes r.value.src h told.sides.src-within; dst-within = side-wider (length s) spec_list_bytes r.value.dst h told.sides.dst-within }

    -- one more spec, as a record of it
    pub filling-more : (y : SpecRecord) → spec_from_record y ≡ r.value → Filling op s (set t j y) r.next.at (j + 1)
    filling-more y e =
        let k : j < length t = omega (arith, f.size, told.number) in
        let p : take (j + 1) (set t j y) ≡ take j t ++ (y ∷ []) = rw (add-one j) (take-suc-set t j y k) in
        let q : group_meant s (take j t ++ (y ∷ [])) ≡ group_meant s (take j t) ++ (spec_meant s r.value ∷ []) = rw (← e) (map-append (record_meant s) (take j t) (y ∷ [])) in
        let c = records-took (spec_record op) (specs-shrink op) s at j (spec_meant s r.value) (drop r.next.at s) told.here told.reads in
        record {
          others = rw (add-one j) (drop-set-lt (suc j) t j y (omega arith) ∙ blanks-after j spec_count t told.number f.others);
          size = length-set t j y ∙ f.size;
          count = omega (arith, told.number);
          whole =
              rw (p, q, add-one j)
              (sym (after_first (group_meant s (take j t)) (spec_meant s r.value) (records (spec_record op) (suc j) (drop r.next.at s)))
              ∙ rw c at f.whole);
          sides = rw p (within_more (length s) (take j t) y f.sides (rw e told.sides));
        }

  -- at the end all are read
  pub filling-whole : m ≡ Ok None → GroupRead s (Ok (record { count = j; specs = t })) (records (spec_record op) 0 s)
  filling-whole e =
      let h : length s ≤ at = spec-ended op s at j w says m em e in
      let c : read_after (group_meant s (take j t)) (accepted []) ≡ records (spec_record op) 0 s = rw (records-past (spec_record op) (specs-shrink op) s at j h) at f.whole in
      let d : accepted (group_meant s (take j t)) ≡ records (spec_record op) 0 s = ap (λ (k : List Spec). accepted k) (sym (append-nil (group_meant s (take j t)))) ∙ c in
      let n : length (group_meant s (take j t)) ≡ j = length-map (take j t) (record_meant s) ∙ length-take-le j t (omega (arith, f.size, f.count)) in
      rw (← d) (record { count-is = sym n; count-within = f.count; means = refl; within = f.sides; others = f.others })

  -- a spec is refused
  pub filling-stop : (x : Refused) → m ≡ Err x → GroupRead s (Err x) (records (spec_record op) 0 s)
  filling-stop x e =
      let u = spec-err op s at j w says m em x e in
      let c : refused (number_of x.refusal) (some j) ≡ records (spec_record op) 0 s = rw (records-no (spec_record op) (specs-shrink op) s at j (number_of x.refusal) u.0.here u.0.reads) at f.whole in
      rw (← c) (record { number = refl; carried = u.1 })

-- the answers of `read_specs`
module _ (op : ℕ) (s : Text) where
  pub group-no-operation : 1 < op → GroupRead s (Err (carrying refusals.UnknownOperation 0)) (read_specs op s)
  unfolding read_specs
  group-no-operation h = rw (lt-leb op 1 h) (record { number = refl; carried = refl })

  pub group-too-long : op ≤ 1 → spec_list_bytes < length s → GroupRead s (Err (carrying refusals.ListTooLong 0)) (read_specs op s)
  group-too-long h k = rw (specs-long op s h k) (record { number = refl; carried = refl })

  pub group-is : (g : Result Group Refused) → op ≤ 1 → length s ≤ spec_list_bytes → GroupRead s g (records (spec_record op) 0 s) → GroupRead s g (read_specs op s)
  unfolding read_specs
  group-is g h k r = rw (le-leb op 1 h, list-records spec_list_bytes (spec_record op) s k) r

-- record i of a table that is lent, as `spec_of` hands it on

pub all-within : (len : ℕ) (l : List SpecRecord) (i : ℕ) → i < length l → AllWithin len l → SidesWithin len (spec_from_record (record_at l i))
all-within len [] i h w = absurd (omega arith)
all-within len (r ∷ l) zero h w = w.0
all-within len (r ∷ l) (suc i) h w = all-within len l i (omega arith) w.1

module _ (t : List SpecRecord) (n i : ℕ) (r : SpecRecord) (is : r ≡ record_at (take n t) i) (size : length t ≡ spec_count) (few : n ≤ spec_count) (below : i < n) where
  there : i < length (take n t)
  there = omega (arith, length-take-le n t (omega arith))

  -- the group from place i on is that spec and those after it
  pub table-next : (s : Text) → group_meant s (drop i (take n t)) ≡ record_meant s r ∷ group_meant s (drop (suc i) (take n t))
  table-next s = rw is (ap (group_meant s) (drop-cons (take n t) i blank there))

  -- and its sides stand within the list
  pub table-within : (len : ℕ) → AllWithin len (take n t) → SidesWithin len (spec_from_record r)
  table-within len w = rw is (all-within len (take n t) i there w)

-- from the last place on there are none
pub table-end : (t : List SpecRecord) (n i : ℕ) → n ≤ i → (s : Text) → group_meant s (drop i (take n t)) ≡ []
table-end t n i h s = let k : length (take n t) ≤ i = omega (arith, length-take n t) in ap (group_meant s) (drop_of_length-le (take n t) k)
