-- A group that was read can be noted, and then stands in its tables. Assumes nothing.
use mathlib.Core.Path.{◌≡◌, refl, sym, ap, ◌∙◌}
use mathlib.Core.List.{List, [], ◌∷◌, map}
use Prim.Native.Nat.{ℕ, zero, suc, ◌≤◌, ◌<◌}
use native.Mathlib.Omega.{arith}
use lib.ListN.{length, take, get_or, length-map}
use Rattle.meaning.specs.Bytes.{Text, In, here, there}
use Rattle.meaning.specs.Limits.{spec_list_bytes}
use Rattle.meaning.specs.Spec.{Spec}
use Rattle.meaning.specs.Lists.{read_specs, spec_record}
use Rattle.promises.proofs.Members.{specs-list, group-texts}
use Rattle.promises.proofs.Fitting.{spec-short}
use Rattle.spec_list.specs.declared.Group.{Group}
use Rattle.spec_list.specs.declared.record.SpecRecord.{SpecRecord}
use Rattle.spec_list.specs.Table.{blank, record_at}
use Rattle.spec_list.specs.Group.{record_meant, group_meant}
use Rattle.spec_list.proofs.Groups.{all-within}
use Rattle.list.proofs.Records.{accepted-within}
use Rattle.spec_list.proofs.Told.{GroupPassed}
use Rattle.group_tables.specs.Standing.{NotedAll}
use Rattle.group_tables.specs.Reading.{Grouped, TableIs}

map_at : {A B : Type 0} (f : A → B) (l : List A) (i : ℕ) (a : A) (b : B) → i < length l → get_or (map f l) i b ≡ f (get_or l i a)
map_at f [] i a b h = absurd (omega arith)
map_at f (x ∷ l) zero a b h = refl
map_at f (x ∷ l) (suc i) a b h = map_at f l i a b (omega arith)

member : {A : Type 0} (l : List A) (i : ℕ) (d : A) → i < length l → In (get_or l i d) l
member [] i d h = absurd (omega arith)
member (x ∷ l) zero d h = here
member (x ∷ l) (suc i) d h = there (member l i d (omega arith))

-- spec number i of a group is what its record denotes
group_at : (specs : Text) (l : List SpecRecord) (i : ℕ) → i < length l → (d : Spec) → get_or (group_meant specs l) i d ≡ record_meant specs (record_at l i)
group_at specs l i h d = map_at (record_meant specs) l i blank d h

-- ---- the specs of a list

module _ (op : ℕ) (specs : Text) (g : Group) (passed : GroupPassed specs g (read_specs op specs)) where
  abbrev kept : List SpecRecord
  kept = take g.count g.specs

  long : length kept ≡ g.count
  long = omega (arith, length-map kept (record_meant specs), ap length passed.is.means, passed.is.count-is)

  specs-small : length specs ≤ spec_list_bytes
  specs-small = accepted-within spec_list_bytes (spec_record op) specs passed.members (specs-list op specs passed.members passed.answer)

  pub group-ready : Grouped specs g.specs g.count
  group-ready =
      record {
        long = long;
        notable = record { specs-short = specs-small; few = omega (arith, long, passed.is.count-within); sides = λ i h. all-within (length specs) kept i h passed.is.within };
        short = λ i h t e.
            let d = record_meant specs blank in
            let l : i < length kept = omega (arith, long) in
            let m : i < length (group_meant specs kept) = omega (arith, long, length-map kept (record_meant specs)) in
            let is : In (record_meant specs (record_at kept i)) passed.members = rw (← passed.is.means, ← group_at specs kept i l d) (member (group_meant specs kept) i d m) in
            let w = group-texts op specs passed.members passed.answer (record_meant specs (record_at kept i)) is in
            (spec-short op w.0 (record_meant specs (record_at kept i)) w.1).0 t e;
      }

-- ---- noted

module _ (specs : Text) (records : List SpecRecord) (n : ℕ) (r : Grouped specs records n) (table negatives : List ℕ) (k : ℕ) (a : NotedAll specs (take n records) table negatives k) where
  abbrev those : List SpecRecord
  those = take n records

  group-long : n ≡ length (group_meant specs those)
  group-long = sym (length-map those (record_meant specs) ∙ r.long)

  pub group-noted : TableIs specs table negatives n k (group_meant specs (take n records))
  group-noted =
      record {
        count-is = group-long;
        few = omega (arith, r.notable.few, r.long);
        specs-short = r.notable.specs-short;
        stand = λ i h d. let l : i < length those = omega (arith, group-long, r.long) in rw (group_at specs those i l d) (a.stand i l);
        short = λ i h d t e. let l : i < length those = omega (arith, group-long, r.long) in r.short i (omega (arith, group-long)) t (sym (ap (λ (s : Spec). s.source) (group_at specs those i l d)) ∙ e);
        exclude = a.exclude;
      }
