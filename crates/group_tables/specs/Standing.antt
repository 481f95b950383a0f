-- What stands in a table for the specs of a group.
use Rattle.std.specs.Prelude.{ℕ, ◌≤◌, ◌<◌, ◌≡◌, true, false, List, length}
use Rattle.meaning.specs.Bytes.{Text}
use Rattle.meaning.specs.Limits.{spec_list_bytes, spec_count}
use Rattle.meaning.specs.Spec.{Spec, is_negative}
use Rattle.parse.specs.Places.{SidesWithin}
use Rattle.matcher.specs.declared.types.Matcher.{Matcher}
use Rattle.matcher.specs.Matching.{Matches}
use Rattle.matcher_table.specs.Numbers.{matcher_at, no_matcher}
use Rattle.spec_list.specs.declared.record.SpecRecord.{SpecRecord}
use Rattle.spec_list.specs.Table.{spec_from_record, record_at}
use Rattle.spec_list.specs.Group.{record_meant, group_meant}
use Rattle.negatives.specs.Negatives.{Negatives}

-- m stands for the spec s: it is the matcher of s, or that of a spec without rows where s is negative
pub record StandsFor (specs : Text) (s : Spec) (m : Matcher) : Type 0 where
  pub negative : is_negative s.mode ≡ true → m ≡ no_matcher
  pub positive : is_negative s.mode ≡ false → Matches specs s m

-- one spec was noted as number i of a table: the others are kept
pub record NotedAt (specs : Text) (s : Spec) (before : List ℕ) (i : ℕ) (after : List ℕ) : Type 0 where
  pub size : length after ≡ length before
  pub kept : (j : ℕ) → (j ≡ i → ⊥) → matcher_at after j ≡ matcher_at before j
  pub there : StandsFor specs s (matcher_at after i)

-- records that can be noted
pub record Notable (specs : Text) (records : List SpecRecord) : Type 0 where
  pub specs-short : length specs ≤ spec_list_bytes
  pub few : length records ≤ spec_count
  pub sides : (i : ℕ) → i < length records → SidesWithin (length specs) (spec_from_record (record_at records i))

-- the specs of a group were noted in two tables
pub record NotedAll (specs : Text) (records : List SpecRecord) (table negatives : List ℕ) (count : ℕ) : Type 0 where
  pub stand : (i : ℕ) → i < length records → StandsFor specs (record_meant specs (record_at records i)) (matcher_at table i)
  pub exclude : Negatives specs (group_meant specs records) negatives count
