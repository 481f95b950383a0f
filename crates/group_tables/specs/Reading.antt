-- A group that was read can be noted, and what then stands for it in two tables.
use Rattle.std.specs.Prelude.{ℕ, ◌≤◌, ◌<◌, ◌≡◌, List, length, take, get_or}
use Rattle.std.proofs.Math.Option.{some}
use Rattle.meaning.specs.Bytes.{Text}
use Rattle.meaning.specs.Limits.{spec_list_bytes, spec_count, spec_bytes}
use Rattle.meaning.specs.Spec.{Spec}
use Rattle.matcher_table.specs.Numbers.{matcher_at}
use Rattle.spec_list.specs.declared.record.SpecRecord.{SpecRecord}
use Rattle.spec_list.specs.Table.{record_at}
use Rattle.spec_list.specs.Group.{record_meant}
use Rattle.negatives.specs.Negatives.{Negatives}
use Rattle.group_tables.specs.Standing.{StandsFor, Notable}

-- the first n records of a table tell the specs of a list
pub record Grouped (specs : Text) (records : List SpecRecord) (n : ℕ) : Type 0 where
  pub long : length (take n records) ≡ n
  pub notable : Notable specs (take n records)
  pub short : (i : ℕ) → i < n → (t : Text) → (record_meant specs (record_at (take n records) i)).source ≡ some t → length t ≤ spec_bytes

-- a group of n specs, so many of them negative, stands in two tables
pub record TableIs (specs : Text) (table negatives : List ℕ) (n count : ℕ) (group : List Spec) : Type 0 where
  pub count-is : n ≡ length group
  pub few : n ≤ spec_count
  pub specs-short : length specs ≤ spec_list_bytes
  pub stand : (i : ℕ) → i < length group → (d : Spec) → StandsFor specs (get_or group i d) (matcher_at table i)
  pub short : (i : ℕ) → i < length group → (d : Spec) (t : Text) → (get_or group i d).source ≡ some t → length t ≤ spec_bytes
  pub exclude : Negatives specs group negatives count
