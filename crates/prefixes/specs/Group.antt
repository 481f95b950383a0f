-- The texts of a group in a table, and a call that meets its buffer with a group's prefix list.
use Rattle.std.specs.Prelude.{ℕ, ◌*◌, ◌≤◌, ◌≡◌, List, [], ◌∷◌, length, take}
use Rattle.std.proofs.Math.Option.{some}
use Rattle.meaning.specs.Bytes.{Text, each}
use Rattle.meaning.specs.Limits.{spec_count}
use Rattle.meaning.specs.Spec.{Answer, accepted, Spec}
use Rattle.meaning.specs.Number.{record_bytes}
use Rattle.meaning.specs.Lists.{read_specs}
use Rattle.meaning.specs.Prefix.{expand_prefixes}
use Rattle.meaning.specs.Buffers.{Outputs, MeetsOne}
use Rattle.meaning.specs.Entries.{◌and_then◌, IsGroupPrefixes}
use Rattle.prefixes.specs.declared.entry.Entry.{Entry}
use Rattle.prefixes.specs.Distinct.{add_all}
use Rattle.prefixes.specs.Table.{table_texts, Entries}

-- the texts that the specs of a group yield, in first-seen order, each once
unfoldable pub group_texts : ℕ → List Spec → List Text
group_texts op group = add_all [] (each group (expand_prefixes op))

-- the prefix list of the group that a spec list holds, in first-seen order
unfoldable pub group_prefixes : ℕ → Text → Answer Outputs
group_prefixes op specs = read_specs op specs and_then λ group. accepted (some (record_bytes (group_texts op group)) ∷ [])

-- a spec yields at most six texts, a group so many
abbrev pub texts_most : ℕ
texts_most = 6 * spec_count

-- room for the texts of n specs
abbrev pub table_room : ℕ → ℕ
table_room n = 6 * n

-- the first c entries of a table hold them
pub record Collected (op : ℕ) (specs : Text) (group : List Spec) (table : List Entry) (c : ℕ) : Type 0 where
  pub room : c ≤ length table
  pub entries : Entries (length specs) (take c table)
  pub holds : table_texts specs (take c table) ≡ group_texts op group
  pub few : c ≤ texts_most

-- what document 01 says of it: the prefix list of the group that a spec list holds, in some order, meets the buffer, and three numbers
-- tell so
pub record MeetsPrefixes (op : ℕ) (specs entry exit : Text) (refusal record_number size : ℕ) : Type 0 where
  pub answer : Answer Outputs
  pub is : IsGroupPrefixes op specs answer
  pub meets : MeetsOne answer entry exit refusal record_number size
