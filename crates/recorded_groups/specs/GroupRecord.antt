-- The record of a group, by the meaning: what the bytes of a record are where the answer that they tell is ours.
use Rattle.std.specs.Prelude.{ℕ, ◌≡◌, List, ◌∷◌, ◌++◌}
use Rattle.meaning.specs.Bytes.{Text}
use Rattle.meaning.specs.Number.{record_bytes}
use Rattle.meaning.specs.Spec.{Spec, accepted}
use Rattle.meaning.specs.Lists.{read_specs, read_items}
use Rattle.meaning.specs.Rows.{row_list_of}
use Rattle.meaning.specs.Listing.{forward_rows, reverse_rows}
use Rattle.prefixes.specs.Group.{group_texts}
use Rattle.recorded.specs.Record.{sized}

-- an answer: the rows of both listings, and the prefix list
abbrev pub answer_texts : Text → Text → Text → Text
answer_texts rows back prefixes = sized rows ++ (sized back ++ sized prefixes)

-- these bytes are the answer to a spec list and an item list that are accepted, with the group's prefixes in first-seen order
pub record IsGroupAnswer (op : ℕ) (specs items bytes : Text) : Type 0 where
  pub group : List Spec
  pub names : List Text
  pub reads-specs : read_specs op specs ≡ accepted group
  pub reads-items : read_items items ≡ accepted names
  pub is : bytes ≡ answer_texts (row_list_of (forward_rows group names)) (row_list_of (reverse_rows group names)) (record_bytes (group_texts op group))

-- these bytes are the record of some group: the operation, both lists, and the answer
pub record IsGroupRecord (bytes : Text) : Type 0 where
  pub op : ℕ
  pub specs : Text
  pub items : Text
  pub answer : Text
  pub answers : IsGroupAnswer op specs items answer
  pub is : bytes ≡ op ∷ (sized specs ++ (sized items ++ answer))
