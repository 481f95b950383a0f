-- A row of a listing with its texts as places, and the row that it means.
use Rattle.std.specs.Prelude.{ℕ, suc, ◌+◌, ◌*◌, ◌≤◌, ◌++◌, length}
use Rattle.meaning.specs.Bytes.{Text, or_empty}
use Rattle.meaning.specs.Limits.{spec_list_bytes, name_bytes, item_count, spec_count, number_groups}
use Rattle.meaning.specs.Number.{number_bytes}
use Rattle.meaning.specs.Rows.{Row}
use Rattle.matcher.specs.declared.types.Ends.{Ends}
use Rattle.matcher.specs.Matching.{row_text_meant, RowEndsWithin}
use Rattle.row.specs.declared.Kind.{Kind}
use Rattle.row.specs.declared.Kind.TheVariants as Kind-is
use Rattle.row.specs.declared.Numbers.{Numbers}
use Rattle.row_text.specs.Leads.{row_text_most}

-- the number of a source kind: 0 for a name, 1 for an object
abbrev pub kind_number : Kind → ℕ
kind_number Kind-is.Name = 0
kind_number Kind-is.Object = 1

-- the sizes of a spec list and of a name that were read
pub record ShortTexts (specs name : Text) : Type 0 where
  pub specs-short : length specs ≤ spec_list_bytes
  pub name-short : length name ≤ name_bytes

-- the numbers of a row are small, and its texts stand within the spec list and the name
pub record RowWithin (len name_len : ℕ) (n : Numbers) (e : Ends) : Type 0 where
  pub item-small : n.item ≤ item_count
  pub spec-small : n.spec ≤ spec_count
  pub ends-within : RowEndsWithin len name_len e

-- the row that is meant
unfoldable pub row_of_ends : Text → Text → Numbers → Ends → Row
row_of_ends s name n e =
    record {
      item = n.item;
      spec = n.spec;
      kind = kind_number n.kind;
      source = or_empty (row_text_meant s name e.source);
      destination = row_text_meant s name e.destination;
    }

-- the numbers that a row begins with
abbrev pub row_numbers : Numbers → Text
row_numbers n = number_bytes n.item ++ (number_bytes n.spec ++ number_bytes (kind_number n.kind))

-- a destination that is there: its length plus 1, then its bytes
abbrev pub present_bytes : Text → Text
present_bytes t = number_bytes (suc (length t)) ++ t

-- a text with its length before it has at most so many bytes
abbrev pub text_most : ℕ
text_most = number_groups + row_text_most

-- and a row: three numbers and two such texts
abbrev pub row_most : ℕ
row_most = 3 * number_groups + 2 * text_most
