-- The lists that are gathered are read back, as the specs and the names of the lines, and what is printed for them is their listing.
use Rattle.std.specs.Prelude.{◌≡◌, not, ◌++◌, map, leb, length}
use Rattle.meaning.specs.Bytes.{Text, bytes, each, begins}
use Rattle.meaning.specs.Limits.{program_bytes}
use Rattle.meaning.specs.Spec.{accepted, spec_of}
use Rattle.meaning.specs.Number.{record_bytes}
use Rattle.meaning.specs.Lists.{read_specs, read_items}
use Rattle.meaning.specs.Listing.{forward_rows}
use Rattle.meaning.specs.Deliveries.{row_line, header, within_limit, printed, output}
use Rattle.text_lists.specs.Gather.{gathered}

-- the listing of the specs and the names of the lines
unfoldable pub printed_listing : Text → Text
printed_listing s = header ++ each (forward_rows (map (spec_of 0) (gathered s).specs) (gathered s).names) row_line

-- both lists are accepted; for them the listing is printed, or 17 where it is too long, and only then a text that begins `refused `
pub record ReadsBack (s : Text) : Type 0 where
  pub specs-read : read_specs 0 (record_bytes (gathered s).specs) ≡ accepted (map (spec_of 0) (gathered s).specs)
  pub names-read : read_items (record_bytes (gathered s).names) ≡ accepted (gathered s).names
  pub prints : printed (record_bytes (gathered s).specs) (record_bytes (gathered s).names) ≡ within_limit (printed_listing s)
  pub long-marked : begins (bytes "refused ") (output (printed (record_bytes (gathered s).specs) (record_bytes (gathered s).names))) ≡ not (leb (length (printed_listing s)) program_bytes)
