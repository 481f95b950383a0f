-- What a call tells of rows that were read.
use Rattle.std.specs.Prelude.{ℕ}
use Rattle.meaning.specs.Bytes.{Text}
use Rattle.meaning.specs.Spec.{accepted}
use Rattle.meaning.specs.Validation.{verdict}
use Rattle.meaning.specs.Entries.{verdict_bytes}
use Rattle.meaning.specs.Buffers.{MeetsTwo}
use Rattle.row_list.specs.Lists.{rows_in}
use Rattle.validate.specs.declared.Validation.{Validation}

-- the verdict on the rows, in two buffers that were `out` and `fixes`
abbrev pub TellsVerdict : ℕ → Text → Text → Text → Text → Text → Validation → Type 0
TellsVerdict specs rows out fixes out_after fixes_after v = MeetsTwo (accepted (verdict_bytes (verdict (rows_in specs rows)))) out fixes out_after fixes_after v.refusal v.«record» v.conflicts v.length v.fixes_length v.buffer
