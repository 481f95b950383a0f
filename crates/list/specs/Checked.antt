-- What reading a list answers in numbers, and what stands at a place of an item list.
use Rattle.std.specs.Prelude.{ℕ, cond, List, ltb, length, drop, Option, None, Result, Ok, Err}
use Rattle.meaning.specs.Bytes.{Text}
use Rattle.meaning.specs.Spec.{Answer, accepted, refused}
use Rattle.meaning.specs.Buffers.{or_zero}
use Rattle.meaning.specs.Lists.{item_record}
use Rattle.refusal.specs.declared.Refusal.{Refusal}
use Rattle.refusal.specs.Numbers.{number_of}
use Rattle.list.specs.declared.cursor.Record.{Record}
use Rattle.list.specs.declared.refused.Refused.{Refused}
use Rattle.list.specs.declared.stretch.Stretch.{Stretch}
use Rattle.list.specs.Cursor.{placed_step}

-- a list that was read, in numbers: a refusal's number or 0, the number of the record that it carries, and how many records were accepted;
-- a number without a meaning is 0
pub record Checked : Type 0 where
  pub refusal : ℕ
  pub «record» : ℕ
  pub count : ℕ

-- what the code answers, in numbers: no two answers have the same numbers, as no refusal has the number 0
abbrev pub numbers_of : Result ℕ Refused → Checked
numbers_of (Ok n) = record { refusal = 0; «record» = 0; count = n }
numbers_of (Err e) = record { refusal = number_of e.refusal; «record» = e.«record»; count = 0 }

-- a refusal with the number of a record
abbrev pub carrying : Refusal → ℕ → Refused
carrying e n = record { refusal = e; «record» = n }

-- an answer on the record with a number: a refusal carries it
abbrev pub numbered : {A : Type 0} → Result A Refusal → ℕ → Result A Refused
numbered (Ok a) j = Ok a
numbered (Err e) j = Err (carrying e j)

-- an answer on a list in numbers: how many records were accepted, or the refusal and its record
abbrev pub checked : {A : Type 0} → Answer (List A) → Checked
checked (accepted l) = record { refusal = 0; «record» = 0; count = length l }
checked (refused n r) = record { refusal = n; «record» = or_zero r; count = 0 }

-- the item with number j at a place of a list; none at or past its end
unfoldable pub item_at : ℕ → Text → ℕ → Result (Option (Record Stretch)) Refusal
item_at j s at = cond (ltb at (length s)) (placed_step s (item_record j (drop at s))) (Ok None)
