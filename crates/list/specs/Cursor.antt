-- What a cursor answers: the record that stands at a place of a list, as places.
use Rattle.std.specs.Prelude.{ℕ, ◌-◌, cond, ltb, length, drop, Option, None, Some, Result, Ok, Err}
use Rattle.meaning.specs.Bytes.{Text}
use Rattle.meaning.specs.Number as meaning
use Rattle.refusal.specs.declared.Refusal.{Refusal}
use Rattle.refusal.specs.Numbers.{question}
use Rattle.list.specs.declared.cursor.Record.{Record}
use Rattle.list.specs.declared.stretch.Stretch.{Stretch}

-- a text that was read, as its place in s: it ends where what is left begins
abbrev pub placed_step : Text → meaning.Step Text → Result (Option (Record Stretch)) Refusal
placed_step s (meaning.took t rest) =
    Ok (Some (record { value = record { at = length s - length rest - length t; len = length t }; next = record { at = length s - length rest } }))
placed_step s (meaning.no n) = Err (question n)

-- what stands at a place of a list; none at or past its end
unfoldable pub step_at : Text → ℕ → Result (Option (Record Stretch)) Refusal
step_at s at = cond (ltb at (length s)) (placed_step s (meaning.read_text (drop at s))) (Ok None)
