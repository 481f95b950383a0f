-- Answers and their buffers, computed: success, each kind of refusal, 17 in either buffer, a conflict against a pass, nothing to write against no bytes.
use Rattle.std.specs.Prelude.{ℕ, suc, ◌≡◌, refl, List, [], ◌∷◌}
use Rattle.std.proofs.Common.{arith, sym, ap, ◌∙◌, lit≤}
use Rattle.std.proofs.Math.Option.{Option, none, some}
use Rattle.meaning.specs.Bytes.{Text, bytes}
use Rattle.meaning.specs.Spec.{Answer, accepted, refused}
use Rattle.meaning.specs.Buffers.{Outputs, refuses, short, writes, outcome, Told, Tells, LengthBeside, Meets, MeetsOne, MeetsMaybe, MeetsTwo}

-- what is told, written short
abbrev told : ℕ → Option ℕ → List (Option ℕ) → ℕ → ℕ → Told
told n r l i k = record { refusal = n; record_number = r; lengths = l; buffer = i; beside = k }

-- kept rows and a fix
abbrev pass : Answer Outputs
pass = accepted (some (bytes "ab") ∷ some (bytes "c") ∷ [])

-- kept rows and no fix
abbrev pass_without_fix : Answer Outputs
pass_without_fix = accepted (some (bytes "ab") ∷ some [] ∷ [])

-- conflicts: the fix buffer is left alone
abbrev conflict : Answer Outputs
conflict = accepted (some (bytes "ab") ∷ none ∷ [])

-- two buffers with room
abbrev room : List Text
room = bytes "xyz" ∷ bytes "kl" ∷ []

-- all is written over the front, the rest is kept, and every field is told
pub written : Meets pass room (bytes "abz" ∷ bytes "cl" ∷ []) (told 0 none (some 2 ∷ some 1 ∷ []) 0 0)
written = record { buffers-are = refl; tells = record { refusal_is = refl; record_is = refl; lengths-are = refl; buffer-is = refl; beside-is = refl } }

-- a conflict leaves the fix buffer alone, and says so
pub conflict-written : Meets conflict room (bytes "abz" ∷ bytes "kl" ∷ []) (told 0 none (some 2 ∷ none ∷ []) 0 0)
conflict-written = record { buffers-are = refl; tells = record { refusal_is = refl; record_is = refl; lengths-are = refl; buffer-is = refl; beside-is = refl } }

-- how many parts were written
abbrev parts_written : List (Option ℕ) → ℕ
parts_written [] = 0
parts_written (none ∷ l) = parts_written l
parts_written (some n ∷ l) = suc (parts_written l)

-- a conflict is never told as a pass, where bytes and buffers are the same
pub conflict-no-pass : (t : Told) → Tells (outcome conflict room) t → Tells (outcome pass_without_fix room) t → ⊥
conflict-no-pass t c p = omega (arith, ap parts_written (sym c.lengths-are ∙ p.lengths-are))

-- a refusal with a record's number, and one without: nothing is written
pub refusals :
    Meets (refused 13 (some 4)) room room (told 13 (some 4) [] 0 0)
    × Meets (refused 12 none) room room (told 12 none [] 0 0)
refusals = (
  record { buffers-are = refl; tells = record { refusal_is = refl; record_is = refl; lengths-are = refl; buffer-is = refl; beside-is = refl } },
  record { buffers-are = refl; tells = record { refusal_is = refl; record_is = refl; lengths-are = refl; buffer-is = refl; beside-is = refl } },
)

-- the first buffer that is too short for its part, and what it needs
pub shorts :
    (outcome pass (bytes "x" ∷ [] ∷ []) ≡ short 1 2)
    × (outcome pass (bytes "xy" ∷ [] ∷ []) ≡ short 2 1)
    × (outcome conflict (bytes "xy" ∷ [] ∷ []) ≡ writes (some (bytes "ab") ∷ none ∷ []))
    × (outcome pass_without_fix (bytes "xy" ∷ [] ∷ []) ≡ writes (some (bytes "ab") ∷ some [] ∷ []))
    × (outcome pass [] ≡ short 1 2)
    × (outcome pass (bytes "xy" ∷ []) ≡ short 2 1)
    × (outcome (refused 5 none) [] ≡ refuses 5 none)
shorts = (refl, refl, refl, refl, refl, refl, refl)

-- 17 in the first buffer and in the second: nothing is written
pub seventeens :
    Meets pass (bytes "x" ∷ [] ∷ []) (bytes "x" ∷ [] ∷ []) (told 17 none [] 1 2)
    × Meets pass (bytes "xyz" ∷ [] ∷ []) (bytes "xyz" ∷ [] ∷ []) (told 17 none [] 2 2)
seventeens = (
  record { buffers-are = refl; tells = record { refusal_is = refl; record_is = refl; lengths-are = refl; buffer-is = refl; beside-is = record { at_least = lit≤ tt; at_most = lit≤ tt } } },
  record { buffers-are = refl; tells = record { refusal_is = refl; record_is = refl; lengths-are = refl; buffer-is = refl; beside-is = record { at_least = lit≤ tt; at_most = lit≤ tt } } },
)

-- beside 17, where 3 bytes are needed: 3 and 6 may stand, 2 and 7 may not
pub lengths-beside : LengthBeside 3 3 × LengthBeside 3 6 × (LengthBeside 3 2 → ⊥) × (LengthBeside 3 7 → ⊥)
lengths-beside = (record { at_least = lit≤ tt; at_most = lit≤ tt }, record { at_least = lit≤ tt; at_most = lit≤ tt }, (λ b. omega (arith, b.at_least)), (λ b. omega (arith, b.at_most)))

-- one buffer, three numbers: written, short, refused
pub ones :
    MeetsOne (accepted (some (bytes "ab") ∷ [])) (bytes "xyz") (bytes "abz") 0 0 2
    × MeetsOne (accepted (some (bytes "ab") ∷ [])) (bytes "x") (bytes "x") 17 0 2
    × MeetsOne (refused 10 (some 3)) (bytes "x") (bytes "x") 10 3 0
ones = (
  record {
    told = told 0 none (some 2 ∷ []) 0 0;
    meets = record { buffers-are = refl; tells = record { refusal_is = refl; record_is = refl; lengths-are = refl; buffer-is = refl; beside-is = refl } };
    refusal_is = refl;
    record_is = refl;
    size_is = refl;
  },
  record {
    told = told 17 none [] 1 2;
    meets =
        record { buffers-are = refl; tells = record { refusal_is = refl; record_is = refl; lengths-are = refl; buffer-is = refl; beside-is = record { at_least = lit≤ tt; at_most = lit≤ tt } } };
    refusal_is = refl;
    record_is = refl;
    size_is = refl;
  },
  record {
    told = told 10 (some 3) [] 0 0;
    meets = record { buffers-are = refl; tells = record { refusal_is = refl; record_is = refl; lengths-are = refl; buffer-is = refl; beside-is = refl } };
    refusal_is = refl;
    record_is = refl;
    size_is = refl;
  },
)

-- one buffer that may be left alone, four numbers: written, written without a byte, nothing to write, short, refused
pub maybes :
    MeetsMaybe (accepted (some (bytes "ab") ∷ [])) (bytes "xyz") (bytes "abz") 0 0 1 2
    × MeetsMaybe (accepted (some [] ∷ [])) [] [] 0 0 1 0
    × MeetsMaybe (accepted (none ∷ [])) (bytes "x") (bytes "x") 0 0 0 0
    × MeetsMaybe (accepted (some (bytes "ab") ∷ [])) (bytes "x") (bytes "x") 17 0 0 2
    × MeetsMaybe (refused 8 (some 2)) (bytes "x") (bytes "x") 8 2 0 0
maybes = (
  record {
    told = told 0 none (some 2 ∷ []) 0 0;
    meets = record { buffers-are = refl; tells = record { refusal_is = refl; record_is = refl; lengths-are = refl; buffer-is = refl; beside-is = refl } };
    refusal_is = refl;
    record_is = refl;
    mark-is = refl;
    size_is = refl;
  },
  record {
    told = told 0 none (some 0 ∷ []) 0 0;
    meets = record { buffers-are = refl; tells = record { refusal_is = refl; record_is = refl; lengths-are = refl; buffer-is = refl; beside-is = refl } };
    refusal_is = refl;
    record_is = refl;
    mark-is = refl;
    size_is = refl;
  },
  record {
    told = told 0 none (none ∷ []) 0 0;
    meets = record { buffers-are = refl; tells = record { refusal_is = refl; record_is = refl; lengths-are = refl; buffer-is = refl; beside-is = refl } };
    refusal_is = refl;
    record_is = refl;
    mark-is = refl;
    size_is = refl;
  },
  record {
    told = told 17 none [] 1 2;
    meets =
        record { buffers-are = refl; tells = record { refusal_is = refl; record_is = refl; lengths-are = refl; buffer-is = refl; beside-is = record { at_least = lit≤ tt; at_most = lit≤ tt } } };
    refusal_is = refl;
    record_is = refl;
    mark-is = refl;
    size_is = refl;
  },
  record {
    told = told 8 (some 2) [] 0 0;
    meets = record { buffers-are = refl; tells = record { refusal_is = refl; record_is = refl; lengths-are = refl; buffer-is = refl; beside-is = refl } };
    refusal_is = refl;
    record_is = refl;
    mark-is = refl;
    size_is = refl;
  },
)

-- two buffers, six numbers: a conflict, a pass, and the fix buffer too short
pub twos :
    MeetsTwo conflict (bytes "xyz") (bytes "kl") (bytes "abz") (bytes "kl") 0 0 1 2 0 0
    × MeetsTwo pass_without_fix (bytes "xyz") (bytes "kl") (bytes "abz") (bytes "kl") 0 0 0 2 0 0
    × MeetsTwo pass (bytes "xyz") [] (bytes "xyz") [] 17 0 0 1 0 2
twos = (
  record {
    told = told 0 none (some 2 ∷ none ∷ []) 0 0;
    meets = record { buffers-are = refl; tells = record { refusal_is = refl; record_is = refl; lengths-are = refl; buffer-is = refl; beside-is = refl } };
    refusal_is = refl;
    record_is = refl;
    mark-is = refl;
    size_is = refl;
    fixes-size-is = refl;
    buffer-is = refl;
  },
  record {
    told = told 0 none (some 2 ∷ some 0 ∷ []) 0 0;
    meets = record { buffers-are = refl; tells = record { refusal_is = refl; record_is = refl; lengths-are = refl; buffer-is = refl; beside-is = refl } };
    refusal_is = refl;
    record_is = refl;
    mark-is = refl;
    size_is = refl;
    fixes-size-is = refl;
    buffer-is = refl;
  },
  record {
    told = told 17 none [] 2 1;
    meets =
        record { buffers-are = refl; tells = record { refusal_is = refl; record_is = refl; lengths-are = refl; buffer-is = refl; beside-is = record { at_least = lit≤ tt; at_most = lit≤ tt } } };
    refusal_is = refl;
    record_is = refl;
    mark-is = refl;
    size_is = refl;
    fixes-size-is = refl;
    buffer-is = refl;
  },
)
