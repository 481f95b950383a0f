-- How code shows that a call meets its buffers: for one buffer, for one that may be left alone and for two, a law for each outcome. Assumes nothing.
use Prim.Native.Nat.{ℕ, ◌≤◌, ◌<◌}
use native.Mathlib.Omega.{arith}
use mathlib.Core.Path.{◌≡◌, refl, ap}
use mathlib.Core.List.{[], ◌∷◌, ◌++◌}
use mathlib.Core.Option.{Option, none, some}
use borrow.Author.Tests.{le-leb, lt-leb}
use lib.ListN.{length, drop}
use Rattle.meaning.specs.Bytes.{Text}
use Rattle.meaning.specs.Spec.{Answer, accepted, refused}
use Rattle.meaning.specs.Buffers.{Outputs, Outcome, refuses, short, writes, outcome, buffers_after, Told, lengths_of, Tells, LengthBeside, or_zero, one_length, MeetsOne, written_mark, MeetsMaybe, conflict_mark, second_length, MeetsTwo}

-- what is told of an outcome, with the exact length beside 17
abbrev exactly : Outcome → Told
exactly (refuses n r) = record { refusal = n; record_number = r; lengths = []; buffer = 0; beside = 0 }
exactly (short i needed) = record { refusal = 17; record_number = none; lengths = []; buffer = i; beside = needed }
exactly (writes parts) = record { refusal = 0; record_number = none; lengths = lengths_of (writes parts); buffer = 0; beside = 0 }

-- what is needed may stand beside 17
pub beside-exact : (n : ℕ) → LengthBeside n n
beside-exact n = record { at_least = omega arith; at_most = omega arith }

-- to tell exactly is to tell
pub tells-exactly : (o : Outcome) → Tells o (exactly o)
tells-exactly (refuses n r) = record { refusal_is = refl; record_is = refl; lengths-are = refl; buffer-is = refl; beside-is = refl }
tells-exactly (short i needed) = record { refusal_is = refl; record_is = refl; lengths-are = refl; buffer-is = refl; beside-is = beside-exact needed }
tells-exactly (writes parts) = record { refusal_is = refl; record_is = refl; lengths-are = refl; buffer-is = refl; beside-is = refl }

-- one buffer, by the outcome
meets-one : (a : Answer Outputs) (entry exit : Text) (o : Outcome) → outcome a (entry ∷ []) ≡ o → exit ∷ [] ≡ buffers_after o (entry ∷ []) → MeetsOne a entry exit (exactly o).refusal (or_zero (exactly o).record_number) (one_length (exactly o).lengths (exactly o).beside)
meets-one a entry exit o e b = record { told = exactly o; meets = record { buffers-are = rw e b; tells = rw e (tells-exactly o) }; refusal_is = refl; record_is = refl; size_is = refl }

-- a refusal: nothing is written, its number and its record's are answered, and no length
pub meets-refused : (a : Answer Outputs) (entry exit : Text) (n : ℕ) (r : Option ℕ) (refusal record_number size : ℕ) → a ≡ refused n r → exit ≡ entry → refusal ≡ n → record_number ≡ or_zero r → size ≡ 0 → MeetsOne a entry exit refusal record_number size
meets-refused a entry exit n r refusal record_number size e x p q z = rw (p, q, z) (meets-one a entry exit (refuses n r) (rw e) (ap (λ (t : Text). t ∷ []) x))

-- a buffer that is too short: 17 and what it needs
pub meets-short : (a : Answer Outputs) (entry exit b : Text) (refusal record_number size : ℕ) → a ≡ accepted (some b ∷ []) → length entry < length b → exit ≡ entry → refusal ≡ 17 → record_number ≡ 0 → size ≡ length b → MeetsOne a entry exit refusal record_number size
meets-short a entry exit b refusal record_number size e h x p q z = rw (p, q, z) (meets-one a entry exit (short 1 (length b)) (rw (e, lt-leb (length b) (length entry) h)) (ap (λ (t : Text). t ∷ []) x))

-- a buffer that is long enough: the bytes over its front, the rest kept, and how many they are
pub meets-written : (a : Answer Outputs) (entry exit b : Text) (refusal record_number size : ℕ) → a ≡ accepted (some b ∷ []) → length b ≤ length entry → exit ≡ b ++ drop (length b) entry → refusal ≡ 0 → record_number ≡ 0 → size ≡ length b → MeetsOne a entry exit refusal record_number size
meets-written a entry exit b refusal record_number size e h x p q z = rw (p, q, z) (meets-one a entry exit (writes (some b ∷ [])) (rw (e, le-leb (length b) (length entry) h)) (ap (λ (t : Text). t ∷ []) x))

-- one buffer that may be left alone, by the outcome
meets-maybe : (a : Answer Outputs) (entry exit : Text) (o : Outcome) → outcome a (entry ∷ []) ≡ o → exit ∷ [] ≡ buffers_after o (entry ∷ []) → MeetsMaybe a entry exit (exactly o).refusal (or_zero (exactly o).record_number) (written_mark (exactly o).lengths) (one_length (exactly o).lengths (exactly o).beside)
meets-maybe a entry exit o e b = record { told = exactly o; meets = record { buffers-are = rw e b; tells = rw e (tells-exactly o) }; refusal_is = refl; record_is = refl; mark-is = refl; size_is = refl }

-- a refusal: nothing is written, its number and its record's are answered, no mark and no length
pub maybe-refused : (a : Answer Outputs) (entry exit : Text) (n : ℕ) (r : Option ℕ) (refusal record_number mark size : ℕ) → a ≡ refused n r → exit ≡ entry → refusal ≡ n → record_number ≡ or_zero r → mark ≡ 0 → size ≡ 0 → MeetsMaybe a entry exit refusal record_number mark size
maybe-refused a entry exit n r refusal record_number mark size e x p q m z = rw (p, q, m, z) (meets-maybe a entry exit (refuses n r) (rw e) (ap (λ (t : Text). t ∷ []) x))

-- nothing to write: the buffer is left alone, whatever its length
pub maybe-none : (a : Answer Outputs) (entry exit : Text) (refusal record_number mark size : ℕ) → a ≡ accepted (none ∷ []) → exit ≡ entry → refusal ≡ 0 → record_number ≡ 0 → mark ≡ 0 → size ≡ 0 → MeetsMaybe a entry exit refusal record_number mark size
maybe-none a entry exit refusal record_number mark size e x p q m z = rw (p, q, m, z) (meets-maybe a entry exit (writes (none ∷ [])) (rw e) (ap (λ (t : Text). t ∷ []) x))

-- a buffer that is too short: 17 and what it needs, and no mark
pub maybe-short : (a : Answer Outputs) (entry exit b : Text) (refusal record_number mark size : ℕ) → a ≡ accepted (some b ∷ []) → length entry < length b → exit ≡ entry → refusal ≡ 17 → record_number ≡ 0 → mark ≡ 0 → size ≡ length b → MeetsMaybe a entry exit refusal record_number mark size
maybe-short a entry exit b refusal record_number mark size e h x p q m z = rw (p, q, m, z) (meets-maybe a entry exit (short 1 (length b)) (rw (e, lt-leb (length b) (length entry) h)) (ap (λ (t : Text). t ∷ []) x))

-- a buffer that is long enough: the bytes over its front, perhaps none, the rest kept, the mark, and how many they are
pub maybe-written : (a : Answer Outputs) (entry exit b : Text) (refusal record_number mark size : ℕ) → a ≡ accepted (some b ∷ []) → length b ≤ length entry → exit ≡ b ++ drop (length b) entry → refusal ≡ 0 → record_number ≡ 0 → mark ≡ 1 → size ≡ length b → MeetsMaybe a entry exit refusal record_number mark size
maybe-written a entry exit b refusal record_number mark size e h x p q m z = rw (p, q, m, z) (meets-maybe a entry exit (writes (some b ∷ [])) (rw (e, le-leb (length b) (length entry) h)) (ap (λ (t : Text). t ∷ []) x))

-- two buffers, by the outcome
meets-two : (a : Answer Outputs) (out fixes out_after fixes_after : Text) (o : Outcome) → outcome a (out ∷ fixes ∷ []) ≡ o → out_after ∷ fixes_after ∷ [] ≡ buffers_after o (out ∷ fixes ∷ []) → MeetsTwo a out fixes out_after fixes_after (exactly o).refusal (or_zero (exactly o).record_number) (conflict_mark (exactly o).lengths) (one_length (exactly o).lengths (exactly o).beside) (second_length (exactly o).lengths) (exactly o).buffer
meets-two a out fixes out_after fixes_after o e b =
    record { told = exactly o; meets = record { buffers-are = rw e b; tells = rw e (tells-exactly o) }; refusal_is = refl; record_is = refl; mark-is = refl; size_is = refl; fixes-size-is = refl; buffer-is = refl }

-- both buffers are what they are
both : {s t u v : Text} → s ≡ u → t ≡ v → s ∷ t ∷ [] ≡ u ∷ v ∷ []
both e f = rw (e, f)

-- a refusal: nothing is written, its number and its record's are answered
pub meets-two-refused : (a : Answer Outputs) (out fixes out_after fixes_after : Text) (n : ℕ) (r : Option ℕ) (refusal record_number mark size fixes_size buffer : ℕ) → a ≡ refused n r → out_after ≡ out → fixes_after ≡ fixes → refusal ≡ n → record_number ≡ or_zero r → mark ≡ 0 → size ≡ 0 → fixes_size ≡ 0 → buffer ≡ 0 → MeetsTwo a out fixes out_after fixes_after refusal record_number mark size fixes_size buffer
meets-two-refused a out fixes out_after fixes_after n r refusal record_number mark size fixes_size buffer e x y p q m z w b = rw (p, q, m, z, w, b) (meets-two a out fixes out_after fixes_after (refuses n r) (rw e) (both x y))

-- the first buffer is too short, for conflicts or for rows
pub meets-two-short-first : (a : Answer Outputs) (out fixes out_after fixes_after b : Text) (part : Option Text) (refusal record_number mark size fixes_size buffer : ℕ) → a ≡ accepted (some b ∷ part ∷ []) → length out < length b → out_after ≡ out → fixes_after ≡ fixes → refusal ≡ 17 → record_number ≡ 0 → mark ≡ 0 → size ≡ length b → fixes_size ≡ 0 → buffer ≡ 1 → MeetsTwo a out fixes out_after fixes_after refusal record_number mark size fixes_size buffer
meets-two-short-first a out fixes out_after fixes_after b part refusal record_number mark size fixes_size buffer e h x y p q m z w k = rw (p, q, m, z, w, k) (meets-two a out fixes out_after fixes_after (short 1 (length b)) (rw (e, lt-leb (length b) (length out) h)) (both x y))

-- the fix buffer is too short
pub meets-two-short-second : (a : Answer Outputs) (out fixes out_after fixes_after b c : Text) (refusal record_number mark size fixes_size buffer : ℕ) → a ≡ accepted (some b ∷ some c ∷ []) → length b ≤ length out → length fixes < length c → out_after ≡ out → fixes_after ≡ fixes → refusal ≡ 17 → record_number ≡ 0 → mark ≡ 0 → size ≡ length c → fixes_size ≡ 0 → buffer ≡ 2 → MeetsTwo a out fixes out_after fixes_after refusal record_number mark size fixes_size buffer
meets-two-short-second a out fixes out_after fixes_after b c refusal record_number mark size fixes_size buffer e h g x y p q m z w k = rw (p, q, m, z, w, k) (meets-two a out fixes out_after fixes_after (short 2 (length c)) (rw (e, le-leb (length b) (length out) h, lt-leb (length c) (length fixes) g)) (both x y))

-- conflicts: the first buffer holds them, the fix buffer is left alone
pub meets-two-conflicts : (a : Answer Outputs) (out fixes out_after fixes_after b : Text) (refusal record_number mark size fixes_size buffer : ℕ) → a ≡ accepted (some b ∷ none ∷ []) → length b ≤ length out → out_after ≡ b ++ drop (length b) out → fixes_after ≡ fixes → refusal ≡ 0 → record_number ≡ 0 → mark ≡ 1 → size ≡ length b → fixes_size ≡ 0 → buffer ≡ 0 → MeetsTwo a out fixes out_after fixes_after refusal record_number mark size fixes_size buffer
meets-two-conflicts a out fixes out_after fixes_after b refusal record_number mark size fixes_size buffer e h x y p q m z w k = rw (p, q, m, z, w, k) (meets-two a out fixes out_after fixes_after (writes (some b ∷ none ∷ [])) (rw (e, le-leb (length b) (length out) h)) (both x y))

-- a pass: kept rows and fixes
pub meets-two-passes : (a : Answer Outputs) (out fixes out_after fixes_after b c : Text) (refusal record_number mark size fixes_size buffer : ℕ) → a ≡ accepted (some b ∷ some c ∷ []) → length b ≤ length out → length c ≤ length fixes → out_after ≡ b ++ drop (length b) out → fixes_after ≡ c ++ drop (length c) fixes → refusal ≡ 0 → record_number ≡ 0 → mark ≡ 0 → size ≡ length b → fixes_size ≡ length c → buffer ≡ 0 → MeetsTwo a out fixes out_after fixes_after refusal record_number mark size fixes_size buffer
meets-two-passes a out fixes out_after fixes_after b c refusal record_number mark size fixes_size buffer e h g x y p q m z w k = rw (p, q, m, z, w, k) (meets-two a out fixes out_after fixes_after (writes (some b ∷ some c ∷ [])) (rw (e, le-leb (length b) (length out) h, le-leb (length c) (length fixes) g)) (both x y))
