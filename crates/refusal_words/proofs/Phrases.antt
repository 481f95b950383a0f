-- No words for a reason are long. Assumes nothing.
use Rattle.std.proofs.Common.{◌≡◌, ℕ, zero, suc, ◌≤◌, Bool, true, leb, List, [], ◌∷◌, length, get_or, refl, arith}
use borrow.Author.Tests.{leb-true}
use Rattle.meaning.specs.Bytes.{Text, every}
use Rattle.promises.proofs.Laws.{and_left, and_right}
use Rattle.refusal_words.specs.Words.{phrases, place_of, reason_words}

-- no phrase has more than sixty bytes
abbrev short : Text → Bool
short t = leb (length t) 60

short-at : (ts : List Text) → every short ts ≡ true → (k : ℕ) → length (get_or ts k []) ≤ 60
short-at [] r k = omega arith
short-at (t ∷ ts) r zero = leb-true (length t) 60 (and_left (short t) (every short ts) r)
short-at (t ∷ ts) r (suc k) = short-at ts (and_right (short t) (every short ts) r) k

pub reason-short : (n : ℕ) → length (reason_words n) ≤ 60
unfolding reason_words
reason-short n = short-at phrases refl (place_of n)
