-- Each question has a number of its own, from 1 to 18.
use Rattle.std.proofs.Common.{◌≡◌, ℕ, zero, suc, ◌≤◌, ◌<◌, refl, arith}
use Rattle.refusal.specs.declared.Refusal.{Refusal}
use Rattle.refusal.specs.declared.Refusal.TheVariants.{SpecTooLong, Empty, NegativeWithDestination, PushToEmpty, SourceStars, SourceName, DestinationStars, DestinationName, PatternUnbalanced, NegativeEmpty, NegativeObjectHash, ListTooLong, Malformed, TooManyRecords, NameTooLong, RowOutside, BufferTooShort, UnknownOperation}
use Rattle.refusal.specs.Numbers.{number_of, question}

-- the question with the number of a question is that one
pub question-number_of : (r : Refusal) → question (number_of r) ≡ r
question-number_of SpecTooLong = refl
question-number_of Empty = refl
question-number_of NegativeWithDestination = refl
question-number_of PushToEmpty = refl
question-number_of SourceStars = refl
question-number_of SourceName = refl
question-number_of DestinationStars = refl
question-number_of DestinationName = refl
question-number_of PatternUnbalanced = refl
question-number_of NegativeEmpty = refl
question-number_of NegativeObjectHash = refl
question-number_of ListTooLong = refl
question-number_of Malformed = refl
question-number_of TooManyRecords = refl
question-number_of NameTooLong = refl
question-number_of RowOutside = refl
question-number_of BufferTooShort = refl
question-number_of UnknownOperation = refl

-- no question has the number 0
pub number_of-positive : (r : Refusal) → 0 < number_of r
number_of-positive SpecTooLong = omega arith
number_of-positive Empty = omega arith
number_of-positive NegativeWithDestination = omega arith
number_of-positive PushToEmpty = omega arith
number_of-positive SourceStars = omega arith
number_of-positive SourceName = omega arith
number_of-positive DestinationStars = omega arith
number_of-positive DestinationName = omega arith
number_of-positive PatternUnbalanced = omega arith
number_of-positive NegativeEmpty = omega arith
number_of-positive NegativeObjectHash = omega arith
number_of-positive ListTooLong = omega arith
number_of-positive Malformed = omega arith
number_of-positive TooManyRecords = omega arith
number_of-positive NameTooLong = omega arith
number_of-positive RowOutside = omega arith
number_of-positive BufferTooShort = omega arith
number_of-positive UnknownOperation = omega arith

-- nor one above 18
pub number_of-most : (r : Refusal) → number_of r ≤ 18
number_of-most SpecTooLong = omega arith
number_of-most Empty = omega arith
number_of-most NegativeWithDestination = omega arith
number_of-most PushToEmpty = omega arith
number_of-most SourceStars = omega arith
number_of-most SourceName = omega arith
number_of-most DestinationStars = omega arith
number_of-most DestinationName = omega arith
number_of-most PatternUnbalanced = omega arith
number_of-most NegativeEmpty = omega arith
number_of-most NegativeObjectHash = omega arith
number_of-most ListTooLong = omega arith
number_of-most Malformed = omega arith
number_of-most TooManyRecords = omega arith
number_of-most NameTooLong = omega arith
number_of-most RowOutside = omega arith
number_of-most BufferTooShort = omega arith
number_of-most UnknownOperation = omega arith

-- the number of the question with a number from 1 to 18 is that number
pub number_of-question : (n : ℕ) → 0 < n → n ≤ 18 → number_of (question n) ≡ n
number_of-question zero h _ = absurd (omega arith)
number_of-question (suc zero) _ _ = refl
number_of-question (suc (suc zero)) _ _ = refl
number_of-question (suc (suc (suc zero))) _ _ = refl
number_of-question (suc (suc (suc (suc zero)))) _ _ = refl
number_of-question (suc (suc (suc (suc (suc zero))))) _ _ = refl
number_of-question (suc (suc (suc (suc (suc (suc zero)))))) _ _ = refl
number_of-question (suc (suc (suc (suc (suc (suc (suc zero))))))) _ _ = refl
number_of-question (suc (suc (suc (suc (suc (suc (suc (suc zero)))))))) _ _ = refl
number_of-question (suc (suc (suc (suc (suc (suc (suc (suc (suc zero))))))))) _ _ = refl
number_of-question (suc (suc (suc (suc (suc (suc (suc (suc (suc (suc zero)))))))))) _ _ = refl
number_of-question (suc (suc (suc (suc (suc (suc (suc (suc (suc (suc (suc zero))))))))))) _ _ = refl
number_of-question (suc (suc (suc (suc (suc (suc (suc (suc (suc (suc (suc (suc zero)))))))))))) _ _ = refl
number_of-question (suc (suc (suc (suc (suc (suc (suc (suc (suc (suc (suc (suc (suc zero))))))))))))) _ _ = refl
number_of-question (suc (suc (suc (suc (suc (suc (suc (suc (suc (suc (suc (suc (suc (suc zero)))))))))))))) _ _ = refl
number_of-question (suc (suc (suc (suc (suc (suc (suc (suc (suc (suc (suc (suc (suc (suc (suc zero))))))))))))))) _ _ = refl
number_of-question (suc (suc (suc (suc (suc (suc (suc (suc (suc (suc (suc (suc (suc (suc (suc (suc zero)))))))))))))))) _ _ = refl
number_of-question (suc (suc (suc (suc (suc (suc (suc (suc (suc (suc (suc (suc (suc (suc (suc (suc (suc zero))))))))))))))))) _ _ = refl
number_of-question (suc (suc (suc (suc (suc (suc (suc (suc (suc (suc (suc (suc (suc (suc (suc (suc (suc (suc zero)))))))))))))))))) _ _ = refl
number_of-question (suc (suc (suc (suc (suc (suc (suc (suc (suc (suc (suc (suc (suc (suc (suc (suc (suc (suc (suc n))))))))))))))))))) _ h = absurd (omega arith)
