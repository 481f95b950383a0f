-- The numbers of the questions, as document 01 has them.
use Rattle.std.specs.Prelude.{ℕ, eqb, if◌then◌else◌, Result, Ok, Err}
use Rattle.refusal.specs.declared.Refusal.{Refusal}
use Rattle.refusal.specs.declared.Refusal.TheVariants.{SpecTooLong, Empty, NegativeWithDestination, PushToEmpty, SourceStars, SourceName, DestinationStars, DestinationName, PatternUnbalanced, NegativeEmpty, NegativeObjectHash, ListTooLong, Malformed, TooManyRecords, NameTooLong, RowOutside, BufferTooShort, UnknownOperation}

-- the number of a question
abbrev pub number_of : Refusal → ℕ
number_of SpecTooLong = 1
number_of Empty = 2
number_of NegativeWithDestination = 3
number_of PushToEmpty = 4
number_of SourceStars = 5
number_of SourceName = 6
number_of DestinationStars = 7
number_of DestinationName = 8
number_of PatternUnbalanced = 9
number_of NegativeEmpty = 10
number_of NegativeObjectHash = 11
number_of ListTooLong = 12
number_of Malformed = 13
number_of TooManyRecords = 14
number_of NameTooLong = 15
number_of RowOutside = 16
number_of BufferTooShort = 17
number_of UnknownOperation = 18

-- the question with a number; the last one for each number that none has
abbrev pub question : ℕ → Refusal
question n =
    if eqb n 1 then SpecTooLong else
    if eqb n 2 then Empty else
    if eqb n 3 then NegativeWithDestination else
    if eqb n 4 then PushToEmpty else
    if eqb n 5 then SourceStars else
    if eqb n 6 then SourceName else
    if eqb n 7 then DestinationStars else
    if eqb n 8 then DestinationName else
    if eqb n 9 then PatternUnbalanced else
    if eqb n 10 then NegativeEmpty else
    if eqb n 11 then NegativeObjectHash else
    if eqb n 12 then ListTooLong else
    if eqb n 13 then Malformed else
    if eqb n 14 then TooManyRecords else
    if eqb n 15 then NameTooLong else
    if eqb n 16 then RowOutside else
    if eqb n 17 then BufferTooShort else
    UnknownOperation

-- the number of the question that refuses, or 0
abbrev pub number_or0 : Result (Unit {0}) Refusal → ℕ
number_or0 (Ok u) = 0
number_or0 (Err r) = number_of r
