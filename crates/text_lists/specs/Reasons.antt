-- The numbers of the reasons to refuse a line.
use Rattle.std.specs.Prelude.{ℕ}
use Rattle.refusal.specs.Numbers.{number_of}
use Rattle.text_lists.specs.declared.reason.Reason.{Reason}
use Rattle.text_lists.specs.declared.reason.Reason.TheVariants.{Question, Push, Unknown, Marked, Unsigned, Malformed, Unprinted}

-- the number of a reason; a question has that of document 01
abbrev pub reason_number : Reason → ℕ
reason_number (Question q) = number_of q
reason_number Push = 101
reason_number Unknown = 102
reason_number Marked = 103
reason_number Unsigned = 104
reason_number Malformed = 105
reason_number Unprinted = 106
