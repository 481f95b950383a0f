-- `answer_agrees` meets its contract: the forward listing stands before the rest of the answer. Assumes nothing.
use Rattle.number.proofs.Round.{octets-of}
use Rattle.recorded_groups.proofs.Fields.{lhs-found}
use Rattle.recorded_groups.proofs.Answers.{answer-differs, answer-whole}
use Rattle.recorded_groups.proofs.answer_agrees.Goals as goal

pub returns-in-Some : goal.returns-in-Some
returns-in-Some c = let o = octets-of c.args.told.now c.type_inv.told in search (answer-whole, lhs-found)

pub returns-in-None : goal.returns-in-None
returns-in-None c = let o = octets-of c.args.told.now c.type_inv.told in search (answer-differs, lhs-found)
