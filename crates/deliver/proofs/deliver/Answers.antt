-- `deliver::deliver` meets its contract: each answer is one of the questions, in order.
use Rattle.deliver.proofs.Inputs.{input-long, number-within, number-malformed, number-parts, delivered}
use borrow.Author.Rules.{rules}
use Rattle.deliver.proofs.deliver.Goals as goal

pub returns-then-input-gt-PROGRAM_BYTES : goal.returns-then-input-gt-PROGRAM_BYTES
returns-then-input-gt-PROGRAM_BYTES c = delivered _ _ _ _ (search input-long)

pub print_parts-requires : goal.print_parts-requires
print_parts-requires c = (search number-within, search rules)

pub returns-in-Some : goal.returns-in-Some
returns-in-Some c = delivered _ _ _ _ (search number-parts)

pub returns-in-None : goal.returns-in-None
returns-in-None c = delivered _ _ _ _ (search number-malformed)
