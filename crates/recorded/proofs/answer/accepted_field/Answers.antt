-- `accepted_field` meets its contract: the fields stand one after another, or one of them differs. Assumes nothing.
use mathlib.Core.Path.{◌∙◌}
use borrow.Author.Rules.{rules}
use Rattle.recorded.proofs.Answers.{first-differs, first-within, second-differs, second-within, third-differs, third-within, fourth-decides}
use Rattle.recorded.proofs.answer.accepted_field.Goals as goal

pub returns-in_err-text : goal.returns-in_err-text
returns-in_err-text c = c.from_residual.ensures ∙ first-differs _ _ _ _ _ c.requires.1 _ c.instruction_field.ensures c.in_err-text.was

pub canonical_field-requires : goal.canonical_field-requires
canonical_field-requires c = (search (first-within, c.instruction_field.ensures, c.in_ok-text.was), search rules)

pub returns-in_err-side : goal.returns-in_err-side
returns-in_err-side c = c.from_residual-in_err-side.ensures ∙ second-differs _ _ _ _ _ c.requires.1 _ c.instruction_field.ensures _ c.in_ok-text.was _ c.canonical_field.ensures c.in_err-side.was

pub prefix_field-requires : goal.prefix_field-requires
prefix_field-requires c = second-within _ _ _ _ _ c.requires.1 _ c.instruction_field.ensures _ c.in_ok-text.was _ c.canonical_field.ensures _ c.in_ok-side.was c.requires.0

pub returns-in_err-list : goal.returns-in_err-list
returns-in_err-list c = c.from_residual-in_err-list.ensures ∙ third-differs _ _ _ _ _ c.requires.1 _ c.instruction_field.ensures _ c.in_ok-text.was _ c.canonical_field.ensures _ c.in_ok-side.was _ c.prefix_field.ensures c.in_err-list.was

pub prefixes_field-requires : goal.prefixes_field-requires
prefixes_field-requires c = (third-within _ _ _ _ _ c.requires.1 _ c.instruction_field.ensures _ c.in_ok-text.was _ c.canonical_field.ensures _ c.in_ok-side.was _ c.prefix_field.ensures _ c.in_ok-list.was c.requires.0, search rules)

pub returns : goal.returns
returns c = fourth-decides _ _ _ _ _ c.requires.1 _ c.instruction_field.ensures _ c.in_ok-text.was _ c.canonical_field.ensures _ c.in_ok-side.was _ c.prefix_field.ensures _ c.in_ok-list.was _ c.prefixes_field.ensures
