-- The first byte says which sign there is. Assumes nothing.
use Rattle.refused_line.proofs.Sides.{sign-caret, sign-plus, sign-other}
use borrow.Author.Rules.{rules}
use Rattle.refused_line.proofs.byte.sign_size.Goals as goal

pub returns-then-t-eq94 : goal.returns-then-t-eq94
returns-then-t-eq94 c = (search sign-caret, search rules)

pub returns-then-t-eq43 : goal.returns-then-t-eq43
returns-then-t-eq43 c = (search sign-plus, search rules)

pub returns : goal.returns
returns c = (search sign-other, search rules)
