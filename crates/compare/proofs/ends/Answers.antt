-- `compare::ends` meets its contract: every text ends with no bytes; else the last bytes of s, as many as p has, begin with p.
use mathlib.Core.Path.{sym, ◌∙◌}
use borrow.Author.Tests.{eqb-true}
use Rattle.compare.proofs.Sames.{ends-by-begins, ends-never, ends-empty}
use Rattle.compare.proofs.ends.Goals as goal

pub returns-then-is_empty : goal.returns-then-is_empty
returns-then-is_empty c = ends-empty _ _ (eqb-true _ _ (sym c.is_empty.ensures ∙ c.if-is_empty.true))

pub returns-then-s-p : goal.returns-then-s-p
returns-then-s-p c = search ends-never

pub returns : goal.returns
returns c = search ends-by-begins
