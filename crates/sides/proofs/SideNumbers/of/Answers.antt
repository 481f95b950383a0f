-- The numbers of a side tell it again.
use borrow.Author.Rules.{rules}
use Rattle.sides.proofs.Told.{side-told}
use Rattle.sides.proofs.SideNumbers.of.Goals as goal

pub returns : goal.returns
returns c = rw (c.side_kind.ensures, c.side_at.ensures, c.side_len.ensures) (search rules, side-told c.args.side)
