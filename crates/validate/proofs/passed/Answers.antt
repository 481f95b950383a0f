-- Neither the kept rows nor the fixes are longer than the row list. Assumes nothing.
use Rattle.kept_rows.proofs.Walks.{kept-within, fixes-within}
use borrow.Author.Rules.{rules}
use Rattle.validate.proofs.passed.Goals as goal

pub written-requires : goal.written-requires
written-requires c = (search rules, search rules, search kept-within, search fixes-within)
