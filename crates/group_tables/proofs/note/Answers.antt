-- The matcher is put in its place, and a negative after the others.
use Rattle.group_tables.proofs.Stood.{record-sides, noted-at, added-record}
use borrow.Author.Rules.{rules}
use Rattle.group_tables.proofs.note.Goals as goal

pub returns : goal.returns
returns c = (search noted-at, search added-record)
