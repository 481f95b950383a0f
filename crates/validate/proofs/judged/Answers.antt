-- Where there are conflicts, they are told and the fix buffer is left alone. Assumes nothing.
use Rattle.validate.proofs.Entry.{size_none, calm-told, conflicts-short, conflicts-told}
use borrow.Author.Rules.{rules}
use Rattle.validate.proofs.judged.Goals as goal

pub passed-requires : goal.passed-requires
passed-requires c = (search rules, search size_none)

pub returns-then-size-eq0 : goal.returns-then-size-eq0
returns-then-size-eq0 c = search calm-told

pub returns-then-room-size : goal.returns-then-room-size
returns-then-room-size c = search conflicts-short

pub returns : goal.returns
returns c = search conflicts-told
