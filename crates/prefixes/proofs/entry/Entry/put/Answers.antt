-- Each branch is one kind of entry. Assumes nothing.
use Rattle.prefixes.proofs.Texts.{framed-name, framed-room, framed-put, framed-ends, head-room, head-put, head-ends}
use borrow.Author.Rules.{rules}
use Rattle.prefixes.proofs.entry.Entry.put.Goals as goal

pub put_record-requires : goal.put_record-requires
put_record-requires c = (search rules, search framed-name, search framed-room)

pub returns-then-self-lt-FRAMES : goal.returns-then-self-lt-FRAMES
returns-then-self-lt-FRAMES c = (search framed-put, search framed-ends)

pub put-requires : goal.put-requires
put-requires c = search head-room

pub returns-else-self-lt-FRAMES : goal.returns-else-self-lt-FRAMES
returns-else-self-lt-FRAMES c = (search head-put, search head-ends)
