-- Each branch is one kind of entry. Assumes nothing.
use Rattle.prefixes.proofs.Texts.{framed-spell-room, framed-spelt, framed-length, head-spelt, head-length}
use borrow.Author.Rules.{rules}
use Rattle.prefixes.proofs.entry.Entry.spell.Goals as goal

pub put_candidate-requires : goal.put_candidate-requires
put_candidate-requires c = (search rules, search framed-spell-room)

pub returns-then-self-lt-FRAMES : goal.returns-then-self-lt-FRAMES
returns-then-self-lt-FRAMES c = (search framed-spelt, search framed-length)

pub returns-else-self-lt-FRAMES : goal.returns-else-self-lt-FRAMES
returns-else-self-lt-FRAMES c = (search head-spelt, search head-length)
