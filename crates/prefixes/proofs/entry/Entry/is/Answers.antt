-- Each branch is one kind of entry. Assumes nothing.
use Rattle.prefixes.proofs.Texts.{framed-same, head-same}
use Rattle.prefixes.proofs.entry.Entry.is.Goals as goal

pub returns-then-self-lt-FRAMES : goal.returns-then-self-lt-FRAMES
returns-then-self-lt-FRAMES c = search framed-same

pub returns-else-self-lt-FRAMES : goal.returns-else-self-lt-FRAMES
returns-else-self-lt-FRAMES c = search head-same
