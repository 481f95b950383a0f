-- What is written is what the verdict says. Assumes nothing.
use Rattle.validate.proofs.Entry.{passes-told}
use Rattle.validate.proofs.written.Goals as goal

pub returns : goal.returns
returns c = search passes-told
