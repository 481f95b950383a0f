use Rattle.name.proofs.Standing.{standing-letter}
use Rattle.name.proofs.past_letters.Goals as goal

pub loop-i-preserved : goal.loop-i-preserved
loop-i-preserved c = search standing-letter
