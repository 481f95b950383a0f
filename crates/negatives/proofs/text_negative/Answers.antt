-- `negatives::text_negative` meets its contract: the first star stands in the text, or there is none.
use Rattle.negatives.proofs.Forms.{text-literal, text-glob}
use Rattle.negatives.proofs.text_negative.Goals as goal

pub returns-in-Some : goal.returns-in-Some
returns-in-Some c = let h = c.in-Some.ensures in search text-glob

pub returns-in-None : goal.returns-in-None
returns-in-None c = let h = c.in-None.ensures in search text-literal
