-- `text::has_byte` meets its contract: std asks each byte of the text.
use Rattle.text.proofs.Scans.{byte-in}
use Rattle.text.proofs.has_byte.Goals as goal

pub returns : goal.returns
returns c = byte-in c.args.b c.args.s.now _ c.contains.ensures.value
