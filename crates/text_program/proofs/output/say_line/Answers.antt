-- The digits are those that std writes. Assumes nothing.
use Rattle.std.proofs.Common.{rules}
use Rattle.text_program.proofs.Saying.{decimal-numeral}
use Rattle.text_program.proofs.output.say_line.Goals as goal

pub returns : goal.returns
returns g c = rw (← decimal-numeral c.args.number (search rules)) c.write.ensures.bytes
