-- Each arm is one answer of reading. Assumes nothing.
use Rattle.parse.proofs.Answers.{read-within, read-size}
use Rattle.write.proofs.Texts.{bstring-accepted, bstring-refused}
use Rattle.write.proofs.to_bstring.Goals as goal

pub write_to-requires : goal.write_to-requires
write_to-requires c = (search read-within, search read-size)

pub returns-in-Ok : goal.returns-in-Ok
returns-in-Ok c = search bstring-accepted

pub returns-in-Err : goal.returns-in-Err
returns-in-Err c = search bstring-refused
