-- `frames::put_record` meets its contract: the bytes stand right after their number.
use Rattle.number.proofs.Texts.{number-room, text-room, text-put, text-ends}
use Rattle.frames.proofs.Candidates.{candidate-number}
use Rattle.frames.proofs.put_record.Goals as goal

pub put-i-requires : goal.put-i-requires
put-i-requires c = (search candidate-number, search number-room)

pub put_candidate-requires : goal.put_candidate-requires
put_candidate-requires c = (c.requires.0, search text-room)

pub returns : goal.returns
returns c = (search text-put, search text-ends)
