use Rattle.number.proofs.Writing.{putting-room, putting-more, put-ends, put_whole}
use Rattle.number.proofs.put.Goals as goal

pub bounds-out-i : goal.bounds-out-i
bounds-out-i c = search putting-room

pub loop-rest-preserved : goal.loop-rest-preserved
loop-rest-preserved c = search putting-more

pub bounds-out-i-2 : goal.bounds-out-i-2
bounds-out-i-2 c = search putting-room

pub returns : goal.returns
returns c = (search put_whole, search put-ends)
