-- `filter::frame_adds` meets its contract: each arm is one frame.
use Rattle.filter.proofs.Looks.{adds-nothing, adds-refs, adds-tags, adds-heads, adds-remotes, adds-head, adds_none}
use Rattle.filter.proofs.frame_adds.Goals as goal

pub returns-in-0 : goal.returns-in-0
returns-in-0 c = search adds-nothing

pub returns-in-5 : goal.returns-in-5
returns-in-5 c = search adds-refs

pub returns-in-10 : goal.returns-in-10
returns-in-10 c = search adds-tags

pub returns-in-11 : goal.returns-in-11
returns-in-11 c = search adds-heads

pub returns-in-13 : goal.returns-in-13
returns-in-13 c = search adds-remotes

pub returns-in-18 : goal.returns-in-18
returns-in-18 c = search adds-head

pub returns-in_default : goal.returns-in_default
returns-in_default c = search adds_none
