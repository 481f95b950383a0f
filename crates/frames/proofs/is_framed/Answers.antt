-- `frames::is_framed` meets its contract: a candidate is the partial name in its frame.
use Rattle.frames.proofs.Candidates.{pieces}
use Rattle.frames.proofs.Seeking.{names-not, leads-not, trails-told}
use Rattle.frames.proofs.is_framed.Goals as goal

pub returns-then-not-begins : goal.returns-then-not-begins
returns-then-not-begins c =
    let f = c.frame_of-f.result in
    let e = pieces c.args.t.now c.args.k c.requires.0 f.leading.now f.trailing.now c.frame_of-f.ensures in
    search names-not

pub returns-else-begins : goal.returns-else-begins
returns-else-begins c =
    let f = c.frame_of-f.result in
    let e = pieces c.args.t.now c.args.k c.requires.0 f.leading.now f.trailing.now c.frame_of-f.ensures in
    search leads-not

pub returns-then-begins : goal.returns-then-begins
returns-then-begins c =
    let f = c.frame_of-f.result in
    let e = pieces c.args.t.now c.args.k c.requires.0 f.leading.now f.trailing.now c.frame_of-f.ensures in
    search trails-told
