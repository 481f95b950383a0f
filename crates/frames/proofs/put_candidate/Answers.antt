-- `frames::put_candidate` meets its contract: each piece stands right after the one before it.
use Rattle.frames.proofs.Candidates.{pieces, first-room, second-room, third-room, three-put, three-end}
use Rattle.frames.proofs.put_candidate.Goals as goal

pub put-i-requires : goal.put-i-requires
put-i-requires c =
    let f = c.frame_of-f.result in
    let e = pieces c.args.name.now c.args.k c.requires.0 f.leading.now f.trailing.now c.frame_of-f.ensures in
    search first-room

pub put-j-requires : goal.put-j-requires
put-j-requires c =
    let f = c.frame_of-f.result in
    let e = pieces c.args.name.now c.args.k c.requires.0 f.leading.now f.trailing.now c.frame_of-f.ensures in
    search second-room

pub put-requires : goal.put-requires
put-requires c =
    let f = c.frame_of-f.result in
    let e = pieces c.args.name.now c.args.k c.requires.0 f.leading.now f.trailing.now c.frame_of-f.ensures in
    search third-room

pub returns : goal.returns
returns c =
    let f = c.frame_of-f.result in
    let e = pieces c.args.name.now c.args.k c.requires.0 f.leading.now f.trailing.now c.frame_of-f.ensures in
    (search three-put, search three-end)
