-- All hits were noted and are written, or the specs are searched again.
use Rattle.match_group.proofs.Writes.{taken-long, all-good, all_room, all-put}
use borrow.Author.Rules.{rules}
use Rattle.match_group.proofs.group.put_listing.Goals as goal

pub slice_bounds-put_hits-end-2 : goal.slice_bounds-put_hits-end-2
slice_bounds-put_hits-end-2 g c = search taken-long

pub put_hits-requires : goal.put_hits-requires
put_hits-requires g c =
    let p = c.requires.1 in
    let e = c.requires.7 in
    let fits = c.requires.8 in
    let h = c.if-hits-all.false in
    (search rules, search rules, search all-good, search all_room)

pub returns : goal.returns
returns g c =
    let p = c.requires.1 in
    let e = c.requires.7 in
    let h = c.if-hits-all.false in
    let q = c.put_hits.ensures in
    search all-put
