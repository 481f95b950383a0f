-- The hits of the spec fit, and give what it gives.
use Rattle.match_group.proofs.Writes.{taken-long, spec-fits, spec-good, spec-room, spec-put, noted-long}
use borrow.Author.Rules.{rules}
use Rattle.match_group.proofs.group.put_spec.Goals as goal

pub slice_bounds-put_hits-end : goal.slice_bounds-put_hits-end
slice_bounds-put_hits-end g c = search spec-fits

pub slice_bounds-put_hits-end-2 : goal.slice_bounds-put_hits-end-2
slice_bounds-put_hits-end-2 g c = search (taken-long, spec-fits)

pub put_hits-requires : goal.put_hits-requires
put_hits-requires g c =
    let p = c.requires.1 in
    let l = c.requires.3 in
    let room = c.requires.4 in
    let h = c.requires.6 in
    let a = c.spec_found-x.ensures.2 in
    (search rules, search rules, search spec-good, search spec-room)

pub returns : goal.returns
returns g c = (search spec-put, search noted-long)
