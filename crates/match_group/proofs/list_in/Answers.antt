-- What was noted of the group is listed on the names, once they are read.
use Rattle.match_group.proofs.Entry.{specs-ready, specs-askable, items-turned, items-placed, rows-listed}
use borrow.Author.Rules.{rules}
use Rattle.match_group.proofs.list_in.Goals as goal

pub returns-in-Err : goal.returns-in-Err
returns-in-Err g c = search items-turned

pub list_group-requires : goal.list_group-requires
list_group-requires g c =
    let a = c.args in
    let group = c.requires.0 in
    let noted = c.note_group-count.ensures in (
      specs-ready _ a.records a.n group _ _ _ noted (search rules),
      search items-placed,
      specs-askable _ a.records a.n group _ _ _ noted,
    )

pub returns : goal.returns
returns g c =
    let a = c.args in
    let noted = c.note_group-count.ensures in
    let read = c.read_places.ensures in
    let listed = c.list_group.ensures in
    rows-listed _ a.records a.n c.requires.0 _ _ _ noted g.D.Direction.back _ _ _ _ _ read _ (search rules) _ _ _ _ listed
