-- What was measured fits and is written, or 17 is told.
use native.Mathlib.Omega.{arith}
use Rattle.negatives.specs.Negatives.{excluded_by}
use Rattle.match_group.proofs.Writes.{first_fits, first-noted, all_noted}
use Rattle.match_group.proofs.Entry.{list-short, list-fits, list_written}
use borrow.Author.Rules.{rules}
use Rattle.match_group.proofs.group.list_rows.Goals as goal

pub returns-then-out-size : goal.returns-then-out-size
returns-then-out-size g c = search list-short

pub put_listing-requires : goal.put_listing-requires
put_listing-requires g c =
    let x = c.args in
    let room = c.requires.3 in
    let first = c.first_found-objects.ensures in
    let rows = c.specs_found-found.ensures in
    let a = first.2 in
    let b = rows.2 in (
      search rules,
      search rules,
      search rules,
      omega (arith, c.requires.4),
      omega (arith, c.requires.5),
      search first-noted,
      search first_fits,
      search all_noted,
      list-fits g.D.Direction.back (excluded_by x.specs.now x.negatives.now x.scope.negatives) x.specs.now x.table.now x.scope.specs x.items.now x.places.now x.scope.names _ _ first.0 rows.0 x.out.now (omega (arith, c.if-out-size.false)),
    )

pub returns : goal.returns
returns g c = search list_written
