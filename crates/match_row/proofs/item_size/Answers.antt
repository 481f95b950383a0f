-- A name that is not matched has no row; the row of one that is is gone, or the one that the ends make.
use Rattle.match_row.proofs.Kept.{hit-none, hit-some, none-measured, gone-measured, kept-measured, source-short, source-within, lent_is}
use borrow.Author.Rules.{rules}
use Rattle.match_row.proofs.item_size.Goals as goal

pub returns-in_default : goal.returns-in_default
returns-in_default g c =
    let t = hit-none _ _ _ _ _ c.hit.ensures (search rules) in
    (search none-measured, search rules)

pub removed-requires : goal.removed-requires
removed-requires g c =
    let t = hit-some _ _ _ _ _ c.hit.ensures _ (search rules) _ c.made-e.ensures in
    (search lent_is, search source-within, search rules, search source-short)

pub returns-then-removed : goal.returns-then-removed
returns-then-removed g c =
    let t = hit-some _ _ _ _ _ c.hit.ensures _ (search rules) _ c.made-e.ensures in
    (search gone-measured, search rules)

pub returns : goal.returns
returns g c =
    let t = hit-some _ _ _ _ _ c.hit.ensures _ (search rules) _ c.made-e.ensures in
    (search kept-measured, search rules)
