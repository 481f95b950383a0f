-- `spec_list::spec_in` meets its contract: what reading the record's bytes answers, as places in the list.
use Rattle.std.proofs.lemmas.Result.{err_from_is_err_and}
use Rattle.spec_list.proofs.SpecSteps.{spec-turned, spec-sides, spec-means, spec-within}
use borrow.Author.Rules.{rules}
use Rattle.spec_list.proofs.spec_in.Goals as goal

pub shifted-requires : goal.shifted-requires
shifted-requires c = (search (spec-sides, c.in_ok-r.was), search rules)

pub returns : goal.returns
returns c = (search (spec-means, c.in_ok-r.was), search (spec-within, c.in_ok-r.was))

pub returns-in_err-r : goal.returns-in_err-r
returns-in_err-r c =
    let p = err_from_is_err_and c.from_residual.result c.from_residual.ensures.1 in
    rw (p.1, p.2) (search (spec-turned, c.in_err-r.was))
