-- `spec_list::next_spec` meets its contract: the end, then 14, then 13, then the questions of the spec.
use Rattle.std.proofs.lemmas.Result.{err_from_is_err_and}
use Rattle.spec_list.proofs.SpecSteps.{spec-full, spec-none, spec-stop, spec-inside, spec-there, spec-own}
use borrow.Author.Rules.{rules}
use Rattle.spec_list.proofs.next_spec.Goals as goal

pub returns-then-count-ge-SPEC_COUNT : goal.returns-then-count-ge-SPEC_COUNT
returns-then-count-ge-SPEC_COUNT c = search spec-full

pub returns-in_err-r : goal.returns-in_err-r
returns-in_err-r c = let p = err_from_is_err_and c.from_residual.result c.from_residual.ensures.1 in rw (p.1, p.2) (search (spec-stop, c.in_err-r.was))

pub returns-in_default : goal.returns-in_default
returns-in_default c = search (spec-none, c.in_ok-r.was)

pub spec_in-requires : goal.spec_in-requires
spec_in-requires c = (search (spec-inside, c.in_ok-r.was), search rules)

pub returns-in_err-spec_in : goal.returns-in_err-spec_in
returns-in_err-spec_in c =
    let p = err_from_is_err_and c.from_residual-in_err-spec_in.result c.from_residual-in_err-spec_in.ensures.1 in
    rw (p.1, p.2) (search (spec-own, c.in_ok-r.was, c.in_err-spec_in.was))

pub returns : goal.returns
returns c = search (spec-there, c.in_ok-r.was, c.in_ok-spec_in.was)
