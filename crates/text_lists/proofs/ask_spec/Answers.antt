-- `text_lists::ask_spec` meets its contract: 14, then the questions of the spec, then 12.
use Rattle.std.proofs.lemmas.Result.{err_from_is_err_and}
use Rattle.text_lists.proofs.Reasons.{spec-many, spec-turned, spec-asked}
use Rattle.text_lists.proofs.ask_spec.Goals as goal

pub returns-then-count-ge-SPEC_COUNT : goal.returns-then-count-ge-SPEC_COUNT
returns-then-count-ge-SPEC_COUNT c = search spec-many

pub returns-in_err-parse : goal.returns-in_err-parse
returns-in_err-parse c =
    let p = err_from_is_err_and c.from_residual.result c.from_residual.ensures.1 in
    rw (p.1, p.2) (search (spec-turned, c.in_err-parse.was))

pub returns : goal.returns
returns c = search (spec-asked, c.in_ok-parse.was)
