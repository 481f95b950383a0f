-- `view::part_viewed` meets its contract: each question has its answer.
use Rattle.std.proofs.lemmas.Result.{err_from_is_err_and}
use Rattle.view.proofs.Sources.{source-specs, source-items, source-outside, source-object, source-beyond, source-item}
use Rattle.view.proofs.part_viewed.Goals as goal

pub returns-in_err-group : goal.returns-in_err-group
returns-in_err-group c = let p = err_from_is_err_and c.from_residual.result c.from_residual.ensures.1 in rw (p.1, p.2) (search (source-specs, c.in_err-group.was))

pub returns-in_err-names : goal.returns-in_err-names
returns-in_err-names c = let p = err_from_is_err_and c.from_residual-in_err-names.result c.from_residual-in_err-names.ensures.1 in rw (p.1, p.2) (search (source-items, c.in_ok-group.was, c.in_err-names.was))

pub returns-then-group-n : goal.returns-then-group-n
returns-then-group-n c = search (source-outside, c.in_ok-group.was, c.in_ok-names.was)

pub returns-then-field-eq0 : goal.returns-then-field-eq0
returns-then-field-eq0 c = search (source-object, c.in_ok-group.was, c.in_ok-names.was)

pub returns-then-names-field : goal.returns-then-names-field
returns-then-names-field c = search (source-beyond, c.in_ok-group.was, c.in_ok-names.was)

pub returns : goal.returns
returns c = search (source-item, c.in_ok-group.was, c.in_ok-names.was)
