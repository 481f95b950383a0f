-- `text_lists::add_spec` meets its contract: a spec that nothing refuses is written after those before it.
use Rattle.std.proofs.lemmas.Result.{err_from_is_err_and}
use Rattle.text_lists.proofs.Growth.{spec-refused, spec-room, spec-counts, spec-added}
use borrow.Author.Rules.{rules}
use Rattle.text_lists.proofs.add_spec.Goals as goal

pub returns-in_err-ask_spec : goal.returns-in_err-ask_spec
returns-in_err-ask_spec c =
    let p = err_from_is_err_and c.from_residual.result c.from_residual.ensures.1 in
    rw p.1 (search (spec-refused, c.in_err-ask_spec.was, p.2))

pub put_text-end-requires : goal.put_text-end-requires
put_text-end-requires c = (search (spec-room, c.in_ok-ask_spec.was), search rules)

pub overflow_add-result : goal.overflow_add-result
overflow_add-result c = search (spec-counts, c.in_ok-ask_spec.was)

pub returns : goal.returns
returns c = search (spec-added, c.in_ok-ask_spec.was)
