-- `text_lists::add_name` meets its contract: a name that nothing refuses is written after those before it.
use Rattle.std.proofs.lemmas.Result.{err_from_is_err_and}
use Rattle.text_lists.proofs.Growth.{name-refused, name-room, name-counts, name-added}
use borrow.Author.Rules.{rules}
use Rattle.text_lists.proofs.add_name.Goals as goal

pub returns-in_err-ask_name : goal.returns-in_err-ask_name
returns-in_err-ask_name c =
    let p = err_from_is_err_and c.from_residual.result c.from_residual.ensures.1 in
    rw p.1 (search (name-refused, c.in_err-ask_name.was, p.2))

pub put_text-end-requires : goal.put_text-end-requires
put_text-end-requires c = (search (name-room, c.in_ok-ask_name.was), search rules)

pub overflow_add-result : goal.overflow_add-result
overflow_add-result c = search (name-counts, c.in_ok-ask_name.was)

pub returns : goal.returns
returns c = search (name-added, c.in_ok-ask_name.was)
