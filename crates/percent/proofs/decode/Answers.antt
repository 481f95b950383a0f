-- What was measured says whether there is a text to write. Assumes nothing.
use mathlib.Core.Path.{sym, ◌∙◌}
use Rattle.std.proofs.lemmas.Result.{err_from_is_err_and}
use Rattle.percent.proofs.Walks.{fault-none}
use Rattle.percent.proofs.decode.Goals as goal

pub returns-in_err-n : goal.returns-in_err-n
returns-in_err-n c =
    let p = err_from_is_err_and c.from_residual.result c.from_residual.ensures.1 in
    rw (p.1, p.2) (record { tells = sym c.in_err-n.was ∙ c.measure.ensures; puts = search (fault-none, c.in_err-n.was) })
