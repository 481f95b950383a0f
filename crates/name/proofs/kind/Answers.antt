-- `name::kind` meets its contract: plain bytes stand, so that the last byte of a text that else has only these says what it is.
use mathlib.Core.Path.{sym, ◌∙◌}
use Rattle.name.proofs.Fitting.{plain-pattern, plain-name}
use Rattle.name.proofs.kind.Goals as goal

pub returns-then-s-last-eq42 : goal.returns-then-s-last-eq42
returns-then-s-last-eq42 c = search (plain-pattern, c.all_fit.ensures)

pub returns-then-fits : goal.returns-then-fits
returns-then-fits c =
    let e = sym c.fits.ensures ∙ c.if-fits.true in
    search (plain-name, c.all_fit.ensures)
