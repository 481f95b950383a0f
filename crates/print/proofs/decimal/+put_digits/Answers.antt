-- The last digit stands right after those of the quotient.
use Rattle.print.proofs.Decimals.{none-put, none-ends, digits-put, digits-end}
use Rattle.print.proofs.decimal.+put_digits.Goals as goal

pub returns-then-k-eq0 : goal.returns-then-k-eq0
returns-then-k-eq0 t c = (search none-put, search none-ends)

pub returns : goal.returns
returns t c = (search digits-put, search digits-end)
