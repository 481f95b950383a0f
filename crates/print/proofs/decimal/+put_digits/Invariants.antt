-- The measure is how many digits are left.
use Rattle.print.proofs.decimal.+put_digits.Given as goal

abbrev pub decreases-put_digits : goal.decreases-put_digits
decreases-put_digits l = l.k
