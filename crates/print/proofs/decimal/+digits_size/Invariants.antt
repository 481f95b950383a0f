-- The measure is how many digits are left.
use Rattle.print.proofs.decimal.+digits_size.Given as goal

abbrev pub decreases-digits_size : goal.decreases-digits_size
decreases-digits_size l = l.k
