-- A negative spec has no rows, any other its matcher.
use Rattle.group_tables.proofs.Stood.{stands-negative, stands-positive, none_within, match-within}
use Rattle.group_tables.proofs.matcher_for.Goals as goal

pub returns-then-is_negative : goal.returns-then-is_negative
returns-then-is_negative c = (search stands-negative, search none_within)

pub returns : goal.returns
returns c = (search stands-positive, search match-within)
