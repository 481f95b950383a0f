-- `filter::alike` meets its contract: eight bytes are looked at where there are so many.
use Rattle.filter.proofs.Filters.{alike-short, alike-long}
use Rattle.filter.proofs.alike.Goals as goal

pub returns-then-len-lt8 : goal.returns-then-len-lt8
returns-then-len-lt8 c = search alike-short

pub returns : goal.returns
returns c = search alike-long
