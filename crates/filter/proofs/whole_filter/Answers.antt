-- `filter::whole_filter` meets its contract: what is a text has its bytes, and as many.
use Rattle.filter.proofs.Filters.{whole-absent}
use Rattle.filter.proofs.whole_filter.Goals as goal

pub returns-in-Absent : goal.returns-in-Absent
returns-in-Absent c = search whole-absent
