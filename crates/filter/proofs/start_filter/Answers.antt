-- `filter::start_filter` meets its contract: only a part of the spec list has a star.
use Rattle.filter.proofs.Filters.{start-absent}
use Rattle.filter.proofs.start_filter.Goals as goal

pub returns-in-Absent : goal.returns-in-Absent
returns-in-Absent c = search start-absent
