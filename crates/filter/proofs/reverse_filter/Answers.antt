-- `filter::reverse_filter` meets its contract: each destination has its filter.
use Rattle.filter.proofs.Filters.{reverse-absent, reverse-pattern, reverse-literal}
use Rattle.filter.proofs.reverse_filter.Goals as goal

pub returns-in-Absent : goal.returns-in-Absent
returns-in-Absent c = search reverse-absent

pub returns-in-Pattern : goal.returns-in-Pattern
returns-in-Pattern c = search reverse-pattern

pub returns-in-Literal : goal.returns-in-Literal
returns-in-Literal c = search reverse-literal
