-- `filter::forward_filter` meets its contract: each needle has its filter.
use Rattle.filter.proofs.Filters.{forward-absent, forward-glob, forward-full, forward-object, forward-part}
use Rattle.filter.proofs.forward_filter.Goals as goal

pub returns-in-Absent : goal.returns-in-Absent
returns-in-Absent c = search forward-absent

pub returns-in-Glob : goal.returns-in-Glob
returns-in-Glob c = search forward-glob

pub returns-in-FullName : goal.returns-in-FullName
returns-in-FullName c = search forward-full

pub returns-in-Object : goal.returns-in-Object
returns-in-Object c = search forward-object

pub returns-in-PartialName : goal.returns-in-PartialName
returns-in-PartialName c = search forward-part
