-- `spec_list::read_specs` meets its contract: 18, then 12, then the records.
use Rattle.spec_list.proofs.Groups.{group-no-operation, group-too-long, group-is}
use Rattle.spec_list.proofs.read_specs.Goals as goal

pub returns-then-op-gt1 : goal.returns-then-op-gt1
returns-then-op-gt1 c = rw c.of_list.ensures (search group-no-operation)

pub returns-then-list-gt-SPEC_LIST_BYTES : goal.returns-then-list-gt-SPEC_LIST_BYTES
returns-then-list-gt-SPEC_LIST_BYTES c = rw c.of_list-then-list-gt-SPEC_LIST_BYTES.ensures (search group-too-long)

pub returns : goal.returns
returns c = search group-is
