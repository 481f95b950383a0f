-- `spec_list::check_specs` meets its contract: 18, 12, then the records.
use Rattle.spec_list.proofs.SpecReadings.{specs-no-operation, specs-too-long, specs-are}
use Rattle.spec_list.proofs.check_specs.Goals as goal

pub returns-then-op-gt1 : goal.returns-then-op-gt1
returns-then-op-gt1 c = rw c.of_list.ensures (search specs-no-operation)

pub returns-then-list-gt-SPEC_LIST_BYTES : goal.returns-then-list-gt-SPEC_LIST_BYTES
returns-then-list-gt-SPEC_LIST_BYTES c = rw c.of_list-then-list-gt-SPEC_LIST_BYTES.ensures (search specs-too-long)

pub returns : goal.returns
returns c = search specs-are
