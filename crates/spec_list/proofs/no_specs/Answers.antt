-- `spec_list::no_specs` meets its contract: every place is blank.
use mathlib.Core.Path.{refl}
use Rattle.spec_list.specs.Table.{blanks}
use Rattle.spec_list.proofs.no_specs.Goals as goal

pub returns : goal.returns
unfolding blanks
returns c = refl
