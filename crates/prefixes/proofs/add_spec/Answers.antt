-- What the spec's side yields is what the spec yields. Assumes nothing.
use Rattle.prefixes.proofs.Adding.{spec-side, spec-yield, spec-entered}
use borrow.Author.Rules.{rules}
use Rattle.prefixes.proofs.add_spec.Goals as goal

pub yield_of-y-requires : goal.yield_of-y-requires
yield_of-y-requires c = search spec-side

pub add_yield-requires : goal.add_yield-requires
add_yield-requires c = (search rules, search spec-yield, search rules, search rules)

pub returns : goal.returns
returns c = search spec-entered
