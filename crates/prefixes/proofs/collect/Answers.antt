use Rattle.prefixes.proofs.Adding.{collecting-within, collecting-starts, collecting-room, collecting-more, collecting-whole}
use borrow.Author.Rules.{rules}
use Rattle.prefixes.proofs.collect.Goals as goal

pub loop-i-init : goal.loop-i-init
loop-i-init c = search collecting-starts

pub add_spec-count-requires : goal.add_spec-count-requires
add_spec-count-requires c = (search rules, search collecting-within, search collecting-room, search rules)

pub loop-i-preserved : goal.loop-i-preserved
loop-i-preserved c = search collecting-more

pub returns : goal.returns
returns c = search collecting-whole
