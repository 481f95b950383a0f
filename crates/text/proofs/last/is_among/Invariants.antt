-- `text::last::is_among` meets its contract: what was found and what is left make the whole.
use Rattle.std.proofs.Common.{◌≡◌, drop, ◌||◌}
use Rattle.meaning.specs.Bytes.{has_byte}
use Rattle.text.proofs.last.is_among.Given as goal

abbrev pub invariant-loop-x : goal.invariant-loop-x
invariant-loop-x l = (l.found || has_byte l.b (drop l.x-index l.block)) ≡ has_byte l.b l.block
