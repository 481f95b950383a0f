-- `conflicts::index::put_if_room` meets its contract: the index that was measured is as it was when it is written.
use mathlib.Core.Path.{◌≡◌}
use native.Mathlib.Omega.{arith}
use Rattle.conflicts.proofs.Wholes.{none-put, short-left, whole-put}
use borrow.Author.Rules.{rules}
use Rattle.conflicts.proofs.index.put_if_room.Goals.{else-size-gt0-via-then-size-gt0+else-size-out, else-size-gt0-via-else-size-gt0}
use Rattle.conflicts.proofs.index.put_if_room.Goals as goal

pub returns-then-size-out : goal.returns-then-size-out
returns-then-size-out c = (search rules, search whole-put)

pub returns-else-size-gt0 : goal.returns-else-size-gt0
returns-else-size-gt0 c = (
  search rules,
  elim c.else-size-gt0.branch [
    | else-size-gt0-via-then-size-gt0+else-size-out w ↦ search short-left
    | else-size-gt0-via-else-size-gt0 w ↦ let z : c.sorted_size-size.result ≡ 0 = omega arith in search none-put
  ],
)
