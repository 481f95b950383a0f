-- `conflicts::put_conflicts` meets its contract: no list has more rows than the largest index has room for.
use Prim.Native.Nat.{◌+◌, ◌*◌, ◌/◌, ◌≤◌}
use native.Mathlib.Omega.{arith}
use lib.ListN.{length}
use borrow.Author.Rules.{rules}
use Rattle.meaning.specs.Limits.{row_list_bytes}
use Rattle.row_list.specs.Lists.{rows_in}
use Rattle.conflicts.specs.Rooms.{many_rows}
use Rattle.conflicts.proofs.Spelled.{many-room}
use Rattle.conflicts.proofs.put_conflicts.Goals as goal

pub put_in_room-requires-else-count-le-SOME : goal.put_in_room-requires-else-count-le-SOME
put_in_room-requires-else-count-le-SOME c =
    let few : length (rows_in c.args.specs c.args.rows.now) ≤ many_rows = many-room c.args.specs c.args.rows.now (search rules) c.type_inv.rows in
    let short : many_rows ≤ row_list_bytes = omega arith in
    let halves : many_rows ≤ 2 * (many_rows / 2) + 1 = omega arith in
    let half : many_rows / 2 ≤ many_rows = omega arith in
    (search rules, few, short, halves, half)
