-- `name::stands` meets its contract: digits stand before anything, a dot, a slash and an `@` by what follows them, and any other byte by itself.
use mathlib.Core.Path.{◌≡◌}
use Prim.Native.Nat.{◌+◌}
use native.Mathlib.Omega.{arith}
use lib.ListN.{get_or, drop}
use Rattle.text.proofs.Rests.{rest_part}
use Rattle.name.specs.Rules.{after_dot, after_slash, after_at_sign}
use Rattle.name.proofs.After.{stands-dot, stands-slash, stands_at, stands-other}
use Rattle.name.proofs.Standing.{digit-stands}
use Rattle.name.proofs.stands.Goals as goal

pub returns-in-48-to-57 : goal.returns-in-48-to-57
returns-in-48-to-57 c = digit-stands (get_or c.args.s.now c.args.i 0) (drop (c.args.i + 1) c.args.s.now) (omega arith) (omega arith)

pub returns-in-46 : goal.returns-in-46
returns-in-46 c =
    let e : c.after_dot.result ≡ after_dot (drop (c.args.i + 1) c.args.s.now) = rw rest_part at c.after_dot.ensures in
    search stands-dot

pub returns-in-47 : goal.returns-in-47
returns-in-47 c =
    let e : c.after_slash.result ≡ after_slash (drop (c.args.i + 1) c.args.s.now) = rw rest_part at c.after_slash.ensures in
    search stands-slash

pub returns-in-64 : goal.returns-in-64
returns-in-64 c =
    let e : c.after_at.result ≡ after_at_sign (drop (c.args.i + 1) c.args.s.now) = rw rest_part at c.after_at.ensures in
    search stands_at

pub returns-in_default : goal.returns-in_default
returns-in_default c = search stands-other
