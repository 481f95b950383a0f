-- `back_agrees` meets its contract: two fields that agree, and nothing after them, are the rest of the answer. Assumes nothing.
use Prim.Native.Nat.{◌≤◌}
use native.Mathlib.Omega.{arith}
use lib.ListN.{length}
use Rattle.number.proofs.Round.{octets-of}
use Rattle.recorded.specs.Record.{sized_room}
use Rattle.recorded_groups.proofs.Fields.{rhs-found, prefixes-found}
use Rattle.recorded_groups.proofs.Answers.{back-differs, back-there}
use Rattle.recorded_groups.proofs.back_agrees.Goals as goal

pub returns-in_default : goal.returns-in_default
returns-in_default c = let o = octets-of c.args.told.now c.type_inv.told in search (back-differs, rhs-found)

pub returns : goal.returns
returns c =
    let o = octets-of c.args.told.now c.type_inv.told in
    let room : sized_room ≤ length c.match_rhs-back.new.out = omega arith in
    search (
      back-there,
      rhs-found _ _ _ _ _ _ _ _ _ o c.requires.1 _ c.written_field.ensures _ c.match_rhs-back.ensures,
      prefixes-found _ _ _ _ _ _ _ _ _ o room _ c.written_field-2.ensures c.group_prefixes-list.ensures,
    )
