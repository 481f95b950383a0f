-- Where the line feed is, and what stands before it, says where the text ends. Assumes nothing.
use mathlib.Core.Path.{◌≡◌, sym}
use Prim.Native.Nat.{◌≤◌}
use native.Mathlib.Nat.{le_refl}
use native.Mathlib.Omega.{arith}
use lib.ListN.{length}
use Rattle.text_lists.proofs.Lines.{line-open, line-empty, line_plain, line-returned}
use Rattle.text_lists.proofs.line.next_line.Goals as goal

pub returns-in_default : goal.returns-in_default
returns-in_default c = let h = sym c.in_default.ensures in search (line-open, le_refl)

pub returns-then-feed-at : goal.returns-then-feed-at
returns-then-feed-at c =
    let h = c.in-Some.ensures in
    let w : c.in-Some.feed ≤ length c.args.s.now = omega arith in
    let n : (c.in-Some.feed ≡ length c.args.s.now → ⊥) = λ e. omega arith in
    search line-empty

pub returns-then-s-feed-ne13 : goal.returns-then-s-feed-ne13
returns-then-s-feed-ne13 c =
    let h = c.in-Some.ensures in
    let w : c.in-Some.feed ≤ length c.args.s.now = omega arith in
    let n : (c.in-Some.feed ≡ length c.args.s.now → ⊥) = λ e. omega arith in
    search line_plain

pub returns : goal.returns
returns c =
    let h = c.in-Some.ensures in
    let w : c.in-Some.feed ≤ length c.args.s.now = omega arith in
    let n : (c.in-Some.feed ≡ length c.args.s.now → ⊥) = λ e. omega arith in
    search line-returned
