-- `frames::is_candidate` meets its contract: a name of another size is no candidate, and any other is taken apart.
use mathlib.Core.Path.{sym, ap, ◌∙◌}
use native.Mathlib.Omega.{arith}
use borrow.Author.Tests.{ne_eqb}
use lib.ListN.{length}
use Rattle.frames.proofs.Seeking.{other-size}
use Rattle.frames.proofs.is_candidate.Goals as goal

pub returns-in_default : goal.returns-in_default
returns-in_default c =
    let f = c.frame_of-f.ensures in
    sym (other-size c.args.t.now c.args.name.now c.args.k c.requires (λ e. omega (arith, c.in_default.ensures, ap length f.0, ap length f.1)))

pub returns-else-n-t : goal.returns-else-n-t
returns-else-n-t c =
    let f = c.frame_of-f.ensures in
    ne_eqb c.in-Some.n (length c.args.t.now) c.if-n-t.false
    ∙ sym (other-size c.args.t.now c.args.name.now c.args.k c.requires (λ e. omega (arith, c.in-Some.ensures, ap length f.0, ap length f.1)))
