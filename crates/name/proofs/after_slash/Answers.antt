-- `name::after_slash` meets its contract: each pattern is one beginning of the text.
use native.Mathlib.Omega.{arith}
use Rattle.name.proofs.After.{slash-none, slash-two, slash-other}
use Rattle.name.proofs.after_slash.Goals.{in_default, in_default-2, in-empty, in-empty-2}
use Rattle.name.proofs.after_slash.Goals as goal

pub returns : goal.returns
returns c =
    elim c.if-matches.branch [
      | in_default w ↦ rw w.matches-is (slash-other c.args.s.now (omega arith) (λ e. omega arith) (λ e. omega arith))
      | in_default-2 w ↦ rw w.matches-is (slash-other c.args.s.now (omega arith) (λ e. omega arith) (λ e. omega arith))
      | in-empty w ↦ rw w.matches-is (search slash-none)
      | in-empty-2 w ↦ rw w.matches-is (slash-two c.args.s.now (omega arith) (omega arith) (omega arith))
    ]
