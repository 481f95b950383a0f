-- `name::forbids` meets its contract: the rules are computed at every byte of each arm, the single numbers and the ranges between them.
use mathlib.Core.Bool.{Bool, true, false, not}
use mathlib.Core.List.{List, [], ◌∷◌}
use Prim.Native.Nat.{ℕ}
use native.Mathlib.Omega.{arith}
use borrow.Author.Rules.{rules}
use Rattle.meaning.specs.Names.{rule_four_byte, rule_five_byte}
use Rattle.text.proofs.Classes.{keys, span}
use Rattle.name.specs.Rules.{name_byte}
use Rattle.name.proofs.forbids.Goals as goal

-- what the arms decide

abbrev forbidden : ℕ → Bool
forbidden b = not (name_byte b)

-- the bytes that the compiler keeps as single numbers

abbrev keyed : List ℕ
keyed = 42 ∷ 58 ∷ 63 ∷ 94 ∷ []

pub returns-in_default : goal.returns-in_default
unfolding name_byte rule_four_byte rule_five_byte
returns-in_default c = span forbidden false keyed 33 58 tt c.args.b (omega arith) (omega arith) c.in_default.in_default-own.rest.1

pub returns-in_default-2 : goal.returns-in_default-2
unfolding name_byte rule_four_byte rule_five_byte
returns-in_default-2 c = span forbidden false keyed 93 33 tt c.args.b (omega arith) (omega arith) c.in_default.in_default-own.rest.1

pub returns-in_default-3 : goal.returns-in_default-3
unfolding name_byte rule_four_byte rule_five_byte
returns-in_default-3 c = span forbidden false keyed 128 128 tt c.args.b (omega arith) (omega arith) c.in_default.in_default-own.rest.1

pub returns-in-0-to-32 : goal.returns-in-0-to-32
unfolding name_byte rule_four_byte rule_five_byte
returns-in-0-to-32 c = keys forbidden true keyed tt c.args.b (search rules)

pub returns-in-0-to-32-2 : goal.returns-in-0-to-32-2
unfolding name_byte rule_four_byte rule_five_byte
returns-in-0-to-32-2 c = span forbidden true keyed 0 33 tt c.args.b (omega arith) (omega arith) c.in-0-to-32.in_default-own.rest.1

pub returns-in-0-to-32-3 : goal.returns-in-0-to-32-3
unfolding name_byte rule_four_byte rule_five_byte
returns-in-0-to-32-3 c = span forbidden true keyed 91 2 tt c.args.b (omega arith) (omega arith) c.in-0-to-32.in_default-own.rest.1

pub returns-in-0-to-32-4 : goal.returns-in-0-to-32-4
unfolding name_byte rule_four_byte rule_five_byte
returns-in-0-to-32-4 c = span forbidden true keyed 126 2 tt c.args.b (omega arith) (omega arith) c.in-0-to-32.in_default-own.rest.1
