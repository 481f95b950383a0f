-- Each branch is one kind of source. Assumes nothing.
use native.Mathlib.Nat.{le_refl}
use Rattle.matcher.proofs.Needles.{needle-star, needle-negative, needle-refs, needle-object, needle-partial}
use mathlib.Core.Path.{sym, ◌∙◌}
use borrow.Author.Rules.{rules}
use Rattle.matcher.proofs.needle.text_needle.Goals.{then-negative, else-negative}
use Rattle.matcher.proofs.needle.text_needle.Goals as goal

pub returns-in-Some : goal.returns-in-Some
returns-in-Some c = let h = c.in-Some.ensures in search needle-star

pub returns-then-begins : goal.returns-then-begins
returns-then-begins c = let h = sym c.in_default.ensures in elim c.if-negative.branch [ then-negative w ↦ search (needle-negative, le_refl) | else-negative w ↦ search (needle-refs, le_refl, sym w.value-is ∙ c.if-begins.true) ]

pub returns-then-object_id : goal.returns-then-object_id
returns-then-object_id c = let h = sym c.in_default.ensures in elim c.if-negative.branch [ then-negative w ↦ absurd (search rules) | else-negative w ↦ search (needle-object, le_refl, sym w.value-is ∙ c.if-begins.false) ]

pub returns-else-object_id : goal.returns-else-object_id
returns-else-object_id c = let h = sym c.in_default.ensures in elim c.if-negative.branch [ then-negative w ↦ absurd (search rules) | else-negative w ↦ search (needle-partial, le_refl, sym w.value-is ∙ c.if-begins.false) ]
