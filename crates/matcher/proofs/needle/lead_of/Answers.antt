-- Each branch is one case of a completed text. Assumes nothing.
use Rattle.matcher.proofs.Needles.{lead-as-is, lead-digits, lead-tags, lead-remotes, lead-heads}
use mathlib.Core.Path.{sym, ◌∙◌}
use borrow.Author.Rules.{rules}
use Rattle.matcher.proofs.needle.lead_of.Goals.{then-begins-2, else-begins-2}
use Rattle.matcher.proofs.needle.lead_of.Goals as goal

pub returns-then-begins : goal.returns-then-begins
returns-then-begins c = search lead-as-is

pub returns-then-object_id : goal.returns-then-object_id
returns-then-object_id c = search lead-digits

pub returns-then-begins-3 : goal.returns-then-begins-3
returns-then-begins-3 c = elim c.if-begins-2.branch [ then-begins-2 w ↦ search lead-tags | else-begins-2 w ↦ search (lead-remotes, sym w.value-is ∙ c.if-begins-3.true) ]

pub returns-else-begins-3 : goal.returns-else-begins-3
returns-else-begins-3 c = elim c.if-begins-2.branch [ then-begins-2 w ↦ absurd (search rules) | else-begins-2 w ↦ search (lead-heads, sym w.value-is ∙ c.if-begins-3.false) ]
