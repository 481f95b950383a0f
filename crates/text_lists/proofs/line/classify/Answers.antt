-- Each branch is one kind of line. Assumes nothing.
use Rattle.text_lists.proofs.LineKinds.{line-blank, line-comment, line-fetch, line-push, line-name, line-shown, line_marked, line-unknown}
use Rattle.text_lists.proofs.line.classify.Goals.{then-all_blank-via-then-all_blank, then-all_blank-via-else-all_blank+then-begins}
use Rattle.text_lists.proofs.line.classify.Goals as goal

pub returns-then-all_blank : goal.returns-then-all_blank
returns-then-all_blank c = elim c.then-all_blank.branch [ then-all_blank-via-then-all_blank w ↦ search line-blank | then-all_blank-via-else-all_blank+then-begins w ↦ search line-comment ]

pub returns-then-begins-2 : goal.returns-then-begins-2
returns-then-begins-2 c = search line-fetch

pub returns-then-begins-3 : goal.returns-then-begins-3
returns-then-begins-3 c = search line-push

pub returns-then-begins-4 : goal.returns-then-begins-4
returns-then-begins-4 c = search line-name

pub returns-then-begins-5 : goal.returns-then-begins-5
returns-then-begins-5 c = search line-shown

pub returns-then-begins-6 : goal.returns-then-begins-6
returns-then-begins-6 c = search line_marked

pub returns : goal.returns
returns c = search line-unknown
