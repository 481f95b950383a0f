-- `text_lists::add_line` meets its contract: each kind of line adds what it holds, or nothing.
use Rattle.text_lists.proofs.Growth.{line-nothing, line-fetch, line-push, line-name, line-shown, line_marked, line-unknown}
use Rattle.text_lists.proofs.add_line.Goals as goal

pub returns-in-Nothing : goal.returns-in-Nothing
returns-in-Nothing c = search line-nothing

pub returns-in-Fetch : goal.returns-in-Fetch
returns-in-Fetch c = search line-fetch

pub returns-in-Push : goal.returns-in-Push
returns-in-Push c = search line-push

pub returns-in-Name : goal.returns-in-Name
returns-in-Name c = search line-name

pub returns-in-Shown : goal.returns-in-Shown
returns-in-Shown c = search line-shown

pub returns-in-Marked : goal.returns-in-Marked
returns-in-Marked c = search line_marked

pub returns-in-Unknown : goal.returns-in-Unknown
returns-in-Unknown c = search line-unknown
