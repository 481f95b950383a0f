-- `conflict::put_run` meets its contract: fewer than two sources are no conflict.
use Rattle.conflict.proofs.Shares.{short-put, short-after, one-put, one-after, firsts-some, firsts-short, two-room, two-put, two-after}
use borrow.Author.Rules.{rules}
use Rattle.conflict.proofs.put_run.Goals as goal

pub returns-then-run-lt2 : goal.returns-then-run-lt2
returns-then-run-lt2 c = (search short-put, search short-after)

pub returns-then-n-lt2 : goal.returns-then-n-lt2
returns-then-n-lt2 c = (search one-put, search one-after)

pub put_listed-requires : goal.put_listed-requires
put_listed-requires c = (search firsts-some, search rules, search firsts-short, search two-room)

pub returns : goal.returns
returns c = (search two-put, search two-after)
