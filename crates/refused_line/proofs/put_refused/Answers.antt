-- `refused_line::put_refused` meets its contract: three pieces, one after the other, for which there is room.
use Rattle.refused_line.proofs.Messages.{refused-first, refused-second, refused-third, refused-put, refused_end, refused-short}
use borrow.Author.Rules.{rules}
use Rattle.refused_line.proofs.put_refused.Goals as goal

pub put_line-i-requires : goal.put_line-i-requires
put_line-i-requires c = search refused-first

pub put_reason-j-requires : goal.put_reason-j-requires
put_reason-j-requires c = search refused-second

pub put_end-requires : goal.put_end-requires
put_end-requires c = (search refused-third, search rules)

pub returns : goal.returns
returns c = (search refused-put, search refused_end, search refused-short)
