-- `negatives::put_if_negative` meets its contract: a negative is put after the others, another spec adds nothing.
use Rattle.negatives.proofs.Filling.{negative-small, none-counted, none-put, one-counted, one-put, added_none, added-one}
use borrow.Author.Rules.{rules}
use borrow.Author.Rules.{rules}
use Rattle.negatives.proofs.put_if_negative.Goals as goal

pub returns-then-not-is_negative : goal.returns-then-not-is_negative
returns-then-not-is_negative c = (search none-counted, search none-put, search added_none)

pub put_negative-requires : goal.put_negative-requires
put_negative-requires c = (search rules, search negative-small)

pub returns : goal.returns
returns c = (search one-counted, search one-put, search added-one)
