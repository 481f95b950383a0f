-- The row of the spec and the item field is written.
use Rattle.search.proofs.Writes.{hit-field-few, hit-places, hit-inside, hit-short, hit-empty, hit-some, hit-room, hit-put}
use borrow.Author.Rules.{rules}
use Rattle.search.proofs.put.put_hit.Goals as goal

pub start_of-start-requires : goal.start_of-start-requires
start_of-start-requires g c = search hit-places

pub size_of-size-requires : goal.size_of-size-requires
size_of-size-requires g c = search hit-places

pub part-requires : goal.part-requires
part-requires g c = (search hit-inside, search rules)

pub put_field-requires : goal.put_field-requires
put_field-requires g c = (search rules, search rules, search hit-field-few, search hit-short, search hit-empty, search hit-some, search hit-room)

pub returns : goal.returns
returns g c = search hit-put
