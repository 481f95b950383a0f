-- `match_one::object` meets its contract: only an object id is an object source.
use Rattle.match_one.proofs.Objects.{object-all, object_is, object-not}
use Rattle.match_one.proofs.object.Goals as goal

pub returns-in-Object : goal.returns-in-Object
returns-in-Object c = object-all _ _ _ (search object_is) c.requires

pub returns-in_default : goal.returns-in_default
returns-in_default c = object-all _ _ _ (search object-not) c.requires
