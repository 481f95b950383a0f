-- Each arm is one answer of reading. Assumes nothing.
use Rattle.parse.proofs.Answers.{read-within, read-size}
use Rattle.expand.proofs.Lists.{expanded-accepted, expanded-refused}
use Rattle.expand.proofs.expand_prefixes.Goals as goal

pub expand-requires : goal.expand-requires
expand-requires c = (search read-within, search read-size)

pub returns-in-Ok : goal.returns-in-Ok
returns-in-Ok c = search expanded-accepted

pub returns-in-Err : goal.returns-in-Err
returns-in-Err c = search expanded-refused
