-- Each list is read wholly, and then the rows are judged. Assumes nothing.
use Rattle.validate.proofs.Entry.{specs-refused, rows-refused, rows-judged, rows-read, rows-counted}
use Rattle.validate.proofs.validated.Goals as goal

pub returns-in-Err : goal.returns-in-Err
returns-in-Err c = search specs-refused

pub returns-in-Err-read_rows : goal.returns-in-Err-read_rows
returns-in-Err-read_rows c = search rows-refused

pub judged-requires : goal.judged-requires
judged-requires c = (search rows-read, search rows-counted)

pub returns : goal.returns
returns c = search rows-judged
