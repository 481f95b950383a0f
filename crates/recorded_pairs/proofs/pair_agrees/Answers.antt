-- `pair_agrees` meets its contract: two texts after their lengths in two bytes, and a report that agrees, are the record, and nothing else is. Assumes nothing.
use Rattle.recorded_pairs.proofs.Records.{first-differs, second-differs, record-whole}
use Rattle.recorded_pairs.proofs.pair_agrees.Goals as goal

pub returns-in_default : goal.returns-in_default
returns-in_default c = search first-differs

pub returns-in_default-text_end : goal.returns-in_default-text_end
returns-in_default-text_end c = search second-differs

pub returns : goal.returns
returns c = search record-whole
