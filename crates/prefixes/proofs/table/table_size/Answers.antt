use Rattle.prefixes.proofs.Tables.{measured-more, measured-fits, measured-whole}
use Rattle.prefixes.proofs.table.table_size.Goals as goal

pub overflow_add-size : goal.overflow_add-size
overflow_add-size c = search measured-fits

pub loop-e-preserved : goal.loop-e-preserved
loop-e-preserved c = search measured-more

pub returns : goal.returns
returns c = search measured-whole
