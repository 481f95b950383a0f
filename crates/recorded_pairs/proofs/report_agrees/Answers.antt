-- `report_agrees` meets its contract: three numbers, then what was written into the buffer, and nothing after it, are the report. Assumes nothing.
use Rattle.number.proofs.Round.{octets-of}
use Rattle.recorded.proofs.Fields.{field-within}
use Rattle.recorded_pairs.proofs.Reports.{numbers-differ, report-whole}
use Rattle.recorded_pairs.proofs.report_agrees.Goals as goal

pub returns-in_default : goal.returns-in_default
returns-in_default c = let o = octets-of c.args.told.now c.type_inv.told in search numbers-differ

pub front_field-requires : goal.front_field-requires
front_field-requires c = search field-within

pub returns : goal.returns
returns c = let o = octets-of c.args.told.now c.type_inv.told in search report-whole
