-- `deliver::rows::row_in` meets its contract: its texts are those of the row's places.
use native.Mathlib.Omega.{arith}
use lib.ListN.{length-take, length-drop}
use Rattle.parse.proofs.Parts.{part_of}
use Rattle.row_fields.specs.Fields.{row_meant}
use Rattle.deliver.proofs.rows.row_in.Goals as goal

pub returns : goal.returns
unfolding row_meant
returns c = record {
  meant = rw (c.side_in.ensures.0, part_of c.args.list.now c.args.row.src.at c.args.row.src.len);
  source-short = simp (length-take, length-drop) (omega (arith, c.requires.short));
  destination-short = c.side_in.ensures.1;
}
