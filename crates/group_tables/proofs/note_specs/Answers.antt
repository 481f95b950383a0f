use Rattle.group_tables.proofs.Stood.{stood-next}
use Rattle.group_tables.proofs.note_specs.Goals as goal

pub loop-i-preserved : goal.loop-i-preserved
loop-i-preserved c =
    let a = c.args in
    let l = c.loop-i in
    let q = c.spec_at in
    let n = c.note-count in
    stood-next a.specs.now a.records.now c.requires.0 a.table.now l.table a.negatives.now l.negatives l.count l.i l.invariant c.loop-i-test.true c.requires.2 q.result q.ensures n.new.table n.ensures.0 n.new.negatives n.result n.ensures.1
