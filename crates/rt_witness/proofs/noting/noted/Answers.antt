use Rattle.rt_witness.proofs.Numbers.{noted_line}
use Rattle.rt_witness.proofs.noting.noted.Goals as goal

pub loop-i-preserved : goal.loop-i-preserved
loop-i-preserved c =
    noted_line c.args.shape.now c.args.lines.now c.loop-i.rows.items c.note_line.new.rows.items c.loop-i.i c.index-lines-i.result c.index-lines-i.is
    c.loop-i.invariant c.in_ok-note_line.ensures.kept c.in_ok-note_line.ensures.noted
