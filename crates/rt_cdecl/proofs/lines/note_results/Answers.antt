use Rattle.std.proofs.Common.{sym, subst}
use Rattle.rt_cdecl.specs.Lines.{Gains}
use Rattle.rt_cdecl.proofs.Noting.{gains_both, beside}
use Rattle.rt_cdecl.proofs.lines.note_results.Goals as goal

pub returns : goal.returns
returns c =
    subst (Gains c.args.lines.now c.note-2.new.lines) (sym (beside c.args.out0.now c.args.out1.now c.in_default.not-Unused))
    (gains_both _ _ _ _ _ c.in_ok-note.ensures c.in_ok-note-2.ensures)
