use Rattle.std.proofs.Common.{length, subst, sym}
use Rattle.rt_lines.specs.declared.line.Line.TheVariants.{Low}
use Rattle.rt_outline.specs.Inside.Bounds.{AreBounds, upper_bound}
use Rattle.rt_outline.specs.Enclosing.{IsOuter}
use Rattle.rt_outline.specs.Lines.{AreLineArcs}
use Rattle.rt_outline.proofs.Inner.{sides}
use Rattle.rt_outline.proofs.upper.Upper.with_frame.Goals as goal

pub lows-requires : goal.lows-requires
lows-requires c = λ l x h k. sides c.args.lines.now c.requires.named.0 c.args.named c.requires.named.1 l x h k

pub ups-requires : goal.ups-requires
ups-requires c = λ l x h k. sides c.args.lines.now c.requires.named.0 c.args.named c.requires.named.1 l x h k

pub invariant_of-result : goal.invariant_of-result
invariant_of-result c = (
  subst (λ ls. IsOuter ls c.args.named c.args.frame.arcs.items) (sym c.in_ok-lines.ensures) c.requires.outer.outer,
  subst (λ ls. AreLineArcs ls (length ls) c.args.named c.args.frame.arcs.items) (sym c.in_ok-lines.ensures)
      c.requires.outer.lines_all,
  c.requires.frame,
  c.requires.outer.nodes,
  subst (λ ls. AreBounds Low ls (length ls) c.args.named c.in_ok-lows.lows.items) (sym c.in_ok-lines.ensures) c.in_ok-lows.ensures,
  subst (λ ls. AreBounds upper_bound ls (length ls) c.args.named c.in_ok-ups.ups.items) (sym c.in_ok-lines.ensures) c.in_ok-ups.ensures,
)
