use Rattle.std.proofs.Common.{length, subst, sym}
use Rattle.rt_lines.specs.declared.line.Line.TheVariants.{Low}
use Rattle.rt_outline.specs.Inside.Bounds.{AreBounds, upper_bound}
use Rattle.rt_outline.specs.Enclosing.{IsOuter}
use Rattle.rt_outline.specs.Lines.{AreLineArcs, HaveSameFlow, Lined}
use Rattle.rt_outline.proofs.Flowing.{same_arcs, same_bounds, same_outer}
use Rattle.rt_outline.proofs.upper.Upper.for_lines.Goals as goal

pub invariant_of-result : goal.invariant_of-result
invariant_of-result c =
    let lines = c.self.inside.lines.items in
    let others = c.args.lines.now in
    let named = c.self.inside.named in
    let arcs = c.self.inside.frame.arcs.items in
    let old = c.self.invariant in
    let same : HaveSameFlow lines others = subst (λ (t : Lined). HaveSameFlow t.lines others) (sym c.self.view_is) c.requires in (
      subst (λ ls. IsOuter ls named arcs) (sym c.in_ok-lines.ensures) (same_outer lines others named same arcs old.1 old.0),
      subst (λ ls. AreLineArcs ls (length ls) named arcs) (sym c.in_ok-lines.ensures) (same_arcs lines others named same arcs old.1),
      old.2,
      old.3,
      subst (λ ls. AreBounds Low ls (length ls) named c.self.inside.lows.items) (sym c.in_ok-lines.ensures)
          (same_bounds lines others named same Low same.lows c.self.inside.lows.items old.4),
      subst (λ ls. AreBounds upper_bound ls (length ls) named c.self.inside.ups.items) (sym c.in_ok-lines.ensures)
          (same_bounds lines others named same upper_bound (λ i k x. same.ups i k x) c.self.inside.ups.items old.5),
    )
