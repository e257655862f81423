use Rattle.std.proofs.Common.{List, sym, subst, ◌∙◌, ap}
use Rattle.rt_lines.specs.declared.line.Line.{Line}
use Rattle.rt_outline.specs.Lines.{Lined}
use Rattle.rt_sure.specs.Grounds.{IsTableOf}
use Rattle.rt_reduce.proofs.Tabled.{about_own}
use Rattle.rt_reduce.proofs.inner.Inner.fill.Goals as goal

pub invariant_of-self : goal.invariant_of-self
invariant_of-self c = (
  c.self.invariant.0,
  about_own c.self.inside.arcs.lines c.in_ok-table.table
      (subst (λ (ls : List Line). IsTableOf ls c.in_ok-table.table)
      (sym (ap (λ (v : Lined). v.lines) c.self.view_is ∙ c.requires)) c.in_ok-table.ensures),
)
