use Rattle.std.proofs.Common.{List, subst}
use Rattle.rt_lines.specs.declared.line.Line.{Line}
use Rattle.rt_sure.specs.Arcs.{AreAround, AreInside}
use Rattle.rt_sure.proofs.ways.Ways.of.Goals as goal

pub invariant_of-result : goal.invariant_of-result
invariant_of-result c =
    let named = c.in_ok-named.named in
    let arcs = c.in_ok-named.arcs.items in (
      subst (λ (ls : List Line). AreAround ls named arcs) c.deref.ensures.value c.in_ok-named.ensures.around,
      subst (λ (ls : List Line). AreInside ls named arcs) c.deref.ensures.value c.in_ok-named.ensures.inside,
    )
