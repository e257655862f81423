use Rattle.std.proofs.Common.{rules, subst}
use Rattle.rt_sat.specs.declared.layers.Layers.{Layers}
use Rattle.rt_sat.specs.Searches.{IsIndexed}
use Rattle.rt_sat.proofs.Indices.{layers_new}
use Rattle.rt_sat.proofs.layers.Layers.new.Goals as goal

pub returns-clause-indexed : goal.returns-clause-indexed
returns-clause-indexed c =
    let new : Layers = record { edges = c.in_ok-edges.edges; lines = c.len-count.result; out = c.in_ok-out.out; out_pushed = c.in_ok-out_pushed.out_pushed } in
    layers_new new c.args.lines.items c.args.pushed.items c.in_ok-edges.ensures (search rules)
    (subst (λ xs. IsIndexed xs c.in_ok-out.out.items) c.deref-2.ensures.value c.in_ok-out.ensures)
    (subst (λ xs. IsIndexed xs c.in_ok-out_pushed.out_pushed.items) c.deref.ensures.value c.in_ok-out_pushed.ensures)
