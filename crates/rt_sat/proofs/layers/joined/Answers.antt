use Rattle.std.proofs.Common.{rules, ◌++◌, List, sym, ap, ◌∙◌}
use Rattle.std.proofs.lemmas.List.{map-id}
use Rattle.std.proofs.lemmas.Iterator.Adapters.{YieldsList-from_vec, fact_from_extend}
use Rattle.rt_sat.specs.declared.state.Edge.{Edge}
use Rattle.rt_sat.proofs.layers.joined.Goals as goal

pub returns : goal.returns
returns c =
    let h = fact_from_extend (λ x. x) c.extend.result c.extend.ensures.ran (λ it b. YieldsList-from_vec {s = it} _ b.0 (b.1 ∙ c.args.more.ok.0)) (λ xs e h. h.0 ∙ ap (λ (ys : List Edge). c.args.edges.items ++ ys) (sym (map-id xs) ∙ e)) in
    search rules
