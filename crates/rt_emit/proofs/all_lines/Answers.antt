use Rattle.std.proofs.Common.{rules, ◌≡◌, ◌++◌, ap, ◌∙◌}
use Rattle.rt_reduction.specs.Emits.{flow_lines}
use Rattle.rt_emit.proofs.all_lines.Goals as goal

pub returns : goal.returns
returns c =
    let flow : c.into_vec-all.result.items ≡ flow_lines c.args.lines.now = search rules in
    record {
      shape = c.in_ok-shape.shape.items;
      is = c.in_ok-append.ensures.items ∙ ap (λ ls. ls ++ c.in_ok-shape.shape.items) flow;
      are_shape = c.in_ok-shape.ensures;
    }
