use Rattle.std.proofs.Common.{◌≡◌, List, ap, ◌∙◌}
use Rattle.std.specs.Cmp.Lexicographic.{pointwise}
use Rattle.rt_lines.specs.declared.line.Line.{Line}
use Rattle.rt_lines.specs.Equality.{line_eq}
use Rattle.rt_lines.specs.Numbering.{deduplicated}
use Rattle.rt_reduce.proofs.Handed.{once_same}
use Rattle.rt_reduce.proofs.handing.is_each_once.Goals as goal

pub returns : goal.returns
returns c =
    let lines = c.args.lines.now in
    let start : c.from_vec.result ≡ lines = c.from_vec.ensures ∙ c.in_ok-all.ensures in
    once_same lines c.in_ok-once.once c.eq.result (c.eq.ensures ∙ ap (λ (ls : List Line). pointwise line_eq ls lines) c.items.ensures)
    (c.in_ok-once.ensures ∙ ap deduplicated start)
