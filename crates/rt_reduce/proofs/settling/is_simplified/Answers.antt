use Rattle.std.proofs.Common.{◌≡◌, List, ap, subst, ◌∙◌}
use Rattle.std.specs.Cmp.Lexicographic.{pointwise}
use Rattle.rt_lines.specs.declared.line.Line.{Line}
use Rattle.rt_lines.specs.Equality.{line_eq}
use Rattle.rt_polar.specs.Tidied.{tidied}
use Rattle.rt_reduction.specs.Simplifies.{Simplifies}
use Rattle.rt_reduce.proofs.Leftover.{simplified_or}
use Rattle.rt_reduce.proofs.settling.is_simplified.Goals as goal

pub returns : goal.returns
returns c =
    let lines = c.args.lines.now in
    let left = c.in_ok-left.left in
    let start : c.from_vec.result ≡ lines = c.from_vec.ensures ∙ c.in_ok-start.ensures in
    let simplifies : Simplifies left lines = subst (Simplifies left) (ap tidied start ∙ c.requires) c.in_ok-left.ensures in
    simplified_or c.eq.result left lines (c.eq.ensures ∙ ap (λ (ls : List Line). pointwise line_eq ls lines) c.items.ensures) simplifies
