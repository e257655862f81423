use Rattle.std.proofs.Common.{◌≡◌, Some, true, sym, ap, subst, ◌∙◌}
use Rattle.rt_lines.specs.Equality.{line_eq}
use Rattle.rt_lines.proofs.Equal.{line_equal}
use Rattle.rt_polar.proofs.places.is_held.Goals as goal
use Rattle.rt_lines.proofs.Same.{line_self}

pub returns-in-Some : goal.returns-in-Some
returns-in-Some c = (
  λ t. c.in-Some.is ∙ ap Some (sym c.line.ensures ∙ line_equal c.line.result.now c.line-in-Some.result.now (sym c.eq.ensures ∙ t) ∙ c.line-in-Some.ensures),
  λ e.
      let f : Some c.in-Some.held ≡ Some c.args.row.now = sym c.in-Some.is ∙ e in
      let g : c.in-Some.held ≡ c.args.row.now = cc in
      c.eq.ensures ∙ subst (λ m. line_eq c.line.result.now m ≡ true) (c.line.ensures ∙ g ∙ sym c.line-in-Some.ensures) (line_self c.line.result.now),
)
