use Rattle.std.proofs.Common.{sym, ◌∙◌}
use Rattle.rt_lines.specs.declared.label.Label.TheVariants.{Load, Store}
use Rattle.rt_outline.proofs.Sided.{step_made}
use Rattle.rt_outline.proofs.turning.has_access.Goals as goal

pub returns-then-is_some : goal.returns-then-is_some
returns-then-is_some c =
    let frame = c.args.frame.now in
    let load = step_made frame.origins.items frame.steps frame.arcs.items frame.back.items c.requires.frame c.args.node Load c.step.result c.step.ensures in
    let store = step_made frame.origins.items frame.steps frame.arcs.items frame.back.items c.requires.frame c.args.node Store c.step-then-is_some.result c.step-then-is_some.ensures in (
      λ e. (load.0 (sym c.is_some.ensures ∙ c.if-is_some.true), store.0 (sym c.is_some-then-is_some.ensures ∙ e)),
      λ a. c.is_some-then-is_some.ensures ∙ store.1 a.1,
    )
