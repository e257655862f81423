use Rattle.std.proofs.Common.{ℕ, List}
use Rattle.rt_lines.specs.declared.label.Label.{Label}
use Rattle.rt_lines.specs.declared.variable.Dtv.{Dtv}
use Rattle.rt_rules.specs.Rules.{HasSide}
use Rattle.rt_shape.specs.Graphs.{Has}
use Rattle.rt_polar.proofs.Giving.{on_ok_both}
use Rattle.rt_emit.specs.Inside.Letters.{with_edges, AreKept}
use Rattle.std.proofs.lemmas.Result.{on_ok_weaker}
use Rattle.rt_emit.proofs.Lettering.{sides_walked}
use Rattle.rt_emit.proofs.letters.enter_line.Goals as goal

pub returns-in_ok-enter_variable-in-Same-clause-kept : goal.returns-in_ok-enter_variable-in-Same-clause-kept
returns-in_ok-enter_variable-in-Same-clause-kept c =
    on_ok_weaker c.enter_variable-in-Same.result (λ kept n l m e. kept n l m (c.in_ok-enter_variable-in-Same.ensures.kept n l m e))
    c.enter_variable-in-Same.ensures.kept

pub returns-in_ok-enter_variable-in-Same-clause-walked : goal.returns-in_ok-enter_variable-in-Same-clause-walked
returns-in_ok-enter_variable-in-Same-clause-walked c =
    let old : List ((ℕ × Label) × ℕ) = c.enter_variable.new.edges.entries in
    let new : List ((ℕ × Label) × ℕ) = c.enter_variable-in-Same.new.edges.entries in
    on_ok_both c.enter_variable-in-Same.result (AreKept old new) (Has (with_edges c.args.shape.now new) c.in-Same.y)
    ((x : Dtv) → HasSide c.args.line.now x → Has (with_edges c.args.shape.now new) x)
    (λ kept walked. sides_walked c.args.line.now c.in-Same.x c.in-Same.y c.args.shape.now old new c.in-Same.is kept
    c.in_ok-enter_variable-in-Same.ensures.walked walked)
    c.enter_variable-in-Same.ensures.kept c.enter_variable-in-Same.ensures.walked
