use Rattle.rt_lines.specs.declared.variable.Base.TheVariants.{Exist}
use Rattle.rt_polar.specs.Index.{has}
use Rattle.rt_polar.proofs.Pairs.{bare_noted}
use Rattle.rt_refine.proofs.Noting.{noted_none}
use Rattle.rt_twins.specs.Inside.Leading.{IsBare}
use Rattle.rt_twins.proofs.Gathering.{arrow_noted}
use Rattle.rt_twins.proofs.arrows.note_arrow.Goals as goal

pub returns-in_default : goal.returns-in_default
returns-in_default c = λ m.
    noted_none (λ n. IsBare c.args.sign n (Exist m) c.args.line.now) (has c.args.arrows.now m) (λ n p. c.in_default.ensures n (Exist m) p)

pub returns-in_ok-insert : goal.returns-in_ok-insert
returns-in_ok-insert c =
    arrow_noted c.args.sign c.args.line.now c.in-Exist.n c.in-Some.existential c.in-Some.base (has c.args.arrows.now) (has c.insert.new.self)
    c.in-Some.ensures c.in-Exist.is
    (bare_noted c.in-Exist.n c.in-Some.existential (has c.args.arrows.now) (has c.insert.new.self)
    (λ n i. c.in_ok-insert.ensures.updates.0 (n, i)))
