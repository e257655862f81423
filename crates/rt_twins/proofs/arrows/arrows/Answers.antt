use Rattle.std.proofs.Common.{List, subst}
use Rattle.std.specs.Ordering.{is_eq, nat_cmp, ordering_then}
use Rattle.std.proofs.lemmas.List.{take_all}
use Rattle.rt_lines.specs.declared.variable.Base.TheVariants.{Exist}
use Rattle.rt_lines.specs.declared.line.Line.{Line}
use Rattle.rt_polar.specs.Index.{has}
use Rattle.rt_twins.specs.Inside.Leading.{AreArrows, IsBare}
use Rattle.rt_twins.proofs.Following.{none_there}
use Rattle.rt_twins.proofs.Gathering.{of_lines_more, of_lines_none}
use Rattle.rt_twins.proofs.arrows.arrows.Goals as goal

pub loop-line-init : goal.loop-line-init
loop-line-init c = λ m.
    of_lines_none (λ n. IsBare c.args.sign n (Exist m)) (has c.new-found.result m)
    (λ n. none_there (λ k. is_eq (ordering_then (nat_cmp m k.0) (nat_cmp n k.1))) c.new-found.result.keys c.new-found.ensures.empty)

pub loop-line-preserved : goal.loop-line-preserved
loop-line-preserved c = λ m.
    of_lines_more (λ n. IsBare c.args.sign n (Exist m)) c.args.lines.now c.loop-line.line-index c.line-item.result
    (has c.loop-line.found m) (has c.note_arrow.new.arrows m) c.loop-line-test.true c.line-item.is
    (c.loop-line.invariant m) (c.in_ok-note_arrow.ensures m)

pub returns : goal.returns
returns c =
    subst (λ (ls : List Line). AreArrows c.args.sign ls (has c.loop-line.found))
    (take_all c.loop-line.line-index c.args.lines.now c.loop-line-test.false) c.loop-line.invariant
