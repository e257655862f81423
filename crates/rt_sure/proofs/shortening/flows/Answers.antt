use Rattle.std.proofs.Common.{Contains, sym, subst}
use Rattle.rt_lines.specs.Lines.{HasConstantsBelow}
use Rattle.rt_rules.specs.Rules.{Derivable}
use Rattle.rt_rules.proofs.Carry.{given}
use Rattle.rt_sure.proofs.Grown.{below_push, derives_push, subtype_below}
use Rattle.rt_sure.proofs.shortening.flows.Goals as goal
use Rattle.rt_sure.proofs.shortening.flows.Goals.{then-is_below+in_ok-copy+in_ok-push, else-is_below}

pub loop-line-preserved : goal.loop-line-preserved
loop-line-preserved c =
    let lines = c.args.lines.now in
    let line = c.line-item.result in
    let there : Contains lines line = (c.loop-line.line-index, c.loop-line-test.true, sym c.line-item.is) in
    elim c.if-is_below.branch [
      | then-is_below+in_ok-copy+in_ok-push w ↦ rw w.flows-is (record {
        derived = λ order. derives_push order lines c.loop-line.flows.items w.push.new.self.items w.in_ok-copy.field-0
            w.in_ok-push.ensures.items (subst (Derivable order lines) (sym w.in_ok-copy.ensures) (given order lines line there))
            (c.loop-line.invariant.derived order);
        unbounded = λ count. below_push count c.loop-line.flows.items w.push.new.self.items w.in_ok-copy.field-0
            w.in_ok-push.ensures.items
            (subst (HasConstantsBelow count) (sym w.in_ok-copy.ensures)
            (subtype_below count line (c.is_below.ensures.0 w.if-is_below.true)))
            (c.loop-line.invariant.unbounded count);
      })
      | else-is_below w ↦ rw w.flows-is c.loop-line.invariant
    ]
