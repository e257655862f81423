use Rattle.std.proofs.Common.{◌≡◌, List, All, sym, subst}
use Rattle.rt_lines.specs.declared.line.Line.{Line}
use Rattle.rt_polar.specs.Tidied.{tidied}
use Rattle.rt_lines.specs.Lines.{HasConstantsBelow}
use Rattle.rt_reduction.specs.Emits.{AreOfScheme}
use Rattle.rt_reduction.specs.Rounds.{IsRound, IsUnfinished}
use Rattle.rt_reduce.specs.Inside.Handing.{AreNeeded}
use Rattle.rt_reduce.proofs.Between.{between_tidied, first_round, last_round, next_round as next_between, round_falls, told_false, told_true}
use Rattle.rt_reduce.proofs.reducing.go_round.Goals as goal

pub loop-now-init : goal.loop-now-init
loop-now-init c = record {
  scheme = c.in_ok-now.ensures.scheme;
  constants = c.in_ok-now.ensures.constants;
  between = first_round c.args.order.now c.args.lines c.in_ok-now.now c.in_ok-now.ensures.round;
  needed = c.in_ok-now.ensures.needed;
}

pub is_settled-requires : goal.is_settled-requires
is_settled-requires c =
    subst (λ (ls : List Line). tidied ls ≡ ls) (sym c.items.ensures)
    (between_tidied c.args.order.now c.args.lines c.loop-now.now c.loop-now.invariant.between)

pub next_round-requires-clause-scheme : goal.next_round-requires-clause-scheme
next_round-requires-clause-scheme c = subst AreOfScheme (sym c.items-in-loop-now.ensures) c.loop-now.invariant.scheme

pub next_round-requires-clause-constants : goal.next_round-requires-clause-constants
next_round-requires-clause-constants c =
    subst (All (HasConstantsBelow c.args.order.now.count)) (sym c.items-in-loop-now.ensures) c.loop-now.invariant.constants

pub next_round-requires-clause-needed : goal.next_round-requires-clause-needed
next_round-requires-clause-needed c = subst (AreNeeded c.args.order.now) (sym c.items-in-loop-now.ensures) c.loop-now.invariant.needed

pub loop-now-smaller : goal.loop-now-smaller
loop-now-smaller c =
    let now = c.loop-now.now in
    let left : IsUnfinished now =
    told_false c.in_ok-is_settled.field-0 c.items.result.now now c.items.ensures c.if-not-branch.true c.in_ok-is_settled.ensures in
    round_falls c.args.order.now c.args.lines now c.in_ok-now-2.now c.loop-now.invariant.between
    (subst (λ (ls : List Line). IsRound c.args.order.now (tidied ls) c.in_ok-now-2.now) c.items-in-loop-now.ensures c.in_ok-now-2.ensures.round) left
    c.loop-now.invariant.scheme

pub loop-now-preserved : goal.loop-now-preserved
loop-now-preserved c =
    let now = c.loop-now.now in
    let left : IsUnfinished now =
    told_false c.in_ok-is_settled.field-0 c.items.result.now now c.items.ensures c.if-not-branch.true c.in_ok-is_settled.ensures in
    record {
      scheme = c.in_ok-now-2.ensures.scheme;
      constants = c.in_ok-now-2.ensures.constants;
      between = next_between c.args.order.now c.args.lines now c.in_ok-now-2.now c.loop-now.invariant.between
          (subst (λ (ls : List Line). IsRound c.args.order.now (tidied ls) c.in_ok-now-2.now) c.items-in-loop-now.ensures c.in_ok-now-2.ensures.round)
          left;
      needed = c.in_ok-now-2.ensures.needed;
    }

pub returns : goal.returns
returns c =
    let now = c.loop-now.now in
    last_round c.args.order.now c.args.lines now c.loop-now.invariant.between
    (told_true c.in_ok-is_settled.field-0 c.items.result.now now c.items.ensures c.if-not-branch.false c.in_ok-is_settled.ensures)
