use Rattle.std.proofs.Common.{◌<◌, List, subst, arith}
use Rattle.rt_lines.specs.declared.line.Line.{Line}
use Rattle.rt_polar.specs.Tidied.{tidied}
use Rattle.rt_lines.specs.FlowCounts.{flow_count}
use Rattle.rt_trim.specs.Trimming.{HasNoneIdle, IsTrimmed}
use Rattle.rt_reduction.specs.Rounds.{Prepares, prepared, trims}
use Rattle.rt_simplify.specs.Inside.Preparing.{IsOnce}
use Rattle.rt_simplify.proofs.Counting.{once-count, tidied-count}
use Rattle.rt_simplify.proofs.Trimmed.{none_idle, some_idle, some_fewer}
use Rattle.rt_simplify.proofs.preparing.prepare.Goals as goal

pub loop-left-init : goal.loop-left-init
loop-left-init c =
    (c.args.lines, subst (λ (ls : List Line). IsOnce ls c.in_ok-left.left) c.items.ensures c.in_ok-left.ensures, λ left p. p)

pub loop-left-smaller : goal.loop-left-smaller
loop-left-smaller c =
    let now = c.loop-left.left in
    let trimmed = c.in-Some.trimmed in
    let fewer : flow_count trimmed < flow_count now =
    subst (λ (ls : List Line). flow_count trimmed < flow_count ls) c.items-in-loop-left.ensures
    (some_fewer c.in_ok-trimmed.field-0 c.items-in-loop-left.result.now trimmed c.in-Some.is c.in_ok-trimmed.ensures.smaller) in
    let once : IsOnce (tidied trimmed) c.in_ok-left-2.left =
    subst (λ (ls : List Line). IsOnce ls c.in_ok-left-2.left) c.in_ok-next.ensures
    (subst (λ (ls : List Line). IsOnce ls c.in_ok-left-2.left) c.items-in-Some.ensures c.in_ok-left-2.ensures) in
    omega (arith, fewer, tidied-count trimmed, once-count (tidied trimmed) c.in_ok-left-2.left once)

pub loop-left-preserved : goal.loop-left-preserved
loop-left-preserved c =
    let now = c.loop-left.left in
    let trimmed = c.in-Some.trimmed in
    let (before, (between, r, s), on) = c.loop-left.invariant in
    let is : IsTrimmed now trimmed =
    subst (λ (ls : List Line). IsTrimmed ls trimmed) c.items-in-loop-left.ensures
    (some_idle c.in_ok-trimmed.field-0 c.items-in-loop-left.result.now trimmed c.in-Some.is c.in_ok-trimmed.ensures.trimmed) in
    let (idle, are, other, e) = is in
    let once : IsOnce (tidied trimmed) c.in_ok-left-2.left =
    subst (λ (ls : List Line). IsOnce ls c.in_ok-left-2.left) c.in_ok-next.ensures
    (subst (λ (ls : List Line). IsOnce ls c.in_ok-left-2.left) c.items-in-Some.ensures c.in_ok-left-2.ensures) in (
      tidied trimmed,
      once,
      λ left p. on left (trims before between now idle r s are other (subst (λ (ls : List Line). Prepares left (tidied ls)) e p)),
    )

pub returns : goal.returns
returns c =
    let now = c.loop-left.left in
    let (before, (between, r, s), on) = c.loop-left.invariant in
    let none : HasNoneIdle now =
    subst (λ (ls : List Line). HasNoneIdle ls) c.items-in-loop-left.ensures
    (none_idle c.in_ok-trimmed.field-0 c.items-in-loop-left.result.now c.in_default.is c.in_ok-trimmed.ensures.trimmed) in
    let (idle, are, same) = none in
    on now (prepared before between idle r s are same)
