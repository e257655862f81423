use Rattle.std.proofs.Common.{◌<◌, List, subst}
use Rattle.rt_lines.specs.declared.line.Line.{Line}
use Rattle.rt_polar.specs.Tidied.{tidied}
use Rattle.rt_record.specs.Slots.{HasNoneSplit, IsSplit}
use Rattle.rt_reduction.specs.Rounds.{Prepares, whole, splits}
use Rattle.rt_simplify.proofs.Bounding.{splits_of}
use Rattle.rt_simplify.proofs.Parted.{none_parted, some_parted, fewer_left}
use Rattle.rt_simplify.proofs.splitting.split_records.Goals as goal

pub loop-left-init : goal.loop-left-init
loop-left-init c = λ left s. s

pub loop-left-smaller : goal.loop-left-smaller
loop-left-smaller c =
    let ready = c.in_ok-left.left in
    let parted = c.in-Some.parted in
    let p : Prepares ready (tidied parted) = subst (λ (ls : List Line). Prepares ready ls) c.in_ok-next.ensures c.in_ok-left.ensures in
    subst (λ (ls : List Line). splits_of ready < splits_of ls) c.items.ensures
    (fewer_left c.in_ok-parted.field-0 c.items.result.now parted ready c.in-Some.is c.in_ok-parted.ensures.count
    c.in_ok-parted.ensures.smaller p)

pub loop-left-preserved : goal.loop-left-preserved
loop-left-preserved c =
    let now = c.loop-left.left in
    let ready = c.in_ok-left.left in
    let parted = c.in-Some.parted in
    let is : IsSplit now parted =
    subst (λ (ls : List Line). IsSplit ls parted) c.items.ensures
    (some_parted c.in_ok-parted.field-0 c.items.result.now parted c.in-Some.is c.in_ok-parted.ensures.split) in
    let p : Prepares ready (tidied parted) = subst (λ (ls : List Line). Prepares ready ls) c.in_ok-next.ensures c.in_ok-left.ensures in
    λ left s. c.loop-left.invariant left (splits now parted ready is p s)

pub returns : goal.returns
returns c =
    let now = c.loop-left.left in
    let none : HasNoneSplit now =
    subst (λ (ls : List Line). HasNoneSplit ls) c.items.ensures
    (none_parted c.in_ok-parted.field-0 c.items.result.now c.in_default.is c.in_ok-parted.ensures.split) in
    c.loop-left.invariant now (whole none)
