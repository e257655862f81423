use Rattle.std.proofs.Common.{ℕ, arith, ◌∙◌}
use Rattle.rt_sat.specs.Inside.Links.{AreReady}
use Rattle.rt_sat.proofs.ToldPushes.{all_ready_same}
use Rattle.rt_sat.proofs.gathering.spread_from.Goals as goal

pub sweep_due-requires-clause-family : goal.sweep_due-requires-clause-family
sweep_due-requires-clause-family c = (c.requires.family.0, c.loop-pass.invariant.family c.requires.family.0 c.requires.family.1)

pub push_due-requires-clause-family : goal.push_due-requires-clause-family
push_due-requires-clause-family c = (c.requires.family.0, c.in_ok-sweep_due.ensures.family c.requires.family.0 (c.loop-pass.invariant.family c.requires.family.0 c.requires.family.1))

pub push_due-requires-clause-ready : goal.push_due-requires-clause-ready
push_due-requires-clause-ready c =
    let is = c.requires.ready in
    let count : ℕ = c.requires.family.0 in (
      is.0,
      is.1,
      all_ready_same is.0 is.1 count c.args.family.now c.sweep_due.new.family c.args.kin.now.links c.args.kin.now.ready.items (c.in_ok-sweep_due.ensures.same ∙ c.loop-pass.invariant.same) c.requires.family.1
          (c.in_ok-sweep_due.ensures.family count (c.loop-pass.invariant.family count c.requires.family.1)) is.2,
    )

pub is_answered-requires : goal.is_answered-requires
is_answered-requires c = (c.requires.family.0, c.in_ok-sweep_due.ensures.family c.requires.family.0 (c.loop-pass.invariant.family c.requires.family.0 c.requires.family.1))

pub returns-then-is_answered-clause-same : goal.returns-then-is_answered-clause-same
returns-then-is_answered-clause-same c = c.in_ok-sweep_due.ensures.same ∙ c.loop-pass.invariant.same

pub returns-then-is_answered-clause-told : goal.returns-then-is_answered-clause-told
returns-then-is_answered-clause-told c = λ known flips lines are linked before.
    c.in_ok-sweep_due.ensures.told known flips lines (c.loop-pass.invariant.told known flips lines are linked before)

pub returns-then-is_answered-clause-family : goal.returns-then-is_answered-clause-family
returns-then-is_answered-clause-family c = λ n before. c.in_ok-sweep_due.ensures.family n (c.loop-pass.invariant.family n before)

pub returns-then-not-contains-clause-told : goal.returns-then-not-contains-clause-told
returns-then-not-contains-clause-told c = λ known flips lines are linked before.
    let count : ℕ = c.requires.family.0 in
    let here : AreReady known flips c.sweep_due.new.family c.args.kin.now.links c.args.kin.now.ready.items =
    all_ready_same known flips count c.args.family.now c.sweep_due.new.family c.args.kin.now.links c.args.kin.now.ready.items (c.in_ok-sweep_due.ensures.same ∙ c.loop-pass.invariant.same) c.requires.family.1
    (c.in_ok-sweep_due.ensures.family count (c.loop-pass.invariant.family count c.requires.family.1)) are in
    c.in_ok-push_due.ensures.told known flips lines here linked (c.in_ok-sweep_due.ensures.told known flips lines (c.loop-pass.invariant.told known flips lines are linked before))

pub returns-then-not-contains-clause-family : goal.returns-then-not-contains-clause-family
returns-then-not-contains-clause-family c = λ n before. c.in_ok-push_due.ensures.family n (c.in_ok-sweep_due.ensures.family n (c.loop-pass.invariant.family n before))

pub loop-pass-preserved : goal.loop-pass-preserved
loop-pass-preserved c = record {
  same = c.in_ok-push_due.ensures.same ∙ c.in_ok-sweep_due.ensures.same ∙ c.loop-pass.invariant.same;
  family = λ n before. c.in_ok-push_due.ensures.family n (c.in_ok-sweep_due.ensures.family n (c.loop-pass.invariant.family n before));
  told = λ known flips lines are linked before.
      let count : ℕ = c.requires.family.0 in
      let here : AreReady known flips c.sweep_due.new.family c.args.kin.now.links c.args.kin.now.ready.items =
      all_ready_same known flips count c.args.family.now c.sweep_due.new.family c.args.kin.now.links c.args.kin.now.ready.items (c.in_ok-sweep_due.ensures.same ∙ c.loop-pass.invariant.same) c.requires.family.1
      (c.in_ok-sweep_due.ensures.family count (c.loop-pass.invariant.family count c.requires.family.1)) are in
      c.in_ok-push_due.ensures.told known flips lines here linked (c.in_ok-sweep_due.ensures.told known flips lines (c.loop-pass.invariant.told known flips lines are linked before));
  due = omega (arith, c.in_ok-push_due.ensures.next, c.in_ok-sweep_due.ensures.next, c.in_ok-next.ensures.len, c.len.ensures, c.loop-pass.invariant.due);
}
