use Rattle.std.proofs.Common.{◌≡◌, ◌<◌, length, get_or, sym, ap, subst, ◌∙◌, arith}
use Rattle.std.proofs.lemmas.List.{get_or_default}
use Rattle.rt_outline.proofs.Closed.{entered_more}
use Rattle.rt_outline.proofs.closing.enter.Goals as goal

pub join-requires-clause-to : goal.join-requires-clause-to
join-requires-clause-to c =
    let h : get_or c.args.fresh.now c.loop-target.target-index 0 < length c.args.frame.now.origins.items = c.requires.within (get_or c.args.fresh.now c.loop-target.target-index 0)
    (c.loop-target.target-index, c.loop-target-test.true, get_or_default c.args.fresh.now c.loop-target.target-index (get_or c.args.fresh.now c.loop-target.target-index 0) 0 c.loop-target-test.true) in
    subst (λ xs. get_or c.args.fresh.now c.loop-target.target-index 0 < length xs) (sym c.loop-target.invariant.origins) h

pub loop-target-preserved : goal.loop-target-preserved
loop-target-preserved c = record {
  frame = c.in_ok-join.ensures.frame;
  origins = c.join.ensures.origins ∙ c.loop-target.invariant.origins;
  steps = c.join.ensures.steps ∙ c.loop-target.invariant.steps;
  kept = λ v w line h. c.in_ok-join.ensures.added.kept v w line (c.loop-target.invariant.kept v w line h);
  more = entered_more c.args.node c.args.fresh.now (get_or c.args.fresh.now c.loop-target.target-index 0) c.args.frame.now.arcs.items c.loop-target.frame.arcs.items c.join.new.self.arcs.items
      (c.loop-target.target-index, c.loop-target-test.true, get_or_default c.args.fresh.now c.loop-target.target-index (get_or c.args.fresh.now c.loop-target.target-index 0) 0 c.loop-target-test.true)
      c.in_ok-join.ensures.added c.loop-target.invariant.more;
  none = λ e. absurd (let f : length c.args.fresh.now ≡ 0 = ap length e in omega (arith, f, c.loop-target-test.true));
}
