use Rattle.std.proofs.Common.{true, [], Contains, get_or, inl, inr, subst, sym, arith}
use Rattle.std.proofs.lemmas.List.{get_or_default}
use Rattle.rt_base.proofs.Lists.{Contains-none}
use Rattle.rt_outline.specs.Arcs.{Leads}
use Rattle.rt_outline.proofs.Sought.{asked_next, asked_whole, reached_one}
use Rattle.rt_outline.proofs.seeking.missing.Goals as goal

pub loop-end-init : goal.loop-end-init
loop-end-init c = record {
  only = λ w k. absurd (Contains-none w (subst (λ xs. Contains xs w) c.new-fresh.ensures.items k));
  reached = λ e. reached_one (Leads c.args.arcs.now [] true) c.args.node c.begin.new.known.numbers c.seek.new.known.numbers c.in_ok-begin.ensures c.in_ok-seek.ensures;
  asked = λ e j h. absurd (omega (arith, h));
}

pub loop-end-preserved : goal.loop-end-preserved
loop-end-preserved c = record {
  only = λ w k. (elim (c.in_ok-ask.ensures.only w k) [
    | inl d ↦ c.loop-end.invariant.only w d
    | inr e ↦ subst (Contains c.args.ends.now) e (subst (λ xs. Contains xs (get_or c.numbers-end-items.result.now c.loop-end.end-index 0)) c.numbers-end-items.ensures
        (c.loop-end.end-index, c.loop-end-test.true, get_or_default c.numbers-end-items.result.now c.loop-end.end-index (get_or c.numbers-end-items.result.now c.loop-end.end-index 0) 0 c.loop-end-test.true))
  ]);
  reached = λ e w k. c.loop-end.invariant.reached (c.in_ok-ask.ensures.none e).0 w (subst (λ xs. Contains xs w) (c.in_ok-ask.ensures.none e).1 k);
  asked = λ e. asked_next c.ask.new.known.numbers c.numbers-end-items.result.now c.loop-end.end-index
      (λ j h. subst (λ xs. Contains xs (get_or c.numbers-end-items.result.now j 0)) (sym (c.in_ok-ask.ensures.none e).1) (c.loop-end.invariant.asked (c.in_ok-ask.ensures.none e).0 j h))
      (subst (λ xs. Contains xs (get_or c.numbers-end-items.result.now c.loop-end.end-index 0)) (sym (c.in_ok-ask.ensures.none e).1) (c.in_ok-ask.ensures.none e).2);
}

pub returns-clause-only : goal.returns-clause-only
returns-clause-only c = c.loop-end.invariant.only

pub returns-clause-none : goal.returns-clause-none
returns-clause-none c = λ e w k. c.loop-end.invariant.reached e w
    (asked_whole c.loop-end.known.numbers c.numbers-end-items.result.now c.args.ends.now c.loop-end.end-index c.numbers-end-items.ensures c.loop-end-test.false (c.loop-end.invariant.asked e) w k)
