use Rattle.std.proofs.Common.{ℕ, All, ap, length, subst, sym, ◌∙◌}
use Rattle.std.proofs.lemmas.List.Elements.{All-get_or}
use Rattle.rt_sat.specs.declared.family.Family.{Family}
use Rattle.rt_sat.specs.Hints.{IsFamily, IsToldFamily}
use Rattle.rt_sat.specs.Inside.Links.{IsReady}
use Rattle.rt_sat.proofs.ToldPushes.{ready_same}
use Rattle.rt_sat.proofs.gathering.push_due.Goals as goal
use Rattle.rt_sat.proofs.gathering.push_due.Goals.{in-Some+in_ok-push_ready, in_default}

pub push_ready-requires-clause-family : goal.push_ready-requires-clause-family
push_ready-requires-clause-family c = (c.requires.family.0, c.loop-ready.invariant.family c.requires.family.0 c.requires.family.1)

pub push_ready-requires-clause-ready : goal.push_ready-requires-clause-ready
push_ready-requires-clause-ready c =
    let is = c.requires.ready in
    let links = c.args.kin.now.links in
    let count : ℕ = c.requires.family.0 in
    let item : IsReady is.0 is.1 c.args.family.now links c.ready-item.result =
    subst (IsReady is.0 is.1 c.args.family.now links) (sym c.ready-item.is)
    (All-get_or (IsReady is.0 is.1 c.args.family.now links) c.deref-ready-items.result.now c.loop-ready.ready-index c.ready-item.result c.loop-ready-test.true
    (subst (All (IsReady is.0 is.1 c.args.family.now links)) (sym c.deref-ready-items.ensures.value) is.2)) in
    (is.0, is.1, links, ready_same is.0 is.1 count c.args.family.now c.loop-ready.family links c.ready-item.result c.loop-ready.invariant.same c.requires.family.1 (c.loop-ready.invariant.family count c.requires.family.1) item)

pub loop-ready-preserved : goal.loop-ready-preserved
loop-ready-preserved c =
    let links = c.args.kin.now.links in
    let count : ℕ = c.requires.family.0 in
    let old = c.args.family.now in
    let now = c.loop-ready.family in
    elim c.match-clock_of.branch [
      | in-Some+in_ok-push_ready w ↦ record {
        same = ap (λ (f : Family). f.members.items) w.family-is ∙ w.in_ok-push_ready.ensures.same ∙ c.loop-ready.invariant.same;
        family = λ n before. subst (IsFamily n) (sym w.family-is) (w.in_ok-push_ready.ensures.family n (c.loop-ready.invariant.family n before));
        told = λ known flips lines are linked before.
            let item : IsReady known flips old links c.ready-item.result =
            subst (IsReady known flips old links) (sym c.ready-item.is)
            (All-get_or (IsReady known flips old links) c.deref-ready-items.result.now c.loop-ready.ready-index c.ready-item.result c.loop-ready-test.true
            (subst (All (IsReady known flips old links)) (sym c.deref-ready-items.ensures.value) are)) in
            let here : IsReady known flips now links c.ready-item.result =
            ready_same known flips count old now links c.ready-item.result c.loop-ready.invariant.same c.requires.family.1 (c.loop-ready.invariant.family count c.requires.family.1) item in
            subst (IsToldFamily known flips lines) (sym w.family-is) (w.in_ok-push_ready.ensures.told known flips links lines here linked (c.loop-ready.invariant.told known flips lines are linked before));
        next = ap (λ next. length next.items) w.next-is ∙ w.in_ok-push_ready.ensures.next ∙ c.loop-ready.invariant.next;
      }
      | in_default w ↦ record {
        same = ap (λ (f : Family). f.members.items) w.family-is ∙ c.loop-ready.invariant.same;
        family = λ n before. subst (IsFamily n) (sym w.family-is) (c.loop-ready.invariant.family n before);
        told = λ known flips lines are linked before. subst (IsToldFamily known flips lines) (sym w.family-is) (c.loop-ready.invariant.told known flips lines are linked before);
        next = ap (λ next. length next.items) w.next-is ∙ c.loop-ready.invariant.next;
      }
    ]
