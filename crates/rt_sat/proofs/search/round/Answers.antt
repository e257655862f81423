use Rattle.std.proofs.Common.{◌≡◌, ◌+◌, ◌++◌, ◌∷◌, false, get_or, drop, drop-cons, add-one, sym, subst, ap, ◌∙◌}
use Rattle.std.proofs.lemmas.List.{drop_all, append-nil}
use Rattle.rt_sat.specs.declared.state.State.{State}
use Rattle.rt_sat.specs.Searches.{AreRelaxed}
use Rattle.rt_sat.proofs.Searching.{fallen-chain}
use Rattle.rt_sat.proofs.search.round.Goals as goal

pub loop-state-preserved : goal.loop-state-preserved
loop-state-preserved c =
    let i = c.loop-state.state-index in
    let xs = c.args.active.now in
    let none : State = record { variable = 0; contra = false } in
    let first : drop i xs ≡ get_or xs i none ∷ drop (i + 1) xs = drop-cons xs i none c.loop-state-test.true ∙ ap (λ n. get_or xs i none ∷ drop n xs) (sym (add-one i)) in
    record {
      walks = λ start w. c.in_ok-visit.ensures.walks start (c.loop-state.invariant.walks start w);
      fallen = fallen-chain c.args.found.now c.loop-state.found c.visit.new.found c.loop-state.invariant.fallen c.in_ok-visit.ensures.fallen;
      relaxed = λ r. c.in_ok-visit.ensures.relaxed (drop (i + 1) xs)
          (subst (λ ys. AreRelaxed c.args.most c.args.edges.now c.loop-state.found (c.loop-state.next.items ++ ys)) first (c.loop-state.invariant.relaxed r));
    }

pub returns-clause-relaxed : goal.returns-clause-relaxed
returns-clause-relaxed c = λ r.
    subst (AreRelaxed c.args.most c.args.edges.now c.loop-state.found)
    (ap (λ ys. c.loop-state.next.items ++ ys) (drop_all c.loop-state.state-index c.args.active.now c.loop-state-test.false) ∙ append-nil c.loop-state.next.items)
    (c.loop-state.invariant.relaxed r)
