use Rattle.std.proofs.Common.{◌≡◌, [], ◌∷◌, ◌++◌, ap, ◌∙◌, sym, subst, arith}
use Rattle.std.proofs.lemmas.Grind.{common_steps}
use Rattle.rt_sat.specs.Searches.{AreRelaxed}
use Rattle.rt_sat.proofs.Searching.{fallen-self, fallen-chain}
use Rattle.rt_sat.proofs.search.settle.Goals as goal

pub loop-init : goal.loop-init
loop-init c = record {
  walks = λ start w. w;
  fallen = fallen-self c.args.found.now;
  relaxed = λ r. subst (AreRelaxed c.args.most c.args.edges.now c.args.found.now) (sym (c.in_ok-push.ensures.items ∙ ap (λ xs. xs ++ c.args.from ∷ []) c.new-active.ensures.items)) r;
}

pub loop-preserved : goal.loop-preserved
loop-preserved c = record {
  walks = λ start w. c.in_ok-active.ensures.walks start (c.loop.invariant.walks start w);
  fallen = fallen-chain c.args.found.now c.loop.found c.round.new.found c.loop.invariant.fallen c.in_ok-active.ensures.fallen;
  relaxed = λ r. c.in_ok-active.ensures.relaxed (subst (AreRelaxed c.args.most c.args.edges.now c.loop.found) (sym c.deref.ensures.value) (c.loop.invariant.relaxed r));
}

pub returns-then-is_empty-clause-relaxed : goal.returns-then-is_empty-clause-relaxed
returns-then-is_empty-clause-relaxed c =
    let empty : c.loop.active.items ≡ [] = grind (arith, common_steps) in
    λ r. subst (AreRelaxed c.args.most c.args.edges.now c.loop.found) empty (c.loop.invariant.relaxed r)
