use Rattle.std.proofs.Common.{◌≡◌, List, Bool, false, IsTrue, ◌≤◌, inl, inr, refl, length, sym, subst, ◌∙◌, arith}
use Rattle.std.proofs.lemmas.Grind.{common_steps}
use Rattle.rt_sat.specs.declared.state.Edge.{Edge}
use Rattle.rt_sat.specs.Hints.{AreTold}
use Rattle.rt_sat.specs.Pushes.{pushed_of, AreApart, AreDone, IsStill}
use Rattle.rt_sat.specs.Tables.{HasNought}
use Rattle.rt_sat.proofs.Apart.{done_spread}
use Rattle.rt_sat.proofs.Growing.{all_counted, all_longer, built_hinted, built_more, still_closing}
use Rattle.rt_sat.proofs.asking.reaches.Goals as goal

-- no answer is both yes and no
not_both : {yes : Bool} → IsTrue yes → yes ≡ false → ⊥
not_both h e = cc

pub pass-requires-clause-done : goal.pass-requires-clause-done
pass-requires-clause-done c =
    subst (λ (xs : List Bool). AreDone c.args.begun.frame.named c.args.begun.frame.flips.items c.args.begun.frame.matters.items c.loop-done.layers.edges.items (pushed_of c.loop-done.layers) xs) (sym c.deref-in-loop-done.ensures.value)
    c.loop-done.invariant.done

pub loop-done-init : goal.loop-done-init
loop-done-init c = record {
  lines = c.in_ok-layers.ensures.lines;
  indexed = c.in_ok-layers.ensures.indexed;
  built = built_hinted c.args.begun.frame.named c.args.begun.frame.flips.items c.args.begun.first.items c.in_ok-hinted.hinted.edges.items
      c.in_ok-layers.layers.edges.items c.in_ok-layers.ensures.edges c.in_ok-hinted.ensures.within
      (subst (λ (xs : List Edge). AreTold c.args.begun.frame.named c.args.begun.frame.flips.items xs c.in_ok-hinted.hinted.edges.items)
      c.deref.ensures.value c.in_ok-hinted.ensures.told);
  unmet = λ h. absurd (not_both (c.in_ok-meets.ensures.1 h) c.if-branch.false);
  done = c.in_ok-done.ensures;
}

pub returns-then-branch : goal.returns-then-branch
returns-then-branch c = record {
  edges = c.in_ok-layers.layers.edges.items;
  built = built_hinted c.args.begun.frame.named c.args.begun.frame.flips.items c.args.begun.first.items c.in_ok-hinted.hinted.edges.items
      c.in_ok-layers.layers.edges.items c.in_ok-layers.ensures.edges c.in_ok-hinted.ensures.within
      (subst (λ (xs : List Edge). AreTold c.args.begun.frame.named c.args.begun.frame.flips.items xs c.in_ok-hinted.hinted.edges.items)
      c.deref.ensures.value c.in_ok-hinted.ensures.told);
  says = (λ h. c.in_ok-meets.ensures.0 c.if-branch.true, λ h. refl);
  whole = inl refl;
}

pub returns-then-branch-2 : goal.returns-then-branch-2
returns-then-branch-2 c = record {
  edges = c.pass.new.layers.edges.items;
  built =
      built_more c.args.begun.frame.named c.args.begun.frame.flips.items c.args.begun.first.items c.loop-done.layers.edges.items
      c.pass.new.layers.edges.items c.loop-done.invariant.built c.in_ok-done-2.ensures.grown.grows;
  says = (λ h. c.in_ok-meets-2.ensures.0 c.if-branch-2.true, λ h. refl);
  whole = inl refl;
}

pub returns-then-len-before : goal.returns-then-len-before
returns-then-len-before c =
    let still : IsStill c.loop-done.layers c.pass.new.layers =
    all_counted c.args.begun.frame.named c.args.begun.frame.flips.items c.loop-done.layers c.pass.new.layers c.in_ok-done-2.ensures.grown
    (grind (arith, common_steps)) in
    record {
      edges = c.pass.new.layers.edges.items;
      built =
          built_more c.args.begun.frame.named c.args.begun.frame.flips.items c.args.begun.first.items c.loop-done.layers.edges.items
          c.pass.new.layers.edges.items c.loop-done.invariant.built c.in_ok-done-2.ensures.grown.grows;
      says = (
        λ h. absurd (cc),
        λ h. absurd (c.loop-done.invariant.unmet
            (subst (λ (xs : List Edge). HasNought xs c.args.sources.now c.args.targets.now) still h)),
      );
      whole = inr
          (still_closing c.args.begun.frame.named c.args.begun.frame.flips.items c.args.begun.frame.matters.items
          c.args.begun.first.items c.loop-done.layers c.pass.new.layers c.loop-done.invariant.lines c.loop-done.invariant.built
          c.in_ok-done-2.ensures.grown c.in_ok-done-2.ensures.all (grind (arith, common_steps)));
    }

pub loop-done-smaller : goal.loop-done-smaller
loop-done-smaller c =
    let longer : length c.loop-done.layers.edges.items ≤ length c.pass.new.layers.edges.items =
    all_longer c.args.begun.frame.named c.args.begun.frame.flips.items c.loop-done.layers c.pass.new.layers c.in_ok-done-2.ensures.grown in
    grind (arith, common_steps, longer)

pub loop-done-preserved : goal.loop-done-preserved
loop-done-preserved c = record {
  lines = c.in_ok-done-2.ensures.grown.lines ∙ c.loop-done.invariant.lines;
  indexed = c.in_ok-done-2.ensures.grown.indexed c.loop-done.invariant.indexed;
  built =
      built_more c.args.begun.frame.named c.args.begun.frame.flips.items c.args.begun.first.items c.loop-done.layers.edges.items c.pass.new.layers.edges.items c.loop-done.invariant.built
      c.in_ok-done-2.ensures.grown.grows;
  unmet = λ h. absurd (not_both (c.in_ok-meets-2.ensures.1 h) c.if-branch-2.false);
  done =
      done_spread c.args.begun.frame.named c.args.begun.frame.flips.items c.args.begun.frame.matters.items c.loop-done.layers c.pass.new.layers c.in_ok-done-2.done.items c.spread.new.done.items
      c.len-before.result (grind (arith, common_steps)) c.in_ok-done-2.ensures.grown c.spread.ensures.taken
      (subst (λ (xs : List Edge). AreApart xs c.len-before.result c.spread.new.done.items) c.deref-in-loop-done-2.ensures.value c.spread.ensures.apart) c.in_ok-done-2.ensures.done;
}
