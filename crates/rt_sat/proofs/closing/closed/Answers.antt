use Rattle.std.proofs.Common.{List, Bool, ◌≤◌, length, sym, subst, ◌∙◌, arith}
use Rattle.std.proofs.lemmas.Grind.{common_steps}
use Rattle.rt_sat.specs.declared.state.Edge.{Edge}
use Rattle.rt_sat.specs.Hints.{AreTold}
use Rattle.rt_sat.specs.Pushes.{pushed_of, AreApart, AreDone}
use Rattle.rt_sat.proofs.Apart.{done_spread}
use Rattle.rt_sat.proofs.Growing.{all_longer, built_hinted, built_more, still_closing}
use Rattle.rt_sat.proofs.closing.closed.Goals as goal

pub pass-requires-clause-done : goal.pass-requires-clause-done
pass-requires-clause-done c =
    subst (λ (xs : List Bool). AreDone c.args.frame.now.named c.args.frame.now.flips.items c.args.frame.now.matters.items c.loop-done.layers.edges.items (pushed_of c.loop-done.layers) xs) (sym c.deref-in-loop-done.ensures.value)
    c.loop-done.invariant.done

pub loop-done-init : goal.loop-done-init
loop-done-init c = record {
  lines = c.in_ok-layers.ensures.lines;
  indexed = c.in_ok-layers.ensures.indexed;
  built = built_hinted c.args.frame.now.named c.args.frame.now.flips.items c.args.lines.items c.in_ok-hinted.hinted.edges.items c.in_ok-layers.layers.edges.items c.in_ok-layers.ensures.edges c.in_ok-hinted.ensures.within
      (subst (λ (xs : List Edge). AreTold c.args.frame.now.named c.args.frame.now.flips.items xs c.in_ok-hinted.hinted.edges.items) c.deref.ensures.value c.in_ok-hinted.ensures.told);
  done = c.in_ok-done.ensures;
}

pub returns-then-len-before : goal.returns-then-len-before
returns-then-len-before c =
    still_closing c.args.frame.now.named c.args.frame.now.flips.items c.args.frame.now.matters.items c.args.lines.items c.loop-done.layers c.pass.new.layers c.loop-done.invariant.lines c.loop-done.invariant.built
    c.in_ok-done-2.ensures.grown c.in_ok-done-2.ensures.all (grind (arith, common_steps))

pub loop-done-smaller : goal.loop-done-smaller
loop-done-smaller c =
    let longer : length c.loop-done.layers.edges.items ≤ length c.pass.new.layers.edges.items =
    all_longer c.args.frame.now.named c.args.frame.now.flips.items c.loop-done.layers c.pass.new.layers c.in_ok-done-2.ensures.grown in
    grind (arith, common_steps, longer)

pub loop-done-preserved : goal.loop-done-preserved
loop-done-preserved c = record {
  lines = c.in_ok-done-2.ensures.grown.lines ∙ c.loop-done.invariant.lines;
  indexed = c.in_ok-done-2.ensures.grown.indexed c.loop-done.invariant.indexed;
  built = built_more c.args.frame.now.named c.args.frame.now.flips.items c.args.lines.items c.loop-done.layers.edges.items c.pass.new.layers.edges.items c.loop-done.invariant.built c.in_ok-done-2.ensures.grown.grows;
  done =
      done_spread c.args.frame.now.named c.args.frame.now.flips.items c.args.frame.now.matters.items c.loop-done.layers c.pass.new.layers c.in_ok-done-2.done.items c.spread.new.done.items c.len-before.result
      (grind (arith, common_steps)) c.in_ok-done-2.ensures.grown c.spread.ensures.taken
      (subst (λ (xs : List Edge). AreApart xs c.len-before.result c.spread.new.done.items) c.deref-in-loop-done-2.ensures.value c.spread.ensures.apart) c.in_ok-done-2.ensures.done;
}
