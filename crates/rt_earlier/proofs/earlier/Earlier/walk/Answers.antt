use Rattle.std.proofs.Common.{◌≡◌, ◌+◌, Option, List, Some, get_or, sym, ap, subst, ◌∙◌}
use Rattle.std.specs.Prelude.{slice_get}
use Rattle.rt_lines.specs.declared.label.Label.{Label}
use Rattle.rt_lines.specs.declared.label.Label.TheVariants.{In}
use Rattle.rt_lines.specs.declared.label.Loc.TheVariants.{Arg}
use Rattle.rt_lines.specs.declared.variable.Dtv.{Dtv}
use Rattle.rt_rules.specs.Rules.{longer}
use Rattle.rt_named.proofs.Prefixes.{prefix_of, prefix_more}
use Rattle.rt_earlier.specs.Inside.Earlier.{Reaches}
use Rattle.rt_earlier.proofs.Reaching.{reach_self, reach_step}
use Rattle.rt_earlier.proofs.earlier.Earlier.walk.Goals as goal

pub loop-label-init : goal.loop-label-init
loop-label-init c =
    let named = c.args.self.now.named in
    let x = c.args.x.now in
    let with_word : List Label → Option Dtv = λ w. Some (record { base = x.base; word = w }) in
    let at : slice_get named c.in-Some.number ≡ Some (prefix_of x 0) = c.in-Some.ensures ∙ ap with_word c.empty.ensures in
    record {
      items = c.items-label-items.ensures.letters;
      reaches = λ order lines sound. reach_self order lines named (prefix_of x 0) c.in-Some.number at (sound.there c.in-Some.number (prefix_of x 0) at);
    }

pub loop-label-preserved : goal.loop-label-preserved
loop-label-preserved c =
    let s = c.args.self.now in
    let x = c.args.x.now in
    let i = c.loop-label.label-index in
    let items = c.items-label-items.result.now in
    let label = get_or items i (In (Arg 0)) in
    let class = c.class_of-class.result in
    let child = c.in-Some-get.child.now in
    let next : longer (prefix_of x i) label ≡ prefix_of x (i + 1) = prefix_more x items i (In (Arg 0)) c.items-label-items.ensures.letters c.loop-label-test.true in
    record {
      items = c.items-label-items.ensures.letters;
      reaches = λ order lines sound.
          let here = c.loop-label.invariant.reaches order lines sound in
          subst (λ z. Reaches order lines s.named z child) next
          (reach_step order lines s.named (prefix_of x i) c.loop-label.number class label child here (c.class_of-class.ensures order lines here.to sound here.at)
          (sound.children_lead class label child (sym c.in-Some-get.ensures.value)));
    }
