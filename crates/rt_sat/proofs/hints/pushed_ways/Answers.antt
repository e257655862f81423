use Rattle.std.proofs.Common.{◌≡◌, length, subst, sym, ap, ◌∙◌}
use Rattle.std.proofs.lemmas.List.Elements.{All-get_or}
use Rattle.rt_sat.specs.Hints.{IsFamily, IsGroup}
use Rattle.rt_sat.proofs.hints.pushed_ways.Goals as goal

pub loop-group-init : goal.loop-group-init
loop-group-init c =
    let long : length c.deref.result.now ≡ length c.args.frame.now.named = ap length c.deref.ensures.value ∙ c.in_ok-nodes.ensures ∙ c.len.ensures.count in
    record {
      family = subst (λ n. IsFamily n c.in_ok-pushed.pushed) long c.in_ok-pushed.ensures.family;
      told = λ lines t. c.in_ok-pushed.ensures.told c.args.frame.now.named c.args.frame.now.flips.items lines (sym long);
    }

pub push_apart-requires-clause-group : goal.push_apart-requires-clause-group
push_apart-requires-clause-group c =
    subst (IsGroup c.args.family.now) (sym c.group-item.is)
    (All-get_or (IsGroup c.args.family.now) c.args.groups.now c.loop-group.group-index c.group-item.result c.loop-group-test.true c.requires.groups)

pub loop-group-preserved : goal.loop-group-preserved
loop-group-preserved c = record {
  family = c.in_ok-push_apart.ensures.family;
  told = λ lines t. c.in_ok-push_apart.ensures.told lines t (c.loop-group.invariant.told lines t);
}
