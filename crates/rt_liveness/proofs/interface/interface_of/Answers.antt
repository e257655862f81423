use Rattle.std.proofs.Common.{◌↔◌, List, Contains, subst}
use Rattle.rt_liveness.specs.declared.named.Named.{Named}
use Rattle.rt_liveness.specs.declared.rule.Port.{Port}
use Rattle.rt_liveness.specs.declared.rule.Rule.{Rule}
use Rattle.rt_liveness.specs.Inside.Closures.{Follows}
use Rattle.rt_liveness.specs.Inside.GivesRules.{AreAllRules as AreGivesRules}
use Rattle.rt_liveness.specs.Inside.TakesRules.{AreAllRules as AreTakesRules}
use Rattle.rt_liveness.proofs.interface.interface_of.Goals as goal

pub returns : goal.returns
returns c =
    let procs = c.args.procs.now in
    let bodies = c.args.bodies.now in
    let gives = c.in_ok-gives.gives in
    let given = c.in_ok-given.given.keys in
    let takes = c.in_ok-takes.takes in
    let taken = c.in_ok-taken.taken.keys in
    record {
      are_named = c.in_ok-named.ensures;
      are_given = record {
        by_rules = gives;
        are_rules = subst (λ (named : List Named). (rule : Rule) → Contains gives rule ↔ AreGivesRules named procs bodies rule) c.deref.ensures.value c.in_ok-gives.ensures;
        follows = subst (λ (rules : List Rule). (port : Port) → Contains given port ↔ Follows rules port) c.items.ensures c.in_ok-given.ensures;
      };
      are_taken = record {
        by_rules = takes;
        are_rules = subst (λ (named : List Named). (rule : Rule) → Contains takes rule ↔ AreTakesRules given named procs bodies rule) c.deref-2.ensures.value c.in_ok-takes.ensures;
        follows = subst (λ (rules : List Rule). (port : Port) → Contains taken port ↔ Follows rules port) c.items-2.ensures c.in_ok-taken.ensures;
      };
    }
