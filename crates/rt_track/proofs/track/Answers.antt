use Rattle.std.proofs.Common.{◌≡◌, ◌<◌, ℕ, List, [], Option, length, ap, map, sym, subst, ◌∙◌}
use Rattle.std.specs.Prelude.{slice_index_or}
use Rattle.rt_track.specs.declared.value.Value.{Value}
use Rattle.rt_track.specs.declared.nodes.Input.{Input}
use Rattle.rt_track.specs.declared.nodes.Node.{Node}
use Rattle.rt_track.specs.Changes.{IsAscending}
use Rattle.rt_track.specs.Inside.Definitions.{AreDefinitions}
use Rattle.rt_track.specs.Inside.Nodes.{IsSolved}
use Rattle.rt_track.specs.Inside.Inputs.{AreNodes}
use Rattle.rt_track.proofs.Answering.{valued, each_valued, all_ascending, are_values}
use Rattle.rt_track.proofs.track.Goals as goal

pub nodes-requires-clause-ascending : goal.nodes-requires-clause-ascending
nodes-requires-clause-ascending c =
    subst (λ (us : List (List (ℕ × Input))). (r : ℕ) → r < length us → IsAscending (slice_index_or us r [])) (sym c.deref.ensures.value)
    (λ r less. (c.in_ok-uses.ensures.each_uses r (subst (λ n. r < n) c.in_ok-uses.ensures.each less)).ascending)

pub invariant_of-result : goal.invariant_of-result
invariant_of-result c =
    let rows : c.in_ok-use_values.use_values.items ≡ map (valued c.deref-5.result.now) c.in_ok-uses.uses.items = c.in_ok-use_values.ensures ∙ ap (map (valued c.deref-5.result.now)) c.deref-4.ensures.value in
    record {
      each = each_valued c.args.reach.now c.args.ops.now c.uses.new.joins.items c.in_ok-uses.uses.items c.in_ok-uses.ensures c.deref-5.result.now c.in_ok-use_values.use_values.items rows;
      ascending = all_ascending c.args.reach.now c.args.ops.now c.uses.new.joins.items c.in_ok-uses.uses.items c.in_ok-uses.ensures c.deref-5.result.now c.in_ok-use_values.use_values.items rows;
    }

pub returns : goal.returns
returns c =
    let rows : c.in_ok-use_values.use_values.items ≡ map (valued c.in_ok-states.states.items) c.in_ok-uses.uses.items =
    c.in_ok-use_values.ensures ∙ ap (map (valued c.deref-5.result.now)) c.deref-4.ensures.value ∙ ap (λ (ss : List (Option Value)). map (valued ss) c.in_ok-uses.uses.items) c.deref-5.ensures.value in
    are_values c.args.reach.now c.args.ops.now c.uses.new.joins.items c.in_ok-uses.uses.items c.in_ok-uses.ensures c.in_ok-states.states.items c.requires c.sites.ensures.reaching c.in_ok-nodes.nodes.items
    (subst (λ (us : List (List (ℕ × Input))). AreNodes c.args.ops.now us c.uses.new.joins.items c.in_ok-nodes.nodes.items) c.deref.ensures.value
    (subst (λ (js : List (Input × Input)). AreNodes c.args.ops.now c.deref.result.now js c.in_ok-nodes.nodes.items) c.deref-2.ensures.value c.in_ok-nodes.ensures))
    (subst (λ (ns : List Node). IsSolved ns c.in_ok-states.states.items) c.deref-3.ensures.value c.in_ok-states.ensures) _ rows
    (subst (λ (ss : List (Option Value)). AreDefinitions c.args.ops.now ss c.in_ok-definitions.definitions) c.deref-6.ensures.value c.in_ok-definitions.ensures) c.sites.ensures.value
