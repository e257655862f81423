use Rattle.std.proofs.Common.{◌≡◌, ◌∷◌, [], ◌++◌, Some, length, ap, subst, ◌∙◌, zero-add, arith}
use Rattle.std.specs.Prelude.{slice_get, slice_index_or}
use Rattle.std.proofs.lemmas.Option.{slice_get-get_or}
use Rattle.rt_track.specs.declared.nodes.Input.TheVariants.{Nothing}
use Rattle.rt_track.specs.declared.nodes.Node.TheVariants.{Join}
use Rattle.rt_track.specs.Inside.Inputs.{node_of, use_in}
use Rattle.rt_track.specs.Operations.{entries_of}
use Rattle.rt_track.proofs.Graphing.{made_none, made_more, made_all}
use Rattle.rt_track.proofs.graph.nodes.Goals as goal
use Rattle.rt_base.proofs.Lists.{slice_get-front}

pub loop-number-preserved : goal.loop-number-preserved
loop-number-preserved c =
    made_more 0 (λ e. node_of (use_in c.args.uses.now e.0.0) e.0.0 e.0.1 e.1) (entries_of c.args.ops.now) c.loop-number.number c.loop-number.nodes.items c.loop-number.invariant c.given-site.result c.given-site.ensures.entry
    c.push.new.self.items (c.in_ok-push.ensures.items ∙ ap (λ n. c.loop-number.nodes.items ++ n ∷ []) c.node.ensures)

pub loop-left-init : goal.loop-left-init
loop-left-init c = record {
  of_ops = λ n e at. subst (λ k. slice_get c.loop-number.nodes.items k ≡ Some (node_of (use_in c.args.uses.now e.0.0) e.0.0 e.0.1 e.1)) (zero-add n)
      (made_all 0 (λ e. node_of (use_in c.args.uses.now e.0.0) e.0.0 e.0.1 e.1) (entries_of c.args.ops.now) c.loop-number.number c.loop-number.nodes.items c.loop-number.invariant (omega (arith, c.count-number-end.ensures.value)) n e at);
  of_joins = made_none (length (entries_of c.args.ops.now)) (λ p. Join p.0 p.1) c.args.joins.now c.loop-number.nodes.items (omega (arith, c.count-number-end.ensures.value, c.loop-number.invariant.each));
}

pub loop-left-preserved : goal.loop-left-preserved
loop-left-preserved c =
    let pair = slice_index_or c.args.joins.now c.loop-left.left-index (Nothing, Nothing) in
    record {
      of_ops = λ n e at. ap (λ ns. slice_get ns n) c.in_ok-push-2.ensures.items ∙ slice_get-front c.loop-left.nodes.items (Join pair.0 pair.1 ∷ []) n (node_of (use_in c.args.uses.now e.0.0) e.0.0 e.0.1 e.1) (c.loop-left.invariant.of_ops n e at);
      of_joins = made_more (length (entries_of c.args.ops.now)) (λ p. Join p.0 p.1) c.args.joins.now c.loop-left.left-index c.loop-left.nodes.items c.loop-left.invariant.of_joins pair (slice_get-get_or c.args.joins.now c.loop-left.left-index (Nothing, Nothing) c.loop-left-test.true)
          c.push-in-loop-left.new.self.items c.in_ok-push-2.ensures.items;
    }

pub returns : goal.returns
returns c = record {
  of_ops = c.loop-left.invariant.of_ops;
  of_joins = made_all (length (entries_of c.args.ops.now)) (λ p. Join p.0 p.1) c.args.joins.now c.loop-left.left-index c.loop-left.nodes.items c.loop-left.invariant.of_joins c.loop-left-test.false;
}
