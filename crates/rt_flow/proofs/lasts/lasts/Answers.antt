use Rattle.std.proofs.Common.{◌+◌, List, ℕ, length, ap, subst, ◌∙◌}
use Rattle.std.specs.Prelude.{slice_index}
use Rattle.std.proofs.lemmas.List.{length_push}
use Rattle.rt_flow.specs.Blocks.{IsLastOf}
use Rattle.rt_flow.proofs.Ranges.{lasts_more}
use Rattle.rt_flow.proofs.lasts.lasts.Goals as goal

pub loop-block-preserved : goal.loop-block-preserved
loop-block-preserved c = record {
  each = ap length c.in_ok-push.ensures.items ∙ length_push c.loop-block.lasts.items c.last_within.result ∙ ap (λ n. n + 1) c.loop-block.invariant.each;
  last = lasts_more c.args.blocks.now.firsts.items c.args.sites.now c.loop-block.lasts.items c.push.new.self.items c.loop-block.block c.last_within.result c.in_ok-push.ensures.items c.loop-block.invariant.each c.loop-block.invariant.last
      (subst (λ (xs : List ℕ). IsLastOf c.args.sites.now (slice_index c.args.blocks.now.firsts.items c.loop-block.block) (slice_index xs (c.loop-block.block + 1)) c.last_within.result) c.firsts-in-loop-block.ensures
      (subst (λ (xs : List ℕ). IsLastOf c.args.sites.now (slice_index xs c.loop-block.block) (slice_index c.firsts-in-loop-block.result.now (c.loop-block.block + 1)) c.last_within.result) c.firsts.ensures c.last_within.ensures));
}
