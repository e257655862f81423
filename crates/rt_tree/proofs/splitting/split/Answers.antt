use Rattle.std.proofs.Common.{◌<◌, sym, subst}
use Rattle.rt_tree.proofs.splitting.split.Goals as goal

pub split_by-requires-clause-within : goal.split_by-requires-clause-within
split_by-requires-clause-within c = λ u x h. subst (λ n. x < n) (sym c.requires.each) (c.requires.within u x h)

pub loop-preserved : goal.loop-preserved
loop-preserved c = record {
  blocks = c.in_ok-split_by.ensures.blocks;
  told = λ nodes good into told. c.in_ok-split_by.ensures.told nodes good into (c.loop.invariant.told nodes good into told);
}
