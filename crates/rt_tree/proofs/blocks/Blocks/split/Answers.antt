use Rattle.std.proofs.Common.{◌≡◌, ◌<◌, ◌≤◌, ◌++◌, ◌∷◌, [], take, length, get_or, sym, subst, arith, rules}
use Rattle.std.specs.Prelude.{slice_index}
use Rattle.std.proofs.lemmas.List.{take_all, take_more}
use Rattle.rt_base.proofs.Lists.{Contains-at}
use Rattle.rt_tree.specs.Inside.Splits.{AreBlocks, IsSplit, IsSplitTo}
use Rattle.rt_tree.proofs.Moving.{class_within, split_none, split_step}
use Rattle.rt_tree.proofs.blocks.Blocks.split.Goals as goal

pub loop-item-init : goal.loop-item-init
loop-item-init c =
    let self = c.args.self.now in
    let count : c.len-count.result ≡ length self.members.items = search rules in
    record {
      blocks = c.requires.blocks;
      split =
          split_none c.args.led.now self.class.items self.class.items self.twin.items c.len-count.result
          (λ x h. subst (λ n. slice_index self.class.items x < n) (sym count) (class_within (length self.class.items) self.class.items self.members.items self.twin.items c.requires.blocks x h));
      long = omega arith;
    }

pub loop-item-preserved : goal.loop-item-preserved
loop-item-preserved c =
    let self = c.args.self.now in
    let led = c.args.led.now in
    let class = self.class.items in
    let mid = c.loop-item.self in
    let new = c.pass.new.self in
    let i = c.loop-item.item-index in
    let counted = c.len-count.result in
    let less : i < length led = search rules in
    let count : counted ≡ length self.members.items = search rules in
    let step : IsSplitTo (take i led ++ get_or led i 0 ∷ []) led class new.class.items new.twin.items counted =
    split_step led class mid.class.items mid.twin.items counted
    (λ x h. subst (λ n. slice_index class x < n) (sym count) (class_within (length class) class self.members.items self.twin.items c.requires.blocks x h))
    (take i led) (get_or led i 0) c.loop-item.invariant.split (Contains-at led i less) (c.requires.led i 0 less) new.class.items new.twin.items c.in_ok-pass.ensures.moved in
    let longer = c.in_ok-pass.ensures.long in
    let long = c.loop-item.invariant.long in
    record {
      blocks =
          subst (λ n. AreBlocks n new.class.items new.members.items new.twin.items) c.loop-item.invariant.split.each c.in_ok-pass.ensures.blocks;
      split = subst (λ done. IsSplitTo done led class new.class.items new.twin.items counted) (sym (take_more led i 0 less)) step;
      long = omega arith;
    }

pub returns-clause-split : goal.returns-clause-split
returns-clause-split c =
    let led = c.args.led.now in
    let class = c.args.self.now.class.items in
    let mid = c.loop-item.self in
    let i = c.loop-item.item-index in
    let counted = c.len-count.result in
    let all : length led ≤ i = search rules in
    let count : counted ≡ length c.args.self.now.members.items = search rules in
    subst (IsSplit led class mid.class.items mid.twin.items) count
    (subst (λ done. IsSplitTo done led class mid.class.items mid.twin.items counted) (take_all i led all) c.loop-item.invariant.split)
