use Rattle.std.proofs.Common.{◌≡◌, ◌<◌, ◌+◌, ◌++◌, ◌∷◌, [], List, ℕ, length, set, get_or, sym, subst, ap, ◌∙◌, rules}
use Rattle.std.specs.Prelude.{slice_index}
use Rattle.std.proofs.lemmas.List.{get_or_read}
use Rattle.rt_tree.proofs.Moving.{AreBlocksTo, blocks_more}
use Rattle.rt_tree.proofs.blocks.Blocks.of.Goals as goal

pub loop-item-preserved : goal.loop-item-preserved
loop-item-preserved c =
    let class = c.args.class.items in
    let members = c.loop-item.members.items in
    let item = c.loop-item.item in
    let less : item < length class = search rules in
    let at : c.index.result.now ≡ slice_index class item = get_or_read class item c.index.result.now less c.index.ensures 0 in
    let room : slice_index class item < length members = subst (λ n. slice_index class item < n) (sym c.loop-item.invariant.rows) (c.requires item 0 less) in
    let row : c.index_mut.result.now ≡ get_or members (slice_index class item) [] =
    get_or_read members (slice_index class item) c.index_mut.result.now room (subst (λ b. c.index_mut.result.now ≡ get_or members b c.index_mut.result.now) at c.index_mut.ensures.value) [] in
    let more : AreBlocksTo (item + 1) class (set members (slice_index class item) c.push.new.self) (c.loop-item.twin.items ++ item ∷ []) =
    blocks_more class (λ x h. c.requires x 0 h) item members c.loop-item.twin.items c.push.new.self c.loop-item.invariant less
    (c.in_ok-push.ensures.ok ∙ ap (λ (r : List ℕ). r ++ item ∷ []) row) in
    subst (λ b. AreBlocksTo (item + 1) class (set members b c.push.new.self) c.push-in-loop-item.new.self.items) (sym at)
    (subst (AreBlocksTo (item + 1) class (set members (slice_index class item) c.push.new.self)) (sym c.in_ok-push-2.ensures.items) more)
