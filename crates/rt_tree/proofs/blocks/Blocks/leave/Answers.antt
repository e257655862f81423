use Rattle.std.proofs.Common.{◌≡◌, ◌++◌, ◌∷◌, [], List, ℕ, length, ap, ◌∙◌}
use Rattle.std.specs.Prelude.{slice_index_or}
use Rattle.std.proofs.lemmas.List.{get_or_read}
use Rattle.rt_tree.proofs.Moving.{left_blocks}
use Rattle.rt_tree.proofs.blocks.Blocks.leave.Goals as goal

pub returns-clause-blocks : goal.returns-clause-blocks
returns-clause-blocks c =
    let self = c.args.self.now in
    let mid = c.twin_of.new.self in
    let to = c.in_ok-twin.twin in
    let row : c.index_mut-2.result.now ≡ slice_index_or mid.members.items to [] =
    get_or_read mid.members.items to c.index_mut-2.result.now c.in_ok-twin.ensures.within c.index_mut-2.ensures.value [] in
    left_blocks (length self.class.items) mid.class.items mid.members.items mid.twin.items c.in_ok-twin.ensures.blocks c.args.item to c.push.new.self
    c.requires.item c.in_ok-twin.ensures.within (c.in_ok-push.ensures.ok ∙ ap (λ (r : List ℕ). r ++ c.args.item ∷ []) row)
