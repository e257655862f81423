use Rattle.std.proofs.Common.{arith}
use Rattle.rt_link.proofs.Linked.{link_far_call, link_about}
use Rattle.rt_control.proofs.Room.{far_room, second_good}
use Rattle.rt_control.proofs.site.far_form.Goals as goal

pub after-requires : goal.after-requires
after-requires c = far_room _ _ 4 (link_far_call _ _ _ _ c.relocs-relocs.ensures.sound.linkable c.requires.linked c.requires.far) (omega arith)

pub word_of-second-requires : goal.word_of-second-requires
word_of-second-requires c =
    rw c.after.ensures (second_good _ _ (link_far_call _ _ _ _ c.relocs-relocs.ensures.sound.linkable c.requires.linked c.requires.far))

pub symbol_target-target-requires : goal.symbol_target-target-requires
symbol_target-target-requires c = rw c.requires.far at (link_about c.args.object.now c.args.place c.relocs-relocs.ensures.sound.linkable)

pub pair_form-requires : goal.pair_form-requires
pair_form-requires c = far_room _ _ 8 (link_far_call _ _ _ _ c.relocs-relocs.ensures.sound.linkable c.requires.linked c.requires.far) (omega arith)
