use Rattle.std.proofs.Common.{ℕ, ◌<◌, List, length, get_or, sym, subst}
use Rattle.rt_tree.specs.Inside.Splits.{AreLed, AreTold}
use Rattle.rt_tree.proofs.Items.{split_told}
use Rattle.rt_tree.proofs.Moving.{led_within}
use Rattle.rt_tree.proofs.splitting.split_by.Goals as goal

pub split-requires-clause-led : goal.split-requires-clause-led
split-requires-clause-led c = λ k d less.
    let led : AreLed c.args.into.now c.args.blocks.now.class.items c.args.block c.deref.result.now =
    subst (AreLed c.args.into.now c.args.blocks.now.class.items c.args.block) (sym c.deref.ensures.value) c.in_ok-led.ensures.led in
    subst (λ n. get_or c.deref.result.now k d < n) (sym c.in_ok-led.ensures.blocks.each)
    (led_within (length c.args.into.now) c.args.into.now c.args.blocks.now.class.items c.deref.result.now c.args.block led c.requires.within k d less)

pub returns-clause-told : goal.returns-clause-told
returns-clause-told c = λ nodes good into told.
    let old = c.args.blocks.now.class.items in
    let mid = c.led.new.self.class.items in
    let new = c.split.new.self.class.items in
    let led : AreLed c.args.into.now mid c.args.block c.deref.result.now =
    subst (λ (class : List ℕ). AreLed c.args.into.now class c.args.block c.deref.result.now) (sym c.in_ok-led.ensures.class)
    (subst (AreLed c.args.into.now old c.args.block) (sym c.deref.ensures.value) c.in_ok-led.ensures.led) in
    split_told nodes good c.args.into.now into mid new c.split.new.self.twin.items c.deref.result.now c.args.block (length c.led.new.self.members.items)
    c.in_ok-led.ensures.blocks.each (subst (AreTold nodes) (sym c.in_ok-led.ensures.class) told) led c.in_ok-moves.ensures.split
