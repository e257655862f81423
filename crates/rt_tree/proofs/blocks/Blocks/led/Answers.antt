use Rattle.std.proofs.Common.{◌≡◌, ◌<◌, List, ℕ, [], length, get_or, sym, subst, ap, ◌∙◌}
use Rattle.std.proofs.lemmas.List.{get_or_read}
use Rattle.rt_tree.specs.Inside.Splits.{AreLed, led_to, living_in}
use Rattle.rt_tree.proofs.Moving.{living_all, living_blocks, living_led, row_all}
use Rattle.rt_tree.proofs.blocks.Blocks.led.Goals as goal

-- the block's row
row_read : (members : List (List ℕ)) (block : ℕ) (row items : List ℕ) → block < length members → row ≡ get_or members block row → items ≡ row → items ≡ get_or members block []
row_read members block row items less e is = is ∙ get_or_read members block row less e []

pub living-requires : goal.living-requires
living-requires c = λ k d less.
    let self = c.args.self.now in
    let row : c.items.result.now ≡ get_or self.members.items c.args.block [] = row_read self.members.items c.args.block c.index.result.now c.items.result.now c.requires.block c.index.ensures c.items.ensures in
    subst (λ n. get_or c.items.result.now k d < n) (sym c.requires.blocks.each)
    (row_all (length c.args.into.now) self.class.items self.members.items self.twin.items c.requires.blocks c.args.block c.items.result.now row k d less)

pub gathered-requires : goal.gathered-requires
gathered-requires c = λ k d less.
    let self = c.args.self.now in
    let row : c.items.result.now ≡ get_or self.members.items c.args.block [] = row_read self.members.items c.args.block c.index.result.now c.items.result.now c.requires.block c.index.ensures c.items.ensures in
    living_all (length c.args.into.now) self.class.items self.members.items self.twin.items c.requires.blocks c.args.block c.items.result.now row c.deref.result.now
    (c.deref.ensures.value ∙ c.in_ok-living.ensures) k d less

pub returns-clause-blocks : goal.returns-clause-blocks
returns-clause-blocks c =
    let self = c.args.self.now in
    let row : c.items.result.now ≡ get_or self.members.items c.args.block [] = row_read self.members.items c.args.block c.index.result.now c.items.result.now c.requires.block c.index.ensures c.items.ensures in
    living_blocks (length c.args.into.now) self.class.items self.members.items self.twin.items c.requires.blocks c.args.block c.from_vec.result c.requires.block
    (c.from_vec.ensures ∙ (c.in_ok-living.ensures ∙ ap (living_in self.class.items c.args.block) row))

pub returns-clause-led : goal.returns-clause-led
returns-clause-led c =
    let self = c.args.self.now in
    let row : c.items.result.now ≡ get_or self.members.items c.args.block [] = row_read self.members.items c.args.block c.index.result.now c.items.result.now c.requires.block c.index.ensures c.items.ensures in
    let is : c.in_ok-led.led.items ≡ led_to c.args.into.now (living_in self.class.items c.args.block (get_or self.members.items c.args.block [])) =
    c.in_ok-led.ensures ∙ ap (led_to c.args.into.now) (c.deref.ensures.value ∙ (c.in_ok-living.ensures ∙ ap (living_in self.class.items c.args.block) row)) in
    subst (AreLed c.args.into.now self.class.items c.args.block) (sym is)
    (living_led (length c.args.into.now) self.class.items self.members.items self.twin.items c.requires.blocks c.args.into.now c.args.block)
