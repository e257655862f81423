use Rattle.std.proofs.Common.{◌≡◌, true, false, take, ap, sym, ◌∙◌}
use Rattle.rt_link.specs.Kinds.{kind_of, has_effect}
use Rattle.rt_link.proofs.Held.{AreHeads-more, AreHeads-passed, AreHeads-next}
use Rattle.rt_link.proofs.resolver.add_head.Goals as goal

pub returns-in_ok-insert : goal.returns-in_ok-insert
returns-in_ok-insert c =
    let reloc = c.reloc_by-reloc.result in
    let effect : has_effect (kind_of reloc.kind) ≡ true = sym (ap has_effect c.kind_of.ensures) ∙ sym c.has_effect.ensures ∙ c.if-has_effect.true in
    AreHeads-next c.args.object.now c.args.relocs.now c.args.index reloc c.insert.new.self c.requires.there c.reloc_by-reloc.ensures.value
    (AreHeads-more c.args.object.now (take c.args.index c.args.relocs.now) reloc c.args.heads.now c.insert.new.self c.requires.heads
    (rw c.reloc_by-reloc.ensures.value c.requires.alone) effect
    (rw (c.place_of.ensures, c.symbol_place-own.ensures) at c.in_ok-insert.ensures))

pub returns-else-has_effect : goal.returns-else-has_effect
returns-else-has_effect c =
    let reloc = c.reloc_by-reloc.result in
    let effect : has_effect (kind_of reloc.kind) ≡ false = sym (ap has_effect c.kind_of.ensures) ∙ sym c.has_effect.ensures ∙ c.if-has_effect.false in
    AreHeads-next c.args.object.now c.args.relocs.now c.args.index reloc c.args.heads.now c.requires.there c.reloc_by-reloc.ensures.value
    (AreHeads-passed c.args.object.now.symbols (take c.args.index c.args.relocs.now) reloc c.args.heads.now c.requires.heads effect)
