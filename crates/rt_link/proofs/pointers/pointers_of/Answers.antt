use Rattle.std.proofs.Common.{◌≡◌, ◌<◌, true, false, length, get_or, sym, ◌∙◌}
use Rattle.rt_link.specs.Checks.{no_reloc}
use Rattle.rt_link.specs.Pointers.{is_address}
use Rattle.rt_link.proofs.Naming.{pointers-added, pointers-kept}
use Rattle.rt_link.proofs.pointers.pointers_of.Goals as goal
use Rattle.rt_link.proofs.pointers.pointers_of.Goals.{then-is_address+in_ok-add, else-is_address}

pub loop-reloc-preserved : goal.loop-reloc-preserved
loop-reloc-preserved c =
    let relocs = c.args.object.now.relocs in
    let n = c.loop-reloc.reloc-index in
    let there : n < length relocs = rw c.relocs-reloc-items.ensures.relocs at c.loop-reloc-test.true in
    elim c.if-is_address.branch [
      | then-is_address+in_ok-add w ↦
          let address : is_address c.args.object.now (get_or relocs n no_reloc) ≡ true = rw c.relocs-reloc-items.ensures.relocs at (sym c.is_address.ensures ∙ w.if-is_address.true) in
          rw w.pointers-is
          (pointers-added c.args.object.now relocs n c.loop-reloc.pointers w.add.new.self _ _ there address (rw c.relocs-reloc-items.ensures.relocs at w.place_of.ensures) (rw c.relocs-reloc-items.ensures.relocs at w.pointer_of.ensures)
          w.in_ok-add.ensures c.loop-reloc.invariant)
      | else-is_address w ↦
          let address : is_address c.args.object.now (get_or relocs n no_reloc) ≡ false = rw c.relocs-reloc-items.ensures.relocs at (sym c.is_address.ensures ∙ w.if-is_address.false) in
          rw w.pointers-is (pointers-kept c.args.object.now relocs n c.loop-reloc.pointers there address c.loop-reloc.invariant)
    ]
