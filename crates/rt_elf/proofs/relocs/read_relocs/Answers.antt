use Rattle.rt_base.proofs.Entries.{goes_on}
use Rattle.rt_elf.proofs.Booleans.{checked-ok}
use Rattle.rt_elf.proofs.relocs.read_relocs.Goals as goal

pub loop-index-preserved : goal.loop-index-preserved
loop-index-preserved c =
    rw (c.in_ok-push.ensures.ok, c.reloc_at.ensures)
    (goes_on _ _ _ c.loop-index.index c.loop-index.relocs _ _ c.loop-index.invariant c.loop-index-test.true (checked-ok _ _ c.in_ok-check_reloc.ensures))
