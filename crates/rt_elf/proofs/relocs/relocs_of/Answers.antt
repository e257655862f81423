use Rattle.std.proofs.Common.{arith}
use Rattle.rt_elf.proofs.Joined.{goes_on_joining}
use Rattle.rt_elf.proofs.relocs.relocs_of.Goals as goal

pub loop-index-preserved : goal.loop-index-preserved
loop-index-preserved c =
    rw c.in_ok-read_reloc_section.ensures.found
    (goes_on_joining _ _ _ c.loop-index.index c.loop-index.relocs _ _ c.loop-index.invariant (omega arith) c.in_ok-read_reloc_section.ensures.none)
