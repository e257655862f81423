use Rattle.std.proofs.Common.{sym}
use Rattle.rt_elf.proofs.Lists.{entries-more}
use Rattle.rt_elf.proofs.object.Object.words.Goals as goal

pub loop-k-preserved : goal.loop-k-preserved
loop-k-preserved c =
    rw (c.in_ok-push.ensures.items, c.loop-k.invariant, c.word_at.ensures, c.bytes-bytes.ensures.bytes) (sym (entries-more _ c.loop-k.k))
