use Rattle.std.specs.BTreeSet.{IsFromIterResult}
use Rattle.std.proofs.lemmas.Iterator.{YieldsList-from_slice}
use Rattle.std.proofs.lemmas.Iterator.Adapters.{fact_from_collect}
use Rattle.std.proofs.lemmas.Iterator.Consumers.{YieldsList-at, YieldsList-from_copied}
use Rattle.rt_proc.specs.Order.{place_cmp}
use Rattle.rt_proc.proofs.places.set_of.Goals as goal

pub returns : goal.returns
returns c =
    fact_from_collect (IsFromIterResult place_cmp) c.collect.result c.collect.ensures.ran
    (YieldsList-from_copied (YieldsList-at c.copied.ensures.source (YieldsList-from_slice c.args.places.now c.iter.ensures.rest)))
