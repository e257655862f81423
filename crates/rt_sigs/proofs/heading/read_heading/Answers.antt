use Rattle.rt_sigs.proofs.Parts.{heading_new, heading_twice}
use Rattle.rt_sigs.proofs.heading.read_heading.Goals as goal

pub returns-in-Some-find : goal.returns-in-Some-find
returns-in-Some-find c =
    heading_twice _ _ _ _ _ _ _ _ _ c.items.ensures c.in-Some.ensures c.in-Some-after_front.ensures c.in-Ok.ensures c.in-Some-find.ensures.found

pub returns : goal.returns
returns c =
    heading_new _ _ _ _ _ _ _ c.items.ensures c.in-Some.ensures c.in-Some-after_front.ensures c.in-Ok.ensures c.in-None.ensures.found
