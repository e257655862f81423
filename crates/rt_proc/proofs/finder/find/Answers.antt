use Rattle.std.proofs.Common.{◌↔◌, List, Contains, sym, subst}
use Rattle.rt_link.specs.declared.place.Place.{Place}
use Rattle.rt_proc.specs.Entries.{IsFunction}
use Rattle.rt_proc.proofs.finder.find.Goals as goal

pub reach-requires-clause-functions : goal.reach-requires-clause-functions
reach-requires-clause-functions c = λ p. subst (λ (places : List Place). Contains places p ↔ IsFunction c.args.object.now p) (sym c.items.ensures) (c.in_ok-functions.ensures.found p)

pub all_entries-requires-clause-functions : goal.all_entries-requires-clause-functions
all_entries-requires-clause-functions c = λ p. subst (λ (places : List Place). Contains places p ↔ IsFunction c.args.object.now p) (sym c.items-2.ensures) (c.in_ok-functions.ensures.found p)
