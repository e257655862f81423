use Rattle.std.proofs.Common.{◌↔◌, Contains, List, sym, subst}
use Rattle.std.proofs.lemmas.Result.{IfOk-weaker}
use Rattle.rt_link.specs.declared.place.Place.{Place}
use Rattle.rt_proc.specs.Order.{AreAscending}
use Rattle.rt_proc.proofs.PlaceLaws.{AreAscending-keys, Contains-keys}
use Rattle.rt_proc.proofs.places.in_order.Goals as goal

pub returns-clause-ascending : goal.returns-clause-ascending
returns-clause-ascending c =
    IfOk-weaker c.listed.result _ _ (λ sorted e. subst AreAscending (sym e) (AreAscending-keys c.in_ok-set_of.field-0 c.in_ok-set_of.ensures.1)) c.listed.ensures

pub returns-clause-same : goal.returns-clause-same
returns-clause-same c =
    IfOk-weaker c.listed.result _ _ (λ sorted e p. subst (λ (places : List Place). Contains places p ↔ Contains c.args.places.now p) (sym e) (Contains-keys c.args.places.now c.in_ok-set_of.field-0 c.in_ok-set_of.ensures p)) c.listed.ensures
