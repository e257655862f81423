use Rattle.std.proofs.Common.{List, true, sym, subst}
use Rattle.rt_outline.specs.declared.arc.Arc.{Arc}
use Rattle.rt_outline.specs.Arcs.{Leads, MayLead}
use Rattle.rt_sure.proofs.Between.{below_leads, leads_below}
use Rattle.rt_sure.proofs.ways.Ways.lead.Goals as goal

pub returns-clause-no : goal.returns-clause-no
returns-clause-no c = λ e order h.
    let may = below_leads c.self.inside.lines.items c.self.inside.named c.self.inside.arcs.items c.args.stands.now c.args.sources.now
    c.args.targets.now c.args.self.now c.self.view_is c.requires.sources c.requires.targets order c.self.invariant.0 h in
    let yes = c.in_ok-yes.ensures.1
    (subst (λ (xs : List (List Arc)). MayLead (Leads xs c.args.stands.now true) c.args.sources.now c.args.targets.now)
    (sym c.deref.ensures.value) may) in
    absurd (cc)

pub returns-clause-yes : goal.returns-clause-yes
returns-clause-yes c = λ e order.
    leads_below c.self.inside.lines.items c.self.inside.named c.self.inside.arcs.items c.args.stands.now c.args.sources.now
    c.args.targets.now c.args.self.now c.self.view_is c.requires.sources c.requires.targets order c.self.invariant.1
    (subst (λ (xs : List (List Arc)). MayLead (Leads xs c.args.stands.now true) c.args.sources.now c.args.targets.now) c.deref.ensures.value
    (c.in_ok-yes.ensures.0 e))
