use Rattle.std.proofs.Common.{◌<◌, ◌∙◌, Bool, true, List, length, sym, ap, subst}
use Rattle.rt_outline.specs.declared.arc.Arc.{Arc}
use Rattle.rt_outline.specs.Arcs.{HasArc, Leads}
use Rattle.rt_outline.specs.Together.{AreTogetherBy}
use Rattle.rt_outline.proofs.Equals.{inner_equals, inner_view}
use Rattle.rt_outline.proofs.lower.Lower.equals.Goals as goal

pub classes-requires-clause-few : goal.classes-requires-clause-few
classes-requires-clause-few c =
    subst (λ (xs : List (List Arc)). length xs < 4294967296) (sym c.deref.ensures.value)
    (subst (λ n. n < 4294967296) (sym c.self.invariant.1.each) c.self.invariant.1.few)

pub classes-requires-clause-within : goal.classes-requires-clause-within
classes-requires-clause-within c = λ v w line h.
    subst (λ n. w < n) (sym (ap (λ (xs : List (List Arc)). length xs) c.deref.ensures.value ∙ c.self.invariant.1.each))
    (c.self.invariant.1.within v w line (subst (λ (xs : List (List Arc)). HasArc xs v w line) c.deref.ensures.value h))

pub returns : goal.returns
returns c =
    inner_view c.self.inside.lines.items c.self.inside.named c.args.self.now c.in_ok-classes.classes.numbers.items c.self.view_is
    (inner_equals c.self.inside.lines.items c.self.inside.named c.self.inside.frame.arcs.items c.self.inside.stands.items
    c.in_ok-classes.classes.numbers.items c.self.invariant.0 (c.self.invariant.1.each ∙ c.self.invariant.2)
    (subst (λ (xs : List (List Arc)). AreTogetherBy (Leads xs c.self.inside.stands.items true) (length xs) c.in_ok-classes.classes.numbers.items)
    c.deref.ensures.value
    (subst (λ (fs : List Bool). AreTogetherBy (Leads c.deref.result.now fs true) (length c.deref.result.now) c.in_ok-classes.classes.numbers.items)
    c.deref-2.ensures.value c.in_ok-classes.ensures.classes)))
