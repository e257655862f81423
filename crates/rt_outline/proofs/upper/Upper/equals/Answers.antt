use Rattle.std.proofs.Common.{rules, ◌≡◌, ℕ, ◌<◌, ◌≤◌, ◌∙◌, Bool, true, List, length, get_or, replicate, take, sym, ap, subst}
use Rattle.rt_outline.specs.declared.arc.Arc.{Arc}
use Rattle.rt_outline.specs.Arcs.{HasArc, Leads}
use Rattle.rt_outline.specs.Together.{AreTogetherBy}
use Rattle.rt_outline.proofs.Equals.{outer_equals, outer_view}
use Rattle.rt_outline.proofs.Standing.{all_set}
use Rattle.rt_outline.proofs.upper.Upper.equals.Goals as goal

pub classes-requires-clause-few : goal.classes-requires-clause-few
classes-requires-clause-few c =
    subst (λ (xs : List (List Arc)). length xs < 4294967296) (sym c.deref.ensures.value)
    (subst (λ n. n < 4294967296) (sym c.self.invariant.2.each) c.self.invariant.2.few)

pub classes-requires-clause-within : goal.classes-requires-clause-within
classes-requires-clause-within c = λ v w line h.
    subst (λ n. w < n) (sym (ap (λ (xs : List (List Arc)). length xs) c.deref.ensures.value ∙ c.self.invariant.2.each))
    (c.self.invariant.2.within v w line (subst (λ (xs : List (List Arc)). HasArc xs v w line) c.deref.ensures.value h))

pub returns : goal.returns
returns c =
    let lines : c.len.result ≡ length c.self.inside.lines.items = search rules in
    outer_view c.self.inside.lines.items c.self.inside.named c.args.self.now c.in_ok-classes.classes.count c.truncate.new.self.items c.self.view_is
    (outer_equals c.self.inside.lines.items c.self.inside.named c.self.inside.frame.arcs.items c.in_ok-stands.stands.items
    c.in_ok-classes.classes.count c.in_ok-classes.classes.numbers.items c.truncate.new.self.items c.self.invariant.0
    (all_set c.in_ok-stands.stands.items (length c.self.inside.lines.items)
    (c.in_ok-stands.ensures.items_if_clones_equal (λ y e. e) ∙ ap (λ n. replicate n true) lines))
    (subst (λ n. length c.self.inside.named ≤ n) (sym c.self.invariant.2.each) c.self.invariant.3)
    (subst (λ (xs : List (List Arc)). AreTogetherBy (Leads xs c.in_ok-stands.stands.items true) (length xs) c.in_ok-classes.classes.numbers.items) c.deref.ensures.value
    (subst (λ (fs : List Bool). AreTogetherBy (Leads c.deref.result.now fs true) (length c.deref.result.now) c.in_ok-classes.classes.numbers.items)
    c.deref-2.ensures.value c.in_ok-classes.ensures.classes))
    (subst (λ (xs : List (List Arc)). (v : ℕ) → v < length xs → get_or c.in_ok-classes.classes.numbers.items v 0 < c.in_ok-classes.classes.count)
    c.deref.ensures.value c.in_ok-classes.ensures.few)
    (c.truncate.ensures.items ∙ ap (λ n. take n c.in_ok-classes.classes.numbers.items) c.len-2.ensures.count))
