use Rattle.std.proofs.Common.{◌≡◌, ℕ, Contains, Some, get_or, ap, subst, ◌∙◌}
use Rattle.rt_lines.specs.declared.label.Label.{Label as Letter}
use Rattle.rt_outline.specs.Frames.{Origins}
use Rattle.rt_outline.specs.Turning.{class_at}
use Rattle.rt_outline.specs.Inside.Beside.{kind_of, list_at, listed}
use Rattle.rt_outline.proofs.Told.{made_read}
use Rattle.rt_outline.proofs.beside.list.Goals as goal

pub returns-clause-made : goal.returns-clause-made
returns-clause-made c = λ q d m made class.
    let origins = c.args.frame.now.origins.items in
    let classes = c.args.sorts.now.classes.items in
    let lists = c.note.new.lists.entries in
    let parent = c.in-Some-Some.parent in
    let label = c.in-Some-Some.label in
    let read : c.in-Some-Some.field-0.now ≡ get_or origins c.args.node c.in-Some-Some.field-0.now =
    c.in-Some-Some.ensures.lookup.1 ∙ ap (λ (xs : Origins). get_or xs c.args.node c.in-Some-Some.field-0.now) c.deref.ensures.value in
    let here : (k : ℕ) → class_at classes parent ≡ Some k → Contains (listed lists k label) c.args.node = λ k e.
    (let both : Some c.in-Some.class ≡ Some k = c.in-Some.ensures ∙ e in
    let same : c.in-Some.class ≡ k = cc in
    subst (λ (x : ℕ × Letter). Contains (list_at lists x) c.args.node)
    (ap (λ (n : Letter). (c.in-Some.class, n)) c.kind.ensures ∙ ap (λ (n : ℕ). (n, kind_of label)) same) c.in_ok-note.ensures.added) in
    made_read origins c.args.node parent label c.in-Some-Some.field-0.now
    (λ p n. (k : ℕ) → class_at classes p ≡ Some k → Contains (listed lists k n) c.args.node) read c.in-Some-Some.field-0-is here q m made d class
