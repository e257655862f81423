use Rattle.std.proofs.Common.{◌≡◌, ℕ, ◌<◌, true, Some, length, get_or, sym, ap, subst, ◌∙◌}
use Rattle.rt_lines.specs.declared.label.Label.{Label}
use Rattle.rt_outline.specs.Arcs.{Leads}
use Rattle.rt_outline.specs.Frames.{Origins, IsMade}
use Rattle.rt_outline.specs.Turning.{class_at, AreTold, AreToldTo}
use Rattle.rt_outline.proofs.Told.{made_read, told_at}
use Rattle.rt_outline.proofs.turning.is_told.Goals as goal

pub returns-then-is_told_with_all-clause-told : goal.returns-then-is_told_with_all-clause-told
returns-then-is_told_with_all-clause-told c = λ e.
    let origins = c.args.frame.now.origins.items in
    let Edge = Leads c.args.frame.now.arcs.items c.args.stands.now true in
    let sorts = c.args.sorts.now in
    let read : c.in-Some-Some.field-0.now ≡ get_or origins c.args.node c.in-Some-Some.field-0.now =
    c.in-Some-Some.ensures.lookup.1 ∙ ap (λ (xs : Origins). get_or xs c.args.node c.in-Some-Some.field-0.now) c.deref.ensures.value in
    told_at origins Edge sorts.classes.items sorts.flips.items sorts.marks.items (length sorts.classes.items) c.args.node
    c.in-Some-Some.parent c.in-Some.class c.in-Some-Some.label c.in-Some-Some.field-0.now read c.in-Some-Some.field-0-is
    (sym c.class.ensures ∙ c.in-Some.is) (c.is_told_with_all.ensures c.if-is_told_with_all.true)

pub returns-clause-told : goal.returns-clause-told
returns-clause-told c = λ e.
    let origins = c.args.frame.now.origins.items in
    let Edge = Leads c.args.frame.now.arcs.items c.args.stands.now true in
    let sorts = c.args.sorts.now in
    let read : c.in-Some-Some.field-0.now ≡ get_or origins c.args.node c.in-Some-Some.field-0.now =
    c.in-Some-Some.ensures.lookup.1 ∙ ap (λ (xs : Origins). get_or xs c.args.node c.in-Some-Some.field-0.now) c.deref.ensures.value in
    told_at origins Edge sorts.classes.items sorts.flips.items sorts.marks.items (length sorts.classes.items) c.args.node
    c.in-Some-Some.parent c.in-Some.class c.in-Some-Some.label c.in-Some-Some.field-0.now read c.in-Some-Some.field-0-is
    (sym c.class.ensures ∙ c.in-Some.is) (c.in_ok-told.ensures.told e)
