use Rattle.std.proofs.Common.{◌≡◌, true, false, Bor, IfSome, Option, get_or, sym, ap, subst, ◌∙◌}
use Rattle.rt_bridge.specs.Counted.{IsPointer}
use Rattle.rt_outline.specs.Arcs.{Leads}
use Rattle.rt_outline.specs.Frames.{Origins}
use Rattle.rt_outline.specs.Turning.{flag_at, AreTold, HaveBoth}
use Rattle.rt_outline.specs.Inside.Sides.{IsWhole}
use Rattle.rt_outline.specs.declared.turning.Reach.{Reach}
use Rattle.rt_outline.proofs.Told.{letters_differ, made_read, told_apart, told_both, told_split}
use Rattle.rt_outline.proofs.turning.is_told_with.Goals.{then-is_pointer, else-is_pointer, then-is_pointer-2, else-is_pointer-2}
use Rattle.rt_outline.proofs.turning.is_told_with.Goals as goal

pub returns-then-not-pointers : goal.returns-then-not-pointers
returns-then-not-pointers c = λ e q m made class.
    let origins = c.args.frame.now.origins.items in
    let Edge = Leads c.args.frame.now.arcs.items c.args.stands.now true in
    let flips = c.args.sorts.now.flips.items in
    let above = c.in-Some-Some.above in
    let letter = c.in-Some-Some.letter in
    let read : c.in-Some-Some.field-0.now ≡ get_or origins c.args.other c.in-Some-Some.field-0.now =
    c.in-Some-Some.ensures.lookup.1 ∙ ap (λ (xs : Origins). get_or xs c.args.other c.in-Some-Some.field-0.now) c.deref.ensures.value in
    let none : IsPointer c.args.label → IsPointer letter → flag_at flips c.args.parent ≡ true → ⊥ =
    λ a b f. elim c.if-is_pointer-2.branch [
      | then-is_pointer-2 w ↦ absurd (let g = sym c.if-not-pointers.true ∙ w.pointers-is ∙ w.is_flip-pointers.ensures ∙ f in cc)
      | else-is_pointer-2 w ↦ elim c.if-is_pointer.branch [
        | then-is_pointer u ↦ absurd (let g = sym w.if-is_pointer-2.false ∙ u.value-is ∙ u.is_pointer-then-is_pointer.ensures.1 b in cc)
        | else-is_pointer u ↦ absurd (let g = sym u.if-is_pointer.false ∙ c.is_pointer.ensures.1 a in cc)
      ]
    ] in
    made_read origins c.args.other above letter c.in-Some-Some.field-0.now
    (λ k n. AreTold origins Edge flips c.args.parent k c.args.label n c.args.node c.args.other) read c.in-Some-Some.field-0-is
    (told_apart origins Edge flips c.args.parent above c.args.label letter c.args.node c.args.other
    (letters_differ c.args.label letter c.ne-2.result c.ne-2.ensures c.if-ne-2.true) none) q m made

pub returns-then-has_both : goal.returns-then-has_both
returns-then-has_both c = λ e q m made class.
    let origins = c.args.frame.now.origins.items in
    let Edge = Leads c.args.frame.now.arcs.items c.args.stands.now true in
    let flips = c.args.sorts.now.flips.items in
    let above = c.in-Some-Some.above in
    let letter = c.in-Some-Some.letter in
    let read : c.in-Some-Some.field-0.now ≡ get_or origins c.args.other c.in-Some-Some.field-0.now =
    c.in-Some-Some.ensures.lookup.1 ∙ ap (λ (xs : Origins). get_or xs c.args.other c.in-Some-Some.field-0.now) c.deref.ensures.value in
    made_read origins c.args.other above letter c.in-Some-Some.field-0.now
    (λ k n. AreTold origins Edge flips c.args.parent k c.args.label n c.args.node c.args.other) read c.in-Some-Some.field-0-is
    (told_both origins Edge flips c.args.parent above c.args.label letter c.args.node c.args.other
    (subst (λ access. HaveBoth origins Edge access c.args.node c.args.other) c.is_flip.ensures
    (c.has_both.ensures c.if-has_both.true c.args.stands.now))) q m made

pub returns-then-not-pointers-2 : goal.returns-then-not-pointers-2
returns-then-not-pointers-2 c = λ e q m made class.
    let origins = c.args.frame.now.origins.items in
    let Edge = Leads c.args.frame.now.arcs.items c.args.stands.now true in
    let flips = c.args.sorts.now.flips.items in
    let above = c.in-Some-Some.above in
    let letter = c.in-Some-Some.letter in
    let read : c.in-Some-Some.field-0.now ≡ get_or origins c.args.other c.in-Some-Some.field-0.now =
    c.in-Some-Some.ensures.lookup.1 ∙ ap (λ (xs : Origins). get_or xs c.args.other c.in-Some-Some.field-0.now) c.deref.ensures.value in
    let none : IsPointer c.args.label → IsPointer letter → flag_at flips c.args.parent ≡ true → ⊥ =
    λ a b f. elim c.if-is_pointer-2.branch [
      | then-is_pointer-2 w ↦ absurd (let g = sym c.if-not-pointers-2.true ∙ w.pointers-is ∙ w.is_flip-pointers.ensures ∙ f in cc)
      | else-is_pointer-2 w ↦ elim c.if-is_pointer.branch [
        | then-is_pointer u ↦ absurd (let g = sym w.if-is_pointer-2.false ∙ u.value-is ∙ u.is_pointer-then-is_pointer.ensures.1 b in cc)
        | else-is_pointer u ↦ absurd (let g = sym u.if-is_pointer.false ∙ c.is_pointer.ensures.1 a in cc)
      ]
    ] in
    let whole : IsWhole origins Edge false c.args.parent c.in-Some.parents.now =
    subst (λ (o : Option (Bor Reach)). IfSome o (λ s. IsWhole origins Edge false c.args.parent s.now))
    c.in-Some.is c.requires.parents in
    made_read origins c.args.other above letter c.in-Some-Some.field-0.now
    (λ k n. AreTold origins Edge flips c.args.parent k c.args.label n c.args.node c.args.other) read c.in-Some-Some.field-0-is
    (told_split origins Edge flips c.args.parent above c.args.label letter c.args.node c.args.other
    c.args.own.now c.in-Some.parents.now c.requires.own whole (c.is_split.ensures e) none) q m made
