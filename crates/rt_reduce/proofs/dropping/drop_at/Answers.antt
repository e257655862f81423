use Rattle.std.proofs.Common.{◌≡◌, All, List, ◌∷◌, Bool, inl, inr, refl, sym, subst, ◌∙◌}
use Rattle.std.specs.List.{remove}
use Rattle.std.proofs.lemmas.List.{get_or_default}
use Rattle.std.proofs.lemmas.Option.{IfSome_then}
use Rattle.rt_lines.specs.declared.line.Line.{Line}
use Rattle.rt_lines.specs.Lines.{HasConstantsBelow}
use Rattle.rt_rules.specs.Rules.{Derivable}
use Rattle.rt_outline.specs.Lines.{standing}
use Rattle.rt_reduce.specs.Inside.Deciding.{IsInnerFor, IsOuterFor, IsWaysFor, Tells}
use Rattle.rt_witness.specs.Witnesses.{IsLeft}
use Rattle.rt_reduce.proofs.Flags.{left_gone, outer_for, standing_gone}
use Rattle.rt_reduce.proofs.Grounded.{grounds, grounds_staying}
use Rattle.rt_reduce.proofs.Made.{inner_out, ways_out}
use Rattle.rt_reduce.proofs.Places.{All-removed}
use Rattle.rt_reduce.proofs.dropping.drop_at.Goals as goal

pub told-requires-clause-outer : goal.told-requires-clause-outer
told-requires-clause-outer c =
    let left = c.args.left.now.items in
    let stands = c.args.stands.now.items in
    let line = c.index.result.now in
    IfSome_then c.args.outer c.requires.standing (λ t are.
    let at : IsOuterFor (remove left c.args.place) c.deref.result.now line t.now =
    subst (λ (fs : List Bool). IsOuterFor (remove left c.args.place) fs line t.now) (sym c.deref.ensures.value)
    (outer_for left stands c.args.place t.now are line (c.args.place, c.requires.within, sym c.index.ensures))
    in
    record {
      sides = at.line_sides;
      constants = subst (λ (ls : List Line). All (HasConstantsBelow c.args.order.now.count) ls) at.left_are
          (All-removed (HasConstantsBelow c.args.order.now.count) left c.args.place c.requires.constants);
    })

pub is_derivable_open-requires-clause-inner : goal.is_derivable_open-requires-clause-inner
is_derivable_open-requires-clause-inner c =
    let left = c.args.left.now.items in
    let line = c.remove-line.result in
    IfSome_then c.args.inner c.requires.inner (λ t is.
    subst (λ (ls : List Line). IsInnerFor c.args.order.now (line ∷ ls) t.now) (sym (c.deref-3.ensures.value ∙ c.remove-line.ensures.items))
    (inner_out c.args.order.now left c.args.place t.now is line c.requires.within c.remove-line.ensures.value))

pub is_derivable_open-requires-clause-ground : goal.is_derivable_open-requires-clause-ground
is_derivable_open-requires-clause-ground c =
    grounds_staying c.args.order.now c.args.left.now.items c.deref-3.result.now c.args.stands.now.items c.args.place c.args.ground
    (c.deref-3.ensures.value ∙ c.remove-line.ensures.items) c.requires.ground

pub is_derivable_open-requires-clause-ways : goal.is_derivable_open-requires-clause-ways
is_derivable_open-requires-clause-ways c =
    let left = c.args.left.now.items in
    let line = c.remove-line.result in
    IfSome_then c.args.ways c.requires.ways (λ t are.
    subst (λ (ls : List Line). IsWaysFor c.args.order.now (line ∷ ls) t.now) (sym (c.deref-3.ensures.value ∙ c.remove-line.ensures.items))
    (ways_out c.args.order.now left c.args.place t.now are line c.requires.within c.remove-line.ensures.value))

pub is_derivable_open-requires-clause-witnesses : goal.is_derivable_open-requires-clause-witnesses
is_derivable_open-requires-clause-witnesses c =
    let left = c.args.left.now.items in
    let stands = c.args.stands.now.items in
    let (lines, is, are) = c.requires.witnesses in (
      lines,
      is,
      subst (λ (ls : List Line). IsLeft lines c.deref-2.result.now ls) (sym (c.deref-3.ensures.value ∙ c.remove-line.ensures.items))
          (subst (λ (fs : List Bool). IsLeft lines fs (remove left c.args.place)) (sym c.deref-2.ensures.value)
          (left_gone lines left stands c.args.place are)),
    )

pub returns-in-No-clause-decides : goal.returns-in-No-clause-decides
returns-in-No-clause-decides c = λ l e.
    let left = c.args.left.now.items in
    let stands = c.args.stands.now.items in
    let (lines, is, are) = c.requires.witnesses in
    let flags : IsLeft lines c.deref.result.now (remove left c.args.place) =
    subst (λ (fs : List Bool). IsLeft lines fs (remove left c.args.place)) (sym c.deref.ensures.value)
    (left_gone lines left stands c.args.place are)
    in
    let tells : Tells c.args.order.now (remove left c.args.place) c.index.result.now c.in_ok-told.field-0 =
    c.in_ok-told.ensures (remove left c.args.place)
    (IfSome_then c.args.outer c.requires.standing (λ t at.
    subst (λ (fs : List Bool). remove left c.args.place ≡ standing t.now.lines fs) (sym c.deref.ensures.value)
    (standing_gone left stands c.args.place t.now at).left_are))
    (grounds left stands c.args.place c.index.result.now c.args.order.now c.args.ground c.deref.result.now c.deref.ensures.value
    c.requires.within c.index.ensures c.requires.ground)
    lines is flags
    in
    let same : l ≡ c.index.result.now =
    e ∙ get_or_default left c.args.place l c.index.result.now c.requires.within ∙ sym c.index.ensures
    in
    inr (λ d. tells.no c.in-No.is (subst (λ (k : Line). Derivable c.args.order.now (remove left c.args.place) k) same d), refl)

pub returns-in-Yes-clause-decides : goal.returns-in-Yes-clause-decides
returns-in-Yes-clause-decides c = λ l e.
    let left = c.args.left.now.items in
    let stands = c.args.stands.now.items in
    let (lines, is, are) = c.requires.witnesses in
    let flags : IsLeft lines c.deref.result.now (remove left c.args.place) =
    subst (λ (fs : List Bool). IsLeft lines fs (remove left c.args.place)) (sym c.deref.ensures.value)
    (left_gone lines left stands c.args.place are)
    in
    let tells : Tells c.args.order.now (remove left c.args.place) c.index.result.now c.in_ok-told.field-0 =
    c.in_ok-told.ensures (remove left c.args.place)
    (IfSome_then c.args.outer c.requires.standing (λ t at.
    subst (λ (fs : List Bool). remove left c.args.place ≡ standing t.now.lines fs) (sym c.deref.ensures.value)
    (standing_gone left stands c.args.place t.now at).left_are))
    (grounds left stands c.args.place c.index.result.now c.args.order.now c.args.ground c.deref.result.now c.deref.ensures.value
    c.requires.within c.index.ensures c.requires.ground)
    lines is flags
    in
    let same : l ≡ c.index.result.now =
    e ∙ get_or_default left c.args.place l c.index.result.now c.requires.within ∙ sym c.index.ensures
    in
    inl (
      subst (λ (k : Line). Derivable c.args.order.now (remove left c.args.place) k) (sym same) (tells.yes c.in-Yes.is),
      c.remove.ensures.items,
    )
