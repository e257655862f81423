use Rattle.std.proofs.Common.{◌≡◌, ◌+◌, ◌<◌, List, Bool, length, inl, inr, refl, rules, sym, subst, ◌∙◌, arith}
use Rattle.std.specs.List.{remove, remove_range}
use Rattle.std.proofs.lemmas.List.{get_or_default}
use Rattle.std.proofs.lemmas.Option.{slice_get_read, IfSome_then}
use Rattle.rt_lines.specs.declared.line.Line.{Line}
use Rattle.rt_rules.specs.Rules.{Derivable}
use Rattle.rt_sure.specs.declared.fate.Fate.TheVariants.{Goes, Open, Stays}
use Rattle.rt_reduce.specs.Inside.Deciding.{IsGroundAt}
use Rattle.rt_reduce.specs.Inside.Dropping.{Decides, IsToldAt}
use Rattle.rt_reduce.proofs.Flags.{left_gone, set_again}
use Rattle.rt_reduce.proofs.Grounded.{ground_open}
use Rattle.rt_reduce.proofs.Holes.{above_hole, before_hole, hole_wider, no_hole}
use Rattle.rt_reduce.proofs.Told.{told_gone}
use Rattle.rt_reduce.proofs.dropping.drop_before.Goals as goal
use Rattle.rt_reduce.proofs.dropping.drop_before.Goals.{then-told-via-then-told, then-told-via-else-told+then-eq-2}

pub returns-then-eq-clause-lines : goal.returns-then-eq-clause-lines
returns-then-eq-clause-lines c = inl (no_hole c.take_out.new.left.items c.args.place ∙ c.take_out.ensures)

pub returns-then-eq-clause-decides : goal.returns-then-eq-clause-decides
returns-then-eq-clause-decides c = λ l e.
    let left = c.args.left.now.items in
    let place = c.args.place in
    let below : place < length left = omega (arith, c.requires.within.0, c.requires.within.1) in
    let all : List Line = remove_range left (place + 1) c.args.next in
    let stays : c.args.fate ≡ Stays = search rules in
    inr (
      c.requires.fated.stays l
          (slice_get_read all (length all) place l refl (above_hole left place c.args.next c.requires.within.0 below) e) stays,
      no_hole c.take_out.new.left.items place ∙ c.take_out.ensures,
    )

pub returns-then-eq-clause-moved : goal.returns-then-eq-clause-moved
returns-then-eq-clause-moved c = inr (
  no_hole c.take_out.new.left.items c.args.place ∙ c.take_out.ensures,
  sym (set_again c.args.stands.now.items c.args.place c.requires.stood),
)

pub returns-then-told-clause-lines : goal.returns-then-told-clause-lines
returns-then-told-clause-lines c =
    let below : c.args.place < length c.args.left.now.items = omega (arith, c.requires.within.0, c.requires.within.1) in
    inr (hole_wider c.args.left.now.items c.args.place c.args.next c.requires.within.0 below)

pub returns-then-told-clause-decides : goal.returns-then-told-clause-decides
returns-then-told-clause-decides c = λ l e.
    let left = c.args.left.now.items in
    let place = c.args.place in
    let below : place < length left = omega (arith, c.requires.within.0, c.requires.within.1) in
    let all : List Line = remove_range left (place + 1) c.args.next in
    let within : place < length all = above_hole left place c.args.next c.requires.within.0 below in
    let derived : Derivable c.args.order.now (remove all place) l =
    elim c.then-told.branch [
      | then-told-via-then-told w ↦ told_gone c.args.order.now all place l within
          (subst (λ t. IsToldAt t all place) w.if-told.true c.requires.told) e
      | then-told-via-else-told+then-eq-2 w ↦
          (let goes : c.args.fate ≡ Goes = search rules in
          c.requires.fated.goes l (slice_get_read all (length all) place l refl within e) goes)
    ] in
    inl (derived, hole_wider left place c.args.next c.requires.within.0 below)

pub returns-then-told-clause-moved : goal.returns-then-told-clause-moved
returns-then-told-clause-moved c = inl (
  hole_wider c.args.left.now.items c.args.place c.args.next c.requires.within.0 (omega (arith, c.requires.within.0, c.requires.within.1)),
  refl,
)

pub returns-then-goes-clause-lines : goal.returns-then-goes-clause-lines
returns-then-goes-clause-lines c =
    let below : c.args.place < length c.args.left.now.items = omega (arith, c.requires.within.0, c.requires.within.1) in
    inr (hole_wider c.args.left.now.items c.args.place c.args.next c.requires.within.0 below)

pub returns-then-goes-clause-decides : goal.returns-then-goes-clause-decides
returns-then-goes-clause-decides c = λ l e.
    let left = c.args.left.now.items in
    let place = c.args.place in
    let below : place < length left = omega (arith, c.requires.within.0, c.requires.within.1) in
    let all = remove_range left (place + 1) c.args.next in
    let (lines, is, are) = c.requires.witnesses in
    let same : l ≡ c.index.result.now =
    e ∙ before_hole left place c.args.next l c.requires.within.0 below ∙ get_or_default left place l c.index.result.now below
    ∙ sym c.index.ensures
    in
    inl (
      subst (λ (k : Line). Derivable c.args.order.now (remove all place) k) (sym same)
          (c.if-goes.ensures.derived c.args.order.now lines (remove all place) is (left_gone lines all c.args.stands.now.items place are)),
      hole_wider left place c.args.next c.requires.within.0 below,
    )

pub returns-then-goes-clause-moved : goal.returns-then-goes-clause-moved
returns-then-goes-clause-moved c = inl (
  hole_wider c.args.left.now.items c.args.place c.args.next c.requires.within.0 (omega (arith, c.requires.within.0, c.requires.within.1)),
  c.if-goes.ensures.cleared,
)

pub returns-clause-decides : goal.returns-clause-decides
returns-clause-decides c =
    subst (Decides c.args.order.now (remove_range c.args.left.now.items (c.args.place + 1) c.args.next) c.args.place)
    (sym (no_hole c.drop_at.new.left.items c.args.place))
    (subst (λ (ls : List Line). Decides c.args.order.now ls c.args.place c.drop_at.new.left.items)
    c.take_out-2.ensures c.in_ok-drop_at.ensures.decides)

pub drop_at-requires-clause-ground : goal.drop_at-requires-clause-ground
drop_at-requires-clause-ground c =
    let order = c.args.order.now in
    let place = c.args.place in
    let stands = c.args.stands.now.items in
    let left : List Line = remove_range c.args.left.now.items (place + 1) c.args.next in
    let other : c.args.fate ≡ Stays → ⊥ = search rules in
    IfSome_then c.args.ground c.requires.ground (λ g is.
    subst (λ (fs : List Bool). IsGroundAt order Open c.take_out-2.new.left.items fs place g.now) (sym c.if-goes.ensures)
    (subst (λ (ls : List Line). IsGroundAt order Open ls stands place g.now) (sym c.take_out-2.ensures)
    (ground_open order c.args.fate left stands place g.now other is)))
