use Rattle.std.proofs.Common.{◌≡◌, true, false, List, ◌∷◌, [], ◌++◌, Vec, Global, get_or, sym, ap, subst, ◌∙◌}
use Rattle.std.specs.BTreeSet.{contains}
use Rattle.std.specs.List.{list_any}
use Rattle.rt_link.specs.declared.place.Place.{Place}
use Rattle.rt_link.specs.Effects.{is_place}
use Rattle.rt_link.specs.Links.{place_cmp}
use Rattle.rt_control.specs.Tables.{with_places}
use Rattle.rt_control.proofs.Once.{HasSame, HasSame-added, HasSame-kept, with_place-new, with_place-old, rest_next, was_absent, was_there, as_before}
use Rattle.rt_control.proofs.targets.each_once.Goals as goal
use Rattle.rt_control.proofs.targets.each_once.Goals.{then-branch+in_ok-push, else-branch}

nowhere : Place
nowhere = record { section = 0; offset = 0 }

pub loop-place-preserved : goal.loop-place-preserved
unfolding nowhere
loop-place-preserved c = let once = c.loop-place.once.items in let place = get_or c.args.places.now c.loop-place.place-index nowhere in elim c.if-branch.branch [
  | then-branch+in_ok-push w ↦
      let absent : contains place_cmp c.loop-place.seen place ≡ false = was_absent c.in_ok-insert.field-0 _ c.in_ok-insert.ensures.added w.if-branch.true in
      let new : list_any (is_place place) once ≡ false = sym (c.loop-place.invariant.same place) ∙ absent in
      let items : c.if-branch.once.items ≡ once ++ place ∷ [] = ap (λ (v : Vec Place Global). v.items) w.once-is ∙ w.in_ok-push.ensures.items in
      record {
        same = subst (λ (kept : List Place). HasSame c.insert.new.self kept) (sym items)
            (HasSame-added c.loop-place.seen c.insert.new.self once place c.loop-place.invariant.same c.in_ok-insert.ensures.updates);
        rest = rest_next once c.if-branch.once.items c.args.places.now (with_places [] c.args.places.now) c.loop-place.place-index nowhere c.loop-place-test.true
            (items ∙ sym (with_place-new once place new)) c.loop-place.invariant.rest;
      }
  | else-branch w ↦
      let there : contains place_cmp c.loop-place.seen place ≡ true = was_there c.in_ok-insert.field-0 _ c.in_ok-insert.ensures.added w.if-branch.false in
      let old : list_any (is_place place) once ≡ true = sym (c.loop-place.invariant.same place) ∙ there in
      let items : c.if-branch.once.items ≡ once = ap (λ (v : Vec Place Global). v.items) w.once-is in
      record {
        same = subst (λ (kept : List Place). HasSame c.insert.new.self kept) (sym items)
            (HasSame-kept c.loop-place.seen c.insert.new.self once c.loop-place.invariant.same (as_before c.in_ok-insert.field-0 _ c.in_ok-insert.ensures.unchanged w.if-branch.false));
        rest = rest_next once c.if-branch.once.items c.args.places.now (with_places [] c.args.places.now) c.loop-place.place-index nowhere c.loop-place-test.true
            (items ∙ sym (with_place-old once place old)) c.loop-place.invariant.rest;
      }
]
