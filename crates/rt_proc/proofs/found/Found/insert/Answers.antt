use Rattle.std.proofs.Common.{◌≡◌, true, false, List, sym, subst, ◌∙◌}
use Rattle.std.specs.BTreeSet.{contains}
use Rattle.std.specs.List.{list_any}
use Rattle.rt_link.specs.Effects.{is_place}
use Rattle.rt_link.specs.Links.{place_cmp}
use Rattle.rt_link.specs.declared.place.Place.{Place}
use Rattle.rt_control.proofs.Once.{HasSame, HasSame-added, HasSame-kept, with_place-new, with_place-old, was_absent, was_there, as_before}
use Rattle.rt_proc.proofs.found.Found.insert.Goals as goal

pub returns-in_ok-push-clause-same : goal.returns-in_ok-push-clause-same
returns-in_ok-push-clause-same c =
    subst (λ (kept : List Place). HasSame c.insert.new.self kept) (sym c.in_ok-push.ensures.items)
    (HasSame-added c.args.self.now.set c.insert.new.self c.args.self.now.places.items c.args.place c.requires c.in_ok-insert.ensures.updates)

pub returns-in_ok-push-clause-places : goal.returns-in_ok-push-clause-places
returns-in_ok-push-clause-places c =
    let absent : contains place_cmp c.args.self.now.set c.args.place ≡ false = was_absent c.in_ok-insert.field-0 _ c.in_ok-insert.ensures.added c.if-branch.true in
    let new : list_any (is_place c.args.place) c.args.self.now.places.items ≡ false = sym (c.requires c.args.place) ∙ absent in
    c.in_ok-push.ensures.items ∙ sym (with_place-new c.args.self.now.places.items c.args.place new)

pub returns-else-branch-clause-same : goal.returns-else-branch-clause-same
returns-else-branch-clause-same c =
    HasSame-kept c.args.self.now.set c.insert.new.self c.args.self.now.places.items c.requires (as_before c.in_ok-insert.field-0 _ c.in_ok-insert.ensures.unchanged c.if-branch.false)

pub returns-else-branch-clause-places : goal.returns-else-branch-clause-places
returns-else-branch-clause-places c =
    let there : contains place_cmp c.args.self.now.set c.args.place ≡ true = was_there c.in_ok-insert.field-0 _ c.in_ok-insert.ensures.added c.if-branch.false in
    let old : list_any (is_place c.args.place) c.args.self.now.places.items ≡ true = sym (c.requires c.args.place) ∙ there in
    sym (with_place-old c.args.self.now.places.items c.args.place old)
