use Rattle.std.proofs.Common.{◌≡◌, true, Contains, None, Some, get_or, refl, subst, sym, ◌∙◌}
use Rattle.std.proofs.lemmas.Option.{get_or_from_slice_get}
use Rattle.rt_outline.specs.Arcs.{Leads}
use Rattle.rt_outline.proofs.Closed.{more_pushed, more_same, pushed_within}
use Rattle.rt_outline.proofs.Pushing.{followed_kept}
use Rattle.rt_outline.proofs.closing.push_node.Goals as goal

pub enter-requires-clause-within : goal.enter-requires-clause-within
enter-requires-clause-within c = λ w h.
    pushed_within c.args.frame.now.origins.items (Leads c.args.frame.now.arcs.items c.args.stands.now true) c.args.node w (c.in_ok-fresh-in-Some.ensures.pushed w (subst (λ xs. Contains xs w) c.deref.ensures.value h))

pub returns-in_ok-enter-in-Some-clause-more : goal.returns-in_ok-enter-in-Some-clause-more
returns-in_ok-enter-in-Some-clause-more c =
    more_pushed c.args.frame.now.origins.items c.args.stands.now c.args.frame.now.arcs.items c.enter.new.frame.arcs.items c.args.node c.deref.result.now
    (λ w h. c.in_ok-fresh-in-Some.ensures.pushed w (subst (λ xs. Contains xs w) c.deref.ensures.value h)) c.in_ok-enter-in-Some.ensures.kept c.in_ok-enter-in-Some.ensures.more

pub returns-in-None-clause-more : goal.returns-in-None-clause-more
returns-in-None-clause-more c = more_same c.args.frame.now.origins.items c.args.stands.now c.args.frame.now.arcs.items

pub returns-in-None-clause-done : goal.returns-in-None-clause-done
returns-in-None-clause-done c = λ e. (
  refl,
  λ p l m. absurd (
      let g : get_or c.args.frame.now.origins.items c.args.node c.index.result.now ≡ Some (p, l) = get_or_from_slice_get c.args.frame.now.origins.items c.args.node (Some (p, l)) c.index.result.now m in
      let h : Some (p, l) ≡ None = sym g ∙ sym c.index.ensures ∙ c.in-None.is in cc),
)

pub returns-in_ok-enter-in-Some-clause-followed : goal.returns-in_ok-enter-in-Some-clause-followed
returns-in_ok-enter-in-Some-clause-followed c =
    followed_kept c.ends.new.reached.items c.args.frame.now.arcs.items c.enter.new.frame.arcs.items c.in_ok-enter-in-Some.ensures.kept c.in_ok-fresh-in-Some.ensures.followed
