use Rattle.std.proofs.Common.{◌≡◌, ℕ, Bool, List, false, get_or, sym, ap, subst, ◌∙◌}
use Rattle.rt_lines.specs.declared.label.Label.{Label}
use Rattle.rt_lines.specs.declared.label.Variance.{Variance}
use Rattle.rt_lines.specs.Words.{label_variance, times}
use Rattle.rt_sat.specs.declared.state.Edge.{Edge}
use Rattle.rt_sat.specs.declared.state.State.{State}
use Rattle.rt_sat.specs.Numbered.{is_contra, sign_of}
use Rattle.rt_sat.specs.Pushes.{IsChildOf, IsGrown, IsNeeding, IsPushedOn, IsDoneOn, PushBy, asked_of, flip_at, matter_at, pushed_of}
use Rattle.rt_sat.specs.Searches.{Allows}
use Rattle.rt_sat.proofs.Pushed.{closed_one, from_grown, from_done, needed_enough, needing_child}
use Rattle.rt_sat.proofs.pushing.push_child_of.Goals as goal

pub returns : goal.returns
returns c =
    let known = c.args.frame.now.named in
    let flips = c.args.frame.now.flips.items in
    let matters = c.args.frame.now.matters.items in
    let source : State = record { variable = c.args.child; contra = c.turns.result } in
    let same : c.flag-flip.result ≡ flip_at c.args.frame.now.flips.items c.args.parent.variable = c.flag-flip.ensures ∙ ap (λ (xs : List Bool). get_or xs c.args.parent.variable false) c.deref.ensures.value in
    let matter : c.flag.result ≡ matter_at c.args.frame.now.matters.items c.args.child = c.flag.ensures ∙ ap (λ (xs : List Bool). get_or xs c.args.child false) c.deref-2.ensures.value in
    let most : c.asked-most.result ≡ asked_of (matter_at c.args.frame.now.matters.items c.args.child) = c.asked-most.ensures ∙ ap asked_of matter in
    let needing : IsNeeding c.args.frame.now.named c.args.frame.now.flips.items c.args.frame.now.matters.items c.args.bound c.args.parent.variable c.args.child c.in-Some.first = c.in-Some.ensures.some in
    let sign : c.turns.result ≡ is_contra (times (label_variance c.in-Some.first) (sign_of c.args.parent.contra)) = cc in
    let child : IsChildOf c.args.frame.now.named source c.args.parent c.in-Some.first = needing_child c.args.frame.now.named flips matters c.args.bound c.args.parent c.args.child c.turns.result c.in-Some.first needing sign in
    let enough : (m : Label) (n k : ℕ) (a b : Variance) → PushBy (flip_at c.args.frame.now.flips.items c.args.parent.variable) c.in-Some.first m n a b k → Allows (asked_of (matter_at c.args.frame.now.matters.items c.args.child)) k →
    Allows c.args.bound n × Allows c.asked-most.result k =
    λ m n k a b p q. (
      subst (λ o. Allows o n) needing.bounded (needed_enough (matter_at matters c.args.child) (flip_at flips c.args.parent.variable) c.in-Some.first m n k a b p q),
      subst (λ o. Allows o k) (sym most) q,
    ) in
    record {
      grown = λ before search. from_grown known flips matters before (pushed_of c.args.layers.now) source c.args.parent c.in-Some.first child c.args.reached.now c.search_pushed.new.found
          c.args.bound c.asked-most.result search c.in_ok-search_pushed.ensures c.args.layers.now c.push_reached.new.layers
          (subst (λ b. IsGrown (λ (e : Edge). (e.from ≡ source) × IsPushedOn c.args.frame.now.named b c.in-Some.first (sign_of source.contra) c.args.reached.now e.to e.count) c.args.layers.now c.push_reached.new.layers)
          same c.in_ok-push_reached.ensures.noted.grown);
      done = λ h search end l e k n. closed_one known flips matters c.args.layers.now.edges.items (pushed_of c.args.layers.now) c.requires.distinct source c.args.parent c.in-Some.first child
          (from_done known flips matters c.args.layers.now.edges.items (pushed_of c.args.layers.now) source c.args.parent c.in-Some.first child c.args.reached.now c.search_pushed.new.found
          c.args.bound c.asked-most.result search c.in_ok-search_pushed.ensures
          enough
          (subst (λ b. IsDoneOn c.args.frame.now.named b c.in-Some.first (sign_of source.contra) c.args.reached.now c.asked-most.result c.search_pushed.new.found) same (c.in_ok-push_reached.ensures.done h)))
          end l e k;
    }
