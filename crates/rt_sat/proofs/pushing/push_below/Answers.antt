use Rattle.std.proofs.Common.{inl, inr, subst}
use Rattle.rt_sat.specs.declared.layers.Layers.{Layers}
use Rattle.rt_sat.specs.Pushes.{pushed_of, AreGrown, IsNeeding, IsStill}
use Rattle.rt_sat.proofs.Growing.{all_grown, all_more, all_still, closed_same}
use Rattle.rt_sat.proofs.Pushed.{bounds_closed}
use Rattle.rt_sat.proofs.pushing.push_below.Goals as goal

pub push_bound-requires-2-clause-indexed : goal.push_bound-requires-2-clause-indexed
push_bound-requires-2-clause-indexed c = c.in_ok-push_bound.ensures.grown.indexed c.requires.indexed

pub push_bound-requires-3-clause-indexed : goal.push_bound-requires-3-clause-indexed
push_bound-requires-3-clause-indexed c = c.in_ok-push_bound-2.ensures.grown.indexed (c.in_ok-push_bound.ensures.grown.indexed c.requires.indexed)

pub returns : goal.returns
returns c =
    let known = c.args.frame.now.named in
    let flips = c.args.frame.now.flips.items in
    let matters = c.args.frame.now.matters.items in
    let old : Layers = c.args.layers.now in
    let a : Layers = c.push_bound.new.layers in
    let b : Layers = c.push_bound-2.new.layers in
    let new : Layers = c.push_bound-3.new.layers in
    let first : AreGrown known flips old a = all_grown known flips old a c.in_ok-push_bound.ensures.grown in
    let second : AreGrown known flips a b = all_grown known flips a b c.in_ok-push_bound-2.ensures.grown in
    let third : AreGrown known flips b new = all_grown known flips b new c.in_ok-push_bound-3.ensures.grown in
    let two : AreGrown known flips old b = all_more known flips old a b first second in
    record {
      grown = all_more known flips old b new two third;
      done = λ h.
          (let t : IsStill old b × IsStill b new = all_still known flips old b new two third h in
          let s : IsStill old a × IsStill a b = all_still known flips old a b first second t.0 in
          bounds_closed known flips matters old.edges.items (pushed_of old) c.args.parent
          (λ bound is child l k n. (elim is [
            | inl e ↦ c.in_ok-push_bound.ensures.done s.0 child l k (subst (λ z. IsNeeding known flips matters z c.args.parent.variable child.variable l) e n)
            | inr (inl e) ↦ closed_same known flips matters old a child c.args.parent l s.0 first.lines
                (c.in_ok-push_bound-2.ensures.done s.1 child l k (subst (λ z. IsNeeding known flips matters z c.args.parent.variable child.variable l) e n))
            | inr (inr e) ↦ closed_same known flips matters old b child c.args.parent l t.0 two.lines
                (c.in_ok-push_bound-3.ensures.done t.1 child l k (subst (λ z. IsNeeding known flips matters z c.args.parent.variable child.variable l) e n))
          ])));
    }
