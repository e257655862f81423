use Rattle.std.proofs.Common.{inl, inr, sym, subst}
use Rattle.rt_sat.specs.Searches.{Allows, IsWithin}
use Rattle.rt_sat.specs.Pushes.{IsStill}
use Rattle.rt_sat.proofs.Growing.{noted_more, noted_still}
use Rattle.rt_sat.proofs.pushing.push_between.Goals as goal

pub returns : goal.returns
returns c = record {
  noted = noted_more _ _ _ _ _ _ _ _ _ (λ e p. (p.0, p.1, inr (p.2, p.3))) (λ e p. (p.0, p.1, inl p.2)) c.in_ok-push_kept.ensures.noted c.in_ok-push_half.ensures.noted;
  done = λ h k p a.
      (let t : IsStill c.args.layers.now c.push_kept.new.layers × IsStill c.push_kept.new.layers c.push_half.new.layers =
      noted_still _ _ _ _ _ _ _ _ c.in_ok-push_kept.ensures.noted c.in_ok-push_half.ensures.noted h in
      elim p [
        | inl q ↦ subst (λ found. IsWithin found c.args.target k) (c.in_ok-push_kept.ensures.noted.kept t.0) (c.in_ok-push_half.ensures.done t.1 k q a)
        | inr q ↦ subst (λ n. IsWithin c.args.known.now c.args.target n) q.1 (c.in_ok-push_kept.ensures.done t.0 q.0 (subst (Allows c.args.most) (sym q.1) a))
      ]);
}
