use Rattle.std.proofs.Common.{◌≡◌, ℕ, ◌<◌, ◌≤◌, ◌⊎◌, inl, inr, List, [], ◌∷◌, ◌++◌, Contains, arith}
use Rattle.rt_components.proofs.Numbers.{split_last, rises_front, in_front, front_or_last}
use Rattle.rt_components.proofs.walk.merge.Goals as goal

front_of_kept : (xs ys : List ℕ) (y place s : ℕ) → xs ≡ ys ++ y ∷ [] → place < y → s ≤ place → Contains xs s → Contains ys s
front_of_kept xs ys y place s e above le c = by (front_or_last xs ys y s e c)
  where
    by : Contains ys s ⊎ (y ≡ s) → Contains ys s
    by (inl d) = d
    by (inr f) = absurd (omega arith)

pub loop-start-preserved : goal.loop-start-preserved
loop-start-preserved c =
    let xs = c.loop-start.starts.items in
    let ys = c.pop.new.self.items in
    let e : xs ≡ ys ++ c.in-Some.start ∷ [] = split_last xs ys c.in-Some.start c.loop-start.starts.len (cc) c.loop-start.starts.ok.0 c.pop.ensures.rest in
    record {
      rises = rises_front xs ys c.in-Some.start e c.loop-start.invariant.rises;
      only = λ s d. c.loop-start.invariant.only s (in_front xs ys c.in-Some.start s e d);
      kept = λ s d le. front_of_kept xs ys c.in-Some.start c.args.place s e c.if-start-place.false le (c.loop-start.invariant.kept s d le);
    }
