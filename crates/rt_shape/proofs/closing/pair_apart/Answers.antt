use Rattle.std.proofs.Common.{◌≡◌, ℕ, ◌+◌, ◌<◌, ◌⊎◌, inl, inr, List, length, take, get_or, Contains, sym, subst, arith}
use Rattle.std.proofs.lemmas.List.{take_more, take_all}
use Rattle.std.proofs.lemmas.List.Elements.{Contains-get_or, Contains-push_cases}
use Rattle.rt_shape.proofs.closing.pair_apart.Goals as goal

pub bounds-class-i : goal.bounds-class-i
bounds-class-i c = (c.requires _ _ (Contains-get_or c.args.pairs.now c.loop-i.i-index (0, 0) (omega arith))).0

pub bounds-class-j : goal.bounds-class-j
bounds-class-j c = (c.requires _ _ (Contains-get_or c.args.pairs.now c.loop-i.i-index (0, 0) (omega arith))).1

one_more : (pairs : List (ℕ × ℕ)) (class : List ℕ) (n : ℕ) → n < length pairs → ((i j : ℕ) → Contains (take n pairs) (i, j) → get_or class i 0 ≡ get_or class j 0) → get_or class (get_or pairs n (0, 0)).0 0 ≡ get_or class (get_or pairs n (0, 0)).1 0 → (i j : ℕ) → Contains (take (n + 1) pairs) (i, j) → get_or class i 0 ≡ get_or class j 0
one_more pairs class n less earlier here i j c = by (Contains-push_cases (take n pairs) (get_or pairs n (0, 0)) (i, j) (subst (λ ps. Contains ps (i, j)) (take_more pairs n (0, 0) less) c))
  where
    by : Contains (take n pairs) (i, j) ⊎ ◌≡◌ {A = ℕ × ℕ} (get_or pairs n (0, 0)) (i, j) → get_or class i 0 ≡ get_or class j 0
    by (inl h) = earlier i j h
    by (inr e) = subst (λ p. get_or class p.0 0 ≡ get_or class p.1 0) e here

pub loop-i-preserved : goal.loop-i-preserved
loop-i-preserved c = one_more c.args.pairs.now c.args.class.now c.loop-i.i-index (omega arith) c.loop-i.invariant c.if-class-i.false

pub returns-clause-none : goal.returns-clause-none
returns-clause-none c = λ i j h. c.loop-i.invariant i j (subst (λ ps. Contains ps (i, j)) (sym (take_all c.loop-i.i-index c.args.pairs.now (omega arith))) h)
