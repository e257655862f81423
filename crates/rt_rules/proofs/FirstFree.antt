-- A number above all existentials of lines.
use Rattle.std.proofs.Common.{◌≡◌, ℕ, ◌+◌, ◌<◌, ◌≤◌, ◌⊎◌, inl, inr, max, fold, map, flat_map, List, [], ◌∷◌, Contains, subst, arith}
use Rattle.rt_base.proofs.Lists.{Contains-none, Contains-cons_cases, Contains-map, Contains-flat_map}
use Rattle.rt_lines.specs.declared.variable.Base.TheVariants.{Exist}
use Rattle.rt_lines.specs.declared.line.Line.{Line}
use Rattle.rt_lines.specs.Sides.{sides}
use Rattle.rt_rules.specs.Laws.{NamesBase}
use Rattle.rt_rules.proofs.LineSides.{Contains-sides}
use Rattle.rt_lines.specs.FirstFree.{above, first_free}

-- the greatest of numbers and a first one is as great as each
pub fold_max-first : (m : ℕ) (numbers : List ℕ) → m ≤ fold max m numbers
fold_max-first m [] = omega arith
fold_max-first m (n ∷ numbers) = let deeper = fold_max-first (max m n) numbers in omega arith

pub fold_max-each : (m k : ℕ) (numbers : List ℕ) → Contains numbers k → k ≤ fold max m numbers
fold_max-each m k [] c = absurd (Contains-none k c)
fold_max-each m k (n ∷ numbers) c = by (Contains-cons_cases n numbers k c) (fold_max-each (max m n) k numbers)
  where
    by : (n ≡ k) ⊎ Contains numbers k → (Contains numbers k → k ≤ fold max (max m n) numbers) → k ≤ fold max (max m n) numbers
    by (inl e) rest = let deeper = fold_max-first (max m n) numbers in omega arith
    by (inr d) rest = rest d

-- an existential that the lines name is below it
pub first_free-above : (lines : List Line) (n : ℕ) → NamesBase lines (Exist n) → n < first_free lines
first_free-above lines n (l, x, c, h, e) =
    let numbers = flat_map (λ line. map (λ y. above y.base) (sides line)) lines in
    let has : Contains numbers (above x.base) = Contains-flat_map (λ line. map (λ y. above y.base) (sides line)) lines l (above x.base) c (Contains-map (λ y. above y.base) (sides l) x (Contains-sides l x h)) in
    let here : Contains numbers (n + 1) = subst (λ b. Contains numbers (above b)) e has in
    let within = fold_max-each 0 (n + 1) numbers here in
    omega arith
