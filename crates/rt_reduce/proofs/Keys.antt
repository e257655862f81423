-- Lists of numbers by which variables are compared.
use Rattle.std.proofs.Common.{◌≡◌, List, [], ◌∷◌, map, refl, ap}
use Rattle.std.specs.declared.cmp.Ordering.{Ordering}
use Rattle.std.specs.Ordering.{ordering_then}
use Rattle.std.specs.Cmp.Lexicographic.{slice_cmp}

-- lists compare by what their elements become
pub slice_cmp-map : {X Y : Type 0} (R : Y → Y → Ordering) (f : X → Y) (xs ys : List X) →
    slice_cmp (λ a b. R (f a) (f b)) xs ys ≡ slice_cmp R (map f xs) (map f ys)
slice_cmp-map R f [] [] = refl
slice_cmp-map R f [] (y ∷ ys) = refl
slice_cmp-map R f (x ∷ xs) [] = refl
slice_cmp-map R f (x ∷ xs) (y ∷ ys) = ap (λ o. ordering_then (R (f x) (f y)) o) (slice_cmp-map R f xs ys)
