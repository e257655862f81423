-- Mapped lists, by what holds of each element.
use Rattle.std.proofs.Common.{◌≡◌, List, [], ◌∷◌, map, Contains, refl, ap}
use Rattle.rt_base.proofs.Lists.{Contains-here, Contains-there}

-- maps that agree on the elements
pub map-same : {X Y : Type 0} (f g : X → Y) (xs : List X) → ((x : X) → Contains xs x → f x ≡ g x) → map f xs ≡ map g xs
map-same f g [] h = refl
map-same f g (x ∷ xs) h = λ t. h x (Contains-here x xs) t ∷ map-same f g xs (λ y c. h y (Contains-there x xs y c)) t

-- a map there and one back
pub map-back : {X Y : Type 0} (f : X → Y) (g : Y → X) (xs : List X) → ((x : X) → Contains xs x → g (f x) ≡ x) → map g (map f xs) ≡ xs
map-back f g [] h = refl
map-back f g (x ∷ xs) h = λ t. h x (Contains-here x xs) t ∷ map-back f g xs (λ y c. h y (Contains-there x xs y c)) t
