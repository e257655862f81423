-- An element taken out of a list.
use Rattle.std.proofs.Common.{◌≡◌, ℕ, suc, List, [], ◌∷◌, ◌++◌, take, drop, get_or, length, All, refl, sym, ap, ◌∙◌}
use Rattle.std.specs.List.{remove}
use Rattle.std.proofs.lemmas.List.Elements.{All-append, All-drop, All-take}

-- without the element behind others
pub remove_middle : {X : Type 0} (before : List X) (x : X) (after : List X) (i : ℕ) → length before ≡ i →
    remove (before ++ x ∷ after) i ≡ before ++ after
remove_middle [] x after i e = ap (remove (x ∷ after)) (sym e)
remove_middle (y ∷ before) x after i e =
    ap (remove (y ∷ (before ++ x ∷ after))) (sym e) ∙ ap (λ ys. y ∷ ys) (remove_middle before x after (length before) refl)

-- the element behind others
pub get_or_middle : {X : Type 0} (before : List X) (x : X) (after : List X) (i : ℕ) (d : X) → length before ≡ i →
    get_or (before ++ x ∷ after) i d ≡ x
get_or_middle [] x after i d e = ap (λ k. get_or (x ∷ after) k d) (sym e)
get_or_middle (y ∷ before) x after i d e =
    ap (λ k. get_or (y ∷ (before ++ x ∷ after)) k d) (sym e) ∙ get_or_middle before x after (length before) d refl

-- what holds of all holds of all others
pub All-removed : {X : Type 0} (P : X → Type 0) (xs : List X) (i : ℕ) → All P xs → All P (remove xs i)
All-removed P xs i h = All-append P (take i xs) (drop (suc i) xs) (All-take P i xs h) (All-drop P (suc i) xs h)
