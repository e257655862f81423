-- Grids that are filled row by row.
use Rattle.std.proofs.Common.{◌≡◌, ℕ, ◌+◌, ◌*◌, ◌<◌, inl, inr, [], ◌∷◌, ◌++◌, length, ◌∙◌, sym, subst, arith}
use Rattle.std.proofs.lemmas.Bool.{cases_lt}
use Rattle.std.proofs.lemmas.List.{get_or_push, length_push}
use Rattle.std.proofs.Math.ListN.{get_or-append}
use Rattle.std.proofs.lemmas.Nat.{same_from_place, mul-add-lt}
use Rattle.rt_lattice.specs.declared.grid.Grid.{Grid}
use Rattle.rt_lattice.specs.Grids.{IsFilledTo, cell_of}

pub filled_more : (P : ℕ → ℕ → ℕ → Type 0) (n a b x : ℕ) (old new : Grid) → IsFilledTo P n a b old → b < n → new.count ≡ old.count → new.cells.items ≡ old.cells.items ++ x ∷ [] → P a b x → IsFilledTo P n a (b + 1) new
filled_more P n a b x old new was h count cells here =
    let whole : length new.cells.items ≡ length old.cells.items + 1 = rw cells (length_push old.cells.items x) in
    record {
      counted = count ∙ was.counted;
      full = omega (arith, was.full);
      each = λ p q k less.
          elim (cases_lt (p * n + q) (a * n + b)) [
            | inl earlier ↦ rw (cells, get_or-append old.cells.items (x ∷ []) 0 (p * n + q) (omega (arith, was.full))) (was.each p q k earlier)
            | inr later ↦
                let at : p * n + q ≡ a * n + b = omega arith in
                let pair : (p ≡ a) × (q ≡ b) = same_from_place p q a b n k h at in
                rw (cells, get_or_push old.cells.items x 0 (p * n + q) (was.full ∙ sym at), pair.0, pair.1) here
          ];
    }

pub filled_ends : (P : ℕ → ℕ → ℕ → Type 0) (n a b : ℕ) (grid : Grid) → IsFilledTo P n a b grid → a ≡ n → IsFilledTo P n n b grid
filled_ends P n a b grid was end = subst (λ x. IsFilledTo P n x b grid) end was

-- the fact holds of what a full grid has for a pair
pub filled_at : (P : ℕ → ℕ → ℕ → Type 0) (n a b : ℕ) (grid : Grid) → IsFilledTo P n n 0 grid → a < n → b < n → P a b (cell_of grid a b)
filled_at P n a b grid was h k = rw was.counted (was.each a b k (omega (arith, mul-add-lt a n b n h k)))
