-- Booleans that agree.
use Rattle.std.proofs.Common.{◌≡◌, Bool, true, false, refl, sym}

-- two that are false at once are one
pub same_flag : (s t : Bool) → (s ≡ false → t ≡ false) → (t ≡ false → s ≡ false) → s ≡ t
same_flag true true there back = refl
same_flag true false there back = back refl
same_flag false t there back = sym (there refl)

-- two that are true at once are one
pub same_truth : (s t : Bool) → (s ≡ true → t ≡ true) → (t ≡ true → s ≡ true) → s ≡ t
same_truth true t there back = sym (there refl)
same_truth false true there back = back refl
same_truth false false there back = refl
