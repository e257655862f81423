-- The room of sites.
use Rattle.std.proofs.Common.{◌≡◌, ℕ, ◌+◌, ◌%◌, ◌≤◌, ◌&&◌, IsTrue, Bool, true, refl, arith, eq-eqb}
use Rattle.std.proofs.lemmas.Bool.{le-leb}
use Rattle.rt_elf.specs.Parts.{Parts as Object}
use Rattle.rt_elf.specs.Object.{section_of}
use Rattle.rt_link.specs.declared.place.Place.{Place}
use Rattle.rt_link.specs.Laws.{IsFarCall}
use Rattle.rt_control.specs.Places.{is_good, HasRoom, after}

-- two words stand where a far call does
pub far_room : (object : Object) (place : Place) (size : ℕ) → IsFarCall object place → size ≤ 8 → HasRoom object place size
far_room object place size far few = record { is_code = far.is_code; is_within = let h = far.is_within in omega arith }

pub all_true : (a b c : Bool) → a ≡ true → b ≡ true → c ≡ true → (a && b && c) ≡ true
all_true a b c e f g = rw (e, f, g) refl

-- the place of the second is good
pub second_good : (object : Object) (place : Place) → IsFarCall object place → IsTrue (is_good object (after place 4))
second_good object place far =
    let aligned : (place.offset + 4) % 4 ≡ 0 = let h = far.is_aligned in omega arith in
    let within : (place.offset + 4) + 4 ≤ (section_of object place.section).size = let h = far.is_within in omega arith in
    all_true _ _ _ far.is_code (eq-eqb _ _ aligned) (le-leb _ _ within)
