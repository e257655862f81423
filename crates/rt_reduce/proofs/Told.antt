-- Lines that follow from those before them, as others go behind these.
use Rattle.std.proofs.Common.{◌≡◌, ℕ, suc, ◌<◌, List, Bool, true, false, Some, take, drop, get_or, length}
use Rattle.std.proofs.Common.{refl, sym, ap, subst, ◌∙◌, arith}
use Rattle.std.specs.List.{remove, slice_get}
use Rattle.std.proofs.lemmas.List.Elements.{Contains-append_left}
use Rattle.std.proofs.lemmas.Option.{slice_get_read}
use Rattle.rt_lines.specs.declared.line.Line.{Line}
use Rattle.rt_lines.specs.Orders.{Below}
use Rattle.rt_rules.specs.Rules.{Derivable}
use Rattle.rt_rules.proofs.Carry.{given}
use Rattle.rt_rules.proofs.Covering.{derives_more}
use Rattle.rt_reduce.specs.Inside.Deciding.{AreWitnessed}
use Rattle.rt_reduce.specs.Inside.Dropping.{AreTold, IsToldAt}
use Rattle.rt_reduce.proofs.Flags.{standing_at, standing_before}

-- the lines before a line that still stands all stand
pub told_left : (lines left : List Line) (stands told : List Bool) (place at : ℕ) → AreWitnessed lines left stands at → place < at →
    AreTold lines told → IsToldAt (get_or told place false) left place
told_left lines left stands told place at are h is = λ order l e t.
    let same : take place left ≡ take place lines =
    ap (take place) are.left_are ∙ standing_before lines stands place (λ j k. are.before j (omega (arith, h, k))) in
    let read : slice_get lines place ≡ Some l =
    sym (standing_at lines stands place (λ j k. are.before j (omega (arith, h, k))))
    ∙ sym (ap (λ ls. slice_get ls place) are.left_are) ∙ e
    in
    subst (λ ls. Derivable order ls l) (sym same) (is order place l read t)

-- what follows from lines before a place follows from all without the line at it
pub told_gone : (order : Below) (left : List Line) (place : ℕ) (l : Line) → place < length left → IsToldAt true left place →
    l ≡ get_or left place l → Derivable order (remove left place) l
told_gone order left place l h is e =
    derives_more order (take place left) (remove left place)
    (λ m c. given order (remove left place) m (Contains-append_left (take place left) (drop (suc place) left) m c))
    (is order l (slice_get_read left (length left) place l refl h e) refl)
