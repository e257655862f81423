-- Existentials numbered in order.
use Rattle.std.proofs.Common.{◌≡◌, ℕ, Bool, true, false, nat_eq, List, refl, sym, ◌∙◌, true≢false}
use Rattle.std.specs.List.{position_or_len}
use Rattle.rt_lines.specs.declared.variable.Base.{Base}
use Rattle.rt_lines.specs.declared.variable.Base.TheVariants.{Proc, Global, Exist, Outer}
use Rattle.rt_lines.specs.declared.line.Line.{Line}
use Rattle.rt_rules.specs.Laws.{IsRenaming}
use Rattle.rt_marks.specs.Laws.{NumberingLaw}
use Rattle.rt_marks.proofs.Renaming.{renaming_lem}
use Rattle.rt_rules.proofs.Numbers.{placed-one_to_one}
use Rattle.rt_lines.specs.Numbering.{existentials, placed}

-- Every existential that the lines name has a place.

module _ (inside : Base → Bool) (exists : (n : ℕ) → inside (Exist n) ≡ true) (lines : List Line) where
  outside_stays : (b : Base) → inside b ≡ false → placed (existentials lines) b ≡ b
  outside_stays (Proc n) e = refl
  outside_stays (Global n) e = refl
  outside_stays (Exist n) e = absurd (true≢false (sym (exists n) ∙ e))
  outside_stays (Outer n) e = refl

  inside_stays : (b : Base) → inside b ≡ true → inside (placed (existentials lines) b) ≡ true
  inside_stays (Proc n) e = e
  inside_stays (Global n) e = e
  inside_stays (Exist n) e = exists (position_or_len (nat_eq n) (existentials lines))
  inside_stays (Outer n) e = e

  placed-is_renaming : IsRenaming inside (placed (existentials lines)) lines
  placed-is_renaming = record { outside_stays = outside_stays; inside_stays = inside_stays; one_to_one = placed-one_to_one lines }

pub numbering_lem : NumberingLaw
numbering_lem order inside lines exists = renaming_lem order inside (placed (existentials lines)) lines (placed-is_renaming inside exists lines)

-- What numbering keeps.
