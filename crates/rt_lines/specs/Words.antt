-- Labels, and the variance of a word.
use Rattle.std.specs.Prelude.{◌≡◌, ◌≤◌, ◌%◌, ◌⊎◌, List, [], ◌∷◌}
use Rattle.std.specs.Prelude.{FitsSigned}
use Rattle.std.specs.Int.{w32}
use Rattle.rt_lines.specs.declared.label.Loc.{Loc}
use Rattle.rt_lines.specs.declared.label.Loc.TheVariants.{Arg, Stack}
use Rattle.rt_lines.specs.declared.label.Label.{Label}
use Rattle.rt_lines.specs.declared.label.Label.TheVariants.{In, Out, Load, Store, Field}
use Rattle.rt_lines.specs.declared.label.Variance.{Variance}
use Rattle.rt_lines.specs.declared.label.Variance.TheVariants.{Co, Contra}

abbrev pub IsLoc : Loc → Type 0
IsLoc (Arg n) = n ≤ 7
IsLoc (Stack k) = (k % 4 ≡ 0) × (k ≤ 65532)

-- the letters that words are made of
abbrev pub IsLabel : Label → Type 0
IsLabel (In l) = IsLoc l
IsLabel (Out n) = n ≤ 1
IsLabel Load = Unit {0}
IsLabel Store = Unit {0}
IsLabel (Field w k) = ((w ≡ 8) ⊎ ((w ≡ 16) ⊎ (w ≡ 32))) × FitsSigned w32 k

abbrev pub label_variance : Label → Variance
label_variance (In l) = Contra
label_variance (Out n) = Co
label_variance Load = Co
label_variance Store = Contra
label_variance (Field w k) = Co

-- the product of two signs
abbrev pub times : Variance → Variance → Variance
times Co v = v
times Contra Co = Contra
times Contra Contra = Co

-- the product of the signs of the letters
abbrev pub variance_of_word : List Label → Variance
variance_of_word [] = Co
variance_of_word (l ∷ w) = times (label_variance l) (variance_of_word w)
