-- The order of variables, in which the first stands for others.
use Rattle.std.specs.Prelude.{ℕ, ◌-◌, List, [], ◌∷◌, ◌++◌, map, length, Bool, ℤ, pos, negsuc}
use Rattle.std.specs.Ordering.{nat_cmp, is_lt}
use Rattle.std.specs.Cmp.Lexicographic.{slice_cmp}
use Rattle.rt_lines.specs.declared.label.Loc.{Loc}
use Rattle.rt_lines.specs.declared.label.Loc.TheVariants.{Arg, Stack}
use Rattle.rt_lines.specs.declared.label.Label.{Label}
use Rattle.rt_lines.specs.declared.label.Label.TheVariants.{In, Out, Load, Store, Field}
use Rattle.rt_lines.specs.declared.variable.Base.{Base}
use Rattle.rt_lines.specs.declared.variable.Base.TheVariants.{Proc, Global, Exist, Outer}
use Rattle.rt_lines.specs.declared.variable.Dtv.{Dtv}
use Rattle.rt_texts.specs.Texts.{label_text}

-- existentials come before globals, and these before procedures
abbrev pub base_key : Base → List ℕ
base_key (Exist n) = 0 ∷ n ∷ []
base_key (Global n) = 1 ∷ n ∷ []
base_key (Proc n) = 2 ∷ n ∷ []
base_key (Outer n) = 3 ∷ n ∷ []

-- letters after the base, where an argument or a result counts as the base
abbrev pub level : Base → List Label → ℕ
level (Proc n) w = length w - 1
level (Exist n) w = length w
level (Global n) w = length w
level (Outer n) w = length w

abbrev pub location_numbers : Loc → List ℕ
location_numbers (Arg n) = 0 ∷ n ∷ []
location_numbers (Stack k) = 1 ∷ k ∷ []

abbrev pub offset_numbers : ℤ → List ℕ
offset_numbers (pos k) = 0 ∷ k ∷ []
offset_numbers (negsuc k) = 1 ∷ k ∷ []

-- what decides between labels of one text, of which there are none where labels are in their ranges
abbrev pub label_numbers : Label → List ℕ
label_numbers (In l) = 0 ∷ location_numbers l
label_numbers (Out n) = 1 ∷ n ∷ []
label_numbers Load = 2 ∷ []
label_numbers Store = 3 ∷ []
label_numbers (Field w k) = 4 ∷ w ∷ offset_numbers k

-- variables are in the order of their levels, their bases and the texts of their letters
abbrev pub variable_key : Dtv → List (List ℕ)
variable_key x = (level x.base x.word ∷ []) ∷ base_key x.base ∷ map label_text x.word ++ map label_numbers x.word

abbrev pub comes_before : Dtv → Dtv → Bool
comes_before x y = is_lt (slice_cmp (slice_cmp nat_cmp) (variable_key x) (variable_key y))
