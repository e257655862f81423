-- Which existentials lead out.
use Rattle.std.specs.Prelude.{◌≡◌, ◌↔◌, ℕ, List, [], ◌∷◌, Contains, Bool, true, false, cond}
use Rattle.rt_lines.specs.declared.label.Variance.{Variance}
use Rattle.rt_lines.specs.declared.variable.Base.{Base}
use Rattle.rt_lines.specs.declared.variable.Base.TheVariants.{Proc, Global, Exist, Outer}
use Rattle.rt_lines.specs.declared.variable.Dtv.{Dtv}
use Rattle.rt_lines.specs.declared.line.Line.{Line}
use Rattle.rt_rules.specs.Put.{use_of}
use Rattle.rt_twins.specs.Twinnings.{LeadsOut}

-- the line is a use of the existential of the sign that has no letter, beside a variable of the base
abbrev pub IsBare : Variance → ℕ → Base → Line → Type 0
IsBare sign n b l = (z : Dtv) × (l ≡ use_of sign n z) × (z.base ≡ b)

-- whether the base is an existential of the set
abbrev pub is_in : (ℕ → Bool) → Base → Bool
is_in known (Proc n) = false
is_in known (Global n) = false
is_in known (Exist n) = known n
is_in known (Outer n) = false

-- the line is such a use, beside a base that is no existential of the set
abbrev pub IsBareBut : Variance → (ℕ → Bool) → ℕ → Line → Type 0
IsBareBut sign known n l = (b : Base) × IsBare sign n b l × (is_in known b ≡ false)

-- the set holds the existentials for which one of the lines is such
abbrev pub AreOfLines : (ℕ → Line → Type 0) → List Line → (ℕ → Bool) → Type 0
AreOfLines P lines has = (n : ℕ) → (has n ≡ true) ↔ ((l : Line) × Contains lines l × P n l)

-- the arrows from each existential are to those that have such a use beside a variable of it
abbrev pub AreArrows : Variance → List Line → (ℕ → ℕ → Bool) → Type 0
AreArrows sign lines arrows = (m : ℕ) → AreOfLines (λ n. IsBare sign n (Exist m)) lines (arrows m)

-- what those share that lead out, and those that do not
abbrev pub lead_key : Bool → ℕ → List ℕ
lead_key out n = cond out [] (n ∷ [])

-- the set holds those that lead out
abbrev pub DoLead : Variance → List Line → (ℕ → Bool) → Type 0
DoLead sign lines out = (n : ℕ) → (out n ≡ true) ↔ LeadsOut sign lines n
