-- Schemes with nothing to spare.
use Rattle.std.specs.Prelude.{◌≡◌, ◌≢◌, ℕ, ◌⊎◌, List, ◌∷◌, ◌++◌, All, Contains}
use Rattle.rt_lines.specs.declared.variable.Base.{Base}
use Rattle.rt_lines.specs.declared.variable.Base.TheVariants.{Global, Exist}
use Rattle.rt_lines.specs.declared.label.Variance.{Variance}
use Rattle.rt_lines.specs.declared.label.Variance.TheVariants.{Co, Contra}
use Rattle.rt_lines.specs.declared.variable.Dtv.{Dtv}
use Rattle.rt_lines.specs.declared.line.Line.{Line}
use Rattle.rt_lines.specs.declared.line.Line.TheVariants.{Var, Same, Sub, Low, Up}
use Rattle.rt_lines.specs.Orders.{Below}
use Rattle.rt_rules.specs.Rules.{HasSide, Derivable}
use Rattle.rt_rules.specs.Put.{exist, HasUse, use_of}
use Rattle.rt_rules.specs.Laws.{NamesBase}

-- the line joins the two bases
abbrev pub Joins : Line → Base → Base → Type 0
Joins (Var x) a b = ⊥
Joins (Same x y) a b = ((x.base ≡ a) × (y.base ≡ b)) ⊎ ((x.base ≡ b) × (y.base ≡ a))
Joins (Sub x y) a b = ((x.base ≡ a) × (y.base ≡ b)) ⊎ ((x.base ≡ b) × (y.base ≡ a))
Joins (Low k x) a b = ⊥
Joins (Up x k) a b = ⊥

-- a chain of lines joins the two bases
pub data IsJoined (lines : List Line) : Base → Base → Type 0 where
  joined_self : {b : Base} → IsJoined lines b b
  joined_line : {a b c : Base} (l : Line) → Contains lines l → Joins l a b → IsJoined lines b c → IsJoined lines a c

-- the own base, or a global
abbrev pub IsAnchor : Base → Base → Type 0
IsAnchor own (Global n) = Unit {0}
IsAnchor own b = b ≡ own

-- A scheme with nothing to spare: each existential has a use, no line follows from the others, no existential has a
-- sole definition or a sole consumer that could take its place, none equals another variable, each is joined to the own
-- base or to a global, and no line puts a variable beside itself.
pub record IsReduced (order : Below) (own : Base) (lines : List Line) : Type 0 where
  pub used : (n : ℕ) → NamesBase lines (Exist n) → (l : Line) × Contains lines l × (HasUse Co n l ⊎ HasUse Contra n l)
  pub needed : (before after : List Line) (l : Line) → lines ≡ before ++ l ∷ after → Derivable order (before ++ after) l → ⊥
  pub no_single_use : (sign : Variance) (n : ℕ) (z : Dtv) (before after : List Line) → z.base ≢ Exist n →
      lines ≡ before ++ use_of sign n z ∷ after → All (λ l. HasUse sign n l → ⊥) (before ++ after) → ⊥
  pub no_equal : (n : ℕ) (z : Dtv) (l : Line) → Contains lines l → HasSide l z → z.base ≢ Exist n →
      Derivable order lines (Sub (exist n) z) → Derivable order lines (Sub z (exist n)) → ⊥
  pub joined : (n : ℕ) → NamesBase lines (Exist n) → (b : Base) × IsAnchor own b × IsJoined lines (Exist n) b
  pub no_self_sub : (x : Dtv) → Contains lines (Sub x x) → ⊥
  pub no_self_same : (x : Dtv) → Contains lines (Same x x) → ⊥
