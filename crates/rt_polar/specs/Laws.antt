-- The laws that the functions of `laws` state.
use Rattle.std.specs.Prelude.{◌≡◌, ◌≢◌, ℕ, List, ◌∷◌, ◌++◌, All, AllPairs, Bool, true}
use Rattle.rt_lines.specs.declared.label.Variance.{Variance}
use Rattle.rt_lines.specs.declared.variable.Base.{Base}
use Rattle.rt_lines.specs.declared.variable.Base.TheVariants.{Exist}
use Rattle.rt_lines.specs.declared.variable.Dtv.{Dtv}
use Rattle.rt_lines.specs.declared.line.Line.{Line}
use Rattle.rt_lines.specs.Orders.{Below}
use Rattle.rt_rules.specs.Alike.{Alike}
use Rattle.rt_rules.specs.Put.{HasUse, use_of}
use Rattle.rt_polar.specs.Puts.{Exchanges, Puts}
use Rattle.rt_polar.specs.Tidied.{tidied, without_self}

-- an inside existential may give its place to its candidate
abbrev pub PuttingOneLaw : Type 0
PuttingOneLaw =
    (order : Below) (inside : Base → Bool) (n : ℕ) (lines after : List Line) →
    inside (Exist n) ≡ true → Exchanges n lines after → Alike order inside lines after

-- existentials that are inside may give their places away, one after another
abbrev pub PuttingLaw : Type 0
PuttingLaw =
    (order : Below) (inside : Base → Bool) (lines left : List Line) →
    ((n : ℕ) → inside (Exist n) ≡ true) → Puts left lines → Alike order inside lines left

-- one list at most is left
abbrev pub OneAnswerLaw : Type 0
OneAnswerLaw = (lines left other : List Line) → Puts left lines → Puts other lines → left ≡ other

-- what is left has no sole definition and no sole consumer that could take its existential's place
abbrev pub NoneLeftLaw : Type 0
NoneLeftLaw =
    (lines left : List Line) → Puts left lines →
    (sign : Variance) (n : ℕ) (z : Dtv) (before after : List Line) → z.base ≢ Exist n →
    left ≡ before ++ use_of sign n z ∷ after →
    All (λ l. HasUse sign n l → ⊥) (before ++ after) → ⊥

-- tidied lines tell the outside the same
abbrev pub TidyingLaw : Type 0
TidyingLaw = (order : Below) (inside : Base → Bool) (lines : List Line) → Alike order inside lines (tidied lines)

-- distinct lines that put no variable beside itself are tidied
abbrev pub StayingLaw : Type 0
StayingLaw = (lines : List Line) → AllPairs (λ a b. a ≢ b) lines → All (λ l. without_self l ≡ l) lines → tidied lines ≡ lines
