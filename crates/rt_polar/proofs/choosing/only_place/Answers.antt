use Rattle.std.proofs.Common.{◌≡◌, ℕ, ◌<◌, List, length, get_or, Option, Some, None, MatchOption, arith}
use Rattle.rt_lines.specs.declared.label.Variance.{Variance}
use Rattle.rt_lines.specs.declared.line.Line.{Line}
use Rattle.rt_lines.specs.declared.line.Line.TheVariants.{Var}
use Rattle.rt_rules.specs.Put.{exist, HasUse}
use Rattle.rt_polar.specs.Polar.{IsOnlyPlace}
use Rattle.rt_polar.proofs.choosing.only_place.Goals as goal

all : (sign : Variance) (n : ℕ) (lines : List Line) (i : ℕ) (found : Option ℕ) → i ≡ length lines →
    MatchOption found ((k : ℕ) (d : Line) → k < i → HasUse sign n (get_or lines k d) → ⊥)
    (λ place. (place < i) × ((d : Line) → HasUse sign n (get_or lines place d)) × ((k : ℕ) (d : Line) → k < i → HasUse sign n (get_or lines k d) → k ≡ place)) →
    MatchOption found ((place : ℕ) → IsOnlyPlace sign n lines place → ⊥) (IsOnlyPlace sign n lines)
all sign n lines i None e none = λ place only. let within = only.within in none place (Var (exist n)) (omega (arith, e)) (only.uses (Var (exist n)))
all sign n lines i (Some place) e h = record { within = omega (arith, e, h.0); uses = h.1; only = λ k d lt u. h.2 k d (omega (arith, e)) u }

pub returns : goal.returns
returns c = let i_end : c.loop-i.i ≡ length c.args.lines.now = omega arith in all c.args.sign c.args.v c.args.lines.now c.loop-i.i c.loop-i.found i_end c.loop-i.invariant
