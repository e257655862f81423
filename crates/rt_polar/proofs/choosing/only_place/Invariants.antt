use Rattle.std.proofs.Common.{◌≡◌, ℕ, ◌<◌, get_or, MatchOption}
use Rattle.rt_lines.specs.declared.line.Line.{Line}
use Rattle.rt_rules.specs.Put.{HasUse}
use Rattle.rt_polar.proofs.choosing.only_place.Given as goal

abbrev pub invariant-loop-i : goal.invariant-loop-i
invariant-loop-i l =
    MatchOption l.found ((k : ℕ) (d : Line) → k < l.i → HasUse l.sign l.v (get_or l.lines k d) → ⊥)
    (λ place. (place < l.i) × ((d : Line) → HasUse l.sign l.v (get_or l.lines place d)) × ((k : ℕ) (d : Line) → k < l.i → HasUse l.sign l.v (get_or l.lines k d) → k ≡ place))
