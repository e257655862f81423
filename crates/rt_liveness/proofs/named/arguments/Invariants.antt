use Rattle.std.proofs.Common.{◌≡◌, ℕ, ◌<◌, ◌||◌, false, length, get_or}
use Rattle.rt_lines.specs.declared.label.Loc.TheVariants.{Arg}
use Rattle.rt_lines.specs.declared.label.Label.TheVariants.{In}
use Rattle.rt_scheme.specs.Ports.{names_label}
use Rattle.rt_liveness.specs.Inside.Signed.{counts_argument}
use Rattle.rt_liveness.proofs.named.arguments.Given as goal

abbrev pub invariant-loop-n : goal.invariant-loop-n
invariant-loop-n l =
    (length l.takes ≡ 8)
    × ((k : ℕ) → k < l.n → get_or l.takes k false ≡ (names_label l.scheme.base l.scheme.lines (In (Arg k)) || counts_argument l.args k))
