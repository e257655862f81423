use Rattle.std.proofs.Common.{◌≡◌, ◌∷◌, [], Some}
use Rattle.std.specs.Prelude.{slice_get}
use Rattle.rt_lines.specs.declared.line.Line.TheVariants.{Var as Exists}
use Rattle.rt_rules.specs.Rules.{Derivable}
use Rattle.rt_named.specs.Naming.{with_prefixes}
use Rattle.rt_earlier.specs.Inside.Earlier.{StaysSound}
use Rattle.rt_earlier.proofs.earlier.Earlier.enter.Given as goal

abbrev pub invariant-loop : goal.invariant-loop
invariant-loop l = record {
  sound : StaysSound (λ order lines. Derivable order lines (Exists l.fn.x)) l.fn.self l.self;
  named : l.self.named ≡ with_prefixes l.fn.self.named (l.fn.x ∷ []);
  number : slice_get l.self.named l.number ≡ Some l.fn.x;
}
