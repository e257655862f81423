use Rattle.std.proofs.Common.{◌≡◌, ℕ, take, Contains}
use Rattle.rt_lines.specs.declared.variable.Base.TheVariants.{Exist}
use Rattle.rt_lines.specs.declared.variable.Dtv.{Dtv}
use Rattle.rt_reduce.proofs.merging.has_existential.Given as goal

abbrev pub invariant-loop-side : goal.invariant-loop-side
invariant-loop-side l = (n : ℕ) (x : Dtv) → Contains (take l.side-index l.sides) x → x.base ≡ Exist n → ⊥
