use Rattle.std.proofs.Common.{◌≡◌, ℕ, take, true, Contains}
use Rattle.std.specs.BTreeSet.{contains}
use Rattle.std.specs.Ordering.{nat_cmp}
use Rattle.rt_lines.specs.declared.variable.Base.TheVariants.{Exist}
use Rattle.rt_lines.specs.declared.variable.Dtv.{Dtv}
use Rattle.rt_reduce.specs.Inside.Bases.{IsAloneAt}
use Rattle.rt_reduce.proofs.merging.pending.Given as goal

abbrev pub invariant-loop-side : goal.invariant-loop-side
invariant-loop-side l =
    (n : ℕ) (x : Dtv) → Contains (take l.side-index l.sides) x → x.base ≡ Exist n → (IsAloneAt l.comparison.named l.equals l.bases n → ⊥) →
    contains nat_cmp l.found n ≡ true
