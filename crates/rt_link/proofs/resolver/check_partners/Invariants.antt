use Rattle.std.proofs.Common.{ℕ, length}
use Rattle.rt_link.specs.Checks.{partner_fault, reloc_by, partners_fault}
use Rattle.rt_link.proofs.Checking.{IsChecking}
use Rattle.rt_link.proofs.resolver.check_partners.Given as goal

abbrev pub invariant-loop-index : goal.invariant-loop-index
invariant-loop-index l =
    IsChecking (λ (i : ℕ). partner_fault l.object l.relocs (reloc_by l.relocs i)) (length l.relocs) l.index (partners_fault l.object l.relocs)
