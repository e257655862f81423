use Rattle.std.proofs.Common.{ℕ, take, length}
use Rattle.rt_link.specs.Checks.{place_fault, reloc_by, places_fault}
use Rattle.rt_link.specs.Links.{AreHeads}
use Rattle.rt_link.proofs.Checking.{IsChecking}
use Rattle.rt_link.proofs.resolver.read_places.Given as goal

abbrev pub invariant-loop-index : goal.invariant-loop-index
invariant-loop-index l = record {
  checking : IsChecking (λ (i : ℕ). place_fault l.object (take i l.relocs) (reloc_by l.relocs i)) (length l.relocs) l.index (places_fault l.object l.relocs);
  heads : AreHeads l.object.symbols (take l.index l.relocs) l.heads;
}
