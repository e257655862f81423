use Rattle.std.proofs.Common.{ℕ, length}
use Rattle.rt_link.proofs.Checking.{IsChecking}
use Rattle.rt_proc.specs.Faults.{symbol_fault, symbols_fault}
use Rattle.rt_proc.proofs.FunctionLists.{symbol_by, IsListing}
use Rattle.rt_proc.proofs.functions.functions.Given as goal

abbrev pub invariant-loop-symbol : goal.invariant-loop-symbol
invariant-loop-symbol l = record {
  checking : IsChecking (λ (i : ℕ). symbol_fault l.object (symbol_by l.object i)) (length l.object.symbols) l.symbol-index (symbols_fault l.object);
  listing : IsListing l.object l.symbol-index l.places;
}
