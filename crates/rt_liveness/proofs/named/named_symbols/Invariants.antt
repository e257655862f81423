use Rattle.std.proofs.Common.{◌≡◌, ℕ, Some, length, slice_get}
use Rattle.rt_body.specs.Symbols.{symbol_of}
use Rattle.rt_sigs.specs.Signatures.{signature_of, args_of}
use Rattle.rt_liveness.specs.declared.named.Named.{Named}
use Rattle.rt_liveness.specs.Inside.Signed.{IsNamedBy}
use Rattle.rt_liveness.proofs.named.named_symbols.Given as goal

abbrev pub invariant-loop-symbol : goal.invariant-loop-symbol
invariant-loop-symbol l =
    (length l.named.items ≡ l.symbol-index)
    × ((symbol : ℕ) (one : Named) → slice_get l.named.items symbol ≡ Some one → IsNamedBy (signature_of l.fn.sigs (symbol_of l.fn.object symbol).name) (args_of l.fn.sigs (symbol_of l.fn.object symbol).name) one)
