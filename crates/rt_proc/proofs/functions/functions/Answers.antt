use Rattle.std.proofs.Common.{◌<◌, length, sym, ap, ◌∙◌, arith, rules}
use Rattle.rt_link.proofs.Checking.{stops, goes_on}
use Rattle.rt_proc.specs.declared.fault.CodeFault.{CodeFault}
use Rattle.rt_proc.specs.Faults.{symbol_fault, symbols_fault, IsSymbolFault}
use Rattle.rt_proc.proofs.FunctionLists.{item, IsListing-push, IsListing-pass, IsListing-all, checked-ok, checked-err, is_symbol_fault}
use Rattle.rt_proc.proofs.functions.functions.Goals as goal
use Rattle.rt_proc.proofs.functions.functions.Goals.{then-is_function+in_ok-push, else-is_function}

pub returns-in_err-check_symbol-clause-bad : goal.returns-in_err-check_symbol-clause-bad
returns-in_err-check_symbol-clause-bad c =
    let object = c.args.object.now in
    let n = c.loop-symbol.symbol-index in
    let lengths = ap length c.symbols-symbol-items.ensures.symbols in
    let here = item object c.symbols-symbol-items.result.now n c.symbol-item.result c.symbols-symbol-items.ensures.symbols c.loop-symbol-test.true c.symbol-item.is in
    let e : CodeFault = c.in_err-check_symbol.field-0.0 in
    let fault = checked-err (symbol_fault object c.symbol-item.result) e c.in_err-check_symbol.ensures in
    let first = stops _ _ n _ e c.loop-symbol.invariant.checking (omega arith) (ap (symbol_fault object) here ∙ fault) in
    let known : IsSymbolFault (symbols_fault object) e = is_symbol_fault (symbols_fault object) e first in
    search rules

pub loop-symbol-preserved : goal.loop-symbol-preserved
loop-symbol-preserved c =
    let object = c.args.object.now in
    let n = c.loop-symbol.symbol-index in
    let lengths = ap length c.symbols-symbol-items.ensures.symbols in
    let within : n < length object.symbols = omega arith in
    let here = item object c.symbols-symbol-items.result.now n c.symbol-item.result c.symbols-symbol-items.ensures.symbols c.loop-symbol-test.true c.symbol-item.is in
    let none = checked-ok (symbol_fault object c.symbol-item.result) c.in_ok-check_symbol.field-0 c.in_ok-check_symbol.ensures in
    record {
      checking = goes_on _ _ n _ c.loop-symbol.invariant.checking within (ap (symbol_fault object) here ∙ none);
      listing = elim c.if-is_function.branch [
        | then-is_function+in_ok-push w ↦ rw (w.places-is, w.in_ok-push.ensures.ok, w.place_of.ensures)
            (IsListing-push object n c.loop-symbol.places c.symbol-item.result within here (sym c.is_function.ensures ∙ w.if-is_function.true) none c.loop-symbol.invariant.listing)
        | else-is_function w ↦ rw w.places-is (IsListing-pass object n c.loop-symbol.places c.symbol-item.result here (sym c.is_function.ensures ∙ w.if-is_function.false) c.loop-symbol.invariant.listing)
      ];
    }

pub returns-clause-found : goal.returns-clause-found
returns-clause-found c =
    let lengths = ap length c.symbols-symbol-items.ensures.symbols in
    IsListing-all c.args.object.now c.loop-symbol.symbol-index c.loop-symbol.places (omega arith) c.loop-symbol.invariant.listing
