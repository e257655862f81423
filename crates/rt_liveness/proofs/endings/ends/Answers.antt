use Rattle.std.proofs.Common.{◌≡◌, ◌<◌, ◌≤◌, List, AllPairs, length, get_or, sym, subst, ◌∙◌}
use Rattle.rt_elf.specs.declared.symbol.Symbol.{Symbol}
use Rattle.rt_liveness.proofs.Ending.{ends-more, ends-pass, ends-all, ends-ascending}
use Rattle.rt_liveness.proofs.endings.ends.Goals as goal
use Rattle.rt_liveness.proofs.endings.ends.Goals.{then-is_end+in_ok-push, else-is_end}

pub loop-number-init : goal.loop-number-init
loop-number-init c = record { items = c.symbols-symbol-items.ensures.symbols; each = c.new-ends.ensures }

pub loop-number-preserved : goal.loop-number-preserved
loop-number-preserved c =
    let object = c.args.object.now in
    let sigs = c.args.sigs.now in
    let symbol = c.symbol-item.result in
    let number = c.loop-number.number in
    let is : symbol ≡ get_or object.symbols number symbol = subst (λ (symbols : List Symbol). symbol ≡ get_or symbols number symbol) c.loop-number.invariant.items c.symbol-item.is in
    let less : number < length object.symbols = subst (λ (symbols : List Symbol). number < length symbols) c.loop-number.invariant.items c.loop-number-test.true in
    record {
      items = c.loop-number.invariant.items;
      each = elim c.if-is_end.branch [
        | then-is_end+in_ok-push w ↦ rw (w.ends-is, w.in_ok-push.ensures.ok)
            (ends-more object sigs number symbol c.loop-number.ends less is (sym c.is_end.ensures ∙ w.if-is_end.true) c.loop-number.invariant.each)
        | else-is_end w ↦ rw w.ends-is
            (ends-pass object sigs number symbol c.loop-number.ends less is (sym c.is_end.ensures ∙ w.if-is_end.false) c.loop-number.invariant.each)
      ];
    }

pub returns-clause-ends : goal.returns-clause-ends
returns-clause-ends c =
    let object = c.args.object.now in
    let whole = subst (λ (symbols : List Symbol). length symbols ≤ c.loop-number.number) c.loop-number.invariant.items c.loop-number-test.false in
    c.loop-number.invariant.each ∙ ends-all object c.args.sigs.now c.loop-number.number whole

pub returns-clause-ascending : goal.returns-clause-ascending
returns-clause-ascending c =
    let object = c.args.object.now in
    let sigs = c.args.sigs.now in
    let whole = subst (λ (symbols : List Symbol). length symbols ≤ c.loop-number.number) c.loop-number.invariant.items c.loop-number-test.false in
    subst (AllPairs ◌<◌) (sym (c.loop-number.invariant.each ∙ ends-all object sigs c.loop-number.number whole)) (ends-ascending object sigs)
