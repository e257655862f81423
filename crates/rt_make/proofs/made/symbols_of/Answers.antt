use Rattle.std.proofs.Common.{◌≡◌, ◌++◌, List, [], ◌∷◌, ap, sym, ◌∙◌}
use Rattle.rt_elf.specs.declared.symbol.Symbol.{Symbol}
use Rattle.rt_elf.proofs.Lists.{entries-more}
use Rattle.rt_make.specs.Made.{made_symbol, made_symbols}
use Rattle.rt_make.proofs.made.symbols_of.Goals as goal

pub loop-procedure-preserved : goal.loop-procedure-preserved
loop-procedure-preserved c =
    let i = c.loop-procedure.procedure in
    c.in_ok-push.ensures.items ∙ (ap (λ (symbols : List Symbol). symbols ++ c.in_ok-symbol_of.field-0 ∷ []) c.loop-procedure.invariant ∙ (ap (λ (symbol : Symbol). made_symbols i ++ symbol ∷ []) c.in_ok-symbol_of.ensures ∙ sym (entries-more made_symbol i)))
