use Rattle.std.proofs.Common.{◌≡◌, ◌<◌, ◌^◌, All, [], sym, subst, ◌∙◌, arith}
use Rattle.rt_make.specs.Packed.{FitsSymbol, object_length}
use Rattle.rt_make.specs.Made.{made_code, made_symbols}
use Rattle.rt_make.proofs.Procedures.{made_length, made_symbols-fit}
use Rattle.rt_make.proofs.made.object.Goals as goal

pub pack-requires-clause-room : goal.pack-requires-clause-room
pack-requires-clause-room c =
    let code : c.deref.result.now ≡ made_code c.args.n = c.deref.ensures.value ∙ c.in_ok-code.ensures in
    let symbols : c.deref-2.result.now ≡ made_symbols c.args.n = c.deref-2.ensures.value ∙ c.in_ok-symbols.ensures in
    subst (λ xs. object_length xs c.deref-2.result.now [] < 2 ^ 32) (sym code) (subst (λ ys. object_length (made_code c.args.n) ys [] < 2 ^ 32) (sym symbols) (made_length c.args.n (omega arith)))

pub pack-requires-clause-symbols_fit : goal.pack-requires-clause-symbols_fit
pack-requires-clause-symbols_fit c =
    let symbols : c.deref-2.result.now ≡ made_symbols c.args.n = c.deref-2.ensures.value ∙ c.in_ok-symbols.ensures in
    subst (All FitsSymbol) (sym symbols) (made_symbols-fit c.args.n)
