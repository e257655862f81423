use Rattle.std.proofs.Common.{◌≡◌, ◌⊎◌, List, sym, subst}
use Rattle.std.specs.Prelude.{AllPairs, Contains}
use Rattle.rt_flow.specs.declared.def.Def.{Def}
use Rattle.rt_flow.specs.Bodies.{Precedes}
use Rattle.rt_flow.proofs.Marking.{row_read}
use Rattle.rt_flow.proofs.rows.mark.Goals as goal

pub has_last-requires-clause-order : goal.has_last-requires-clause-order
has_last-requires-clause-order c =
    let row = row_read c.args.rows.now.items c.args.block c.index.result.now c.items.result.now c.requires.within c.index.ensures c.items.ensures in
    subst (λ (xs : List Def). AllPairs Precedes xs) (sym row) (c.requires.ready.order c.args.block)

pub has_last-requires-clause-upto : goal.has_last-requires-clause-upto
has_last-requires-clause-upto c =
    let row = row_read c.args.rows.now.items c.args.block c.index.result.now c.items.result.now c.requires.within c.index.ensures c.items.ensures in
    subst (λ (xs : List Def). (y : Def) → Contains xs y → (y ≡ c.args.def) ⊎ Precedes y c.args.def) (sym row) (c.requires.ready.upto c.args.block)
