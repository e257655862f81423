use Rattle.std.proofs.Common.{◌≡◌, ◌++◌, All, length, get_or, sym, ap, subst, ◌∙◌, arith}
use Rattle.std.proofs.lemmas.List.{take_all}
use Rattle.rt_body.specs.declared.action.Action.TheVariants.{Constant}
use Rattle.rt_body.specs.Registers.{HasRegisters}
use Rattle.rt_table.specs.Inside.Named.{IsItemWithin}
use Rattle.rt_table.specs.Table.{items_from, site_items}
use Rattle.rt_table.specs.Inside.Told.{context_of}
use Rattle.rt_table.proofs.Holding.{given-held}
use Rattle.rt_table.proofs.Rows.{items_from-more}
use Rattle.rt_table.proofs.Sound.{items-within}
use Rattle.rt_table.proofs.context.Context.items.Goals as goal

pub loop-site-preserved : goal.loop-site-preserved
loop-site-preserved c =
    let context = context_of c.args.self.now in
    let actions = c.actions-actions.result.now in
    let site = c.loop-site.site in
    c.in_ok-site_items.ensures ∙ ap (λ items. items ++ site_items context site (get_or actions site (Constant 0 0))) c.loop-site.invariant
    ∙ sym (items_from-more context actions site (Constant 0 0) (omega arith))

pub returns-clause-within : goal.returns-clause-within
returns-clause-within c =
    let context = context_of c.args.self.now in
    let actions = c.actions-actions.result.now in
    let whole : c.loop-site.items.items ≡ items_from context 0 context.reading.actions =
    c.loop-site.invariant ∙ ap (items_from context 0) (take_all c.loop-site.site actions c.loop-site-test.false ∙ c.actions-actions.ensures.actions)
    in
    subst (All (IsItemWithin (length context.reading.actions))) (sym whole)
    (items-within context (subst (All HasRegisters) c.actions-actions.ensures.actions c.actions-actions.ensures.registers) (given-held c.args.self.now))
