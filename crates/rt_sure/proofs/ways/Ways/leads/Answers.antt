use Rattle.std.proofs.Common.{rules, Contains, List, sym, subst, arith}
use Rattle.rt_lines.specs.declared.line.Line.{Line}
use Rattle.rt_outline.specs.Lines.{AreNumbers, Lined}
use Rattle.rt_sat.specs.Tables.{HasBelow}
use Rattle.rt_sure.proofs.Numbers.{all_stand, by_numbers, by_variables, numbers_in, numbers_within}
use Rattle.rt_sure.proofs.ways.Ways.leads.Goals as goal

pub numbers-requires : goal.numbers-requires
numbers-requires c = λ x h. subst (λ (v : Lined). Contains v.named x) (sym c.self.view_is) (c.requires.from x h)

pub numbers-requires-2 : goal.numbers-requires-2
numbers-requires-2 c = λ x h. subst (λ (v : Lined). Contains v.named x) (sym c.self.view_is) (c.requires.to x h)

pub lead-requires-clause-sources : goal.lead-requires-clause-sources
lead-requires-clause-sources c =
    let ways = c.args.self.now in
    let are : AreNumbers ways.named c.args.from.now c.deref-2.result.now =
    numbers_in c.self.inside.lines.items c.self.inside.named ways c.self.view_is c.args.from.now c.in_ok-sources.sources.items
    c.deref-2.result.now c.deref-2.ensures.value c.in_ok-sources.ensures in
    numbers_within ways.named c.args.from.now c.deref-2.result.now are

pub lead-requires-clause-targets : goal.lead-requires-clause-targets
lead-requires-clause-targets c =
    let ways = c.args.self.now in
    let are : AreNumbers ways.named c.args.to.now c.deref-3.result.now =
    numbers_in c.self.inside.lines.items c.self.inside.named ways c.self.view_is c.args.to.now c.in_ok-targets.targets.items
    c.deref-3.result.now c.deref-3.ensures.value c.in_ok-targets.ensures in
    numbers_within ways.named c.args.to.now c.deref-3.result.now are

pub returns-clause-no : goal.returns-clause-no
returns-clause-no c = λ e order below.
    let ways = c.args.self.now in
    let first : AreNumbers ways.named c.args.from.now c.deref-2.result.now =
    numbers_in c.self.inside.lines.items c.self.inside.named ways c.self.view_is c.args.from.now c.in_ok-sources.sources.items
    c.deref-2.result.now c.deref-2.ensures.value c.in_ok-sources.ensures in
    let second : AreNumbers ways.named c.args.to.now c.deref-3.result.now =
    numbers_in c.self.inside.lines.items c.self.inside.named ways c.self.view_is c.args.to.now c.in_ok-targets.targets.items
    c.deref-3.result.now c.deref-3.ensures.value c.in_ok-targets.ensures in
    c.in_ok-yes.ensures.no e order
    (subst (λ (ls : List Line). HasBelow order ls ways.named c.deref-2.result.now c.deref-3.result.now)
    (sym (all_stand c.self.inside.lines.items c.self.inside.named ways c.self.view_is c.in_ok-stands.stands.items c.deref.result.now
    c.len.result c.deref.ensures.value (c.in_ok-stands.ensures.items_if_clones_equal (search rules)) (omega (arith, c.len.ensures))))
    (by_numbers order ways.lines ways.named c.args.from.now c.args.to.now c.deref-2.result.now c.deref-3.result.now first second below))

pub returns-clause-yes : goal.returns-clause-yes
returns-clause-yes c = λ e order.
    let ways = c.args.self.now in
    let first : AreNumbers ways.named c.args.from.now c.deref-2.result.now =
    numbers_in c.self.inside.lines.items c.self.inside.named ways c.self.view_is c.args.from.now c.in_ok-sources.sources.items
    c.deref-2.result.now c.deref-2.ensures.value c.in_ok-sources.ensures in
    let second : AreNumbers ways.named c.args.to.now c.deref-3.result.now =
    numbers_in c.self.inside.lines.items c.self.inside.named ways c.self.view_is c.args.to.now c.in_ok-targets.targets.items
    c.deref-3.result.now c.deref-3.ensures.value c.in_ok-targets.ensures in
    by_variables order ways.lines ways.named c.args.from.now c.args.to.now c.deref-2.result.now c.deref-3.result.now first second
    (c.in_ok-yes.ensures.yes e order)
