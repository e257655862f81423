use Rattle.std.proofs.Common.{[], IfSome, List, Contains, sym, subst}
use Rattle.std.proofs.lemmas.List.Elements.{All-contains}
use Rattle.rt_base.proofs.Lists.{All-from_contains}
use Rattle.rt_lines.specs.declared.line.Line.{Line}
use Rattle.rt_lines.specs.Lines.{HasConstantsBelow}
use Rattle.rt_reduction.specs.Drops.{Drops}
use Rattle.rt_outline.specs.Lines.{HaveSameFlow}
use Rattle.rt_reduce.specs.Inside.Deciding.{IsTableAbout}
use Rattle.rt_reduce.proofs.Rejoined.{rejoined}
use Rattle.rt_reduce.proofs.Shaped.{same_flow}
use Rattle.rt_reduce.proofs.Tabled.{about_left, some_more}
use Rattle.rt_reduce.proofs.dropping.drop_known.Goals as goal

pub drop_flow-requires-clause-constants : goal.drop_flow-requires-clause-constants
drop_flow-requires-clause-constants c =
    let few = HasConstantsBelow c.args.order.now.count in
    All-from_contains few c.deref-2.result.now (λ l h.
    All-contains few c.args.lines.now l c.requires.constants
    (c.in_ok-shaped.ensures.stood l (subst (λ (ls : List Line). Contains ls l) c.deref-2.ensures.value h)))

pub drop_flow-requires-clause-table : goal.drop_flow-requires-clause-table
drop_flow-requires-clause-table c =
    let shaped : List Line = c.in_ok-shaped.shaped.items in
    subst (λ (ls : List Line). IfSome c.args.table.now (IsTableAbout ls)) (sym c.deref-2.ensures.value)
    (some_more c.args.table.now (IsTableAbout c.args.lines.now) (IsTableAbout shaped)
    (λ g is. about_left c.args.order.now c.args.lines.now shaped c.shape_place-first.result g c.in_ok-shaped.ensures.left
    c.in_ok-shaped.ensures.stood is) c.requires.table)

pub outer_for-requires-clause-same : goal.outer_for-requires-clause-same
outer_for-requires-clause-same c =
    subst (λ (ls : List Line). HaveSameFlow c.args.lines.now ls) (sym c.deref.ensures.value)
    (same_flow c.args.order.now c.args.lines.now c.in_ok-shaped.shaped.items c.shape_place-first.result c.in_ok-shaped.ensures.left
    c.shape_place-first.ensures.shape c.in_ok-shaped.ensures.stood)

pub returns-clause-drops : goal.returns-clause-drops
returns-clause-drops c =
    let order = c.args.order.now in
    let lines = c.args.lines.now in
    let left = c.in_ok-left.left.items in
    subst (Drops order [] lines) (sym c.from_vec.ensures)
    (rejoined order lines c.in_ok-shaped.shaped.items left c.shape_place-first.result c.in_ok-shaped.ensures.left
    (subst (λ (ls : List Line). Drops order [] ls left) c.deref-2.ensures.value c.in_ok-left.ensures.drops))

pub returns-clause-stood : goal.returns-clause-stood
returns-clause-stood c = λ l h.
    let there : Contains c.deref-2.result.now l =
    c.in_ok-left.ensures.stood l (subst (λ (ls : List Line). Contains ls l) c.from_vec.ensures h) in
    c.in_ok-shaped.ensures.stood l (subst (λ (ls : List Line). Contains ls l) c.deref-2.ensures.value there)
