use Rattle.std.proofs.Common.{◌+◌}
use Rattle.std.specs.BTreeSet.{contains}
use Rattle.std.specs.Ordering.{nat_cmp}
use Rattle.rt_polar.specs.Index.{has}
use Rattle.rt_polar.proofs.Moving.{AreMoved, AreMoved-none, moved_end, moved_step, none_after}
use Rattle.rt_polar.proofs.putting_away.move_lines.Goals as goal

pub returns-in_ok-move_line-in-None-clause-moved : goal.returns-in_ok-move_line-in-None-clause-moved
returns-in_ok-move_line-in-None-clause-moved c =
    let now = c.args.places.now in
    let next = c.move_line.new.places in
    let old = contains nat_cmp c.args.pending.now in
    let new = contains nat_cmp c.move_line.new.pending in
    let e = c.in_ok-move_line-in-None.ensures in
    let s = c.requires.places.named.source c.args.v c.args.first c.requires.names in
    let step : AreMoved c.args.v c.args.side (c.args.first + 1) now.slots.items next.slots.items (has next.naming) old new =
    moved_step c.args.v c.args.side now.slots.items now.slots.items next.slots.items 0 c.args.first s.0 (has now.naming) (has next.naming) old old new
    c.requires.other_base c.requires.own (AreMoved-none c.args.v c.args.side now.slots.items (has now.naming) old) c.requires.places.named e.places.named (λ i le h. c.requires.first i h) s.1 (e.moved s.0 s.1) e.kept (λ n names. e.added n s.0 s.1 names) in
    moved_end c.args.v c.args.side (c.args.first + 1) now.slots.items next.slots.items (has next.at) (has next.naming) old new step e.places.found e.places.named e.places.plain
    (none_after c.args.v c.args.side now.slots.items now.slots.items next.slots.items 0 c.args.first s.0 (has now.naming) (has next.naming) old old new
    c.requires.other_base c.requires.own (AreMoved-none c.args.v c.args.side now.slots.items (has now.naming) old) c.requires.places.named e.places.named (λ i le h. c.requires.first i h) s.1 (e.moved s.0 s.1) e.kept (λ n names. e.added n s.0 s.1 names) c.in-None.ensures)

pub returns-in_ok-move_line-in-None-clause-agree : goal.returns-in_ok-move_line-in-None-clause-agree
returns-in_ok-move_line-in-None-clause-agree c =
    let now = c.args.places.now in
    let next = c.move_line.new.places in
    let old = contains nat_cmp c.args.pending.now in
    let new = contains nat_cmp c.move_line.new.pending in
    let e = c.in_ok-move_line-in-None.ensures in
    let s = c.requires.places.named.source c.args.v c.args.first c.requires.names in
    let step : AreMoved c.args.v c.args.side (c.args.first + 1) now.slots.items next.slots.items (has next.naming) old new =
    moved_step c.args.v c.args.side now.slots.items now.slots.items next.slots.items 0 c.args.first s.0 (has now.naming) (has next.naming) old old new
    c.requires.other_base c.requires.own (AreMoved-none c.args.v c.args.side now.slots.items (has now.naming) old) c.requires.places.named e.places.named (λ i le h. c.requires.first i h) s.1 (e.moved s.0 s.1) e.kept (λ n names. e.added n s.0 s.1 names) in
    step.agree
