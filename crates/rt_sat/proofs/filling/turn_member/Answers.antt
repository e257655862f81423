use Rattle.std.proofs.Common.{◌*◌, ◌+◌, ◌<◌, None, arith, length, subst, sym, ◌∙◌}
use Rattle.std.proofs.lemmas.Result.{on_ok_weaker}
use Rattle.rt_grid.specs.Tables.{size_of}
use Rattle.rt_sat.specs.declared.family.Family.{Family}
use Rattle.rt_sat.specs.Hints.{grid_of, IsFamily}
use Rattle.rt_sat.specs.Inside.Filling.{AreTurnedIn, IsInFamily}
use Rattle.rt_sat.proofs.Turning.{home_kept, home_read, turned_kept}
use Rattle.rt_sat.proofs.filling.turn_member.Goals as goal

pub turn_row-requires-clause-outer : goal.turn_row-requires-clause-outer
turn_row-requires-clause-outer c =
    subst (λ class. AreTurnedIn (size_of (grid_of c.args.family.now class)) c.args.outer.now) (sym c.if-forth-class.false) c.requires.outer

pub turn_row-requires-2-clause-family : goal.turn_row-requires-2-clause-family
turn_row-requires-2-clause-family c = (c.requires.family.0, c.in_ok-turn_row.ensures.family c.requires.family.0 c.requires.family.1)

pub turn_row-requires-2-clause-home : goal.turn_row-requires-2-clause-home
turn_row-requires-2-clause-home c =
    let old : Family = c.args.family.now in
    let new : Family = c.turn_row.new.family in
    let is : IsFamily c.requires.family.0 new = c.in_ok-turn_row.ensures.family c.requires.family.0 c.requires.family.1 in
    let less : 2 * c.args.index + 1 < length c.args.homes.now = c.requires.index in
    home_kept c.requires.family.0 old new c.in_ok-turn_row.ensures.same c.requires.family.1 is c.in-Some-homes.back
    (home_read old c.args.homes.now (2 * c.args.index + 1) c.in-Some-homes.back None less c.in-Some-homes.is c.requires.homes)

pub turn_row-requires-2-clause-turned : goal.turn_row-requires-2-clause-turned
turn_row-requires-2-clause-turned c =
    let old : Family = c.args.family.now in
    let new : Family = c.turn_row.new.family in
    let is : IsFamily c.requires.family.0 new = c.in_ok-turn_row.ensures.family c.requires.family.0 c.requires.family.1 in
    let less : 2 * c.args.index < length c.args.homes.now = omega (arith, c.requires.index) in
    let there : IsInFamily old c.in-Some.forth = home_read old c.args.homes.now (2 * c.args.index) c.in-Some.forth None less c.in-Some.is c.requires.homes in
    subst (λ class. c.in-Some.forth.index < size_of (grid_of new class)) (c.if-forth-class.false ∙ sym c.if-back-class.false)
    (home_kept c.requires.family.0 old new c.in_ok-turn_row.ensures.same c.requires.family.1 is c.in-Some.forth there).place

pub turn_row-requires-2-clause-outer : goal.turn_row-requires-2-clause-outer
turn_row-requires-2-clause-outer c =
    let old : Family = c.args.family.now in
    let new : Family = c.turn_row.new.family in
    let is : IsFamily c.requires.family.0 new = c.in_ok-turn_row.ensures.family c.requires.family.0 c.requires.family.1 in
    subst (λ class. AreTurnedIn (size_of (grid_of new class)) c.args.outer.now) (sym c.if-back-class.false)
    (turned_kept c.requires.family.0 old new c.in_ok-turn_row.ensures.same c.requires.family.1 is c.args.class c.args.outer.now c.requires.class c.requires.outer)

pub returns-clause-family : goal.returns-clause-family
returns-clause-family c =
    on_ok_weaker c.turn_row-2.result (λ f count before. f count (c.in_ok-turn_row.ensures.family count before)) c.turn_row-2.ensures.family
