use Rattle.std.proofs.Common.{◌≡◌, ◌∙◌, ap, length, map, sym, subst}
use Rattle.std.specs.Prelude.{All}
use Rattle.std.proofs.lemmas.List.{length-map, take_all}
use Rattle.rt_lines.specs.Lines.{HasConstantsBelow}
use Rattle.rt_lattice.specs.Lattices.{size_of}
use Rattle.rt_scheme.specs.Splitting.{AreInterfaceLines}
use Rattle.rt_body.specs.Told.{reading_of}
use Rattle.rt_rows.specs.Terms.{IsGroupRow}
use Rattle.rt_table.specs.Lists.{AreLinesOf, AreRowsOf, HasGlobalsOf}
use Rattle.rt_table.specs.Inside.Naming.{AreRowsGiven}
use Rattle.rt_table.specs.Inside.Told.{known_in, program_in}
use Rattle.rt_table.proofs.Collected.{AreLists, all-more, lists-constants, lists-globals, lists-length, lists-lines, lists-more}
use Rattle.rt_table.proofs.lists.lists_of.Goals as goal

pub loop-number-preserved : goal.loop-number-preserved
loop-number-preserved c =
    let facts = c.args.facts.now in
    let lists = c.loop-number.lists.items in
    let new = c.push.new.self.items in
    let rows = c.in_ok-rows_of.field-0 in
    record {
      found = lists-more (AreRowsOf (program_in facts) (known_in facts) c.args.lattice.now.roles c.args.schemes.now c.in_ok-members.members.keys) c.args.group.now lists new
          c.loop-number.number-index rows c.loop-number-test.true c.loop-number.invariant.found c.in_ok-rows_of.ensures.found c.in_ok-push.ensures.items;
      interfaces = all-more (All IsGroupRow) lists new rows c.loop-number.invariant.interfaces c.in_ok-rows_of.ensures.interfaces c.in_ok-push.ensures.items;
      given = λ given. all-more (AreRowsGiven facts.object.now (size_of c.args.lattice.now)) lists new rows (c.loop-number.invariant.given given)
          (c.in_ok-rows_of.ensures.given given) c.in_ok-push.ensures.items;
    }

pub returns-clause-found : goal.returns-clause-found
returns-clause-found c =
    let facts = c.args.facts.now in
    let group = c.args.group.now in
    let roles = c.args.lattice.now.roles in
    let schemes = c.args.schemes.now in
    let keys = c.in_ok-members.members.keys in
    let lists = c.loop-number.lists.items in
    let whole = subst (λ numbers. AreLists (AreRowsOf (program_in facts) (known_in facts) roles schemes keys) numbers lists)
    (take_all c.loop-number.number-index group c.loop-number-test.false) c.loop-number.invariant.found
    in
    subst (λ signatures. AreLinesOf facts.object.now roles facts.procs.now signatures schemes group c.from_vec.result) (sym c.requires.sigs)
    (lists-lines facts.object.now roles facts.procs.now (map reading_of facts.bodies.items) facts.sigs.now (known_in facts) schemes keys group lists c.from_vec.result
    c.requires.facts.are_known c.in_ok-members.ensures whole (c.from_vec.ensures ∙ c.in_ok-bodies.ensures.lines))

pub returns-clause-constants : goal.returns-clause-constants
returns-clause-constants c = λ given.
    let count = size_of c.args.lattice.now in
    subst (All (All (HasConstantsBelow count))) (sym c.from_vec.ensures)
    (c.in_ok-bodies.ensures.constants count (lists-constants c.args.facts.now.object.now count c.loop-number.lists.items (c.loop-number.invariant.given given)))

pub returns-clause-globals : goal.returns-clause-globals
returns-clause-globals c = λ given.
    let object = c.args.facts.now.object.now in
    let lists = c.loop-number.lists.items in
    subst (All (HasGlobalsOf object)) (sym c.from_vec.ensures)
    (lists-globals object (size_of c.args.lattice.now) lists c.in_ok-bodies.bodies.items (c.loop-number.invariant.given given)
    (ap length c.in_ok-bodies.ensures.lines ∙ length-map lists _) c.in_ok-bodies.ensures.bases)

pub returns-clause-interfaces : goal.returns-clause-interfaces
returns-clause-interfaces c = subst (All AreInterfaceLines) (sym c.from_vec.ensures) (c.in_ok-bodies.ensures.interfaces c.loop-number.invariant.interfaces)

pub returns-clause-one_each : goal.returns-clause-one_each
returns-clause-one_each c =
    let facts = c.args.facts.now in
    let group = c.args.group.now in
    let lists = c.loop-number.lists.items in
    let P = AreRowsOf (program_in facts) (known_in facts) c.args.lattice.now.roles c.args.schemes.now c.in_ok-members.members.keys in
    let whole = subst (λ numbers. AreLists P numbers lists) (take_all c.loop-number.number-index group c.loop-number-test.false) c.loop-number.invariant.found in
    ap length c.from_vec.ensures ∙ ap length c.in_ok-bodies.ensures.lines ∙ length-map lists _ ∙ lists-length P group lists whole
