use Rattle.std.proofs.Common.{sym, subst}
use Rattle.std.specs.Prelude.{All}
use Rattle.std.proofs.lemmas.Result.{IfOk-weaker}
use Rattle.rt_lines.specs.Lines.{HasConstantsBelow}
use Rattle.rt_lattice.specs.Lattices.{size_of}
use Rattle.rt_scheme.specs.Splitting.{AreInterfaceLines}
use Rattle.rt_table.specs.Bodies.{lists_in}
use Rattle.rt_table.specs.Lists.{AreLinesOf, HasGlobalsOf}
use Rattle.rt_table.proofs.lists.lines_of.Goals as goal

pub returns-clause-found : goal.returns-clause-found
returns-clause-found c =
    let facts = c.args.facts.now in
    let P = AreLinesOf facts.object.now c.args.lattice.now.roles facts.procs.now c.args.sigs.now c.args.schemes.now c.args.group.now in
    IfOk-weaker c.numbered.result _ (λ bodies. P (lists_in bodies)) (λ bodies same. subst P (sym same) c.in_ok-lists.ensures.found)
    c.numbered.ensures.lists

pub returns-clause-constants : goal.returns-clause-constants
returns-clause-constants c = λ given.
    let P = All (All (HasConstantsBelow (size_of c.args.lattice.now))) in
    IfOk-weaker c.numbered.result _ (λ bodies. P (lists_in bodies))
    (λ bodies same. subst P (sym same) (c.in_ok-lists.ensures.constants given)) c.numbered.ensures.lists

pub returns-clause-globals : goal.returns-clause-globals
returns-clause-globals c = λ given.
    let P = All (HasGlobalsOf c.args.facts.now.object.now) in
    IfOk-weaker c.numbered.result _ (λ bodies. P (lists_in bodies))
    (λ bodies same. subst P (sym same) (c.in_ok-lists.ensures.globals given)) c.numbered.ensures.lists

pub returns-clause-interfaces : goal.returns-clause-interfaces
returns-clause-interfaces c =
    let P = All AreInterfaceLines in
    IfOk-weaker c.numbered.result _ (λ bodies. P (lists_in bodies)) (λ bodies same. subst P (sym same) c.in_ok-lists.ensures.interfaces)
    c.numbered.ensures.lists
