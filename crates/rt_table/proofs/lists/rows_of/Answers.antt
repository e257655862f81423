use Rattle.std.proofs.Common.{◌≡◌, All, refl}
use Rattle.std.proofs.lemmas.Result.{IfOk-weaker}
use Rattle.rt_lattice.specs.Lattices.{size_of}
use Rattle.rt_table.specs.Table.{AreProcedureRows}
use Rattle.rt_table.specs.Inside.Told.{context_of, known_in, program_in}
use Rattle.rt_table.proofs.Known.{rows-given, rows-group}
use Rattle.rt_table.proofs.lists.rows_of.Goals as goal

pub returns-clause-found : goal.returns-clause-found
returns-clause-found c =
    let context = context_of c.context_at-context.result in
    IfOk-weaker c.procedure_rows.result (AreProcedureRows context) _
    (λ rows are. record { context = context; is_context = c.context_at-context.ensures.is; are_rows = are }) c.procedure_rows.ensures.rows

pub returns-clause-interfaces : goal.returns-clause-interfaces
returns-clause-interfaces c =
    let given = c.context_at-context.result in
    let outside = c.args.outside in
    let facts = outside.facts.now in
    IfOk-weaker c.procedure_rows.result (AreProcedureRows (context_of given)) _
    (λ rows are. rows-group (program_in facts) (known_in facts) outside.schemes.now outside.members.now.keys (context_of given) given.calls.now c.context_at-context.ensures.linked
    given.registers c.procedure_rows.ensures.registers rows are)
    c.procedure_rows.ensures.rows

pub returns-clause-given : goal.returns-clause-given
returns-clause-given c = λ schemes.
    let given = c.context_at-context.result in
    let outside = c.args.outside in
    let facts = outside.facts.now in
    IfOk-weaker c.procedure_rows.result (AreProcedureRows (context_of given)) _
    (λ rows are. rows-given (program_in facts) (known_in facts) outside.schemes.now outside.members.now.keys (context_of given) given.calls.now c.context_at-context.ensures.linked
    given.registers c.procedure_rows.ensures.registers rows are c.args.lattice.now.roles c.args.number c.context_at-context.ensures.is c.requires.facts.are_known
    (size_of c.args.lattice.now) c.requires.facts.linkable c.symbols.ensures c.names-names.ensures.lattice.roles c.requires.signatures schemes)
    c.procedure_rows.ensures.rows
