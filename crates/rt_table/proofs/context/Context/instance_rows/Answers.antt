use Rattle.std.proofs.Common.{◌≡◌, ◌++◌, ◌∙◌, [], Some, None, ap, sym}
use Rattle.std.specs.Prelude.{slice_get, slice_index_or}
use Rattle.std.proofs.lemmas.List.{append-nil}
use Rattle.std.proofs.lemmas.Option.{slice_get_past, slice_get-get_or}
use Rattle.std.proofs.lemmas.Result.{on_ok_weaker}
use Rattle.rt_table.specs.Lists.{linked_by}
use Rattle.rt_table.specs.Table.{scheme_rows}
use Rattle.rt_table.specs.Inside.Told.{context_of, known_in, program_in}
use Rattle.rt_table.proofs.Looking.{target-here, target-none}
use Rattle.rt_table.proofs.context.Context.instance_rows.Goals as goal

pub returns-in-Some : goal.returns-in-Some
returns-in-Some c =
    let given = c.args.self.now in
    let facts = given.outside.facts.now in
    let link = linked_by (program_in facts) (known_in facts) given.outside.schemes.now given.outside.members.now.keys in
    let found : slice_get (slice_index_or given.calls.now c.args.site []) c.args.call ≡ Some c.in-Some.told.now =
    ap (λ here. slice_get here c.args.call) (sym c.calls_at.ensures.calls)
    ∙ slice_get-get_or c.calls_at.result.now c.args.call c.in-Some.told.now c.in-Some.ensures.lookup.3.0 ∙ ap Some (sym c.in-Some.ensures.lookup.1)
    in
    let is = c.target.ensures.target ∙ sym (target-here link given.calls.now c.args.site c.args.call c.in-Some.told.now found) in
    on_ok_weaker c.told_rows.result (λ e. e ∙ ap (λ target. c.args.rows.now ++ scheme_rows (context_of given) c.args.site c.args.call target) is) c.told_rows.ensures

pub returns-in-None : goal.returns-in-None
returns-in-None c =
    let given = c.args.self.now in
    let facts = given.outside.facts.now in
    let link = linked_by (program_in facts) (known_in facts) given.outside.schemes.now given.outside.members.now.keys in
    let missing : slice_get (slice_index_or given.calls.now c.args.site []) c.args.call ≡ None =
    ap (λ here. slice_get here c.args.call) (sym c.calls_at.ensures.calls) ∙ slice_get_past c.calls_at.result.now c.args.call c.in-None.ensures.lookup.3
    in
    sym (append-nil c.args.rows.now)
    ∙ ap (λ target. c.args.rows.now ++ scheme_rows (context_of given) c.args.site c.args.call target) (sym (target-none link given.calls.now c.args.site c.args.call missing))
