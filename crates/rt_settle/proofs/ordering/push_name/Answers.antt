use Rattle.std.proofs.Common.{◌++◌, [], slice_index_or, sym, ap, ◌∙◌}
use Rattle.std.proofs.lemmas.Result.{on_ok_weaker}
use Rattle.rt_settle.specs.Sorted.{sort_names}
use Rattle.rt_settle.proofs.Naming.{added, numbered-name, standard-name}
use Rattle.rt_settle.proofs.ordering.push_name.Goals as goal

pub returns-in-Some : goal.returns-in-Some
returns-in-Some c =
    added c.extend_from_slice.result c.extend_from_slice.new.self.items c.args.out.now.items c.as_bytes.result.now (c.args.out.now.items ++ slice_index_or sort_names c.args.constant [])
    c.extend_from_slice.ensures.items (ap (λ xs. c.args.out.now.items ++ xs) (c.as_bytes.ensures.value ∙ sym (standard-name c.args.constant c.in-Some.name.now c.in-Some.ensures)))

pub returns-in-None : goal.returns-in-None
returns-in-None c =
    let name = numbered-name c.args.constant c.in-None.ensures c.ranges.constant.fits in
    on_ok_weaker c.push_padded.result (λ e. e ∙ ap (λ xs. c.args.out.now.items ++ xs) (sym name)) c.push_padded.ensures
