use Rattle.std.proofs.Common.{◌≡◌, ◌++◌, ◌∙◌}
use Rattle.std.proofs.lemmas.Result.{IfOk-weaker}
use Rattle.rt_proc.specs.Entries.{IsCalledFrom}
use Rattle.rt_proc.proofs.Called.{either}
use Rattle.rt_proc.proofs.entries.entries.Goals as goal

pub returns-clause-same : goal.returns-clause-same
returns-clause-same c =
    let functions = c.args.functions.now in
    let called = c.in_ok-called_from_any.field-0.items in
    let all : c.deref-2.result.now ≡ functions ++ called =
    c.deref-2.ensures.value ∙ c.in_ok-extend_from_slice.ensures.items
    ∙ (λ i. c.in_ok-entries.ensures.items_if_clones_equal (λ x y e. e) i ++ c.deref.ensures.value i) in
    IfOk-weaker c.in_order.result _ _
    (λ entries same. either c.args.code.now.source.object.now c.args.code.now.source.ends.now c.deref-2.result.now functions called entries.items (IsCalledFrom c.args.code.now.source.object.now c.args.code.now.source.ends.now c.args.reached.now) all c.in_ok-called_from_any.ensures same)
    c.in_order.ensures.same
