use Rattle.std.proofs.Common.{◌≡◌, ◌<◌, ◌⊎◌, inl, inr, Result, Ok, Err, OnOk, OnErr, [], ◌∷◌, ◌++◌, length, sym, ap, subst, arith}
use Rattle.std.proofs.lemmas.List.{get_or_read}
use Rattle.rt_grid.specs.Tables.{size_of, steps_of, AreWithin}
use Rattle.rt_grid.proofs.Writing.{table_steps, within_push}
use Rattle.rt_grid.proofs.grid.Grid.push_step.Goals as goal

ok_or_err : {X E : Type 0} (r : Result X E) (P Q : Type 0) → OnOk r P → OnErr r Q → P ⊎ Q
ok_or_err (Ok x) P Q p q = inl p
ok_or_err (Err e) P Q p q = inr q

pub invariant_of-self : goal.invariant_of-self
invariant_of-self c =
    let rows = c.self.inside.rows.items in
    let steps = c.self.inside.steps.items in
    let size : length c.self.inside.rows.items ≡ size_of c.args.self.now = ap size_of c.self.view_is in
    let long : length c.self.inside.steps.items ≡ length c.self.inside.rows.items = c.self.invariant.as_long in
    let from : c.args.from < length c.self.inside.steps.items = omega (arith, c.requires.from) in
    let to : c.args.step.to < length c.self.inside.rows.items = omega (arith, c.requires.to) in
    let was : c.index_mut.result.now ≡ steps_of c.self.inside.steps.items c.args.from = get_or_read steps c.args.from c.index_mut.result.now from c.index_mut.ensures.value [] in
    let within : AreWithin (length c.self.inside.rows.items) c.index_mut.result.now = subst (AreWithin (length rows)) (sym was) (c.self.invariant.inside c.args.from) in
    table_steps rows steps c.self.inside.changed.items c.self.inside.seen.items c.self.invariant c.args.from c.push.new.self (omega arith)
    (within_push (length rows) c.index_mut.result.now c.push.new.self c.args.step within to
    (ok_or_err c.push.result (c.push.new.self ≡ c.index_mut.result.now ++ c.args.step ∷ []) (c.push.new.self ≡ c.index_mut.result.now) c.push.ensures.ok c.push.ensures.err))
