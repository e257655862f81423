use Rattle.std.proofs.Common.{◌≡◌, ◌<◌, Some, length, sym, subst, arith}
use Rattle.std.specs.Prelude.{slice_get}
use Rattle.indexmap.specs.IndexSet.{insert_key}
use Rattle.rt_lines.specs.Equality.{variable_eq}
use Rattle.rt_named.specs.Origins.{made, variables, IsBelow}
use Rattle.rt_named.proofs.Making.{inserted_made, inserted_view, inserted_at}
use Rattle.rt_named.proofs.named.Named.enter_origin.Goals as goal

pub invariant_of-self-2 : goal.invariant_of-self-2
invariant_of-self-2 c =
    let keys = c.self.inside.origins.keys in
    let below : IsBelow c.args.origin (length (variables keys)) = subst (λ vs. IsBelow c.args.origin (length vs)) (sym c.self.view_is) c.requires in
    let room : length keys < 4294967295 = grind arith in
    rw c.in_ok-number.ensures.keys (inserted_made keys c.self.invariant c.args.origin below room)

pub returns-clause-entered : goal.returns-clause-entered
returns-clause-entered c =
    let keys = c.self.inside.origins.keys in
    let below : IsBelow c.args.origin (length (variables keys)) = subst (λ vs. IsBelow c.args.origin (length vs)) (sym c.self.view_is) c.requires in
    let room : length keys < 4294967295 = grind arith in
    subst (λ vs. variables c.insert_full.new.self.keys ≡ insert_key variable_eq vs (made vs c.args.origin)) c.self.view_is
    (rw c.in_ok-number.ensures.keys (inserted_view keys c.self.invariant c.args.origin below room))

pub returns-clause-number : goal.returns-clause-number
returns-clause-number c =
    let keys = c.self.inside.origins.keys in
    let below : IsBelow c.args.origin (length (variables keys)) = subst (λ vs. IsBelow c.args.origin (length vs)) (sym c.self.view_is) c.requires in
    let room : length keys < 4294967295 = grind arith in
    let stored = c.in_ok-number.ensures.stored in
    subst (λ vs. slice_get (variables c.insert_full.new.self.keys) c.in_ok-number.number ≡ Some (made vs c.args.origin)) c.self.view_is
    (rw c.in_ok-number.ensures.keys (inserted_at keys c.self.invariant c.args.origin below room c.in_ok-number.number stored.0 (rw c.in_ok-number.ensures.keys at stored.1) stored.2))
