use Rattle.std.proofs.Common.{◌≡◌, ◌↔◌, ◌⊎◌, Contains, subst, sym}
use Rattle.std.specs.Map.{values_of}
use Rattle.rt_lines.specs.declared.variable.Dtv.{Dtv}
use Rattle.rt_emit.specs.Inside.Queues.{AreKeyed}
use Rattle.rt_emit.proofs.Queueing.{insert_keyed, holds_after}
use Rattle.rt_emit.proofs.queue.Queue.push.Goals as goal

pub invariant_of-self-2 : goal.invariant_of-self-2
invariant_of-self-2 c =
    subst AreKeyed (sym c.in_ok-insert.ensures.entries)
    (insert_keyed c.in_ok-key.key c.args.x c.in_ok-key.ensures c.self.inside.entries.entries c.self.invariant)

pub returns-clause-holds : goal.returns-clause-holds
returns-clause-holds c =
    subst (λ old. (y : Dtv) → Contains (values_of c.insert.new.self.entries) y ↔ (Contains old y ⊎ (y ≡ c.args.x))) c.self.view_is
    (subst (λ new. (y : Dtv) → Contains (values_of new) y ↔ (Contains (values_of c.self.inside.entries.entries) y ⊎ (y ≡ c.args.x)))
    (sym c.in_ok-insert.ensures.entries)
    (holds_after c.in_ok-key.key c.args.x c.in_ok-key.ensures c.self.inside.entries.entries c.self.invariant))
