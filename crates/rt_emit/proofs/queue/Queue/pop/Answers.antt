use Rattle.std.proofs.Common.{subst}
use Rattle.std.proofs.lemmas.List.Elements.{All-contains}
use Rattle.std.specs.Map.{keys_of, values_of}
use Rattle.std.specs.BTreeMap.Range.{IsLtBy}
use Rattle.rt_emit.specs.Inside.Queues.{AreKeyed, IsPopped}
use Rattle.rt_emit.proofs.Queueing.{key_cmp, popped, tail_keyed}
use Rattle.rt_emit.proofs.queue.Queue.pop.Goals as goal

pub invariant_of-self-2 : goal.invariant_of-self-2
invariant_of-self-2 c =
    tail_keyed (c.in_ok-x.field-0-0, c.in_ok-x.x) c.pop_first.new.self.entries (subst AreKeyed c.in_ok-x.ensures.removal c.self.invariant)

pub returns : goal.returns
returns c =
    subst (λ old. IsPopped old (values_of c.pop_first.new.self.entries) c.in_ok-x.x) c.self.view_is
    (popped (c.in_ok-x.field-0-0, c.in_ok-x.x) c.self.inside.entries.entries c.pop_first.new.self.entries c.in_ok-x.ensures.removal
    c.self.invariant
    (λ q d. All-contains (IsLtBy key_cmp c.in_ok-x.field-0-0) (keys_of c.pop_first.new.self.entries) q c.in_ok-x.ensures.all_above d))
