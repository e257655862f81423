use Rattle.std.proofs.Common.{Some, subst}
use Rattle.rt_outline.specs.Frames.{IsSetAt}
use Rattle.rt_outline.proofs.Framed.{set_at}
use Rattle.rt_outline.proofs.Stepping.{hinted_more}
use Rattle.rt_outline.proofs.steps.Steps.insert.Goals as goal

pub invariant_of-self-2 : goal.invariant_of-self-2
invariant_of-self-2 c =
    hinted_more c.self.inside.hints.items c.widen.new.hints.items c.self.inside.nodes.entries c.insert.new.self.entries c.args.from c.args.to c.place-place.result c.hint.result c.args.label c.place-place.ensures c.self.invariant c.widen.ensures.same c.in_ok-widen.ensures.room c.hint.ensures
    (set_at (c.args.from, c.args.label) c.args.to c.self.inside.nodes.entries c.insert.new.self.entries c.in_ok-insert.ensures.updates.0)

pub returns : goal.returns
returns c = λ p l.
    subst (λ xs. IsSetAt (Some (c.args.from, c.args.label)) c.args.to p l xs c.insert.new.self.entries) c.self.view_is
    (set_at (c.args.from, c.args.label) c.args.to c.self.inside.nodes.entries c.insert.new.self.entries c.in_ok-insert.ensures.updates.0 p l)
