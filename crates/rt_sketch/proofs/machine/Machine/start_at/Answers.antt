use Rattle.std.proofs.Common.{◌≡◌, ◌∙◌, ap, sym, subst, Contains, Some}
use Rattle.std.specs.Prelude.{MatchOption, slice_get}
use Rattle.rt_lines.specs.declared.variable.Dtv.{Dtv}
use Rattle.rt_shape.specs.Graphs.{node_of}
use Rattle.rt_sketch.proofs.Denoting.{no_start, started}
use Rattle.rt_sketch.proofs.machine.Machine.start_at.Goals as goal

pub state_for-requires : goal.state_for-requires
state_for-requires c = c.number.ensures.sized

pub returns-in_ok-state-in-Some : goal.returns-in_ok-state-in-Some
returns-in_ok-state-in-Some c = λ lines b is e.
    started lines c.args.self.now is b c.in-Some.node (ap (node_of c.args.self.now.shape) (sym e) ∙ sym c.node.ensures ∙ c.in-Some.is) c.number.result c.in_ok-state-in-Some.state
    (subst (λ (x : Dtv). MatchOption c.number.result (Contains c.args.self.now.ways.named x → ⊥) (λ n. slice_get c.args.self.now.ways.named n ≡ Some x)) e c.number.ensures.number) c.in_ok-state-in-Some.ensures

pub returns-in-None : goal.returns-in-None
returns-in-None c = λ lines b is e. no_start lines c.args.self.now b is (ap (node_of c.args.self.now.shape) (sym e) ∙ sym c.node.ensures ∙ c.in-None.is)
