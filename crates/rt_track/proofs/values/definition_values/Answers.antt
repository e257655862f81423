use Rattle.std.proofs.Common.{Some, cond, List, ℕ, ap, ◌∙◌, refl, arith}
use Rattle.std.specs.HashMap.{get}
use Rattle.std.specs.Map.{lookup}
use Rattle.rt_track.specs.declared.value.Value.{Value}
use Rattle.rt_track.specs.declared.nodes.Input.TheVariants.{Node}
use Rattle.rt_track.specs.Inside.Nodes.{value_in}
use Rattle.rt_track.specs.Operations.{number_in}
use Rattle.rt_track.specs.Placed.{place_eq}
use Rattle.rt_track.proofs.Entering.{defined_none, defined_more, defined_all}
use Rattle.rt_track.proofs.values.definition_values.Goals as goal

pub loop-number-init : goal.loop-number-init
loop-number-init c = λ s r.
    ap (λ (es : List ((ℕ × ℕ) × Value)). lookup (place_eq (s, r)) es) c.in_ok-values.ensures.empty
    ∙ defined_none (λ n. value_in c.args.states.now (Node n)) (number_in c.args.ops.now s r)

pub loop-number-preserved : goal.loop-number-preserved
loop-number-preserved c =
    defined_more c.args.ops.now (λ n. value_in c.args.states.now (Node n)) c.loop-number.number (get place_eq c.loop-number.values) (get place_eq c.insert.new.self) c.loop-number.invariant c.given.result.0 c.given.ensures.number
    (λ q. c.in_ok-insert.ensures.updates.0 q ∙ ap (λ v. cond (place_eq c.given.result.0 q) (Some v) (get place_eq c.loop-number.values q)) c.input_value.ensures)

pub returns : goal.returns
returns c = λ s r.
    c.loop-number.invariant s r ∙ defined_all c.args.ops.now (λ n. value_in c.args.states.now (Node n)) c.loop-number.number s r (omega (arith, c.count-number-end.ensures.value)) (number_in c.args.ops.now s r) refl
