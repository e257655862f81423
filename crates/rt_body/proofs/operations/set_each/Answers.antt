use Rattle.std.proofs.Common.{◌≡◌, ℕ, take, arith, subst, ◌∙◌}
use Rattle.std.specs.Prelude.{Contains, List}
use Rattle.std.proofs.lemmas.List.{take_all}
use Rattle.rt_track.specs.Operations.{op_in}
use Rattle.rt_body.proofs.Operating.{given_more, rest_more}
use Rattle.rt_body.proofs.operations.set_each.Goals as goal

pub loop-register-preserved : goal.loop-register-preserved
loop-register-preserved c =
    let site = c.args.site in
    record {
      sites = c.in_ok-set.ensures.sites ∙ c.loop-register.invariant.sites;
      given = given_more (op_in c.loop-register.ops site) (op_in c.set.new.self site) c.args.registers.now c.loop-register.register-index _ c.args.op c.loop-register-test.true c.loop-register.invariant.given (c.in_ok-set.ensures.given) (λ r other. c.in_ok-set.ensures.others site r (λ h. other h.1));
      rest = rest_more (op_in c.loop-register.ops site) (op_in c.set.new.self site) c.args.registers.now c.loop-register.register-index _ c.loop-register-test.true (op_in c.args.ops.now site) c.loop-register.invariant.rest (λ r other. c.in_ok-set.ensures.others site r (λ h. other h.1));
      others = λ s r other. c.in_ok-set.ensures.others s r (λ h. other h.0) ∙ c.loop-register.invariant.others s r other;
    }

pub returns-clause-given : goal.returns-clause-given
returns-clause-given c =
    let all : take c.loop-register.register-index c.args.registers.now ≡ c.args.registers.now = take_all c.loop-register.register-index c.args.registers.now (omega arith) in
    subst (λ (rs : List ℕ). (r : ℕ) → Contains rs r → op_in c.loop-register.ops c.args.site r ≡ c.args.op) all c.loop-register.invariant.given

pub returns-clause-rest : goal.returns-clause-rest
returns-clause-rest c =
    let all : take c.loop-register.register-index c.args.registers.now ≡ c.args.registers.now = take_all c.loop-register.register-index c.args.registers.now (omega arith) in
    subst (λ (rs : List ℕ). (r : ℕ) → (Contains rs r → ⊥) → op_in c.loop-register.ops c.args.site r ≡ op_in c.args.ops.now c.args.site r) all c.loop-register.invariant.rest
