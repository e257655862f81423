use Rattle.std.proofs.Common.{◌≡◌, ◌<◌, length, sym, ap, subst, ◌∙◌, rules}
use Rattle.std.proofs.lemmas.Iterator.Adapters.{YieldsList-from_vec}
use Rattle.std.proofs.lemmas.Iterator.Consumers.{YieldsList-turn}
use Rattle.rt_scheme.specs.declared.scheme.Scheme.{Scheme}
use Rattle.rt_solve.proofs.Setting.{length-with}
use Rattle.rt_solve.proofs.run.set_schemes.Goals as goal

pub set-requires : goal.set-requires
set-requires c =
    let turn = YieldsList-turn (YieldsList-from_vec c.args.found (search rules) (search rules)) c.loop-scheme.yielded c.loop-scheme.scheme-iterator c.loop-scheme.yielded_by c.next.result c.next.new.self c.in-Some.scheme c.in-Some.is
    c.next.ensures.steps in
    let long : length c.loop-scheme.schemes ≡ length c.args.schemes.now = ap length c.loop-scheme.invariant ∙ length-with c.args.schemes.now c.loop-scheme.yielded in
    subst (λ n. c.in-Some.scheme.base < n) (sym long)
    (subst (λ (s : Scheme). s.base < length c.args.schemes.now) (sym turn.1) (c.requires (length c.loop-scheme.yielded) c.in-Some.scheme turn.0))
