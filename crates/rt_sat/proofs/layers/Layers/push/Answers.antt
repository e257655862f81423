use Rattle.std.proofs.Common.{◌≡◌, ◌-◌, length, refl, subst, arith}
use Rattle.std.proofs.lemmas.Grind.{common_steps}
use Rattle.rt_sat.specs.declared.layers.Layers.{Layers}
use Rattle.rt_sat.specs.Searches.{IsEntered}
use Rattle.rt_sat.proofs.Indices.{layers_push}
use Rattle.rt_sat.proofs.layers.Layers.push.Goals as goal

pub returns-clause-indexed : goal.returns-clause-indexed
returns-clause-indexed c =
    let new : Layers = record { edges = c.push.new.self; lines = c.args.self.now.lines; out = c.enter.new.out; out_pushed = c.enter-2.new.out } in
    let long : c.len-index.result ≡ length c.args.self.now.edges.items = grind (arith, common_steps) in
    layers_push c.args.self.now new c.args.edge c.requires c.in_ok-push.ensures.items refl
    (subst (λ k. IsEntered k (length c.args.self.now.edges.items) c.args.self.now.out.items c.enter.new.out.items) c.key-key.ensures
    (subst (λ n. IsEntered c.key-key.result n c.args.self.now.out.items c.enter.new.out.items) long c.in_ok-enter.ensures))
    (subst (λ k. IsEntered k (length c.args.self.now.edges.items - c.args.self.now.lines) c.args.self.now.out_pushed.items c.enter-2.new.out.items) c.key-key.ensures
    (subst (λ n. IsEntered c.key-key.result (n - c.args.self.now.lines) c.args.self.now.out_pushed.items c.enter-2.new.out.items) long c.in_ok-enter-2.ensures))
