use Rattle.std.proofs.Common.{◌≡◌, ◌<◌, length, rules, sym, subst}
use Rattle.std.specs.Prelude.{ℕ}
use Rattle.rt_flow.specs.Reaching.{sites_of, IsReachOf}
use Rattle.rt_body.specs.Readings.{flow_body}
use Rattle.rt_body.proofs.flow.reach_of.Goals as goal

pub returns-clause-told : goal.returns-clause-told
returns-clause-told c =
    let body = flow_body c.args.actions.now c.args.entry c.args.edges.now in
    let of : IsReachOf body c.in_ok-reach.reach = search rules in
    let each : sites_of c.in_ok-reach.reach ≡ length c.args.actions.now = of.sites in
    λ site register less. c.sites-sites.ensures.reaching body of site _ (subst (λ (n : ℕ). site < n) (sym each) less)
