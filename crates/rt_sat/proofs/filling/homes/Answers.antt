use Rattle.std.proofs.Common.{[], ◌∷◌, List, Option, length, sym, ap, subst, arith, length-append}
use Rattle.rt_sat.specs.declared.family.Family.{Family}
use Rattle.rt_sat.specs.declared.family.Home.{Home}
use Rattle.rt_sat.specs.Inside.Filling.{AreInFamily}
use Rattle.rt_sat.proofs.Homes.{homes_more}
use Rattle.rt_sat.proofs.filling.homes.Goals as goal

pub loop-variable-preserved : goal.loop-variable-preserved
loop-variable-preserved c =
    let family : Family = c.args.family.now in
    let old : List (Option Home) = c.loop-variable.homes.items in
    let mid : List (Option Home) = c.push.new.self.items in
    let first : AreInFamily family mid = subst (AreInFamily family) (sym c.in_ok-push.ensures.items)
    (homes_more family old c.home.result c.loop-variable.invariant.inside c.home.ensures) in
    record {
      long = omega (
        arith,
        ap length c.in_ok-push-2.ensures.items,
        length-append mid (c.home-in-loop-variable.result ∷ []),
        ap length c.in_ok-push.ensures.items,
        length-append old (c.home.result ∷ []),
        c.loop-variable.invariant.long,
      );
      inside = subst (AreInFamily family) (sym c.in_ok-push-2.ensures.items)
          (homes_more family mid c.home-in-loop-variable.result first c.home-in-loop-variable.ensures);
    }
