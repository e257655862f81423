use Rattle.std.proofs.Common.{ℕ, ◌<◌, [], List, length, get_or, sym, subst, ap, ◌∙◌}
use Rattle.rt_sat.specs.declared.family.Family.{Family}
use Rattle.rt_sat.specs.Hints.{no_table, IsFamily, IsTurning}
use Rattle.rt_sat.proofs.Families.{turning_told}
use Rattle.rt_sat.proofs.Walking.{turning_walked}
use Rattle.rt_sat.proofs.family.Family.of.Goals as goal

pub returns-clause-told : goal.returns-clause-told
returns-clause-told c known flips lines e =
    let members : List (List ℕ) = c.in_ok-members.members.items in
    let family : Family = record { members = c.in_ok-members.members; grids = c.in_ok-grids.grids; homes = c.in_ok-homes.homes } in
    let turning : (class : ℕ) → class < length members → IsTurning (length (get_or members class [])) (get_or c.in_ok-grids.grids.items class no_table) =
    subst (λ (xs : List (List ℕ)). (class : ℕ) → class < length xs → IsTurning (length (get_or xs class [])) (get_or c.in_ok-grids.grids.items class no_table)) c.deref-2.ensures.value c.in_ok-grids.ensures.turning in
    let is : IsFamily (length c.args.nodes.now) family = record {
      each = c.in_ok-grids.ensures.each ∙ ap length c.deref-2.ensures.value;
      sizes = λ class h. (turning class h).size;
      few = c.in_ok-members.ensures.few;
      inside = c.in_ok-members.ensures.inside;
    } in
    turning_told known flips lines family (subst (λ n. IsFamily n family) (sym e) is) turning

pub returns-clause-walked : goal.returns-clause-walked
returns-clause-walked c edges =
    let family : Family = record { members = c.in_ok-members.members; grids = c.in_ok-grids.grids; homes = c.in_ok-homes.homes } in
    turning_walked edges family (subst (λ (xs : List (List ℕ)). (class : ℕ) → class < length xs →
    IsTurning (length (get_or xs class [])) (get_or c.in_ok-grids.grids.items class no_table))
    c.deref-2.ensures.value c.in_ok-grids.ensures.turning)
