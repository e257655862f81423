use Rattle.std.proofs.Common.{ℕ, List, length, refl, subst, sym}
use Rattle.rt_sat.specs.declared.increments.GrowingTable.{GrowingTable}
use Rattle.rt_sat.specs.declared.family.Family.{Family}
use Rattle.rt_sat.specs.declared.state.Edge.{Edge}
use Rattle.rt_sat.specs.Hints.{IsFamily}
use Rattle.rt_sat.specs.Inside.Links.{AreReady}
use Rattle.rt_sat.specs.Increments.{named_of, AreEdgesAmong}
use Rattle.rt_sat.proofs.Adding.{tells_lines}
use Rattle.rt_sat.proofs.Copying.{family_copied, told_copied}
use Rattle.rt_sat.proofs.ToldPushes.{all_ready_same}
use Rattle.rt_sat.proofs.increments.GrowingTable.then_with.Goals as goal

pub enter-requires-clause-family : goal.enter-requires-clause-family
enter-requires-clause-family c = (
  length c.args.self.now.frame.named,
  family_copied c.args.snapshot.now.family c.in_ok-family.family c.in_ok-family.ensures.members c.in_ok-family.ensures.grids (length c.args.self.now.frame.named) c.requires.1.family,
)

pub enter-requires-clause-ready : goal.enter-requires-clause-ready
enter-requires-clause-ready c =
    let grown : GrowingTable = c.args.self.now in
    let count : ℕ = length grown.frame.named in (
      grown.frame.named,
      grown.frame.flips.items,
      all_ready_same grown.frame.named grown.frame.flips.items count c.args.snapshot.now.family c.in_ok-family.family grown.kin.links grown.kin.ready.items c.in_ok-family.ensures.members c.requires.1.family
          (family_copied c.args.snapshot.now.family c.in_ok-family.family c.in_ok-family.ensures.members c.in_ok-family.ensures.grids count c.requires.1.family) c.requires.1.ready,
    )

pub returns-clause-family : goal.returns-clause-family
returns-clause-family c = c.in_ok-enter.ensures.family (length c.args.self.now.frame.named)
    (family_copied c.args.snapshot.now.family c.in_ok-family.family c.in_ok-family.ensures.members c.in_ok-family.ensures.grids (length c.args.self.now.frame.named) c.requires.1.family)

pub returns-clause-told : goal.returns-clause-told
returns-clause-told c = λ told tells.
    let grown : GrowingTable = c.args.self.now in
    let was : Family = c.args.snapshot.now.family in
    let copy : Family = c.in_ok-family.family in
    let now : Family = c.enter.new.family in
    let among : AreEdgesAmong c.args.lines.now (named_of grown) c.deref.result.now =
    subst (λ (edges : List Edge). AreEdgesAmong c.args.lines.now (named_of grown) edges) (sym c.deref.ensures.value) c.in_ok-edges.ensures in
    let count : ℕ = length grown.frame.named in
    let copied : IsFamily count copy = family_copied was copy c.in_ok-family.ensures.members c.in_ok-family.ensures.grids count tells.family in
    let ready : AreReady grown.frame.named grown.frame.flips.items copy grown.kin.links grown.kin.ready.items =
    all_ready_same grown.frame.named grown.frame.flips.items count was copy grown.kin.links grown.kin.ready.items c.in_ok-family.ensures.members tells.family copied tells.ready in
    record {
      those = among.those;
      among = among.among;
      tells = tells_lines told among.those (record { frame = grown.frame; family = was; kin = grown.kin }) (record { frame = grown.frame; family = now; kin = grown.kin }) c.deref.result.now tells among.named among.are
          refl (c.in_ok-enter.ensures.family count copied) refl
          (all_ready_same grown.frame.named grown.frame.flips.items count copy now grown.kin.links grown.kin.ready.items c.in_ok-enter.ensures.same copied (c.in_ok-enter.ensures.family count copied) ready)
          (λ more within linked before. c.in_ok-enter.ensures.told grown.frame.named grown.frame.flips.items more within ready linked
          (told_copied was copy c.in_ok-family.ensures.members c.in_ok-family.ensures.grids grown.frame.named grown.frame.flips.items more before));
    }
