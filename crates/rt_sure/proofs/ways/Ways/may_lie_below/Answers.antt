use Rattle.std.proofs.Common.{◌≡◌, [], ◌∷◌, Some, refl, subst}
use Rattle.std.specs.Prelude.{slice_get}
use Rattle.rt_outline.specs.Lines.{Lined, standing}
use Rattle.rt_sure.proofs.Leading.{below_has}
use Rattle.rt_sure.proofs.ways.Ways.may_lie_below.Goals as goal

pub returns : goal.returns
returns c = λ e order d.
    let ways = c.args.self.now in
    let from = c.in-Some.from in
    let to = c.in-Some-index.to in
    let first : slice_get ways.named from ≡ Some c.args.x.now =
    subst (λ (v : Lined). slice_get v.named from ≡ Some c.args.x.now) c.self.view_is c.in-Some.ensures in
    let second : slice_get ways.named to ≡ Some c.args.y.now =
    subst (λ (v : Lined). slice_get v.named to ≡ Some c.args.y.now) c.self.view_is c.in-Some-index.ensures in
    c.in_ok-yes.ensures.no e order
    (below_has order (standing ways.lines c.args.stands.now) ways.named c.args.x.now c.args.y.now from to (from ∷ []) (to ∷ [])
    first second refl refl d)
