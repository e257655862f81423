use Rattle.std.proofs.Common.{◌≡◌, ℕ, ◌<◌, List, refl, sym, ap, subst, ◌∙◌}
use Rattle.std.proofs.lemmas.List.{get_or_default}
use Rattle.std.specs.Vec.{with_item}
use Rattle.rt_grid.specs.Tables.{Table, Holds, Made, SaysWith}
use Rattle.rt_sat.specs.declared.family.Family.{Family}
use Rattle.rt_sat.specs.declared.family.Home.{Home}
use Rattle.rt_sat.specs.declared.state.State.{State}
use Rattle.rt_sat.specs.Hints.{grid_of, members_of, no_table, state_at, IsFamily, IsHome, IsTold}
use Rattle.rt_sat.proofs.Families.{told_changed}
use Rattle.rt_sat.proofs.Telling.{told_added}
use Rattle.rt_sat.proofs.Walking.{walked_added}
use Rattle.rt_sat.proofs.family.Family.add.Goals as goal

pub returns-in_ok-add-clause-told : goal.returns-in_ok-add-clause-told
returns-in_ok-add-clause-told c known flips lines told before =
    let old : Family = c.args.self.now in
    let class : ℕ = c.in-Some.left.class in
    let members : List ℕ = members_of old class in
    let is : IsFamily c.requires.0 old = c.requires.1 in
    let from : IsHome old c.args.from c.in-Some.left = c.in-Some.ensures.home in
    let to : IsHome old c.args.to c.in-Some-home.right = c.in-Some-home.ensures.home in
    let end : state_at members c.in-Some-home.right.index ≡ c.args.to = ap (λ k. state_at (members_of old k) c.in-Some-home.right.index) c.if-left-right.true ∙ to.is in
    let grid : c.index_mut.result.now ≡ grid_of old class = c.index_mut.ensures.value ∙ get_or_default old.grids.items class c.index_mut.result.now no_table (subst (λ n. class < n) (sym is.each) from.class) in
    let step : IsTold known flips lines (state_at members c.in-Some.left.index) (state_at members c.in-Some-home.right.index) c.args.count =
    subst (λ (s : State). IsTold known flips lines s (state_at members c.in-Some-home.right.index) c.args.count) (sym from.is) (subst (λ (s : State). IsTold known flips lines c.args.from s c.args.count) (sym end) told) in
    let made : Holds (Made (SaysWith (grid_of old class) c.in-Some.left.index c.in-Some-home.right.index c.args.count)) c.add.new.self =
    subst (λ (t : Table). Holds (Made (SaysWith t c.in-Some.left.index c.in-Some-home.right.index c.args.count)) c.add.new.self) grid c.in_ok-add.ensures.holds in
    told_changed old (record { members = old.members; grids = with_item old.grids class c.add.new.self; homes = old.homes }) class c.add.new.self from.class refl refl known flips lines is.each
    (told_added known flips lines members (grid_of old class) c.add.new.self c.in-Some.left.index c.in-Some-home.right.index c.args.count step (before class from.class) made) before

pub returns-in_ok-add-clause-walked : goal.returns-in_ok-add-clause-walked
returns-in_ok-add-clause-walked c edges walk before =
    let old : Family = c.args.self.now in
    let left : Home = c.in-Some.left in
    let right : Home = c.in-Some-home.right in
    let is : IsFamily c.requires.0 old = c.requires.1 in
    let from : IsHome old c.args.from left = c.in-Some.ensures.home in
    let to : IsHome old c.args.to right = c.in-Some-home.ensures.home in
    let end : state_at (members_of old left.class) right.index ≡ c.args.to =
    ap (λ k. state_at (members_of old k) right.index) c.if-left-right.true ∙ to.is in
    let new : Family = record { members = old.members; grids = with_item old.grids left.class c.add.new.self; homes = old.homes } in
    walked_added edges old new left.class c.index_mut.result.now c.add.new.self from.class is.each c.index_mut.ensures.value refl refl
    left.index right.index c.args.count c.args.from c.args.to from.is end walk c.in_ok-add.ensures.holds before
