use Rattle.std.proofs.Common.{◌≡◌, ◌<◌, ◌*◌, ℕ, List, [], Contains, ap, arith, get_or, length, subst, sym, ◌∙◌}
use Rattle.std.proofs.lemmas.List.{get_or_read}
use Rattle.std.proofs.lemmas.List.Elements.{Contains-get_or}
use Rattle.rt_grid.specs.Tables.{size_of}
use Rattle.rt_sat.specs.declared.family.Family.{Family}
use Rattle.rt_sat.specs.declared.gathering.End.{End}
use Rattle.rt_sat.specs.Hints.{grid_of, members_of, no_table, IsEnd, IsFamily, IsToldFamily}
use Rattle.rt_sat.specs.Inside.Links.{AreEndsFrom, AreTied}
use Rattle.rt_sat.proofs.ToldPushes.{ends_same, no_end}
use Rattle.rt_sat.proofs.gathering.push_ends.Goals as goal
use Rattle.rt_sat.proofs.gathering.push_ends.Goals.{then-has_changed+in_ok-push_within, else-has_changed}

pub index-requires : goal.index-requires
index-requires c =
    let now = c.loop-source.family in
    let is : IsFamily c.requires.family.0 now = c.loop-source.invariant.family c.requires.family.0 c.requires.family.1 in
    omega (arith, is.each, ap length c.loop-source.invariant.same, c.requires.class)

pub has_changed-requires : goal.has_changed-requires
has_changed-requires c =
    let known = c.requires.ends.0 in
    let flips = c.requires.ends.1 in
    let class = c.args.class in
    let old = c.args.family.now in
    let now = c.loop-source.family in
    let is : IsFamily c.requires.family.0 now = c.loop-source.invariant.family c.requires.family.0 c.requires.family.1 in
    let end : End = get_or c.args.sources.now c.loop-source.source-index no_end in
    let at : IsEnd known flips (members_of old class) old end = c.requires.ends.2.0 end (Contains-get_or c.args.sources.now c.loop-source.source-index no_end c.loop-source-test.true) in
    let few : class < length now.members.items = subst (λ (xs : List (List ℕ)). class < length xs) (sym c.loop-source.invariant.same) c.requires.class in
    let less : class < length now.grids.items = subst (λ n. class < n) (sym is.each) few in
    let same : c.index.result.now ≡ grid_of now class = get_or_read now.grids.items class c.index.result.now less c.index.ensures no_table in
    let size : size_of c.index.result.now ≡ 2 * length (members_of old class) =
    ap size_of same ∙ is.sizes class few ∙ ap (λ (xs : List (List ℕ)). 2 * length (get_or xs class [])) c.loop-source.invariant.same in
    subst (λ n. end.place < n) (sym size) at.inside

pub push_within-requires-clause-family : goal.push_within-requires-clause-family
push_within-requires-clause-family c = (c.requires.family.0, c.loop-source.invariant.family c.requires.family.0 c.requires.family.1)

pub push_within-requires-clause-ends : goal.push_within-requires-clause-ends
push_within-requires-clause-ends c =
    let known = c.requires.ends.0 in
    let flips = c.requires.ends.1 in
    let class = c.args.class in
    let old = c.args.family.now in
    let now = c.loop-source.family in
    let count = c.requires.family.0 in
    let before = c.requires.family.1 in
    let after = c.loop-source.invariant.family count before in
    let members = members_of old class in
    let same = c.loop-source.invariant.same in
    let end : End = get_or c.args.sources.now c.loop-source.source-index no_end in
    let at = ends_same known flips members count old now c.args.sources.now same before after c.requires.ends.2.0 end (Contains-get_or c.args.sources.now c.loop-source.source-index no_end c.loop-source-test.true) in
    let others = ends_same known flips members count old now c.args.targets.now same before after c.requires.ends.2.1 in
    (known, flips, subst (λ (xs : List (List ℕ)). AreEndsFrom known flips (get_or xs class []) now end c.args.targets.now) (sym same) (at, others))

pub loop-source-preserved : goal.loop-source-preserved
loop-source-preserved c =
    let class = c.args.class in
    let old = c.args.family.now in
    let sources = c.args.sources.now in
    let targets = c.args.targets.now in
    elim c.if-has_changed.branch [
      | then-has_changed+in_ok-push_within w ↦ record {
        same = ap (λ (f : Family). f.members.items) w.family-is ∙ w.in_ok-push_within.ensures.same ∙ c.loop-source.invariant.same;
        family = λ count before. subst (IsFamily count) (sym w.family-is) (w.in_ok-push_within.ensures.family count (c.loop-source.invariant.family count before));
        told = λ known flips lines are before behind told.
            let now = c.loop-source.family in
            let count = c.requires.family.0 in
            let is = c.requires.family.1 in
            let after = c.loop-source.invariant.family count is in
            let members = members_of old class in
            let same = c.loop-source.invariant.same in
            let end : End = get_or sources c.loop-source.source-index no_end in
            let at : Contains sources end = Contains-get_or sources c.loop-source.source-index no_end c.loop-source-test.true in
            let from : AreEndsFrom known flips (members_of now class) now end targets = subst (λ (xs : List (List ℕ)). AreEndsFrom known flips (get_or xs class []) now end targets) (sym same)
            (ends_same known flips members count old now sources same is after are.0 end at, ends_same known flips members count old now targets same is after are.1) in
            let tied : AreTied known flips lines end targets = (before end at, behind) in
            subst (IsToldFamily known flips lines) (sym w.family-is) (w.in_ok-push_within.ensures.told known flips lines from tied (c.loop-source.invariant.told known flips lines are before behind told));
        next = ap (λ next. length next.items) w.next-is ∙ w.in_ok-push_within.ensures.next ∙ c.loop-source.invariant.next;
      }
      | else-has_changed w ↦ record {
        same = ap (λ (f : Family). f.members.items) w.family-is ∙ c.loop-source.invariant.same;
        family = λ count before. subst (IsFamily count) (sym w.family-is) (c.loop-source.invariant.family count before);
        told = λ known flips lines are before behind told. subst (IsToldFamily known flips lines) (sym w.family-is) (c.loop-source.invariant.told known flips lines are before behind told);
        next = ap (λ next. length next.items) w.next-is ∙ c.loop-source.invariant.next;
      }
    ]
