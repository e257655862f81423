use Rattle.std.proofs.Common.{◌≡◌, ◌<◌, List, Contains, get_or, length, subst, sym, ◌∙◌}
use Rattle.std.proofs.lemmas.List.Elements.{Contains-get_or}
use Rattle.rt_rules.proofs.Lists.{Contains-none}
use Rattle.rt_sat.specs.declared.state.Edge.{Edge}
use Rattle.rt_sat.specs.Hints.{members_of, AreEnds, IsEnd}
use Rattle.rt_sat.specs.Inside.Links.{AreTargets, AreTied}
use Rattle.rt_sat.proofs.ToldPushes.{ends_kept, list_read, no_end}
use Rattle.rt_sat.proofs.gathering.push_apart.Goals as goal

pub ends-requires-clause-kids : goal.ends-requires-clause-kids
ends-requires-clause-kids c =
    let members : c.items-members.result.now ≡ members_of c.args.family.now c.args.group.now.class = list_read c.args.family.now.members.items c.args.group.now.class c.items-members.result.now c.index.result.now c.requires.group.class c.items-members.ensures c.index.ensures in
    λ kid h. subst (λ xs. kid.parent < length xs) (sym members) (c.requires.group.are kid (subst (λ xs. Contains xs kid) c.items.ensures h))

pub found_at-requires-clause-ends : goal.found_at-requires-clause-ends
found_at-requires-clause-ends c =
    let known = c.args.frame.now.named in
    let flips = c.args.frame.now.flips.items in
    let class = c.args.group.now.class in
    let members : c.items-members.result.now ≡ members_of c.args.family.now class = list_read c.args.family.now.members.items class c.items-members.result.now c.index.result.now c.requires.group.class c.items-members.ensures c.index.ensures in
    let all : AreEnds known flips (members_of c.args.family.now class) c.loop-source.into c.deref-in-loop-source.result.now = ends_kept known flips (members_of c.args.family.now class) c.items-members.result.now (length known) c.args.into.now c.loop-source.into c.in_ok-ends.ends.items c.deref-in-loop-source.result.now
    members c.deref-in-loop-source.ensures.value c.loop-source.invariant.same c.requires.into c.loop-source.invariant.family c.in_ok-ends.ensures.ends in
    let are : AreEnds known flips (members_of c.args.family.now class) c.loop-source.into c.deref-source-items.result.now = ends_kept known flips (members_of c.args.family.now class) c.items-members.result.now (length known) c.args.into.now c.loop-source.into c.in_ok-ends.ends.items c.deref-source-items.result.now
    members c.deref-source-items.ensures.value c.loop-source.invariant.same c.requires.into c.loop-source.invariant.family c.in_ok-ends.ensures.ends in
    let end = get_or c.deref-source-items.result.now c.loop-source.source-index no_end in
    let at : IsEnd known flips (members_of c.args.family.now class) c.loop-source.into end = are end (Contains-get_or c.deref-source-items.result.now c.loop-source.source-index no_end c.loop-source-test.true) in
    (known, flips, (at, all))

pub put-requires-clause-class : goal.put-requires-clause-class
put-requires-clause-class c =
    let known = c.args.frame.now.named in
    let flips = c.args.frame.now.flips.items in
    let class = c.args.group.now.class in
    let members : c.items-members.result.now ≡ members_of c.args.family.now class = list_read c.args.family.now.members.items class c.items-members.result.now c.index.result.now c.requires.group.class c.items-members.ensures c.index.ensures in
    let are : AreEnds known flips (members_of c.args.family.now class) c.loop-source.into c.deref-source-items.result.now = ends_kept known flips (members_of c.args.family.now class) c.items-members.result.now (length known) c.args.into.now c.loop-source.into c.in_ok-ends.ends.items c.deref-source-items.result.now
    members c.deref-source-items.ensures.value c.loop-source.invariant.same c.requires.into c.loop-source.invariant.family c.in_ok-ends.ensures.ends in
    let end = get_or c.deref-source-items.result.now c.loop-source.source-index no_end in
    let at : IsEnd known flips (members_of c.args.family.now class) c.loop-source.into end = are end (Contains-get_or c.deref-source-items.result.now c.loop-source.source-index no_end c.loop-source-test.true) in
    at.home.class

pub put-requires-clause-place : goal.put-requires-clause-place
put-requires-clause-place c =
    let known = c.args.frame.now.named in
    let flips = c.args.frame.now.flips.items in
    let class = c.args.group.now.class in
    let members : c.items-members.result.now ≡ members_of c.args.family.now class = list_read c.args.family.now.members.items class c.items-members.result.now c.index.result.now c.requires.group.class c.items-members.ensures c.index.ensures in
    let are : AreEnds known flips (members_of c.args.family.now class) c.loop-source.into c.deref-source-items.result.now = ends_kept known flips (members_of c.args.family.now class) c.items-members.result.now (length known) c.args.into.now c.loop-source.into c.in_ok-ends.ends.items c.deref-source-items.result.now
    members c.deref-source-items.ensures.value c.loop-source.invariant.same c.requires.into c.loop-source.invariant.family c.in_ok-ends.ensures.ends in
    let end = get_or c.deref-source-items.result.now c.loop-source.source-index no_end in
    let at : IsEnd known flips (members_of c.args.family.now class) c.loop-source.into end = are end (Contains-get_or c.deref-source-items.result.now c.loop-source.source-index no_end c.loop-source-test.true) in
    at.home.place

pub put-requires-clause-found : goal.put-requires-clause-found
put-requires-clause-found c = λ s h. c.in_ok-found.ensures.inside s (subst (λ xs. Contains xs s) c.deref-in-loop-source-2.ensures.value h)

pub loop-source-preserved : goal.loop-source-preserved
loop-source-preserved c =
    let known = c.args.frame.now.named in
    let flips = c.args.frame.now.flips.items in
    let class = c.args.group.now.class in
    let members : c.items-members.result.now ≡ members_of c.args.family.now class = list_read c.args.family.now.members.items class c.items-members.result.now c.index.result.now c.requires.group.class c.items-members.ensures c.index.ensures in
    let are : AreEnds known flips (members_of c.args.family.now class) c.loop-source.into c.deref-source-items.result.now = ends_kept known flips (members_of c.args.family.now class) c.items-members.result.now (length known) c.args.into.now c.loop-source.into c.in_ok-ends.ends.items c.deref-source-items.result.now
    members c.deref-source-items.ensures.value c.loop-source.invariant.same c.requires.into c.loop-source.invariant.family c.in_ok-ends.ensures.ends in
    let end = get_or c.deref-source-items.result.now c.loop-source.source-index no_end in
    let at : IsEnd known flips (members_of c.args.family.now class) c.loop-source.into end = are end (Contains-get_or c.deref-source-items.result.now c.loop-source.source-index no_end c.loop-source-test.true) in
    let all : AreEnds known flips (members_of c.args.family.now class) c.loop-source.into c.deref-in-loop-source.result.now = ends_kept known flips (members_of c.args.family.now class) c.items-members.result.now (length known) c.args.into.now c.loop-source.into c.in_ok-ends.ends.items c.deref-in-loop-source.result.now
    members c.deref-in-loop-source.ensures.value c.loop-source.invariant.same c.requires.into c.loop-source.invariant.family c.in_ok-ends.ensures.ends in
    let tied : (lines : List Edge) → AreTied known flips lines end c.deref-in-loop-source.result.now = λ lines. (
      c.in_ok-ends.ensures.before lines (λ at s h. absurd (Contains-none s h)) end
          (subst (λ xs. Contains xs end) c.deref-source-items.ensures.value (Contains-get_or c.deref-source-items.result.now c.loop-source.source-index no_end c.loop-source-test.true)),
      subst (AreTargets known flips lines) (sym c.deref-in-loop-source.ensures.value) (c.in_ok-ends.ensures.behind lines (λ at s h. absurd (Contains-none s h))),
    ) in
    record {
      same = c.in_ok-put.ensures.same ∙ c.loop-source.invariant.same;
      family = c.in_ok-put.ensures.family (length known) c.loop-source.invariant.family;
      told = λ lines own before. c.in_ok-put.ensures.told known flips lines end.stand at.home
          (λ s h. c.in_ok-found.ensures.told known flips lines (at, all) (tied lines) own s (subst (λ xs. Contains xs s) c.deref-in-loop-source-2.ensures.value h)) (c.loop-source.invariant.told lines own before);
    }
