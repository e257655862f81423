use Rattle.std.proofs.Common.{◌≡◌, ◌<◌, Contains, length, subst, sym}
use Rattle.rt_sat.specs.Hints.{members_of, AreEnds}
use Rattle.rt_sat.specs.Inside.Links.{AreBefore, AreBehind}
use Rattle.rt_sat.proofs.ToldPushes.{list_read}
use Rattle.rt_sat.proofs.ends.ready_of.Goals as goal

pub ends-requires-clause-kids : goal.ends-requires-clause-kids
ends-requires-clause-kids c =
    let members : c.items-members.result.now ≡ members_of c.args.family.now c.args.group.now.class = list_read c.args.family.now.members.items c.args.group.now.class c.items-members.result.now c.index.result.now c.requires.group.class c.items-members.ensures c.index.ensures in
    λ kid h. subst (λ xs. kid.parent < length xs) (sym members) (c.requires.group.are kid (subst (λ xs. Contains xs kid) c.items-kids.ensures h))

pub ends-requires-2-clause-kids : goal.ends-requires-2-clause-kids
ends-requires-2-clause-kids c =
    let members : c.items-members.result.now ≡ members_of c.args.family.now c.args.group.now.class = list_read c.args.family.now.members.items c.args.group.now.class c.items-members.result.now c.index.result.now c.requires.group.class c.items-members.ensures c.index.ensures in
    λ kid h. subst (λ xs. kid.parent < length xs) (sym members) (c.requires.group.are kid (subst (λ xs. Contains xs kid) c.items-kids.ensures h))

pub returns : goal.returns
returns c =
    let known = c.args.frame.now.named in
    let flips = c.args.frame.now.flips.items in
    let class = c.args.group.now.class in
    let family = c.args.family.now in
    let members : c.items-members.result.now ≡ members_of family class = list_read family.members.items class c.items-members.result.now c.index.result.now c.requires.group.class c.items-members.ensures c.index.ensures in
    let froms : AreEnds known flips (members_of family class) family c.in_ok-sources.sources.items = subst (λ xs. AreEnds known flips xs family c.in_ok-sources.sources.items) members c.in_ok-sources.ensures.ends in
    let tos : AreEnds known flips (members_of family class) family c.in_ok-targets.targets.items = subst (λ xs. AreEnds known flips xs family c.in_ok-targets.targets.items) members c.in_ok-targets.ensures.ends in
    record {
      class = c.requires.group.class;
      leading = (froms, λ end h. tos end (subst (λ xs. Contains xs end) c.deref-3.ensures.value (c.in_ok-leading.ensures end h)));
      others = (froms, λ end h. tos end (subst (λ xs. Contains xs end) c.deref-4.ensures.value (c.in_ok-others.ensures end h)));
      before = λ lines linked. c.in_ok-sources.ensures.before lines (subst (λ xs. AreBefore known flips lines xs) (sym c.deref.ensures.value) linked.before);
      ahead = λ lines linked end h. c.in_ok-targets.ensures.behind lines (subst (λ xs. AreBehind known flips lines xs) (sym c.deref-2.ensures.value) linked.behind) end (subst (λ xs. Contains xs end) c.deref-3.ensures.value (c.in_ok-leading.ensures end h));
      aside = λ lines linked end h. c.in_ok-targets.ensures.behind lines (subst (λ xs. AreBehind known flips lines xs) (sym c.deref-2.ensures.value) linked.behind) end (subst (λ xs. Contains xs end) c.deref-4.ensures.value (c.in_ok-others.ensures end h));
    }
