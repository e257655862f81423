use Rattle.std.proofs.Common.{Contains, subst}
use Rattle.rt_sat.specs.Hints.{members_of}
use Rattle.rt_sat.specs.Inside.Links.{AreEndsOf, IsReady}
use Rattle.rt_sat.proofs.ToldPushes.{ready_same}
use Rattle.rt_sat.proofs.gathering.push_ready.Goals as goal

pub push_ends-requires-clause-ends : goal.push_ends-requires-clause-ends
push_ends-requires-clause-ends c =
    let is = c.requires.ready in
    let first : AreEndsOf is.0 is.1 (members_of c.args.family.now c.args.ready.now.class) c.args.family.now c.deref.result.now c.deref-2.result.now = (
      λ end h. is.3.leading.0 end (subst (λ xs. Contains xs end) c.deref.ensures.value h),
      λ end h. is.3.leading.1 end (subst (λ xs. Contains xs end) c.deref-2.ensures.value h),
    ) in
    (is.0, is.1, first)

pub push_ends-requires-2-clause-family : goal.push_ends-requires-2-clause-family
push_ends-requires-2-clause-family c = (c.requires.family.0, c.in_ok-push_ends.ensures.family c.requires.family.0 c.requires.family.1)

pub push_ends-requires-2-clause-ends : goal.push_ends-requires-2-clause-ends
push_ends-requires-2-clause-ends c =
    let is = c.requires.ready in
    let mid = c.push_ends.new.family in
    let then : IsReady is.0 is.1 mid is.2 c.args.ready.now =
    ready_same is.0 is.1 c.requires.family.0 c.args.family.now mid is.2 c.args.ready.now c.in_ok-push_ends.ensures.same c.requires.family.1 (c.in_ok-push_ends.ensures.family c.requires.family.0 c.requires.family.1) is.3 in
    let second : AreEndsOf is.0 is.1 (members_of mid c.args.ready.now.class) mid c.deref-3.result.now c.deref-4.result.now = (
      λ end h. then.others.0 end (subst (λ xs. Contains xs end) c.deref-3.ensures.value h),
      λ end h. then.others.1 end (subst (λ xs. Contains xs end) c.deref-4.ensures.value h),
    ) in
    (is.0, is.1, second)

pub returns-clause-family : goal.returns-clause-family
returns-clause-family c = λ count before. c.in_ok-push_ends-2.ensures.family count (c.in_ok-push_ends.ensures.family count before)

pub returns-clause-told : goal.returns-clause-told
returns-clause-told c = λ known flips links lines is linked told.
    let family = c.args.family.now in
    let mid = c.push_ends.new.family in
    let ready = c.args.ready.now in
    let then : IsReady known flips mid links ready =
    ready_same known flips c.requires.family.0 family mid links ready c.in_ok-push_ends.ensures.same c.requires.family.1 (c.in_ok-push_ends.ensures.family c.requires.family.0 c.requires.family.1) is in
    let first : AreEndsOf known flips (members_of family ready.class) family c.deref.result.now c.deref-2.result.now = (
      λ end h. is.leading.0 end (subst (λ xs. Contains xs end) c.deref.ensures.value h),
      λ end h. is.leading.1 end (subst (λ xs. Contains xs end) c.deref-2.ensures.value h),
    ) in
    let second : AreEndsOf known flips (members_of mid ready.class) mid c.deref-3.result.now c.deref-4.result.now = (
      λ end h. then.others.0 end (subst (λ xs. Contains xs end) c.deref-3.ensures.value h),
      λ end h. then.others.1 end (subst (λ xs. Contains xs end) c.deref-4.ensures.value h),
    ) in
    let sooner = c.in_ok-push_ends.ensures.told known flips lines first
    (λ end h. is.before lines linked end (subst (λ xs. Contains xs end) c.deref.ensures.value h))
    (λ end h. is.ahead lines linked end (subst (λ xs. Contains xs end) c.deref-2.ensures.value h)) told in
    c.in_ok-push_ends-2.ensures.told known flips lines second
    (λ end h. is.before lines linked end (subst (λ xs. Contains xs end) c.deref-3.ensures.value h))
    (λ end h. is.aside lines linked end (subst (λ xs. Contains xs end) c.deref-4.ensures.value h)) sooner
