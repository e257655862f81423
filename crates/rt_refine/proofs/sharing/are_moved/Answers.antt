use Rattle.std.proofs.Common.{◌≡◌, ℕ, ◌⊎◌, inl, inr, List, Contains, take, get_or, true, sym, subst}
use Rattle.std.specs.BTreeMap.{get}
use Rattle.std.specs.BTreeSet.{contains}
use Rattle.std.specs.Ordering.{nat_cmp}
use Rattle.std.proofs.lemmas.List.{take_all, take_more}
use Rattle.std.proofs.lemmas.List.Elements.{Contains-push_cases}
use Rattle.rt_base.proofs.Lists.{Contains-none}
use Rattle.rt_refine.specs.Groups.{class_of}
use Rattle.rt_refine.proofs.sharing.are_moved.Goals as goal

pub loop-existential-init : goal.loop-existential-init
loop-existential-init c = λ n h. absurd (Contains-none n h)

pub loop-existential-preserved : goal.loop-existential-preserved
loop-existential-preserved c = λ n h.
    let i = c.loop-existential.existential-index in
    let seen = take i c.args.named.now in
    let here = get_or c.args.named.now i 0 in
    let is_either : ℕ → Type 0 =
    λ k. (contains nat_cmp c.args.shared.now k ≡ true) ⊎ (class_of (get nat_cmp c.args.classes.now) k ≡ k) in
    elim (Contains-push_cases seen here n
    (subst (λ (ks : List ℕ). Contains ks n) (take_more c.args.named.now i 0 c.loop-existential-test.true) h)) [
      | inl d ↦ c.loop-existential.invariant n d
      | inr e ↦ subst is_either e c.if-is_moved.ensures
    ]

pub returns-clause-stay : goal.returns-clause-stay
returns-clause-stay c = λ e n h.
    c.loop-existential.invariant n
    (subst (λ (ks : List ℕ). Contains ks n)
    (sym (take_all c.loop-existential.existential-index c.args.named.now c.loop-existential-test.false)) h)
