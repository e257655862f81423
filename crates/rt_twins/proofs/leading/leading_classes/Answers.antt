use Rattle.std.proofs.Common.{◌≡◌, ℕ, List, true, false, ap, subst}
use Rattle.std.specs.BTreeMap.{get}
use Rattle.std.specs.BTreeSet.{contains}
use Rattle.std.specs.Map.{lookup}
use Rattle.std.specs.Ordering.{is_eq, nat_cmp}
use Rattle.std.proofs.lemmas.Map.Keys.{le_from_not_gt}
use Rattle.rt_polar.proofs.Turning.{none_in}
use Rattle.rt_refine.specs.Groups.{class_of, IsNamed}
use Rattle.rt_refine.specs.Numbers.{HasNumber, IsNumbered}
use Rattle.rt_refine.proofs.Keys.{no_number}
use Rattle.rt_refine.proofs.Leading.{led_first, led_more, led_last}
use Rattle.rt_twins.specs.Inside.Leading.{lead_key}
use Rattle.rt_twins.proofs.Starting.{leading_classes}
use Rattle.rt_twins.proofs.leading.leading_classes.Goals as goal

pub loop-existential-init : goal.loop-existential-init
loop-existential-init c =
    led_first (λ n. lead_key (contains nat_cmp c.args.out.now n) n) (IsNamed c.args.lines.now)
    (contains nat_cmp c.in_ok-pending.pending) (HasNumber nat_cmp c.new-leaders.result)
    (get nat_cmp c.new-classes.result) (λ n h. (c.in_ok-pending.ensures n).0 h) (λ n h. (c.in_ok-pending.ensures n).1 h)
    (no_number nat_cmp c.new-leaders.result c.new-leaders.ensures.empty)
    (λ n. ap (λ (es : List (ℕ × ℕ)). lookup (λ (k : ℕ). is_eq (nat_cmp n k)) es) c.new-classes.ensures.empty)

pub loop-existential-preserved : goal.loop-existential-preserved
loop-existential-preserved c =
    let w = c.in-Some.existential in
    led_more (λ n. lead_key (contains nat_cmp c.args.out.now n) n) (IsNamed c.args.lines.now) w
    (contains nat_cmp c.loop-existential.pending) (contains nat_cmp c.pop_first.new.self)
    (HasNumber nat_cmp c.loop-existential.leaders) (HasNumber nat_cmp c.follow.new.leaders) (get nat_cmp c.loop-existential.classes)
    (get nat_cmp c.follow.new.classes) c.in-Some.ensures.member (λ q h. le_from_not_gt w q (c.in-Some.ensures.least q h))
    (λ q. c.in-Some.ensures.updates.0 q) c.loop-existential.invariant c.in_ok-follow.field-0
    (subst (λ (ks : List ℕ). IsNumbered ks w c.in_ok-follow.field-0 (HasNumber nat_cmp c.loop-existential.leaders)
    (HasNumber nat_cmp c.follow.new.leaders)) c.in_ok-key.ensures c.in_ok-follow.ensures.numbered)
    c.in_ok-follow.ensures.put

pub returns : goal.returns
returns c =
    leading_classes c.args.sign c.args.lines.now (contains nat_cmp c.args.out.now) c.requires (class_of (get nat_cmp c.loop-existential.classes))
    (led_last (λ n. lead_key (contains nat_cmp c.args.out.now n) n) (IsNamed c.args.lines.now)
    (contains nat_cmp c.loop-existential.pending) (HasNumber nat_cmp c.loop-existential.leaders) (get nat_cmp c.loop-existential.classes)
    (λ n e. none_in (λ k. is_eq (nat_cmp n k)) c.loop-existential.pending.keys (λ h. let f : false ≡ true =
    c.in_default.ensures.variant.1 h in cc) e)
    c.loop-existential.invariant)
