use Rattle.std.proofs.Common.{◌≡◌, ℕ, List, Some, None, true, false, sym, ap, subst, ◌∙◌}
use Rattle.std.specs.BTreeMap.{get}
use Rattle.std.specs.BTreeSet.{contains}
use Rattle.std.specs.Map.{lookup}
use Rattle.std.specs.Ordering.{is_eq, nat_cmp}
use Rattle.std.proofs.lemmas.Map.Keys.{le_from_not_gt}
use Rattle.rt_polar.specs.Index.{has}
use Rattle.rt_polar.proofs.Turning.{none_in}
use Rattle.rt_refine.specs.Groups.{class_of}
use Rattle.rt_refine.specs.Numbers.{HasNumber, IsNumbered}
use Rattle.rt_refine.proofs.Keys.{no_number}
use Rattle.rt_refine.proofs.Leading.{led_first, led_more, led_last}
use Rattle.rt_refine.specs.Numbers.{use_key}
use Rattle.rt_refine.proofs.Changing.{same_more, differs_now, fresh_place, stays_last, differs_last}
use Rattle.rt_refine.proofs.splitting.regrouped.Goals as goal

pub loop-existential-init : goal.loop-existential-init
loop-existential-init c =
    let no_place : (n : ℕ) → get nat_cmp c.new-parts.result n ≡ None =
    λ n. ap (λ (es : List (ℕ × ℕ)). lookup (λ (k : ℕ). is_eq (nat_cmp n k)) es) c.new-parts.ensures.empty in
    record {
      led =
          led_first (use_key (class_of (get nat_cmp c.args.classes.now)) c.args.bound (has c.args.index.now))
          (λ n. contains nat_cmp c.args.shared n ≡ true)
          (contains nat_cmp c.args.shared) (HasNumber nat_cmp c.new-leaders.result)
          (get nat_cmp c.new-parts.result) (λ n h. h) (λ n h. h)
          (no_number nat_cmp c.new-leaders.result c.new-leaders.ensures.empty) no_place;
      same = λ e n v f. let g : None ≡ Some v = sym (no_place n) ∙ f in absurd (cc);
      differs = λ e. absurd (cc);
    }

pub loop-existential-preserved : goal.loop-existential-preserved
loop-existential-preserved c =
    let v = c.loop-existential.invariant in
    let w = c.in-Some.existential in
    let class = class_of (get nat_cmp c.args.classes.now) in
    let key = use_key class c.args.bound (has c.args.index.now) in
    let leader = c.in_ok-leader.leader in
    let old = get nat_cmp c.loop-existential.parts in
    let new = get nat_cmp c.follow.new.classes in
    record {
      led =
          led_more key (λ n. contains nat_cmp c.args.shared n ≡ true) w
          (contains nat_cmp c.loop-existential.pending) (contains nat_cmp c.pop_first.new.self)
          (HasNumber nat_cmp c.loop-existential.leaders) (HasNumber nat_cmp c.follow.new.leaders) old
          new c.in-Some.ensures.member (λ q h. le_from_not_gt w q (c.in-Some.ensures.least q h))
          (λ q. c.in-Some.ensures.updates.0 q) v.led leader
          (subst (λ (ks : List ℕ). IsNumbered ks w leader (HasNumber nat_cmp c.loop-existential.leaders)
          (HasNumber nat_cmp c.follow.new.leaders)) c.in_ok-key.ensures c.in_ok-leader.ensures.numbered)
          c.in_ok-leader.ensures.put;
      same = λ e.
          let s = c.is_changed-changed.ensures.stays e in
          same_more class w leader old new c.in_ok-leader.ensures.put (s.1 ∙ c.class_of.ensures) (v.same s.0);
      differs = λ e.
          differs_now class w leader old new c.in_ok-leader.ensures.put
          (fresh_place key (λ n. contains nat_cmp c.args.shared n ≡ true) class (contains nat_cmp c.loop-existential.pending)
          (HasNumber nat_cmp c.loop-existential.leaders) old v.led w c.in-Some.ensures.member) c.loop-existential.changed c.class_of.result
          c.class_of.ensures v.differs (c.is_changed-changed.ensures.differs e);
    }

pub returns : goal.returns
returns c =
    let v = c.loop-existential.invariant in
    let class = class_of (get nat_cmp c.args.classes.now) in
    let key = use_key class c.args.bound (has c.args.index.now) in
    let shared : ℕ → Type 0 = λ n. contains nat_cmp c.args.shared n ≡ true in
    let pending = contains nat_cmp c.loop-existential.pending in
    let leaders = HasNumber nat_cmp c.loop-existential.leaders in
    let place = get nat_cmp c.loop-existential.parts in
    let none : (n : ℕ) → pending n ≡ true → ⊥ =
    λ n e. none_in (λ k. is_eq (nat_cmp n k)) c.loop-existential.pending.keys (λ h. let f : false ≡ true =
    c.in_default.ensures.variant.1 h in cc) e in
    record {
      grouped = led_last key shared pending leaders place none v.led;
      stays = λ e. stays_last key shared class pending leaders place v.led none (v.same e);
      differs = λ e. differs_last key shared class pending leaders place v.led (v.differs e);
    }
