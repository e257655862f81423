use Rattle.std.proofs.Common.{◌≡◌, ℕ, List, Contains, true, false, take, sym, ap, subst, ◌∙◌}
use Rattle.std.specs.BTreeMap.{get}
use Rattle.std.specs.BTreeSet.{contains}
use Rattle.std.specs.List.{list_any}
use Rattle.std.specs.Map.{lookup}
use Rattle.std.specs.Ordering.{is_eq, nat_cmp}
use Rattle.std.proofs.lemmas.List.{take_all, take_more}
use Rattle.rt_refine.specs.Groups.{AreMet, AreShared, class_of}
use Rattle.rt_refine.proofs.Meeting.{met_all, met_none}
use Rattle.rt_refine.proofs.sharing.sharing.Goals as goal

pub loop-existential-init : goal.loop-existential-init
loop-existential-init c =
    met_none (class_of (get nat_cmp c.args.classes.now)) (get nat_cmp c.new-firsts.result) (contains nat_cmp c.new-shared.result)
    (λ n. ap (λ (es : List (ℕ × ℕ)). lookup (λ (k : ℕ). is_eq (nat_cmp n k)) es) c.new-firsts.ensures.empty)
    (λ n h. let f : false ≡ true = sym (ap (λ (ks : List ℕ). list_any (λ (k : ℕ). is_eq (nat_cmp n k)) ks) c.new-shared.ensures.empty) ∙ h in absurd (cc))

pub loop-existential-preserved : goal.loop-existential-preserved
loop-existential-preserved c =
    let class = class_of (get nat_cmp c.args.classes.now) in
    let i = c.loop-existential.existential-index in
    subst (λ (met : List ℕ). AreMet class met (get nat_cmp c.note_class.new.firsts) (contains nat_cmp c.note_class.new.shared))
    (sym (take_more c.args.named.now i 0 c.loop-existential-test.true))
    (c.in_ok-note_class.ensures class (take i c.args.named.now) (sym c.class_of.ensures) c.loop-existential.invariant)

pub returns : goal.returns
returns c =
    subst (λ (ns : List ℕ). AreShared (Contains ns) (class_of (get nat_cmp c.args.classes.now)) (contains nat_cmp c.loop-existential.shared))
    (take_all c.loop-existential.existential-index c.args.named.now c.loop-existential-test.false)
    (met_all (class_of (get nat_cmp c.args.classes.now)) (take c.loop-existential.existential-index c.args.named.now)
    (get nat_cmp c.loop-existential.firsts) (contains nat_cmp c.loop-existential.shared) c.loop-existential.invariant)
