use Rattle.std.proofs.Common.{sym}
use Rattle.std.specs.BTreeMap.{get}
use Rattle.std.specs.BTreeSet.{contains}
use Rattle.std.specs.Ordering.{nat_cmp}
use Rattle.rt_refine.proofs.Meeting.{met_again, met_first}
use Rattle.rt_refine.proofs.sharing.note_class.Goals as goal

pub returns-in-Some : goal.returns-in-Some
returns-in-Some c = λ place met own are.
    met_again place met c.args.existential c.args.class (get nat_cmp c.args.firsts.now) own c.in-Some.first.now
    (contains nat_cmp c.args.shared.now) (contains nat_cmp c.insert.new.self) (contains nat_cmp c.insert-in-Some.new.self)
    (sym c.in-Some.ensures.value) c.in_ok-insert.ensures.updates.0 c.in_ok-insert-2.ensures.updates.0 are

pub returns : goal.returns
returns c = λ place met own are.
    met_first place met c.args.existential c.args.class (get nat_cmp c.args.firsts.now) own (get nat_cmp c.insert-2.new.self)
    (contains nat_cmp c.args.shared.now) (sym c.in_default.ensures.value) c.in_ok-insert-3.ensures.updates.0 are
