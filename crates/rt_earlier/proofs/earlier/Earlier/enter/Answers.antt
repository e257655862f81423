use Rattle.std.proofs.Common.{sym, subst}
use Rattle.rt_earlier.specs.Inside.Earlier.{AreKept}
use Rattle.rt_earlier.proofs.Entering.{entered-keeps, entered-there}
use Rattle.rt_earlier.proofs.Keeping.{sound-named}
use Rattle.rt_earlier.proofs.earlier.Earlier.enter.Goals as goal

pub loop-init : goal.loop-init
loop-init c =
    let s = c.args.self.now in
    let x = c.args.x.now in
    record {
      sound = λ order lines sound d.
          sound-named order lines s.named s.class.items s.members.items s.children.entries s.todo.items sound c.enter.new.self
          (subst (AreKept s.named) (sym c.in_ok-number.ensures.entered) (entered-keeps s.named x))
          (λ n y e. entered-there order lines s.named x sound.there d n y (rw c.in_ok-number.ensures.entered at e));
      named = c.in_ok-number.ensures.entered;
      number = c.in_ok-number.ensures.number;
    }

pub returns-clause-kept : goal.returns-clause-kept
returns-clause-kept c = subst (AreKept c.args.self.now.named) (sym c.loop.invariant.named) (entered-keeps c.args.self.now.named c.args.x.now)
