use Rattle.std.proofs.Common.{rules}
use Rattle.rt_rules.specs.Rules.{HasSide}
use Rattle.rt_rules.proofs.Carry.{are_there, side}
use Rattle.rt_earlier.proofs.Entering.{line_same}
use Rattle.rt_earlier.proofs.Keeping.{sound-push}
use Rattle.rt_earlier.proofs.earlier.Earlier.enter_line.Goals as goal

pub returns-in_ok-enter-in-Var : goal.returns-in_ok-enter-in-Var
returns-in_ok-enter-in-Var c = λ order lines sound d.
    let named : HasSide c.args.line.now c.in-Var.x = search rules in
    c.in_ok-enter-in-Var.ensures.sound order lines sound (side order lines c.args.line.now c.in-Var.x d named)

pub returns-in_ok-push-in-Same : goal.returns-in_ok-push-in-Same
returns-in_ok-push-in-Same c = λ order lines sound d.
    let x = c.in-Same.x in
    let y = c.in-Same.y in
    let same = line_same order lines c.args.line.now x y c.in-Same.is d in
    let there = are_there order lines same in
    let s = c.enter-in-Same.new.self in
    let first = c.in_ok-i-in-Same.ensures.sound order lines sound there.0 in
    let second = c.in_ok-j-in-Same.ensures.sound order lines first there.1 in
    sound-push order lines s.named s.class.items s.members.items s.children.entries s.todo.items second c.push.new.self.items c.in_ok-i-in-Same.i c.in_ok-j-in-Same.j c.in_ok-push-in-Same.ensures.items
    (record {
      from = x;
      at = c.in_ok-j-in-Same.ensures.kept c.in_ok-i-in-Same.i x c.in_ok-i-in-Same.ensures.number;
      reaches = record { to = y; at = c.in_ok-j-in-Same.ensures.number; same = same };
    })
