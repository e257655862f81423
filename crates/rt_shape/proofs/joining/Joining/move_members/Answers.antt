use Rattle.std.proofs.Common.{◌<◌, length, get_or, set, Contains, refl, sym, subst, ◌∙◌, arith}
use Rattle.std.proofs.lemmas.List.Elements.{Contains-get_or}
use Rattle.rt_shape.specs.Inside.Classes.{Joined}
use Rattle.rt_shape.specs.Inside.Classes.Joined.{joined_chain}
use Rattle.rt_shape.specs.Inside.Joins.{IsSound}
use Rattle.rt_shape.proofs.Sound.{taken, none_in, sound-class, sound-members, sound-member}
use Rattle.rt_shape.proofs.joining.Joining.move_members.Goals as goal

pub loop-node-init : goal.loop-node-init
loop-node-init c =
    let s = c.args.self.now in
    let r = c.requires in
    record {
      moved = taken s.members.items c.args.from r.0.count c.items-node-items.result.now c.replace-moved.result c.index_mut.result.now c.items-node-items.ensures c.replace-moved.ensures.value c.index_mut.ensures.value r.3 (sym r.2.members_each);
      sound = λ graph pairs sound one. sound-members graph pairs s.class.items s.members.items s.letters.items s.first.entries s.todo.items sound c.args.from c.replace-moved.new.dest (λ k h. absurd (none_in c.replace-moved.new.dest k (c.replace-moved.ensures.after ∙ c.new.ensures) h));
      work = refl;
    }

pub index_mut-requires-in-loop-node : goal.index_mut-requires-in-loop-node
index_mut-requires-in-loop-node c =
    let r = c.requires in
    let now : IsSound r.0 r.1 c.loop-node.self = c.loop-node.invariant.sound r.0 r.1 r.2 r.5 in
    let k = get_or c.items-node-items.result.now c.loop-node.node-index 0 in
    let in_moved : Contains c.items-node-items.result.now k = Contains-get_or c.items-node-items.result.now c.loop-node.node-index 0 (omega arith) in
    let member = r.2.members_joined c.args.from k (subst (λ xs. Contains xs k) c.loop-node.invariant.moved in_moved) in
    let less : k < length c.loop-node.self.class.items = subst (λ n. k < n) (sym now.each) member.0 in
    omega arith

pub loop-node-preserved : goal.loop-node-preserved
loop-node-preserved c =
    let r = c.requires in
    let s = c.loop-node.self in
    let k = get_or c.items-node-items.result.now c.loop-node.node-index 0 in
    let in_moved : Contains c.items-node-items.result.now k = Contains-get_or c.items-node-items.result.now c.loop-node.node-index 0 (omega arith) in
    record {
      moved = c.loop-node.invariant.moved;
      sound = λ graph pairs sound one.
          let now : IsSound graph pairs s = c.loop-node.invariant.sound graph pairs sound one in
          let member = sound.members_joined c.args.from k (subst (λ xs. Contains xs k) c.loop-node.invariant.moved in_moved) in
          let to : c.args.to < graph.count = subst (λ n. c.args.to < n) (sym r.2.each ∙ sound.each) r.4 in
          let joined : Joined graph pairs k c.args.to = joined_chain member.1 one in
          let renamed = sound-class graph pairs s.class.items s.members.items s.letters.items s.first.entries s.todo.items now k c.args.to to joined in
          sound-member graph pairs (set s.class.items k c.args.to) s.members.items s.letters.items s.first.entries s.todo.items renamed c.args.to k (member.0, joined) c.index_mut-in-loop-node-2.result.now c.push.new.self to c.index_mut-in-loop-node-2.ensures.value c.in_ok-push.ensures.ok;
      work = c.loop-node.invariant.work;
    }
