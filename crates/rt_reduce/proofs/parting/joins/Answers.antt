use Rattle.std.proofs.Common.{◌≡◌, ◌+◌, Bool, List, length, sym, ap, subst, arith}
use Rattle.rt_lines.specs.declared.line.Line.{Line}
use Rattle.rt_lines.specs.declared.variable.Dtv.{Dtv}
use Rattle.rt_reduce.specs.Inside.Parting.{AreAdded, pointed}
use Rattle.rt_sure.specs.Fates.{flag_at}
use Rattle.rt_reduce.proofs.Apart.{AreJoinedTo, all_joined, next_joined, next_other}
use Rattle.rt_reduce.proofs.parting.joins.Goals as goal
use Rattle.rt_reduce.proofs.parting.joins.Goals.{in-Sub+in_ok-left+in_ok-right+in_ok-add, in_default}

pub loop-i-preserved : goal.loop-i-preserved
loop-i-preserved c =
    let lines = c.args.lines.now in
    let flags = c.args.flags.now in
    let line = c.index-lines-i.result in
    let i = c.loop-i.i in
    let old = c.loop-i.joins.items in
    let new = c.match-lines-i.joins.items in
    elim c.match-lines-i.branch [
      | in-Sub+in_ok-left+in_ok-right+in_ok-add w ↦
          (let flag : Bool = flag_at flags i in
          let left : AreAdded (pointed w.in-Sub.x) w.in_ok-right.right flag old w.add.new.joins.items =
          subst (λ (v : Dtv). AreAdded v w.in_ok-right.right flag old w.add.new.joins.items) w.in_ok-left.ensures w.in_ok-add.ensures in
          let both : AreAdded (pointed w.in-Sub.x) (pointed w.in-Sub.y) flag old w.add.new.joins.items =
          subst (λ (v : Dtv). AreAdded (pointed w.in-Sub.x) v flag old w.add.new.joins.items) w.in_ok-right.ensures left in
          next_joined lines flags old new i line w.in-Sub.x w.in-Sub.y c.index-lines-i.is w.in-Sub.is
          (subst (AreAdded (pointed w.in-Sub.x) (pointed w.in-Sub.y) flag old) (sym (ap (λ v. v.items) w.joins-is)) both)
          c.loop-i.invariant)
      | in_default w ↦
          subst (λ (js : List Line). AreJoinedTo lines flags js (i + 1)) (sym (ap (λ v. v.items) w.joins-is))
          (next_other lines flags old i line c.index-lines-i.is w.in_default.not-Sub c.loop-i.invariant)
    ]

pub returns : goal.returns
returns c =
    let all : c.loop-i.i ≡ length c.args.lines.now = omega arith in
    all_joined c.args.lines.now c.args.flags.now c.loop-i.joins.items
    (subst (AreJoinedTo c.args.lines.now c.args.flags.now c.loop-i.joins.items) all c.loop-i.invariant)
