use Rattle.std.proofs.Common.{◌<◌, ◌≤◌, length, arith}
use Rattle.rt_sketch.proofs.Alike.{alike, state_eq}
use Rattle.rt_sketch.proofs.Growing.{leads_grown, leads_joined, marks_grown, marks_joined, more_grown, more_joined, pushed, stood}
use Rattle.rt_sketch.proofs.growth.Growth.enter.Goals as goal

pub returns-in_ok-edge-clause-more : goal.returns-in_ok-edge-clause-more
returns-in_ok-edge-clause-more c =
    let keys = c.args.self.now.states.keys in
    let k = c.in_ok-to.ensures.stored in
    let less : c.in_ok-to.to < length keys = let e = c.requires.each in let n = c.size.ensures.count in let t = c.if-to-size.true in omega arith in
    more_joined keys c.args.self.now.tree c.args.number c.args.label c.requires.each c.requires.from c.in_ok-to.to c.insert_full.new.self.keys c.edge.new.self
    (stood state_eq keys c.insert_full.new.self.keys c.args.next k.0 c.in_ok-to.to c.in_ok-to.ensures.keys k.1 k.2 less) c.in_ok-edge.ensures.ok

pub returns-in_ok-edge-clause-marks : goal.returns-in_ok-edge-clause-marks
returns-in_ok-edge-clause-marks c =
    let keys = c.args.self.now.states.keys in
    let k = c.in_ok-to.ensures.stored in
    let less : c.in_ok-to.to < length keys = let e = c.requires.each in let n = c.size.ensures.count in let t = c.if-to-size.true in omega arith in
    marks_joined keys c.args.self.now.tree c.args.number c.args.label c.requires.each c.requires.from c.in_ok-to.to c.args.next c.args.marks c.insert_full.new.self.keys c.edge.new.self
    (stood state_eq keys c.insert_full.new.self.keys c.args.next k.0 c.in_ok-to.to c.in_ok-to.ensures.keys k.1 k.2 less) c.in_ok-edge.ensures.ok

pub returns-in_ok-edge-clause-to : goal.returns-in_ok-edge-clause-to
returns-in_ok-edge-clause-to c =
    let k = c.in_ok-to.ensures.stored in
    leads_joined c.args.self.now.states.keys c.args.self.now.tree c.args.number c.args.label c.requires.from c.requires.free c.in_ok-to.to c.args.next k.0 c.insert_full.new.self.keys c.edge.new.self k.1
    (alike c.args.next k.0 k.2) c.in_ok-edge.ensures.ok

pub returns-in_ok-grow-clause-more : goal.returns-in_ok-grow-clause-more
returns-in_ok-grow-clause-more c =
    let keys = c.args.self.now.states.keys in
    let k = c.in_ok-to.ensures.stored in
    let past : length keys ≤ c.in_ok-to.to = let e = c.requires.each in let n = c.size.ensures.count in let t = c.if-to-size.false in omega arith in
    more_grown keys c.args.self.now.tree c.args.number c.args.label c.requires.each c.requires.from c.args.next c.args.marks.0 c.args.marks.1 c.insert_full.new.self.keys c.grow.new.self
    (pushed state_eq keys c.insert_full.new.self.keys c.args.next k.0 c.in_ok-to.to c.in_ok-to.ensures.keys k.1 k.2 past) c.in_ok-grow.ensures.ok

pub returns-in_ok-grow-clause-marks : goal.returns-in_ok-grow-clause-marks
returns-in_ok-grow-clause-marks c =
    let keys = c.args.self.now.states.keys in
    let k = c.in_ok-to.ensures.stored in
    let past : length keys ≤ c.in_ok-to.to = let e = c.requires.each in let n = c.size.ensures.count in let t = c.if-to-size.false in omega arith in
    marks_grown keys c.args.self.now.tree c.args.number c.args.label c.requires.each c.requires.from c.args.next c.args.marks.0 c.args.marks.1 c.insert_full.new.self.keys c.grow.new.self
    (pushed state_eq keys c.insert_full.new.self.keys c.args.next k.0 c.in_ok-to.to c.in_ok-to.ensures.keys k.1 k.2 past) c.in_ok-grow.ensures.ok

pub returns-in_ok-grow-clause-to : goal.returns-in_ok-grow-clause-to
returns-in_ok-grow-clause-to c =
    let keys = c.args.self.now.states.keys in
    let k = c.in_ok-to.ensures.stored in
    let past : length keys ≤ c.in_ok-to.to = let e = c.requires.each in let n = c.size.ensures.count in let t = c.if-to-size.false in omega arith in
    leads_grown keys c.args.self.now.tree c.args.number c.args.label c.requires.each c.requires.from c.requires.free c.args.next c.args.marks.0 c.args.marks.1 c.insert_full.new.self.keys c.grow.new.self
    (pushed state_eq keys c.insert_full.new.self.keys c.args.next k.0 c.in_ok-to.to c.in_ok-to.ensures.keys k.1 k.2 past) c.in_ok-grow.ensures.ok
