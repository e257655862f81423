use Rattle.std.proofs.Common.{◌≡◌, arith, subst}
use Rattle.std.proofs.lemmas.Result.{on_ok_weaker}
use Rattle.rt_sat.specs.declared.state.Edge.{Edge}
use Rattle.rt_sat.specs.Hints.{IsTold}
use Rattle.rt_sat.proofs.Linking.{before_more, behind_more}
use Rattle.rt_sat.proofs.links.Links.enter.Goals as goal

pub returns-in-Some-None : goal.returns-in-Some-None
returns-in-Some-None c =
    let edge : Edge = c.args.edge.now in
    let nought : edge.count ≡ 0 = omega (arith, c.capped.ensures, c.if-capped-ne0.false) in
    on_ok_weaker c.note.result
    (λ noted known flips lines told linked. record {
      before = before_more known flips lines c.args.self.now.before.items c.note.new.near.items edge.to edge.from noted (subst (IsTold known flips lines edge.from edge.to) nought told) linked.before;
      behind = linked.behind;
    }) c.note.ensures

pub returns-in-None-Some : goal.returns-in-None-Some
returns-in-None-Some c =
    let edge : Edge = c.args.edge.now in
    let nought : edge.count ≡ 0 = omega (arith, c.capped.ensures, c.if-capped-ne0.false) in
    on_ok_weaker c.note-in-None-Some.result
    (λ noted known flips lines told linked. record {
      before = linked.before;
      behind = behind_more known flips lines c.args.self.now.behind.items c.note-in-None-Some.new.near.items edge.from edge.to noted (subst (IsTold known flips lines edge.from edge.to) nought told) linked.behind;
    }) c.note-in-None-Some.ensures
