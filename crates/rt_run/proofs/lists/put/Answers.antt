use Rattle.std.proofs.Common.{◌≡◌, ◌<◌, ◌∙◌, length, rules, subst, sym}
use Rattle.std.proofs.lemmas.Iterator.Adapters.{YieldsList-from_vec}
use Rattle.std.proofs.lemmas.Iterator.Consumers.{YieldsList-end, YieldsList-turn}
use Rattle.rt_run.proofs.Placing.{number_within, put_more, put_whole}
use Rattle.rt_run.proofs.lists.put.Goals as goal

pub index_mut-requires : goal.index_mut-requires
index_mut-requires c =
    let turn = YieldsList-turn (YieldsList-from_vec c.args.bodies (search rules) (search rules)) c.loop-number.yielded c.loop-number.number-iterator c.loop-number.yielded_by c.next.result c.next.new.self
    (c.in-Some.number, c.in-Some.lines) c.in-Some.is c.next.ensures.steps in
    subst (λ n. c.in-Some.number < n) (sym (c.loop-number.lists.ok.0 ∙ c.loop-number.invariant.long))
    (number_within c.args.bodies (length c.args.lists.now.items) (length c.loop-number.yielded) c.in-Some.number c.in-Some.lines c.requires turn.0 turn.1)

pub loop-number-preserved-in-Some : goal.loop-number-preserved-in-Some
loop-number-preserved-in-Some c =
    let turn = YieldsList-turn (YieldsList-from_vec c.args.bodies (search rules) (search rules)) c.loop-number.yielded c.loop-number.number-iterator c.loop-number.yielded_by c.next.result c.next.new.self
    (c.in-Some.number, c.in-Some.lines) c.in-Some.is c.next.ensures.steps in
    put_more c.loop-number.yielded c.args.lists.now.items c.loop-number.lists.items c.in-Some.number c.in-Some.lines (subst (λ n. c.in-Some.number < n) (sym c.loop-number.invariant.long)
    (number_within c.args.bodies (length c.args.lists.now.items) (length c.loop-number.yielded) c.in-Some.number c.in-Some.lines c.requires turn.0 turn.1)) c.loop-number.invariant

pub loop-number-preserved : goal.loop-number-preserved
loop-number-preserved c =
    let turn = YieldsList-turn (YieldsList-from_vec c.args.bodies (search rules) (search rules)) c.loop-number.yielded c.loop-number.number-iterator c.loop-number.yielded_by c.next.result c.next.new.self
    (c.in-Some.number, c.in-Some.lines) c.in-Some.is c.next.ensures.steps in
    put_more c.loop-number.yielded c.args.lists.now.items c.loop-number.lists.items c.in-Some.number c.in-Some.lines (subst (λ n. c.in-Some.number < n) (sym c.loop-number.invariant.long)
    (number_within c.args.bodies (length c.args.lists.now.items) (length c.loop-number.yielded) c.in-Some.number c.in-Some.lines c.requires turn.0 turn.1)) c.loop-number.invariant

pub returns-clause-members : goal.returns-clause-members
returns-clause-members c =
    let whole = YieldsList-end (YieldsList-from_vec c.args.bodies (search rules) (search rules)) c.loop-number.yielded c.loop-number.number-iterator c.loop-number.yielded_by c.next.result c.next.new.self
    c.in-None.is c.next.ensures.steps in
    put_whole c.args.bodies c.loop-number.yielded c.args.lists.now.items c.loop-number.lists.items whole.0 c.loop-number.invariant
