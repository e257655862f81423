use Rattle.std.proofs.lemmas.Result.{IfOk-weaker}
use Rattle.rt_settle.specs.Groups.{AreSchemesFrom, AreSchemesOf}
use Rattle.rt_settle.proofs.Grouping.{schemes_of}
use Rattle.rt_settle.proofs.Settled.{interfaces_of_scheme}
use Rattle.rt_settle.proofs.group.schemes_of.Goals as goal

pub settle-requires-clause-scheme : goal.settle-requires-clause-scheme
settle-requires-clause-scheme c = interfaces_of_scheme c.args.all c.requires.interface

pub schemes_for-requires-clause-interfaces : goal.schemes_for-requires-clause-interfaces
schemes_for-requires-clause-interfaces c = c.in_ok-settled.ensures.interfaces c.requires.interface

pub schemes_for-requires-clause-constants : goal.schemes_for-requires-clause-constants
schemes_for-requires-clause-constants c =
    (c.in_ok-settled.ensures.tells 0).constants c.args.order.now.count c.requires.constants

pub returns : goal.returns
returns c =
    let settled = c.in_ok-settled.settled in
    IfOk-weaker c.schemes_for.result (λ r. AreSchemesFrom c.args.order.now c.args.members.now settled r)
    (λ r. AreSchemesOf c.args.order.now c.args.members.now c.args.all r)
    (λ r are. schemes_of c.args.order.now c.args.members.now c.args.all settled r c.requires.interface c.in_ok-settled.ensures.settled
    (λ own. c.in_ok-settled.ensures.tells own) are)
    c.schemes_for.ensures
