use Rattle.std.proofs.Common.{refl}
use Rattle.std.proofs.lemmas.Result.{IfOk-weaker}
use Rattle.rt_lines.specs.Numbering.{deduplicated}
use Rattle.rt_reduce.specs.Inside.Handing.{DoFollow}
use Rattle.rt_reduce.proofs.Handed.{known_stay}
use Rattle.rt_reduce.proofs.handing.handed.Goals as goal

pub returns-clause-staying : goal.returns-clause-staying
returns-clause-staying c =
    let order = c.args.order.now in
    let lines = c.args.lines.now in
    let before = c.args.before.now in
    let keys = c.in_ok-known.known.keys in
    let follow : DoFollow order lines before keys = c.in_ok-come_follow.ensures c.if-not-branch-2.false in
    IfOk-weaker c.flags.result _ _ (λ stays known.
    known_stay order lines before (deduplicated lines) keys follow.gone follow.come c.requires.needed (record {
      here_are = refl;
      known_are = c.in_ok-known.ensures;
      once = c.in_ok-is_each_once.ensures c.if-not-branch.false;
      stood = follow.stood;
      all = follow.all;
      derived = follow.derived;
    }) stays.items known) c.flags.ensures.known
