use Rattle.rt_trim.proofs.Spoiling.{no_other_user, other_user}
use Rattle.rt_trim.proofs.idle.has_other_user.Goals as goal

pub returns-in-Some-get : goal.returns-in-Some-get
returns-in-Some-get c =
    other_user c.args.lines.now c.args.users.now.entries c.args.line.now c.args.x.now c.in-Some.i.now c.in-Some-get.other.now c.ne.result
    c.in-Some.ensures.value c.in-Some-get.ensures.lookup.3.0 c.in-Some-get.ensures.lookup.1 c.ne.ensures

pub returns-in-None : goal.returns-in-None
returns-in-None c =
    no_other_user c.args.lines.now c.args.users.now.entries c.args.line.now c.args.x.now c.in-Some.i.now c.in-Some.ensures.value
    c.in-None.ensures.lookup.0
