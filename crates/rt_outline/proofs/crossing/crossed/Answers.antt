use Rattle.std.proofs.Common.{rules, ◌≡◌, ◌∙◌, true, length, replicate}
use Rattle.rt_outline.proofs.Built.{crossed_found}
use Rattle.rt_outline.proofs.Inner.{distinct}
use Rattle.rt_outline.proofs.crossing.crossed.Goals as goal

pub hubs_of-requires : goal.hubs_of-requires
hubs_of-requires c = distinct c.args.lines.now c.requires.0 c.args.named.now c.requires.1

pub returns-clause-outer : goal.returns-clause-outer
returns-clause-outer c =
    let whole : c.in_ok-stands.stands.items ≡ replicate (length c.args.lines.now) true = search rules in
    crossed_found c.args.lines.now c.args.named.now c.requires c.in_ok-sorts.sorts.classes.items c.in_ok-sorts.sorts.flips.items
    c.in_ok-sorts.sorts.marks.items c.deref.result.now c.in_ok-sorts.ensures (c.deref.ensures.value ∙ whole) c.in_ok-found.found
    c.in_ok-found.ensures.crossed c.in_ok-found.ensures.turning
