use Rattle.std.proofs.Common.{rules, ◌≡◌, Bool, List, true, length, replicate, subst}
use Rattle.rt_outline.specs.Frames.{IsClosed, IsPushedMore}
use Rattle.rt_outline.proofs.Built.{built, hubbed_length, lines_absent}
use Rattle.rt_outline.proofs.Inner.{sides}
use Rattle.rt_outline.proofs.upper.framed.Goals as goal

pub enter_lines-requires-clause-sides : goal.enter_lines-requires-clause-sides
enter_lines-requires-clause-sides c = λ l x h k. sides c.args.lines.now c.requires.0 c.args.named.now c.requires.1 l x h k

pub enter_lines-requires-clause-nodes : goal.enter_lines-requires-clause-nodes
enter_lines-requires-clause-nodes c =
    hubbed_length c.args.lines.now c.args.named.now c.in_ok-frame.frame.origins.items c.in_ok-frame.frame.arcs.items c.in_ok-frame.ensures.hubs

pub enter_lines-requires-clause-none : goal.enter_lines-requires-clause-none
enter_lines-requires-clause-none c =
    lines_absent c.args.lines.now c.args.named.now c.in_ok-frame.frame.arcs.items c.in_ok-frame.ensures.hubs.hubbed.none

pub returns-clause-outer : goal.returns-clause-outer
returns-clause-outer c =
    let whole : c.in_ok-stands.stands.items ≡ replicate (length c.args.lines.now) true = search rules in
    built c.args.lines.now c.args.named.now c.requires c.in_ok-frame.frame.origins.items c.enter_lines.new.frame.origins.items
    c.enter_pointers.new.frame.origins.items c.close.new.frame.origins.items c.in_ok-frame.frame.arcs.items c.enter_lines.new.frame.arcs.items
    c.enter_pointers.new.frame.arcs.items c.close.new.frame.arcs.items c.in_ok-frame.ensures.hubs
    c.in_ok-enter_lines.ensures.origins c.in_ok-enter_lines.ensures.arcs c.in_ok-enter_lines.ensures.kept
    c.in_ok-enter_pointers.ensures.origins c.in_ok-enter_pointers.ensures.kept c.in_ok-enter_pointers.ensures.pointers c.in_ok-enter_pointers.ensures.only
    c.in_ok-close.ensures.origins c.in_ok-stands.stands.items
    (subst (λ (fs : List Bool). IsPushedMore c.enter_pointers.new.frame.origins.items fs c.enter_pointers.new.frame.arcs.items c.close.new.frame.arcs.items)
    c.deref.ensures.value c.in_ok-close.ensures.more)
    (subst (λ (fs : List Bool). IsClosed c.close.new.frame.origins.items c.close.new.frame.arcs.items fs) c.deref.ensures.value c.in_ok-close.ensures.closed)
    whole
