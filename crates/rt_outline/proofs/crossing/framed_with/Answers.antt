use Rattle.std.proofs.Common.{Bool, List, true, Some, ◌≡◌, ◌≤◌, ℕ, length, ap, subst, ◌∙◌, arith}
use Rattle.std.specs.Prelude.{slice_get}
use Rattle.rt_outline.specs.Hubs.{HasLowest}
use Rattle.rt_outline.proofs.Built.{grown_length, lines_absent}
use Rattle.rt_outline.proofs.Crossed.{laid_by}
use Rattle.rt_outline.proofs.Inner.{distinct, sides}
use Rattle.rt_outline.proofs.crossing.framed_with.Goals as goal

pub of-requires : goal.of-requires
of-requires c = distinct c.args.lines.now c.requires.named.0 c.args.named.now c.requires.named.1

pub enter_lines-requires-clause-sides : goal.enter_lines-requires-clause-sides
enter_lines-requires-clause-sides c = λ l x h k. sides c.args.lines.now c.requires.named.0 c.args.named.now c.requires.named.1 l x h k

pub enter_lines-requires-clause-none : goal.enter_lines-requires-clause-none
enter_lines-requires-clause-none c =
    lines_absent c.args.lines.now c.args.named.now c.in_ok-frame.frame.arcs.items (λ v w i h. c.in_ok-frame.ensures.none v w (Some i) h)

pub enter_lowest-requires-clause-flips : goal.enter_lowest-requires-clause-flips
enter_lowest-requires-clause-flips c =
    let grown : length c.enter_pointers.new.frame.origins.items ≤ length c.enter_hubs.new.frame.origins.items =
    grown_length c.enter_pointers.new.frame.origins.items c.enter_hubs.new.frame.origins.items c.in_ok-enter_hubs.ensures.more.more
    c.in_ok-enter_hubs.ensures.more.behind in
    omega (
      arith,
      grown,
      ap length (c.in_ok-enter_pointers.ensures.origins ∙ c.in_ok-enter_lines.ensures.origins),
      c.in_ok-frame.ensures.origins.each,
      c.requires.flips,
      ap length c.deref.ensures.value,
    )

pub returns-clause-laid : goal.returns-clause-laid
returns-clause-laid c =
    laid_by c.args.lines.now c.args.named.now c.args.sorts.now.flips.items c.in_ok-frame.frame.origins.items
    c.enter_lines.new.frame.origins.items c.enter_pointers.new.frame.origins.items c.enter_hubs.new.frame.origins.items
    c.enter_lowest.new.frame.origins.items c.enter_pointers-2.new.frame.origins.items
    c.enter_lines.new.frame.arcs.items c.enter_pointers.new.frame.arcs.items c.enter_hubs.new.frame.arcs.items
    c.enter_lowest.new.frame.arcs.items c.enter_pointers-2.new.frame.arcs.items c.in_ok-frame.ensures.origins
    c.in_ok-enter_lines.ensures.origins c.in_ok-enter_lines.ensures.arcs
    c.in_ok-enter_pointers.ensures.origins c.in_ok-enter_pointers.ensures.kept c.in_ok-enter_pointers.ensures.only
    c.in_ok-enter_hubs.ensures.more c.in_ok-enter_lowest.ensures.more
    (subst (λ (fs : List Bool). (n : ℕ) → slice_get fs n ≡ Some true → HasLowest c.enter_lowest.new.frame.origins.items c.enter_lowest.new.frame.arcs.items n)
    c.deref.ensures.value c.in_ok-enter_lowest.ensures.all)
    c.in_ok-enter_pointers-2.ensures.origins c.in_ok-enter_pointers-2.ensures.kept c.in_ok-enter_pointers-2.ensures.pointers
    c.in_ok-enter_pointers-2.ensures.only
