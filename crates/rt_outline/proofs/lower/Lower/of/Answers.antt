use Rattle.std.proofs.Common.{◌<◌, None, length, ap, subst, sym, ◌∙◌}
use Rattle.rt_outline.specs.Enclosing.{IsInner}
use Rattle.rt_outline.specs.Frames.{AreMore, IsPointerPair, IsPushedMore, Origins}
use Rattle.rt_outline.proofs.Entered.{lines_none}
use Rattle.rt_outline.proofs.Inner.{inner_of, sides}
use Rattle.rt_outline.proofs.lower.Lower.of.Goals as goal

pub enter_lines-requires-clause-sides : goal.enter_lines-requires-clause-sides
enter_lines-requires-clause-sides c = λ l x h k. sides c.args.lines.now c.args.extra.now c.in_ok-named.named c.in_ok-named.ensures l x h k

pub enter_lines-requires-clause-none : goal.enter_lines-requires-clause-none
enter_lines-requires-clause-none c = lines_none c.args.lines.now c.in_ok-named.named c.in_ok-frame.frame.arcs.items c.in_ok-frame.ensures.none

pub invariant_of-result : goal.invariant_of-result
invariant_of-result c = (
  subst (λ ls. IsInner ls c.in_ok-named.named c.close.new.frame.arcs.items c.in_ok-stands.stands.items) (sym c.in_ok-lines.ensures)
      (inner_of c.args.lines.now c.args.extra.now c.in_ok-named.named c.in_ok-frame.frame.origins.items c.enter_lines.new.frame.arcs.items c.enter_pointers.new.frame.arcs.items c.close.new.frame.arcs.items c.in_ok-stands.stands.items
      c.in_ok-named.ensures c.requires c.in_ok-frame.ensures.origins c.in_ok-enter_lines.ensures.arcs (λ v w h. c.in_ok-frame.ensures.none v w None (c.in_ok-enter_lines.ensures.pushed v w h))
      (subst (λ os. AreMore (IsPointerPair os) c.enter_lines.new.frame.arcs.items c.enter_pointers.new.frame.arcs.items) c.in_ok-enter_lines.ensures.origins c.in_ok-enter_pointers.ensures.only)
      (λ v w line h. subst (λ os. w < length os) (c.in_ok-enter_pointers.ensures.origins ∙ c.in_ok-enter_lines.ensures.origins) (c.in_ok-enter_pointers.ensures.frame.within v w line h))
      (subst (λ os. IsPushedMore os c.in_ok-stands.stands.items c.enter_pointers.new.frame.arcs.items c.close.new.frame.arcs.items) (c.in_ok-enter_pointers.ensures.origins ∙ c.in_ok-enter_lines.ensures.origins)
      (subst (λ fs. IsPushedMore c.enter_pointers.new.frame.origins.items fs c.enter_pointers.new.frame.arcs.items c.close.new.frame.arcs.items) c.deref.ensures.value c.in_ok-close.ensures.more))),
  c.in_ok-close.ensures.frame,
  ap (λ (os : Origins). length os) (c.in_ok-close.ensures.origins ∙ c.in_ok-enter_pointers.ensures.origins ∙ c.in_ok-enter_lines.ensures.origins)
      ∙ c.in_ok-frame.ensures.origins.each,
)
