use Rattle.std.proofs.Common.{◌≡◌, ℕ, true, List, sym, subst, ◌∙◌}
use Rattle.rt_rules.proofs.Carry.{are_there}
use Rattle.rt_sat.specs.Tables.{AreLows}
use Rattle.rt_sat.proofs.Below.{first_in, low_derived, low_whole}
use Rattle.rt_sat.proofs.Frames.{extra_named, side_named}
use Rattle.rt_sat.proofs.judging.has_low.Goals as goal

pub returns-then-not-is_there : goal.returns-then-not-is_there
returns-then-not-is_there c = (
  λ e. absurd (cc),
  λ d. (let t : c.is_there.result ≡ true = (c.is_there.ensures c.args.lines.now c.args.order.now c.requires.shape).1 (are_there c.args.order.now c.args.lines.now d) in absurd (cc)),
)

pub number-right-requires : goal.number-right-requires
number-right-requires c =
    extra_named c.args.lines.now c.deref.result.now c.in_ok-begun.begun.frame.named c.in_ok-begun.ensures.1.is_named c.args.x.now (first_in c.args.x.now _ c.deref.result.now (c.deref.ensures.value ∙ c.in_ok-extra.ensures))

pub lows-requires-clause-named : goal.lows-requires-clause-named
lows-requires-clause-named c = side_named c.args.lines.now c.deref.result.now c.in_ok-begun.begun.frame.named c.in_ok-begun.ensures.1.is_named

pub returns : goal.returns
returns c =
    low_derived c.args.order.now c.args.lines.now c.args.k c.args.x.now c.in_ok-yes.yes c.count.ensures.order c.requires.constants
    (low_whole c.args.lines.now c.deref.result.now c.in_ok-begun.ensures.0 c.in_ok-begun.begun c.in_ok-begun.ensures.1 c.deref-2.result.now c.deref-3.result.now c.in_ok-yes.yes c.in_ok-yes.ensures
    c.args.order.now c.args.k c.args.x.now c.number-right.result
    (subst (λ (xs : List ℕ). AreLows c.args.order.now c.args.lines.now c.in_ok-begun.begun.frame.named c.args.k xs) (sym c.deref-2.ensures.value) c.in_ok-sources.ensures)
    c.number-right.ensures (c.deref-3.ensures.value ∙ c.in_ok-targets.ensures))
