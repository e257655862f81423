use Rattle.std.proofs.Common.{ℕ, ◌∙◌, List, Contains, length, sym, subst, arith}
use Rattle.std.proofs.lemmas.Bool.{eqb-true}
use Rattle.rt_ways.specs.Arcs.{AreMore, AreRows, IsInRow}
use Rattle.rt_ways.specs.Pushes.{IsClosed, IsPushed}
use Rattle.rt_ways.proofs.Closed.{closed_rows, closing_first, closing_more, no_items, pushed_left}
use Rattle.rt_ways.proofs.closing.close.Goals as goal

pub loop-init : goal.loop-init
loop-init c = record { closing = closing_first c.args.named.now c.args.arcs.items c.requires.each c.requires.within; limit = omega arith }

pub enter-requires : goal.enter-requires
enter-requires c = λ v w h.
    pushed_left c.args.named.now c.args.arcs.items c.loop.arcs.items c.in_ok-rows.rows.items c.loop.invariant.closing
    (subst (λ (xs : List (List ℕ)). AreRows (IsInRow xs) (length xs) c.in_ok-rows.rows.items) c.deref.ensures.value c.in_ok-rows.ensures) v w
    (subst (λ (xs : List (List ℕ)). IsPushed c.args.named.now (IsInRow xs) v w) c.deref-in-loop.ensures.value
    (c.in_ok-fresh.ensures.pushed v w (subst (λ (xs : List (ℕ × ℕ)). Contains xs (v, w)) c.deref-in-loop-2.ensures.value h)))

pub loop-preserved : goal.loop-preserved
loop-preserved c = record {
  closing =
      closing_more c.args.named.now c.args.arcs.items c.loop.arcs.items c.in_ok-rows.rows.items c.loop.invariant.closing
      (subst (λ (xs : List (List ℕ)). AreRows (IsInRow xs) (length xs) c.in_ok-rows.rows.items) c.deref.ensures.value c.in_ok-rows.ensures)
      c.in_ok-fresh.fresh.items c.enter.new.arcs.items
      (λ v w h. subst (λ (xs : List (List ℕ)). IsPushed c.args.named.now (IsInRow xs) v w) c.deref-in-loop.ensures.value (c.in_ok-fresh.ensures.pushed v w h))
      (subst (λ (xs : List (ℕ × ℕ)). AreMore (λ v w. Contains xs (v, w)) c.loop.arcs.items c.enter.new.arcs.items) c.deref-in-loop-2.ensures.value c.in_ok-enter.ensures);
  limit = omega (arith, c.saturating_mul-limit.ensures, c.loop.invariant.limit);
}

pub returns-then-is_empty : goal.returns-then-is_empty
returns-then-is_empty c =
    closed_rows c.args.named.now c.args.arcs.items c.loop.arcs.items c.in_ok-rows.rows.items c.loop.invariant.closing
    (subst (λ (xs : List (List ℕ)). AreRows (IsInRow xs) (length xs) c.in_ok-rows.rows.items) c.deref.ensures.value c.in_ok-rows.ensures)
    (subst (λ (xs : List (List ℕ)). IsClosed c.args.named.now (IsInRow xs)) c.deref-in-loop.ensures.value (c.in_ok-fresh.ensures.done (no_items c.in_ok-fresh.fresh.items (omega (arith, c.in_ok-fresh.fresh.ok.0, eqb-true _ 0 (sym c.is_empty.ensures ∙ c.if-is_empty.true))))))
