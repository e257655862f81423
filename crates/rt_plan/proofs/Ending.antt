-- Where each group is published.
use Rattle.std.proofs.Common.{◌≡◌, ℕ, Bool, true, false, Option, Some, None, refl, sym, ap, ◌∙◌, true≢false}
use Rattle.std.specs.Prelude.{if◌then◌else◌}
use Rattle.std.proofs.lemmas.List.Folds.{list_all_at}
use Rattle.rt_plan.specs.declared.event.State.TheVariants.{Open, Held}
use Rattle.rt_plan.specs.Plans.{Board, held_by, is_done, is_published, state_at}
use Rattle.rt_plan.proofs.Keeping.{held_state, held_within}

-- no worker holds one
pub done_holds_none : (board : Board) (w : ℕ) → is_done board ≡ true → held_by board w ≡ None
done_holds_none board w done = by (held_by board w) refl
  where
    by : (o : Option ℕ) → held_by board w ≡ o → held_by board w ≡ None
    by None q = q
    by (Some g) q =
        let held : state_at board g ≡ Held w = held_state board w g q in
        absurd (true≢false (sym done ∙ list_all_at is_published board.states g Open (held_within board w g held) (ap is_published held)))

-- so an event of publishing publishes what its worker holds
pub published_if : (board : Board) (w : ℕ) → held_by board w ≡ (if is_done board then None else held_by board w)
published_if board w = by (is_done board) refl
  where
    by : (b : Bool) → is_done board ≡ b → held_by board w ≡ (if b then None else held_by board w)
    by true done = done_holds_none board w done
    by false undone = refl
