use Rattle.std.proofs.Common.{◌≡◌, ℕ, ◌-◌, inl, inr, Some, sym, ap, subst, ◌∙◌, arith}
use Rattle.std.specs.Prelude.{slice_get}
use Rattle.std.proofs.lemmas.Option.{get_or_from_slice_get, slice_get_within}
use Rattle.rt_polar.proofs.Holding.{same_or_apart}
use Rattle.rt_reduction.specs.Emits.{is_flow}
use Rattle.rt_reduce.proofs.dropping.shape_place.Goals as goal

pub loop-place-init : goal.loop-place-init
loop-place-init c = record {
  within = omega arith;
  shape = λ i l h at. let less = slice_get_within c.args.lines.now i l at in absurd (omega (arith, h, less));
}

pub loop-place-preserved : goal.loop-place-preserved
loop-place-preserved c =
    let place = c.loop-place.place in
    let lines = c.args.lines.now in
    let inv = c.loop-place.invariant in
    let more = c.loop-place-test.true in
    record {
      within = omega (arith, inv.within);
      shape = λ i l h at. elim (same_or_apart i (place - 1)) [
        | inl e ↦ (
            let here : slice_get lines (place - 1) ≡ Some l = subst (λ (k : ℕ). slice_get lines k ≡ Some l) e at in
            let same : c.index-lines-place.result ≡ l =
            c.index-lines-place.is ∙ get_or_from_slice_get lines (place - 1) l c.index-lines-place.result here in
            ap is_flow (sym same) ∙ sym c.if-not-is_flow.ensures)
        | inr apart ↦ inv.shape i l (omega (arith, h, apart, more)) at
      ];
    }
