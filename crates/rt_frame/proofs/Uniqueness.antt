-- A procedure has one frame.
use Rattle.std.proofs.Common.{◌≡◌, ◌⊎◌, inl, inr, ℕ, ℤ, ◌<◌, ◌≤◌, List, length, sym, subst, ◌∙◌, arith}
use Rattle.std.specs.Prelude.{◌<ℤ◌}
use Rattle.std.proofs.lemmas.Bool.{cases_lt}
use Rattle.std.proofs.lemmas.Int.{ints}
use Rattle.rt_flow.specs.Bodies.{AreReaching}
use Rattle.rt_body.specs.Readings.{Reading}
use Rattle.rt_proc.proofs.Ordered.{one_ordered}
use Rattle.rt_body.proofs.Uniqueness.{one_reaching}
use Rattle.rt_liveness.specs.declared.call.Call.{Call}
use Rattle.rt_frame.specs.Frames.{Frame, Layout, IsFrameOf, IsSaved, IsTaken, frame_body}

less_one_way : (a b : ℤ) → a <ℤ b → b <ℤ a → ⊥
less_one_way a b p q = omega (arith, ints)

module _ (reading : Reading) (calls : List (List Call)) (a b : Frame) (x : IsFrameOf reading calls a) (y : IsFrameOf reading calls b) where
  layout_same : a.layout ≡ b.layout
  layout_same = λ i. record {
    taken = one_ordered (λ j k. j <ℤ k) less_one_way (IsTaken reading calls) a.layout.taken b.layout.taken x.taken_ascending x.taken y.taken_ascending y.taken i;
    saved = one_ordered (λ j k. j <ℤ k) less_one_way (IsSaved reading) a.layout.saved b.layout.saved x.saved_ascending x.saved y.saved_ascending y.saved i;
  }

  reached_same : (site : ℕ) (loc : ℤ) → a.reaching site loc ≡ b.reaching site loc
  reached_same site loc = by (cases_lt site (length reading.actions))
    where
      by : (site < length reading.actions) ⊎ (length reading.actions ≤ site) → a.reaching site loc ≡ b.reaching site loc
      by (inl less) =
          one_reaching (frame_body reading a.layout) loc site (a.reaching site loc) (b.reaching site loc) (x.reaching site loc less)
          (subst (λ (layout : Layout). AreReaching (frame_body reading layout) loc site (b.reaching site loc)) (sym layout_same) (y.reaching site loc less))
      by (inr past) = x.reaching_else site loc past ∙ sym (y.reaching_else site loc past)

  pub one_frame : a ≡ b
  one_frame = λ i. record { layout = layout_same i; reaching = λ site loc. reached_same site loc i }
