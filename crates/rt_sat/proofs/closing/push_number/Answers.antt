use Rattle.std.proofs.Common.{true}
use Rattle.rt_sat.specs.declared.layers.Layers.{Layers}
use Rattle.rt_sat.specs.Pushes.{pushed_of, IsStill}
use Rattle.rt_sat.proofs.Growing.{all_more, all_still, closed_same}
use Rattle.rt_sat.proofs.Pushed.{both_signs}
use Rattle.rt_sat.proofs.closing.push_number.Goals as goal

pub push_below-requires-2-clause-indexed : goal.push_below-requires-2-clause-indexed
push_below-requires-2-clause-indexed c = c.in_ok-push_below.ensures.grown.indexed c.requires.indexed

pub returns : goal.returns
returns c =
    let known = c.args.frame.now.named in
    let flips = c.args.frame.now.flips.items in
    let matters = c.args.frame.now.matters.items in
    let old : Layers = c.args.layers.now in
    let mid : Layers = c.push_below.new.layers in
    let new : Layers = c.push_below-2.new.layers in
    record {
      grown = all_more known flips old mid new c.in_ok-push_below.ensures.grown c.in_ok-push_below-2.ensures.grown;
      done = λ h.
          (let t : IsStill old mid × IsStill mid new = all_still known flips old mid new c.in_ok-push_below.ensures.grown c.in_ok-push_below-2.ensures.grown h in
          both_signs known flips matters old.edges.items (pushed_of old) c.args.number
          (c.in_ok-push_below.ensures.done t.0)
          (λ child l k. closed_same known flips matters old mid child (record { variable = c.args.number; contra = true }) l t.0 c.in_ok-push_below.ensures.grown.lines (c.in_ok-push_below-2.ensures.done t.1 child l k)));
    }
