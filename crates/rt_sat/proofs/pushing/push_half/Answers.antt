use Rattle.std.proofs.Common.{◌≡◌, ◌≤◌, sym, subst, arith}
use Rattle.rt_sat.specs.declared.state.Edge.{Edge}
use Rattle.rt_sat.specs.Numbered.{sign_of}
use Rattle.rt_sat.specs.Pushes.{IsHalf}
use Rattle.rt_sat.specs.Searches.{IsWithin}
use Rattle.rt_sat.proofs.Searching.{allows_less}
use Rattle.rt_sat.proofs.Growing.{noted_as}
use Rattle.rt_sat.proofs.pushing.push_half.Goals as goal

pub returns-in_ok-note-clause-noted : goal.returns-in_ok-note-clause-noted
returns-in_ok-note-clause-noted c = noted_as _ _ _ _ _ _
    (λ (e : Edge) (p : (e.from ≡ c.args.source) × (e.to ≡ c.args.target) × (e.count ≡ c.in_ok-half.half)). (
      p.0,
      p.1,
      subst (λ k. IsHalf c.args.flip c.args.first c.args.second c.args.count.now (sign_of c.args.source.contra) (sign_of c.args.target.contra) k) (sym p.2) (record {
        flips = c.if-flip.true;
        left = c.is_pointer.ensures.0 c.if-is_pointer.true;
        right = c.is_pointer-then-is_pointer.ensures.0 c.if-is_pointer-2.true;
        enough = c.in_ok-half.ensures.enough;
        parity = c.in_ok-half.ensures.parity;
      }),
    ))
    c.in_ok-note.ensures.noted

pub returns-in_ok-note-clause-done : goal.returns-in_ok-note-clause-done
returns-in_ok-note-clause-done c = λ h k i a.
    let less : c.in_ok-half.half ≤ k = c.in_ok-half.ensures.least k i.enough i.parity in
    let w : IsWithin c.args.known.now c.args.target c.in_ok-half.half = c.in_ok-note.ensures.done h (allows_less c.args.most c.in_ok-half.half k less a) in
    (w.0, w.1, omega (arith, w.2, less))
