use Rattle.std.proofs.Common.{◌≡◌, sym, subst, ◌∙◌}
use Rattle.rt_sat.specs.declared.state.Edge.{Edge}
use Rattle.rt_sat.specs.Searches.{Allows, IsWithin}
use Rattle.rt_sat.proofs.Growing.{noted_as}
use Rattle.rt_lines.proofs.Equal.{label_equal}
use Rattle.rt_sat.proofs.pushing.push_kept.Goals as goal

pub returns-in_ok-note-clause-noted : goal.returns-in_ok-note-clause-noted
returns-in_ok-note-clause-noted c = noted_as _ _ _ _ _ _
    (λ (e : Edge) (p : (e.from ≡ c.args.source) × (e.to ≡ c.args.target) × (e.count ≡ c.in_ok-copy.copy)).
    (p.0, p.1, label_equal c.args.first c.args.second (sym c.eq.ensures ∙ c.if-eq.true), sym (p.2 ∙ c.in_ok-copy.ensures)))
    c.in_ok-note.ensures.noted

pub returns-in_ok-note-clause-done : goal.returns-in_ok-note-clause-done
returns-in_ok-note-clause-done c = λ h e a.
    subst (λ k. IsWithin c.args.known.now c.args.target k) c.in_ok-copy.ensures (c.in_ok-note.ensures.done h (subst (Allows c.args.most) (sym c.in_ok-copy.ensures) a))
