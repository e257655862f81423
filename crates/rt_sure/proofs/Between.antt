-- What arcs that lead, or don't, say of the variables of their numbers.
use Rattle.std.proofs.Common.{◌≡◌, ℕ, ◌<◌, Bool, true, List, Contains, length, sym, subst}
use Rattle.rt_lines.specs.declared.variable.Dtv.{Dtv}
use Rattle.rt_lines.specs.declared.line.Line.{Line}
use Rattle.rt_lines.specs.Orders.{Below}
use Rattle.rt_outline.specs.declared.arc.Arc.{Arc}
use Rattle.rt_outline.specs.Arcs.{Leads, MayLead}
use Rattle.rt_outline.specs.Lines.{Lined, standing}
use Rattle.rt_sat.specs.Tables.{HasBelow}
use Rattle.rt_sure.specs.Arcs.{AreAround, AreInside}

module _ (lines : List Line) (named : List Dtv) (arcs : List (List Arc)) (stands : List Bool) (sources targets : List ℕ) (view : Lined)
    (is : record { lines = lines; named = named } ≡ view)
    (few : (s : ℕ) → Contains sources s → s < length view.named) (small : (t : ℕ) → Contains targets t → t < length view.named)
    (order : Below) where
  within : (n : ℕ) → n < length view.named → n < length named
  within n h = subst (λ (v : Lined). n < length v.named) (sym is) h

  -- what lies below leads
  pub below_leads : AreAround lines named arcs → HasBelow order (standing view.lines stands) view.named sources targets →
      MayLead (Leads arcs stands true) sources targets
  below_leads around h = by (subst (λ (v : Lined). HasBelow order (standing v.lines stands) v.named sources targets) (sym is) h)
    where
      by : HasBelow order (standing lines stands) named sources targets → MayLead (Leads arcs stands true) sources targets
      by (s, t, c, d, e) = (s, t, c, around order stands s t (within s (few s c)) (within t (small t d)) e, d)

  -- what leads lies below
  pub leads_below : AreInside lines named arcs → MayLead (Leads arcs stands true) sources targets →
      HasBelow order view.lines view.named sources targets
  leads_below inside (s, t, c, r, d) =
      subst (λ (v : Lined). HasBelow order v.lines v.named sources targets) is
      (s, t, c, d, inside order stands s t (within s (few s c)) (within t (small t d)) r)
