-- Nodes with a load and a store below others.
use Rattle.std.proofs.Common.{◌≡◌, ℕ, ◌<◌, ◌≤◌, ◌⊎◌, inl, inr, Bool, true, false, List, [], Contains, Option, Some, None, length, get_or, refl, sym, subst, ap, ◌∙◌, arith}
use Rattle.std.specs.Prelude.{slice_get}
use Rattle.std.proofs.lemmas.List.{get_or_past}
use Rattle.std.proofs.lemmas.List.Elements.{Contains-get_or}
use Rattle.std.proofs.lemmas.Option.{slice_get-get_or, slice_get_within}
use Rattle.rt_components.specs.Groups.{Reaches}
use Rattle.rt_components.specs.Groups.Reaches.{there, onward}
use Rattle.rt_components.proofs.Reaching.{reaches_by}
use Rattle.rt_lines.specs.declared.label.Label.{Label}
use Rattle.rt_lines.specs.declared.variable.Dtv.{Dtv}
use Rattle.rt_lines.specs.declared.line.Line.{Line}
use Rattle.rt_lines.specs.declared.line.Line.TheVariants.{Sub}
use Rattle.rt_outline.specs.declared.arc.Arc.{Arc}
use Rattle.rt_outline.specs.Arcs.{HasArc, Leads}
use Rattle.rt_outline.specs.Frames.{Origins, IsFrame}
use Rattle.rt_outline.specs.Hubs.{HasAccess, HasLower, HasLowest, IsGrownBy, IsLower}
use Rattle.rt_outline.specs.Lines.{AreLineArcs, IsLineArc}
use Rattle.rt_outline.proofs.Gathered.{access_kept}
use Rattle.rt_outline.proofs.Pushing.{reaches_join}

-- arcs whichever they are
abbrev pub AnyArc : List (List Arc) → ℕ → ℕ → Type 0
AnyArc arcs v w = (line : Option ℕ) × HasArc arcs v w line

flag_set : (flips : List Bool) (v : ℕ) → get_or flips v false ≡ true → slice_get flips v ≡ Some true
flag_set flips v e = elim (below v) [
  | inl less ↦ slice_get-get_or flips v false less ∙ ap Some e
  | inr past ↦ absurd (let f : get_or flips v false ≡ false = get_or_past flips v false past in let g : true ≡ false = sym e ∙ f in cc)
]
  where
    below : (v : ℕ) → (v < length flips) ⊎ (length flips ≤ v)
    below v = grind arith

pub lowest_own : (origins : Origins) (arcs : List (List Arc)) (n : ℕ) → HasAccess origins n → HasLowest origins arcs n
lowest_own origins arcs n a = (n, a, there)

-- from what an arc leads from
pub lowest_onward : (origins : Origins) (arcs : List (List Arc)) (flips : List Bool) (n : ℕ) → HasLower origins arcs flips n →
    ((v : ℕ) → v < n → slice_get flips v ≡ Some true → HasLowest origins arcs v) → HasLowest origins arcs n
lowest_onward origins arcs flips n (v, is, a) before = elim is [
  | inl access ↦ (v, access, onward a there)
  | inr less ↦ (
      let f : slice_get flips v ≡ Some true = flag_set flips v less.1 in
      let r : HasLowest origins arcs v = before v less.0 f in
      (r.0, r.1, reaches_join (AnyArc arcs) r.2 (onward a there))
      )
]

-- an arc the other way from a node
pub lower_at : (origins : Origins) (steps : List ((ℕ × Label) × ℕ)) (arcs back : List (List Arc)) (flips : List Bool) (n i : ℕ) (leaving : List Arc) (d : Arc) →
    IsFrame origins steps arcs back → leaving ≡ get_or back n [] → i < length leaving → IsLower origins flips n (get_or leaving i d).to → HasLower origins arcs flips n
lower_at origins steps arcs back flips n i leaving d frame are less lower =
    let arc : Arc = get_or leaving i d in
    (arc.to, lower, (arc.line, (frame.turned arc.to n arc.line).1 (subst (λ (xs : List Arc). Contains xs arc) are (Contains-get_or leaving i d less))))

-- and where there are more nodes and arcs
pub lowest_kept : (old new : Origins) (arcs next : List (List Arc)) → IsGrownBy old arcs new next → (n : ℕ) → HasLowest old arcs n → HasLowest new next n
lowest_kept old new arcs next grown n (h, a, r) =
    (h, access_kept old grown.more new grown.behind h a, reaches_by (AnyArc arcs) (AnyArc next) (λ v w e. (e.0, grown.kept v w e.0 e.1)) r)

-- along arcs of lines that stand
pub lowest_open : (lines : List Line) (known : List Dtv) (origins : Origins) (arcs : List (List Arc)) (stands : List Bool) →
    AreLineArcs lines (length lines) known arcs → ((i : ℕ) → i < length lines → get_or stands i false ≡ true) → (n : ℕ) →
    HasLowest origins arcs n → (h : ℕ) × HasAccess origins h × Reaches (Leads arcs stands true) h n
lowest_open lines known origins arcs stands are set n (h, a, r) = (h, a, reaches_by (AnyArc arcs) (Leads arcs stands true) (λ v w e. followed v w e.0 e.1) r)
  where
    followed : (v w : ℕ) (line : Option ℕ) → HasArc arcs v w line → Leads arcs stands true v w
    followed v w None e = (None, e, refl)
    followed v w (Some i) e =
        let is : IsLineArc lines known v w i = are.only v w i e in
        (Some i, e, set i (slice_get_within lines i (Sub is.left is.right) is.line))
