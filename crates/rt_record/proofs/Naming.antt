-- Which bases the split lines name.
use Rattle.std.proofs.Common.{◌≡◌, ℕ, ◌⊎◌, inl, inr, List, [], map, Contains, Option, sym, ap, subst, ◌∙◌}
use Rattle.std.proofs.lemmas.List.Elements.{Contains-append_cases, Contains-append_left}
use Rattle.rt_base.proofs.Lists.{Contains-map, Contains-map_source}
use Rattle.rt_lines.specs.declared.label.Label.{Label}
use Rattle.rt_lines.specs.declared.variable.Base.{Base}
use Rattle.rt_lines.specs.declared.variable.Base.TheVariants.{Exist}
use Rattle.rt_lines.specs.declared.variable.Dtv.{Dtv}
use Rattle.rt_lines.specs.declared.line.Line.{Line}
use Rattle.rt_lines.specs.declared.line.Line.TheVariants.{Var, Same, Sub, Low, Up}
use Rattle.rt_rules.specs.Rules.{HasSide}
use Rattle.rt_rules.specs.Laws.{NamesBase}
use Rattle.rt_rules.specs.Put.{exist}
use Rattle.rt_record.specs.Records.{part, moved, moved_line, moves, shape_line, split}
use Rattle.rt_record.specs.Laws.{SplitsNamesLaw}
use Rattle.rt_record.proofs.Moving.{IsFlowSide, Moves, Stays, moving, moves_source}
use Rattle.rt_record.proofs.Splitting.{outer_stays}

module _ (parts : ℕ → Label → Option ℕ) (b : Base) (none : (n : ℕ) → b ≡ Exist n → ⊥) where
  -- a variable that is moved to one of the base is there itself
  moved_source : (y x : Dtv) → moved parts y ≡ x → x.base ≡ b → y ≡ x
  moved_source y x e f = by (moving parts y)
    where
      by : Stays parts y ⊎ ((m : ℕ) × Moves parts y m) → y ≡ x
      by (inl p) = sym p.0 ∙ e
      by (inr (m, s)) = absurd (none m (sym f ∙ ap (λ z. z.base) (sym e ∙ s.goes)))

  side_source : (l : Line) (x : Dtv) → HasSide (moved_line parts l) x → x.base ≡ b → HasSide l x
  side_source (Var y) x h f = h
  side_source (Same y z) x h f = h
  side_source (Sub y z) x (inl h) f = inl (moved_source y x h f)
  side_source (Sub y z) x (inr h) f = inr (moved_source z x h f)
  side_source (Low k y) x h f = moved_source y x h f
  side_source (Up y k) x h f = moved_source y x h f

  side_stays : (l : Line) (x : Dtv) → HasSide l x → moved parts x ≡ x → HasSide (moved_line parts l) x
  side_stays (Var y) x h e = h
  side_stays (Same y z) x h e = h
  side_stays (Sub y z) x (inl h) e = inl (ap (moved parts) h ∙ e)
  side_stays (Sub y z) x (inr h) e = inr (ap (moved parts) h ∙ e)
  side_stays (Low k y) x h e = ap (moved parts) h ∙ e
  side_stays (Up y k) x h e = ap (moved parts) h ∙ e

  not_shape : (lines : List Line) (m : ℕ) (z x : Dtv) → Contains (moves parts lines) (m, z) → HasSide (Same (exist m) z) x → x.base ≡ b → ⊥
  not_shape lines m z x c (inl h) f = none m (sym f ∙ ap (λ y. y.base) (sym h))
  not_shape lines m z x c (inr h) f =
      let s : (y : Dtv) × (s : Moves parts y m) × IsFlowSide lines y × (z ≡ part s.holder s.access s.field []) = moves_source parts lines m z c in
      none s.1.holder (sym f ∙ ap (λ y. y.base) (sym h ∙ s.3))

  forth : (lines : List Line) → NamesBase (split parts lines) b → NamesBase lines b
  forth lines (l, x, c, h, e) = by (Contains-append_cases (map (moved_line parts) lines) (map shape_line (moves parts lines)) l c)
    where
      by : Contains (map (moved_line parts) lines) l ⊎ Contains (map shape_line (moves parts lines)) l → NamesBase lines b
      by (inl d) =
          let s : (k : Line) × Contains lines k × (moved_line parts k ≡ l) = Contains-map_source (moved_line parts) lines l d in
          (s.0, x, s.1, side_source s.0 x (subst (λ k. HasSide k x) (sym s.2) h) e, e)
      by (inr d) =
          let s : (p : ℕ × Dtv) × Contains (moves parts lines) p × (shape_line p ≡ l) = Contains-map_source shape_line (moves parts lines) l d in
          absurd (not_shape lines s.0.0 s.0.1 x s.1 (subst (λ k. HasSide k x) (sym s.2) h) e)

  back : (lines : List Line) → NamesBase lines b → NamesBase (split parts lines) b
  back lines (l, x, c, h, e) = (
    moved_line parts l,
    x,
    Contains-append_left (map (moved_line parts) lines) (map shape_line (moves parts lines)) (moved_line parts l)
        (Contains-map (moved_line parts) lines l c),
    side_stays l x h (outer_stays parts x.base x.word (λ n f. none n (sym e ∙ f))),
    e,
  )

pub splits_names_lem : SplitsNamesLaw
splits_names_lem lines parts b none = (forth parts b none lines, back parts b none lines)
