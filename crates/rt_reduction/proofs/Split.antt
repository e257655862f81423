-- What is left when fields became existentials of their own: one list, alike, and of the same sides.
use Rattle.std.proofs.Common.{◌≡◌, ℕ, ◌+◌, ◌⊎◌, inl, inr, List, [], ◌∷◌, map, length, Contains, Bool, true, Option, refl, sym, ap, subst}
use Rattle.std.proofs.Common.{◌∙◌, arith}
use Rattle.std.proofs.lemmas.List.{length-append, length-map}
use Rattle.std.proofs.lemmas.List.Elements.{Contains-append_cases}
use Rattle.rt_base.proofs.Lists.{Contains-map_source}
use Rattle.rt_lines.specs.declared.label.Label.{Label}
use Rattle.rt_lines.specs.declared.variable.Base.{Base}
use Rattle.rt_lines.specs.declared.variable.Base.TheVariants.{Exist}
use Rattle.rt_lines.specs.declared.variable.Dtv.{Dtv}
use Rattle.rt_lines.specs.declared.line.Line.{Line}
use Rattle.rt_lines.specs.declared.line.Line.TheVariants.{Var, Same, Sub, Low, Up}
use Rattle.rt_lines.specs.Orders.{Below}
use Rattle.rt_rules.specs.Rules.{HasSide}
use Rattle.rt_rules.specs.Alike.{Alike}
use Rattle.rt_rules.specs.Put.{exist}
use Rattle.rt_rules.proofs.Covering.{Alike-refl, Alike-trans}
use Rattle.rt_polar.specs.Tidied.{tidied}
use Rattle.rt_polar.proofs.AlikeTidied.{Alike-tidied}
use Rattle.rt_record.specs.Records.{part, moved, moved_line, moves, shape_line, split}
use Rattle.rt_record.specs.Slots.{numbers, HasNoneSplit, IsSplit}
use Rattle.rt_record.proofs.Moving.{IsFlowSide, Moves, Stays, moving, moves_source}
use Rattle.rt_record.proofs.Splitting.{splits_alike_lem}
use Rattle.rt_record.proofs.Numbered.{parts_lem, one_split_lem}
use Rattle.rt_reduction.specs.Rounds.{Prepares, Splits, whole, splits}
use Rattle.rt_reduction.proofs.FromSides.{IsSideOf, IsFrom, AreFrom, from_side, from_self, from_chain, from_tidied}
use Rattle.rt_reduction.proofs.Prepared.{one_prepares, prepares_alike, from_prepares}

module _ (parts : ℕ → Label → Option ℕ) (lines : List Line) where
  -- a variable that moves is one of an existential
  from_moved : (y x : Dtv) → IsSideOf lines y → moved parts y ≡ x → IsFrom lines x
  from_moved y x s e = by (moving parts y)
    where
      by : Stays parts y ⊎ ((m : ℕ) × Moves parts y m) → IsFrom lines x
      by (inl p) = from_side lines x (subst (IsSideOf lines) (sym p.0 ∙ e) s)
      by (inr (m, r)) = inl (m, ap (λ z. z.base) (sym e ∙ r.goes))

  from_line : (l : Line) (x : Dtv) → Contains lines l → HasSide (moved_line parts l) x → IsFrom lines x
  from_line (Var y) x c h = from_side lines x (Var y, c, h)
  from_line (Same y z) x c h = from_side lines x (Same y z, c, h)
  from_line (Sub y z) x c (inl h) = from_moved y x (Sub y z, c, inl refl) h
  from_line (Sub y z) x c (inr h) = from_moved z x (Sub y z, c, inr refl) h
  from_line (Low k y) x c h = from_moved y x (Low k y, c, refl) h
  from_line (Up y k) x c h = from_moved y x (Up y k, c, refl) h

  from_shape : (m : ℕ) (z x : Dtv) → Contains (moves parts lines) (m, z) → HasSide (Same (exist m) z) x → IsFrom lines x
  from_shape m z x c (inl h) = inl (m, ap (λ y. y.base) (sym h))
  from_shape m z x c (inr h) =
      let s : (y : Dtv) × (r : Moves parts y m) × IsFlowSide lines y × (z ≡ part r.holder r.access r.field []) =
      moves_source parts lines m z c in
      inl (s.1.holder, ap (λ y. y.base) (sym h ∙ s.3))

  from_split : AreFrom lines (split parts lines)
  from_split x (l, c, h) = by (Contains-append_cases (map (moved_line parts) lines) (map shape_line (moves parts lines)) l c)
    where
      by : Contains (map (moved_line parts) lines) l ⊎ Contains (map shape_line (moves parts lines)) l → IsFrom lines x
      by (inl d) =
          let s : (k : Line) × Contains lines k × (moved_line parts k ≡ l) = Contains-map_source (moved_line parts) lines l d in
          from_line s.0 x s.1 (subst (λ k. HasSide k x) (sym s.2) h)
      by (inr d) =
          let s : (p : ℕ × Dtv) × Contains (moves parts lines) p × (shape_line p ≡ l) =
          Contains-map_source shape_line (moves parts lines) l d in
          from_shape s.0.0 s.0.1 x s.1 (subst (λ k. HasSide k x) (sym s.2) h)

  split_count : length (split parts lines) ≡ length lines + length (moves parts lines)
  split_count =
      length-append (map (moved_line parts) lines) (map shape_line (moves parts lines))
      ∙ ap (λ n. n + length (map shape_line (moves parts lines))) (length-map lines (moved_line parts))
      ∙ ap (λ n. length lines + n) (length-map (moves parts lines) shape_line)

from_parted : (lines parted : List Line) → IsSplit lines parted → AreFrom lines parted
from_parted lines parted (holds, are, some, e) = subst (AreFrom lines) (sym e) (from_split (numbers holds lines) lines)

-- sides come from sides
pub from_splits : (left start : List Line) → Splits left start → AreFrom start left
from_splits left start (whole none) = from_self left
from_splits left start (splits _ parted ready s p rest) =
    from_chain start parted left (from_parted start parted s)
    (from_chain parted (tidied parted) left (from_tidied parted)
    (from_chain (tidied parted) ready left (from_prepares ready (tidied parted) p) (from_splits left ready rest)))

parted_alike : (order : Below) (inside : Base → Bool) (lines parted : List Line) → ((n : ℕ) → inside (Exist n) ≡ true) →
    IsSplit lines parted → Alike order inside lines parted
parted_alike order inside lines parted inner (holds, are, some, e) =
    subst (Alike order inside lines) (sym e)
    (splits_alike_lem order inside lines holds (numbers holds lines) inner (parts_lem lines holds are))

-- where every existential is inside, the outside can derive the same
pub splits_alike : (order : Below) (inside : Base → Bool) (left start : List Line) → ((n : ℕ) → inside (Exist n) ≡ true) →
    Splits left start → Alike order inside start left
splits_alike order inside left start inner (whole none) = Alike-refl order inside left
splits_alike order inside left start inner (splits _ parted ready s p rest) =
    Alike-trans order inside start parted left (parted_alike order inside start parted inner s)
    (Alike-trans order inside parted (tidied parted) left (Alike-tidied order inside parted)
    (Alike-trans order inside (tidied parted) ready left (prepares_alike order inside ready (tidied parted) inner p)
    (splits_alike order inside left ready inner rest)))

one_parted : (lines first second : List Line) → IsSplit lines first → IsSplit lines second → first ≡ second
one_parted lines first second (holds, are, some, e) (other, too, more, f) = e ∙ one_split_lem lines holds other are too ∙ sym f

without_length : (xs : List (ℕ × Dtv)) → length xs ≡ 0 → xs ≡ []
without_length [] e = refl
without_length (x ∷ xs) e = absurd (omega (arith, e))

rest_none : (n k m : ℕ) → n + k ≡ n + m → m ≡ 0 → k ≡ 0
rest_none n k m e f = omega (arith, e, f)

-- either a field gets a number or none does
not_both : (lines parted : List Line) → HasNoneSplit lines → IsSplit lines parted → ⊥
not_both lines parted (holds, are, none) (other, too, some, e) = some (without_length (moved_by other) (rest_none (length lines)
    (length (moved_by other)) (length (moved_by holds)) counts (ap length none)))
  where
    moved_by : (ℕ → Bool) → List (ℕ × Dtv)
    moved_by flags = moves (numbers flags lines) lines

    counts : length lines + length (moved_by other) ≡ length lines + length (moved_by holds)
    counts =
        sym (split_count (numbers other lines) lines) ∙ ap length (one_split_lem lines other holds too are)
        ∙ split_count (numbers holds lines) lines

-- one step
data Steps (left lines : List Line) : Type 0 where
  ends_here : HasNoneSplit lines → left ≡ lines → Steps left lines
  goes_on : (parted ready : List Line) → IsSplit lines parted → Prepares ready (tidied parted) → Splits left ready → Steps left lines

steps : {left lines : List Line} → Splits left lines → Steps left lines
steps (whole none) = ends_here none refl
steps (splits lines parted ready s p rest) = goes_on parted ready s p rest

-- one list is left
pub one_splits : (left other start : List Line) → Splits left start → Splits other start → left ≡ other
one_splits left other start (whole none) b = by (steps b)
  where
    by : Steps other left → left ≡ other
    by (ends_here none' e) = sym e
    by (goes_on parted ready s p rest) = absurd (not_both left parted none s)
one_splits left other start (splits _ parted ready s p rest) b = by (steps b) (one_splits left other ready rest)
  where
    by : Steps other start → (Splits other ready → left ≡ other) → left ≡ other
    by (ends_here none e) induction = absurd (not_both start parted none s)
    by (goes_on parted' ready' s' p' rest') induction =
        let e : parted' ≡ parted = one_parted start parted' parted s' s in
        let f : ready' ≡ ready = one_prepares ready' ready (tidied parted) (subst (λ ls. Prepares ready' (tidied ls)) e p') p in
        induction (subst (Splits other) f rest')
