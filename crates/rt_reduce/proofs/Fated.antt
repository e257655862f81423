-- What is known to become of lines, as they go one after another.
use Rattle.std.proofs.Common.{◌≡◌, ℕ, zero, suc, ◌+◌, ◌<◌, ◌≤◌, ◌⊎◌, inl, inr, List, [], ◌∷◌, Bool, true, false, Contains, Some}
use Rattle.std.proofs.Common.{length, get_or, replicate, set, refl, sym, ap, subst, ◌∙◌, arith}
use Rattle.std.specs.List.{remove}
use Rattle.std.specs.Prelude.{slice_get}
use Rattle.std.proofs.lemmas.List.{get_or-replicate, get_or-set_other, get_or_past}
use Rattle.std.proofs.lemmas.Option.{get_or_from_slice_get}
use Rattle.rt_base.proofs.Lists.{Contains-none}
use Rattle.rt_lines.specs.declared.line.Line.{Line}
use Rattle.rt_lines.specs.Orders.{Below}
use Rattle.rt_rules.specs.Rules.{Derivable}
use Rattle.rt_named.specs.Naming.{named as named_by}
use Rattle.rt_outline.specs.Lines.{Lined, standing}
use Rattle.rt_sure.specs.declared.fate.Fate.{Fate}
use Rattle.rt_sure.specs.declared.fate.Fate.TheVariants.{Stays, Goes, Open}
use Rattle.rt_sure.specs.Fates.{fate_at, AreGoing, DerivesAll, DoStay, HasBefore, HasStaying}
use Rattle.rt_reduce.specs.Inside.Deciding.{AreWitnessed, IsInnerFor}
use Rattle.rt_reduce.specs.Inside.Dropping.{AreFated, AreStaying, IsFatedAt, IsMoved}
use Rattle.rt_reduce.proofs.Made.{first_inner, inner_out}
use Rattle.rt_reduce.proofs.Flags.{set_again, standing_at, standing_gone, standing_has}

-- lines with the variables that they name
abbrev pub named_lines : List Line → Lined
named_lines lines = record { lines = lines; named = named_by lines [] }

-- all lines derive all
pub first_made : (order : Below) (lines left : List Line) → left ≡ lines → IsInnerFor order left (named_lines lines)
first_made order lines left e = first_inner order lines left (named_lines lines)
    (record { extra = []; own = refl; names = refl; given = λ x c. absurd (Contains-none x c) }) e

-- a flag that was cleared
cleared : (flags : List Bool) (i : ℕ) → get_or (set flags i false) i false ≡ false
cleared [] i = refl
cleared (f ∷ flags) zero = refl
cleared (f ∷ flags) (suc i) = cleared flags i

-- each other flag is as it was
other_or_same : (flags : List Bool) (i j : ℕ) → (get_or (set flags i false) j false ≡ get_or flags j false) ⊎ (j ≡ i)
other_or_same [] i j = inl refl
other_or_same (f ∷ flags) zero zero = inr refl
other_or_same (f ∷ flags) zero (suc j) = inl refl
other_or_same (f ∷ flags) (suc i) zero = inl refl
other_or_same (f ∷ flags) (suc i) (suc j) = by (other_or_same flags i j)
  where
    by : (get_or (set flags i false) j false ≡ get_or flags j false) ⊎ (j ≡ i) →
        (get_or (set (f ∷ flags) (suc i) false) (suc j) false ≡ get_or (f ∷ flags) (suc j) false) ⊎ (suc j ≡ suc i)
    by (inl e) = inl e
    by (inr e) = inr (ap suc e)

before_or_behind : (i j : ℕ) → (i < j) ⊎ (j ≤ i)
before_or_behind i zero = inr (omega arith)
before_or_behind zero (suc j) = inl (omega arith)
before_or_behind (suc i) (suc j) = by (before_or_behind i j)
  where
    by : (i < j) ⊎ (j ≤ i) → (suc i < suc j) ⊎ (suc j ≤ suc i)
    by (inl h) = inl (omega (arith, h))
    by (inr h) = inr (omega (arith, h))

module _ (order : Below) (lines left : List Line) (stands : List Bool) (place : ℕ) (fates : List Fate)
    (fated : AreFated order lines stands fates) (are : AreWitnessed lines left stands (place + 1))
    (made : IsInnerFor order left (named_lines lines)) (within : place < length left) where
  others : remove left place ≡ standing lines (set stands place false)
  others = (standing_gone left stands place (record { lines = lines; named = named_by lines [] }) are).left_are

  here : (l : Line) → slice_get left place ≡ Some l → slice_get lines place ≡ Some l
  here l at = sym (standing_at lines stands place are.before) ∙ sym (ap (λ ls. slice_get ls place) are.left_are) ∙ at

  -- one that stays isn't the one that goes
  elsewhere : fate_at fates place ≡ Goes → (j : ℕ) → fate_at fates j ≡ Stays → j ≡ place → ⊥
  elsewhere goes j s e = let f : fate_at fates j ≡ fate_at fates place = ap (fate_at fates) e in absurd (cc)

  has_staying : fate_at fates place ≡ Goes → HasStaying lines fates (remove left place)
  has_staying goes = λ j m at stays.
      subst (λ ls. Contains ls m) (sym others)
      (standing_has lines (set stands place false) j m at
      (get_or-set_other stands place j false false (elsewhere goes j stays) ∙ fated.stand j stays))

  has_before : HasBefore lines place (remove left place)
  has_before = λ j m h at.
      subst (λ ls. Contains ls m) (sym others)
      (standing_has lines (set stands place false) j m at
      (get_or-set_other stands place j false false (λ e. omega (arith, e, h)) ∙ are.before j (omega (arith, h))))

  derives_all : (l : Line) → slice_get left place ≡ Some l → DerivesAll order (l ∷ remove left place) lines
  derives_all l at =
      (inner_out order left place (named_lines lines) made l within (sym (get_or_from_slice_get left place l l at))).derived

  -- what is known of the line at the place
  pub fated_here : (fate : Fate) → fate ≡ fate_at fates place → IsFatedAt order fate left place
  fated_here fate is = record {
    stays = λ l at e d.
        fated.staying place (sym is ∙ e) l (here l at) (set stands place false) (cleared stands place)
        (subst (λ ls. Derivable order ls l) others d);
    goes = λ l at e.
        fated.going place l (here l at) (sym is ∙ e) (remove left place) (has_staying (sym is ∙ e)) has_before (derives_all l at);
  }

module _ (order : Below) (lines left now : List Line) (stands flags : List Bool) (place : ℕ) (fates : List Fate)
    (fated : AreFated order lines stands fates) (fate : Fate) (is : fate ≡ fate_at fates place)
    (unmoved : fate ≡ Stays → flags ≡ stands) (stood : get_or stands place false ≡ true) where
  unchanged : flags ≡ stands → (j : ℕ) → fate_at fates j ≡ Stays → get_or flags j false ≡ true
  unchanged e j stays = ap (λ fs. get_or fs j false) e ∙ fated.stand j stays

  still : IsMoved left stands place now flags → (j : ℕ) → fate_at fates j ≡ Stays → get_or flags j false ≡ true
  still (inl m) j stays = by (other_or_same stands place j)
    where
      by : (get_or (set stands place false) j false ≡ get_or stands j false) ⊎ (j ≡ place) → get_or flags j false ≡ true
      by (inl e) = ap (λ fs. get_or fs j false) m.1 ∙ e ∙ fated.stand j stays
      by (inr e) = unchanged (unmoved (is ∙ ap (fate_at fates) (sym e) ∙ stays)) j stays
  still (inr m) j stays = unchanged (m.1 ∙ set_again stands place stood) j stays

  -- a step
  pub fated_next : IsMoved left stands place now flags → AreFated order lines flags fates
  fated_next moved = record { staying = fated.staying; going = fated.going; stand = still moved }

-- what was found out of lines
pub fated_found : (order : Below) (lines : List Line) (stays : List Bool) (fates : List Fate) → length stays ≡ length lines →
    length fates ≡ length stays → AreStaying order lines stays → DoStay stays fates → AreGoing order lines fates →
    AreFated order lines (replicate (length lines) true) fates
fated_found order lines stays fates each long staying same going = record {
  staying = λ i s. staying i ((same i).0 s);
  going = going;
  stand = λ i s. get_or-replicate (length lines) i true false (within i s (before_or_behind i (length fates)));
}
  where
    within : (i : ℕ) → fate_at fates i ≡ Stays → (i < length fates) ⊎ (length fates ≤ i) → i < length lines
    within i s (inl h) = omega (arith, h, each, long)
    within i s (inr h) = let e : fate_at fates i ≡ Open = get_or_past fates i Open h in absurd (cc)
