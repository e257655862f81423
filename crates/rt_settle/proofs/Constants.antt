-- Each constant of a scheme that is chosen stands in the lines.
use Rattle.std.proofs.Common.{ℕ, ◌<◌, List, map, All, refl, sym, subst}
use Rattle.std.proofs.lemmas.List.Elements.{All-contains}
use Rattle.rt_base.proofs.Lists.{All-from_contains, Contains-map_source}
use Rattle.rt_lines.specs.declared.variable.Dtv.{Dtv}
use Rattle.rt_lines.specs.declared.line.Line.{Line}
use Rattle.rt_lines.specs.declared.line.Line.TheVariants.{Var, Same, Sub, Low, Up}
use Rattle.rt_lines.specs.Lines.{HasConstantsBelow}
use Rattle.rt_lines.specs.Numbering.{existentials, numbered, placed}
use Rattle.rt_lines.specs.Orders.{Below}
use Rattle.rt_rules.specs.Alike.{map_line}
use Rattle.rt_rules.specs.Laws.{renamed}
use Rattle.rt_lines.specs.FirstFree.{first_free}
use Rattle.rt_scheme.specs.SplitExistentials.{is_other, other_interfaces, existential_for, split_for}
use Rattle.rt_scheme.specs.Splitting.{split_variable}
use Rattle.rt_reduction.specs.Constants.{HasConstant, NamesConstant}
use Rattle.rt_reduction.proofs.FromConstants.{form_constants_lem}
use Rattle.rt_settle.specs.Chosen.{ConstantsStand, IsChosenFrom, IsSettled}
use Rattle.rt_settle.specs.Chosen.IsChosenFrom.{as_they_stand, split}
use Rattle.rt_settle.proofs.InOrder.{sorted_source}

module _ (k : ℕ) where
  line_constant : (f : Dtv → Dtv) (l : Line) → HasConstant k (map_line f l) → HasConstant k l
  line_constant f (Var x) has = has
  line_constant f (Same x y) has = has
  line_constant f (Sub x y) has = has
  line_constant f (Low n x) has = has
  line_constant f (Up x n) has = has

  mapped_constant : (f : Dtv → Dtv) (lines : List Line) → NamesConstant (map (map_line f) lines) k → NamesConstant lines k
  mapped_constant f lines (l, c, has) =
      let s = Contains-map_source (map_line f) lines l c in
      (s.0, s.1, line_constant f s.0 (subst (HasConstant k) (sym s.2) has))

  settled_constant : (order : Below) (lines settled : List Line) → IsSettled order lines settled → NamesConstant settled k →
      NamesConstant lines k
  settled_constant order lines settled is (l, c, has) =
      form_constants_lem order lines is.reduced is.is_reduced k
      (mapped_constant (renamed (placed (existentials is.reduced))) is.reduced
      (l, sorted_source (numbered is.reduced) settled is.in_order l c, has))

  split_constant : (own : ℕ) (lines : List Line) → NamesConstant (split_for own lines) k → NamesConstant lines k
  split_constant own lines names =
      mapped_constant (split_variable (is_other own) (existential_for (first_free lines) (other_interfaces own lines))) lines names

  chosen_constant : (order : Below) (own : ℕ) (settled chosen : List Line) → IsChosenFrom order own settled chosen →
      NamesConstant chosen k → NamesConstant settled k
  chosen_constant order own settled chosen (as_they_stand scheme e) names = subst (λ ls. NamesConstant ls k) e names
  chosen_constant order own settled chosen (split none is) names =
      split_constant own settled (settled_constant order (split_for own settled) chosen is names)

pub constants_stand : ConstantsStand
constants_stand order own lines chosen k is names =
    settled_constant k order lines is.settled is.is_settled (chosen_constant k order own is.settled chosen is.is_chosen names)

-- Constants below a count.
module _ (count : ℕ) where
  below_at : (l : Line) → HasConstantsBelow count l → (k : ℕ) → HasConstant k l → k < count
  below_at (Var x) h k has = absurd has
  below_at (Same x y) h k has = absurd has
  below_at (Sub x y) h k has = absurd has
  below_at (Low n x) h k has = subst (λ m. m < count) has h
  below_at (Up x n) h k has = subst (λ m. m < count) has h

  below_from : (l : Line) → ((k : ℕ) → HasConstant k l → k < count) → HasConstantsBelow count l
  below_from (Var x) h = tt
  below_from (Same x y) h = tt
  below_from (Sub x y) h = tt
  below_from (Low n x) h = h n refl
  below_from (Up x n) h = h n refl

  -- where the constants of the second list stand in the first
  below_by : (first second : List Line) → ((k : ℕ) → NamesConstant second k → NamesConstant first k) → All (HasConstantsBelow count) first →
      All (HasConstantsBelow count) second
  below_by first second stand all =
      All-from_contains (HasConstantsBelow count) second (λ l c. below_from l (λ k has. at k (stand k (l, c, has))))
    where
      at : (k : ℕ) → NamesConstant first k → k < count
      at k (l, c, has) = below_at l (All-contains (HasConstantsBelow count) first l all c) k has

pub settled_below : (order : Below) (lines settled : List Line) → IsSettled order lines settled → (count : ℕ) →
    All (HasConstantsBelow count) lines → All (HasConstantsBelow count) settled
settled_below order lines settled is count all =
    below_by count lines settled (λ k names. settled_constant k order lines settled is names) all
