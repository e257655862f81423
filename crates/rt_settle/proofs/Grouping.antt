-- Schemes of the members of a group.
use Rattle.std.proofs.Common.{◌≡◌, ℕ, ◌+◌, ◌<◌, ◌⊎◌, inl, inr, List, [], ◌∷◌, ◌++◌, length, get_or, refl, sym, ap, subst, ◌∙◌, arith}
use Rattle.std.proofs.Common.{length-append}
use Rattle.std.proofs.lemmas.Bool.{cases_eq}
use Rattle.std.proofs.lemmas.List.{get_or_append_left, get_or-append-add}
use Rattle.rt_lines.specs.declared.line.Line.{Line}
use Rattle.rt_lines.specs.Orders.{Below}
use Rattle.rt_rules.specs.Alike.{is_inside_for}
use Rattle.rt_rules.proofs.Covering.{Alike-refl, Alike-trans}
use Rattle.rt_scheme.specs.declared.scheme.Scheme.{Scheme}
use Rattle.rt_scheme.specs.Splitting.{AreInterfaceLines}
use Rattle.rt_reduction.specs.Emits.{AreOfScheme}
use Rattle.rt_settle.specs.Chosen.{IsChosen, IsSettled}
use Rattle.rt_settle.specs.Groups.{AreSchemesFrom, AreSchemesOf, IsSchemeFrom, TellsOutside}
use Rattle.rt_settle.proofs.ChosenLaws.{chosen_reduced}
use Rattle.rt_settle.proofs.Constants.{settled_below}
use Rattle.rt_settle.proofs.Settled.{settled_alike, settled_globals}

pub TellsOutside-refl : (order : Below) (own : ℕ) (lines : List Line) → TellsOutside order own lines lines
TellsOutside-refl order own lines = record {
  alike = Alike-refl order (is_inside_for own) lines;
  constants = λ count all. all;
  globals = λ n names. names;
}

pub TellsOutside-trans : (order : Below) (own : ℕ) (first second third : List Line) → TellsOutside order own first second →
    TellsOutside order own second third → TellsOutside order own first third
TellsOutside-trans order own first second third a b = record {
  alike = Alike-trans order (is_inside_for own) first second third a.alike b.alike;
  constants = λ count all. b.constants count (a.constants count all);
  globals = λ n names. a.globals n (b.globals n names);
}

-- what is settled tells the outside of each procedure the same
pub settled_tells : (order : Below) (own : ℕ) (lines settled : List Line) → AreOfScheme lines → IsSettled order lines settled →
    TellsOutside order own lines settled
settled_tells order own lines settled scheme is = record {
  alike = settled_alike order lines settled is scheme own;
  constants = settled_below order lines settled is;
  globals = settled_globals order lines settled is;
}

-- a scheme for each of so many members
pub record AreSchemesBelow (order : Below) (high : ℕ) (members : List ℕ) (settled : List Line) (schemes : List Scheme) : Type 0 where
  pub so_many : length schemes ≡ high
  pub each : (i : ℕ) (d : Scheme) → i < high → IsSchemeFrom order (get_or members i 0) settled (get_or schemes i d)

pub no_schemes : (order : Below) (members : List ℕ) (settled : List Line) → AreSchemesBelow order 0 members settled []
no_schemes order members settled = record {
  so_many = refl;
  each = λ i d lt. absurd (omega arith);
}

-- a loop's step
pub scheme_more : (order : Below) (high : ℕ) (members : List ℕ) (settled : List Line) (schemes : List Scheme) (scheme : Scheme) →
    AreSchemesBelow order high members settled schemes → IsSchemeFrom order (get_or members high 0) settled scheme →
    AreSchemesBelow order (high + 1) members settled (schemes ++ scheme ∷ [])
scheme_more order high members settled schemes scheme below is = record {
  so_many = omega (arith, below.so_many, length-append schemes (scheme ∷ []));
  each = λ i d lt. by i d lt (cases_eq i high);
}
  where
    here : (d : Scheme) → get_or (schemes ++ scheme ∷ []) high d ≡ scheme
    here d =
        let e : high ≡ length schemes + 0 = omega (arith, below.so_many) in
        ap (λ k. get_or (schemes ++ scheme ∷ []) k d) e ∙ get_or-append-add schemes (scheme ∷ []) 0 d

    by : (i : ℕ) (d : Scheme) → i < high + 1 → (i ≡ high) ⊎ (i ≡ high → ⊥) →
        IsSchemeFrom order (get_or members i 0) settled (get_or (schemes ++ scheme ∷ []) i d)
    by i d lt (inl e) =
        subst (λ k. IsSchemeFrom order (get_or members k 0) settled (get_or (schemes ++ scheme ∷ []) k d)) (sym e)
        (subst (IsSchemeFrom order (get_or members high 0) settled) (sym (here d)) is)
    by i d lt (inr apart) =
        subst (IsSchemeFrom order (get_or members i 0) settled)
        (sym (get_or_append_left schemes (scheme ∷ []) d i (omega (arith, below.so_many))))
        (below.each i d (omega arith))

-- schemes from settled lines, of the lines from which these come
pub schemes_of : (order : Below) (members : List ℕ) (lines settled : List Line) (schemes : List Scheme) → AreInterfaceLines lines →
    IsSettled order lines settled → ((own : ℕ) → TellsOutside order own lines settled) → AreSchemesFrom order members settled schemes →
    AreSchemesOf order members lines schemes
schemes_of order members lines settled schemes fit is_settled told are = record {
  one_each = are.one_each;
  each = λ i d lt. let is = are.each i d lt in
      let chosen : IsChosen order (get_or members i 0) lines (get_or schemes i d).lines =
      record { settled = settled; is_settled = is_settled; is_chosen = is.chosen } in record {
        base_is = is.base_is;
        tells = TellsOutside-trans order (get_or members i 0) lines settled (get_or schemes i d).lines (told (get_or members i 0)) is.tells;
        reduced = chosen_reduced order (get_or members i 0) lines (get_or schemes i d).lines fit chosen;
        chosen = chosen;
      };
}
