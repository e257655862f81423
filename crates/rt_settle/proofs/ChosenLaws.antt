-- What is chosen says to the outside what the lines say, and is a scheme with nothing to spare.
use Rattle.std.proofs.Common.{ℕ, List, sym, subst}
use Rattle.rt_lines.specs.declared.variable.Base.TheVariants.{Proc}
use Rattle.rt_lines.specs.declared.line.Line.{Line}
use Rattle.rt_lines.specs.Orders.{Below}
use Rattle.rt_rules.specs.Alike.{Alike, is_inside_for}
use Rattle.rt_rules.specs.Reduced.{IsReduced}
use Rattle.rt_rules.proofs.Covering.{Alike-refl, Alike-trans}
use Rattle.rt_scheme.specs.Schemes.{AreSchemeLines}
use Rattle.rt_lines.specs.FirstFree.{first_free}
use Rattle.rt_scheme.specs.SplitExistentials.{existential_for, other_interfaces, split_for}
use Rattle.rt_scheme.specs.Splitting.{AreInterfaceLines}
use Rattle.rt_rules.proofs.FirstFree.{first_free-above}
use Rattle.rt_scheme.proofs.SplittingKeeps.{split-alike, split-scheme}
use Rattle.rt_settle.specs.Chosen.{ChosenAlike, ChosenReduced, ChosenScheme, IsChosenFrom}
use Rattle.rt_settle.specs.Chosen.IsChosenFrom.{as_they_stand, split}
use Rattle.rt_settle.proofs.Settled.{
  interfaces_of_scheme,
  interfaces_stay,
  scheme_interfaces,
  schemes_stay,
  settled_alike,
  settled_reduced,
}

split_alike : (order : Below) (own : ℕ) (lines : List Line) → AreInterfaceLines lines →
    Alike order (is_inside_for own) lines (split_for own lines)
split_alike order own lines fit = split-alike own (first_free lines) lines fit (first_free-above lines) order

split_scheme : (own : ℕ) (lines : List Line) → AreInterfaceLines lines → AreSchemeLines own (split_for own lines)
split_scheme own lines fit = split-scheme own (existential_for (first_free lines) (other_interfaces own lines)) lines fit

module _ (order : Below) (own : ℕ) (settled chosen : List Line) (fit : AreInterfaceLines settled) where
  from_alike : IsChosenFrom order own settled chosen → Alike order (is_inside_for own) settled chosen
  from_alike (as_they_stand scheme e) =
      subst (Alike order (is_inside_for own) settled) (sym e) (Alike-refl order (is_inside_for own) settled)
  from_alike (split none is) =
      Alike-trans order (is_inside_for own) settled (split_for own settled) chosen (split_alike order own settled fit)
      (settled_alike order (split_for own settled) chosen is
      (interfaces_of_scheme (split_for own settled) (scheme_interfaces own (split_for own settled) (split_scheme own settled fit))) own)

  from_scheme : IsChosenFrom order own settled chosen → AreSchemeLines own chosen
  from_scheme (as_they_stand scheme e) = subst (AreSchemeLines own) (sym e) scheme
  from_scheme (split none is) = schemes_stay order (split_for own settled) chosen is own (split_scheme own settled fit)

pub chosen_alike : ChosenAlike
chosen_alike order own lines chosen fit is =
    Alike-trans order (is_inside_for own) lines is.settled chosen
    (settled_alike order lines is.settled is.is_settled (interfaces_of_scheme lines fit) own)
    (from_alike order own is.settled chosen (interfaces_stay order lines is.settled is.is_settled fit) is.is_chosen)

pub chosen_scheme : ChosenScheme
chosen_scheme order own lines chosen fit is =
    from_scheme order own is.settled chosen (interfaces_stay order lines is.settled is.is_settled fit) is.is_chosen

pub chosen_reduced : ChosenReduced
chosen_reduced order own lines chosen fit is = by is.is_chosen (chosen_scheme order own lines chosen fit is)
  where
    by : IsChosenFrom order own is.settled chosen → AreSchemeLines own chosen → IsReduced order (Proc own) chosen
    by (as_they_stand scheme e) all =
        subst (IsReduced order (Proc own)) (sym e) (settled_reduced order lines is.settled is.is_settled own scheme)
    by (split none settled) all = settled_reduced order (split_for own is.settled) chosen settled own all
