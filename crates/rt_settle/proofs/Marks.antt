-- The outside of a procedure derives loosely from what is chosen what it does from the lines.
use Rattle.std.proofs.Common.{ℕ, List, [], refl, sym, subst, append-nil}
use Rattle.std.proofs.lemmas.List.Elements.{All-nil}
use Rattle.rt_lines.specs.declared.line.Line.{Line}
use Rattle.rt_lines.specs.FirstFree.{first_free}
use Rattle.rt_lines.specs.Numbering.{numbered}
use Rattle.rt_lines.specs.Orders.{Below}
use Rattle.rt_rules.specs.Rules.{line_of}
use Rattle.rt_rules.specs.Alike.{IsOutside, is_inside_for}
use Rattle.rt_loose.specs.Loose.{IsLoose, Loosely}
use Rattle.rt_loose.proofs.Loosely.{added, loosely}
use Rattle.rt_scheme.specs.SplitExistentials.{existential_for, other_interfaces, split_for}
use Rattle.rt_scheme.specs.Splitting.{AreInterfaceLines}
use Rattle.rt_scheme.proofs.SplittingKeeps.{split-scheme}
use Rattle.rt_reduction.specs.Emits.{AreOfScheme}
use Rattle.rt_marks.specs.Outsides.{LooselyCovers, LooselyAlike}
use Rattle.rt_marks.proofs.Carrying.{given}
use Rattle.rt_marks.proofs.Covering.{exchange, loosely-refl, loosely-trans}
use Rattle.rt_marks.proofs.Numbers.{numbering_lem}
use Rattle.rt_marks.proofs.SplittingKeeps.{split_for_lem}
use Rattle.rt_marks.proofs.Rounds.{form_alike_lem}
use Rattle.rt_settle.specs.Chosen.{IsChosenFrom, IsSettled}
use Rattle.rt_settle.specs.Chosen.IsChosenFrom.{as_they_stand, split}
use Rattle.rt_settle.specs.Marks.{ChosenLoosely, ChosenMarks}
use Rattle.rt_settle.proofs.InOrder.{sorted_has, sorted_source}
use Rattle.rt_settle.proofs.Settled.{interfaces_of_scheme, interfaces_stay, scheme_interfaces}

settled_loosely : (order : Below) (own : ℕ) (lines settled : List Line) → AreOfScheme lines → IsSettled order lines settled →
    LooselyAlike order (is_inside_for own) lines settled
settled_loosely order own lines settled scheme is =
    loosely-trans order (is_inside_for own) lines is.reduced settled
    (form_alike_lem order (is_inside_for own) lines is.reduced (λ n. refl) scheme is.is_reduced)
    (loosely-trans order (is_inside_for own) is.reduced (numbered is.reduced) settled
    (numbering_lem order (is_inside_for own) is.reduced (λ n. refl))
    (exchange order (is_inside_for own) (numbered is.reduced) settled
    (λ l c. given order settled l (sorted_has (numbered is.reduced) settled is.in_order l c))
    (λ l c. given order (numbered is.reduced) l (sorted_source (numbered is.reduced) settled is.in_order l c))))

module _ (order : Below) (own : ℕ) (settled chosen : List Line) (fit : AreInterfaceLines settled) where
  split_of_scheme : AreOfScheme (split_for own settled)
  split_of_scheme =
      interfaces_of_scheme (split_for own settled) (scheme_interfaces own (split_for own settled)
      (split-scheme own (existential_for (first_free settled) (other_interfaces own settled)) settled fit))

  from_loosely : IsChosenFrom order own settled chosen → LooselyAlike order (is_inside_for own) settled chosen
  from_loosely (as_they_stand scheme e) =
      subst (LooselyAlike order (is_inside_for own) settled) (sym e) (loosely-refl order (is_inside_for own) settled)
  from_loosely (split none is) =
      loosely-trans order (is_inside_for own) settled (split_for own settled) chosen (split_for_lem order own settled fit)
      (settled_loosely order own (split_for own settled) chosen split_of_scheme is)

pub chosen_loosely : ChosenLoosely
chosen_loosely order own lines chosen fit is =
    loosely-trans order (is_inside_for own) lines is.settled chosen
    (settled_loosely order own lines is.settled (interfaces_of_scheme lines fit) is.is_settled)
    (from_loosely order own is.settled chosen (interfaces_stay order lines is.settled is.is_settled fit) is.is_chosen)

pub chosen_marks : ChosenMarks
chosen_marks order own lines chosen j fit is out =
    (by lines chosen (chosen_loosely order own lines chosen fit is).0, by chosen lines (chosen_loosely order own lines chosen fit is).1)
  where
    by : (first second : List Line) → LooselyCovers order (is_inside_for own) first second → IsLoose order first (line_of j) →
        IsLoose order second (line_of j)
    by first second covers h =
        added order second (subst (λ ls. Loosely order ls (line_of j)) (append-nil second)
        (covers [] j (All-nil (IsOutside (is_inside_for own))) out
        (subst (λ ls. Loosely order ls (line_of j)) (sym (append-nil first)) (loosely order first (line_of j) h))))
