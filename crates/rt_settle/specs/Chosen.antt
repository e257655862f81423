-- The scheme that is chosen for a procedure, of all that say the same.
use Rattle.std.specs.Prelude.{◌≡◌, ℕ, List, Bool}
use Rattle.std.specs.Ordering.{nat_cmp, is_lt}
use Rattle.std.specs.Cmp.Lexicographic.{slice_cmp}
use Rattle.std.specs.List.Sorted.{IsStableBy}
use Rattle.rt_lines.specs.declared.variable.Base.TheVariants.{Proc}
use Rattle.rt_lines.specs.declared.line.Line.{Line}
use Rattle.rt_texts.specs.Texts.{line_text}
use Rattle.rt_lines.specs.Numbering.{numbered}
use Rattle.rt_lines.specs.Orders.{Below}
use Rattle.rt_rules.specs.Alike.{Alike, is_inside_for}
use Rattle.rt_rules.specs.Reduced.{IsReduced}
use Rattle.rt_reduction.specs.Constants.{NamesConstant}
use Rattle.rt_reduction.specs.Rounds.{IsReducedForm}
use Rattle.rt_scheme.specs.Schemes.{AreSchemeLines}
use Rattle.rt_scheme.specs.SplitExistentials.{split_for}
use Rattle.rt_scheme.specs.Splitting.{AreInterfaceLines}
use Rattle.rt_settle.specs.Sorted.{AreSorted, sort_names}

-- the text of the first line comes before that of the second
abbrev pub is_before : Line → Line → Bool
is_before a b = is_lt (slice_cmp nat_cmp (line_text sort_names a) (line_text sort_names b))

-- the lines by the bytes of their texts, where lines of one text stay in their order
pub record AreInOrder (lines sorted : List Line) : Type 0 where
  pub are_sorted : AreSorted sorted
  pub stable : IsStableBy is_before lines sorted

-- The settled form of lines: their reduced form, the existentials numbered from 0 in the order in which they are first
-- named, and then by the texts.
pub record IsSettled (order : Below) (lines settled : List Line) : Type 0 where
  pub reduced : List Line
  pub is_reduced : IsReducedForm order lines reduced
  pub in_order : AreInOrder (numbered reduced) settled

-- the settled lines of a group for one member: as they stand, where they are those of a scheme of it; else with an
-- existential for each argument and result of another procedure, and settled again
pub data IsChosenFrom (order : Below) (own : ℕ) (settled chosen : List Line) : Type 0 where
  as_they_stand : AreSchemeLines own settled → chosen ≡ settled → IsChosenFrom order own settled chosen
  split : (AreSchemeLines own settled → ⊥) → IsSettled order (split_for own settled) chosen → IsChosenFrom order own settled chosen

-- the lines of the scheme that is chosen for a procedure, from the lines of all members of its group
pub record IsChosen (order : Below) (own : ℕ) (lines chosen : List Line) : Type 0 where
  pub settled : List Line
  pub is_settled : IsSettled order lines settled
  pub is_chosen : IsChosenFrom order own settled chosen

-- no two lists are chosen
abbrev pub OneChoice : Type 0
OneChoice =
    (order : Below) (own : ℕ) (lines first second : List Line) → IsChosen order own lines first → IsChosen order own lines second →
    first ≡ second

-- of lines of procedures' arguments and results, globals and existentials, what is chosen says to the outside of the
-- procedure what the lines say
abbrev pub ChosenAlike : Type 0
ChosenAlike =
    (order : Below) (own : ℕ) (lines chosen : List Line) → AreInterfaceLines lines → IsChosen order own lines chosen →
    Alike order (is_inside_for own) lines chosen

-- and is the lines of a scheme of it
abbrev pub ChosenScheme : Type 0
ChosenScheme =
    (order : Below) (own : ℕ) (lines chosen : List Line) → AreInterfaceLines lines → IsChosen order own lines chosen →
    AreSchemeLines own chosen

-- with nothing to spare
abbrev pub ChosenReduced : Type 0
ChosenReduced =
    (order : Below) (own : ℕ) (lines chosen : List Line) → AreInterfaceLines lines → IsChosen order own lines chosen →
    IsReduced order (Proc own) chosen

-- each constant of a scheme that is chosen stands in the lines
abbrev pub ConstantsStand : Type 0
ConstantsStand =
    (order : Below) (own : ℕ) (lines chosen : List Line) (k : ℕ) → IsChosen order own lines chosen → NamesConstant chosen k →
    NamesConstant lines k
