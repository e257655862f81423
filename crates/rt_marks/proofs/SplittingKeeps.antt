-- The existentials of other procedures' arguments and results are new, and each stands for one.
use Rattle.std.proofs.Common.{◌≡◌, ℕ, ◌<◌, true, nat_eq, IsTrue, List, [], map, Contains, refl, arith}
use Rattle.std.proofs.lemmas.Bool.{eqb-true, and_parts}
use Rattle.std.proofs.lemmas.List.Elements.{All-contains}
use Rattle.rt_rules.proofs.LineSides.{Contains-sides}
use Rattle.rt_base.proofs.Lists.{position_or_len-one_to_one, list_all-at}
use Rattle.rt_lines.specs.declared.label.Label.{Label}
use Rattle.rt_lines.specs.declared.variable.Base.{Base}
use Rattle.rt_lines.specs.declared.variable.Base.TheVariants.{Proc, Global, Exist, Outer}
use Rattle.rt_lines.specs.declared.variable.Dtv.{Dtv}
use Rattle.rt_lines.specs.declared.line.Line.{Line}
use Rattle.rt_lines.specs.Equality.{label_eq}
use Rattle.rt_lines.specs.Sides.{sides}
use Rattle.rt_lines.specs.Orders.{Below}
use Rattle.rt_lines.proofs.Equal.{label_equal}
use Rattle.rt_rules.specs.Rules.{HasSide}
use Rattle.rt_rules.specs.Alike.{is_inside_for}
use Rattle.rt_marks.specs.Outsides.{LooselyAlike}
use Rattle.rt_rules.specs.Laws.{NamesBase}
use Rattle.rt_lines.proofs.Distinct.{inserted-has}
use Rattle.rt_scheme.specs.Schemes.{is_interface}
use Rattle.rt_scheme.specs.declared.interface.Interface.{Interface}
use Rattle.rt_scheme.specs.contracts.interface.InterfaceEq.TheImpl.Laws as interface_laws
use Rattle.rt_scheme.specs.Splitting.{is_interface_side, is_interface_variable, is_interface_line, AreInterfaceLines, interfaces, split_line, IsSplitting}
use Rattle.rt_scheme.specs.SplitExistentials.{interface_eq, is_other, other_interfaces, existential_for}
use Rattle.rt_marks.specs.Laws.{SplitForLaw}
use Rattle.rt_lines.specs.FirstFree.{first_free}
use Rattle.rt_rules.proofs.FirstFree.{first_free-above}
use Rattle.rt_marks.proofs.SplittingBack.{splitting_lem}

interface-side : (l : Line) (z : Dtv) → IsTrue (is_interface_line l) → HasSide l z → is_interface_variable z ≡ true
interface-side l z h side = list_all-at is_interface_variable (sides l) z h (Contains-sides l z side)

-- Equal arguments and results.

interface_equal : (a b : Interface) → interface_eq a b ≡ true → a ≡ b
interface_equal a b e =
    let parts : (nat_eq a.procedure b.procedure ≡ true) × (label_eq a.label b.label ≡ true) = and_parts (nat_eq a.procedure b.procedure) (label_eq a.label b.label) e in
    let procedures : a.procedure ≡ b.procedure = eqb-true a.procedure b.procedure parts.0 in
    let labels : a.label ≡ b.label = label_equal a.label b.label parts.1 in
    λ i. record { procedure = procedures i; label = labels i }

interface_self : (a : Interface) → interface_eq a a ≡ true
interface_self a = (interface_laws.laws-law).refl a

module _ (own first : ℕ) (lines : List Line) where
  abbrev place : Interface → ℕ
  place = existential_for first (other_interfaces own lines)

  placed-has : (a : Interface) → Contains (interfaces (is_other own) lines) a → Contains (other_interfaces own lines) a
  placed-has a c = inserted-has interface_eq interface_equal (interfaces (is_other own) lines) [] a c

  placed-one_to_one : (a b : Interface) → Contains (interfaces (is_other own) lines) a → Contains (interfaces (is_other own) lines) b → place a ≡ place b → a ≡ b
  placed-one_to_one a b c d e = position_or_len-one_to_one interface_eq interface_equal interface_self (other_interfaces own lines) a b (placed-has a c) (placed-has b d) (omega arith)

  interface-first : (b : Base) (w : List Label) (q : ℕ) → is_interface_side b w ≡ true → b ≡ Proc q → IsTrue (is_interface w)
  interface-first (Proc n) w q h e = h
  interface-first (Global n) w q h e = cc
  interface-first (Exist n) w q h e = cc
  interface-first (Outer n) w q h e = cc

  placed-is_splitting : AreInterfaceLines lines → ((n : ℕ) → NamesBase lines (Exist n) → n < first) → IsSplitting (is_inside_for own) (is_other own) place lines
  placed-is_splitting fit free = record {
    interface = λ l x q c h e s. interface-first x.base x.word q (interface-side l x (All-contains (λ line. IsTrue (is_interface_line line)) lines l fit c) h) e;
    one_to_one = placed-one_to_one;
    fresh = λ a c names. let below : place a < first = free (place a) names in absurd (omega arith);
    procedure_inside = λ q e. e;
    existential_inside = λ a c. refl;
  }

  split-alike : AreInterfaceLines lines → ((n : ℕ) → NamesBase lines (Exist n) → n < first) → (order : Below) → LooselyAlike order (is_inside_for own) lines (map (split_line (is_other own) place) lines)
  split-alike fit free order = splitting_lem order (is_inside_for own) (is_other own) place lines (placed-is_splitting fit free)

pub split_for_lem : SplitForLaw
split_for_lem order own lines fit = split-alike own (first_free lines) lines fit (first_free-above lines) order
