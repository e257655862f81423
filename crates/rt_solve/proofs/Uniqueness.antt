-- The schemes of an object's procedures are determined, group after group.
use Rattle.std.proofs.Common.{◌≡◌, ℕ, zero, suc, ◌<◌, ◌≤◌, ◌⊎◌, inl, inr, Option, Some, None, List, [], Contains, flat_map, length, get_or}
use Rattle.std.proofs.Common.{sym, ap, subst, ◌∙◌, arith, ext_get_or}
use Rattle.std.proofs.lemmas.Bool.{cases_eq}
use Rattle.std.proofs.lemmas.List.{get_or_default, get_or_past}
use Rattle.std.proofs.lemmas.List.Elements.{Contains-get_or}
use Rattle.rt_lines.specs.declared.line.Line.{Line}
use Rattle.rt_lines.specs.Orders.{Below}
use Rattle.rt_lattice.specs.declared.roles.Roles.{Roles}
use Rattle.rt_elf.specs.Parts.{Parts as Object}
use Rattle.rt_proc.specs.declared.proc.Proc.{Proc}
use Rattle.rt_proc.specs.Laws.{IsLawOfOneList}
use Rattle.rt_components.specs.Groups.{IsAmongFirst, group_at}
use Rattle.rt_components.proofs.Unique.{one_list as one_grouping}
use Rattle.rt_calls.specs.Calls.{AreGroupsOf, Calls}
use Rattle.rt_scheme.specs.declared.scheme.Scheme.{Scheme}
use Rattle.rt_scheme.specs.Schemes.{AreSchemeLines}
use Rattle.rt_sigs.specs.Signatures.{Signature}
use Rattle.rt_table.specs.Laws.{OneList}
use Rattle.rt_settle.specs.Chosen.{IsChosen, OneChoice}
use Rattle.rt_solve.specs.Laws.{OneSolution}
use Rattle.rt_solve.specs.Solved.{AreSolved, HasSchemeOf, IsGroupSolved}
use Rattle.rt_solve.proofs.Linking.{AgreeFor, lines_same}
use Rattle.std.proofs.Props.{props}
use Rattle.rt_sigs.proofs.OneFile.{one_scheme}

-- that lines are a scheme's has one proof
scheme_lines-prop : (base : ℕ) (lines : List Line) → IsProp (AreSchemeLines base lines)
scheme_lines-prop base lines = hlevel props

-- so a procedure has one, of lines
one_scheme_of : OneChoice → (order : Below) (first second : List (Option Scheme)) (lines others : List Line) (number : ℕ) → lines ≡ others
    → HasSchemeOf order first lines number → HasSchemeOf order second others number
    → get_or first number None ≡ get_or second number None
one_scheme_of one_choice order first second lines others number same a b =
    let chosen : IsChosen order number lines b.scheme.lines = subst (λ ls. IsChosen order number ls b.scheme.lines) (sym same) b.chosen in
    let as_lines : a.scheme.lines ≡ b.scheme.lines = one_choice order number lines a.scheme.lines b.scheme.lines a.chosen chosen in
    a.is_scheme ∙ ap Some (one_scheme a.scheme b.scheme (a.own ∙ sym b.own) as_lines) ∙ sym b.is_scheme

-- members of a group have the same schemes where those whom they call and who are no members do
module _ (object : Object) (roles : Roles) (order : Below) (procs : List Proc) (signatures : List Signature) (one_list : OneList)
    (one_choice : OneChoice) (group : List ℕ) (first second : List (Option Scheme)) (agree : AgreeFor procs group first second)
    (x : IsGroupSolved object roles order procs signatures first group)
    (y : IsGroupSolved object roles order procs signatures second group) where
  bodies_same : x.bodies ≡ y.bodies
  bodies_same =
      one_list object roles procs signatures second group x.bodies y.bodies
      (lines_same object roles procs signatures group first second x.bodies agree x.are_lines) y.are_lines

  pub member_same : (q : ℕ) → Contains group q → get_or first q None ≡ get_or second q None
  member_same q (i, within, e) =
      let is : get_or group i 0 ≡ q = get_or_default group i 0 q within ∙ e in
      subst (λ n. get_or first n None ≡ get_or second n None) is
      (one_scheme_of one_choice order first second (flat_map (λ (lines : List Line). lines) x.bodies)
      (flat_map (λ (lines : List Line). lines) y.bodies) (get_or group i 0)
      (ap (flat_map (λ (lines : List Line). lines)) bodies_same) (x.solved i within) (y.solved i within))

module _ (object : Object) (roles : Roles) (order : Below) (procs : List Proc) (signatures : List Signature) (groups : List (List ℕ))
    (are : AreGroupsOf procs groups) (one_list : OneList) (one_choice : OneChoice) (first second : List (Option Scheme))
    (a : AreSolved object roles order procs signatures groups first)
    (b : AreSolved object roles order procs signatures groups second) where
  -- members of a group have the same schemes where those of the groups before it do
  module _ (k : ℕ) (less : k < length groups)
      (to : (i q : ℕ) → i < k → Contains (group_at groups i) q → get_or first q None ≡ get_or second q None) where
    agree_for : AgreeFor procs (group_at groups k) first second
    agree_for = record {
      called = λ p q member calls apart. by q apart (are.may k less p q member calls);
      past = λ q le. get_or_past first q None (omega (arith, le, a.one_each)) ∙ sym (get_or_past second q None (omega (arith, le, b.one_each)));
    }
      where
        by : (q : ℕ) → (Contains (group_at groups k) q → ⊥) → Contains (group_at groups k) q ⊎ IsAmongFirst groups k q
            → get_or first q None ≡ get_or second q None
        by q apart (inl c) = absurd (apart c)
        by q apart (inr (i, before, c)) = to i q before c

    solved_by : (schemes : List (Option Scheme)) → AreSolved object roles order procs signatures groups schemes
        → IsGroupSolved object roles order procs signatures schemes (group_at groups k)
    solved_by schemes solved = solved.each (group_at groups k) (Contains-get_or groups k [] less)

    members_agree : (q : ℕ) → Contains (group_at groups k) q → get_or first q None ≡ get_or second q None
    members_agree q c =
        member_same object roles order procs signatures one_list one_choice (group_at groups k) first second agree_for (solved_by first a)
        (solved_by second b) q c

  abbrev Agrees : ℕ → Type 0
  Agrees k = (i q : ℕ) → i < k → Contains (group_at groups i) q → get_or first q None ≡ get_or second q None

  agree_more : (k : ℕ) → k < length groups → Agrees k → (i q : ℕ) → i < suc k → Contains (group_at groups i) q
      → get_or first q None ≡ get_or second q None
  agree_more k within before i q less c = by (cases_eq i k)
    where
      by : (i ≡ k) ⊎ (i ≡ k → ⊥) → get_or first q None ≡ get_or second q None
      by (inl e) = members_agree k within before q (subst (λ n. Contains (group_at groups n) q) e c)
      by (inr apart) = before i q (omega (arith, less, apart)) c

  agree : (k : ℕ) → k ≤ length groups → (i q : ℕ) → i < k → Contains (group_at groups i) q → get_or first q None ≡ get_or second q None
  agree zero le i q less c = absurd (omega (arith, less))
  agree (suc k) le i q less c = agree_more k (omega (arith, le)) (λ j r before d. agree k (omega (arith, le)) j r before d) i q less c

  one_solution : first ≡ second
  one_solution = ext_get_or None first second (a.one_each ∙ sym b.one_each) (λ q less. at q ((are.nodes q).0 (omega (arith, less, a.one_each))))
    where
      at : (q : ℕ) → IsAmongFirst groups (length groups) q → get_or first q None ≡ get_or second q None
      at q (i, less, c) = agree (length groups) (omega arith) i q less c

pub one_solution_of : IsLawOfOneList → OneList → OneChoice → OneSolution
one_solution_of one_procs one_list one_choice object ends roles order signatures procs others groups other_groups first second is is' are
    are' a b =
    let procs_same : others ≡ procs = one_procs object ends others procs is' is in
    let there : AreGroupsOf procs other_groups = subst (λ ps. AreGroupsOf ps other_groups) procs_same are' in
    let groups_same : other_groups ≡ groups = one_grouping (length procs) (Calls procs) other_groups groups there are in
    let solved : AreSolved object roles order procs signatures other_groups second =
    subst (λ ps. AreSolved object roles order ps signatures other_groups second) procs_same b in
    one_solution object roles order procs signatures groups are one_list one_choice first second a
    (subst (λ gs. AreSolved object roles order procs signatures gs second) groups_same solved)
