-- What is solved where the schemes of a group's members are added.
use Rattle.std.proofs.Common.{◌≡◌, ◌≢◌, ℕ, ◌<◌, Option, None, List, [], All, AllPairs, Contains}
use Rattle.std.proofs.Common.{fold, length, get_or, sym, ap, subst, ◌∙◌, arith}
use Rattle.std.specs.List.Sorted.{IsStrictlyIncreasing}
use Rattle.std.proofs.lemmas.List.{get_or_default, get_or_past}
use Rattle.std.proofs.lemmas.List.Elements.{Contains-get_or}
use Rattle.std.proofs.lemmas.List.Kept.{AllPairs-from_increasing}
use Rattle.rt_lines.specs.Lines.{HasConstantsBelow}
use Rattle.rt_lines.specs.declared.line.Line.{Line}
use Rattle.rt_lines.specs.Orders.{Below}
use Rattle.rt_lattice.specs.declared.roles.Roles.{Roles}
use Rattle.rt_elf.specs.Parts.{Parts as Object}
use Rattle.rt_proc.specs.declared.proc.Proc.{Proc}
use Rattle.rt_components.specs.Groups.{group_at}
use Rattle.rt_components.specs.Groups.Reaches.{there}
use Rattle.rt_calls.specs.Calls.{AreGroupsOf, Calls}
use Rattle.rt_scheme.specs.declared.scheme.Scheme.{Scheme}
use Rattle.rt_sigs.specs.Signatures.{Signature}
use Rattle.rt_table.specs.Lists.{AreGiven, HasGlobalsOf, IsGiven}
use Rattle.rt_settle.specs.Groups.{AreSchemesOf, joined}
use Rattle.rt_solve.specs.Solved.{AddsSchemesOf, HasSchemeOf, IsGroupSolved, with_scheme}
use Rattle.rt_solve.proofs.Gathering.{All-joined, globals-joined}
use Rattle.rt_solve.proofs.Linking.{AgreeFor, lines_same}
use Rattle.rt_solve.proofs.Setting.{elsewhere-with, given-with, length-with, there-with}
use Rattle.rt_table.proofs.Framings.{element}

-- what the schemes of a group's members are given for its lists
module _ (order : Below) (group : List ℕ) (lines : List Line) (found : List Scheme) (are : AreSchemesOf order group lines found) where
  base_at : (i : ℕ) (d : Scheme) → i < length found → (get_or found i d).base ≡ get_or group i 0
  base_at i d lt = (are.each i d (omega (arith, are.one_each))).base_is

  pub bases_within : (count : ℕ) → All (λ number. number < count) group → All (λ s. s.base < count) found
  bases_within count within i d lt = subst (λ n. n < count) (sym (base_at i d lt)) (within i 0 (omega (arith, are.one_each)))

  bases_apart : IsStrictlyIncreasing group → AllPairs (λ a b. a.base ≢ b.base) found
  bases_apart ascending i j d less lt same =
      let up : get_or group i 0 < get_or group j 0 = AllPairs-from_increasing group ascending i j 0 less (omega (arith, are.one_each)) in
      let level : get_or group i 0 ≡ get_or group j 0 = sym (base_at i d (omega arith)) ∙ same ∙ base_at j d lt in
      omega arith

  pub all_given : (object : Object) (count : ℕ) → All (HasConstantsBelow count) lines → HasGlobalsOf object lines → All (IsGiven object count) found
  all_given object count constants globals i d lt =
      let is = (are.each i d (omega (arith, are.one_each))).tells in
      record { constants = is.constants count constants; globals = λ number names. globals number (is.globals number names) }

module _ (object : Object) (roles : Roles) (order : Below) (procs : List Proc) (signatures : List Signature) (groups : List (List ℕ))
    (are : AreGroupsOf procs groups) where
  -- members are numbers of procedures
  pub members_within : (k : ℕ) → k < length groups → All (λ number. number < length procs) (group_at groups k)
  members_within k lt i d less = (are.nodes (get_or (group_at groups k) i d)).1 (k, lt, Contains-get_or (group_at groups k) i d less)

  -- nobody is a member of two groups
  pub one_group : (i j q : ℕ) → Contains (group_at groups i) q → Contains (group_at groups j) q → i ≡ j
  one_group i j q a b = (are.together i j q q a b).1 (there, there)

  -- the schemes of a group's members are added
  module _ (k : ℕ) (lt : k < length groups) (old new : List (Option Scheme)) (one_each : length old ≡ length procs)
      (adds : AddsSchemesOf object roles order procs signatures (group_at groups k) old new) where
    -- all others are as they were
    pub elsewhere : (q : ℕ) → (Contains (group_at groups k) q → ⊥) → get_or new q None ≡ get_or old q None
    elsewhere q apart = ap (λ s. get_or s q None) adds.is ∙ elsewhere-with old adds.found q other
      where
        other : All (λ s. q ≢ s.base) adds.found
        other i d less same =
            let within : i < length (group_at groups k) = omega (arith, adds.are_schemes.one_each) in
            apart (
              i,
              within,
              get_or_default (group_at groups k) i q 0 within
                  ∙ sym (base_at order (group_at groups k) (joined adds.bodies) adds.found adds.are_schemes i d less) ∙ sym same,
            )

    pub long : length new ≡ length old
    long = ap length adds.is ∙ length-with old adds.found

    -- nobody outside a group whom its members call is a member of the one that is added
    abbrev CallsNone : ℕ → Type 0
    CallsNone j =
        (p q : ℕ) → Contains (group_at groups j) p → Calls procs p q → (Contains (group_at groups j) q → ⊥)
        → Contains (group_at groups k) q → ⊥

    agree_for : (j : ℕ) → CallsNone j → AgreeFor procs (group_at groups j) old new
    agree_for j none = record {
      called = λ p q member calls apart. sym (elsewhere q (none p q member calls apart));
      past = λ q le.
          get_or_past old q None (omega (arith, le, one_each)) ∙ sym (get_or_past new q None (omega (arith, le, one_each, long)));
    }

    -- a group that was solved
    pub solved_still : (j : ℕ) → (j ≡ k → ⊥) → CallsNone j → IsGroupSolved object roles order procs signatures old (group_at groups j)
        → IsGroupSolved object roles order procs signatures new (group_at groups j)
    solved_still j other none is = record {
      bodies = is.bodies;
      are_lines = lines_same object roles procs signatures (group_at groups j) old new is.bodies (agree_for j none) is.are_lines;
      solved = λ i within. let has = is.solved i within in record {
        scheme = has.scheme;
        is_scheme = elsewhere (get_or (group_at groups j) i 0) (apart i within) ∙ has.is_scheme;
        own = has.own;
        alike = has.alike;
        reduced = has.reduced;
        chosen = has.chosen;
      };
    }
      where
        apart : (i : ℕ) → i < length (group_at groups j) → Contains (group_at groups k) (get_or (group_at groups j) i 0) → ⊥
        apart i within h = other (one_group j k (get_or (group_at groups j) i 0) (Contains-get_or (group_at groups j) i 0 within) h)

    -- the group itself
    pub solved_here : IsGroupSolved object roles order procs signatures new (group_at groups k)
    solved_here = record {
      bodies = adds.bodies;
      are_lines = lines_same object roles procs signatures (group_at groups k) old new adds.bodies
          (agree_for k (λ p q member calls apart. apart)) adds.are_lines;
      solved = λ i within. has i within (element adds.found i (omega (arith, adds.are_schemes.one_each)));
    }
      where
        has : (i : ℕ) → i < length (group_at groups k) → Scheme
            → HasSchemeOf order new (joined adds.bodies) (get_or (group_at groups k) i 0)
        has i within d =
            let is = adds.are_schemes.each i d within in
            let less : i < length adds.found = omega (arith, adds.are_schemes.one_each) in
            let within_old : All (λ s. s.base < length old) adds.found =
            bases_within order (group_at groups k) (joined adds.bodies) adds.found adds.are_schemes (length old)
            (subst (λ n. All (λ number. number < n) (group_at groups k)) (sym one_each) (members_within k lt)) in
            let stands = there-with old adds.found within_old
            (bases_apart order (group_at groups k) (joined adds.bodies) adds.found adds.are_schemes (are.ascending k lt)) i d less in
            record {
              scheme = get_or adds.found i d;
              is_scheme = ap (λ s. get_or s (get_or (group_at groups k) i 0) None) adds.is
                  ∙ sym (ap (λ n. get_or (fold with_scheme old adds.found) n None) is.base_is) ∙ stands;
              own = is.base_is;
              alike = is.tells.alike;
              reduced = is.reduced;
              chosen = is.chosen;
            }

-- the schemes of a group's members are given
pub given_more : (object : Object) (order : Below) (count : ℕ) (group : List ℕ) (bodies : List (List Line)) (old : List (Option Scheme))
    (found : List Scheme) → AreSchemesOf order group (joined bodies) found → All (λ number. number < length old) group →
    All (All (HasConstantsBelow count)) bodies → All (HasGlobalsOf object) bodies → AreGiven object count old
    → AreGiven object count (fold with_scheme old found)
given_more object order count group bodies old found are within constants globals given =
    given-with object count old found (bases_within order group (joined bodies) found are (length old) within)
    (all_given order group (joined bodies) found are object count (All-joined (HasConstantsBelow count) bodies constants)
    (globals-joined object bodies globals)) given

-- a group as it is read
pub group_read : (groups others : List (List ℕ)) (k : ℕ) (group : List ℕ) → others ≡ groups → k < length others → group ≡ get_or others k group → group ≡ group_at groups k
group_read groups others k group e lt is = is ∙ get_or_default others k group [] lt ∙ ap (λ gs. get_or gs k []) e
