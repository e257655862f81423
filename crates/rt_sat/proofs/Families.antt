-- Classes of variables, and what changes where one grid does.
use Rattle.std.proofs.Common.{◌≡◌, ℕ, ◌+◌, ◌*◌, ◌/◌, ◌<◌, ◌≤◌, ◌⊎◌, inl, inr, Bool, List, [], ◌∷◌, ◌++◌, Contains, Option, Some, None, slice_get, length, get_or, set, sym, ap, subst, ◌∙◌, arith, length-append, get_or-set_same, get_or-set_other}
use Rattle.std.proofs.Math.ListN.{length-set}
use Rattle.std.proofs.lemmas.Bool.{cases_eq}
use Rattle.std.proofs.lemmas.List.Elements.{All-weaker, Contains-push_cases}
use Rattle.std.proofs.lemmas.Option.{get_or_from_slice_get}
use Rattle.rt_lines.specs.declared.variable.Dtv.{Dtv}
use Rattle.rt_grid.specs.Tables.{Table, size_of, Holds, Made, SaysWith}
use Rattle.rt_grid.proofs.Holding.{add_holds, holds_by}
use Rattle.rt_rules.proofs.Lists.{Contains-none}
use Rattle.rt_sat.specs.declared.family.Family.{Family}
use Rattle.rt_sat.specs.declared.gathering.Kid.{Kid}
use Rattle.rt_sat.specs.declared.gathering.Group.{Group}
use Rattle.rt_sat.specs.declared.state.Edge.{Edge}
use Rattle.rt_sat.specs.Hints.{grid_of, members_of, most_members, no_table, AreGroups, AreMembers, AreSameMembers, AreTurned, IsFamily, IsGroup, IsKid, IsToldAt, IsToldFamily, IsTurning, Turns}
use Rattle.rt_sat.specs.Hints.Turns.{turns, behind}
use Rattle.rt_sat.proofs.Telling.{turns_told}

-- what is above the nodes of the first variables, and of one more
pub counted_more : (nodes : List (Option ℕ)) (index old new : ℕ) → old ≤ new → ((n : ℕ) → get_or nodes index None ≡ Some n → n < new) → ((i n : ℕ) → i < index → slice_get nodes i ≡ Some (Some n) → n < old) →
    (i n : ℕ) → i < index + 1 → slice_get nodes i ≡ Some (Some n) → n < new
counted_more nodes index old new more here before i n h e = by (cases_eq i index)
  where
    by : (i ≡ index) ⊎ (i ≡ index → ⊥) → n < new
    by (inl f) = here n (get_or_from_slice_get nodes index (Some n) None (subst (λ k. slice_get nodes k ≡ Some (Some n)) f e))
    by (inr g) = let less : i < index = omega arith in omega (arith, before i n less e)

-- lists without members
pub members_none : (count : ℕ) (members : List (List ℕ)) → ((class : ℕ) → get_or members class [] ≡ []) → AreMembers count members
members_none count members none = record {
  few = λ class. (let long : length (get_or members class []) ≡ 0 = ap length (none class) in omega arith);
  inside = λ class v c. absurd (Contains-none v (subst (λ xs. Contains xs v) (none class) c));
}

-- a member more
pub members_more : (count number class : ℕ) (members : List (List ℕ)) (now : List ℕ) → class < length members → number < count → length (get_or members class []) < most_members → now ≡ get_or members class [] ++ number ∷ [] → AreMembers count members →
    AreMembers count (set members class now)
members_more count number class members now room less short grown are = record {
  few = λ k. few k (cases_eq k class);
  inside = λ k v c. inside k v c (cases_eq k class);
}
  where
    here : (k : ℕ) → k ≡ class → get_or (set members class now) k [] ≡ get_or members class [] ++ number ∷ []
    here k e = ap (λ n. get_or (set members class now) n []) e ∙ get_or-set_same members class now [] room ∙ grown

    few : (k : ℕ) → (k ≡ class) ⊎ (k ≡ class → ⊥) → length (get_or (set members class now) k []) ≤ most_members
    few k (inl e) = omega (arith, ap length (here k e), length-append (get_or members class []) (number ∷ []), short)
    few k (inr n) = subst (λ (xs : List ℕ). length xs ≤ most_members) (sym (get_or-set_other members class k now [] n)) (are.few k)

    inside : (k v : ℕ) → Contains (get_or (set members class now) k []) v → (k ≡ class) ⊎ (k ≡ class → ⊥) → v < count
    inside k v c (inr n) = are.inside k v (subst (λ xs. Contains xs v) (get_or-set_other members class k now [] n) c)
    inside k v c (inl e) = elim (Contains-push_cases (get_or members class []) number v (subst (λ xs. Contains xs v) (here k e) c)) [
      | inl d ↦ are.inside class v d
      | inr f ↦ subst (λ n. n < count) f less
    ]

-- a step more between a state and the one that is turned round
pub turning_more : (size i j : ℕ) (old new : Table) → i < size → AreTurned i j → Holds (Turns size) old → Holds (Made (SaysWith old i j 1)) new → Holds (Turns size) new
turning_more size i j old new less turned = add_holds (Turns size) old new i j 1 (λ i j k m n v w. behind v w) (turns less turned)

-- the two places of a member
pub member_turned : (index i j : ℕ) → i ≡ 2 * index + 0 → j ≡ 2 * index + 1 → AreTurned i j × AreTurned j i
member_turned index i j e f =
    let same : i / 2 ≡ j / 2 = omega arith in
    ((same, λ g. omega (arith, g)), (sym same, λ g. omega (arith, g)))

-- what the grids of classes say are ways between their members
abbrev AreAll : (List ℕ → ℕ → ℕ → ℕ → Type 0) → Family → Type 0
AreAll Way family = (class : ℕ) → class < length family.members.items → Holds (Way (members_of family class)) (grid_of family class)

module _ (old new : Family) (class : ℕ) (table : Table) (less : class < length old.members.items) (same : new.members.items ≡ old.members.items) (changed : new.grids.items ≡ set old.grids.items class table) where
  grid_other : (k : ℕ) → (k ≡ class → ⊥) → grid_of new k ≡ grid_of old k
  grid_other k n = ap (λ xs. get_or xs k no_table) changed ∙ get_or-set_other old.grids.items class k table no_table n

  grid_here : class < length old.grids.items → grid_of new class ≡ table
  grid_here room = ap (λ xs. get_or xs class no_table) changed ∙ get_or-set_same old.grids.items class table no_table room

  -- another grid of the same size
  pub family_changed : (count : ℕ) → size_of table ≡ size_of (grid_of old class) → IsFamily count old → IsFamily count new
  family_changed count long f = record {
    each = ap length changed ∙ simp length-set f.each ∙ ap length (sym same);
    sizes = λ k h. sizes k (subst (λ n. k < n) (ap length same) h) (cases_eq k class) ∙ ap (λ (xs : List (List ℕ)). 2 * length (get_or xs k [])) (sym same);
    few = λ k. subst (λ (xs : List (List ℕ)). length (get_or xs k []) ≤ most_members) (sym same) (f.few k);
    inside = λ k v c. f.inside k v (subst (λ (xs : List (List ℕ)). Contains (get_or xs k []) v) same c);
  }
    where
      sizes : (k : ℕ) → k < length old.members.items → (k ≡ class) ⊎ (k ≡ class → ⊥) → size_of (grid_of new k) ≡ 2 * length (members_of old k)
      sizes k h (inl e) = ap (λ n. size_of (grid_of new n)) e ∙ ap size_of (grid_here (subst (λ n. class < n) (sym f.each) less)) ∙ long ∙ f.sizes class less ∙ ap (λ n. 2 * length (members_of old n)) (sym e)
      sizes k h (inr n) = ap size_of (grid_other k n) ∙ f.sizes k h

  -- whose ways are ways
  pub ways_changed : (Way : List ℕ → ℕ → ℕ → ℕ → Type 0) → length old.grids.items ≡ length old.members.items →
      Holds (Way (members_of old class)) table → AreAll Way old → AreAll Way new
  ways_changed Way each holds all k h =
      subst (λ (xs : List (List ℕ)). Holds (Way (get_or xs k [])) (grid_of new k)) (sym same)
      (at k (subst (λ n. k < n) (ap length same) h) (cases_eq k class))
    where
      at : (k : ℕ) → k < length old.members.items → (k ≡ class) ⊎ (k ≡ class → ⊥) → Holds (Way (members_of old k)) (grid_of new k)
      at k h (inl e) =
          let here : grid_of new class ≡ table = grid_here (subst (λ n. class < n) (sym each) less) in
          subst (λ n. Holds (Way (members_of old n)) (grid_of new n)) (sym e) (subst (Holds (Way (members_of old class))) (sym here) holds)
      at k h (inr n) = subst (Holds (Way (members_of old k))) (sym (grid_other k n)) (all k h)

  -- of which it is told what it says
  pub told_changed : (known : List Dtv) (flips : List Bool) (lines : List Edge) → length old.grids.items ≡ length old.members.items → Holds (IsToldAt known flips lines (members_of old class)) table → IsToldFamily known flips lines old → IsToldFamily known flips lines new
  told_changed known flips lines each holds told = ways_changed (IsToldAt known flips lines) each holds told

-- grids in which only ways are known that need no edge are told
pub turning_told : (known : List Dtv) (flips : List Bool) (lines : List Edge) (family : Family) → IsFamily (length known) family →
    ((class : ℕ) → class < length family.members.items → IsTurning (length (members_of family class)) (grid_of family class)) → IsToldFamily known flips lines family
turning_told known flips lines family f turning class h =
    let members : List ℕ = members_of family class in
    holds_by (Turns (2 * length members)) (IsToldAt known flips lines members) (λ i j n w. turns_told known flips lines members (f.inside class) w) (grid_of family class) (turning class h).holds

-- what is a group stays one where the classes have the same members
pub group_same : (old new : Family) (group : Group) → AreSameMembers old new → IsGroup old group → IsGroup new group
group_same old new group same is = record {
  class = subst (λ (xs : List (List ℕ)). group.class < length xs) (sym same) is.class;
  are = λ kid c. subst (λ (xs : List (List ℕ)). kid.parent < length (get_or xs group.class [])) (sym same) (is.are kid c);
}

pub groups_same : (old new : Family) (groups : List Group) → AreSameMembers old new → AreGroups old groups → AreGroups new groups
groups_same old new groups same = All-weaker (IsGroup old) (IsGroup new) (λ group. group_same old new group same) groups

-- a group of one
pub group_one : (family : Family) (class : ℕ) (kid : Kid) → IsKid family class kid → IsGroup family (record { class = class; kids = kid ∷ [] })
group_one family class kid is = record {
  class = is.class;
  are = λ other c. elim (Contains-push_cases [] kid other c) [
    | inl none ↦ absurd (Contains-none other none)
    | inr e ↦ subst (λ (x : Kid). x.parent < length (members_of family class)) e is.parent
  ];
}

-- a variable more in a group
pub group_more : (family : Family) (old new : Group) (kid : Kid) → new.class ≡ old.class → new.kids ≡ old.kids ++ kid ∷ [] → IsKid family old.class kid → IsGroup family old → IsGroup family new
group_more family old new kid class kids is all = record {
  class = subst (λ n. n < length family.members.items) (sym class) all.class;
  are = λ other c. subst (λ n. other.parent < length (members_of family n)) (sym class) (elim (Contains-push_cases old.kids kid other (subst (λ xs. Contains xs other) kids c)) [
    | inl d ↦ all.are other d
    | inr e ↦ subst (λ (x : Kid). x.parent < length (members_of family old.class)) e is.parent
  ]);
}
