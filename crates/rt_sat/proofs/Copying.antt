-- What holds of a table, where a copy of its family stands in its place, and of lines of which some are left out.
use Rattle.std.proofs.Common.{◌≡◌, ℕ, ◌*◌, ◌<◌, ◌≤◌, inl, inr, Bool, List, [], ◌∷◌, ◌++◌, Contains, length, get_or, sym, ap, subst, ◌∙◌}
use Rattle.std.proofs.lemmas.List.Elements.{Contains-append_cases, Contains-append_left, Contains-append_right, Contains-push_cases}
use Rattle.rt_lines.specs.declared.variable.Dtv.{Dtv}
use Rattle.rt_lines.specs.declared.line.Line.{Line}
use Rattle.rt_lines.specs.Orders.{Below}
use Rattle.rt_rules.specs.Rules.{Derivable, HasSide}
use Rattle.rt_rules.proofs.Carry.{given}
use Rattle.rt_rules.proofs.Covering.{derives_more}
use Rattle.rt_grid.specs.Tables.{Table, size_of, Holds}
use Rattle.rt_sat.specs.declared.family.Family.{Family}
use Rattle.rt_sat.specs.declared.increments.GrowingTable.{GrowingTable as Grown}
use Rattle.rt_sat.specs.declared.state.Edge.{Edge}
use Rattle.rt_sat.specs.Closings.{AreLineEdges}
use Rattle.rt_sat.specs.Hints.{grid_of, members_of, most_members, no_table, IsFamily, IsToldAt, IsToldFamily}
use Rattle.rt_sat.specs.Increments.{AreEdgesAmong, Tells}
use Rattle.rt_sat.proofs.ToldPushes.{all_ready_same}

module _ (old new : Family) (members : new.members.items ≡ old.members.items) (grids : new.grids.items ≡ old.grids.items) where
  members_at : (class : ℕ) → members_of old class ≡ members_of new class
  members_at class = ap (λ (xs : List (List ℕ)). get_or xs class []) (sym members)

  grid_at : (class : ℕ) → grid_of old class ≡ grid_of new class
  grid_at class = ap (λ (xs : List Table). get_or xs class no_table) (sym grids)

  class_at : (class : ℕ) → class < length new.members.items → class < length old.members.items
  class_at class h = subst (λ (xs : List (List ℕ)). class < length xs) members h

  pub family_copied : (count : ℕ) → IsFamily count old → IsFamily count new
  family_copied count is = record {
    each = ap length grids ∙ is.each ∙ sym (ap length members);
    sizes = λ class h. sym (ap size_of (grid_at class)) ∙ is.sizes class (class_at class h) ∙ ap (λ (xs : List ℕ). 2 * length xs) (members_at class);
    few = λ class. subst (λ (xs : List ℕ). length xs ≤ most_members) (members_at class) (is.few class);
    inside = λ class v c. is.inside class v (subst (λ xs. Contains xs v) (sym (members_at class)) c);
  }

  pub told_copied : (known : List Dtv) (flips : List Bool) (lines : List Edge) → IsToldFamily known flips lines old → IsToldFamily known flips lines new
  told_copied known flips lines told class h =
      subst (λ (xs : List ℕ). Holds (IsToldAt known flips lines xs) (grid_of new class)) (members_at class)
      (subst (Holds (IsToldAt known flips lines (members_of old class))) (grid_at class) (told class (class_at class h)))

-- a copy of the family tells what it did
pub tells_copied : (lines : List Line) (grown : Grown) (family : Family) → family.members.items ≡ grown.family.members.items → family.grids.items ≡ grown.family.grids.items → Tells lines grown →
    Tells lines (record { frame = grown.frame; family = family; kin = grown.kin })
tells_copied lines grown family members grids tells = record {
  edges = tells.edges;
  distinct = tells.distinct;
  frame = tells.frame;
  sides = tells.sides;
  sound = tells.sound;
  family = family_copied grown.family family members grids (length grown.frame.named) tells.family;
  ready = all_ready_same grown.frame.named grown.frame.flips.items (length grown.frame.named) grown.family family grown.kin.links grown.kin.ready.items members tells.family
      (family_copied grown.family family members grids (length grown.frame.named) tells.family) tells.ready;
  linked = tells.linked;
  told = told_copied grown.family family members grids grown.frame.named grown.frame.flips.items tells.edges tells.told;
}

-- what lines and some of others derive, all of them do
pub derives_among : (order : Below) (told those lines : List Line) → ((l : Line) → Contains those l → Contains lines l) → {j : Line} → Derivable order (told ++ those) j → Derivable order (told ++ lines) j
derives_among order told those lines among d =
    derives_more order (told ++ those) (told ++ lines) (λ l c. given order (told ++ lines) l (elim (Contains-append_cases told those l c) [
      | inl e ↦ Contains-append_left told lines l e
      | inr e ↦ Contains-append_right told lines l (among l e)
    ])) d

-- edges of one more line, whose sides are named
pub among_more : (lines : List Line) (known : List Dtv) (line : Line) (old new : List Edge) → Contains lines line → ((x : Dtv) → HasSide line x → Contains known x) →
    ((before : List Line) → AreLineEdges before known old → AreLineEdges (before ++ line ∷ []) known new) → AreEdgesAmong lines known old → AreEdgesAmong lines known new
among_more lines known line old new c named entered edges = record {
  those = edges.those ++ line ∷ [];
  among = λ l d. (elim (Contains-push_cases edges.those line l d) [
    | inl e ↦ edges.among l e
    | inr e ↦ subst (Contains lines) e c
  ]);
  named = λ l x d h. (elim (Contains-push_cases edges.those line l d) [
    | inl e ↦ edges.named l x e h
    | inr e ↦ named x (subst (λ (l : Line). HasSide l x) (sym e) h)
  ]);
  are = entered edges.those edges.are;
}
