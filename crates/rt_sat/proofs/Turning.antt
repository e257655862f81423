-- Where states stand in a family whose classes keep their members.
use Rattle.std.proofs.Common.{◌≡◌, ℕ, ◌*◌, ◌<◌, List, [], Contains, Option, Some, get_or, length, sym, ap, subst, ◌∙◌}
use Rattle.std.proofs.lemmas.List.Elements.{Contains-get_or}
use Rattle.rt_grid.specs.Tables.{size_of}
use Rattle.rt_sat.specs.declared.family.Family.{Family}
use Rattle.rt_sat.specs.declared.family.Home.{Home}
use Rattle.rt_sat.specs.declared.filling.Turned.{Turned}
use Rattle.rt_sat.specs.Hints.{grid_of, AreSameMembers, IsFamily}
use Rattle.rt_sat.specs.Inside.Filling.{AreInFamily, AreTurnedIn, IsInFamily}

module _ (count : ℕ) (old new : Family) (same : AreSameMembers old new) (before : IsFamily count old) (is : IsFamily count new) where
  pub class_kept : (class : ℕ) → class < length old.members.items → class < length new.members.items
  class_kept class = subst (λ n. class < n) (sym (ap length same))

  -- a class has as many places as before
  pub size_kept : (class : ℕ) → class < length old.members.items → size_of (grid_of new class) ≡ size_of (grid_of old class)
  size_kept class less =
      is.sizes class (class_kept class less) ∙ ap (λ (xs : List (List ℕ)). 2 * length (get_or xs class [])) same ∙ sym (before.sizes class less)

  pub home_kept : (home : Home) → IsInFamily old home → IsInFamily new home
  home_kept home there = record {
    class = class_kept home.class there.class;
    place = subst (λ n. home.index < n) (sym (size_kept home.class there.class)) there.place;
  }

  pub homes_kept : (homes : List (Option Home)) → AreInFamily old homes → AreInFamily new homes
  homes_kept homes are home c = home_kept home (are home c)

  pub turned_kept : (class : ℕ) (turned : List Turned) → class < length old.members.items →
      AreTurnedIn (size_of (grid_of old class)) turned → AreTurnedIn (size_of (grid_of new class)) turned
  turned_kept class turned less are = subst (λ n. AreTurnedIn n turned) (sym (size_kept class less)) are

-- a home that is listed
pub home_read : (family : Family) (homes : List (Option Home)) (i : ℕ) (home : Home) (d : Option Home) → i < length homes → get_or homes i d ≡ Some home →
    AreInFamily family homes → IsInFamily family home
home_read family homes i home d less is are = are home (subst (λ x. Contains homes x) is (Contains-get_or homes i d less))
