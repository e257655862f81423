-- The least key of a table that is none of a lattice file.
use Rattle.std.proofs.Common.{◌≡◌, ℕ, true, false, Option, Some, None, IfSome, List, [], ◌∷◌, String, Global, Ordering, Less, Equal, Greater, string_bytes, nat_cmp, refl, ap, inl, inr}
use Rattle.std.proofs.lemmas.Bool.{cases_Bool}
use Rattle.std.specs.Ordering.{match_ordering}
use Rattle.std.specs.Cmp.Lexicographic.{slice_cmp}
use Rattle.std.specs.List.{AllByRecursion}
use Rattle.std.specs.List.Sorted.{IsStrictlySortedBy}
use Rattle.std.specs.Map.{keys_of}
use Rattle.std.specs.String.{string_cmp}
use Rattle.toml.specs.View.{members_view}
use Rattle.toml.proofs.Views.{Entry}
use Rattle.rt_lattice.specs.Files.{is_known_key, lesser_key, other_key}

abbrev Below : String Global → List Entry → Type 0
Below key entries = AllByRecursion (λ y. string_cmp key y ≡ Less) (keys_of entries)

chosen_above : (key first l : List ℕ) (o : Ordering) → slice_cmp nat_cmp key first ≡ Less → slice_cmp nat_cmp key l ≡ Less → slice_cmp nat_cmp key (match_ordering o first first l) ≡ Less
chosen_above key first l Less p q = p
chosen_above key first l Equal p q = p
chosen_above key first l Greater p q = q

lesser_above : (key first : List ℕ) (rest : Option (List ℕ)) → slice_cmp nat_cmp key first ≡ Less → IfSome rest (λ l. slice_cmp nat_cmp key l ≡ Less) → slice_cmp nat_cmp key (lesser_key first rest) ≡ Less
lesser_above key first None p q = p
lesser_above key first (Some l) p q = chosen_above key first l (slice_cmp nat_cmp first l) p q

lesser_is : (key : List ℕ) (rest : Option (List ℕ)) → IfSome rest (λ l. slice_cmp nat_cmp key l ≡ Less) → lesser_key key rest ≡ key
lesser_is key None q = refl
lesser_is key (Some l) q = rw q refl

-- a key below all keys of a list is below the least other one
below_other : (key : String Global) (entries : List Entry) → Below key entries → IfSome (other_key (members_view entries)) (λ l. slice_cmp nat_cmp (string_bytes key) l ≡ Less)
below_other key [] below = tt
below_other key (e ∷ entries) below =
    elim (cases_Bool (is_known_key (string_bytes e.0))) [
      | inl known ↦ rw known (below_other key entries below.1)
      | inr other ↦ rw other (lesser_above (string_bytes key) (string_bytes e.0) (other_key (members_view entries)) below.0 (below_other key entries below.1))
    ]

pub other_key-here : (e : Entry) (entries : List Entry) → IsStrictlySortedBy string_cmp (keys_of (e ∷ entries)) → is_known_key (string_bytes e.0) ≡ false → other_key (members_view (e ∷ entries)) ≡ Some (string_bytes e.0)
unfolding IsStrictlySortedBy
other_key-here e entries sorted other = rw other (ap Some (lesser_is (string_bytes e.0) (other_key (members_view entries)) (below_other e.0 entries sorted.0)))

pub other_key-passed : (e : Entry) (entries : List Entry) → is_known_key (string_bytes e.0) ≡ true → other_key (members_view (e ∷ entries)) ≡ other_key (members_view entries)
other_key-passed e entries known = rw known refl

pub sorted_rest : (e : Entry) (entries : List Entry) → IsStrictlySortedBy string_cmp (keys_of (e ∷ entries)) → IsStrictlySortedBy string_cmp (keys_of entries)
unfolding IsStrictlySortedBy
sorted_rest e entries sorted = sorted.1
