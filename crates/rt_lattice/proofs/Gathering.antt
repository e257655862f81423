-- Lists that are gathered from the front of values.
use Rattle.std.proofs.Common.{◌≡◌, ◌≢◌, ℕ, Option, Some, None, option_map, List, [], ◌∷◌, ◌++◌, length, drop, refl, ap, ◌∙◌, append_assoc, String, Global, string_bytes}
use Rattle.toml.specs.Data.{Data, as_str}
use Rattle.toml.specs.View.{view, items_view, members_view}
use Rattle.toml.specs.declared.value.Value.{Value}
use Rattle.toml.proofs.Views.{Entry}
use Rattle.rt_lattice.specs.Files.{each_in, pair_in, role_names_in}
use Rattle.rt_lattice.specs.declared.file.RoleName.{RoleName}

-- a list with what is still to come
abbrev pub with_rest : {X : Type 0} → List X → Option (List X) → Option (List X)
with_rest done rest = option_map (λ xs. done ++ xs) rest

pub with_rest-more : {X : Type 0} (done : List X) (x : X) (rest : Option (List X)) → with_rest (done ++ x ∷ []) rest ≡ with_rest done (option_map (λ xs. x ∷ xs) rest)
with_rest-more done x None = refl
with_rest-more done x (Some xs) = ap Some (append_assoc done (x ∷ []) xs)

-- what the values from an index on give
abbrev pub rest_of : {X : Type 0} → (Data → Option X) → List Value → ℕ → Option (List X)
rest_of f values i = each_in f (items_view (drop i values))

-- what is no two values is no pair
pub pair_in-none : (values : List Value) → length values ≢ 2 → None ≡ pair_in (items_view values)
pair_in-none [] h = refl
pair_in-none (v ∷ []) h = refl
pair_in-none (v ∷ w ∷ []) h = absurd (h refl)
pair_in-none (v ∷ w ∷ x ∷ values) h = refl

-- one entry of a table more
pub roles_more : (roles : List RoleName) (key : String Global) (value : Value) (name : List ℕ) (rest : List Entry) (whole : Option (List RoleName)) → Some name ≡ as_str (view value)
    → with_rest roles (role_names_in (members_view ((key, value) ∷ rest))) ≡ whole → with_rest (roles ++ record { key = string_bytes key; name = name } ∷ []) (role_names_in (members_view rest)) ≡ whole
roles_more roles key value name rest whole e was = with_rest-more roles (record { key = string_bytes key; name = name }) (role_names_in (members_view rest)) ∙ rw (← e) at was
