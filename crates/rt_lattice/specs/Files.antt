-- What a lattice file says: its table, and in it names, pairs of names and roles.
use Rattle.std.specs.Prelude.{◌≡◌, ℕ, ◌≤◌, Bool, ◌||◌, if◌then◌else◌, Option, Some, None, option_map, List, ◌∷◌, [], length, codes, IsUtf8}
use Rattle.std.specs.Option.{option_and_then}
use Rattle.std.specs.Ordering.{nat_cmp, match_ordering}
use Rattle.std.specs.Cmp.Lexicographic.{slice_cmp}
use Rattle.std.specs.Str.{bytes_eq}
use Rattle.toml.specs.Data.{Data, Items, no_items, item, Members, no_members, member, get_member, as_str, as_array, as_table}
use Rattle.toml.specs.Parse.{parse_document}
use Rattle.rt_lattice.specs.declared.file.Pair.{Pair}
use Rattle.rt_lattice.specs.declared.file.RoleName.{RoleName}
use Rattle.rt_lattice.specs.declared.file.File.{File}

-- the table that a text is: the text has at most 65,536 bytes, is UTF-8, and writes the table in TOML
pub record IsTable (text : List ℕ) (table : Members) : Type 0 where
  pub short : length text ≤ 65536
  pub utf8 : IsUtf8 text
  pub parsed : parse_document text ≡ Some table

-- what the items of an array give, where each gives something
abbrev pub each_in : {X : Type 0} → (Data → Option X) → Items → Option (List X)
each_in f no_items = Some []
each_in f (item d ds) = option_and_then (λ x. option_map (λ xs. x ∷ xs) (each_in f ds)) (f d)

-- the strings of an array of strings
abbrev pub strings_in : Items → Option (List (List ℕ))
strings_in = each_in as_str

-- the pair that two strings are
abbrev pub pair_in : Items → Option Pair
pair_in (item d (item e no_items)) = option_and_then (λ s. option_map (λ t. record { lower = s; upper = t }) (as_str e)) (as_str d)
pair_in _ = None

-- the pairs of an array of arrays of two strings
abbrev pub pairs_in : Items → Option (List Pair)
pairs_in = each_in (λ d. option_and_then pair_in (as_array d))

-- the keys of a table with what stands there, where all that is strings
abbrev pub role_names_in : Members → Option (List RoleName)
role_names_in no_members = Some []
role_names_in (member k d ms) = option_and_then
    (λ s. option_map (λ rs. record { key = k; name = s } ∷ rs) (role_names_in ms)) (as_str d)

-- what stands at the three keys of a lattice file
abbrev pub names_at : Members → Option (List (List ℕ))
names_at table = option_and_then strings_in (option_and_then as_array (get_member (codes "names") table))

abbrev pub below_at : Members → Option (List Pair)
below_at table = option_and_then pairs_in (option_and_then as_array (get_member (codes "below") table))

abbrev pub roles_at : Members → Option (List RoleName)
roles_at table = option_and_then role_names_in (option_and_then as_table (get_member (codes "roles") table))

abbrev pub is_known_key : List ℕ → Bool
is_known_key key = bytes_eq key (codes "names") || bytes_eq key (codes "below") || bytes_eq key (codes "roles")

-- the lesser, by their bytes, of a key and another one
abbrev pub lesser_key : List ℕ → Option (List ℕ) → List ℕ
lesser_key key None = key
lesser_key key (Some other) = match_ordering (slice_cmp nat_cmp key other) key key other

-- the least, by its bytes, of the keys that are none of a lattice file
abbrev pub other_key : Members → Option (List ℕ)
other_key no_members = None
other_key (member k d ms) = if is_known_key k then other_key ms else Some (lesser_key k (other_key ms))

-- the file that a table says, where its form is right
pub record SaysFile (table : Members) (file : File) : Type 0 where
  pub names : names_at table ≡ Some file.names
  pub below : below_at table ≡ Some file.below
  pub roles : roles_at table ≡ Some file.roles
