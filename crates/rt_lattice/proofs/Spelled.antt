-- Lists of names, and the tests of them.
use Rattle.std.proofs.Common.{◌≡◌, ◌≢◌, ℕ, ◌<◌, ◌≤◌, true, false, nat_le, nat_lt, Some, None, List, [], ◌∷◌, length, take, get_or, slice_index, All, AllPairs, Contains, suc, inl, inr, refl, sym, subst, ◌∙◌, arith, codes}
use Rattle.std.specs.Bool.{Decides}
use Rattle.std.specs.List.{list_all}
use Rattle.std.proofs.lemmas.Bool.{cases_Bool}
use Rattle.std.proofs.lemmas.List.{get_or_default, get_or-take, length-take-le}
use Rattle.std.proofs.lemmas.List.Elements.{All-nil}
use Rattle.std.proofs.lemmas.List.Kept.{AllPairs-cons}
use Rattle.rt_lattice.specs.declared.fault.LatFault.TheVariants.{Shape}
use Rattle.rt_lattice.specs.Faults.{names_fault}
use Rattle.std.proofs.lemmas.Bool.Decides.{Decides-and, Decides-or, Decides-not, Decides-like, Decides-by_and, Decides-eqb, nat_tests}
use Rattle.rt_lines.specs.Names.{IsLetter, IsNameByte, IsName, AreNames}
use Rattle.rt_lattice.specs.Spelling.{is_letter, is_name_byte, is_spelled, has_name, are_distinct, are_names}
use Rattle.rt_lattice.proofs.Known.{has_name-Decides}

leb-Decides : (a b : ℕ) → Decides (nat_le a b) (a ≤ b)
leb-Decides a b = (λ h. grind (arith, nat_tests), λ h. grind (arith, nat_tests))

is_letter-Decides : (b : ℕ) → Decides (is_letter b) (IsLetter b)
is_letter-Decides b = Decides-and _ _ (leb-Decides 97 b) (leb-Decides b 122)

is_name_byte-Decides : (b : ℕ) → Decides (is_name_byte b) (IsNameByte b)
is_name_byte-Decides b = Decides-or _ _ (is_letter-Decides b) (Decides-or _ _ (Decides-and _ _ (leb-Decides 48 b) (leb-Decides b 57)) (Decides-eqb b 95))

is_spelled-Decides : (name : List ℕ) → Decides (is_spelled name) (IsName name)
is_spelled-Decides name =
    Decides-like (is_spelled name) (λ p. record { first = p.0.0; rest = p.0.1; short = p.1 }) (λ n. ((n.first, n.rest), n.short))
    (Decides-and _ _
    (Decides-and _ _ (is_letter-Decides (slice_index name 0)) (Decides-by_and is_name_byte IsNameByte (list_all is_name_byte) is_name_byte-Decides refl (λ b bs. refl) name))
    (leb-Decides (length name) 32))

-- the names differ
abbrev Apart : List (List ℕ) → Type 0
Apart names = AllPairs (λ a b. a ≢ b) names

apart_cons : (name : List ℕ) (names : List (List ℕ)) → (Contains names name → ⊥) × Apart names → Apart (name ∷ names)
apart_cons name names (none, apart) =
    AllPairs-cons (λ a b. a ≢ b) name names (λ k d h e. none (k, h, get_or_default names k name d h ∙ sym e)) apart

apart_parts : (name : List ℕ) (names : List (List ℕ)) → Apart (name ∷ names) → (Contains names name → ⊥) × Apart names
apart_parts name names apart = (
  λ (k, h, e). apart 0 (suc k) name (omega arith) (omega arith) (sym e),
  λ i j d h k. apart (suc i) (suc j) d (omega arith) (omega arith),
)

are_distinct-Decides : (names : List (List ℕ)) → Decides (are_distinct names) (Apart names)
are_distinct-Decides [] = (λ t i j d h k. absurd (omega arith), λ p. refl)
are_distinct-Decides (name ∷ names) =
    Decides-like (are_distinct (name ∷ names)) (apart_cons name names) (apart_parts name names)
    (Decides-and _ _ (Decides-not (has_name names name) (has_name-Decides names name)) (are_distinct-Decides names))

pub are_names-Decides : (names : List (List ℕ)) → Decides (are_names names) (All IsName names × AllPairs (λ a b. a ≢ b) names)
are_names-Decides names =
    Decides-and _ _ (Decides-by_and is_spelled IsName (list_all is_spelled) is_spelled-Decides refl (λ n ns. refl) names) (are_distinct-Decides names)

-- a string that isn't spelled as a name, or stands before
pub are_names-not : (strings : List (List ℕ)) (i : ℕ) (string : List ℕ) → i < length strings → string ≡ get_or strings i string
    → (IsName string × (Contains (take i strings) string → ⊥) → ⊥) → are_names strings ≡ false
are_names-not strings i string h is bad =
    elim (cases_Bool (are_names strings)) [
      | inl good ↦
          let (all, apart) = (are_names-Decides strings).0 good in
          absurd
          (bad (
            subst IsName (sym is) (all i string h),
            λ (k, less, e).
                let before : k < i = omega (arith, length-take-le i strings (omega arith)) in
                let same : get_or strings k string ≡ string = sym (get_or-take i strings k string before) ∙ e in
                apart k i string before h (same ∙ is),
          ))
      | inr none ↦ none
    ]

pub names_fault-bad : (strings : List (List ℕ)) → length strings ≤ 256 → are_names strings ≡ false → names_fault (Some strings) ≡ Some (Shape (codes "names"))
names_fault-bad strings h bad = let few : nat_lt 256 (length strings) ≡ false = grind (arith, nat_tests) in rw (few, bad) refl

pub names_fault-none : (strings : List (List ℕ)) → length strings ≤ 256 → AreNames strings → names_fault (Some strings) ≡ None
names_fault-none strings h good =
    let few : nat_lt 256 (length strings) ≡ false = grind (arith, nat_tests) in
    let right : are_names strings ≡ true = (are_names-Decides strings).1 (good.spelled, good.distinct) in
    rw (few, right) refl

pub AreNames-none : AreNames []
AreNames-none = record { spelled = All-nil IsName; distinct = λ i j d h k. absurd (omega arith); few = omega arith }
