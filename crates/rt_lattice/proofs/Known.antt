-- Names that a list has.
use Rattle.std.proofs.Common.{◌≡◌, ℕ, true, false, not, None, List, [], ◌∷◌, Contains, inl, inr, refl, sym, ◌∙◌, arith}
use Rattle.std.specs.Bool.{Decides}
use Rattle.std.specs.Str.{bytes_eq}
use Rattle.std.proofs.lemmas.Bool.Decides.{Decides-by_or}
use Rattle.std.proofs.lemmas.Bool.{cases_Bool, cases_lt, cases_eq}
use Rattle.std.proofs.lemmas.List.{get_or_default}
use Rattle.std.proofs.lemmas.List.Folds.{find-append}
use Rattle.std.proofs.lemmas.List.Elements.{Decides-contains}
use Rattle.std.proofs.lemmas.Slice.Eq.{bytes_eq-Decides}
use Rattle.rt_lines.specs.Names.{AreNames, HasName}
use Rattle.rt_lattice.specs.declared.file.Pair.{Pair}
use Rattle.rt_lattice.specs.Closures.{first_unknown, names_in}
use Rattle.rt_lattice.specs.Spelling.{has_name}

pub has_name-Decides : (names : List (List ℕ)) (name : List ℕ) → Decides (has_name names name) (Contains names name)
has_name-Decides names name =
    Decides-contains names name (has_name names name)
    (Decides-by_or (λ n. bytes_eq n name) (λ n. n ≡ name) (λ ns. has_name ns name) (λ n. bytes_eq-Decides n name) refl (λ n ns. refl) names)

pub has_name-found : (names : List (List ℕ)) (number : ℕ) (name : List ℕ) → HasName names number name → has_name names name ≡ true
has_name-found names number name has = (has_name-Decides names name).1 (number, has.within, get_or_default names number name [] has.within ∙ has.named)

pub has_name-none : (names : List (List ℕ)) (name : List ℕ) → (Contains names name → ⊥) → has_name names name ≡ false
has_name-none names name none =
    elim (cases_Bool (has_name names name)) [
      | inl found ↦ absurd (none ((has_name-Decides names name).0 found))
      | inr missing ↦ missing
    ]

-- distinct names have one number each
pub one_number : (names : List (List ℕ)) (a b : ℕ) (name : List ℕ) → AreNames names → HasName names a name → HasName names b name → a ≡ b
one_number names a b name good p q =
    elim (cases_lt a b) [
      | inl less ↦ absurd (good.distinct a b [] less q.within (p.named ∙ sym q.named))
      | inr more ↦
          elim (cases_eq a b) [
            | inl same ↦ same
            | inr other ↦ absurd (good.distinct b a [] (omega arith) p.within (q.named ∙ sym p.named))
          ]
    ]

-- the names of one pair, before those of others
pub unknown_passed : (names : List (List ℕ)) (pair : Pair) (rest : List Pair) → first_unknown names (names_in (pair ∷ [])) ≡ None → first_unknown names (names_in (pair ∷ rest)) ≡ first_unknown names (names_in rest)
unknown_passed names pair rest none = find-append (λ name. not (has_name names name)) (pair.lower ∷ pair.upper ∷ []) (names_in rest) ∙ rw none refl
