-- Schemes put at their procedures' numbers.
use Rattle.std.proofs.Common.{◌≡◌, ◌≢◌, ℕ, zero, suc, ◌<◌, ◌⊎◌, inl, inr, Option, Some, None, List, [], ◌∷◌, All, AllPairs, length, get_or, refl, sym, ap, subst, ◌∙◌, arith}
use Rattle.std.specs.Prelude.{fold}
use Rattle.std.proofs.lemmas.Bool.{cases_eq}
use Rattle.std.proofs.lemmas.List.{get_or-set_same, get_or-set_other, length-set}
use Rattle.rt_elf.specs.Parts.{Parts as Object}
use Rattle.rt_scheme.specs.declared.scheme.Scheme.{Scheme}
use Rattle.rt_table.specs.Lists.{AreGiven, IsGiven}
use Rattle.rt_solve.specs.Solved.{with_scheme}

pub length-with : (schemes : List (Option Scheme)) (found : List Scheme) → length (fold with_scheme schemes found) ≡ length schemes
length-with schemes [] = refl
length-with schemes (s ∷ found) = length-with (with_scheme schemes s) found ∙ length-set schemes s.base (Some s)

-- where no scheme is put, there is what was there
pub elsewhere-with : (schemes : List (Option Scheme)) (found : List Scheme) (q : ℕ) → All (λ s. q ≢ s.base) found → get_or (fold with_scheme schemes found) q None ≡ get_or schemes q None
elsewhere-with schemes [] q apart = refl
elsewhere-with schemes (s ∷ found) q apart =
    elsewhere-with (with_scheme schemes s) found q (λ k d lt. apart (suc k) d (omega arith))
    ∙ get_or-set_other schemes s.base q (Some s) None (apart zero s (omega arith))

-- each of schemes of different numbers is there
pub there-with : (schemes : List (Option Scheme)) (found : List Scheme) → All (λ s. s.base < length schemes) found → AllPairs (λ a b. a.base ≢ b.base) found → (k : ℕ) (d : Scheme) → k < length found →
    get_or (fold with_scheme schemes found) (get_or found k d).base None ≡ Some (get_or found k d)
there-with schemes [] within apart k d lt = absurd (omega arith)
there-with schemes (s ∷ found) within apart zero d lt =
    elsewhere-with (with_scheme schemes s) found s.base (λ k e less. apart zero (suc k) e (omega arith) (omega arith))
    ∙ get_or-set_same schemes s.base (Some s) None (within zero s (omega arith))
there-with schemes (s ∷ found) within apart (suc k) d lt =
    there-with (with_scheme schemes s) found
    (λ j e less. subst (λ n. (get_or found j e).base < n) (sym (length-set schemes s.base (Some s))) (within (suc j) e (omega arith)))
    (λ i j e less under. apart (suc i) (suc j) e (omega arith) (omega arith)) k d (omega arith)

pub some_of : (a b : Scheme) → Some a ≡ Some b → a ≡ b
some_of a b e = cc

given_one : (object : Object) (count : ℕ) (schemes : List (Option Scheme)) (s : Scheme) → s.base < length schemes → IsGiven object count s → AreGiven object count schemes → AreGiven object count (with_scheme schemes s)
given_one object count schemes s lt is are q given e = by (cases_eq q s.base)
  where
    by : (q ≡ s.base) ⊎ (q ≡ s.base → ⊥) → IsGiven object count given
    by (inl same) =
        let here : get_or (with_scheme schemes s) q None ≡ Some s = ap (λ n. get_or (with_scheme schemes s) n None) same ∙ get_or-set_same schemes s.base (Some s) None lt in
        subst (IsGiven object count) (some_of s given (sym here ∙ e)) is
    by (inr apart) = are q given (sym (get_or-set_other schemes s.base q (Some s) None apart) ∙ e)

pub given-with : (object : Object) (count : ℕ) (schemes : List (Option Scheme)) (found : List Scheme) → All (λ s. s.base < length schemes) found → All (IsGiven object count) found → AreGiven object count schemes → AreGiven object count (fold with_scheme schemes found)
given-with object count schemes [] within is are = are
given-with object count schemes (s ∷ found) within is are =
    given-with object count (with_scheme schemes s) found
    (λ j e less. subst (λ n. (get_or found j e).base < n) (sym (length-set schemes s.base (Some s))) (within (suc j) e (omega arith)))
    (λ j e less. is (suc j) e (omega arith))
    (given_one object count schemes s (within zero s (omega arith)) (is zero s (omega arith)) are)
