-- Rows turned one by one.
use Rattle.std.proofs.Common.{◌≡◌, ℕ, ◌+◌, ◌<◌, ◌≤◌, ◌⊎◌, inl, inr, List, [], ◌∷◌, ◌++◌, Contains, length, get_or, take, refl, sym, subst, ◌∙◌, arith}
use Rattle.std.proofs.lemmas.Bool.{cases_eq, cases_lt}
use Rattle.std.proofs.lemmas.List.{get_or_past, take_all, take_more}
use Rattle.std.proofs.lemmas.List.Elements.{Contains-append_left, Contains-push, Contains-push_cases}
use Rattle.rt_base.proofs.Lists.{Contains-none}
use Rattle.rt_ways.specs.Arcs.{AreMore, AreTurned, IsAdded, IsInRow}
use Rattle.rt_ways.proofs.Entering.{more_none, more_one}
use Rattle.rt_ways.proofs.Hubs.{more_join}

pub turn_first : (row : List ℕ) (n : ℕ) (back : List (List ℕ)) → AreMore (λ v w. Contains (take 0 row) v × (w ≡ n)) back back
turn_first row n back = more_none (λ v w. Contains {X = ℕ} [] v × (w ≡ n)) back (λ v w p. Contains-none v p.0)

pub turn_next : (row : List ℕ) (i n : ℕ) (old mid new : List (List ℕ)) → i < length row → AreMore (λ v w. Contains (take i row) v × (w ≡ n)) old mid → IsAdded (get_or row i 0) n mid new →
    AreMore (λ v w. Contains (take (i + 1) row) v × (w ≡ n)) old new
turn_next row i n old mid new h m k =
    subst (λ xs. AreMore (λ v w. Contains xs v × (w ≡ n)) old new) (sym (take_more row i 0 h))
    (more_one (λ v w. Contains (take i row) v × (w ≡ n)) (λ v w. Contains (take i row ++ get_or row i 0 ∷ []) v × (w ≡ n)) (get_or row i 0) n old mid new
    (λ v w p. (elim (Contains-push_cases (take i row) (get_or row i 0) v p.0) [ inl c ↦ inl (c, p.1) | inr e ↦ inr (sym e, p.1) ]))
    (λ v w p. (Contains-append_left (take i row) (get_or row i 0 ∷ []) v p.0, p.1)) (Contains-push (take i row) (get_or row i 0), refl) m k)

pub turn_whole : (row : List ℕ) (i n : ℕ) (old new : List (List ℕ)) → length row ≤ i → AreMore (λ v w. Contains (take i row) v × (w ≡ n)) old new → AreMore (λ v w. Contains row v × (w ≡ n)) old new
turn_whole row i n old new h m = subst (λ xs. AreMore (λ v w. Contains xs v × (w ≡ n)) old new) (take_all i row h) m

-- the rows cases_lt a count are turned
abbrev pub IsTurnedTo : List (List ℕ) → ℕ → ℕ → ℕ → Type 0
IsTurnedTo rows count v w = (w < count) × IsInRow rows w v

pub turned_first : (rows back : List (List ℕ)) → AreMore (IsTurnedTo rows 0) back back
turned_first rows back = more_none (IsTurnedTo rows 0) back (λ v w p. (let h : w < 0 = p.0 in omega (arith, h)))

pub turned_next : (rows : List (List ℕ)) (i : ℕ) (row : List ℕ) (old mid new : List (List ℕ)) → row ≡ get_or rows i [] → AreMore (IsTurnedTo rows i) old mid →
    AreMore (λ v w. Contains row v × (w ≡ i)) mid new → AreMore (IsTurnedTo rows (i + 1)) old new
turned_next rows i row old mid new e m n =
    more_join (IsTurnedTo rows i) (λ v w. Contains row v × (w ≡ i)) (IsTurnedTo rows (i + 1)) old mid new
    (λ v w p. at v w p (cases_eq w i))
    (λ v w p. (let h : w < i = p.0 in (omega (arith, h), p.1)))
    (λ v w p. (let h : w ≡ i = p.1 in (omega (arith, h), subst (λ k. IsInRow rows k v) (sym h) (subst (λ xs. Contains xs v) e p.0)))) m n
  where
    at : (v w : ℕ) → IsTurnedTo rows (i + 1) v w → (w ≡ i) ⊎ (w ≡ i → ⊥) → IsTurnedTo rows i v w ⊎ (Contains row v × (w ≡ i))
    at v w p (inl f) = inr (subst (λ xs. Contains xs v) (sym e) (subst (λ k. IsInRow rows k v) f p.1), f)
    at v w p (inr d) = inl (let h : w < i + 1 = p.0 in (omega (arith, h, d), p.1))

pub turned_all : (rows empty back : List (List ℕ)) (i : ℕ) → length rows ≤ i → length empty ≡ length rows → ((v : ℕ) → get_or empty v [] ≡ []) → AreMore (IsTurnedTo rows i) empty back → AreTurned rows back
turned_all rows empty back i h e none m = record {
  each = m.each ∙ e;
  to = λ v w c. m.all w v (there v w c (cases_lt v (length rows)), c);
  from = λ v w c. (elim (m.only w v c) [ inl d ↦ absurd (Contains-none v (subst (λ xs. Contains xs v) (none w) d)) | inr p ↦ p.1 ]);
}
  where
    there : (v w : ℕ) → IsInRow rows v w → (v < length rows) ⊎ (length rows ≤ v) → v < i
    there v w c (inl k) = omega (arith, h, k)
    there v w c (inr k) = absurd (Contains-none w (subst (λ xs. Contains xs w) (get_or_past rows v [] k) c))

pub turn_room : (rows : List (List ℕ)) (i : ℕ) (row : List ℕ) (empty back : List (List ℕ)) → row ≡ get_or rows i [] → length empty ≡ length rows → ((v w : ℕ) → IsInRow rows v w → w < length rows) →
    AreMore (IsTurnedTo rows i) empty back → (w : ℕ) → Contains row w → w < length back
turn_room rows i row empty back e f within m w c = subst (λ n. w < n) (sym (m.each ∙ f)) (within i w (subst (λ xs. Contains xs w) e c))
