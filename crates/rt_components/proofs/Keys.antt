-- Keys in order, where one is put in, and the first of them.
use Rattle.std.proofs.Common.{◌≡◌, ℕ, ◌<◌, ◌⊎◌, inl, inr, List, [], ◌∷◌, Contains, refl, sym, subst, ◌∙◌}
use Rattle.std.specs.Cmp.{nat_cmp_is}
use Rattle.std.specs.Ordering.{nat_cmp, match_ordering}
use Rattle.std.specs.declared.cmp.Ordering.{Ordering}
use Rattle.std.specs.declared.cmp.Ordering.TheVariants.{Less, Equal, Greater}
use Rattle.std.specs.BTreeSet.{insert_key}
use Rattle.std.proofs.lemmas.Bool.{cases_order}
use Rattle.std.proofs.lemmas.Map.Lookups.{exact_unsigned}
use Rattle.rt_components.proofs.Numbers.{cons_here, cons_there, cons_cases}
use Rattle.rt_base.proofs.Lists.{Contains-none}

pub inserted_cases : (xs : List ℕ) (k a : ℕ) → Contains (insert_key nat_cmp xs k) a → Contains xs a ⊎ (k ≡ a)
inserted_cases [] k a c = by (cons_cases k [] a c)
  where
    by : (k ≡ a) ⊎ Contains [] a → Contains [] a ⊎ (k ≡ a)
    by (inl e) = inr e
    by (inr d) = inl d
inserted_cases (x ∷ xs) k a c = by (nat_cmp k x) c (λ d. inserted_cases xs k a d)
  where
    front : (k ≡ a) ⊎ Contains (x ∷ xs) a → Contains (x ∷ xs) a ⊎ (k ≡ a)
    front (inl e) = inr e
    front (inr d) = inl d

    rest : Contains xs a ⊎ (k ≡ a) → Contains (x ∷ xs) a ⊎ (k ≡ a)
    rest (inl d) = inl (cons_there x xs a d)
    rest (inr e) = inr e

    back : (x ≡ a) ⊎ Contains (insert_key nat_cmp xs k) a → (Contains (insert_key nat_cmp xs k) a → Contains xs a ⊎ (k ≡ a)) → Contains (x ∷ xs) a ⊎ (k ≡ a)
    back (inl e) deeper = inl (subst (Contains (x ∷ xs)) e (cons_here x xs))
    back (inr d) deeper = rest (deeper d)

    by : (r : Ordering) → Contains (match_ordering r (k ∷ x ∷ xs) (x ∷ xs) (x ∷ insert_key nat_cmp xs k)) a → (Contains (insert_key nat_cmp xs k) a → Contains xs a ⊎ (k ≡ a)) → Contains (x ∷ xs) a ⊎ (k ≡ a)
    by Less d deeper = front (cons_cases k (x ∷ xs) a d)
    by Equal d deeper = inl d
    by Greater d deeper = back (cons_cases x (insert_key nat_cmp xs k) a d) deeper

pub inserted_old : (xs : List ℕ) (k a : ℕ) → Contains xs a → Contains (insert_key nat_cmp xs k) a
inserted_old [] k a c = absurd (Contains-none a c)
inserted_old (x ∷ xs) k a c = by (nat_cmp k x) (λ d. inserted_old xs k a d)
  where
    back : (x ≡ a) ⊎ Contains xs a → (Contains xs a → Contains (insert_key nat_cmp xs k) a) → Contains (x ∷ insert_key nat_cmp xs k) a
    back (inl e) deeper = subst (Contains (x ∷ insert_key nat_cmp xs k)) e (cons_here x (insert_key nat_cmp xs k))
    back (inr d) deeper = cons_there x (insert_key nat_cmp xs k) a (deeper d)

    by : (r : Ordering) → (Contains xs a → Contains (insert_key nat_cmp xs k) a) → Contains (match_ordering r (k ∷ x ∷ xs) (x ∷ xs) (x ∷ insert_key nat_cmp xs k)) a
    by Less deeper = cons_there k (x ∷ xs) a c
    by Equal deeper = c
    by Greater deeper = back (cons_cases x xs a c) deeper

pub inserted_new : (xs : List ℕ) (k : ℕ) → Contains (insert_key nat_cmp xs k) k
inserted_new [] k = cons_here k []
inserted_new (x ∷ xs) k = by (nat_cmp k x) refl (inserted_new xs k)
  where
    by : (r : Ordering) → nat_cmp k x ≡ r → Contains (insert_key nat_cmp xs k) k → Contains (match_ordering r (k ∷ x ∷ xs) (x ∷ xs) (x ∷ insert_key nat_cmp xs k)) k
    by Less e deeper = cons_here k (x ∷ xs)
    by Equal e deeper = subst (Contains (x ∷ xs)) (sym (exact_unsigned k x e)) (cons_here x xs)
    by Greater e deeper = cons_there x (insert_key nat_cmp xs k) k deeper
