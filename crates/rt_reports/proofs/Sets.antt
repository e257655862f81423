-- Lists of numbers without double ones.
use Rattle.std.proofs.Common.{◌≡◌, ℕ, Bool, true, false, ◌↔◌, ◌⊎◌, inl, inr, IsTrue, List, [], ◌∷◌, ◌++◌, All, Contains, fold, nat_eq, if◌then◌else◌, refl, sym, subst, ◌∙◌}
use Rattle.std.specs.List.{list_any}
use Rattle.std.proofs.lemmas.List.Elements.{Contains-append_left, Contains-push, Contains-push_cases, All-contains}
use Rattle.indexmap.specs.IndexSet.{insert_key}
use Rattle.rt_base.proofs.Lists.{Contains-none, Contains-here, Contains-there, Contains-cons_cases, All-from_contains, found_from, found_to}

pub has_number : (keys : List ℕ) (n : ℕ) (r : Bool) → r ≡ list_any (nat_eq n) keys → IsTrue r ↔ Contains keys n
has_number keys n r is = (λ t. found_from keys n (sym is ∙ t), λ h. is ∙ found_to keys n h)

insert_cases : (keys : List ℕ) (k n : ℕ) → Contains (insert_key nat_eq keys k) n → Contains keys n ⊎ (k ≡ n)
insert_cases keys k n = by (list_any (nat_eq k) keys)
  where
    by : (b : Bool) → Contains (if b then keys else keys ++ k ∷ []) n → Contains keys n ⊎ (k ≡ n)
    by true h = inl h
    by false h = Contains-push_cases keys k n h

insert_keeps : (keys : List ℕ) (k n : ℕ) → Contains keys n → Contains (insert_key nat_eq keys k) n
insert_keeps keys k n h = by (list_any (nat_eq k) keys)
  where
    by : (b : Bool) → Contains (if b then keys else keys ++ k ∷ []) n
    by true = h
    by false = Contains-append_left keys (k ∷ []) n h

insert_has : (keys : List ℕ) (k : ℕ) → Contains (insert_key nat_eq keys k) k
insert_has keys k = by (list_any (nat_eq k) keys) refl
  where
    by : (b : Bool) → list_any (nat_eq k) keys ≡ b → Contains (if b then keys else keys ++ k ∷ []) k
    by true e = found_from keys k e
    by false e = Contains-push keys k

fold_cases : (keys ns : List ℕ) (n : ℕ) → Contains (fold (insert_key nat_eq) keys ns) n → Contains keys n ⊎ Contains ns n
fold_cases keys [] n h = inl h
fold_cases keys (m ∷ ns) n h =
    elim (fold_cases (insert_key nat_eq keys m) ns n h) [
      | inl there ↦ elim (insert_cases keys m n there) [ inl before ↦ inl before | inr e ↦ inr (subst (Contains (m ∷ ns)) e (Contains-here m ns)) ]
      | inr later ↦ inr (Contains-there m ns n later)
    ]

fold_keeps : (keys ns : List ℕ) (n : ℕ) → Contains keys n → Contains (fold (insert_key nat_eq) keys ns) n
fold_keeps keys [] n h = h
fold_keeps keys (m ∷ ns) n h = fold_keeps (insert_key nat_eq keys m) ns n (insert_keeps keys m n h)

fold_has : (keys ns : List ℕ) (n : ℕ) → Contains ns n → Contains (fold (insert_key nat_eq) keys ns) n
fold_has keys [] n h = absurd (Contains-none n h)
fold_has keys (m ∷ ns) n h =
    elim (Contains-cons_cases m ns n h) [
      | inl e ↦ subst (Contains (fold (insert_key nat_eq) keys (m ∷ ns))) e (fold_keeps (insert_key nat_eq keys m) ns m (insert_has keys m))
      | inr there ↦ fold_has (insert_key nat_eq keys m) ns n there
    ]

-- the numbers among a list's are those of the list
pub numbered_has : (numbers ns : List ℕ) → numbers ≡ fold (insert_key nat_eq) [] ns → (n : ℕ) → Contains numbers n ↔ Contains ns n
numbered_has numbers ns is n = (
  λ h. elim (fold_cases [] ns n (subst (λ s. Contains s n) is h)) [ inl none ↦ absurd (Contains-none n none) | inr there ↦ there ],
  λ h. subst (λ s. Contains s n) (sym is) (fold_has [] ns n h),
)

pub numbered_all : (numbers ns ms : List ℕ) → numbers ≡ fold (insert_key nat_eq) [] ns → All (Contains numbers) ms ↔ All (Contains ns) ms
numbered_all numbers ns ms is = (
  λ all. All-from_contains (Contains ns) ms (λ n h. (numbered_has numbers ns is n).0 (All-contains (Contains numbers) ms n all h)),
  λ all. All-from_contains (Contains numbers) ms (λ n h. (numbered_has numbers ns is n).1 (All-contains (Contains ns) ms n all h)),
)
