-- Numbers that are noted, one after another.
use Rattle.std.proofs.Common.{◌≡◌, ℕ, ◌+◌, ◌<◌, ◌≤◌, ◌⊎◌, inl, inr, Bool, true, false, List, [], ◌∷◌, ◌++◌, Contains, length, get_or, take, refl, sym, ap, subst, ◌∙◌, append_assoc, append-nil}
use Rattle.std.specs.Prelude.{if◌then◌else◌, nat_eq}
use Rattle.std.specs.List.{list_any}
use Rattle.std.proofs.lemmas.List.{take_all, take_more}
use Rattle.std.proofs.lemmas.List.Elements.{Contains-append_left, Contains-push, Contains-push_cases}
use Rattle.indexmap.specs.IndexSet.{insert_key}
use Rattle.rt_base.proofs.Lists.{Contains-none, list_any-at}
use Rattle.rt_base.proofs.Numbers.{nat_same}
use Rattle.rt_named.specs.Numbers.{IsLeft}

-- nothing is added
pub left_none : (P : ℕ → Type 0) (keys new : List ℕ) → new ≡ keys → ((w : ℕ) → P w → Contains keys w) → IsLeft P keys new
left_none P keys new e all = record {
  more = [];
  kept = e ∙ sym (append-nil keys);
  all = λ w p. subst (λ xs. Contains xs w) (sym e) (all w p);
  only = λ w c. inl (subst (λ xs. Contains xs w) e c);
}

-- a number is added
pub left_push : (keys new : List ℕ) (n : ℕ) → new ≡ keys ++ n ∷ [] → IsLeft (λ w. n ≡ w) keys new
left_push keys new n is = record {
  more = n ∷ [];
  kept = is;
  all = λ w g. subst (λ xs. Contains xs w) (sym is) (subst (Contains (keys ++ n ∷ [])) g (Contains-push keys n));
  only = λ w c. Contains-push_cases keys n w (subst (λ xs. Contains xs w) is c);
}

-- the same, unless it is there
pub left_note : (keys new : List ℕ) (n : ℕ) → new ≡ insert_key nat_eq keys n → IsLeft (λ w. n ≡ w) keys new
left_note keys new n e = by (list_any (nat_eq n) keys) refl
  where
    by : (b : Bool) → list_any (nat_eq n) keys ≡ b → IsLeft (λ w. n ≡ w) keys new
    by true f =
        let there : (x : ℕ) × Contains keys x × (nat_eq n x ≡ true) = list_any-at (nat_eq n) keys f in
        let same : n ≡ there.0 = nat_same n there.0 there.2 in
        left_none (λ w. n ≡ w) keys new (e ∙ ap (λ (b : Bool). if b then keys else keys ++ n ∷ []) f) (λ w g. subst (Contains keys) (sym same ∙ g) there.1)
    by false f = left_push keys new n (e ∙ ap (λ (b : Bool). if b then keys else keys ++ n ∷ []) f)

-- the same in other words
pub left_as : (P Q : ℕ → Type 0) (old new : List ℕ) → ((w : ℕ) → P w → Q w) → ((w : ℕ) → Q w → P w) → IsLeft P old new → IsLeft Q old new
left_as P Q old new to from n = record {
  more = n.more;
  kept = n.kept;
  all = λ w q. n.all w (from w q);
  only = λ w c. (elim (n.only w c) [ inl d ↦ inl d | inr p ↦ inr (to w p) ]);
}

pub left_kept : (P : ℕ → Type 0) (old new : List ℕ) → IsLeft P old new → (w : ℕ) → Contains old w → Contains new w
left_kept P old new n w c = subst (λ xs. Contains xs w) (sym n.kept) (Contains-append_left old n.more w c)

-- one after the other
pub left_more : (P Q R : ℕ → Type 0) (old mid new : List ℕ) → ((w : ℕ) → R w → P w ⊎ Q w) → ((w : ℕ) → P w → R w) → ((w : ℕ) → Q w → R w) → IsLeft P old mid → IsLeft Q mid new → IsLeft R old new
left_more P Q R old mid new cases left right m n = record {
  more = m.more ++ n.more;
  kept = n.kept ∙ ap (λ xs. xs ++ n.more) m.kept ∙ append_assoc old m.more n.more;
  all = λ w r. (elim (cases w r) [ inl p ↦ left_kept Q mid new n w (m.all w p) | inr q ↦ n.all w q ]);
  only = λ w c. (elim (n.only w c) [
    | inl d ↦ (elim (m.only w d) [ inl e ↦ inl e | inr p ↦ inr (left w p) ])
    | inr q ↦ inr (right w q)
  ]);
}

-- numbers noted one after another
pub rows_first : (row keys : List ℕ) → IsLeft (Contains (take 0 row)) keys keys
rows_first row keys = left_none (Contains []) keys keys refl (λ w c. absurd (Contains-none w c))

pub rows_next : (row : List ℕ) (i n : ℕ) (old mid new : List ℕ) → i < length row → n ≡ get_or row i 0 → IsLeft (Contains (take i row)) old mid →
    IsLeft (λ w. n ≡ w) mid new → IsLeft (Contains (take (i + 1) row)) old new
rows_next row i n old mid new h f m k =
    subst (λ xs. IsLeft (Contains xs) old new) (sym (take_more row i 0 h))
    (left_more (Contains (take i row)) (λ w. n ≡ w) (Contains (take i row ++ get_or row i 0 ∷ [])) old mid new
    (λ w r. (elim (Contains-push_cases (take i row) (get_or row i 0) w r) [ inl c ↦ inl c | inr e ↦ inr (f ∙ e) ]))
    (λ w c. Contains-append_left (take i row) (get_or row i 0 ∷ []) w c) (λ w e. subst (Contains (take i row ++ get_or row i 0 ∷ [])) (sym f ∙ e) (Contains-push (take i row) (get_or row i 0))) m k)

pub rows_whole : (row : List ℕ) (i : ℕ) (old new : List ℕ) → length row ≤ i → IsLeft (Contains (take i row)) old new → IsLeft (Contains row) old new
rows_whole row i old new h n = subst (λ xs. IsLeft (Contains xs) old new) (take_all i row h) n
