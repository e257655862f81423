-- Numbers added to sets.
use Rattle.std.proofs.Common.{◌≡◌, ℕ, ◌+◌, ◌<◌, ◌⊎◌, inl, inr, List, [], ◌∷◌, ◌++◌, length, take, get_or, nat_eq, Contains, Bool, true, false, cond}
use Rattle.std.proofs.Common.{refl, sym, ap, subst, ◌∙◌}
use Rattle.std.specs.Ordering.{is_eq, nat_cmp}
use Rattle.std.proofs.lemmas.List.{take_more}
use Rattle.std.proofs.lemmas.List.Elements.{Contains-push_cases, Contains-append_left, Contains-append_right}
use Rattle.std.specs.List.{list_any}
use Rattle.rt_base.proofs.Lists.{Contains-here, found_from, found_to, list_any-at, list_any-from}
use Rattle.rt_lines.specs.declared.line.Line.{Line}
use Rattle.rt_polar.specs.Index.{Names}
use Rattle.rt_polar.proofs.Pairs.{nat_cmp_self}
use Rattle.rt_refine.specs.Groups.{AreListed, AreNamed, AreNoted, IsNamed}
use Rattle.rt_base.proofs.Numbers.{equal_number}

pub number_self : (v : ℕ) → is_eq (nat_cmp v v) ≡ true
number_self v = ap is_eq (nat_cmp_self v)

-- one number was added
pub noted_one : (P : ℕ → Type 0) (v : ℕ) (old new : ℕ → Bool) → ((q : ℕ) → new q ≡ cond (is_eq (nat_cmp v q)) true (old q))
    → P v → ((n : ℕ) → P n → n ≡ v) → AreNoted P old new
noted_one P v old new updates here only = record {
  added = λ n p. subst (λ m. new m ≡ true) (sym (only n p)) (updates v ∙ ap (λ t. cond t true (old v)) (number_self v));
  kept = λ n h. updates n ∙ stays (is_eq (nat_cmp v n)) (old n) h;
  source = λ n h. by n (is_eq (nat_cmp v n)) refl (sym (updates n) ∙ h);
}
  where
    stays : (t b : Bool) → b ≡ true → cond t true b ≡ true
    stays true b h = refl
    stays false b h = h

    by : (n : ℕ) (t : Bool) → is_eq (nat_cmp v n) ≡ t → cond t true (old n) ≡ true → (old n ≡ true) ⊎ P n
    by n true e h = inr (subst P (equal_number v n e) here)
    by n false e h = inl h

-- or none
pub noted_none : (P : ℕ → Type 0) (old : ℕ → Bool) → ((n : ℕ) → P n → ⊥) → AreNoted P old old
noted_none P old none = record { added = λ n p. absurd (none n p); kept = λ n h. h; source = λ n h. inl h }

-- one line more
pub named_more : (lines : List Line) (i : ℕ) (l : Line) (old new : ℕ → Bool) → i < length lines → l ≡ get_or lines i l →
    AreNamed (take i lines) old → AreNoted (λ n. Names n l) old new → AreNamed (take (i + 1) lines) new
named_more lines i l old new less is are noted n = (forth, back)
  where
    more : take (i + 1) lines ≡ take i lines ++ l ∷ []
    more = take_more lines i l less ∙ ap (λ (k : Line). take i lines ++ k ∷ []) (sym is)

    wider : (m : Line) → Contains (take i lines ++ l ∷ []) m → Contains (take (i + 1) lines) m
    wider m c = subst (λ (ls : List Line). Contains ls m) (sym more) c

    forth : new n ≡ true → IsNamed (take (i + 1) lines) n
    forth h = by (noted.source n h)
      where
        by : (old n ≡ true) ⊎ Names n l → IsNamed (take (i + 1) lines) n
        by (inl g) =
            let s : IsNamed (take i lines) n = (are n).0 g in
            (s.0, wider s.0 (Contains-append_left (take i lines) (l ∷ []) s.0 s.1), s.2)
        by (inr p) = (l, wider l (Contains-append_right (take i lines) (l ∷ []) l (Contains-here l [])), p)

    back : IsNamed (take (i + 1) lines) n → new n ≡ true
    back (m, c, p) = by (Contains-push_cases (take i lines) l m (subst (λ (ls : List Line). Contains ls m) more c))
      where
        by : Contains (take i lines) m ⊎ (l ≡ m) → new n ≡ true
        by (inl d) = noted.kept n ((are n).1 (m, d, p))
        by (inr e) = noted.added n (subst (Names n) (sym e) p)

-- the elements of a set that has the existentials that the lines name
pub listed_are : (lines : List Line) (keys : List ℕ) → AreNamed lines (λ n. list_any (λ (k : ℕ). is_eq (nat_cmp n k)) keys) →
    AreListed lines keys
listed_are lines keys are n = (forth, back)
  where
    test : ℕ → Bool
    test k = is_eq (nat_cmp n k)

    forth : Contains keys n → IsNamed lines n
    forth c = (are n).0 (list_any-from test keys n c (number_self n))

    back : IsNamed lines n → Contains keys n
    back a =
        let s = list_any-at test keys ((are n).1 a) in
        subst (Contains keys) (sym (equal_number n s.0 s.2)) s.1

-- whether it's named, by such a list
pub named_or : (lines : List Line) (keys : List ℕ) → AreListed lines keys → (n : ℕ) → IsNamed lines n ⊎ (IsNamed lines n → ⊥)
named_or lines keys are n = by (list_any (nat_eq n) keys) refl
  where
    by : (t : Bool) → list_any (nat_eq n) keys ≡ t → IsNamed lines n ⊎ (IsNamed lines n → ⊥)
    by true e = inl ((are n).0 (found_from keys n e))
    by false e = inr (λ a. let f : false ≡ true = sym e ∙ found_to keys n ((are n).1 a) in absurd (cc))
