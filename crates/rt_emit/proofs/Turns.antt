-- What a turn does with the letters and the words of nodes.
use Rattle.std.proofs.Common.{◌≡◌, ◌≢◌, ◌↔◌, ◌⊎◌, inl, inr, ℕ, ◌+◌, ◌<◌, Some, None, List, [], ◌∷◌, ◌++◌, Contains, Bool, true, false}
use Rattle.std.proofs.Common.{cond, nat_eq, length, sum_by, refl, sym, ap, ◌∙◌, arith}
use Rattle.std.specs.Option.{unwrap_or, option_map}
use Rattle.std.specs.Ordering.{nat_cmp, is_eq, MatchOrdering}
use Rattle.std.specs.declared.cmp.Ordering.{Ordering}
use Rattle.std.specs.declared.cmp.Ordering.TheVariants.{Less, Equal, Greater}
use Rattle.std.proofs.lemmas.Cmp.{ranked}
use Rattle.std.proofs.lemmas.Bool.Decides.{eqb_tells}
use Rattle.std.specs.BTreeMap.{BTreeMap, get, is_at}
use Rattle.std.specs.Map.{lookup, remove_entry, values_of}
use Rattle.std.proofs.lemmas.Map.Entries.{sum_by-remove_entry}
use Rattle.rt_lines.specs.declared.label.Label.{Label}
use Rattle.rt_lines.specs.declared.variable.Dtv.{Dtv}
use Rattle.std.proofs.lemmas.List.Elements.{Contains-append_cases, Contains-append_left, Contains-append_right}
use Rattle.rt_base.proofs.Lists.{Contains-none, Contains-here, Contains-cons_cases}
use Rattle.rt_rules.specs.Rules.{longer}
use Rattle.rt_emit.specs.Inside.Letters.{letters_at}
use Rattle.rt_emit.specs.Inside.Writing.{total, IsNext}

same_test : (n m : ℕ) → is_eq (nat_cmp n m) ≡ nat_eq n m
same_test n m = by (nat_cmp n m) (ranked n m (nat_cmp n m) refl) (eqb_tells n m)
  where
    by : (o : Ordering) → MatchOrdering o (n < m) (n ≡ m) (m < n) → ((nat_eq n m ≡ true) × (n ≡ m)) ⊎ ((nat_eq n m ≡ false) × (n ≢ m)) →
        is_eq o ≡ nat_eq n m
    by Less h (inl (t, e)) = absurd (omega (arith, h, e))
    by Less h (inr (f, e)) = sym f
    by Equal h (inl (t, e)) = sym t
    by Equal h (inr (f, e)) = absurd (e h)
    by Greater h (inl (t, e)) = absurd (omega (arith, h, e))
    by Greater h (inr (f, e)) = sym f

pub word_put : (n : ℕ) (x : Dtv) (old new : BTreeMap ℕ Dtv) → ((m : ℕ) →
    get nat_cmp new m ≡ cond (is_eq (nat_cmp n m)) (Some x) (get nat_cmp old m)) →
    (m : ℕ) → get nat_cmp new m ≡ cond (nat_eq n m) (Some x) (get nat_cmp old m)
word_put n x old new h m = h m ∙ ap (λ t. cond t (Some x) (get nat_cmp old m)) (same_test n m)

pub letters_taken : (n : ℕ) (old new : BTreeMap ℕ (List Label)) → ((m : ℕ) →
    get nat_cmp new m ≡ cond (is_eq (nat_cmp n m)) None (get nat_cmp old m)) →
    (m : ℕ) → letters_at new m ≡ cond (nat_eq n m) [] (letters_at old m)
letters_taken n old new h m = ap (λ o. unwrap_or o []) (h m ∙ ap (λ t. cond t None (get nat_cmp old m)) (same_test n m)) ∙ by (nat_eq n m)
  where
    by : (t : Bool) → unwrap_or (cond t None (get nat_cmp old m)) [] ≡ cond t [] (letters_at old m)
    by true = refl
    by false = refl

-- a variable that is put in has one of the letters more, of which one was added
pub next_pushed : (first queue new : List Dtv) (x z : Dtv) (letters : List Label) (l : Label) →
    ((y : Dtv) → Contains queue y ↔ (Contains first y ⊎ IsNext x letters y)) → ((y : Dtv) → Contains new y ↔ (Contains queue y ⊎ (y ≡ z))) →
    z ≡ longer x l → (y : Dtv) → Contains new y ↔ (Contains first y ⊎ IsNext x (letters ++ l ∷ []) y)
next_pushed first queue new x z letters l before pushed e y = (λ c. out ((pushed y).0 c), into)
  where
    wider : Contains first y ⊎ IsNext x letters y → Contains first y ⊎ IsNext x (letters ++ l ∷ []) y
    wider (inl c) = inl c
    wider (inr (k, c, f)) = inr (k, Contains-append_left letters (l ∷ []) k c, f)

    out : Contains queue y ⊎ (y ≡ z) → Contains first y ⊎ IsNext x (letters ++ l ∷ []) y
    out (inl c) = wider ((before y).0 c)
    out (inr f) = inr (l, Contains-append_right letters (l ∷ []) l (Contains-here l []), f ∙ e)

    last : (k : Label) → y ≡ longer x k → Contains letters k ⊎ Contains (l ∷ []) k → Contains queue y ⊎ (y ≡ z)
    last k f (inl c) = inl ((before y).1 (inr (k, c, f)))
    last k f (inr c) = only (Contains-cons_cases l [] k c)
      where
        only : (l ≡ k) ⊎ Contains [] k → Contains queue y ⊎ (y ≡ z)
        only (inl g) = inr (f ∙ ap (longer x) (sym g) ∙ sym e)
        only (inr d) = absurd (Contains-none k d)

    into : Contains first y ⊎ IsNext x (letters ++ l ∷ []) y → Contains new y
    into (inl c) = (pushed y).1 (inl ((before y).1 (inl c)))
    into (inr (k, c, f)) = (pushed y).1 (last k f (Contains-append_cases letters (l ∷ []) k c))

pub taken_letters : (n : ℕ) (letters : BTreeMap ℕ (List Label)) (ls : List Label) → get nat_cmp letters n ≡ Some ls →
    letters_at letters n ≡ ls
taken_letters n letters ls e = ap (λ o. unwrap_or o []) e

-- letters that are taken away count no more
pub taken_total : (n : ℕ) (old new : BTreeMap ℕ (List Label)) (ls : List Label) →
    new.entries ≡ remove_entry (is_at (nat_cmp n)) old.entries →
    get nat_cmp old n ≡ Some ls → total new + length ls ≡ total old
taken_total n old new ls e f =
    (λ i. sum_by length (values_of (e i)) + unwrap_or (option_map length (f' i)) 0) ∙
    sum_by-remove_entry length (is_at (nat_cmp n)) old.entries
  where
    f' : Some ls ≡ lookup (is_at (nat_cmp n)) old.entries
    f' = sym f
