-- Maps by lists.
use Rattle.std.proofs.Common.{◌≡◌, ℕ, ◌⊎◌, inl, inr, List, [], ◌∷◌, Some, None, Bool, true, false, cond, refl, sym, ap, ◌∙◌}
use Rattle.std.specs.BTreeMap.{BTreeMap, get}
use Rattle.std.specs.Cmp.{IsTotalOrder, tied_itself}
use Rattle.std.specs.Cmp.Lexicographic.{slice_cmp, lists_total}
use Rattle.std.specs.Global.{Vec}
use Rattle.std.specs.Map.{lookup}
use Rattle.std.specs.Ordering.{is_eq, ordering_then}
use Rattle.std.specs.declared.cmp.Ordering.{Ordering}
use Rattle.std.specs.declared.cmp.Ordering.TheVariants.{Less, Equal, Greater}
use Rattle.rt_refine.specs.Numbers.{HasNumber, IsNumbered}

-- An order of items, in which equal ones are the same.
module _ {X : Type 0} (cmp : X → X → Ordering) (total : IsTotalOrder cmp) (exact : (x y : X) → cmp x y ≡ Equal → x ≡ y) where
  same_lists : (xs ys : List X) → slice_cmp cmp xs ys ≡ Equal → xs ≡ ys
  same_lists [] [] e = refl
  same_lists [] (y ∷ ys) e = absurd (cc)
  same_lists (x ∷ xs) [] e = absurd (cc)
  same_lists (x ∷ xs) (y ∷ ys) e = by (cmp x y) refl e (same_lists xs ys)
    where
      by : (o : Ordering) → cmp x y ≡ o → ordering_then o (slice_cmp cmp xs ys) ≡ Equal → (slice_cmp cmp xs ys ≡ Equal → xs ≡ ys) →
          (x ∷ xs) ≡ (y ∷ ys)
      by Less f g rest = absurd (cc)
      by Equal f g rest = let h : x ≡ y = exact x y f in let i : xs ≡ ys = rest g in cc
      by Greater f g rest = absurd (cc)

  found_lists : (xs ys : List X) → is_eq (slice_cmp cmp xs ys) ≡ true → xs ≡ ys
  found_lists xs ys e = by (slice_cmp cmp xs ys) refl e
    where
      by : (o : Ordering) → slice_cmp cmp xs ys ≡ o → is_eq o ≡ true → xs ≡ ys
      by Less f g = absurd (cc)
      by Equal f g = same_lists xs ys f
      by Greater f g = absurd (cc)

  list_self : (xs : List X) → is_eq (slice_cmp cmp xs xs) ≡ true
  list_self xs = ap is_eq (tied_itself (lists_total total) xs)

  abbrev keys_cmp : Vec X → Vec X → Ordering
  keys_cmp a b = slice_cmp cmp a.items b.items

  -- a map sees the items of a key alone
  same_get : (m : BTreeMap (Vec X) ℕ) (a b : Vec X) → a.items ≡ b.items → get keys_cmp m a ≡ get keys_cmp m b
  same_get m a b e = ap (λ (xs : List X). lookup (λ (k : Vec X). is_eq (slice_cmp cmp xs k.items)) m.entries) e

  -- a list has one number
  pub one_number : (m : BTreeMap (Vec X) ℕ) (list : List X) (j k : ℕ) → HasNumber cmp m list j → HasNumber cmp m list k → j ≡ k
  one_number m list j k (a, e, f) (b, g, h) =
      let s : Some j ≡ Some k = sym f ∙ same_get m a b (e ∙ sym g) ∙ h in cc

  -- the list had a number
  pub numbered_before : (m : BTreeMap (Vec X) ℕ) (key : Vec X) (fresh number : ℕ) → get keys_cmp m key ≡ Some number →
      IsNumbered key.items fresh number (HasNumber cmp m) (HasNumber cmp m)
  numbered_before m key fresh number e = record {
    is = (key, refl, e);
    kept = λ other k h. h;
    source = λ other k h. inl h;
    one = λ other j k. one_number m other j k;
  }

  -- or it has a fresh one now
  pub numbered_now : (m n : BTreeMap (Vec X) ℕ) (key : Vec X) (fresh : ℕ) → get keys_cmp m key ≡ None →
      ((q : Vec X) → get keys_cmp n q ≡ cond (is_eq (slice_cmp cmp key.items q.items)) (Some fresh) (get keys_cmp m q)) →
      IsNumbered key.items fresh fresh (HasNumber cmp m) (HasNumber cmp n)
  numbered_now m n key fresh absent updates = record {
    is = (key, refl, updates key ∙ ap (λ (t : Bool). cond t (Some fresh) (get keys_cmp m key)) (list_self key.items));
    kept = λ other k h. kept other k h;
    source = λ other k h. source other k h;
    one = λ other j k. one_number n other j k;
  }
    where
      none : (q : Vec X) (k : ℕ) → key.items ≡ q.items → get keys_cmp m q ≡ Some k → ⊥
      none q k e f = let g : Some k ≡ None = sym f ∙ same_get m q key (sym e) ∙ absent in cc

      kept : (other : List X) (k : ℕ) → HasNumber cmp m other k → HasNumber cmp n other k
      kept other k (q, e, f) = (q, e, updates q ∙ by (is_eq (slice_cmp cmp key.items q.items)) refl)
        where
          by : (t : Bool) → is_eq (slice_cmp cmp key.items q.items) ≡ t → cond t (Some fresh) (get keys_cmp m q) ≡ Some k
          by true g = absurd (none q k (found_lists key.items q.items g) f)
          by false g = f

      source : (other : List X) (k : ℕ) → HasNumber cmp n other k →
          HasNumber cmp m other k ⊎ ((other ≡ key.items) × (k ≡ fresh) × (fresh ≡ fresh) × ((j : ℕ) → HasNumber cmp m key.items j → ⊥))
      source other k (q, e, f) = by (is_eq (slice_cmp cmp key.items q.items)) refl (sym (updates q) ∙ f)
        where
          by : (t : Bool) → is_eq (slice_cmp cmp key.items q.items) ≡ t → cond t (Some fresh) (get keys_cmp m q) ≡ Some k →
              HasNumber cmp m other k ⊎ ((other ≡ key.items) × (k ≡ fresh) × (fresh ≡ fresh) × ((j : ℕ) → HasNumber cmp m key.items j → ⊥))
          by true g h =
              let s : key.items ≡ q.items = found_lists key.items q.items g in
              let t : fresh ≡ k = cc in
              inr (sym e ∙ sym s, sym t, refl, λ j (r, i, l). none r j (sym i) l)
          by false g h = inl (q, e, h)

-- an empty map has no numbers
pub no_number : {X : Type 0} (cmp : X → X → Ordering) (m : BTreeMap (Vec X) ℕ) → m.entries ≡ [] → (list : List X) (k : ℕ) →
    HasNumber cmp m list k → ⊥
no_number {X} cmp m e list k (q, f, g) =
    let h : lookup (λ (key : Vec X). is_eq (slice_cmp cmp q.items key.items)) m.entries ≡ None =
    ap (λ (es : List (Vec X × ℕ)). lookup (λ (key : Vec X). is_eq (slice_cmp cmp q.items key.items)) es) e in
    let i : None ≡ Some k = sym h ∙ g in
    cc
