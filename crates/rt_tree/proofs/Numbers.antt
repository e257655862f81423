-- Classes numbered in the order in which they first stand.
use Rattle.std.proofs.Common.{◌≡◌, ℕ, zero, suc, ◌+◌, ◌<◌, ◌≤◌, ◌⊎◌, inl, inr, Option, Some, None, List, [], ◌∷◌, ◌++◌, length, set, get_or, refl, sym, ap, subst, ◌∙◌, arith, length-append}
use Rattle.std.specs.Prelude.{slice_index}
use Rattle.std.proofs.lemmas.Bool.{cases_eq}
use Rattle.std.proofs.lemmas.List.{get_or_append_left, get_or_push, length-set, get_or-set_same, get_or-set_other}
use Rattle.rt_lines.specs.declared.label.Label.{Label}
use Rattle.rt_tree.specs.Trees.{Node, Nodes, ends_of, Stand, Numbered}
use Rattle.rt_tree.specs.Pairs.{ArePaired}
use Rattle.rt_tree.specs.Inside.Quotients.{IsEndOf, gaps, AreNumbers, IsNumberOf, Extends, Stands}
use Rattle.rt_base.proofs.Numbers.{last_or_before}

-- no class has a number yet
pub none_pushed : (xs : List (Option ℕ)) → ((c : ℕ) → get_or xs c None ≡ None) → (c : ℕ) → get_or (xs ++ None ∷ []) c None ≡ None
none_pushed [] h zero = refl
none_pushed [] h (suc c) = refl
none_pushed (x ∷ xs) h zero = h 0
none_pushed (x ∷ xs) h (suc c) = none_pushed xs (λ i. h (suc i)) c

gaps_none : (xs : List (Option ℕ)) → ((c : ℕ) → get_or xs c None ≡ None) → gaps xs ≡ length xs
gaps_none [] h = refl
gaps_none (None ∷ xs) h = ap suc (gaps_none xs (λ i. h (suc i)))
gaps_none (Some n ∷ xs) h = let e = h 0 in cc

pub no_numbers : (xs : List (Option ℕ)) → ((c : ℕ) → get_or xs c None ≡ None) → AreNumbers xs []
no_numbers xs h = record {
  filled = let e = gaps_none xs h in omega arith;
  there = λ k less. absurd (omega arith);
  back = λ c k e. absurd (clash (get_or xs c None) k (h c) e);
}
  where
    clash : (o : Option ℕ) (k : ℕ) → o ≡ None → o ≡ Some k → ⊥
    clash o k p q = cc

gaps_set : (xs : List (Option ℕ)) (c n : ℕ) → c < length xs → get_or xs c None ≡ None → gaps (set xs c (Some n)) + 1 ≡ gaps xs
gaps_set [] c n less e = absurd (omega arith)
gaps_set (None ∷ xs) zero n less e = omega arith
gaps_set (Some m ∷ xs) zero n less e = cc
gaps_set (None ∷ xs) (suc c) n less e = let rest = gaps_set xs c n (omega arith) e in omega arith
gaps_set (Some m ∷ xs) (suc c) n less e = gaps_set xs c n (omega arith) e

module _ (number : List (Option ℕ)) (order : List ℕ) (class : ℕ) (are : AreNumbers number order) (less : class < length number) (free : get_or number class None ≡ None) where
  clash : (o : Option ℕ) (k : ℕ) → o ≡ None → o ≡ Some k → ⊥
  clash o k p q = cc

  here : slice_index (order ++ class ∷ []) (length order) ≡ class
  here = get_or_push order class 0 (length order) refl

  before : (k : ℕ) → k < length order → slice_index (order ++ class ∷ []) k ≡ slice_index order k
  before k inside = get_or_append_left order (class ∷ []) 0 k inside

  longer : length (order ++ class ∷ []) ≡ length order + 1
  longer = length-append order (class ∷ [])

  new_here : get_or (set number class (Some (length order))) class None ≡ Some (length order)
  new_here = get_or-set_same number class (Some (length order)) None less

  old_there : (c : ℕ) → (c ≡ class → ⊥) → get_or (set number class (Some (length order))) c None ≡ get_or number c None
  old_there c apart = get_or-set_other number class c (Some (length order)) None apart

  -- a class that has a number isn't this one
  other : (k : ℕ) → k < length order → slice_index order k ≡ class → ⊥
  other k inside e = clash (get_or number class None) k free (subst (λ c. get_or number c None ≡ Some k) e (are.there k inside))

  there_more : (k : ℕ) → (k < length order) ⊎ (length order ≡ k) → get_or (set number class (Some (length order))) (slice_index (order ++ class ∷ []) k) None ≡ Some k
  there_more k (inl inside) =
      ap (λ c. get_or (set number class (Some (length order))) c None) (before k inside) ∙ (old_there (slice_index order k) (other k inside) ∙ are.there k inside)
  there_more k (inr same) =
      subst (λ j. get_or (set number class (Some (length order))) (slice_index (order ++ class ∷ []) j) None ≡ Some j) same
      (ap (λ c. get_or (set number class (Some (length order))) c None) here ∙ new_here)

  back_more : (c k : ℕ) → get_or (set number class (Some (length order))) c None ≡ Some k → (k < length (order ++ class ∷ [])) × (slice_index (order ++ class ∷ []) k ≡ c)
  back_more c k e = by (cases_eq c class)
    where
      by : (c ≡ class) ⊎ (c ≡ class → ⊥) → (k < length (order ++ class ∷ [])) × (slice_index (order ++ class ∷ []) k ≡ c)
      by (inl same) =
          let both : ◌≡◌ {A = Option ℕ} (Some (length order)) (Some k) = sym new_here ∙ subst (λ d. get_or (set number class (Some (length order))) d None ≡ Some k) same e in
          let is : length order ≡ k = cc in
          (let l = longer in omega arith, ap (slice_index (order ++ class ∷ [])) (sym is) ∙ (here ∙ sym same))
      by (inr apart) =
          let was = are.back c k (sym (old_there c apart) ∙ e) in
          let inside = was.0 in
          (let l = longer in omega arith, before k inside ∙ was.1)

  pub more_numbers : AreNumbers (set number class (Some (length order))) (order ++ class ∷ [])
  more_numbers = record {
    filled =
        let l = longer in let g = gaps_set number class (length order) less free in let f = are.filled in let s = length-set number class (Some (length order)) in
        omega arith;
    there = λ k inside. there_more k (last_or_before (length order) k (let l = longer in omega arith));
    back = back_more;
  }

pub known_number : (number : List (Option ℕ)) (order : List ℕ) (class k : ℕ) → AreNumbers number order → get_or number class None ≡ Some k → IsNumberOf order order class k
known_number number order class k are e = let was = are.back class k e in record { next = inl (was.0, refl); named = was.1 }

pub extends_more : (class old mid new : List ℕ) (x n : ℕ) → Extends class old mid → x < length class → IsNumberOf mid new (slice_index class x) n → Extends class old new
extends_more class old mid new x n was less h = by h.next
  where
    by : ((n < length mid) × (new ≡ mid)) ⊎ ((n ≡ length mid) × (new ≡ mid ++ slice_index class x ∷ [])) → Extends class old new
    by (inl same) = subst (Extends class old) (sym same.1) was
    by (inr more) = subst (Extends class old) (sym more.1) (record {
      longer = let l = was.longer in let e = length-append mid (slice_index class x ∷ []) in omega arith;
      front = λ k inside. let l = was.longer in get_or_append_left mid (slice_index class x ∷ []) 0 k (omega arith) ∙ was.front k inside;
      named = λ k out inside. let e = length-append mid (slice_index class x ∷ []) in named k out (last_or_before (length mid) k (omega arith));
    })
      where
        named : (k : ℕ) → length old ≤ k → (k < length mid) ⊎ (length mid ≡ k) → (y : ℕ) × (y < length class) × (slice_index (mid ++ slice_index class x ∷ []) k ≡ slice_index class y)
        named k out (inl inside) =
            let h = was.named k out inside in
            (h.0, h.1, get_or_append_left mid (slice_index class x ∷ []) 0 k inside ∙ h.2)
        named k out (inr is) =
            (x, less, subst (λ j. slice_index (mid ++ slice_index class x ∷ []) j ≡ slice_index class x) is (get_or_push mid (slice_index class x) 0 (length mid) refl))

-- a number of the longer list is one of the list that is longer by its class
pub number_inside : (old new : List ℕ) (class n : ℕ) → IsNumberOf old new class n → n < length new
number_inside old new class n h = by h.next
  where
    by : ((n < length old) × (new ≡ old)) ⊎ ((n ≡ length old) × (new ≡ old ++ class ∷ [])) → n < length new
    by (inl same) = let l = ap length same.1 in let h = same.0 in omega arith
    by (inr more) = let l = ap length more.1 in let e = length-append old (class ∷ []) in let h = more.0 in omega arith

-- the ends so far stand, and one more
pub stand_more : (before mid after : ℕ) (ends : List ℕ) (n : ℕ) → Stand before ends mid → ((n < mid) × (mid ≡ after)) ⊎ ((n ≡ mid) × (mid + 1 ≡ after)) → Stand before (ends ++ n ∷ []) after
stand_more before mid after [] n h (inl seen) = inl (subst (λ k. n < k) (sym h) seen.0, h ∙ seen.1)
stand_more before mid after [] n h (inr new) = inr (new.0 ∙ sym h, ap (λ k. k + 1) h ∙ new.1)
stand_more before mid after (end ∷ ends) n (inl h) next = inl (h.0, stand_more before mid after ends n h.1 next)
stand_more before mid after (end ∷ ends) n (inr h) next = inr (h.0, stand_more (before + 1) mid after ends n h.1 next)

pub number_stands : (old new : List ℕ) (class n : ℕ) → IsNumberOf old new class n → ((n < length old) × (length old ≡ length new)) ⊎ ((n ≡ length old) × (length old + 1 ≡ length new))
number_stands old new class n h = by h.next
  where
    by : ((n < length old) × (new ≡ old)) ⊎ ((n ≡ length old) × (new ≡ old ++ class ∷ [])) → ((n < length old) × (length old ≡ length new)) ⊎ ((n ≡ length old) × (length old + 1 ≡ length new))
    by (inl same) = inl (same.0, sym (ap length same.1))
    by (inr more) = inr (more.0, sym (ap length more.1 ∙ length-append old (class ∷ [])))

pub paired_more : (R : ℕ → ℕ → Type 0) (xs ys : List (Label × ℕ)) (x y : Label × ℕ) → ArePaired R xs ys → x.0 ≡ y.0 → R x.1 y.1 → ArePaired R (xs ++ x ∷ []) (ys ++ y ∷ [])
paired_more R [] [] x y h e r = (e, r, tt)
paired_more R [] (b ∷ ys) x y h e r = absurd h
paired_more R (a ∷ xs) [] x y h e r = absurd h
paired_more R (a ∷ xs) (b ∷ ys) x y h e r = (h.0, h.1, paired_more R xs ys x y h.2 e r)

pub paired_weaker : (P Q : ℕ → ℕ → Type 0) → ((i j : ℕ) → P i j → Q i j) → (xs ys : List (Label × ℕ)) → ArePaired P xs ys → ArePaired Q xs ys
paired_weaker P Q f [] [] h = tt
paired_weaker P Q f [] (y ∷ ys) h = absurd h
paired_weaker P Q f (x ∷ xs) [] h = absurd h
paired_weaker P Q f (x ∷ xs) (y ∷ ys) h = (h.0, f x.1 y.1 h.1, paired_weaker P Q f xs ys h.2)

-- an end stays one when classes are added
pub end_kept : (class old new : List ℕ) → Extends class old new → (i j : ℕ) → IsEndOf old class i j → IsEndOf new class i j
end_kept class old new h i j end = (let l = h.longer in let e = end.0 in omega arith, h.front i end.0 ∙ end.1)

end_kept_by : (class old new : List ℕ) (c n : ℕ) → IsNumberOf old new c n → (i j : ℕ) → IsEndOf old class i j → IsEndOf new class i j
end_kept_by class old new c n h i j end = by h.next
  where
    by : ((n < length old) × (new ≡ old)) ⊎ ((n ≡ length old) × (new ≡ old ++ c ∷ [])) → IsEndOf new class i j
    by (inl same) = subst (λ o. IsEndOf o class i j) (sym same.1) end
    by (inr more) = subst (λ o. IsEndOf o class i j) (sym more.1) (let e = end.0 in let l = length-append old (c ∷ []) in omega arith, get_or_append_left old (c ∷ []) 0 i end.0 ∙ end.1)

-- the edges so far, and one more
pub image_more : (class old new : List ℕ) (ends edges : List (Label × ℕ)) (l : Label) (n to : ℕ) → ArePaired (IsEndOf old class) ends edges → IsNumberOf old new (slice_index class to) n → ArePaired (IsEndOf new class) (ends ++ (l, n) ∷ []) (edges ++ (l, to) ∷ [])
image_more class old new ends edges l n to h is =
    paired_more (IsEndOf new class) ends edges (l, n) (l, to) (paired_weaker (IsEndOf old class) (IsEndOf new class) (end_kept_by class old new (slice_index class to) n is) ends edges h) refl
    (number_inside old new (slice_index class to) n is, is.named)

-- nodes so far, and one more
pub stands_more : (n before mid after : ℕ) (nodes : Nodes) (node : Node) → Stands n before nodes mid → n + length nodes < mid → Stand mid (ends_of node) after → Stands n before (nodes ++ node ∷ []) after
stands_more n before mid after [] node h less stand = (omega arith, after, subst (λ k. Stand k (ends_of node) after) (sym h) stand, refl)
stands_more n before mid after (first ∷ nodes) node h less stand = (h.0, h.1, h.2, stands_more (n + 1) h.1 mid after nodes node h.3 (omega arith) stand)

pub all_numbered : (n before after : ℕ) (nodes : Nodes) → Stands n before nodes after → after ≡ n + length nodes → Numbered n before nodes
all_numbered n before after [] h e = let same : before ≡ after = h in omega arith
all_numbered n before after (node ∷ nodes) h e = (h.0, h.1, h.2, all_numbered (n + 1) h.1 after nodes h.3 (omega arith))
