-- Structs numbered as they are met, by their classes.
use Rattle.std.proofs.Common.{◌≡◌, ℕ, zero, suc, ◌+◌, ◌<◌, ◌⊎◌, inl, inr, Option, Some, None, List, [], ◌∷◌, ◌++◌, length, set, get_or, refl, sym, ap, subst, ◌∙◌, arith, append-nil, length-append}
use Rattle.std.proofs.lemmas.Bool.{cases_eq}
use Rattle.std.proofs.lemmas.List.{get_or_append_left, get_or_push, length-set, get_or-set_same, get_or-set_other}
use Rattle.rt_tree.specs.Trees.{Stand}
use Rattle.rt_header.specs.Inside.Built.{Forest, Structs, HasMore, IsMaking, IsNodeOf, class_of, tree_of}
use Rattle.rt_header.specs.Inside.Made.{IsNumberOf}

-- the class of the struct of a number
abbrev class_at : Forest → Structs → ℕ → ℕ
class_at forest structs s = class_of forest (get_or structs s (0, 0)).0 (get_or structs s (0, 0)).1

clash : (o : Option ℕ) (s : ℕ) → o ≡ None → o ≡ Some s → ⊥
clash o s p q = cc

pub none_made : (forest : Forest) (numbers : List (Option ℕ)) → length numbers ≡ length forest.erased.graph → ((c : ℕ) → get_or numbers c None ≡ None) → IsMaking forest [] numbers
none_made forest numbers each none = record {
  are = record {
    tree = λ s less. absurd (omega arith);
    node = λ s less. absurd (omega arith);
    one = λ s t less less' e. absurd (omega arith);
  };
  numbered = record {
    each = each;
    some = λ c s e. absurd (clash (get_or numbers c None) s (none c) e);
    none = λ s less. absurd (omega arith);
  };
  few = omega arith;
}

-- the number that the class has
pub known_number : (forest : Forest) (structs : Structs) (numbers : List (Option ℕ)) (i n s : ℕ) → IsMaking forest structs numbers → get_or numbers (class_of forest i n) None ≡ Some s → IsNumberOf forest structs structs i n s
known_number forest structs numbers i n s making e =
    let was = making.numbered.some (class_of forest i n) s e in
    record { next = inl (was.0, refl); is = record { within = was.0; class = was.1 } }

-- the next number, for a class that has none
module _ (forest : Forest) (structs : Structs) (numbers : List (Option ℕ)) (i n : ℕ) (making : IsMaking forest structs numbers) (node : IsNodeOf forest i n) (inside : class_of forest i n < length forest.erased.graph) (free : get_or numbers (class_of forest i n) None ≡ None) where
  longer : length (structs ++ (i, n) ∷ []) ≡ length structs + 1
  longer = length-append structs ((i, n) ∷ [])

  split : (s : ℕ) → s < length (structs ++ (i, n) ∷ []) → (s < length structs) ⊎ (length structs ≡ s)
  split s less = let e = longer in cases s (length structs) (omega arith)
    where
      cases : (s k : ℕ) → s < k + 1 → (s < k) ⊎ (k ≡ s)
      cases s k less = search arith

  front : (s : ℕ) → s < length structs → get_or (structs ++ (i, n) ∷ []) s (0, 0) ≡ get_or structs s (0, 0)
  front s less = get_or_append_left structs ((i, n) ∷ []) (0, 0) s less

  back : (s : ℕ) → length structs ≡ s → get_or (structs ++ (i, n) ∷ []) s (0, 0) ≡ (i, n)
  back s end = get_or_push structs (i, n) (0, 0) s end

  class_front : (s : ℕ) → s < length structs → class_at forest (structs ++ (i, n) ∷ []) s ≡ class_at forest structs s
  class_front s less = ap (λ (at : ℕ × ℕ). class_of forest at.0 at.1) (front s less)

  class_back : (s : ℕ) → length structs ≡ s → class_at forest (structs ++ (i, n) ∷ []) s ≡ class_of forest i n
  class_back s end = ap (λ (at : ℕ × ℕ). class_of forest at.0 at.1) (back s end)

  -- a class that has a number isn't this one
  other : (s : ℕ) → s < length structs → class_at forest structs s ≡ class_of forest i n → ⊥
  other s less e = clash (get_or numbers (class_of forest i n) None) s free (subst (λ c. get_or numbers c None ≡ Some s) e (making.numbered.none s less))

  new_here : get_or (set numbers (class_of forest i n) (Some (length structs))) (class_of forest i n) None ≡ Some (length structs)
  new_here = get_or-set_same numbers (class_of forest i n) (Some (length structs)) None (let each = making.numbered.each in omega arith)

  old_there : (c : ℕ) → (c ≡ class_of forest i n → ⊥) → get_or (set numbers (class_of forest i n) (Some (length structs))) c None ≡ get_or numbers c None
  old_there c apart = get_or-set_other numbers (class_of forest i n) c (Some (length structs)) None apart

  one_class : (s t : ℕ) → (s < length structs) ⊎ (length structs ≡ s) → (t < length structs) ⊎ (length structs ≡ t) → class_at forest (structs ++ (i, n) ∷ []) s ≡ class_at forest (structs ++ (i, n) ∷ []) t → s ≡ t
  one_class s t (inl less) (inl less') e = making.are.one s t less less' (sym (class_front s less) ∙ (e ∙ class_front t less'))
  one_class s t (inl less) (inr end) e = absurd (other s less (sym (class_front s less) ∙ (e ∙ class_back t end)))
  one_class s t (inr end) (inl less) e = absurd (other t less (sym (class_front t less) ∙ (sym e ∙ class_back s end)))
  one_class s t (inr end) (inr end') e = sym end ∙ end'

  some_at : (c s : ℕ) → (c ≡ class_of forest i n) ⊎ (c ≡ class_of forest i n → ⊥) → get_or (set numbers (class_of forest i n) (Some (length structs))) c None ≡ Some s → (s < length (structs ++ (i, n) ∷ [])) × (class_at forest (structs ++ (i, n) ∷ []) s ≡ c)
  some_at c s (inl same) e =
      let both : ◌≡◌ {A = Option ℕ} (Some (length structs)) (Some s) = sym new_here ∙ subst (λ d. get_or (set numbers (class_of forest i n) (Some (length structs))) d None ≡ Some s) same e in
      let end : length structs ≡ s = cc in
      (let l = longer in omega arith, class_back s end ∙ sym same)
  some_at c s (inr apart) e =
      let was = making.numbered.some c s (sym (old_there c apart) ∙ e) in
      let less = was.0 in
      (let l = longer in omega arith, class_front s less ∙ was.1)

  none_at : (s : ℕ) → (s < length structs) ⊎ (length structs ≡ s) → get_or (set numbers (class_of forest i n) (Some (length structs))) (class_at forest (structs ++ (i, n) ∷ []) s) None ≡ Some s
  none_at s (inl less) =
      subst (λ c. get_or (set numbers (class_of forest i n) (Some (length structs))) c None ≡ Some s) (sym (class_front s less))
      (old_there (class_at forest structs s) (other s less) ∙ making.numbered.none s less)
  none_at s (inr end) =
      subst (λ c. get_or (set numbers (class_of forest i n) (Some (length structs))) c None ≡ Some s) (sym (class_back s end))
      (new_here ∙ ap Some end)

  tree_at : (s : ℕ) → (s < length structs) ⊎ (length structs ≡ s) → (get_or (structs ++ (i, n) ∷ []) s (0, 0)).0 < length forest.trees
  tree_at s (inl less) = subst (λ (at : ℕ × ℕ). at.0 < length forest.trees) (sym (front s less)) (making.are.tree s less)
  tree_at s (inr end) = subst (λ (at : ℕ × ℕ). at.0 < length forest.trees) (sym (back s end)) node.tree

  node_at_of : (s : ℕ) → (s < length structs) ⊎ (length structs ≡ s) → (get_or (structs ++ (i, n) ∷ []) s (0, 0)).1 < length (tree_of forest (get_or (structs ++ (i, n) ∷ []) s (0, 0)).0)
  node_at_of s (inl less) = subst (λ (at : ℕ × ℕ). at.1 < length (tree_of forest at.0)) (sym (front s less)) (making.are.node s less)
  node_at_of s (inr end) = subst (λ (at : ℕ × ℕ). at.1 < length (tree_of forest at.0)) (sym (back s end)) node.node

  pub more_making : length structs < 4294967295 → IsMaking forest (structs ++ (i, n) ∷ []) (set numbers (class_of forest i n) (Some (length structs)))
  more_making few = record {
    are = record {
      tree = λ s less. tree_at s (split s less);
      node = λ s less. node_at_of s (split s less);
      one = λ s t less less' e. one_class s t (split s less) (split t less') e;
    };
    numbered = record {
      each = length-set numbers (class_of forest i n) (Some (length structs)) ∙ making.numbered.each;
      some = λ c s e. some_at c s (cases_eq c (class_of forest i n)) e;
      none = λ s less. none_at s (split s less);
    };
    few = let l = longer in omega arith;
  }

  pub next_number : IsNumberOf forest structs (structs ++ (i, n) ∷ []) i n (length structs)
  next_number = record {
    next = inr (refl, refl);
    is = record { within = let l = longer in omega arith; class = class_back (length structs) refl };
  }

pub number_more : (forest : Forest) (old new : Structs) (i n s : ℕ) → IsNumberOf forest old new i n s → HasMore old new
number_more forest old new i n s h = by h.next
  where
    by : ((s < length old) × (new ≡ old)) ⊎ ((s ≡ length old) × (new ≡ old ++ (i, n) ∷ [])) → HasMore old new
    by (inl same) = ([], same.1 ∙ sym (append-nil old))
    by (inr more) = ((i, n) ∷ [], more.1)

pub number_stands : (forest : Forest) (old new : Structs) (i n s : ℕ) → IsNumberOf forest old new i n s → Stand (length old) (s ∷ []) (length new)
number_stands forest old new i n s h = by h.next
  where
    by : ((s < length old) × (new ≡ old)) ⊎ ((s ≡ length old) × (new ≡ old ++ (i, n) ∷ [])) → Stand (length old) (s ∷ []) (length new)
    by (inl same) = inl (same.0, sym (ap length same.1))
    by (inr more) = inr (more.0, sym (ap length more.1 ∙ length-append old ((i, n) ∷ [])))
