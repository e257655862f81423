-- Edges in order, and one more among them.
use Rattle.std.proofs.Common.{◌≡◌, ℕ, zero, suc, ◌<◌, ◌≤◌, Bool, true, false, cond, Option, Some, None, List, [], ◌∷◌, ◌++◌, length, get_or, take, drop, refl, sym, ap, subst, ◌∙◌, arith}
use Rattle.std.specs.List.{AllByRecursion, slice_get}
use Rattle.std.specs.Map.{lookup}
use Rattle.std.specs.Cmp.{IsTotalOrder}
use Rattle.std.specs.Ordering.{is_lt, ordering_reverse}
use Rattle.std.specs.declared.cmp.Ordering.{Ordering}
use Rattle.std.specs.declared.cmp.Ordering.TheVariants.{Less, Equal, Greater}
use Rattle.std.proofs.lemmas.Cmp.{nat_list_cmp_total, on_total}
use Rattle.rt_lines.specs.Words.{IsLabel}
use Rattle.rt_lines.specs.Equality.{label_eq}
use Rattle.rt_lines.proofs.Equal.{label_equal}
use Rattle.rt_lines.specs.declared.label.Label.{Label}
use Rattle.rt_texts.specs.Texts.{label_text}
use Rattle.rt_tree.specs.Labels.{label_cmp}
use Rattle.rt_tree.specs.Trees.{with_edge, place_in, AreOrdered, IsEdge, AreEdges}
use Rattle.rt_tree.proofs.Comparing.{not_less_itself, one_label}
use Rattle.rt_lines.proofs.Same.{label_self}
use Rattle.rt_base.proofs.Numbers.{less_lt}

pub labels_total : IsTotalOrder label_cmp
labels_total = on_total label_text nat_list_cmp_total

pub less_chain : (j k l : Label) → label_cmp j k ≡ Less → label_cmp k l ≡ Less → label_cmp j l ≡ Less
less_chain j k l p q = labels_total.trans j k l p q

-- every edge of a list has a property
pub each_weaker : {X : Type 0} (P Q : X → Type 0) → ((x : X) → P x → Q x) → (xs : List X) → AllByRecursion P xs → AllByRecursion Q xs
each_weaker P Q f [] h = tt
each_weaker P Q f (x ∷ xs) h = (f x h.0, each_weaker P Q f xs h.1)

pub each_at : {X : Type 0} (P : X → Type 0) (xs : List X) (k : ℕ) (d : X) → k < length xs → AllByRecursion P xs → P (get_or xs k d)
each_at P [] k d less h = absurd (omega arith)
each_at P (x ∷ xs) zero d less h = h.0
each_at P (x ∷ xs) (suc k) d less h = each_at P xs k d (omega arith) h.1

pub each_with : (P : Label × ℕ → Type 0) (edges : List (Label × ℕ)) (l : Label) (to : ℕ) → AllByRecursion P edges → P (l, to) → AllByRecursion P (with_edge edges l to)
each_with P [] l to h p = (p, tt)
each_with P (edge ∷ edges) l to h p = by (is_lt (label_cmp l edge.0)) (each_with P edges l to h.1 p)
  where
    by : (b : Bool) → AllByRecursion P (with_edge edges l to) → AllByRecursion P (cond b ((l, to) ∷ edge ∷ edges) (edge ∷ with_edge edges l to))
    by true rest = (p, h)
    by false rest = (h.0, rest)

-- where one more edge comes, the others stay in order
pub place-le : (l : Label) (edges : List (Label × ℕ)) → place_in l edges ≤ length edges
place-le l [] = omega arith
place-le l (edge ∷ edges) = by (is_lt (label_cmp l edge.0)) (place-le l edges)
  where
    by : (b : Bool) → place_in l edges ≤ length edges → cond b 0 (suc (place_in l edges)) ≤ suc (length edges)
    by true rest = omega arith
    by false rest = omega arith

pub with_edge_at : (l : Label) (to : ℕ) (edges : List (Label × ℕ)) → take (place_in l edges) edges ++ (l, to) ∷ drop (place_in l edges) edges ≡ with_edge edges l to
with_edge_at l to [] = refl
with_edge_at l to (edge ∷ edges) = by (is_lt (label_cmp l edge.0)) (with_edge_at l to edges)
  where
    by : (b : Bool) → take (place_in l edges) edges ++ (l, to) ∷ drop (place_in l edges) edges ≡ with_edge edges l to → take (cond b 0 (suc (place_in l edges))) (edge ∷ edges) ++ (l, to) ∷ drop (cond b 0 (suc (place_in l edges))) (edge ∷ edges) ≡ cond b ((l, to) ∷ edge ∷ edges) (edge ∷ with_edge edges l to)
    by true rest = refl
    by false rest = ap (λ es. edge ∷ es) rest

not_found : (b : Bool) (n : ℕ) (o : Option ℕ) → cond b (Some n) o ≡ None → (b ≡ false) × (o ≡ None)
not_found true n o e = cc
not_found false n o e = (refl, e)

-- a label that isn't less, and is another, is greater
after : (o : Ordering) (k l : Label) → IsLabel k → IsLabel l → (label_eq l k ≡ false) → o ≡ label_cmp l k → is_lt o ≡ false → label_cmp k l ≡ Less
after Less k l good good' apart e not = cc
after Equal k l good good' apart e not =
    let same : l ≡ k = one_label l k good' good (sym e) in
    absurd (differ (sym (label_self l) ∙ (ap (label_eq l) same ∙ apart)))
  where
    differ : true ≡ false → ⊥
    differ e = cc
after Greater k l good good' apart e not = labels_total.antisymm k l ∙ ap ordering_reverse (sym e)

ordered_with : (count : ℕ) (edges : List (Label × ℕ)) (l : Label) (to : ℕ) → AllByRecursion (IsEdge count) edges → AreOrdered edges → IsLabel l → lookup (label_eq l) edges ≡ None → AreOrdered (with_edge edges l to)
ordered_with count [] l to each ordered good none = (tt, tt)
ordered_with count (edge ∷ edges) l to each ordered good none =
    by (label_cmp l edge.0) refl (ordered_with count edges l to each.1 ordered.1 good (not_found (label_eq l edge.0) edge.1 (lookup (label_eq l) edges) none).1)
  where
    parts : (label_eq l edge.0 ≡ false) × (lookup (label_eq l) edges ≡ None)
    parts = not_found (label_eq l edge.0) edge.1 (lookup (label_eq l) edges) none

    first : label_cmp l edge.0 ≡ Less → AreOrdered ((l, to) ∷ edge ∷ edges)
    first less =
        ((less, each_weaker (λ (later : Label × ℕ). label_cmp edge.0 later.0 ≡ Less) (λ (later : Label × ℕ). label_cmp l later.0 ≡ Less) (λ later. less_chain l edge.0 later.0 less) edges ordered.0), ordered)

    later : label_cmp edge.0 l ≡ Less → AreOrdered (with_edge edges l to) → AreOrdered (edge ∷ with_edge edges l to)
    later less rest = (each_with (λ (later : Label × ℕ). label_cmp edge.0 later.0 ≡ Less) edges l to ordered.0 less, rest)

    by : (o : Ordering) → o ≡ label_cmp l edge.0 → AreOrdered (with_edge edges l to) → AreOrdered (cond (is_lt o) ((l, to) ∷ edge ∷ edges) (edge ∷ with_edge edges l to))
    by Less e rest = first (sym e)
    by Equal e rest = later (after Equal edge.0 l each.0.0 good parts.0 e refl) rest
    by Greater e rest = later (after Greater edge.0 l each.0.0 good parts.0 e refl) rest

-- edges stay edges with one more of another label
pub edges_with : (count : ℕ) (edges : List (Label × ℕ)) (l : Label) (to : ℕ) → AreEdges count edges → IsLabel l → to < count → lookup (label_eq l) edges ≡ None → AreEdges count (with_edge edges l to)
edges_with count edges l to was good less none = record {
  each = each_with (IsEdge count) edges l to was.each (good, less);
  ordered = ordered_with count edges l to was.each was.ordered good none;
}

pub labels_of : (count : ℕ) (edges : List (Label × ℕ)) → AreEdges count edges → AllByRecursion (λ (edge : Label × ℕ). IsLabel edge.0) edges
labels_of count edges h = each_weaker (IsEdge count) (λ (edge : Label × ℕ). IsLabel edge.0) (λ edge e. e.0) edges h.each

-- what an edge that is found has
pub found_has : (P : Label × ℕ → Type 0) (l : Label) (n : ℕ) (edges : List (Label × ℕ)) → AllByRecursion P edges → lookup (label_eq l) edges ≡ Some n → P (l, n)
found_has P l n [] h e = cc
found_has P l n (edge ∷ edges) h e = by (label_eq l edge.0) refl e (found_has P l n edges h.1)
  where
    by : (b : Bool) → b ≡ label_eq l edge.0 → cond b (Some edge.1) (lookup (label_eq l) edges) ≡ Some n → (lookup (label_eq l) edges ≡ Some n → P (l, n)) → P (l, n)
    by true is f rest =
        let same : l ≡ edge.0 = label_equal l edge.0 (sym is) in
        let end : edge.1 ≡ n = cc in
        subst (λ m. P (l, m)) end (subst (λ k. P (k, edge.1)) (sym same) h.0)
    by false is f rest = rest f

-- what each edge has, an edge has
pub each_got : {X : Type 0} (P : X → Type 0) (xs : List X) (k : ℕ) (x : X) → AllByRecursion P xs → slice_get xs k ≡ Some x → P x
each_got P [] k x h e = cc
each_got {X} P (y ∷ xs) zero x h e = subst P (the e) h.0
  where
    the : ◌≡◌ {A = Option X} (Some y) (Some x) → y ≡ x
    the e = cc
each_got P (y ∷ xs) (suc k) x h e = each_got P xs k x h.1 e

-- an edge whose label is greater isn't before the place
pub place_before : (l : Label) (edges : List (Label × ℕ)) (k : ℕ) (edge : Label × ℕ) → slice_get edges k ≡ Some edge → label_cmp l edge.0 ≡ Less → place_in l edges ≤ k
place_before l [] k edge e less = omega arith
place_before l (first ∷ edges) zero edge e less = by (is_lt (label_cmp l first.0)) is
  where
    same : first ≡ edge
    same = cc

    is : is_lt (label_cmp l first.0) ≡ true
    is = ap is_lt (ap (λ (x : Label × ℕ). label_cmp l x.0) same ∙ less)

    by : (b : Bool) → b ≡ true → cond b 0 (suc (place_in l edges)) ≤ 0
    by true e = omega arith
    by false e = cc
place_before l (first ∷ edges) (suc k) edge e less = by (is_lt (label_cmp l first.0)) (place_before l edges k edge e less)
  where
    by : (b : Bool) → place_in l edges ≤ k → cond b 0 (suc (place_in l edges)) ≤ suc k
    by true rest = omega arith
    by false rest = omega arith

-- one whose label isn't greater is
pub place_past : (l : Label) (edges : List (Label × ℕ)) → AreOrdered edges → (k : ℕ) (edge : Label × ℕ) → slice_get edges k ≡ Some edge → (label_cmp l edge.0 ≡ Less → ⊥) → k < place_in l edges
place_past l [] ordered k edge e not = cc
place_past l (first ∷ edges) ordered zero edge e not = by (is_lt (label_cmp l first.0)) (less_lt (label_cmp l first.0))
  where
    same : first ≡ edge
    same = cc

    by : (b : Bool) → (b ≡ true → label_cmp l first.0 ≡ Less) → 0 < cond b 0 (suc (place_in l edges))
    by true is = absurd (not (sym (ap (λ (x : Label × ℕ). label_cmp l x.0) same) ∙ is refl))
    by false is = omega arith
place_past l (first ∷ edges) ordered (suc k) edge e not =
    by (is_lt (label_cmp l first.0)) (less_lt (label_cmp l first.0)) (place_past l edges ordered.1 k edge e not)
  where
    by : (b : Bool) → (b ≡ true → label_cmp l first.0 ≡ Less) → k < place_in l edges → suc k < cond b 0 (suc (place_in l edges))
    by true is rest =
        absurd (not (less_chain l first.0 edge.0 (is refl) (each_got (λ (later : Label × ℕ). label_cmp first.0 later.0 ≡ Less) edges k edge ordered.0 e)))
    by false is rest = omega arith

-- where an edge is that is found
found_at : (l : Label) (n : ℕ) (edges : List (Label × ℕ)) → lookup (label_eq l) edges ≡ Some n → (k : ℕ) × (slice_get edges k ≡ Some (l, n))
found_at l n [] e = cc
found_at l n (edge ∷ edges) e = by (label_eq l edge.0) refl e (found_at l n edges)
  where
    by : (b : Bool) → b ≡ label_eq l edge.0 → cond b (Some edge.1) (lookup (label_eq l) edges) ≡ Some n → (lookup (label_eq l) edges ≡ Some n → (k : ℕ) × (slice_get edges k ≡ Some (l, n))) → (k : ℕ) × (slice_get (edge ∷ edges) k ≡ Some (l, n))
    by true is f rest =
        let same : l ≡ edge.0 = label_equal l edge.0 (sym is) in
        let end : edge.1 ≡ n = cc in
        (0, the edge same end)
      where
        the : (x : Label × ℕ) → l ≡ x.0 → x.1 ≡ n → ◌≡◌ {A = Option (Label × ℕ)} (Some x) (Some (l, n))
        the (m, k) p q = rw (p, q) refl
    by false is f rest = let at = rest f in (suc at.0, at.1)

later_less : (edges : List (Label × ℕ)) → AreOrdered edges → (i k : ℕ) (x y : Label × ℕ) → i < k → slice_get edges i ≡ Some x → slice_get edges k ≡ Some y → label_cmp x.0 y.0 ≡ Less
later_less [] ordered i k x y less e f = cc
later_less (first ∷ edges) ordered zero zero x y less e f = absurd (omega arith)
later_less (first ∷ edges) ordered zero (suc k) x y less e f =
    let same : first ≡ x = cc in
    subst (λ (z : Label × ℕ). label_cmp z.0 y.0 ≡ Less) same (each_got (λ (later : Label × ℕ). label_cmp first.0 later.0 ≡ Less) edges k y ordered.0 f)
later_less (first ∷ edges) ordered (suc i) zero x y less e f = absurd (omega arith)
later_less (first ∷ edges) ordered (suc i) (suc k) x y less e f = later_less edges ordered.1 i k x y (omega arith) e f

one_edge : (x y : Label × ℕ) → ◌≡◌ {A = Option (Label × ℕ)} (Some x) (Some y) → x ≡ y
one_edge x y e = cc

-- an edge that is found is the last one before the place
pub found_last : (l : Label) (n : ℕ) (edges : List (Label × ℕ)) → AreOrdered edges → lookup (label_eq l) edges ≡ Some n → (k : ℕ) × (slice_get edges k ≡ Some (l, n)) × (place_in l edges ≡ suc k)
found_last l n edges ordered e =
    let at = found_at l n edges e in
    let past : at.0 < place_in l edges = place_past l edges ordered at.0 (l, n) at.1 (not_less_itself l) in
    (at.0, at.1, by at.0 past (next at.0 at.1))
  where
    next : (k : ℕ) → slice_get edges k ≡ Some (l, n) → (y : Label × ℕ) → slice_get edges (suc k) ≡ Some y → place_in l edges ≤ suc k
    next k at y f = place_before l edges (suc k) y f (later_less edges ordered k (suc k) (l, n) y (omega arith) at f)

    by : (k : ℕ) → k < place_in l edges → ((y : Label × ℕ) → slice_get edges (suc k) ≡ Some y → place_in l edges ≤ suc k) → place_in l edges ≡ suc k
    by k past after_it = of (slice_get edges (suc k)) refl
      where
        ends : (xs : List (Label × ℕ)) (j : ℕ) → slice_get xs j ≡ None → length xs ≤ j
        ends [] j e = omega arith
        ends (x ∷ xs) zero e = cc
        ends (x ∷ xs) (suc j) e = let rest = ends xs j e in omega arith

        of : (o : Option (Label × ℕ)) → o ≡ slice_get edges (suc k) → place_in l edges ≡ suc k
        of (Some y) is = let low = after_it y (sym is) in omega arith
        of None is = let low = place-le l edges in let end = ends edges (suc k) (sym is) in omega arith

-- without an edge before the place none is found
pub found_none : (l : Label) (edges : List (Label × ℕ)) → AreOrdered edges → place_in l edges ≡ 0 → lookup (label_eq l) edges ≡ None
found_none l edges ordered none = by (lookup (label_eq l) edges) refl
  where
    by : (o : Option ℕ) → o ≡ lookup (label_eq l) edges → o ≡ None
    by None is = refl
    by (Some n) is = let at = found_last l n edges ordered (sym is) in let place = at.2 in absurd (omega arith)

-- the last one before the place is found if it has the label
pub found_label : (l : Label) (edges : List (Label × ℕ)) → AreOrdered edges → (k : ℕ) (edge : Label × ℕ) → place_in l edges ≡ suc k → slice_get edges k ≡ Some edge → label_eq edge.0 l ≡ true → lookup (label_eq l) edges ≡ Some edge.1
found_label l edges ordered k edge place at is = by (lookup (label_eq l) edges) refl
  where
    same : edge.0 ≡ l
    same = label_equal edge.0 l is

    there : (xs : List (Label × ℕ)) (j : ℕ) → slice_get xs j ≡ Some edge → lookup (label_eq l) xs ≡ None → ⊥
    there [] j e none = cc
    there (x ∷ xs) zero e none =
        let heads : x ≡ edge = cc in
        let parts = not_found (label_eq l x.0) x.1 (lookup (label_eq l) xs) none in
        let itself : label_eq l x.0 ≡ true = subst (λ m. label_eq l m ≡ true) (sym (ap (λ (y : Label × ℕ). y.0) heads ∙ same)) (label_self l) in
        differ (sym itself ∙ parts.0)
      where
        differ : true ≡ false → ⊥
        differ e = cc
    there (x ∷ xs) (suc j) e none = there xs j e (not_found (label_eq l x.0) x.1 (lookup (label_eq l) xs) none).1

    by : (o : Option ℕ) → o ≡ lookup (label_eq l) edges → o ≡ Some edge.1
    by None e = absurd (there edges k at (sym e))
    by (Some n) e =
        let last = found_last l n edges ordered (sym e) in
        let where_it_is : last.0 ≡ k = let p = last.2 in omega arith in
        let both : ◌≡◌ {A = Option (Label × ℕ)} (Some (l, n)) (Some edge) = sym last.1 ∙ (ap (slice_get edges) where_it_is ∙ at) in
        ap Some (ap (λ (x : Label × ℕ). x.1) (one_edge (l, n) edge both))

-- and if it has another none is found
pub found_other : (l : Label) (edges : List (Label × ℕ)) → AreOrdered edges → (k : ℕ) (edge : Label × ℕ) → place_in l edges ≡ suc k → slice_get edges k ≡ Some edge → label_eq edge.0 l ≡ false → lookup (label_eq l) edges ≡ None
found_other l edges ordered k edge place at not = by (lookup (label_eq l) edges) refl
  where
    by : (o : Option ℕ) → o ≡ lookup (label_eq l) edges → o ≡ None
    by None is = refl
    by (Some n) is =
        let last = found_last l n edges ordered (sym is) in
        let where_it_is : last.0 ≡ k = let p = last.2 in omega arith in
        let both : ◌≡◌ {A = Option (Label × ℕ)} (Some (l, n)) (Some edge) = sym last.1 ∙ (ap (slice_get edges) where_it_is ∙ at) in
        absurd (differ (sym (label_self l) ∙ subst (λ (x : Label × ℕ). label_eq x.0 l ≡ false) (sym (one_edge (l, n) edge both)) not))
      where
        differ : true ≡ false → ⊥
        differ e = cc

-- what is no label of words is none of an edge
pub found_unlike : (l : Label) (count : ℕ) (edges : List (Label × ℕ)) → AreEdges count edges → (IsLabel l → ⊥) → lookup (label_eq l) edges ≡ None
found_unlike l count edges are not = by (lookup (label_eq l) edges) refl
  where
    by : (o : Option ℕ) → o ≡ lookup (label_eq l) edges → o ≡ None
    by None is = refl
    by (Some n) is = absurd (not (found_has (IsEdge count) l n edges are.each (sym is)).0)
