-- Where the edges of loads and stores stand: those of arguments alone come before a load, and a store comes last.
use Rattle.std.proofs.Common.{◌≡◌, ℕ, zero, suc, ◌-◌, ◌⊎◌, inl, inr, ◌<◌, ◌≤◌, Bool, true, false, cond, Some, None, List, [], ◌∷◌, length, get_or, refl, sym, ap, subst, ◌∙◌, arith}
use Rattle.std.specs.List.{AllByRecursion, slice_get}
use Rattle.std.specs.List.Sorted.{IsPartitionedBy}
use Rattle.std.specs.Map.{lookup}
use Rattle.std.specs.declared.cmp.Ordering.{Ordering}
use Rattle.std.specs.declared.cmp.Ordering.TheVariants.{Less, Greater}
use Rattle.std.proofs.lemmas.Bool.{cases_eq}
use Rattle.rt_lines.specs.declared.label.Loc.TheVariants.{Arg, Stack}
use Rattle.rt_lines.specs.declared.label.Label.{Label}
use Rattle.rt_lines.specs.declared.label.Label.TheVariants.{In, Out, Load, Store, Field}
use Rattle.rt_lines.specs.Equality.{label_eq}
use Rattle.rt_lines.specs.Words.{IsLabel}
use Rattle.rt_lines.proofs.Equal.{label_equal}
use Rattle.rt_tree.specs.Labels.{label_cmp}
use Rattle.rt_tree.specs.Trees.{AreOrdered}
use Rattle.rt_tree.proofs.Comparing.{compared, not_less_itself}
use Rattle.rt_tree.proofs.Edges.{each_at}
use Rattle.rt_erase.specs.Inside.Places.{end_of, is_argument}

not_greater : (o : Ordering) → o ≡ Greater → o ≡ Less → ⊥
not_greater o e f = cc

-- labels of arguments come before all others
before_arguments : (k l : Label) → label_cmp k l ≡ Less → is_argument l ≡ true → is_argument k ≡ true
before_arguments (In k) l less e = refl
before_arguments (Out n) (In (Arg m)) less e = cc
before_arguments (Out n) (In (Stack m)) less e = cc
before_arguments Load (In (Arg m)) less e = cc
before_arguments Load (In (Stack m)) less e = cc
before_arguments Store (In (Arg m)) less e = cc
before_arguments Store (In (Stack m)) less e = cc
before_arguments (Field w k) (In (Arg m)) less e = cc
before_arguments (Field w k) (In (Stack m)) less e = cc
before_arguments k (Out m) less e = cc
before_arguments k Load less e = cc
before_arguments k Store less e = cc
before_arguments k (Field w m) less e = cc

-- others than those and a load come after a load
after_load : (k : Label) → label_cmp k Load ≡ Less → is_argument k ≡ true
after_load (In k) less = refl
after_load (Out n) less = cc
after_load Load less = absurd (not_less_itself Load less)
after_load Store less = cc
after_load (Field w k) less = cc

-- nothing comes after a store
after_store : (l : Label) → IsLabel l → label_cmp Store l ≡ Less → ⊥
after_store (In (Arg m)) good less = cc
after_store (In (Stack m)) good less = cc
after_store (Out m) good less = cc
after_store Load good less = cc
after_store Store good less = not_less_itself Store less
after_store (Field w k) good less = by good.0
  where
    at : (b : ℕ) → w ≡ b → label_cmp Store (Field b k) ≡ Less
    at b e = subst (λ n. label_cmp Store (Field n k) ≡ Less) e less

    by : (w ≡ 8) ⊎ ((w ≡ 16) ⊎ (w ≡ 32)) → ⊥
    by (inl e) = not_greater (label_cmp Store (Field 8 k)) (compared Store (Field 8 k) tt (inl refl, good.1)) (at 8 e)
    by (inr (inl e)) = not_greater (label_cmp Store (Field 16 k)) (compared Store (Field 16 k) tt (inr (inl refl), good.1)) (at 16 e)
    by (inr (inr e)) = not_greater (label_cmp Store (Field 32 k)) (compared Store (Field 32 k) tt (inr (inr refl), good.1)) (at 32 e)

ordered_at : (edges : List (Label × ℕ)) (i j : ℕ) (d : Label × ℕ) → AreOrdered edges → i < j → j < length edges → label_cmp (get_or edges i d).0 (get_or edges j d).0 ≡ Less
ordered_at [] i j d ordered less inside = absurd (omega arith)
ordered_at (edge ∷ edges) i zero d ordered less inside = absurd (omega arith)
ordered_at (edge ∷ edges) zero (suc j) d ordered less inside = each_at (λ (later : Label × ℕ). label_cmp edge.0 later.0 ≡ Less) edges j d (omega arith) ordered.0
ordered_at (edge ∷ edges) (suc i) (suc j) d ordered less inside = ordered_at edges i j d ordered.1 (omega arith) (omega arith)

pub arguments_first : (edges : List (Label × ℕ)) → AreOrdered edges → IsPartitionedBy (λ (edge : Label × ℕ). is_argument edge.0) edges
arguments_first edges ordered i j d upto less at = by (cases_eq i j)
  where
    by : (i ≡ j) ⊎ (i ≡ j → ⊥) → is_argument (get_or edges i d).0 ≡ true
    by (inl e) = subst (λ n. is_argument (get_or edges n d).0 ≡ true) (sym e) at
    by (inr other) = before_arguments (get_or edges i d).0 (get_or edges j d).0 (ordered_at edges i j d ordered (omega arith) less) at

-- no load comes after what is no argument
no_load : (k : Label) → is_argument k ≡ false → (edges : List (Label × ℕ)) → AllByRecursion (λ (later : Label × ℕ). label_cmp k later.0 ≡ Less) edges → lookup (label_eq Load) edges ≡ None
no_load k other [] after = refl
no_load k other (edge ∷ edges) after = by (label_eq Load edge.0) refl (no_load k other edges after.1)
  where
    by : (b : Bool) → label_eq Load edge.0 ≡ b → lookup (label_eq Load) edges ≡ None → cond b (Some edge.1) (lookup (label_eq Load) edges) ≡ None
    by true e rest =
        let is : is_argument k ≡ true = after_load k (subst (λ l. label_cmp k l ≡ Less) (sym (label_equal Load edge.0 e)) after.0) in
        let clash : true ≡ false = sym is ∙ other in
        cc
    by false e rest = rest

-- a load stands where the arguments end
pub load_at : (edges : List (Label × ℕ)) (k : ℕ) → AreOrdered edges → ((i : ℕ) (d : Label × ℕ) → i < k → is_argument (get_or edges i d).0 ≡ true) →
    ((i : ℕ) (d : Label × ℕ) → k ≤ i → i < length edges → is_argument (get_or edges i d).0 ≡ false) → lookup (label_eq Load) edges ≡ end_of Load (slice_get edges k)
load_at [] k ordered before after = refl
load_at (edge ∷ edges) zero ordered before after = by (label_eq Load edge.0)
  where
    by : (b : Bool) → cond b (Some edge.1) (lookup (label_eq Load) edges) ≡ cond b (Some edge.1) None
    by true = refl
    by false = no_load edge.0 (after 0 edge (omega arith) (omega arith)) edges ordered.0
load_at (edge ∷ edges) (suc k) ordered before after =
    by edge.0 (before 0 edge (omega arith)) (load_at edges k ordered.1 (λ i d less. before (suc i) d (omega arith)) (λ i d upto less. after (suc i) d (omega arith) (omega arith)))
  where
    by : (l : Label) → is_argument l ≡ true → lookup (label_eq Load) edges ≡ end_of Load (slice_get edges k) → cond (label_eq Load l) (Some edge.1) (lookup (label_eq Load) edges) ≡ end_of Load (slice_get edges k)
    by (In (Arg n)) e rest = rest
    by (In (Stack n)) e rest = rest
    by (Out n) e rest = cc
    by Load e rest = cc
    by Store e rest = cc
    by (Field w n) e rest = cc

-- a store stands at the end
pub store_at : (edges : List (Label × ℕ)) (k : ℕ) → AreOrdered edges → AllByRecursion (λ (edge : Label × ℕ). IsLabel edge.0) edges → length edges ≡ suc k →
    lookup (label_eq Store) edges ≡ end_of Store (slice_get edges k)
store_at [] k ordered good each = absurd (omega arith)
store_at (edge ∷ []) zero ordered good each = refl
store_at (edge ∷ []) (suc k) ordered good each = absurd (omega arith)
store_at (edge ∷ next ∷ edges) zero ordered good each = absurd (omega arith)
store_at (edge ∷ next ∷ edges) (suc k) ordered good each = by (label_eq Store edge.0) refl (store_at (next ∷ edges) k ordered.1 good.1 (omega arith))
  where
    by : (b : Bool) → label_eq Store edge.0 ≡ b → lookup (label_eq Store) (next ∷ edges) ≡ end_of Store (slice_get (next ∷ edges) k) →
        cond b (Some edge.1) (lookup (label_eq Store) (next ∷ edges)) ≡ end_of Store (slice_get (next ∷ edges) k)
    by true e rest = absurd (after_store next.0 good.1.0 (subst (λ l. label_cmp l next.0 ≡ Less) (sym (label_equal Store edge.0 e)) ordered.0.0))
    by false e rest = rest

pub store_last : (edges : List (Label × ℕ)) → AreOrdered edges → AllByRecursion (λ (edge : Label × ℕ). IsLabel edge.0) edges →
    lookup (label_eq Store) edges ≡ end_of Store (slice_get edges (length edges - 1))
store_last [] ordered good = refl
store_last (edge ∷ edges) ordered good =
    let place : length edges ≡ length (edge ∷ edges) - 1 = omega arith in
    store_at (edge ∷ edges) (length edges) ordered good (omega arith) ∙ ap (λ k. end_of Store (slice_get (edge ∷ edges) k)) place
