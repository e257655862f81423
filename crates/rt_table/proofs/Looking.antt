-- Look-ups: labels by number, and members of groups.
use Rattle.std.proofs.Common.{◌≡◌, ◌<◌, ◌≤◌, ◌+◌, ℕ, Bool, true, false, cond, nat_eq, ◌||◌, Option, Some, None, List, [], ◌∷◌, ◌++◌, zero, suc, map, length, take, drop, get_or, refl, sym, ap, subst, ◌∙◌, append_assoc, arith}
use Rattle.std.specs.Prelude.{slice_get, slice_index_or}
use Rattle.std.specs.List.{list_any}
use Rattle.std.proofs.lemmas.List.{at_drop_more, take_more}
use Rattle.std.proofs.lemmas.Bool.Decides.{nat_tests}
use Rattle.rt_lines.specs.declared.label.Label.{Label}
use Rattle.rt_scheme.specs.Ports.{label_at}
use Rattle.rt_liveness.specs.declared.call.Call.{Call}
use Rattle.rt_rows.specs.declared.row.Row.{Row}
use Rattle.rt_table.specs.declared.item.Item.{Item}
use Rattle.rt_table.specs.declared.item.Item.TheVariants as item
use Rattle.rt_table.specs.Lists.{is_member}
use Rattle.rt_table.specs.Table.{Linked, Target, Unknown, filled, target_at}

-- what a list has at a place
pub get-within : {X : Type 0} (xs : List X) (i : ℕ) (x : X) → slice_get xs i ≡ Some x → i < length xs
get-within [] i x e = cc
get-within (y ∷ xs) zero x e = omega arith
get-within (y ∷ xs) (suc i) x e = let less : i < length xs = get-within xs i x e in omega arith

-- one port more, from the last on
pub labels-more : (f g : ℕ → Option Label) (ports : List (Label × ℕ)) (i rest : ℕ) (d : Label × ℕ) → i + 1 ≡ rest → i < length ports
    → ((q : ℕ) → g q ≡ cond (nat_eq (get_or ports i d).1 q) (Some (get_or ports i d).0) (f q)) → ((n : ℕ) → f n ≡ label_at (drop rest ports) n)
    → (n : ℕ) → g n ≡ label_at (drop i ports) n
labels-more f g ports i rest d e less updates before n =
    updates n ∙ ap (λ o. cond (nat_eq (get_or ports i d).1 n) (Some (get_or ports i d).0) o) (before n ∙ ap (λ k. label_at (drop k ports) n) (sym e))
    ∙ sym (at_drop_more (λ ps. label_at ps n) ports i d less)

any_push : (q x : ℕ) (xs : List ℕ) → list_any (nat_eq q) (xs ++ x ∷ []) ≡ cond (nat_eq x q) true (list_any (nat_eq q) xs)
any_push q x [] = grind (arith, nat_tests)
any_push q x (y ∷ xs) = by (nat_eq q y) (any_push q x xs)
  where
    by : (b : Bool) → list_any (nat_eq q) (xs ++ x ∷ []) ≡ cond (nat_eq x q) true (list_any (nat_eq q) xs)
        → (b || list_any (nat_eq q) (xs ++ x ∷ [])) ≡ cond (nat_eq x q) true (b || list_any (nat_eq q) xs)
    by true before = elim (nat_eq x q) as (λ c. true ≡ cond c true true) [ true ↦ refl | false ↦ refl ]
    by false before = before

-- one member more
pub members-more : (old new group : List ℕ) (i : ℕ) → i < length group → ((q : ℕ) → list_any (nat_eq q) new ≡ cond (nat_eq (get_or group i 0) q) true (list_any (nat_eq q) old))
    → ((q : ℕ) → is_member old q ≡ is_member (take i group) q) → (q : ℕ) → is_member new q ≡ is_member (take (i + 1) group) q
members-more old new group i less updates before q =
    updates q ∙ ap (λ b. cond (nat_eq (get_or group i 0) q) true b) (before q) ∙ sym (any_push q (get_or group i 0) (take i group))
    ∙ ap (list_any (nat_eq q)) (sym (take_more group i 0 less))

-- How the call of a number at a site is told.
module _ (link : Call → Linked) where
  target_in_list : (here : List Call) (i : ℕ) (call : Call) → slice_get here i ≡ Some call → target_at (map link here) i ≡ (link call).target
  target_in_list [] i call e = cc
  target_in_list (c ∷ here) zero call e = let same : c ≡ call = cc in ap (λ (x : Call). (link x).target) same
  target_in_list (c ∷ here) (suc i) call e = target_in_list here i call e

  no_target_in_list : (here : List Call) (i : ℕ) → slice_get here i ≡ None → target_at (map link here) i ≡ Unknown
  no_target_in_list [] i e = refl
  no_target_in_list (c ∷ here) zero e = cc
  no_target_in_list (c ∷ here) (suc i) e = no_target_in_list here i e

  linked_here : (calls : List (List Call)) (site : ℕ) → slice_index_or (map (λ (here : List Call). map link here) calls) site [] ≡ map link (slice_index_or calls site [])
  linked_here [] site = refl
  linked_here (here ∷ calls) zero = refl
  linked_here (here ∷ calls) (suc site) = linked_here calls site

  pub target-here : (calls : List (List Call)) (site i : ℕ) (call : Call) → slice_get (slice_index_or calls site []) i ≡ Some call
      → target_at (slice_index_or (map (λ (here : List Call). map link here) calls) site []) i ≡ (link call).target
  target-here calls site i call e = ap (λ here. target_at here i) (linked_here calls site) ∙ target_in_list (slice_index_or calls site []) i call e

  pub target-none : (calls : List (List Call)) (site i : ℕ) → slice_get (slice_index_or calls site []) i ≡ None
      → target_at (slice_index_or (map (λ (here : List Call). map link here) calls) site []) i ≡ Unknown
  target-none calls site i e = ap (λ here. target_at here i) (linked_here calls site) ∙ no_target_in_list (slice_index_or calls site []) i e

-- the rows of items one after the other
pub filled-append : (rows_of : ℕ → ℕ → List Row) (xs ys : List Item) → filled rows_of (xs ++ ys) ≡ filled rows_of xs ++ filled rows_of ys
filled-append rows_of [] ys = refl
filled-append rows_of (item.Told x ∷ xs) ys = ap (λ rows. x ∷ rows) (filled-append rows_of xs ys)
filled-append rows_of (item.Instance site i ∷ xs) ys =
    ap (λ rows. rows_of site i ++ rows) (filled-append rows_of xs ys) ∙ sym (append_assoc (rows_of site i) (filled rows_of xs) (filled rows_of ys))
