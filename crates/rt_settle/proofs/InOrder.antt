-- Lines in the order of their texts are the same lines, each as often as before.
use Rattle.std.proofs.Common.{◌≡◌, ◌≢◌, ◌⊎◌, inl, inr, suc, List, [], ◌∷◌, ◌++◌, Bool, true, false, cond, filter, AllPairs, Contains}
use Rattle.std.proofs.Common.{refl, sym, ap, subst, arith}
use Rattle.std.specs.List.Sorted.{ties}
use Rattle.std.proofs.lemmas.Bool.{both_ways}
use Rattle.std.proofs.lemmas.List.Kept.{AllPairs-cons, AllPairs-filter}
use Rattle.rt_base.proofs.Lists.{All-from_contains, Contains-none, Contains-here, Contains-there, Contains-cons_cases}
use Rattle.rt_lines.specs.declared.line.Line.{Line}
use Rattle.rt_settle.specs.Chosen.{AreInOrder, is_before}
use Rattle.rt_settle.proofs.OneOrder.{before_order, ties_itself}

module _ {X : Type 0} (p : X → Bool) where
  -- an element that passes is one of those that do
  passing_has : (xs : List X) (x : X) → p x ≡ true → Contains xs x → Contains (filter p xs) x
  passing_has [] x e c = absurd (Contains-none x c)
  passing_has (y ∷ xs) x e c = by (Contains-cons_cases y xs x c) (p y) refl (passing_has xs x e)
    where
      by : (y ≡ x) ⊎ Contains xs x → (t : Bool) → p y ≡ t → (Contains xs x → Contains (filter p xs) x) →
          Contains (cond t (y ∷ filter p xs) (filter p xs)) x
      by (inl f) true g rest = subst (Contains (y ∷ filter p xs)) f (Contains-here y (filter p xs))
      by (inl f) false g rest = absurd (both_ways (p y) g (subst (λ z. p z ≡ true) (sym f) e))
      by (inr d) true g rest = Contains-there y (filter p xs) x (rest d)
      by (inr d) false g rest = rest d

  -- what passes is an element
  passing_source : (xs : List X) (x : X) → Contains (filter p xs) x → Contains xs x
  passing_source [] x c = absurd (Contains-none x c)
  passing_source (y ∷ xs) x c = by (p y) c (passing_source xs x)
    where
      by : (t : Bool) → Contains (cond t (y ∷ filter p xs) (filter p xs)) x → (Contains (filter p xs) x → Contains xs x) →
          Contains (y ∷ xs) x
      by true d rest = either (Contains-cons_cases y (filter p xs) x d)
        where
          either : (y ≡ x) ⊎ Contains (filter p xs) x → Contains (y ∷ xs) x
          either (inl f) = subst (Contains (y ∷ xs)) f (Contains-here y xs)
          either (inr h) = Contains-there y xs x (rest h)
      by false d rest = Contains-there y xs x (rest d)

abbrev IsOnce : {X : Type 0} → List X → Type 0
IsOnce xs = AllPairs (λ a b. a ≢ b) xs

module _ {X : Type 0} where
  once_head : (x : X) (xs : List X) → IsOnce (x ∷ xs) → Contains xs x → ⊥
  once_head x xs once (k, within, e) = once 0 (suc k) x (omega arith) (omega arith) (sym e)

  once_tail : (x : X) (xs : List X) → IsOnce (x ∷ xs) → IsOnce xs
  once_tail x xs once i j d less within = once (suc i) (suc j) d (omega arith) (omega arith)

  -- an element that stands twice stands beside itself
  pub once_by_cuts : (xs : List X) →
      ((before after : List X) (x : X) → xs ≡ before ++ x ∷ after → Contains (before ++ after) x → ⊥) → IsOnce xs
  once_by_cuts [] apart = λ i j d less within. absurd (omega arith)
  once_by_cuts (y ∷ ys) apart =
      AllPairs-cons (λ a b. a ≢ b) y ys
      (All-from_contains (λ b. y ≢ b) ys (λ z c e. apart [] ys y refl (subst (Contains ys) (sym e) c)))
      (once_by_cuts ys (λ before after x cut c. apart (y ∷ before) after x (ap (λ zs. y ∷ zs) cut)
      (Contains-there y (before ++ after) x c)))

-- where those that tie with an element stand once, whatever the element, all stand once
module _ {X : Type 0} (p : X → X → Bool) (itself : (x : X) → p x x ≡ true) where
  once_by : (xs : List X) → ((x : X) → IsOnce (filter (p x) xs)) → IsOnce xs
  once_by [] each = λ i j d less within. absurd (omega arith)
  once_by (y ∷ ys) each =
      AllPairs-cons (λ a b. a ≢ b) y ys (All-from_contains (λ b. y ≢ b) ys first) (once_by ys (λ x. rest (p x y) x (each x)))
    where
      own : (t : Bool) → p y y ≡ t → IsOnce (cond t (y ∷ filter (p y) ys) (filter (p y) ys)) → Contains ys y → ⊥
      own true e once c = once_head y (filter (p y) ys) once (passing_has (p y) ys y (itself y) c)
      own false e once c = both_ways (p y y) e (itself y)

      first : (z : X) → Contains ys z → y ≢ z
      first z c e = own (p y y) refl (each y) (subst (Contains ys) (sym e) c)

      rest : (t : Bool) (x : X) → IsOnce (cond t (y ∷ filter (p x) ys) (filter (p x) ys)) → IsOnce (filter (p x) ys)
      rest true x once = once_tail y (filter (p x) ys) once
      rest false x once = once

module _ (lines sorted : List Line) (in_order : AreInOrder lines sorted) where
  -- lines in order are those that were put in order
  pub sorted_source : (l : Line) → Contains sorted l → Contains lines l
  sorted_source l c =
      passing_source (ties is_before l) lines l (subst (λ ls. Contains ls l) (in_order.stable l)
      (passing_has (ties is_before l) sorted l (ties_itself is_before before_order l) c))

  -- and these are among them
  pub sorted_has : (l : Line) → Contains lines l → Contains sorted l
  sorted_has l c =
      passing_source (ties is_before l) sorted l (subst (λ ls. Contains ls l) (sym (in_order.stable l))
      (passing_has (ties is_before l) lines l (ties_itself is_before before_order l) c))

  -- none stands twice where none did
  pub sorted_once : IsOnce lines → IsOnce sorted
  sorted_once once =
      once_by (ties is_before) (ties_itself is_before before_order) sorted
      (λ x. subst IsOnce (sym (in_order.stable x)) (AllPairs-filter (λ a b. a ≢ b) (ties is_before x) lines once))
