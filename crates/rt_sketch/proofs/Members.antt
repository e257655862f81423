-- Variables of numbers, and members of classes.
use Rattle.std.proofs.Common.{◌≡◌, ℕ, zero, suc, ◌<◌, ◌⊎◌, inl, inr, Bool, true, false, cond, Option, Some, None, List, [], ◌∷◌, Contains, length, refl, sym, ap, subst, ◌∙◌, arith}
use Rattle.std.specs.Prelude.{filter, nat_eq}
use Rattle.std.proofs.lemmas.Bool.{cases_eq}
use Rattle.rt_base.proofs.Lists.{Contains-none, Contains-here, Contains-there, Contains-cons_cases, Contains-map, Contains-map_source}
use Rattle.rt_lines.specs.declared.variable.Dtv.{Dtv}
use Rattle.rt_ways.specs.Nets.{Net, class_at}
use Rattle.rt_ways.specs.Pushes.{variable_at}
use Rattle.rt_sketch.specs.States.{AreNumbers, members, numbers_below, variables}
use Rattle.rt_base.proofs.Numbers.{nat_same, nat_itself}

filter_has : (p : ℕ → Bool) (xs : List ℕ) (x : ℕ) → Contains xs x → p x ≡ true → Contains (filter p xs) x
filter_has p [] x c e = absurd (Contains-none x c)
filter_has p (y ∷ xs) x c e = by (p y) refl (Contains-cons_cases y xs x c) (λ d. filter_has p xs x d e)
  where
    by : (b : Bool) → p y ≡ b → (y ≡ x) ⊎ Contains xs x → (Contains xs x → Contains (filter p xs) x) → Contains (cond b (y ∷ filter p xs) (filter p xs)) x
    by true f (inl g) more = subst (Contains (y ∷ filter p xs)) g (Contains-here y (filter p xs))
    by true f (inr d) more = Contains-there y (filter p xs) x (more d)
    by false f (inl g) more = absurd (let h : true ≡ false = sym e ∙ ap p (sym g) ∙ f in cc)
    by false f (inr d) more = more d

filter_source : (p : ℕ → Bool) (xs : List ℕ) (x : ℕ) → Contains (filter p xs) x → Contains xs x × (p x ≡ true)
filter_source p [] x c = absurd (Contains-none x c)
filter_source p (y ∷ xs) x c = by (p y) refl c (λ d. (let r : Contains xs x × (p x ≡ true) = filter_source p xs x d in (Contains-there y xs x r.0, r.1)))
  where
    by : (b : Bool) → p y ≡ b → Contains (cond b (y ∷ filter p xs) (filter p xs)) x → (Contains (filter p xs) x → Contains (y ∷ xs) x × (p x ≡ true)) → Contains (y ∷ xs) x × (p x ≡ true)
    by true f d later = elim (Contains-cons_cases y (filter p xs) x d) [ inl g ↦ (subst (Contains (y ∷ xs)) g (Contains-here y xs), ap p (sym g) ∙ f) | inr h ↦ later h ]
    by false f d later = later d

below_has : (count n : ℕ) → n < count → Contains (numbers_below count) n
below_has zero n h = absurd (omega (arith, h))
below_has (suc k) n h = elim (cases_eq n k) [
  | inl e ↦ subst (Contains (k ∷ numbers_below k)) (sym e) (Contains-here k (numbers_below k))
  | inr d ↦ Contains-there k (numbers_below k) n (below_has k n (omega (arith, h, d)))
]

below_source : (count n : ℕ) → Contains (numbers_below count) n → n < count
below_source zero n c = absurd (Contains-none n c)
below_source (suc k) n c = elim (Contains-cons_cases k (numbers_below k) n c) [
  | inl e ↦ omega (arith, e)
  | inr d ↦ (let h : n < k = below_source k n d in omega (arith, h))
]

pub member_has : (net : Net) (class n : ℕ) → n < length net.named → class_at net n ≡ class → Contains (members net (Some class)) n
member_has net class n h e = filter_has (λ k. nat_eq (class_at net k) class) (numbers_below (length net.named)) n (below_has (length net.named) n h) (ap (λ k. nat_eq k class) e ∙ nat_itself class)

pub member_source : (net : Net) (class n : ℕ) → Contains (members net (Some class)) n → (n < length net.named) × (class_at net n ≡ class)
member_source net class n c =
    let r : Contains (numbers_below (length net.named)) n × (nat_eq (class_at net n) class ≡ true) = filter_source (λ k. nat_eq (class_at net k) class) (numbers_below (length net.named)) n c in
    (below_source (length net.named) n r.0, nat_same (class_at net n) class r.1)

pub members_in : (net : Net) (class : Option ℕ) → AreNumbers net (members net class)
members_in net None n c = absurd (Contains-none n c)
members_in net (Some class) n c = (member_source net class n c).0

pub variable_has : (net : Net) (numbers : List ℕ) (n : ℕ) → Contains numbers n → Contains (variables net numbers) (variable_at net.named n)
variable_has net numbers n c = Contains-map (variable_at net.named) numbers n c

pub variable_source : (net : Net) (numbers : List ℕ) (x : Dtv) → Contains (variables net numbers) x → (n : ℕ) × Contains numbers n × (variable_at net.named n ≡ x)
variable_source net numbers x c = Contains-map_source (variable_at net.named) numbers x c
