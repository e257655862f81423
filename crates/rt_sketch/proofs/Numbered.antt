-- What is found by numbers.
use Rattle.std.proofs.Common.{◌≡◌, ℕ, ◌+◌, ◌<◌, ◌≤◌, ◌⊎◌, inl, inr, Option, Some, None, List, [], Contains, length, get_or, take, refl, sym, subst, ◌∙◌}
use Rattle.std.proofs.lemmas.List.{take_all}
use Rattle.std.specs.Prelude.{MatchOption, slice_get}
use Rattle.std.proofs.lemmas.Option.{slice_get_within}
use Rattle.rt_base.proofs.Lists.{Contains-none}
use Rattle.rt_lines.specs.declared.label.Label.{Label}
use Rattle.rt_lines.specs.declared.label.Label.TheVariants.{Load, Store}
use Rattle.rt_lines.specs.declared.variable.Dtv.{Dtv}
use Rattle.rt_named.specs.Numbers.{IsLeft}
use Rattle.rt_ways.specs.Arcs.{IsInRow}
use Rattle.rt_ways.specs.Inside.Frames.{hub_of, or_else}
use Rattle.rt_ways.specs.Nets.{IsSized, Net}
use Rattle.rt_ways.specs.Pushes.{step_of}
use Rattle.rt_named.proofs.Noting.{left_as, left_more, left_none}
use Rattle.rt_sketch.specs.Inside.Steps.{AreAll, IsLed}
use Rattle.rt_sketch.proofs.Joining.{take_cases, take_here, take_left}

pub hub_sized : (net : Net) (class n : ℕ) → IsSized net → hub_of net.behind class ≡ Some n → n < length net.classes
hub_sized net class n is e = by (step_of net.behind class Load) is (λ k f. is.behind class k Load f) e
  where
    by : (o : Option ℕ) → IsSized net → ((k : ℕ) → o ≡ Some k → k < length net.classes) → or_else o (step_of net.behind class Store) ≡ Some n → n < length net.classes
    by None is all f = is.behind class n Store f
    by (Some k) is all f = all n f

pub number_sized : (net : Net) (x : Dtv) (o : Option ℕ) → IsSized net → MatchOption o (Contains net.named x → ⊥) (λ n. slice_get net.named n ≡ Some x) → (n : ℕ) → o ≡ Some n → n < length net.classes
number_sized net x None is found n e = absurd (cc)
number_sized net x (Some k) is found n e =
    let s : k ≡ n = cc in
    subst (λ m. n < m) (sym is.classes) (subst (λ m. m < length net.named) s (slice_get_within net.named k x found))

-- what is led to, number by number
module _ (net : Net) (rows : List (List ℕ)) (l : Label) where
  abbrev One : ℕ → ℕ → Type 0
  One q w = (m : ℕ) × (step_of net.steps q l ≡ Some m) × IsInRow rows m w

  pub lead_note : (q m : ℕ) (row old new : List ℕ) → step_of net.steps q l ≡ Some m → row ≡ get_or rows m [] → IsLeft (Contains row) old new → IsLeft (One q) old new
  lead_note q m row old new e f left =
      left_as (Contains row) (One q) old new (λ w c. (m, e, subst (λ xs. Contains xs w) f c))
      (λ w o. (let s : Some o.0 ≡ Some m = sym o.1 ∙ e in let t : o.0 ≡ m = cc in subst (λ xs. Contains xs w) (sym f) (subst (λ k. IsInRow rows k w) t o.2))) left

  pub lead_none : (q : ℕ) (old : List ℕ) → step_of net.steps q l ≡ None → IsLeft (One q) old old
  lead_none q old e = left_none (One q) old old refl (λ w o. absurd (let s : None ≡ Some o.0 = sym e ∙ o.1 in cc))

  pub led_first : (numbers found : List ℕ) → found ≡ [] → IsLeft (IsLed net rows (take 0 numbers) l) [] found
  led_first numbers found e = left_none (IsLed net rows [] l) [] found e (λ w p. absurd (Contains-none p.0 p.2))

  pub led_next : (numbers : List ℕ) (i : ℕ) (old mid new : List ℕ) → i < length numbers → IsLeft (IsLed net rows (take i numbers) l) old mid → IsLeft (One (get_or numbers i 0)) mid new →
      IsLeft (IsLed net rows (take (i + 1) numbers) l) old new
  led_next numbers i old mid new h m n =
      left_more (IsLed net rows (take i numbers) l) (One (get_or numbers i 0)) (IsLed net rows (take (i + 1) numbers) l) old mid new
      (λ w p. (elim (take_cases numbers i h p.0 p.2) [ inl c ↦ inl (p.0, p.1, c, p.3, p.4) | inr e ↦ inr (p.1, subst (λ q. step_of net.steps q l ≡ Some p.1) e p.3, p.4) ]))
      (λ w p. (p.0, p.1, take_left numbers i h p.0 p.2, p.3, p.4))
      (λ w o. (get_or numbers i 0, o.0, take_here numbers i h, o.1, o.2)) m n

  pub led_whole : (numbers : List ℕ) (i : ℕ) (found list : List ℕ) → length numbers ≤ i → IsLeft (IsLed net rows (take i numbers) l) [] found → AreAll (Contains found) list →
      AreAll (IsLed net rows numbers l) list
  led_whole numbers i found list h left are w = (
    λ c. at w (left.only w ((are w).0 c)),
    λ p. (are w).1 (left.all w (p.0, p.1, subst (λ xs. Contains xs p.0) (sym (take_all i numbers h)) p.2, p.3, p.4)),
  )
    where
      at : (w : ℕ) → Contains [] w ⊎ IsLed net rows (take i numbers) l w → IsLed net rows numbers l w
      at w (inl d) = absurd (Contains-none w d)
      at w (inr p) = (p.0, p.1, subst (λ xs. Contains xs p.0) (take_all i numbers h) p.2, p.3, p.4)
