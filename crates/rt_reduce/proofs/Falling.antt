-- Where existentials give their places to equals, fewer are named each time.
use Rattle.std.proofs.Common.{◌≡◌, ◌≢◌, ℕ, ◌+◌, ◌<◌, ◌≤◌, ◌⊎◌, inl, inr, List, [], ◌∷◌, All, Contains, map, Bool, true, false, cond, nat_eq}
use Rattle.std.proofs.Common.{refl, sym, ap, subst, ◌∙◌, eq-eqb, arith}
use Rattle.std.specs.List.{flat_map, list_any}
use Rattle.std.proofs.lemmas.Bool.{eqb-true}
use Rattle.std.proofs.lemmas.List.Elements.{All-contains}
use Rattle.rt_base.proofs.Lists.{Contains-none, Contains-cons_cases, Contains-map_source, Contains-flat_map, Contains-flat_map_source}
use Rattle.rt_base.proofs.Lists.{All-from_contains}
use Rattle.rt_base.proofs.Lists.{list_any-at, list_any-from}
use Rattle.rt_lines.specs.declared.variable.Base.{Base}
use Rattle.rt_lines.specs.declared.variable.Base.TheVariants.{Proc, Global, Exist, Outer}
use Rattle.rt_lines.specs.declared.variable.Dtv.{Dtv}
use Rattle.rt_lines.specs.declared.line.Line.{Line}
use Rattle.rt_lines.specs.declared.line.Line.TheVariants.{Var, Same, Sub, Low, Up}
use Rattle.rt_lines.specs.Equality.{variable_eq}
use Rattle.rt_lines.specs.Lines.{HasConstantsBelow}
use Rattle.rt_lines.specs.Numbering.{existential_of, existentials_of}
use Rattle.rt_lines.specs.Sides.{sides}
use Rattle.rt_lines.proofs.Deduplicating.{deduplicated-source}
use Rattle.rt_lines.proofs.LineSides.{HasConstantsBelow-map_line}
use Rattle.rt_rules.specs.Alike.{map_line}
use Rattle.rt_rules.specs.Laws.{NamesBase}
use Rattle.rt_rules.specs.Put.{put, put_lines}
use Rattle.rt_rules.proofs.LineSides.{Contains-sides, HasSide-in_sides}
use Rattle.rt_polar.specs.Tidied.{without_self, tidied}
use Rattle.rt_reduction.proofs.NamesFrom.{NamesFrom, named_from, names_chain, names_tidied, put_source}
use Rattle.rt_reduce.specs.Inside.Merging.{IsNamedPair}

-- the numbers of the existentials that lines name
abbrev pub numbers : List Line → List ℕ
numbers lines = flat_map existentials_of lines

exist_of : (b : Base) (n : ℕ) → Contains (existential_of b) n → b ≡ Exist n
exist_of (Exist m) n c = by (Contains-cons_cases m [] n c)
  where
    by : (m ≡ n) ⊎ Contains [] n → Exist m ≡ Exist n
    by (inl e) = ap Exist e
    by (inr d) = absurd (Contains-none n d)
exist_of (Proc m) n c = absurd (Contains-none n c)
exist_of (Global m) n c = absurd (Contains-none n c)
exist_of (Outer m) n c = absurd (Contains-none n c)

pub number_of : (lines : List Line) (n : ℕ) → NamesBase lines (Exist n) → Contains (numbers lines) n
number_of lines n (l, x, c, h, e) =
    Contains-flat_map existentials_of lines l n c
    (Contains-flat_map (λ y. existential_of y.base) (sides l) x n (Contains-sides l x h)
    (subst (λ b. Contains (existential_of b) n) (sym e) (0, omega arith, refl)))

pub named_by : (lines : List Line) (n : ℕ) → Contains (numbers lines) n → NamesBase lines (Exist n)
named_by lines n c =
    let s : (l : Line) × Contains lines l × Contains (existentials_of l) n = Contains-flat_map_source existentials_of lines n c in
    let t : (x : Dtv) × Contains (sides s.0) x × Contains (existential_of x.base) n =
    Contains-flat_map_source (λ y. existential_of y.base) (sides s.0) n s.2 in
    (s.0, t.0, s.1, HasSide-in_sides s.0 t.0 t.1, exist_of t.0.base n t.2)

abbrev names : List Line → ℕ → Bool
names lines n = list_any (nat_eq n) (numbers lines)

names_true : (lines : List Line) (n : ℕ) → NamesBase lines (Exist n) → names lines n ≡ true
names_true lines n h = list_any-from (nat_eq n) (numbers lines) n (number_of lines n h) (eq-eqb n n refl)

true_names : (lines : List Line) (n : ℕ) → names lines n ≡ true → NamesBase lines (Exist n)
true_names lines n h =
    let s : (k : ℕ) × Contains (numbers lines) k × (nat_eq n k ≡ true) = list_any-at (nat_eq n) (numbers lines) h in
    named_by lines n (subst (Contains (numbers lines)) (sym (eqb-true n s.0 s.2)) s.1)

-- how many of the numbers pass
abbrev pub count : (ℕ → Bool) → List ℕ → ℕ
count p [] = 0
count p (n ∷ ns) = cond (p n) 1 0 + count p ns

-- how many of the numbers of one list the other names
abbrev pub named_count : List Line → List Line → ℕ
named_count start now = count (names now) (numbers start)

sum_le : (a b c d : ℕ) → a ≤ b → c ≤ d → a + c ≤ b + d
sum_le a b c d h g = omega (arith, h, g)

sum_less : (a b c d : ℕ) → a < b → c ≤ d → a + c < b + d
sum_less a b c d h g = omega (arith, h, g)

sum_less_right : (a b c d : ℕ) → a ≤ b → c < d → a + c < b + d
sum_less_right a b c d h g = omega (arith, h, g)

module _ (p q : ℕ → Bool) (fewer : (n : ℕ) → q n ≡ true → p n ≡ true) where
  one : (n : ℕ) → cond (q n) 1 0 ≤ cond (p n) 1 0
  one n = by (q n) (p n) (fewer n)
    where
      by : (b c : Bool) → (b ≡ true → c ≡ true) → cond b 1 0 ≤ cond c 1 0
      by false c h = omega arith
      by true c h = subst (λ d. 1 ≤ cond d 1 0) (sym (h refl)) (omega arith)

  count_le : (ns : List ℕ) → count q ns ≤ count p ns
  count_le [] = omega arith
  count_le (n ∷ ns) = sum_le (cond (q n) 1 0) (cond (p n) 1 0) (count q ns) (count p ns) (one n) (count_le ns)

  module _ (m : ℕ) (had : p m ≡ true) (gone : q m ≡ false) where
    falls_here : (n : ℕ) → n ≡ m → cond (q n) 1 0 < cond (p n) 1 0
    falls_here n e =
        let f : q n ≡ false = ap q e ∙ gone in
        let g : p n ≡ true = ap p e ∙ had in
        subst (λ b. cond b 1 0 < cond (p n) 1 0) (sym f) (subst (λ b. 0 < cond b 1 0) (sym g) (omega arith))

    count_less : (ns : List ℕ) → Contains ns m → count q ns < count p ns
    count_less [] c = absurd (Contains-none m c)
    count_less (n ∷ ns) c = by (Contains-cons_cases n ns m c) (count_less ns)
      where
        by : (n ≡ m) ⊎ Contains ns m → (Contains ns m → count q ns < count p ns) → count q (n ∷ ns) < count p (n ∷ ns)
        by (inl e) rest = sum_less (cond (q n) 1 0) (cond (p n) 1 0) (count q ns) (count p ns) (falls_here n e) (count_le ns)
        by (inr d) rest = sum_less_right (cond (q n) 1 0) (cond (p n) 1 0) (count q ns) (count p ns) (one n) (rest d)

-- fewer are named, where one isn't named any more
pub named_falls : (start lines after : List Line) → ((n : ℕ) → NamesBase after (Exist n) → NamesBase lines (Exist n)) → (n : ℕ)
    → Contains (numbers start) n → NamesBase lines (Exist n) → (NamesBase after (Exist n) → ⊥)
    → named_count start after < named_count start lines
named_falls start lines after fewer n c had gone =
    count_less (names lines) (names after) (λ m e. names_true lines m (fewer m (true_names after m e))) n (names_true lines n had)
    (by (names after n) refl) (numbers start) c
  where
    by : (b : Bool) → names after n ≡ b → names after n ≡ false
    by false e = e
    by true e = absurd (gone (true_names after n e))

-- lines that name only existentials of others
abbrev pub AreOfNumbers : List Line → List Line → Type 0
AreOfNumbers start now = (n : ℕ) → NamesBase now (Exist n) → Contains (numbers start) n

module _ (lines : List Line) (n : ℕ) (z : Dtv) (pair : IsNamedPair lines n z) where
  abbrev after : List Line
  after = tidied (put_lines n z lines)

  names_after : NamesFrom lines after
  names_after = names_chain lines (put_lines n z lines) after (λ x s. by x (put_source lines n z x s)) (names_tidied (put_lines n z lines))
    where
      by : (x : Dtv) → (x.base ≡ z.base) ⊎ ((x.base ≢ Exist n) × NamesBase lines x.base) → NamesBase lines x.base
      by x (inl e) = let (l, c, h) = pair.side in (l, z, c, h, sym e)
      by x (inr (apart, h)) = h

  gone_after : NamesBase after (Exist n) → ⊥
  gone_after h = by (named_from (put_lines n z lines) after (names_tidied (put_lines n z lines)) (Exist n) h)
    where
      at : (x : Dtv) → x.base ≡ Exist n → (x.base ≡ z.base) ⊎ ((x.base ≢ Exist n) × NamesBase lines x.base) → ⊥
      at x e (inl f) = pair.other_base (sym f ∙ e)
      at x e (inr (apart, g)) = apart e

      by : NamesBase (put_lines n z lines) (Exist n) → ⊥
      by (l, x, c, g, e) = at x e (put_source lines n z x (l, c, g))

  names_false : names after n ≡ false
  names_false = by (names after n) refl
    where
      by : (b : Bool) → names after n ≡ b → names after n ≡ false
      by false e = e
      by true e = absurd (gone_after (true_names after n e))

  module _ (start : List Line) (are : AreOfNumbers start lines) where
    pub merge_numbers : AreOfNumbers start after
    merge_numbers m h = are m (named_from lines after names_after (Exist m) h)

    pub merge_falls : named_count start after < named_count start lines
    merge_falls =
        count_less (names lines) (names after)
        (λ m e. names_true lines m (named_from lines after names_after (Exist m) (true_names after m e)))
        n (names_true lines n pair.own) names_false (numbers start) (are n pair.own)

-- constants stay below a count
without_self-below : (count : ℕ) (l : Line) → HasConstantsBelow count l → HasConstantsBelow count (without_self l)
without_self-below count (Var x) h = h
without_self-below count (Low k x) h = h
without_self-below count (Up x k) h = h
without_self-below count (Same x y) h = by (variable_eq x y)
  where
    by : (b : Bool) → HasConstantsBelow count (cond b (Var x) (Same x y))
    by true = tt
    by false = tt
without_self-below count (Sub x y) h = by (variable_eq x y)
  where
    by : (b : Bool) → HasConstantsBelow count (cond b (Var x) (Sub x y))
    by true = tt
    by false = tt

pub tidied-below : (count : ℕ) (lines : List Line) → All (HasConstantsBelow count) lines → All (HasConstantsBelow count) (tidied lines)
tidied-below count lines h = All-from_contains (HasConstantsBelow count) (tidied lines)
    (λ l c. by l (Contains-map_source without_self lines l (deduplicated-source (map without_self lines) l c)))
  where
    by : (l : Line) → (k : Line) × Contains lines k × (without_self k ≡ l) → HasConstantsBelow count l
    by l (k, c, e) = subst (HasConstantsBelow count) e (without_self-below count k (All-contains (HasConstantsBelow count) lines k h c))

pub put-below : (count n : ℕ) (z : Dtv) (lines : List Line) → All (HasConstantsBelow count) lines →
    All (HasConstantsBelow count) (tidied (put_lines n z lines))
put-below count n z lines h = tidied-below count (put_lines n z lines) (All-from_contains (HasConstantsBelow count) (put_lines n z lines)
    (λ l c. by l (Contains-map_source (map_line (put n z)) lines l c)))
  where
    by : (l : Line) → (k : Line) × Contains lines k × (map_line (put n z) k ≡ l) → HasConstantsBelow count l
    by l (k, c, e) =
        subst (HasConstantsBelow count) e
        (HasConstantsBelow-map_line count (put n z) k (All-contains (HasConstantsBelow count) lines k h c))
