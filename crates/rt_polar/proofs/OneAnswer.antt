-- One list at most is left, and no existential of it has a candidate.
use Rattle.std.proofs.Common.{◌≡◌, ℕ, ◌<◌, ◌⊎◌, inl, inr, List, ◌∷◌, ◌++◌, length, get_or, Bool, true, false, refl, sym, ap, subst, ◌∙◌, arith}
use Rattle.rt_lines.specs.declared.label.Variance.{Variance}
use Rattle.rt_lines.specs.declared.label.Variance.TheVariants.{Co, Contra}
use Rattle.rt_lines.specs.declared.variable.Base.TheVariants.{Exist}
use Rattle.rt_lines.specs.declared.variable.Dtv.{Dtv}
use Rattle.rt_lines.specs.declared.line.Line.{Line}
use Rattle.rt_lines.specs.declared.line.Line.TheVariants.{Var}
use Rattle.rt_rules.specs.Laws.{NamesBase}
use Rattle.rt_rules.specs.Put.{exist, put_lines, use_of}
use Rattle.rt_polar.specs.Laws.{NoneLeftLaw, OneAnswerLaw}
use Rattle.rt_polar.specs.Polar.{IsSole, IsCandidate, HasCandidate, IsOnlyPlace}
use Rattle.rt_polar.specs.Polar.IsCandidate.{defines, consumes}
use Rattle.rt_polar.specs.Puts.{Exchanges, IsLeast, Puts}
use Rattle.rt_polar.specs.Puts.Exchanges.{goes, exists_still}
use Rattle.rt_polar.specs.Puts.Puts.{none_left, puts}
use Rattle.rt_polar.specs.Tidied.{tidied}
use Rattle.rt_polar.proofs.Cuts.{use_has, cut_at, cut_length, same_before, same_after, sole_place, sole_line}

-- what is put, and at which sign
record IsPut (n : ℕ) (lines : List Line) (sign : Variance) (z : Dtv) : Type 0 where
  place : ℕ
  sole : IsSole sign n z lines place

of_use : (sign : Variance) (n : ℕ) (y z : Dtv) → use_of sign n y ≡ use_of sign n z → y ≡ z
of_use Co n y z e = cc
of_use Contra n y z e = cc

put_of : {n : ℕ} {lines : List Line} {sign : Variance} {place : ℕ} {left : Bool} {z : Dtv} → IsCandidate n lines sign place left z → IsPut n lines sign z
put_of (defines z place s) = record { place = place; sole = s }
put_of (consumes z place e s) = record { place = place; sole = s }

one_sign : {n : ℕ} {lines : List Line} {sign other : Variance} {place there : ℕ} {left back : Bool} {y z : Dtv} → IsCandidate n lines sign place left y → IsCandidate n lines other there back z → sign ≡ other
one_sign (defines y place s) (defines z there t) = refl
one_sign (defines y place s) (consumes z there e t) = absurd (e y place s)
one_sign (consumes y place e s) (defines z there t) = absurd (e z there t)
one_sign (consumes y place e s) (consumes z there f t) = refl

one_place_of : (n : ℕ) (lines : List Line) (sign : Variance) (y z : Dtv) (place there : ℕ) → IsSole sign n y lines place → IsSole sign n z lines there → place ≡ there
one_place_of n lines sign y z place there s t =
    let a : IsOnlyPlace sign n lines place = sole_place sign n y lines place s in
    let b : IsOnlyPlace sign n lines there = sole_place sign n z lines there t in
    b.only place (exist_line n) a.within (a.uses (exist_line n))
  where
    exist_line : ℕ → Line
    exist_line m = Var (exist m)

one_side : (n : ℕ) (lines : List Line) (sign : Variance) (y z : Dtv) → IsPut n lines sign y → IsPut n lines sign z → y ≡ z
one_side n lines sign y z s t =
    let at : s.place ≡ t.place = one_place_of n lines sign y z s.place t.place s.sole t.sole in
    let first : get_or lines s.place (Var y) ≡ use_of sign n y = sole_line sign n y lines s.place (Var y) s.sole in
    let second : get_or lines t.place (Var y) ≡ use_of sign n z = sole_line sign n z lines t.place (Var y) t.sole in
    of_use sign n y z (sym first ∙ ap (λ k. get_or lines k (Var y)) at ∙ second)

-- the line of the use stands at one place
cut_place : (n : ℕ) (lines : List Line) (sign : Variance) (z : Dtv) (before after : List Line) → (p : IsPut n lines sign z) → lines ≡ before ++ use_of sign n z ∷ after → length before ≡ p.place
cut_place n lines sign z before after p cut =
    let only : IsOnlyPlace sign n lines p.place = sole_place sign n z lines p.place p.sole in
    let within : length before < length lines = rw cut (cut_length before (use_of sign n z) after) in
    let here : get_or lines (length before) (Var z) ≡ use_of sign n z = rw cut (cut_at before (use_of sign n z) after (Var z)) in
    only.only (length before) (Var z) within (rw here (use_has sign n z))

-- what an exchange does
data Does (n : ℕ) (lines : List Line) (after : List Line) : Type 0 where
  does : (sign : Variance) (place : ℕ) (left : Bool) (z : Dtv) (before rest : List Line) → IsCandidate n lines sign place left z → lines ≡ before ++ use_of sign n z ∷ rest →
      (NamesBase (before ++ rest) (Exist n) × (after ≡ tidied (put_lines n z (before ++ rest)))) ⊎ ((NamesBase (before ++ rest) (Exist n) → ⊥) × (after ≡ tidied (before ++ Var z ∷ rest))) → Does n lines after

does_of : {n : ℕ} {lines after : List Line} → Exchanges n lines after → Does n lines after
does_of (goes sign place left z before rest is cut names) = does sign place left z before rest is cut (inl (names, refl))
does_of (exists_still sign place left z before rest is cut none) = does sign place left z before rest is cut (inr (none, refl))

one_way : (n : ℕ) (z : Dtv) (before rest first second : List Line) →
    (NamesBase (before ++ rest) (Exist n) × (first ≡ tidied (put_lines n z (before ++ rest)))) ⊎ ((NamesBase (before ++ rest) (Exist n) → ⊥) × (first ≡ tidied (before ++ Var z ∷ rest))) →
    (NamesBase (before ++ rest) (Exist n) × (second ≡ tidied (put_lines n z (before ++ rest)))) ⊎ ((NamesBase (before ++ rest) (Exist n) → ⊥) × (second ≡ tidied (before ++ Var z ∷ rest))) → first ≡ second
one_way n z before rest first second (inl (a, e)) (inl (b, f)) = e ∙ sym f
one_way n z before rest first second (inl (a, e)) (inr (b, f)) = absurd (b a)
one_way n z before rest first second (inr (a, e)) (inl (b, f)) = absurd (a b)
one_way n z before rest first second (inr (a, e)) (inr (b, f)) = e ∙ sym f

one_exchange_at : (n : ℕ) (lines first second : List Line) (sign : Variance) (y z : Dtv) (before rest before' rest' : List Line) → IsPut n lines sign y → IsPut n lines sign z →
    lines ≡ before ++ use_of sign n y ∷ rest → lines ≡ before' ++ use_of sign n z ∷ rest' →
    (NamesBase (before ++ rest) (Exist n) × (first ≡ tidied (put_lines n y (before ++ rest)))) ⊎ ((NamesBase (before ++ rest) (Exist n) → ⊥) × (first ≡ tidied (before ++ Var y ∷ rest))) →
    (NamesBase (before' ++ rest') (Exist n) × (second ≡ tidied (put_lines n z (before' ++ rest')))) ⊎ ((NamesBase (before' ++ rest') (Exist n) → ⊥) × (second ≡ tidied (before' ++ Var z ∷ rest'))) → first ≡ second
one_exchange_at n lines first second sign y z before rest before' rest' p q cut cut' way way' =
    let side : z ≡ y = sym (one_side n lines sign y z p q) in
    let long : length before ≡ length before' = cut_place n lines sign y before rest p cut ∙ one_place_of n lines sign y z p.place q.place p.sole q.sole ∙ sym (cut_place n lines sign z before' rest' q cut') in
    let both : before ++ use_of sign n y ∷ rest ≡ before' ++ use_of sign n z ∷ rest' = sym cut ∙ cut' in
    let b : before' ≡ before = sym (same_before before before' (use_of sign n y) (use_of sign n z) rest rest' both long) in
    let r : rest' ≡ rest = sym (same_after before before' (use_of sign n y) (use_of sign n z) rest rest' both long) in
    one_way n y before rest first second way (rw (side, b, r) at way')

one_exchange_by : (n : ℕ) (lines first second : List Line) → Does n lines first → Does n lines second → first ≡ second
one_exchange_by n lines first second (does sign place left y before rest is cut way) (does other there back z before' rest' is' cut' way') = by other (one_sign is is') is' cut'
  where
    by : (other : Variance) → sign ≡ other → IsCandidate n lines other there back z → lines ≡ before' ++ use_of other n z ∷ rest' → first ≡ second
    by other e is' cut' =
        one_exchange_at n lines first second other y z before rest before' rest' (rw e at (put_of is)) (put_of is')
        (cut ∙ ap (λ s. before ++ use_of s n y ∷ rest) e) cut' way way'

pub one_exchange : (n : ℕ) (lines first second : List Line) → Exchanges n lines first → Exchanges n lines second → first ≡ second
one_exchange n lines first second a b = one_exchange_by n lines first second (does_of a) (does_of b)

one_least : (n m : ℕ) (lines : List Line) → IsLeast n lines → IsLeast m lines → n ≡ m
one_least n m lines a b = by (order_cases n m)
  where
    order_cases : (n m : ℕ) → (n < m) ⊎ ((m < n) ⊎ (n ≡ m))
    order_cases n m = grind arith

    by : (n < m) ⊎ ((m < n) ⊎ (n ≡ m)) → n ≡ m
    by (inl h) = absurd (b.least n h a.has)
    by (inr (inl h)) = absurd (a.least m h b.has)
    by (inr (inr e)) = e

-- one step of putting
data Steps (left lines : List Line) : Type 0 where
  ends : left ≡ lines → ((n : ℕ) → HasCandidate n lines → ⊥) → Steps left lines
  goes_on : (n : ℕ) (between : List Line) → IsLeast n lines → Exchanges n lines between → Puts left between → Steps left lines

steps : {left lines : List Line} → Puts left lines → Steps left lines
steps (none_left none) = ends refl none
steps (puts n lines between least exchanged rest) = goes_on n between least exchanged rest

answers : (left other start : List Line) → Puts left start → Puts other start → left ≡ other
answers left other start (none_left none) b = by (steps b)
  where
    by : Steps other left → left ≡ other
    by (ends e nothing) = sym e
    by (goes_on n between least exchanged rest) = absurd (none n least.has)
answers left other start (puts n now between least exchanged rest) b = by (steps b) (answers left other between rest)
  where
    by : Steps other now → (Puts other between → left ≡ other) → left ≡ other
    by (ends e none) induction = absurd (none n least.has)
    by (goes_on m there least' exchanged' rest') induction =
        let same : m ≡ n = one_least m n now least' least in
        let e : there ≡ between = one_exchange n now there between (subst (λ k. Exchanges k now there) same exchanged') exchanged in
        induction (subst (Puts other) e rest')

pub one_answer_lem : OneAnswerLaw
one_answer_lem start left other a b = answers left other start a b

-- no existential of what is left has a candidate
pub left_none : (left lines : List Line) → Puts left lines → (n : ℕ) → HasCandidate n left → ⊥
left_none left start (none_left none) = none
left_none left start (puts n now between least exchanged rest) = left_none left between rest

no_definition : (n : ℕ) (z : Dtv) (lines : List Line) (place : ℕ) → (HasCandidate n lines → ⊥) → IsSole Co n z lines place → ⊥
no_definition n z lines place none s = none (record { sign = Co; place = place; left = true; z = z; is = defines z place s })

no_sole : (sign : Variance) (n : ℕ) (z : Dtv) (lines : List Line) (place : ℕ) → (HasCandidate n lines → ⊥) → IsSole sign n z lines place → ⊥
no_sole Co n z lines place none s = no_definition n z lines place none s
no_sole Contra n z lines place none s =
    none (record { sign = Contra; place = place; left = false; z = z; is = consumes z place (λ y there t. no_definition n y lines there none t) s })

pub none_left_lem : NoneLeftLaw
none_left_lem lines left p sign n z before after other cut alone =
    no_sole sign n z left (length before) (left_none left lines p n) (record { other_base = other; before = before; after = after; cut = cut; at = refl; alone = alone })
