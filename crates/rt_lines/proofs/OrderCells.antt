-- Orders of constants whose cells are written.
use Rattle.std.proofs.Common.{take, drop, ◌++◌, ◌≡◌, ℕ, ◌+◌, ◌*◌, ◌<◌, ◌≤◌, ◌⊎◌, inl, inr, ◌↔◌, List, Bool, true, false, length, get_or, set, refl, subst, sym, arith, get_or-set_same, get_or-set_other}
use Rattle.std.proofs.Math.Seq.{take-append_seam}
use Rattle.std.proofs.lemmas.Bool.{cases_eq}
use Rattle.std.proofs.lemmas.Nat.{same_from_place, mul-add-lt}
use Rattle.rt_lines.specs.Orders.{IsAtOrBelow}
use Rattle.rt_lines.specs.OrderFacts.{order_of, IsOrder, PutsBelow}

-- a pair more where its cell is set
pub set-related : (n : ℕ) (cells : List Bool) (x y p q : ℕ) → length cells ≡ n * n → x < n → y < n → p < n → q < n → IsAtOrBelow (order_of n (set cells (x * n + y) true)) p q ↔ (IsAtOrBelow (order_of n cells) p q ⊎ ((p ≡ x) × (q ≡ y)))
set-related n cells x y p q full hx hy hp hq =
    let within : x * n + y < length cells = omega (arith, mul-add-lt x n y n hx hy) in
    let here : get_or (set cells (x * n + y) true) (x * n + y) false ≡ true = get_or-set_same cells (x * n + y) true false within in
    elim (cases_eq (p * n + q) (x * n + y)) [
      | inl same ↦
          let pair : (p ≡ x) × (q ≡ y) = same_from_place p q x y n hq hy same in
          (λ r. inr pair, λ r. inr (hp, hq, rw same here))
      | inr other ↦
          let kept : get_or (set cells (x * n + y) true) (p * n + q) false ≡ get_or cells (p * n + q) false = get_or-set_other cells (x * n + y) (p * n + q) true false other in (
            λ r. elim r [ inl e ↦ inl (inl e) | inr (h, k, t) ↦ inl (inr (h, k, rw kept at t)) ],
            λ r. elim r [
              | inl o ↦ elim o [ inl e ↦ inl e | inr (h, k, t) ↦ inr (h, k, rw kept t) ]
              | inr (e, f) ↦ absurd (other (rw (e, f) refl))
            ],
          )
    ]

-- the new relation is the old one with pairs of row x more: those at columns below y that b has
pub record HasRow (old new : ℕ → ℕ → Type 0) (n x b y : ℕ) : Type 0 where
  pub related : (p q : ℕ) → p < n → q < n → new p q ↔ (old p q ⊎ ((p ≡ x) × (q < y) × old b q))

pub HasRow-begins : (old : ℕ → ℕ → Type 0) (n x b : ℕ) → HasRow old old n x b 0
HasRow-begins old n x b = record { related = λ p q hp hq. (λ r. inl r, λ r. elim r [ inl o ↦ o | inr (e, h, o) ↦ absurd (omega arith) ]) }

-- what row b has at the next column is what it had
HasRow-reads : (old new : ℕ → ℕ → Type 0) (n x b y : ℕ) → HasRow old new n x b y → b < n → y < n → new b y → old b y
HasRow-reads old new n x b y row hb hy r = elim ((row.related b y hb hy).0 r) [ inl o ↦ o | inr (e, h, o) ↦ o ]

pub HasRow-kept : (old new : ℕ → ℕ → Type 0) (n x b y : ℕ) → HasRow old new n x b y → b < n → y < n → (new b y → ⊥) → HasRow old new n x b (y + 1)
HasRow-kept old new n x b y row hb hy none =
    record {
      related = λ p q hp hq. (
        λ r. elim ((row.related p q hp hq).0 r) [ inl o ↦ inl o | inr (e, h, o) ↦ inr (e, omega arith, o) ],
        λ r. elim r [
          | inl o ↦ (row.related p q hp hq).1 (inl o)
          | inr (e, h, o) ↦
              elim (cases_eq q y) [
                | inl same ↦ absurd (none ((row.related b y hb hy).1 (inl (subst (λ c. old b c) same o))))
                | inr other ↦ let less : q < y = omega arith in (row.related p q hp hq).1 (inr (e, less, o))
              ]
        ],
      );
    }

pub HasRow-more : (old new next : ℕ → ℕ → Type 0) (n x b y : ℕ) → HasRow old new n x b y → b < n → y < n → new b y → ((p q : ℕ) → p < n → q < n → next p q ↔ (new p q ⊎ ((p ≡ x) × (q ≡ y)))) → HasRow old next n x b (y + 1)
HasRow-more old new next n x b y row hb hy here step =
    let had : old b y = HasRow-reads old new n x b y row hb hy here in
    record {
      related = λ p q hp hq. (
        λ r. elim ((step p q hp hq).0 r) [
          | inl was ↦ elim ((row.related p q hp hq).0 was) [ inl o ↦ inl o | inr (e, h, o) ↦ inr (e, omega arith, o) ]
          | inr (e, f) ↦ inr (e, omega arith, subst (λ c. old b c) (sym f) had)
        ],
        λ r. elim r [
          | inl o ↦ (step p q hp hq).1 (inl ((row.related p q hp hq).1 (inl o)))
          | inr (e, h, o) ↦
              elim (cases_eq q y) [
                | inl same ↦ (step p q hp hq).1 (inr (e, same))
                | inr other ↦ let less : q < y = omega arith in (step p q hp hq).1 (inl ((row.related p q hp hq).1 (inr (e, less, o))))
              ]
        ],
      );
    }

pub HasRow-ends : (old new : ℕ → ℕ → Type 0) (n x b y : ℕ) → HasRow old new n x b y → n ≤ y → (p q : ℕ) → p < n → q < n → new p q ↔ (old p q ⊎ ((p ≡ x) × old b q))
HasRow-ends old new n x b y row end p q hp hq = (
  λ r. elim ((row.related p q hp hq).0 r) [ inl o ↦ inl o | inr (e, h, o) ↦ inr (e, o) ],
  λ r. elim r [ inl o ↦ (row.related p q hp hq).1 (inl o) | inr (e, o) ↦ let less : q < y = omega arith in (row.related p q hp hq).1 (inr (e, less, o)) ],
)

-- the new relation is the old one with rows more: from each number below x that is at or below a to all that b has
pub record HasRows (old new : ℕ → ℕ → Type 0) (n a b x : ℕ) : Type 0 where
  pub related : (p q : ℕ) → p < n → q < n → new p q ↔ (old p q ⊎ ((p < x) × old p a × old b q))

pub HasRows-begins : (old : ℕ → ℕ → Type 0) (n a b : ℕ) → HasRows old old n a b 0
HasRows-begins old n a b = record { related = λ p q hp hq. (λ r. inl r, λ r. elim r [ inl o ↦ o | inr (h, o, s) ↦ absurd (omega arith) ]) }

pub HasRows-kept : (old new : ℕ → ℕ → Type 0) (n a b x : ℕ) → HasRows old new n a b x → a < n → x < n → (new x a → ⊥) → HasRows old new n a b (x + 1)
HasRows-kept old new n a b x rows ha hx none =
    record {
      related = λ p q hp hq. (
        λ r. elim ((rows.related p q hp hq).0 r) [ inl o ↦ inl o | inr (h, o, s) ↦ inr (omega arith, o, s) ],
        λ r. elim r [
          | inl o ↦ (rows.related p q hp hq).1 (inl o)
          | inr (h, o, s) ↦
              elim (cases_eq p x) [
                | inl same ↦ absurd (none ((rows.related x a hx ha).1 (inl (subst (λ c. old c a) same o))))
                | inr other ↦ let less : p < x = omega arith in (rows.related p q hp hq).1 (inr (less, o, s))
              ]
        ],
      );
    }

pub HasRows-more : (old new next : ℕ → ℕ → Type 0) (n a b x : ℕ) → HasRows old new n a b x → a < n → b < n → x < n → new x a → ((p q : ℕ) → p < n → q < n → next p q ↔ (new p q ⊎ ((p ≡ x) × new b q))) → HasRows old next n a b (x + 1)
HasRows-more old new next n a b x rows ha hb hx here step =
    let had : old x a = elim ((rows.related x a hx ha).0 here) [ inl o ↦ o | inr (h, o, s) ↦ absurd (omega arith) ] in
    let above : (q : ℕ) → q < n → new b q → old b q = λ q hq r. elim ((rows.related b q hb hq).0 r) [ inl o ↦ o | inr (h, o, s) ↦ s ] in
    record {
      related = λ p q hp hq. (
        λ r. elim ((step p q hp hq).0 r) [
          | inl was ↦ elim ((rows.related p q hp hq).0 was) [ inl o ↦ inl o | inr (h, o, s) ↦ inr (omega arith, o, s) ]
          | inr (e, s) ↦ inr (omega arith, subst (λ c. old c a) (sym e) had, above q hq s)
        ],
        λ r. elim r [
          | inl o ↦ (step p q hp hq).1 (inl ((rows.related p q hp hq).1 (inl o)))
          | inr (h, o, s) ↦
              elim (cases_eq p x) [
                | inl same ↦ (step p q hp hq).1 (inr (same, (rows.related b q hb hq).1 (inl s)))
                | inr other ↦ let less : p < x = omega arith in (step p q hp hq).1 (inl ((rows.related p q hp hq).1 (inr (less, o, s))))
              ]
        ],
      );
    }

pub HasRows-ends : (n : ℕ) (old new : List Bool) (a b x : ℕ) → HasRows (IsAtOrBelow (order_of n old)) (IsAtOrBelow (order_of n new)) n a b x → n ≤ x → PutsBelow (order_of n old) (order_of n new) a b
HasRows-ends n old new a b x rows end =
    record {
      counted = refl;
      related = λ p q hp hq. (
        λ r. elim ((rows.related p q hp hq).0 r) [ inl o ↦ inl o | inr (h, o, s) ↦ inr (o, s) ],
        λ r. elim r [ inl o ↦ (rows.related p q hp hq).1 (inl o) | inr (o, s) ↦ let less : p < x = omega arith in (rows.related p q hp hq).1 (inr (less, o, s)) ],
      );
    }

-- an order in which a was put below b is one
pub IsOrder-put : (n : ℕ) (old new : List Bool) (a b : ℕ) → IsOrder (order_of n old) → a < n → b < n → length new ≡ length old → PutsBelow (order_of n old) (order_of n new) a b → IsOrder (order_of n new)
IsOrder-put n old new a b order ha hb kept put =
    let t = order.transitive in
    record {
      full = cc (order.full, kept);
      transitive = λ x y z hx hy hz r s.
          elim ((put.related x y hx hy).0 r) [
            | inl o ↦
                elim ((put.related y z hy hz).0 s) [
                  | inl u ↦ (put.related x z hx hz).1 (inl (t x y z hx hy hz o u))
                  | inr (u, v) ↦ (put.related x z hx hz).1 (inr (t x y a hx hy ha o u, v))
                ]
            | inr (o, v) ↦
                elim ((put.related y z hy hz).0 s) [
                  | inl u ↦ (put.related x z hx hz).1 (inr (o, t b y z hb hy hz v u))
                  | inr (u, w) ↦ (put.related x z hx hz).1 (inr (o, w))
                ]
          ];
    }

-- the same of the cells of a vector, lent and written back
pub IsOrder-written : (n len : ℕ) (old lent new : List Bool) (a b : ℕ) → IsOrder (order_of n old) → a < n → b < n → lent ≡ old → len ≡ length old → length new ≡ length lent → PutsBelow (order_of n lent) (order_of n new) a b → IsOrder (order_of n (take len (new ++ drop (length new) old)))
IsOrder-written n len old lent new a b order ha hb same counted kept put =
    let full : len ≡ length new = cc (counted, kept, same) in
    let before : IsOrder (order_of n lent) = rw same order in
    rw (full, take-append_seam new (drop (length new) old)) (IsOrder-put n lent new a b before ha hb kept put)
