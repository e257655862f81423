-- Closures of pairs of names, with one pair more.
use Rattle.std.proofs.Common.{◌≡◌, ℕ, ◌<◌, ◌⊎◌, inl, inr, List, [], ◌∷◌, ◌++◌, length, refl, subst, sym, ◌∙◌, arith}
use Rattle.std.proofs.lemmas.List.Elements.{Contains-append_left, Contains-push, Contains-push_cases}
use Rattle.rt_lines.specs.Names.{AreNames, HasName}
use Rattle.rt_lines.specs.Orders.{Below}
use Rattle.rt_lines.specs.OrderFacts.{IsFlat}
use Rattle.rt_lattice.specs.declared.file.Pair.{Pair}
use Rattle.rt_lattice.specs.Closures.{IsPairOf, IsUnder, itself, onwards, Closes, AddsPair}
use Rattle.rt_lattice.proofs.Known.{one_number}

pub under_chain : (names : List (List ℕ)) (pairs : List Pair) (a b c : ℕ) → IsUnder names pairs a b → IsUnder names pairs b c → IsUnder names pairs a c
under_chain names pairs _ _ c (itself a) v = v
under_chain names pairs _ _ c (onwards a m b p u) v = onwards a m c p (under_chain names pairs m b c u v)

pub under_none : (names : List (List ℕ)) (a b : ℕ) → IsUnder names [] a b → a ≡ b
under_none names _ _ (itself a) = refl
under_none names _ _ (onwards a m b p u) = absurd (omega (arith, p.given.1))

-- what is under with some pairs is under with one more
pub under_more : (names : List (List ℕ)) (pairs : List Pair) (pair : Pair) (a b : ℕ) → IsUnder names pairs a b → IsUnder names (pairs ++ pair ∷ []) a b
under_more names pairs pair _ _ (itself a) = itself a
under_more names pairs pair _ _ (onwards a m b p u) =
    onwards a m b
    (record { pair = p.pair; given = Contains-append_left pairs (pair ∷ []) p.pair p.given; lower = p.lower; upper = p.upper })
    (under_more names pairs pair m b u)

-- a way with one pair more goes without it, or through it
pub under_split : (names : List (List ℕ)) (pairs : List Pair) (pair : Pair) (k l a b : ℕ) → AreNames names → HasName names k pair.lower → HasName names l pair.upper
    → IsUnder names (pairs ++ pair ∷ []) a b → IsUnder names pairs a b ⊎ (IsUnder names pairs a k × IsUnder names pairs l b)
under_split names pairs pair k l _ _ good at_lower at_upper (itself a) = inl (itself a)
under_split names pairs pair k l _ _ good at_lower at_upper (onwards a m b p u) =
    let deeper : IsUnder names pairs m b ⊎ (IsUnder names pairs m k × IsUnder names pairs l b) = under_split names pairs pair k l m b good at_lower at_upper u in
    elim (Contains-push_cases pairs pair p.pair p.given) [
      | inl old ↦
          let here : IsPairOf names pairs a m = record { pair = p.pair; given = old; lower = p.lower; upper = p.upper } in
          elim deeper [
            | inl v ↦ inl (onwards a m b here v)
            | inr (v, w) ↦ inr (onwards a m k here v, w)
          ]
      | inr same ↦
          let first : a ≡ k = one_number names a k pair.lower good (subst (λ (q : Pair). HasName names a q.lower) (sym same) p.lower) at_lower in
          let second : m ≡ l = one_number names m l pair.upper good (subst (λ (q : Pair). HasName names m q.upper) (sym same) p.upper) at_upper in
          let begin : IsUnder names pairs a k = subst (λ x. IsUnder names pairs a x) first (itself a) in
          elim deeper [
            | inl v ↦ inr (begin, subst (λ x. IsUnder names pairs x b) second v)
            | inr (v, w) ↦ inr (begin, w)
          ]
    ]

pub closes_none : (names : List (List ℕ)) (order : Below) → IsFlat order (length names) → Closes names [] order
closes_none names order flat =
    record {
      counted = flat.counted;
      same = λ a b ha hb. (
        λ r. subst (λ x. IsUnder names [] a x) ((flat.alone a b ha hb).0 r) (itself a),
        λ u. (flat.alone a b ha hb).1 (under_none names a b u),
      );
    }

pub closes_more : (names : List (List ℕ)) (pairs : List Pair) (pair : Pair) (old new : Below) → AreNames names → Closes names pairs old → AddsPair names pair old new → Closes names (pairs ++ pair ∷ []) new
closes_more names pairs pair old new good was adds =
    let k = adds.lower in
    let l = adds.upper in
    let hk = adds.lower_named.within in
    let hl = adds.upper_named.within in
    let link : IsUnder names (pairs ++ pair ∷ []) k l =
    onwards k l l (record { pair = pair; given = Contains-push pairs pair; lower = adds.lower_named; upper = adds.upper_named }) (itself l)
    in
    record {
      counted = adds.put.counted ∙ was.counted;
      same = λ a b ha hb.
          let ta : a < old.count = omega (arith, was.counted) in
          let tb : b < old.count = omega (arith, was.counted) in (
            λ r.
                elim ((adds.put.related a b ta tb).0 r) [
                  | inl o ↦ under_more names pairs pair a b ((was.same a b ha hb).0 o)
                  | inr (o, s) ↦
                      under_chain names (pairs ++ pair ∷ []) a k b
                      (under_more names pairs pair a k ((was.same a k ha hk).0 o))
                      (under_chain names (pairs ++ pair ∷ []) k l b link (under_more names pairs pair l b ((was.same l b hl hb).0 s)))
                ],
            λ u.
                (adds.put.related a b ta tb).1
                (elim (under_split names pairs pair k l a b good adds.lower_named adds.upper_named u) [
                  | inl v ↦ inl ((was.same a b ha hb).1 v)
                  | inr (v, w) ↦ inr ((was.same a k ha hk).1 v, (was.same l b hl hb).1 w)
                ]),
          );
    }
