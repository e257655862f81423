-- Least upper bounds in a relation that is reflexive and transitive below a count.
use Rattle.std.proofs.Common.{ℕ, ◌+◌, ◌*◌, ◌<◌, ◌≤◌, inl, inr, subst, arith, below_more}
use Rattle.std.proofs.lemmas.Bool.{cases_lt, cases_eq}
use Rattle.std.proofs.lemmas.Nat.{mul-add-lt}
use Rattle.rt_lattice.specs.Bounds.{IsLeastUpper, HaveJoin, Precedes, IsFirstWithoutJoin}
use Rattle.rt_lattice.specs.Inside.Searches.{IsLowUpper, IsBelowUppers}

-- the relation is transitive below the count
abbrev pub Chains : (ℕ → ℕ → Type 0) → ℕ → Type 0
Chains R n = (x y z : ℕ) → x < n → y < n → z < n → R x y → R y z → R x z

pub low_begins : (R : ℕ → ℕ → Type 0) (n a b top : ℕ) → top < n → R a top → R b top → IsLowUpper R n a b 0 top
low_begins R n a b top h f s = record { within = h; first = f; second = s; low_enough = λ c less least. absurd (omega arith) }

pub low_kept : (R : ℕ → ℕ → Type 0) (n a b c low : ℕ) → IsLowUpper R n a b c low → (R a c → R b c → R c low → ⊥) → IsLowUpper R n a b (c + 1) low
low_kept R n a b c low was none =
    record {
      within = was.within;
      first = was.first;
      second = was.second;
      low_enough = below_more (λ x. IsLeastUpper R n a b x → R low x) c was.low_enough (λ l. absurd (none l.first l.second (l.least low was.within was.first was.second)));
    }

pub low_moved : (R : ℕ → ℕ → Type 0) (n a b c low : ℕ) → ((x : ℕ) → R x x) → Chains R n → IsLowUpper R n a b c low → c < n → R a c → R b c → R c low → IsLowUpper R n a b (c + 1) c
low_moved R n a b c low itself chains was h f s down =
    record {
      within = h;
      first = f;
      second = s;
      low_enough = below_more (λ x. IsLeastUpper R n a b x → R c x) c (λ x less l. chains c low x h was.within l.within down (was.low_enough x less l)) (λ l. itself c);
    }

pub low_ends : (R : ℕ → ℕ → Type 0) (n a b c low : ℕ) → IsLowUpper R n a b c low → n ≤ c → IsLowUpper R n a b n low
low_ends R n a b c low was end = record { within = was.within; first = was.first; second = was.second; low_enough = λ x h l. was.low_enough x (omega arith) l }

-- an upper bound that is low enough and below all others is the least
pub least_of : (R : ℕ → ℕ → Type 0) (n a b low : ℕ) → IsLowUpper R n a b n low → IsBelowUppers R a b n low → IsLeastUpper R n a b low
least_of R n a b low was all = record { within = was.within; first = was.first; second = was.second; least = all }

-- where there is a least upper bound, one that is low enough is below all others
pub below_uppers : (R : ℕ → ℕ → Type 0) (n a b low : ℕ) → Chains R n → IsLowUpper R n a b n low → HaveJoin R n a b → IsBelowUppers R a b n low
below_uppers R n a b low chains was (c, l) = λ d h f s. chains low c d was.within l.within h (was.low_enough c l.within l) (l.least d h f s)

-- a pair turned round has the same bound
pub join_turned : (R : ℕ → ℕ → Type 0) (n a b : ℕ) → HaveJoin R n a b → HaveJoin R n b a
join_turned R n a b (c, l) = (c, record { within = l.within; first = l.second; second = l.first; least = λ d h f s. l.least d h s f })

pub join_itself : (R : ℕ → ℕ → Type 0) (n a : ℕ) → ((x : ℕ) → R x x) → a < n → HaveJoin R n a a
join_itself R n a itself h = (a, record { within = h; first = itself a; second = itself a; least = λ d k f s. f })

-- a pair before another one stands before it in rows
pub precedes-place : (n p q a b : ℕ) → q < n → Precedes p q a b → p * n + q < a * n + b
precedes-place n p q a b h (inl less) = omega (arith, mul-add-lt p n q a less h)
precedes-place n p q a b h (inr (same, less)) = subst (λ x. p * n + q < x * n + b) same (omega arith)

-- the first pair without a bound in rows of all pairs has its lesser number first
pub first_without : (R : ℕ → ℕ → Type 0) (n a b : ℕ) → ((x : ℕ) → R x x) → ((p q : ℕ) → q < n → p * n + q < a * n + b → HaveJoin R n p q) → a < n → b < n → (HaveJoin R n a b → ⊥) → IsFirstWithoutJoin R n a b
first_without R n a b itself before ha hb none =
    record {
      earlier =
          elim (cases_lt a b) [
            | inl less ↦ less
            | inr more ↦
                elim (cases_eq a b) [
                  | inl same ↦ absurd (none (subst (λ x. HaveJoin R n a x) same (join_itself R n a itself ha)))
                  | inr other ↦
                      let less : b < a = omega arith in
                      absurd (none (join_turned R n b a (before b a ha (precedes-place n b a a b ha (inl less)))))
                ]
          ];
      within = hb;
      none = none;
      first = λ p q h k early. before p q k (precedes-place n p q a b k early);
    }
