-- Greatest lower bounds in a relation that is transitive below a count.
use Rattle.std.proofs.Common.{ℕ, ◌+◌, ◌<◌, ◌≤◌, arith, below_more}
use Rattle.rt_lattice.specs.Bounds.{IsLeastUpper, IsGreatestLower}
use Rattle.rt_lattice.specs.Inside.Searches.{IsHighLower}
use Rattle.rt_lattice.proofs.Joined.{Chains}

pub high_begins : (R : ℕ → ℕ → Type 0) (n a b bottom : ℕ) → bottom < n → R bottom a → R bottom b → IsHighLower R n a b 0 bottom
high_begins R n a b bottom h f s = record { within = h; first = f; second = s; high_enough = λ c less p q. absurd (omega arith) }

pub high_kept : (R : ℕ → ℕ → Type 0) (n a b c high : ℕ) → IsHighLower R n a b c high → (R c a → R c b → ⊥) → IsHighLower R n a b (c + 1) high
high_kept R n a b c high was none =
    record {
      within = was.within;
      first = was.first;
      second = was.second;
      high_enough = below_more (λ x. R x a → R x b → R x high) c was.high_enough (λ p q. absurd (none p q));
    }

-- the least upper bound of a lower bound and the next one
pub high_moved : (R : ℕ → ℕ → Type 0) (n a b c high join : ℕ) → Chains R n → IsHighLower R n a b c high → a < n → b < n → c < n → R c a → R c b → IsLeastUpper R n high c join → IsHighLower R n a b (c + 1) join
high_moved R n a b c high join chains was ha hb hc p q up =
    record {
      within = up.within;
      first = up.least a ha was.first p;
      second = up.least b hb was.second q;
      high_enough =
          below_more (λ x. R x a → R x b → R x join) c
          (λ x less f s. let h : x < n = omega arith in chains x high join h was.within up.within (was.high_enough x less f s) up.first)
          (λ f s. up.second);
    }

pub high_ends : (R : ℕ → ℕ → Type 0) (n a b c high : ℕ) → IsHighLower R n a b c high → n ≤ c → IsGreatestLower R n a b high
high_ends R n a b c high was end = record { within = was.within; first = was.first; second = was.second; greatest = λ x h f s. was.high_enough x (omega arith) f s }
