-- What edges reach.
use Rattle.std.proofs.Common.{ℕ}
use Rattle.rt_components.specs.Groups.{Reaches}
use Rattle.rt_components.specs.Groups.Reaches.{there, onward}

module _ (Edge : ℕ → ℕ → Type 0) where
  pub reaches_on : {a b c : ℕ} → Reaches Edge a b → Reaches Edge b c → Reaches Edge a c
  reaches_on there r = r
  reaches_on (onward e q) r = onward e (reaches_on q r)

  pub reaches_edge : {a b c : ℕ} → Reaches Edge a b → Edge b c → Reaches Edge a c
  reaches_edge r e = reaches_on r (onward e there)

  -- what is closed under edges contains what it reaches
  pub reaches_closed : (P : ℕ → Type 0) → ((a b : ℕ) → P a → Edge a b → P b) → {a b : ℕ} → Reaches Edge a b → P a → P b
  reaches_closed P closed there p = p
  reaches_closed P closed (onward e r) p = reaches_closed P closed r (closed _ _ p e)

pub reaches_by : (P Q : ℕ → ℕ → Type 0) → ((u w : ℕ) → P u w → Q u w) → {u w : ℕ} → Reaches P u w → Reaches Q u w
reaches_by P Q f there = there
reaches_by P Q f (onward {a} {b} e r) = onward (f a b e) (reaches_by P Q f r)
