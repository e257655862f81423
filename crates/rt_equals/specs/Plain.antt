-- Edges of count nought.
use Rattle.std.specs.Prelude.{◌≡◌, ℕ, List, Contains}
use Rattle.rt_sat.specs.declared.state.Edge.{Edge}
use Rattle.rt_sat.specs.Tables.{place}

-- an edge of count nought that turns nothing round
pub record IsPlain (e : Edge) : Type 0 where
  pub from : e.from ≡ place e.from.variable
  pub to : e.to ≡ place e.to.variable
  pub none : e.count ≡ 0

-- such an edge leads from one number to another
pub record HasPlain (edges : List Edge) (v w : ℕ) : Type 0 where
  pub edge : Edge
  pub listed : Contains edges edge
  pub plain : IsPlain edge
  pub start : edge.from.variable ≡ v
  pub end : edge.to.variable ≡ w

-- the pairs are those that such edges lead between
pub record ArePlainPairs (edges : List Edge) (pairs : List (ℕ × ℕ)) : Type 0 where
  pub all : (v w : ℕ) → HasPlain edges v w → Contains pairs (v, w)
  pub only : (v w : ℕ) → Contains pairs (v, w) → HasPlain edges v w
