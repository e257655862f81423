-- The laws of counted judgements and of tables.
use Rattle.std.proofs.Common.{ℕ, ◌⊎◌, inl, inr, Bool, true, false, refl, subst, arith}
use Rattle.std.specs.Prelude.{IsTrue}
use Rattle.rt_lines.specs.declared.label.Variance.TheVariants.{Co}
use Rattle.rt_bridge.specs.Counted.{State, st}
use Rattle.rt_bridge.specs.Ways.{Way, WayIn}
use Rattle.rt_bridge.specs.Laws.{Named, Edge, ExactLaw, WaysLaw, TableLaw, FewerLaw, LowLaw, UpLaw}
use Rattle.rt_bridge.proofs.Eliminating.{complete}
use Rattle.rt_bridge.proofs.Exact.{exact}
use Rattle.rt_bridge.proofs.Tables.{covered, way_bridge}
use Rattle.rt_bridge.proofs.Bounds.{low_of, low_from, up_of, up_from}

pub decide : (b : Bool) → IsTrue b ⊎ (IsTrue b → ⊥)
decide true = inl refl
decide false = inr (λ e. cc)

pub exact_law : ExactLaw
exact_law L named flips are flip x y p q v =
    exact L flips (λ z h. (flip z).0 h) (λ z h. (flip z).1 h) (Named named) (λ z. decide (named z)) are.parents are.bases are.sides x y p q v

pub ways_law : WaysLaw
ways_law L named edge are table x y k = (
  λ b. covered (Edge edge) L L (Named named) (λ f d. d) table.closed table.lines b,
  λ m v w. way_bridge (Edge edge) L (Named named) are.sides table.sound w m v,
)

none_left : (edge : State → State → ℕ → Bool) (x y : State) → WayIn (Edge edge) x y 0 → Way (Edge edge) x y 0
none_left edge x y w = subst (λ n. Way (Edge edge) x y n) (omega (arith, w.few)) w.way

pub table_law : TableLaw
table_law L named flips edge are flip table x y p q v = (
  λ d. none_left edge (st x Co) (st y Co) ((ways_law L named edge are table (st x Co) (st y Co) 0).0 ((exact_law L named flips are flip x y p q v).0 d)),
  λ w. (exact_law L named flips are flip x y p q v).1 ((ways_law L named edge are table (st x Co) (st y Co) 0).1 p v w),
)

pub fewer_law : FewerLaw
fewer_law L fewer named edge are more closed lines x y p q d =
    none_left edge (st x Co) (st y Co) (covered (Edge edge) L fewer (Named named) more closed lines
    (complete fewer (Named named) (λ z. decide (named z)) are.parents are.bases are.sides p q d))

pub low_law : LowLaw
low_law order lines k x is few = (λ d. (low_of order lines is few d).1, low_from order lines k x)

pub up_law : UpLaw
up_law order lines x k is few h = (λ d. up_of order lines is few d h, up_from order lines x k)
