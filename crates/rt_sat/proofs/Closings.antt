-- The edges of subtype lines with all that is pushed from their ways are a table.
use Rattle.std.proofs.Common.{ℕ, inl, inr, Bool, List, Contains, drop, length, sym, subst}
use Rattle.rt_lines.specs.declared.label.Variance.TheVariants.{Co, Contra}
use Rattle.rt_lines.specs.declared.variable.Dtv.{Dtv}
use Rattle.rt_lines.specs.declared.line.Line.TheVariants.{Sub}
use Rattle.rt_bridge.specs.Growing.{Var, dot, dv, vd, Given, HasSub}
use Rattle.rt_bridge.specs.Counted.{State, st, Bridge}
use Rattle.rt_bridge.specs.Counted.Bridge.{up, down}
use Rattle.rt_bridge.specs.Ways.{Way, stays, turns, steps, WayIn}
use Rattle.rt_bridge.specs.Laws.{Named, Edge as EdgeOf}
use Rattle.rt_bridge.proofs.Growing.{dv-vd, vd-dv}
use Rattle.rt_sat.specs.declared.state.Edge.{Edge}
use Rattle.rt_sat.specs.Deciding.{is_among}
use Rattle.rt_sat.specs.Numbered.{state_of, edges_of}
use Rattle.rt_sat.specs.Pushes.{AreSound}
use Rattle.rt_sat.specs.Closings.{IsEdgeOf, IsLineEdge, AreLineEdges, ClosingLaw}
use Rattle.rt_sat.specs.Mattering.{Matters}
use Rattle.rt_sat.proofs.Mattering.{number_matters}
use Rattle.rt_sat.proofs.Numbered.{IsEdge, edge_of, edge_from}
use Rattle.rt_sat.proofs.Closed.{closed_ways, edge_sound, in_frame}

pub way_more : (F G : State → State → ℕ → Bool) → ((x y : State) (k : ℕ) → EdgeOf F x y k → EdgeOf G x y k) → {x y : State} {k : ℕ} → Way (EdgeOf F) x y k → Way (EdgeOf G) x y k
way_more F G more stays = stays
way_more F G more (turns w) = turns (way_more F G more w)
way_more F G more (steps {x} {y} {j} e w) = steps (more x y j e) (way_more F G more w)

pub more_edges : (known : List Dtv) (some edges : List Edge) → ((e : Edge) → Contains some e → Contains edges e) → (x y : State) (k : ℕ) → EdgeOf (edges_of known some) x y k → EdgeOf (edges_of known edges) x y k
more_edges known some edges more x y k h =
    let e : IsEdge known some x y k = edge_from known some x y k h in
    subst (λ z. EdgeOf (edges_of known edges) z y k) e.start (subst (λ z. EdgeOf (edges_of known edges) (state_of known e.edge.from) z k) e.end
    (subst (λ n. EdgeOf (edges_of known edges) (state_of known e.edge.from) (state_of known e.edge.to) n) e.count (edge_of known edges e.edge (more e.edge e.listed))))

module _ (L : Given) (known : List Dtv) (lines : List Edge) (are : AreLineEdges L.lines known lines) where
  pub has_sub : (x y : Dtv) → Contains L.lines (Sub x y) → HasSub L (vd x) (vd y)
  has_sub x y c = subst (λ z. Contains L.lines (Sub z (dv (vd y)))) (sym (dv-vd x)) (subst (λ z. Contains L.lines (Sub x z)) (sym (dv-vd y)) c)

  line_sound : (e : Edge) (x y : State) → IsEdgeOf known e x y → Bridge L (Named (is_among known)) x y 0 → Bridge L (Named (is_among known)) (state_of known e.from) (state_of known e.to) e.count
  line_sound e x y h b =
      subst (λ z. Bridge L (Named (is_among known)) z (state_of known e.to) e.count) (sym h.start) (subst (λ z. Bridge L (Named (is_among known)) x z e.count) (sym h.end) (subst (λ n. Bridge L (Named (is_among known)) x y n) (sym h.none) b))

  pub lines_sound : AreSound L known lines
  lines_sound e c =
      let o : (x : Dtv) × (y : Dtv) × Contains L.lines (Sub x y) × IsLineEdge known x y e = are.only e c in
      elim o.3 [
        | inl h ↦ line_sound e (st (vd o.0) Co) (st (vd o.1) Co) h (up (has_sub o.0 o.1 o.2))
        | inr h ↦ line_sound e (st (vd o.1) Contra) (st (vd o.0) Contra) h (down (has_sub o.0 o.1 o.2))
      ]

  line_edge : (edges : List Edge) (e : Edge) (x y : State) → Contains edges e → IsEdgeOf known e x y → EdgeOf (edges_of known edges) x y 0
  line_edge edges e x y c h =
      subst (λ z. EdgeOf (edges_of known edges) z y 0) h.start (subst (λ z. EdgeOf (edges_of known edges) (state_of known e.from) z 0) h.end
      (subst (λ n. EdgeOf (edges_of known edges) (state_of known e.from) (state_of known e.to) n) h.none (edge_of known edges e c)))

  pub forth_edge : (edges : List Edge) → ((e : Edge) → Contains lines e → Contains edges e) → (x y : Var) → HasSub L x y → EdgeOf (edges_of known edges) (st x Co) (st y Co) 0
  forth_edge edges more x y h =
      let f : (e : Edge) × Contains lines e × IsEdgeOf known e (st (vd (dv x)) Co) (st (vd (dv y)) Co) = are.forth (dv x) (dv y) h in
      subst (λ z. EdgeOf (edges_of known edges) (st z Co) (st y Co) 0) (vd-dv x) (subst (λ z. EdgeOf (edges_of known edges) (st (vd (dv x)) Co) (st z Co) 0) (vd-dv y) (line_edge edges f.0 (st (vd (dv x)) Co) (st (vd (dv y)) Co) (more f.0 f.1) f.2))

  pub back_edge : (edges : List Edge) → ((e : Edge) → Contains lines e → Contains edges e) → (x y : Var) → HasSub L x y → EdgeOf (edges_of known edges) (st y Contra) (st x Contra) 0
  back_edge edges more x y h =
      let f : (e : Edge) × Contains lines e × IsEdgeOf known e (st (vd (dv y)) Contra) (st (vd (dv x)) Contra) = are.back (dv x) (dv y) h in
      subst (λ z. EdgeOf (edges_of known edges) (st z Contra) (st x Contra) 0) (vd-dv y) (subst (λ z. EdgeOf (edges_of known edges) (st (vd (dv y)) Contra) (st z Contra) 0) (vd-dv x) (line_edge edges f.0 (st (vd (dv y)) Contra) (st (vd (dv x)) Contra) (more f.0 f.1) f.2))

pub closing_law : ClosingLaw
closing_law L known graph marks flips matters lines edges named apart frame mattering are closing = record {
  sound = edge_sound known L flips (in_frame L known flips frame) named.sides edges (closing.sound L frame named.sides (lines_sound L known lines are));
  lines = record { forth = λ {x} {y} h. forth_edge L known lines are edges closing.lines_stay x y h; back = λ {x} {y} h. back_edge L known lines are edges closing.lines_stay x y h };
  closed = λ x y l m a b d k o p q v w way push.
      (let r : WayIn (EdgeOf (edges_of known (drop (length lines) edges))) (st (dot x l) a) (st (dot y m) b) k =
      closed_ways known L flips frame matters (Matters graph marks) (number_matters graph marks known matters mattering) edges (drop (length lines) edges) named.parents apart (closing.within are.within) closing.closed x y l m a b d k o p q way push in
      record { count = r.count; few = r.few; way = way_more (edges_of known (drop (length lines) edges)) (edges_of known edges) (more_edges known (drop (length lines) edges) edges closing.pushed_in) r.way });
}
