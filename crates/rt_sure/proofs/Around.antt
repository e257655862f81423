-- Where one variable lies below another by the lines that stand, arcs of these and pushed ones lead from one to the other.
use Rattle.std.proofs.Common.{◌≡◌, ℕ, ◌<◌, Bool, true, false, List, Contains, None, Some, drop, length, get_or, refl, sym, ap, subst, ◌∙◌, arith}
use Rattle.std.specs.Prelude.{slice_get}
use Rattle.std.proofs.lemmas.Option.{get_or_from_slice_get, slice_get_within}
use Rattle.rt_lines.specs.declared.label.Variance.TheVariants.{Co, Contra}
use Rattle.rt_lines.specs.declared.variable.Dtv.{Dtv}
use Rattle.rt_lines.specs.declared.line.Line.{Line}
use Rattle.rt_lines.specs.declared.line.Line.TheVariants.{Sub}
use Rattle.rt_lines.specs.Orders.{Below}
use Rattle.rt_rules.specs.Rules.{Derivable}
use Rattle.rt_rules.proofs.Carry.{given}
use Rattle.rt_rules.proofs.Covering.{derives_more}
use Rattle.rt_bridge.specs.Growing.{Var, dot, dv, vd, Given, Fact, S, Der, HasSub}
use Rattle.rt_bridge.specs.Counted.{State, st}
use Rattle.rt_bridge.specs.Ways.{Way, stays, turns, steps, WayIn, HasLines}
use Rattle.rt_bridge.specs.Laws.{Named, AreNamed, Edge as EdgeOf}
use Rattle.rt_bridge.proofs.Bridges.{bridge_even}
use Rattle.rt_bridge.proofs.Growing.{der, dv-vd}
use Rattle.rt_components.specs.Groups.{Reaches}
use Rattle.rt_components.specs.Groups.Reaches.{there, onward}
use Rattle.rt_named.specs.Origins.{no_variable}
use Rattle.rt_outline.specs.declared.arc.Arc.{Arc}
use Rattle.rt_outline.specs.Arcs.{HasArc, Leads}
use Rattle.rt_outline.specs.Lines.{standing}
use Rattle.rt_outline.proofs.Standing.{Stands, standing_line}
use Rattle.rt_sat.specs.declared.state.Edge.{Edge}
use Rattle.rt_sat.specs.Closings.{IsClosedWhere}
use Rattle.rt_sat.specs.Deciding.{is_among}
use Rattle.rt_sat.specs.Mattering.{Matters}
use Rattle.rt_sat.specs.Numbered.{AreDistinct, AreWithin, at_number, edges_of, sign_of}
use Rattle.rt_sat.specs.Pushes.{AreSound, IsFrame}
use Rattle.rt_sat.specs.Tables.{IsLayered, IsTableOf}
use Rattle.rt_sat.proofs.Below as below
use Rattle.rt_sat.proofs.Closed.{closed_ways, name_at}
use Rattle.rt_sat.proofs.Closings.{back_edge, forth_edge, lines_sound, more_edges}
use Rattle.rt_sat.proofs.Mattering.{fewer_where, number_matters}
use Rattle.rt_sat.proofs.Numbered.{IsEdge, edge_from, number_one, sign_one}
use Rattle.rt_equals.specs.Plain.{HasPlain}
use Rattle.rt_equals.proofs.Equal.{parity_co, placed}
use Rattle.rt_sure.specs.Arcs.{AreArcs, AreAround}
use Rattle.rt_sure.proofs.Inside.{pushed_in}

-- an edge of a subtype line, forth or back, or a pushed one
pub data Step (some : Given) (More : State → State → ℕ → Type 0) : State → State → ℕ → Type 0 where
  forth : {x y : Var} → HasSub some x y → Step some More (st x Co) (st y Co) 0
  back : {x y : Var} → HasSub some x y → Step some More (st y Contra) (st x Contra) 0
  more : {x y : State} {k : ℕ} → More x y k → Step some More x y k

-- a way along some edges is one along more
way_by : (P Q : State → State → ℕ → Type 0) → ((x y : State) (k : ℕ) → P x y k → Q x y k) →
    {x y : State} {k : ℕ} → Way P x y k → Way Q x y k
way_by P Q grow stays = stays
way_by P Q grow (turns w) = turns (way_by P Q grow w)
way_by P Q grow (steps {x} {y} {j} e w) = steps (grow x y j e) (way_by P Q grow w)

module _ (lines : List Line) (extra known : List Dtv) (edges : List Edge) (count : ℕ) (layered : IsLayered lines extra known edges count)
    (arcs : List (List Arc)) (are : AreArcs lines (length lines) known (drop count edges) arcs) (order : Below) (stands : List Bool) where
  abbrev table : IsTableOf lines extra known edges
  table = layered.table

  abbrev pushed : List Edge
  pushed = drop count edges

  abbrev L : Given
  L = record { order = order; lines = lines }

  abbrev fewer : Given
  fewer = record { order = order; lines = standing lines stands }

  abbrev M : Var → Type 0
  M = Named (is_among known)

  abbrev Open : ℕ → ℕ → Type 0
  Open = Leads arcs stands true

  abbrev Along : State → State → ℕ → Type 0
  Along = Step fewer (EdgeOf (edges_of known pushed))

  among : (e : Edge) → Contains pushed e → Contains edges e
  among e c = pushed_in lines extra known edges count layered e c

  distinct : AreDistinct known
  distinct = below.distinct order lines extra known edges table

  inside : AreWithin known edges
  inside = below.within order lines extra known edges table

  names : AreNamed L (is_among known)
  names = below.named_all order lines extra known edges table

  frames : IsFrame L known table.flips
  frames = below.frame order lines extra known edges table

  sound : AreSound L known edges
  sound = table.closing.sound L frames names.sides (lines_sound L known table.first table.entered)

  some_line : (l : Line) → Contains (standing lines stands) l → Contains lines l
  some_line l c =
      let r : (i : ℕ) × Stands lines stands i l = standing_line lines stands l c in
      (r.0, slice_get_within lines r.0 l r.1.0, get_or_from_slice_get lines r.0 l l r.1.0)

  grows : (f : Fact) → Der fewer f → Der L f
  grows f d = der L f (derives_more order (standing lines stands) lines (λ l c. given order lines l (some_line l c)) d.derives)

  names_fewer : AreNamed fewer (is_among known)
  names_fewer = record {
    parents = names.parents;
    bases = λ b d. names.bases b (grows _ d);
    sides = λ x y c. names.sides x y (some_line (Sub (dv x) (dv y)) c);
  }

  has_lines : HasLines Along fewer
  has_lines = record { forth = λ {x} {y} h. forth h; back = λ {x} {y} h. back h }

  along_edge : (x y : State) (k : ℕ) → Along x y k → EdgeOf (edges_of known edges) x y k
  along_edge x y k (forth {x = a} {y = b} h) =
      forth_edge L known table.first table.entered edges table.closing.lines_stay a b (some_line (Sub (dv a) (dv b)) h)
  along_edge x y k (back {x = a} {y = b} h) =
      back_edge L known table.first table.entered edges table.closing.lines_stay a b (some_line (Sub (dv a) (dv b)) h)
  along_edge x y k (more h) = more_edges known pushed edges among x y k h

  closed : IsClosedWhere Along L M (Matters table.graph table.marks)
  closed x y l m a b d k o p q v w way push =
      let r : WayIn (EdgeOf (edges_of known (drop (length table.first) edges))) (st (dot x l) a) (st (dot y m) b) k =
      closed_ways known L table.flips frames table.matters (Matters table.graph table.marks)
      (number_matters table.graph table.marks known table.matters table.mattering) edges (drop (length table.first) edges)
      names.parents distinct inside table.closing.closed x y l m a b d k o p q
      (way_by Along (EdgeOf (edges_of known edges)) along_edge way) push in
      record {
        count = r.count;
        few = r.few;
        way = way_by (EdgeOf (edges_of known (drop (length table.first) edges))) Along
            (λ s t j e. more (subst (λ n. EdgeOf (edges_of known (drop n edges)) s t j) (sym layered.counted) e)) r.way;
      }

  -- the number is that of a variable
  abbrev IsOf : ℕ → Var → Type 0
  IsOf v x = (v < length known) × (at_number known v ≡ dv x)

  one : (v w : ℕ) (x : Var) → IsOf v x → IsOf w x → v ≡ w
  one v w x h k = number_one known distinct v w h.0 k.0 (h.1 ∙ sym k.1)

  is_of : (v : ℕ) (x : Var) → slice_get known v ≡ Some (dv x) → IsOf v x
  is_of v x e = (slice_get_within known v (dv x) e, get_or_from_slice_get known v (dv x) no_variable e)

  -- the arc of a standing line
  record HasLine (x y : Var) : Type 0 where
    index : ℕ
    from : ℕ
    to : ℕ
    start : IsOf from x
    end : IsOf to y
    arc : HasArc arcs from to (Some index)
    flag : get_or stands index false ≡ true

  line_arc : (x y : Var) → HasSub fewer x y → HasLine x y
  line_arc x y c =
      let s : (i : ℕ) × Stands lines stands i (Sub (dv x) (dv y)) = standing_line lines stands (Sub (dv x) (dv y)) c in
      let small : s.0 < length lines = slice_get_within lines s.0 (Sub (dv x) (dv y)) s.1.0 in
      let a : (v : ℕ) × (w : ℕ) × (slice_get known v ≡ Some (dv x)) × (slice_get known w ≡ Some (dv y)) × HasArc arcs v w (Some s.0) =
      are.all s.0 (dv x) (dv y) small s.1.0 in
      record { index = s.0; from = a.0; to = a.1; start = is_of a.0 x a.2; end = is_of a.1 y a.3; arc = a.4; flag = s.1.1 }

  -- the arc of a pushed edge of count nought
  record HasPush (x y : State) : Type 0 where
    from : ℕ
    to : ℕ
    start : IsOf from x.var
    end : IsOf to y.var
    arc : HasArc arcs from to None
    sign : y.sign ≡ Co

  push_arc : (x y : State) (k : ℕ) → EdgeOf (edges_of known pushed) x y k → k ≡ 0 → x.sign ≡ Co → HasPush x y
  push_arc x y k h z s =
      let g : IsEdge known pushed x y k = edge_from known pushed x y k h in
      let e : Edge = g.edge in
      let c : Contains edges e = among e g.listed in
      let small : (e.from.variable < length known) × (e.to.variable < length known) = inside e c in
      let none : e.count ≡ 0 = g.count ∙ z in
      let co : e.from.contra ≡ false = sign_one e.from.contra false (ap (λ (u : State). u.sign) g.start ∙ s) in
      let stays_co : e.to.contra ≡ false = parity_co e.count e.from.contra e.to.contra (bridge_even L M (sound e c)) none co in
      let plain : HasPlain pushed e.from.variable e.to.variable = record {
        edge = e;
        listed = g.listed;
        plain = record { from = placed e.from co; to = placed e.to stays_co; none = none };
        start = refl;
        end = refl;
      } in
      record {
        from = e.from.variable;
        to = e.to.variable;
        start = (small.0, sym (dv-vd (at_number known e.from.variable)) ∙ ap (λ (u : State). dv u.var) g.start);
        end = (small.1, sym (dv-vd (at_number known e.to.variable)) ∙ ap (λ (u : State). dv u.var) g.end);
        arc = are.pushed e.from.variable e.to.variable plain;
        sign = sym (ap (λ (u : State). u.sign) g.end) ∙ ap sign_of stays_co;
      }

  reach : {s t : State} {k : ℕ} → Way Along s t k → k ≡ 0 → s.sign ≡ Co → (v w : ℕ) → IsOf v s.var → IsOf w t.var → Reaches Open v w
  reach (stays {x}) z f v w h i = subst (Reaches Open v) (one v w x.var h i) there
  reach (turns r) z f v w h i = absurd (omega (arith, z))
  reach (steps (forth {x = x} {y = y} c) r) z f v w h i =
      let a : HasLine x y = line_arc x y c in
      onward (Some a.index, subst (λ n. HasArc arcs n a.to (Some a.index)) (one a.from v x a.start h) a.arc, a.flag)
      (reach r (omega (arith, z)) refl a.to w a.end i)
  reach (steps (back c) r) z f v w h i = absurd (cc)
  reach (steps (more {x = x} {y = y} {k = j} e) r) z f v w h i =
      let a : HasPush x y = push_arc x y j e (omega (arith, z)) f in
      onward (None, subst (λ n. HasArc arcs n a.to None) (one a.from v x.var a.start h) a.arc, refl)
      (reach r (omega (arith, z)) a.sign a.to w a.end i)

  pub derived_led : (v w : ℕ) → v < length known → w < length known →
      Derivable order (standing lines stands) (Sub (at_number known v) (at_number known w)) → Reaches Open v w
  derived_led v w h k d = reach way refl refl v w (h, sym (dv-vd x)) (k, sym (dv-vd y))
    where
      x : Dtv
      x = at_number known v

      y : Dtv
      y = at_number known w

      way : Way Along (st (vd x) Co) (st (vd y) Co) 0
      way = fewer_where L fewer (is_among known) Along table.graph table.marks table.shape table.marked names_fewer grows closed has_lines
          (vd x) (vd y) (name_at known v h) (name_at known w k)
          (der fewer (S (vd x) (vd y)) (subst (λ z. Derivable order (standing lines stands) (Sub z (dv (vd y)))) (sym (dv-vd x))
          (subst (λ z. Derivable order (standing lines stands) (Sub x z)) (sym (dv-vd y)) d)))

-- and so the arcs are around
pub are_around : (lines : List Line) (extra known : List Dtv) (edges : List Edge) (count : ℕ) →
    IsLayered lines extra known edges count → (arcs : List (List Arc)) → AreArcs lines (length lines) known (drop count edges) arcs →
    AreAround lines known arcs
are_around lines extra known edges count layered arcs are order stands v w h k d =
    derived_led lines extra known edges count layered arcs are order stands v w h k d
