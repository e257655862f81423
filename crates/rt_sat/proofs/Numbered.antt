-- Ways along numbered edges, and along the edges that they stand for.
use Rattle.std.proofs.Common.{◌≡◌, ℕ, ◌+◌, ◌<◌, ◌⊎◌, inl, inr, Bool, true, false, List, length, Contains, refl, sym, ap, subst, ◌∙◌, arith}
use Rattle.std.specs.Prelude.{not, nat_eq, ◌&&◌}
use Rattle.std.specs.Bool.{beq}
use Rattle.std.specs.List.{Any}
use Rattle.std.proofs.lemmas.Bool.{eqb-true, cases_eq, and_parts, and_from}
use Rattle.std.proofs.lemmas.List.{get_or_default}
use Rattle.std.proofs.lemmas.List.Folds.{list_any_at, Any-from_list_any}
use Rattle.std.proofs.Common.{eq-eqb}
use Rattle.rt_lines.specs.declared.label.Variance.{Variance}
use Rattle.rt_lines.specs.declared.label.Variance.TheVariants.{Co, Contra}
use Rattle.rt_lines.specs.declared.variable.Dtv.{Dtv}
use Rattle.rt_lines.specs.Words.{times}
use Rattle.rt_lines.specs.Equality.{variable_eq}
use Rattle.rt_lines.proofs.Equal.{variable_equal}
use Rattle.rt_bridge.specs.Growing.{dv, vd}
use Rattle.rt_bridge.specs.Counted.{State, st}
use Rattle.rt_bridge.specs.Ways.{Way, stays, turns, steps}
use Rattle.rt_bridge.specs.Laws.{Edge as EdgeOf}
use Rattle.rt_bridge.proofs.Growing.{dv-vd, vd-dv}
use Rattle.rt_named.specs.Origins.{no_variable}
use Rattle.rt_sat.specs.declared.state.State.{State as Place}
use Rattle.rt_sat.specs.declared.state.Edge.{Edge}
use Rattle.rt_sat.specs.Searches.{turned, Walk}
use Rattle.rt_sat.specs.Searches.Walk.{stays as rests, turns as swaps, steps as goes}
use Rattle.rt_sat.specs.Numbered.{sign_of, is_contra, at_number, state_of, stands_for, edges_of, AreDistinct, AreWithin, NumberedLaw}
use Rattle.rt_lines.proofs.Same.{variable_self}

contra_self : (b : Bool) → beq b (is_contra (sign_of b)) ≡ true
contra_self true = refl
contra_self false = refl

sign_from : (b : Bool) (v : Variance) → beq b (is_contra v) ≡ true → sign_of b ≡ v
sign_from true Contra e = refl
sign_from false Co e = refl
sign_from true Co e = absurd (cc)
sign_from false Contra e = absurd (cc)

pub contra_sign : (b : Bool) → is_contra (sign_of b) ≡ b
contra_sign true = refl
contra_sign false = refl

pub sign_contra : (v : Variance) → sign_of (is_contra v) ≡ v
sign_contra Co = refl
sign_contra Contra = refl

pub sign_not : (b : Bool) → sign_of (not b) ≡ times Contra (sign_of b)
sign_not true = refl
sign_not false = refl

pub sign_one : (a b : Bool) → sign_of a ≡ sign_of b → a ≡ b
sign_one a b e = sym (contra_sign a) ∙ ap is_contra e ∙ contra_sign b

pub stands_itself : (known : List Dtv) (s : Place) → stands_for known s (state_of known s) ≡ true
stands_itself known s =
    and_from (variable_eq (at_number known s.variable) (dv (vd (at_number known s.variable)))) (beq s.contra (is_contra (sign_of s.contra)))
    (ap (variable_eq (at_number known s.variable)) (dv-vd (at_number known s.variable)) ∙ variable_self (at_number known s.variable)) (contra_self s.contra)

pub stands_from : (known : List Dtv) (s : Place) (x : State) → stands_for known s x ≡ true → state_of known s ≡ x
stands_from known s x e =
    let p : (variable_eq (at_number known s.variable) (dv x.var) ≡ true) × (beq s.contra (is_contra x.sign) ≡ true) = and_parts (variable_eq (at_number known s.variable) (dv x.var)) (beq s.contra (is_contra x.sign)) e in
    let v : vd (at_number known s.variable) ≡ x.var = ap vd (variable_equal (at_number known s.variable) (dv x.var) p.0) ∙ vd-dv x.var in
    let t : sign_of s.contra ≡ x.sign = sign_from s.contra x.sign p.1 in
    λ i. st (v i) (t i)

-- an edge of the list stands for an edge
pub edge_of : (known : List Dtv) (edges : List Edge) (e : Edge) → Contains edges e → edges_of known edges (state_of known e.from) (state_of known e.to) e.count ≡ true
edge_of known edges e c = list_any_at (λ (g : Edge). stands_for known g.from (state_of known e.from) && (stands_for known g.to (state_of known e.to) && nat_eq g.count e.count)) edges c.0 e c.1
    (subst (λ (g : Edge). (stands_for known g.from (state_of known e.from) && (stands_for known g.to (state_of known e.to) && nat_eq g.count e.count)) ≡ true) (sym c.2) itself)
  where
    itself : (stands_for known e.from (state_of known e.from) && (stands_for known e.to (state_of known e.to) && nat_eq e.count e.count)) ≡ true
    itself = and_from (stands_for known e.from (state_of known e.from)) (stands_for known e.to (state_of known e.to) && nat_eq e.count e.count) (stands_itself known e.from)
        (and_from (stands_for known e.to (state_of known e.to)) (nat_eq e.count e.count) (stands_itself known e.to) (eq-eqb e.count e.count refl))

-- and each edge is one that an edge of the list stands for
pub record IsEdge (known : List Dtv) (edges : List Edge) (x y : State) (k : ℕ) : Type 0 where
  pub edge : Edge
  pub listed : Contains edges edge
  pub start : state_of known edge.from ≡ x
  pub end : state_of known edge.to ≡ y
  pub count : edge.count ≡ k

pub edge_from : (known : List Dtv) (edges : List Edge) (x y : State) (k : ℕ) → edges_of known edges x y k ≡ true → IsEdge known edges x y k
edge_from known edges x y k h =
    let a : Any (λ (e : Edge). (stands_for known e.from x && (stands_for known e.to y && nat_eq e.count k)) ≡ true) edges = Any-from_list_any (λ (e : Edge). stands_for known e.from x && (stands_for known e.to y && nat_eq e.count k)) edges h in
    let e : Edge = a.1 in
    let p : (stands_for known e.from x ≡ true) × ((stands_for known e.to y && nat_eq e.count k) ≡ true) = and_parts (stands_for known e.from x) (stands_for known e.to y && nat_eq e.count k) a.4 in
    let q : (stands_for known e.to y ≡ true) × (nat_eq e.count k ≡ true) = and_parts (stands_for known e.to y) (nat_eq e.count k) p.1 in
    record { edge = e; listed = (a.0, a.2, get_or_default edges a.0 e a.1 a.2 ∙ a.3); start = stands_from known e.from x p.0; end = stands_from known e.to y q.0; count = eqb-true e.count k q.1 }

-- distinct variables have one number each
pub number_one : (known : List Dtv) → AreDistinct known → (i j : ℕ) → i < length known → j < length known → at_number known i ≡ at_number known j → i ≡ j
number_one known apart i j h k e = by (cases_eq i j)
  where
    by : (i ≡ j) ⊎ (i ≡ j → ⊥) → i ≡ j
    by (inl f) = f
    by (inr n) = elim (ordered i j n) [
      | inl less ↦ absurd (apart i j no_variable less k e)
      | inr less ↦ absurd (apart j i no_variable less h (sym e))
    ]
      where
        ordered : (i j : ℕ) → (i ≡ j → ⊥) → (i < j) ⊎ (j < i)
        ordered i j n = grind arith

pub place_one : (known : List Dtv) → AreDistinct known → (s t : Place) → s.variable < length known → t.variable < length known → state_of known s ≡ state_of known t → s ≡ t
place_one known apart s t h k e =
    let v : at_number known s.variable ≡ at_number known t.variable = sym (dv-vd (at_number known s.variable)) ∙ ap (λ (x : State). dv x.var) e ∙ dv-vd (at_number known t.variable) in
    let n : s.variable ≡ t.variable = number_one known apart s.variable t.variable h k v in
    let c : s.contra ≡ t.contra = sign_one s.contra t.contra (ap (λ (x : State). x.sign) e) in
    λ i. record { variable = n i; contra = c i }

pub turned_of : (known : List Dtv) (s : Place) → state_of known (turned s) ≡ st (vd (at_number known s.variable)) (times Contra (sign_of s.contra))
turned_of known s = ap (λ v. st (vd (at_number known s.variable)) v) (sign_not s.contra)

module _ (known : List Dtv) (edges : List Edge) where
  pub way_of : {s t : Place} {k : ℕ} → Walk edges s t k → Way (EdgeOf (edges_of known edges)) (state_of known s) (state_of known t) k
  way_of rests = stays
  way_of (swaps {x = s} {y = t} {k = k} w) =
      turns (subst (λ z. Way (EdgeOf (edges_of known edges)) z (state_of known t) k) (turned_of known s) (way_of w))
  way_of (goes e c w) = steps (edge_of known edges e c) (way_of w)

  -- a walk to a numbered state
  pub record WalkTo (s : Place) (y : State) (k : ℕ) : Type 0 where
    pub place : Place
    pub within : place.variable < length known
    pub is : state_of known place ≡ y
    pub walk : Walk edges s place k

  module _ (apart : AreDistinct known) (inside : AreWithin known edges) where
    pub walk_from : {x y : State} {k : ℕ} → Way (EdgeOf (edges_of known edges)) x y k → (s : Place) → s.variable < length known → state_of known s ≡ x → WalkTo s y k
    walk_from stays s h e = record { place = s; within = h; is = e; walk = rests }
    walk_from (turns {x} {a} {y} {k} w) s h e =
        let f : state_of known (turned s) ≡ st x (times Contra a) = turned_of known s ∙ ap (λ (z : State). st z.var (times Contra z.sign)) e in
        let r : WalkTo (turned s) y k = walk_from w (turned s) h f in
        record { place = r.place; within = r.within; is = r.is; walk = swaps r.walk }
    walk_from (steps {x} {y} {z} {j} {k} e w) s h f =
        let g : IsEdge known edges x y j = edge_from known edges x y j e in
        let i : (g.edge.from.variable < length known) × (g.edge.to.variable < length known) = inside g.edge g.listed in
        let o : g.edge.from ≡ s = place_one known apart g.edge.from s i.0 h (g.start ∙ sym f) in
        let r : WalkTo g.edge.to z k = walk_from w g.edge.to i.1 g.end in
        record { place = r.place; within = r.within; is = r.is; walk = subst (λ (u : Place). Walk edges u r.place (j + k)) o (subst (λ n. Walk edges g.edge.from r.place (n + k)) g.count (goes g.edge g.listed r.walk)) }

    pub walk_of : (s t : Place) (k : ℕ) → s.variable < length known → t.variable < length known → Way (EdgeOf (edges_of known edges)) (state_of known s) (state_of known t) k → Walk edges s t k
    walk_of s t k h i w =
        let r : WalkTo s (state_of known t) k = walk_from w s h refl in
        subst (λ u. Walk edges s u k) (place_one known apart r.place t r.within i r.is) r.walk

pub numbered_law : NumberedLaw
numbered_law known edges apart inside s t k h i = (λ w. way_of known edges w, λ w. walk_of known edges apart inside s t k h i w)
