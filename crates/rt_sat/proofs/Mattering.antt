-- Where counts matter: one class for all of one shape, upwards, and where it can be read and written through.
use Rattle.std.proofs.Common.{◌≡◌, ℕ, ◌<◌, ◌⊎◌, inl, inr, Bool, true, false, List, [], Option, Some, None, IsSome, length, refl, sym, ap, subst, ◌∙◌, arith}
use Rattle.std.specs.Prelude.{is_some}
use Rattle.rt_lines.specs.declared.label.Label.{Label}
use Rattle.rt_lines.specs.declared.label.Label.TheVariants.{Load, Store}
use Rattle.rt_lines.specs.declared.label.Variance.TheVariants.{Co}
use Rattle.rt_lines.specs.declared.variable.Dtv.{Dtv}
use Rattle.rt_lines.specs.declared.line.Line.TheVariants.{Var as VarLine}
use Rattle.rt_rules.specs.Rules.{Derivable}
use Rattle.rt_rules.proofs.Carry.{are_there}
use Rattle.rt_bridge.specs.Growing.{Var, dot, dv, vd, Given, Fact, V, E, S, Der}
use Rattle.rt_bridge.specs.Counted.{State, st}
use Rattle.rt_bridge.specs.Ways.{Way, WayIn, HasLines}
use Rattle.rt_bridge.specs.Laws.{Named, AreNamed}
use Rattle.rt_bridge.proofs.Growing.{dv-vd}
use Rattle.rt_bridge.proofs.Tables.{covered_where}
use Rattle.rt_bridge.proofs.Eliminating.{complete}
use Rattle.rt_shape.specs.Graphs.{Graph, node_of, step_of}
use Rattle.rt_shape.specs.Shapes.{IsShapeOf}
use Rattle.rt_named.specs.Nodes.{flips_at, stepped}
use Rattle.rt_named.proofs.Noding.{node_longer}
use Rattle.rt_sat.specs.Closings.{IsClosedWhere}
use Rattle.rt_sat.specs.Mattering.{mark_at, AreMarked, Matters, AreMattering}
use Rattle.rt_sat.specs.Numbered.{at_number}
use Rattle.rt_sat.specs.Pushes.{asked_of, matter_at}
use Rattle.rt_sat.specs.Searches.{Allows}
use Rattle.rt_sat.proofs.Deciding.{are_flips}
use Rattle.std.proofs.lemmas.Bool.{and_parts}
use Rattle.rt_bridge.proofs.Lawful.{decide}

pub asked_allowed : (b : Bool) (k : ℕ) → (k ≡ 0) ⊎ (b ≡ true) → Allows (asked_of b) k
asked_allowed true k o = tt
asked_allowed false k (inl e) = omega (arith, e)
asked_allowed false k (inr e) = absurd (cc)

-- the flag of a number's variable
pub number_matters : (graph : Graph) (marks : List Bool) (known : List Dtv) (matters : List Bool) → AreMattering graph marks known matters → (n : ℕ) → n < length known → (x : Var) → vd (at_number known n) ≡ x → Matters graph marks x →
    matter_at matters n ≡ true
number_matters graph marks known matters are n h x e m =
    are n h ∙ ap (λ (z : Dtv). mark_at marks (node_of graph z)) (sym (dv-vd (at_number known n)) ∙ ap (λ (z : Var). dv z) e) ∙ m

some_equal : (m n : Option ℕ) → IsSome m → IsSome n → ((i j : ℕ) → m ≡ Some i → n ≡ Some j → i ≡ j) → m ≡ n
some_equal None n s t f = absurd (cc)
some_equal (Some m) None s t f = absurd (cc)
some_equal (Some m) (Some n) s t f = ap Some (f m n refl refl)

module _ (L : Given) (graph : Graph) (marks : List Bool) (shape : IsShapeOf L.lines graph) where
  pub one_class : (x y : Var) → Der L (E x y) → Matters graph marks x → Matters graph marks y
  one_class x y d h =
      let b : Derivable L.order L.lines (VarLine (dv x)) × Derivable L.order L.lines (VarLine (dv y)) = are_there L.order L.lines d.derives in
      subst (λ (o : Option ℕ). mark_at marks o ≡ true)
      (some_equal (node_of graph (dv x)) (node_of graph (dv y)) ((shape.there L.order (dv x)).1 b.0) ((shape.there L.order (dv y)).1 b.1) (λ i j e f. (shape.one L.order (dv x) (dv y) i j e f).1 d.derives)) h

  -- no marks are marks everywhere
  pub all_matter : marks ≡ [] → (x : Var) → Der L (V x) → Matters graph marks x
  all_matter none x d = subst (λ ms. Matters graph ms x) (sym none) (by (node_of graph (dv x)) ((shape.there L.order (dv x)).1 d.derives))
    where
      by : (o : Option ℕ) → IsSome o → mark_at [] o ≡ true
      by None s = absurd (cc)
      by (Some n) s = refl

  module _ (marked : AreMarked graph marks) where
    up : (o : Option ℕ) (l : Label) → mark_at marks (stepped graph o l) ≡ true → mark_at marks o ≡ true
    up None l h = absurd (cc)
    up (Some n) l h = step (step_of graph n l) refl h
      where
        step : (p : Option ℕ) → step_of graph n l ≡ p → mark_at marks p ≡ true → mark_at marks (Some n) ≡ true
        step None e g = absurd (cc)
        step (Some m) e g = marked n m l e (inr g)

    pub upwards : (x : Var) (l : Label) → Der L (V (dot x l)) → Matters graph marks (dot x l) → Matters graph marks x
    upwards x l d h = up (node_of graph (dv x)) l (subst (λ (o : Option ℕ). mark_at marks o ≡ true) (node_longer graph (dv x) l) h)

    flip_marked : (o : Option ℕ) → flips_at graph o ≡ true → mark_at marks o ≡ true
    flip_marked None e = absurd (cc)
    flip_marked (Some n) e = step (step_of graph n Load) refl (and_parts (is_some (step_of graph n Load)) (is_some (step_of graph n Store)) e).0
      where
        step : (p : Option ℕ) → step_of graph n Load ≡ p → is_some p ≡ true → mark_at marks (Some n) ≡ true
        step None f s = absurd (cc)
        step (Some m) f s = marked n m Load f (inl e)

    pub flipping : (x : Var) → Der L (V (dot x Load)) → Der L (V (dot x Store)) → Matters graph marks x
    flipping x f g = flip_marked (node_of graph (dv x)) ((are_flips L [] graph shape x).1 (f, g))

-- where edges have the lines of a shorter list, and are closed under the pushes of a longer one as far as counts matter, there is a way wherever the shorter list says that a variable lies below another
pub fewer_where : (L fewer : Given) (named : Var → Bool) (Edge : State → State → ℕ → Type 0) (graph : Graph) (marks : List Bool) → IsShapeOf L.lines graph → AreMarked graph marks → AreNamed fewer named → ((f : Fact) → Der fewer f → Der L f) →
    IsClosedWhere Edge L (Named named) (Matters graph marks) → HasLines Edge fewer → (x y : Var) → Named named x → Named named y → Der fewer (S x y) → Way Edge (st x Co) (st y Co) 0
fewer_where L fewer named Edge graph marks shape marked are more closed lines x y p q d =
    let w : WayIn Edge (st x Co) (st y Co) 0 =
    covered_where Edge L fewer (Named named) (Matters graph marks) more (one_class L graph marks shape) (upwards L graph marks shape marked) (flipping L graph marks shape marked) lines closed
    (complete fewer (Named named) (λ z. decide (named z)) are.parents are.bases are.sides p q d) (inl refl) in
    subst (λ n. Way Edge (st x Co) (st y Co) n) (omega (arith, w.few)) w.way
