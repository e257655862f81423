-- Edges that are steps of classes.
use Rattle.std.proofs.Common.{◌≡◌, ℕ, ◌<◌, inl, inr, Bool, List, [], Contains, length, get_or, sym, subst, ◌∙◌}
use Rattle.std.proofs.lemmas.List.{get_or_default}
use Rattle.rt_lines.specs.declared.variable.Dtv.{Dtv}
use Rattle.rt_grid.specs.declared.grid.Step.{Step}
use Rattle.rt_grid.specs.Tables.{Table, size_of}
use Rattle.rt_sat.specs.declared.family.Family.{Family}
use Rattle.rt_sat.specs.declared.state.Edge.{Edge}
use Rattle.rt_sat.specs.declared.state.State.{State}
use Rattle.rt_sat.specs.Hints.{grid_of, members_of, no_table, state_at, AreMore, IsFamily, IsOfStep, IsStepOf, IsTold, IsToldFamily}
use Rattle.rt_sat.proofs.Telling.{inside_at}

pub more_none : (P : Edge → Type 0) (edges : List Edge) → AreMore P edges edges
more_none P edges e h = inl h

pub more_more : (P Q : Edge → Type 0) (a b c : List Edge) → ((e : Edge) → Q e → P e) → AreMore P a b → AreMore Q b c → AreMore P a c
more_more P Q a b c f p q e h = elim (q e h) [ inl i ↦ p e i | inr i ↦ inr (f e i) ]

-- what holds of the steps of a class and of other edges holds of all
pub each_more : (P Q : Edge → Type 0) (a b : List Edge) → ((e : Edge) → P e → Q e) → AreMore P a b → ((e : Edge) → Contains a e → Q e) → (e : Edge) → Contains b e → Q e
each_more P Q a b f more old e h = elim (more e h) [ inl i ↦ old e i | inr i ↦ f e i ]

-- what is read of a class
pub read_class : (count : ℕ) (family : Family) (class : ℕ) (members d : List ℕ) (grid t : Table) → IsFamily count family → class < length family.members.items → members ≡ get_or family.members.items class d → grid ≡ get_or family.grids.items class t →
    (members ≡ members_of family class) × (grid ≡ grid_of family class)
read_class count family class members d grid t is less e f = (e ∙ get_or_default family.members.items class d [] less, f ∙ get_or_default family.grids.items class t no_table (subst (λ n. class < n) (sym is.each) less))

module _ (known : List Dtv) (family : Family) (class : ℕ) (less : class < length family.members.items) where
  pub step_told : (flips : List Bool) (lines : List Edge) → IsToldFamily known flips lines family → (e : Edge) → IsStepOf (members_of family class) (grid_of family class) e → IsTold known flips lines e.from e.to e.count
  step_told flips lines told e of =
      let i : ℕ = of.place in
      let s : Step = of.step.step in
      let is : IsOfStep (members_of family class) i s e = of.step.is in
      subst (λ (x : State). IsTold known flips lines x e.to e.count) (sym is.from)
      (subst (λ (x : State). IsTold known flips lines (state_at (members_of family class) i) x e.count) (sym is.to)
      (subst (IsTold known flips lines (state_at (members_of family class) i) (state_at (members_of family class) s.to)) (sym is.count) ((told class less).steps i s of.step.listed)))

  pub step_within : IsFamily (length known) family → (e : Edge) → IsStepOf (members_of family class) (grid_of family class) e → (e.from.variable < length known) × (e.to.variable < length known)
  step_within f e of = (at of.place of.inside e.from of.step.is.from, at of.step.step.to of.step.inside e.to of.step.is.to)
    where
      at : (i : ℕ) → i < size_of (grid_of family class) → (s : State) → s ≡ state_at (members_of family class) i → s.variable < length known
      at i h s e = subst (λ (x : State). x.variable < length known) (sym e) (inside_at (length known) (members_of family class) (f.inside class) i (subst (λ n. i < n) (f.sizes class less) h))
