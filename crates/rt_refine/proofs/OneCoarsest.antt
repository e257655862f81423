-- One coarsest refinement at most, and what is left by a refinement.
use Rattle.std.proofs.Common.{◌≡◌, ◌≤◌, ℕ, ◌⊎◌, inl, inr, List, [], Contains, refl, ap, sym, subst, ◌∙◌, arith}
use Rattle.rt_base.proofs.Lists.{Contains-map, Contains-map_source}
use Rattle.rt_lines.specs.declared.variable.Base.{Base}
use Rattle.rt_lines.specs.declared.variable.Base.TheVariants.{Proc, Global, Exist, Outer}
use Rattle.rt_lines.specs.declared.variable.Dtv.{Dtv}
use Rattle.rt_lines.specs.declared.line.Line.{Line}
use Rattle.rt_lines.specs.declared.line.Line.TheVariants.{Same, Low, Up}
use Rattle.rt_lines.specs.Orders.{Below}
use Rattle.rt_rules.specs.Rules.{HasSide, Derivable}
use Rattle.rt_rules.specs.Alike.{map_line}
use Rattle.rt_rules.specs.Laws.{NamesBase}
use Rattle.rt_rules.specs.Put.{exist}
use Rattle.rt_rules.proofs.LineSides.{HasSide-map_line_source}
use Rattle.rt_refine.specs.Refinements.{moved, move, IsRefinement, IsCoarsest, refined}
use Rattle.rt_refine.specs.Laws.{OneCoarsestLaw, OneRefinedLaw, RefinedSidesLaw, RefinedNamesLaw, RefinedLeastLaw, RefinedConstantsLaw}
use Rattle.rt_refine.proofs.Holding.{hold}
use Rattle.rt_refine.proofs.Classmates.{moved_twice}
use Rattle.rt_refine.proofs.Sources.{low_source, up_source}

-- the coarsest has the lesser names
lesser : (lines : List Line) (class other : ℕ → ℕ) → IsCoarsest lines class → IsRefinement lines other → (n : ℕ) → class n ≤ other n
lesser lines class other c r n =
    subst (λ k. k ≤ other n) (c.widest other r (other n) n (r.own n)) (c.refines.least (other n))

pub one_coarsest_lem : OneCoarsestLaw
one_coarsest_lem lines class other c d n =
    let a : class n ≤ other n = lesser lines class other c d.refines n in
    let b : other n ≤ class n = lesser lines other class d c.refines n in
    omega arith

pub one_refined_lem : OneRefinedLaw
one_refined_lem lines class other c d = λ i. refined (λ n. one_coarsest_lem lines class other c d n i) lines

module _ (lines : List Line) (class : ℕ → ℕ) (is : IsRefinement lines class) where
  -- the name of the class of an existential that is named is named
  moved_named : (b : Base) → NamesBase lines b → NamesBase lines (moved class b)
  moved_named (Proc n) h = h
  moved_named (Global n) h = h
  moved_named (Outer n) h = h
  moved_named (Exist n) h = by (is.shaped n)
    where
      by : (class n ≡ n) ⊎ ((order : Below) → Derivable order lines (Same (exist n) (exist (class n)))) → NamesBase lines (Exist (class n))
      by (inl e) = subst (λ k. NamesBase lines (Exist k)) (sym e) h
      by (inr d) =
          let none : Below = record { count = 0; cells = [] } in
          (hold none lines (NamesBase lines) (λ l x c s. (l, x, c, s, refl)) (d none)).1

pub refined_sides_lem : RefinedSidesLaw
refined_sides_lem lines class l x c h =
    let s : (k : Line) × Contains lines k × (map_line (move class) k ≡ l) = Contains-map_source (map_line (move class)) lines l c in
    let t : (y : Dtv) × HasSide s.0 y × (move class y ≡ x) =
    HasSide-map_line_source (move class) s.0 x (subst (λ k. HasSide k x) (sym s.2) h) in
    (s.0, t.0, s.1, t.1, t.2)

pub refined_names_lem : RefinedNamesLaw
refined_names_lem lines class b is (l, x, c, h, e) =
    let s : (k : Line) × (y : Dtv) × Contains lines k × HasSide k y × (move class y ≡ x) = refined_sides_lem lines class l x c h in
    subst (NamesBase lines) (ap (λ z. z.base) s.4 ∙ e) (moved_named lines class is s.1.base (s.0, s.1, s.2, s.3, refl))

pub refined_least_lem : RefinedLeastLaw
refined_least_lem lines class n is (l, x, c, h, e) =
    let s : (k : Line) × (y : Dtv) × Contains lines k × HasSide k y × (move class y ≡ x) = refined_sides_lem lines class l x c h in
    let f : moved class s.1.base ≡ Exist n = ap (λ z. z.base) s.4 ∙ e in
    let g : Exist (class n) ≡ Exist n = ap (moved class) (sym f) ∙ moved_twice class is.own s.1.base ∙ f in
    cc

-- a bound is left where a bound was, by the same constant
pub refined_constants_lem : RefinedConstantsLaw
refined_constants_lem lines class k = ((low_back, low_forth), (up_back, up_forth))
  where
    f : Line → Line
    f = map_line (move class)

    low_forth : (x : Dtv) × Contains lines (Low k x) → (x : Dtv) × Contains (refined class lines) (Low k x)
    low_forth (x, c) = (move class x, Contains-map f lines (Low k x) c)

    up_forth : (x : Dtv) × Contains lines (Up x k) → (x : Dtv) × Contains (refined class lines) (Up x k)
    up_forth (x, c) = (move class x, Contains-map f lines (Up x k) c)

    low_back : (x : Dtv) × Contains (refined class lines) (Low k x) → (x : Dtv) × Contains lines (Low k x)
    low_back (x, c) =
        let s : (l : Line) × Contains lines l × (f l ≡ Low k x) = Contains-map_source f lines (Low k x) c in
        let t : (y : Dtv) × (s.0 ≡ Low k y) × (move class y ≡ x) = low_source (move class) s.0 k x s.2 in
        (t.0, subst (Contains lines) t.1 s.1)

    up_back : (x : Dtv) × Contains (refined class lines) (Up x k) → (x : Dtv) × Contains lines (Up x k)
    up_back (x, c) =
        let s : (l : Line) × Contains lines l × (f l ≡ Up x k) = Contains-map_source f lines (Up x k) c in
        let t : (y : Dtv) × (s.0 ≡ Up y k) × (move class y ≡ x) = up_source (move class) s.0 x k s.2 in
        (t.0, subst (Contains lines) t.1 s.1)
