-- One coarsest twinning at most, and what is left by a twinning.
use Rattle.std.proofs.Common.{◌≡◌, ◌≤◌, ℕ, ◌⊎◌, inl, inr, List, Contains, refl, ap, sym, subst, ◌∙◌, arith}
use Rattle.rt_lines.specs.declared.label.Variance.{Variance}
use Rattle.rt_lines.specs.declared.label.Variance.TheVariants.{Co, Contra}
use Rattle.rt_lines.specs.declared.variable.Base.{Base}
use Rattle.rt_lines.specs.declared.variable.Base.TheVariants.{Proc, Global, Exist, Outer}
use Rattle.rt_lines.specs.declared.variable.Dtv.{Dtv}
use Rattle.rt_lines.specs.declared.line.Line.{Line}
use Rattle.rt_lines.specs.declared.line.Line.TheVariants.{Sub}
use Rattle.rt_rules.specs.Rules.{HasSide}
use Rattle.rt_rules.specs.Laws.{NamesBase}
use Rattle.rt_rules.specs.Put.{exist, use_of}
use Rattle.rt_refine.specs.Refinements.{moved, move, refined}
use Rattle.rt_refine.proofs.Classmates.{moved_twice}
use Rattle.rt_refine.proofs.OneCoarsest.{refined_sides_lem}
use Rattle.rt_twins.specs.Twinnings.{LeadsOut, IsTwinning, IsCoarsestTwinning}
use Rattle.rt_twins.specs.Twinnings.LeadsOut.{ends, goes_on}
use Rattle.rt_twins.specs.Laws.{OneTwinningLaw, OneTwinnedLaw, TwinnedNamesLaw, TwinnedLosesLaw}

-- the coarsest has the lesser names
lesser : (sign : Variance) (lines : List Line) (class other : ℕ → ℕ) → IsCoarsestTwinning sign lines class → IsTwinning sign lines other →
    (n : ℕ) → class n ≤ other n
lesser sign lines class other c r n =
    subst (λ k. k ≤ other n) (c.widest other r (other n) n (r.own n)) (c.twins.least (other n))

pub one_twinning_lem : OneTwinningLaw
one_twinning_lem sign lines class other c d n =
    let a : class n ≤ other n = lesser sign lines class other c d.twins n in
    let b : other n ≤ class n = lesser sign lines other class d c.twins n in
    omega arith

pub one_twinned_lem : OneTwinnedLaw
one_twinned_lem sign lines class other c d = λ i. refined (λ n. one_twinning_lem sign lines class other c d n i) lines

-- what has a use is named
pub use_named : (sign : Variance) (lines : List Line) (n : ℕ) (z : Dtv) → Contains lines (use_of sign n z) → NamesBase lines (Exist n)
use_named Co lines n z c = (Sub z (exist n), exist n, c, inr refl, refl)
use_named Contra lines n z c = (Sub (exist n) z, exist n, c, inl refl, refl)

pub leads_named : (sign : Variance) (lines : List Line) (n : ℕ) → LeadsOut sign lines n → NamesBase lines (Exist n)
leads_named sign lines n (ends z c e) = use_named sign lines n z c
leads_named sign lines n (goes_on z m c e rest) = use_named sign lines n z c

-- a base that is left is the name of its class
pub left_own : (lines : List Line) (class : ℕ → ℕ) (n : ℕ) → ((v : ℕ) → class (class v) ≡ class v) → NamesBase (refined class lines) (Exist n) →
    class n ≡ n
left_own lines class n own (l, x, c, h, e) =
    let s : (k : Line) × (y : Dtv) × Contains lines k × HasSide k y × (move class y ≡ x) = refined_sides_lem lines class l x c h in
    let f : moved class s.1.base ≡ Exist n = ap (λ z. z.base) s.4 ∙ e in
    let g : Exist (class n) ≡ Exist n = ap (moved class) (sym f) ∙ moved_twice class own s.1.base ∙ f in
    cc

module _ (sign : Variance) (lines : List Line) (class : ℕ → ℕ) (is : IsTwinning sign lines class) where
  -- the name of the class of an existential that is named is named
  moved_named : (b : Base) → NamesBase lines b → NamesBase lines (moved class b)
  moved_named (Proc n) h = h
  moved_named (Global n) h = h
  moved_named (Outer n) h = h
  moved_named (Exist n) h = by (is.leads (class n) n (is.own n))
    where
      by : (class n ≡ n) ⊎ LeadsOut sign lines (class n) → NamesBase lines (Exist (class n))
      by (inl e) = subst (λ k. NamesBase lines (Exist k)) (sym e) h
      by (inr l) = leads_named sign lines (class n) l

pub twinned_names_lem : TwinnedNamesLaw
twinned_names_lem sign lines class b is (l, x, c, h, e) =
    let s : (k : Line) × (y : Dtv) × Contains lines k × HasSide k y × (move class y ≡ x) = refined_sides_lem lines class l x c h in
    subst (NamesBase lines) (ap (λ z. z.base) s.4 ∙ e) (moved_named sign lines class is s.1.base (s.0, s.1, s.2, s.3, refl))

pub twinned_loses_lem : TwinnedLosesLaw
twinned_loses_lem sign lines class n is apart = (by (is.leads n (class n) (sym (is.own n))), λ h. apart (left_own lines class n is.own h))
  where
    by : (n ≡ class n) ⊎ LeadsOut sign lines n → NamesBase lines (Exist n)
    by (inl e) = absurd (apart (sym e))
    by (inr l) = leads_named sign lines n l
