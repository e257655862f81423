-- Lines that use variables, entered one by one.
use Rattle.std.proofs.Common.{◌≡◌, ℕ, ◌+◌, ◌<◌, ◌⊎◌, inl, inr, Bool, true, false, cond, List, Some, length, get_or, refl, sym, ap, subst, ◌∙◌, arith}
use Rattle.std.specs.Map.{lookup}
use Rattle.std.specs.Prelude.{slice_get}
use Rattle.std.proofs.lemmas.Option.{slice_get-get_or}
use Rattle.rt_lines.specs.declared.variable.Dtv.{Dtv}
use Rattle.rt_lines.specs.declared.line.Line.{Line}
use Rattle.rt_lines.specs.declared.line.Line.TheVariants.{Sub}
use Rattle.rt_lines.specs.Equality.{variable_eq}
use Rattle.rt_lines.proofs.Equal.{variable_equal}
use Rattle.rt_lines.proofs.Same.{variable_self}
use Rattle.rt_trim.specs.Trimming.{loaded, HasLoaded, HasUser, AreUsers, AreEntered}

module _ (key : Dtv) (i : ℕ) (old new : List (Dtv × ℕ))
    (updates : (q : Dtv) → lookup (variable_eq q) new ≡ cond (variable_eq key q) (Some i) (lookup (variable_eq q) old)) where
  next : (q : Dtv) → ((key ≡ q) × (lookup (variable_eq q) new ≡ Some i)) ⊎ (lookup (variable_eq q) new ≡ lookup (variable_eq q) old)
  next q = by (variable_eq key q) refl
    where
      by : (b : Bool) → variable_eq key q ≡ b →
          ((key ≡ q) × (lookup (variable_eq q) new ≡ Some i)) ⊎ (lookup (variable_eq q) new ≡ lookup (variable_eq q) old)
      by true e = inl (variable_equal key q e, updates q ∙ ap (λ (b : Bool). cond b (Some i) (lookup (variable_eq q) old)) e)
      by false e = inr (updates q ∙ ap (λ (b : Bool). cond b (Some i) (lookup (variable_eq q) old)) e)

  -- one variable
  pub entered_one : AreEntered (λ (z : Dtv). key ≡ z) i old new
  entered_one = record {
    entered = λ q e. (
      i,
      updates q ∙ ap (λ (b : Bool). cond b (Some i) (lookup (variable_eq q) old))
          (subst (λ (z : Dtv). variable_eq key z ≡ true) e (variable_self key)),
    );
    kept = kept;
    source = source;
  }
    where
      kept : (q : Dtv) → HasUser old q → HasUser new q
      kept q (j, f) = elim (next q) [ inl s ↦ (i, s.1) | inr s ↦ (j, s ∙ f) ]

      source : (q : Dtv) (j : ℕ) → lookup (variable_eq q) new ≡ Some j → (lookup (variable_eq q) old ≡ Some j) ⊎ ((key ≡ q) × (j ≡ i))
      source q j f = elim (next q) [
        | inl s ↦ inr (s.0, (let g : Some j ≡ Some i = sym f ∙ s.1 in cc))
        | inr s ↦ inl (sym s ∙ f)
      ]

-- one after the other
pub entered_chain : (P Q R : Dtv → Type 0) (i : ℕ) (old mid new : List (Dtv × ℕ)) → ((z : Dtv) → R z → P z ⊎ Q z) →
    ((z : Dtv) → P z → R z) → ((z : Dtv) → Q z → R z) → AreEntered P i old mid → AreEntered Q i mid new → AreEntered R i old new
entered_chain P Q R i old mid new back first second are then = record {
  entered = λ z r. elim (back z r) [ inl p ↦ then.kept z (are.entered z p) | inr q ↦ then.entered z q ];
  kept = λ z u. then.kept z (are.kept z u);
  source = λ z j e. elim (then.source z j e) [
    | inl f ↦ elim (are.source z j f) [ inl g ↦ inl g | inr s ↦ inr (first z s.0, s.1) ]
    | inr s ↦ inr (second z s.0, s.1)
  ];
}

-- the sides of lines
pub sub_loaded : (x y z : Dtv) → HasLoaded (Sub x y) z → (loaded x ≡ z) ⊎ (loaded y ≡ z)
sub_loaded x y z (v, inl e, f) = inl (ap loaded e ∙ f)
sub_loaded x y z (v, inr e, f) = inr (ap loaded e ∙ f)

pub sub_first : (x y z : Dtv) → loaded x ≡ z → HasLoaded (Sub x y) z
sub_first x y z e = (x, inl refl, e)

pub sub_second : (x y z : Dtv) → loaded y ≡ z → HasLoaded (Sub x y) z
sub_second x y z e = (y, inr refl, e)

-- one line more
pub users_more : (lines : List Line) (i : ℕ) (l : Line) (old new : List (Dtv × ℕ)) → i < length lines → l ≡ get_or lines i l →
    AreUsers lines i old → AreEntered (HasLoaded l) i old new → AreUsers lines (i + 1) new
users_more lines i l old new less is users are = record { only = only; all = all }
  where
    at : slice_get lines i ≡ Some l
    at = slice_get-get_or lines i l less ∙ ap Some (sym is)

    only : (z : Dtv) (j : ℕ) → lookup (variable_eq z) new ≡ Some j → (m : Line) × (slice_get lines j ≡ Some m) × HasLoaded m z
    only z j e = by (are.source z j e)
      where
        by : (lookup (variable_eq z) old ≡ Some j) ⊎ (HasLoaded l z × (j ≡ i)) → (m : Line) × (slice_get lines j ≡ Some m) × HasLoaded m z
        by (inl f) = users.only z j f
        by (inr (h, f)) = (l, ap (slice_get lines) f ∙ at, h)

    split : (j : ℕ) → j < i + 1 → (j < i) ⊎ (j ≡ i)
    split j h = grind arith

    all : (j : ℕ) (m : Line) (z : Dtv) → j < i + 1 → slice_get lines j ≡ Some m → HasLoaded m z → HasUser new z
    all j m z h a has = by (split j h)
      where
        by : (j < i) ⊎ (j ≡ i) → HasUser new z
        by (inl before) = are.kept z (users.all j m z before a has)
        by (inr e) =
            let both : Some m ≡ Some l = sym a ∙ ap (slice_get lines) e ∙ at in
            let same : m ≡ l = cc in
            are.entered z (subst (λ (k : Line). HasLoaded k z) same has)
