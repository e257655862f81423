-- Keys of look-ups, as `==` compares them.
use Rattle.std.proofs.Common.{◌≡◌, ℕ, Bool, true, false, nat_eq, refl, sym, ap, subst, ◌∙◌, eq-eqb}
use Rattle.std.specs.Cmp.{IsEquivalence}
use Rattle.std.proofs.lemmas.Bool.{eqb-true, and_parts}
use Rattle.rt_lines.specs.declared.label.Label.{Label}
use Rattle.rt_lines.specs.contracts.label.LabelEq.TheImpl.Laws as label_laws
use Rattle.rt_lines.specs.contracts.variable.BaseEq.TheImpl.Laws as base_laws
use Rattle.rt_lines.specs.Equality.{base_eq, label_eq}
use Rattle.rt_lines.proofs.Equal.{label_equal}
use Rattle.rt_shape.specs.Graphs.{letter_eq}

pub letter_equal : (p q : ℕ × Label) → letter_eq p q ≡ true → p ≡ q
letter_equal p q e =
    let parts = and_parts (nat_eq p.0 q.0) (label_eq p.1 q.1) e in
    let nodes : p.0 ≡ q.0 = eqb-true p.0 q.0 parts.0 in
    let labels : p.1 ≡ q.1 = label_equal p.1 q.1 parts.1 in
    λ i. (nodes i, labels i)

pub letter_self : (p : ℕ × Label) → letter_eq p p ≡ true
letter_self p = rw (eq-eqb p.0 p.0 refl, (label_laws.laws-law).refl p.1) refl

pub base_equivalence : IsEquivalence base_eq
base_equivalence = base_laws.laws-law

-- a test that says which values are one
module _ {K : Type 0} (eq : K → K → Bool) (equal : (x y : K) → eq x y ≡ true → x ≡ y) (self : (x : K) → eq x x ≡ true) where
  at : (b : Bool) (x y : K) → eq x y ≡ b → eq x y ≡ eq y x
  at true x y e = let same : x ≡ y = equal x y e in subst (λ z. eq x z ≡ eq z x) same refl
  at false x y e = other (eq y x) refl
    where
      other : (c : Bool) → eq y x ≡ c → eq x y ≡ eq y x
      other true f = let same : y ≡ x = equal y x f in subst (λ z. eq z y ≡ eq y z) same refl
      other false f = e ∙ sym f

  pub equivalence_from_equal : IsEquivalence eq
  equivalence_from_equal = record {
    refl = self;
    symm = λ x y. at (eq x y) x y refl;
    congr = λ x y z e. ap (λ v. eq v z) (equal x y e);
  }

pub letter_equivalence : IsEquivalence letter_eq
letter_equivalence = equivalence_from_equal letter_eq letter_equal letter_self
