-- Twins have a common bound: some variable lies above both where they are consumed alike, and below both where they are defined alike.
use Rattle.std.proofs.Common.{◌≡◌, ℕ, ◌⊎◌, inl, inr, List, Contains, refl, ap, sym, subst, ◌∙◌}
use Rattle.rt_lines.specs.declared.label.Label.{Label}
use Rattle.rt_lines.specs.declared.label.Variance.{Variance}
use Rattle.rt_lines.specs.declared.label.Variance.TheVariants.{Co, Contra}
use Rattle.rt_lines.specs.declared.variable.Base.{Base}
use Rattle.rt_lines.specs.declared.variable.Base.TheVariants.{Exist}
use Rattle.rt_lines.specs.declared.variable.Dtv.{Dtv}
use Rattle.rt_lines.specs.declared.line.Line.{Line}
use Rattle.rt_lines.specs.declared.line.Line.TheVariants.{Var, Sub}
use Rattle.rt_lines.specs.Words.{times, variance_of_word}
use Rattle.rt_lines.specs.Orders.{Below}
use Rattle.rt_lines.proofs.Signs.{times-co}
use Rattle.rt_rules.specs.Rules.{extended, Derivable}
use Rattle.rt_rules.specs.Rules.Derivable.{named, sub_line, sub_chain}
use Rattle.rt_rules.specs.Put.{exist, use_of}
use Rattle.rt_rules.proofs.Turned.{IsTurned, turned_word}
use Rattle.rt_refine.specs.Refinements.{of_exist}
use Rattle.rt_refine.proofs.Classmates.{AreTwo, variable_cases}
use Rattle.rt_twins.specs.Twinnings.{AreOne, IsEnd, LeadsOut, IsTwinning}
use Rattle.rt_twins.specs.Twinnings.LeadsOut.{ends, goes_on}
use Rattle.rt_twins.proofs.Matching.{match_bare}

module _ (order : Below) (lines : List Line) where
  -- each of the two lies below the variable at Contra, and above it at Co
  pub record HaveBound (sign : Variance) (a b : Dtv) : Type 0 where
    pub bound : Dtv
    pub first : IsTurned order lines sign bound a
    pub second : IsTurned order lines sign bound b

  pub turned_chain : (s : Variance) (x y z : Dtv) → IsTurned order lines s x y → IsTurned order lines s y z → IsTurned order lines s x z
  turned_chain Co x y z d e = sub_chain d e
  turned_chain Contra x y z d e = sub_chain e d

  turned_line : (s : Variance) (n : ℕ) (z : Dtv) → Contains lines (use_of s n z) → IsTurned order lines s z (exist n)
  turned_line Co n z c = sub_line c
  turned_line Contra n z c = sub_line c

  beside_there : (s : Variance) (n : ℕ) (z : Dtv) → Contains lines (use_of s n z) → Derivable order lines (Var z)
  beside_there Co n z c = named (Sub z (exist n)) c (inl refl)
  beside_there Contra n z c = named (Sub (exist n) z) c (inr refl)

  -- beside a longer word that isn't so used itself
  longer_bound : (s : Variance) (u : Dtv) (n : ℕ) (word : List Label) → variance_of_word word ≡ Co → IsTurned order lines s u (exist n) →
      Derivable order lines (Var (of_exist n word)) → IsTurned order lines s (extended u word) (of_exist n word)
  longer_bound s u n word e d there =
      subst (λ t. IsTurned order lines t (extended u word) (of_exist n word)) (ap (times s) e ∙ times-co s)
      (turned_word order lines s u (exist n) word d there)

  of_word : (v : Variance) → (v ≡ Co) ⊎ (v ≡ Contra)
  of_word Co = inl refl
  of_word Contra = inr refl

  module _ (sign : Variance) (class : ℕ → ℕ) (is : IsTwinning sign lines class) where
    abbrev Match : ℕ → Dtv → Type 0
    Match w z = (y : Dtv) × Contains lines (use_of sign w y) × AreOne class (variance_of_word z.word ≡ Contra) y z

    -- of one variable
    of_one : (v w : ℕ) (z y : Dtv) → z ≡ y → Contains lines (use_of sign v z) → Contains lines (use_of sign w y) →
        HaveBound sign (exist v) (exist w)
    of_one v w z y e c d = record {
      bound = z;
      first = turned_line sign v z c;
      second = subst (λ x. IsTurned order lines sign x (exist w)) (sym e) (turned_line sign w y d);
    }

    -- of two that have a bound
    of_two : (v w m n : ℕ) (word : List Label) → Contains lines (use_of sign v (of_exist m word)) → Contains lines (use_of sign w (of_exist n word)) →
        variance_of_word word ≡ Co → HaveBound sign (exist m) (exist n) → HaveBound sign (exist v) (exist w)
    of_two v w m n word c d e h = record {
      bound = extended h.bound word;
      first = turned_chain sign (extended h.bound word) (of_exist m word) (exist v)
          (longer_bound sign h.bound m word e h.first (beside_there sign v (of_exist m word) c)) (turned_line sign v (of_exist m word) c);
      second = turned_chain sign (extended h.bound word) (of_exist n word) (exist w)
          (longer_bound sign h.bound n word e h.second (beside_there sign w (of_exist n word) d)) (turned_line sign w (of_exist n word) d);
    }

    -- an end is alone in its class
    end_alone : (m n : ℕ) (b : Base) → b ≡ Exist m → IsEnd sign lines b → class m ≡ class n → m ≡ n
    end_alone m n b e end f = by (is.leads m n f)
      where
        by : (m ≡ n) ⊎ LeadsOut sign lines m → m ≡ n
        by (inl g) = g
        by (inr (ends z c other)) = absurd (end m z e c)
        by (inr (goes_on z k c g rest)) = absurd (end m z e c)

    pub bounded : (v : ℕ) → LeadsOut sign lines v → (w : ℕ) → class v ≡ class w → HaveBound sign (exist v) (exist w)
    bounded v (ends z c end) w e = by (match_bare sign lines class is v w z e c)
      where
        by : Match w z → HaveBound sign (exist v) (exist w)
        by (y, d, one) = of_one v w z y (alone (variable_cases class z y (sym one.but_for))) c d
          where
            alone : (z ≡ y) ⊎ AreTwo class z y → z ≡ y
            alone (inl f) = f
            alone (inr t) =
                let g : t.v ≡ t.w = end_alone t.v t.w z.base (ap (λ x. x.base) t.first) end t.one in
                t.first ∙ ap (λ n. of_exist n t.word) g ∙ sym t.second
    bounded v (goes_on z m c f rest) w e = by (λ n g. bounded m rest n g) (match_bare sign lines class is v w z e c)
      where
        by : ((n : ℕ) → class m ≡ class n → HaveBound sign (exist m) (exist n)) → Match w z → HaveBound sign (exist v) (exist w)
        by go (y, d, one) = cases (of_word (variance_of_word z.word)) (variable_cases class z y (sym one.but_for))
          where
            cases : (variance_of_word z.word ≡ Co) ⊎ (variance_of_word z.word ≡ Contra) → (z ≡ y) ⊎ AreTwo class z y →
                HaveBound sign (exist v) (exist w)
            cases (inr g) t = of_one v w z y (sym (one.exact g)) c d
            cases (inl g) (inl h) = of_one v w z y h c d
            cases (inl g) (inr t) =
                let h : Exist t.v ≡ Exist m = sym (ap (λ x. x.base) t.first) ∙ f in
                let i : t.v ≡ m = cc in
                of_two v w t.v t.w t.word (subst (λ x. Contains lines (use_of sign v x)) t.first c)
                (subst (λ x. Contains lines (use_of sign w x)) t.second d) (subst (λ x. variance_of_word x.word ≡ Co) t.first g)
                (subst (λ n. HaveBound sign (exist n) (exist t.w)) (sym i) (go t.w (ap class (sym i) ∙ t.one)))

    -- members of one class are one, or have a bound
    pub one_or_bounded : (v w : ℕ) → class v ≡ class w → (v ≡ w) ⊎ HaveBound sign (exist v) (exist w)
    one_or_bounded v w e = by (is.leads v w e)
      where
        by : (v ≡ w) ⊎ LeadsOut sign lines v → (v ≡ w) ⊎ HaveBound sign (exist v) (exist w)
        by (inl f) = inl f
        by (inr l) = inr (bounded v l w e)
