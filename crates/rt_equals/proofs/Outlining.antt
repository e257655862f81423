-- Numbers by arcs, where those from outside and from inside agree.
use Rattle.std.proofs.Common.{◌≡◌, ℕ, ◌<◌, inl, inr, List, [], Contains, length, get_or, sym, subst, ◌∙◌}
use Rattle.std.proofs.lemmas.List.{get_or_default}
use Rattle.rt_base.proofs.Lists.{Contains-none}
use Rattle.rt_lines.specs.declared.variable.Dtv.{Dtv}
use Rattle.rt_lines.specs.declared.line.Line.{Line}
use Rattle.rt_lines.specs.declared.line.Line.TheVariants.{Var, Sub}
use Rattle.rt_lines.specs.Orders.{Below}
use Rattle.rt_rules.specs.Rules.{Derivable}
use Rattle.rt_rules.specs.Rules.Derivable.{named as side, sub_self}
use Rattle.rt_rules.proofs.Covering.{front}
use Rattle.rt_named.specs.Naming.{named as named_by}
use Rattle.rt_named.specs.Origins.{no_variable}
use Rattle.rt_named.specs.Laws.{IsGiven, IsPrefix}
use Rattle.rt_named.proofs.Contents.{contents_law}
use Rattle.rt_outline.specs.Equal.{AreInnerEquals, AreOuterEquals}
use Rattle.rt_outline.specs.Lines.{Lined}
use Rattle.rt_equals.specs.Comparing.{Agree, AreEquals}
use Rattle.rt_sat.specs.Numbered.{at_number}

-- what lines name exists
pub there : (order : Below) (lines : List Line) (x : Dtv) → Contains (named_by lines []) x → Derivable order lines (Var x)
there order lines x c = by ((contents_law lines [] x).0 c)
  where
    by : (y : Dtv) × IsGiven lines [] y × IsPrefix x y → Derivable order lines (Var x)
    by (y, inl (l, d, h), (w, e)) = front order lines x w (subst (λ z. Derivable order lines (Var z)) (sym e) (side l d h))
    by (y, inr d, p) = absurd (Contains-none y d)

-- numbers that are all different are those of equals
pub apart_inner : (lines : List Line) (numbers : List ℕ) → length numbers ≡ length (named_by lines []) →
    ((i : ℕ) → i < length (named_by lines []) → get_or numbers i 0 ≡ i) → AreInnerEquals lines (named_by lines []) numbers
apart_inner lines numbers e own = record {
  each = e;
  only = λ order i j h k f. (
      let same : i ≡ j = sym (own i h) ∙ f ∙ own j k in
      let self : Derivable order lines (Sub (at_number (named_by lines []) i) (at_number (named_by lines []) i)) =
      sub_self (there order lines (at_number (named_by lines []) i)
      (i, h, get_or_default (named_by lines []) i (at_number (named_by lines []) i) no_variable h)) in (
        subst (λ n. Derivable order lines (Sub (at_number (named_by lines []) i) (at_number (named_by lines []) n))) same self,
        subst (λ n. Derivable order lines (Sub (at_number (named_by lines []) n) (at_number (named_by lines []) i))) same self,
      )
      );
}

-- where they agree the outer ones are exact
pub exact : (lines : List Line) (known : List Dtv) (count : ℕ) (outer inner : List ℕ) → AreOuterEquals lines known count outer →
    AreInnerEquals lines known inner → Agree known outer inner → AreEquals lines known outer
exact lines known count outer inner out within agree = record {
  each = out.each;
  equal = λ order i j h k existential. (λ e. within.only order i j h k (agree i j h k existential e), λ d. out.all order i j h k d);
}

-- the same of what contracts see
pub inner_of : (lines : List Line) (known : List Dtv) (view : Lined) (numbers : List ℕ) → view ≡ record { lines = lines; named = named_by lines [] } →
    known ≡ named_by lines [] → AreInnerEquals view.lines view.named numbers → AreInnerEquals lines known numbers
inner_of lines known view numbers e f are =
    subst (λ xs. AreInnerEquals lines xs numbers) (sym f) (subst (λ (v : Lined). AreInnerEquals v.lines v.named numbers) e are)

pub outer_of : (lines : List Line) (known : List Dtv) (view : Lined) (count : ℕ) (numbers : List ℕ) → view ≡ record { lines = lines; named = named_by lines [] } →
    known ≡ named_by lines [] → AreOuterEquals view.lines view.named count numbers → AreOuterEquals lines known count numbers
outer_of lines known view count numbers e f are =
    subst (λ xs. AreOuterEquals lines xs count numbers) (sym f) (subst (λ (v : Lined). AreOuterEquals v.lines v.named count numbers) e are)
