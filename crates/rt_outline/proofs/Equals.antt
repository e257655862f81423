-- Classes of variables by arcs.
use Rattle.std.proofs.Common.{◌≡◌, ℕ, ◌<◌, ◌≤◌, Bool, true, false, List, length, get_or, take, sym, ap, subst, ◌∙◌, arith}
use Rattle.std.proofs.lemmas.List.{get_or-take, length-take-le}
use Rattle.rt_lines.specs.declared.variable.Dtv.{Dtv}
use Rattle.rt_lines.specs.declared.line.Line.{Line}
use Rattle.rt_lines.specs.declared.line.Line.TheVariants.{Sub}
use Rattle.rt_lines.specs.Orders.{Below}
use Rattle.rt_rules.specs.Rules.{Derivable}
use Rattle.rt_components.specs.Groups.{Reaches}
use Rattle.rt_outline.specs.declared.arc.Arc.{Arc}
use Rattle.rt_outline.specs.Arcs.{Leads}
use Rattle.rt_outline.specs.Enclosing.{IsInner, IsOuter}
use Rattle.rt_outline.specs.Equal.{AreInnerEquals, AreOuterEquals}
use Rattle.rt_outline.specs.Frames.{variable_at}
use Rattle.rt_outline.specs.Lines.{Lined}
use Rattle.rt_outline.specs.Together.{AreTogetherBy}
use Rattle.rt_outline.proofs.Standing.{standing_whole}

-- by inner arcs
pub inner_equals : (lines : List Line) (named : List Dtv) (arcs : List (List Arc)) (stands : List Bool) (numbers : List ℕ) →
    IsInner lines named arcs stands → length arcs ≡ length named → AreTogetherBy (Leads arcs stands true) (length arcs) numbers →
    AreInnerEquals lines named numbers
inner_equals lines named arcs stands numbers inner size are = record {
  each = are.each ∙ size;
  only = λ order i j h k e. (let p = (are.equal i j (subst (λ n. i < n) (sym size) h) (subst (λ n. j < n) (sym size) k)).0 e in
      (inner order i j h k p.0, inner order j i k h p.1));
}

pub inner_view : (lines : List Line) (named : List Dtv) (view : Lined) (numbers : List ℕ) →
    record { lines = lines; named = named } ≡ view → AreInnerEquals lines named numbers → AreInnerEquals view.lines view.named numbers
inner_view lines named view numbers e are = subst (λ (v : Lined). AreInnerEquals v.lines v.named numbers) e are

-- by outer arcs, of which the nodes after the variables are left out
pub outer_equals : (lines : List Line) (named : List Dtv) (arcs : List (List Arc)) (stands : List Bool) (count : ℕ) (numbers cut : List ℕ) → IsOuter lines named arcs →
    ((i : ℕ) → i < length lines → get_or stands i false ≡ true) → length named ≤ length arcs → AreTogetherBy (Leads arcs stands true) (length arcs) numbers →
    ((v : ℕ) → v < length arcs → get_or numbers v 0 < count) → cut ≡ take (length named) numbers → AreOuterEquals lines named count cut
outer_equals lines named arcs stands count numbers cut outer whole size are few is = record {
  each = ap length is ∙ length-take-le (length named) numbers (omega (arith, size, are.each));
  few = λ i h. subst (λ n. n < count) (sym (at i h)) (few i (omega (arith, h, size)));
  all = λ order i j h k e. at i h ∙ (are.equal i j (omega (arith, h, size)) (omega (arith, k, size))).1 (reach order i j h k e.0, reach order j i k h e.1) ∙ sym (at j k);
}
  where
    at : (i : ℕ) → i < length named → get_or cut i 0 ≡ get_or numbers i 0
    at i h = ap (λ (xs : List ℕ). get_or xs i 0) is ∙ get_or-take (length named) numbers i 0 h

    reach : (order : Below) (i j : ℕ) → i < length named → j < length named → Derivable order lines (Sub (variable_at named i) (variable_at named j)) → Reaches (Leads arcs stands true) i j
    reach order i j h k d = outer order stands i j h k (subst (λ ls. Derivable order ls (Sub (variable_at named i) (variable_at named j))) (sym (standing_whole lines stands whole)) d)

pub outer_view : (lines : List Line) (named : List Dtv) (view : Lined) (count : ℕ) (numbers : List ℕ) →
    record { lines = lines; named = named } ≡ view → AreOuterEquals lines named count numbers → AreOuterEquals view.lines view.named count numbers
outer_view lines named view count numbers e are = subst (λ (v : Lined). AreOuterEquals v.lines v.named count numbers) e are
