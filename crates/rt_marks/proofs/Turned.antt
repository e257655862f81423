-- Variables with more letters: one shape carries over, and one loose order, turned round by the letters' signs.
use Rattle.std.proofs.Common.{◌≡◌, inr, List, [], ◌∷◌, refl, sym, subst}
use Rattle.rt_lines.specs.declared.label.Label.{Label}
use Rattle.rt_lines.specs.declared.label.Variance.{Variance}
use Rattle.rt_lines.specs.declared.label.Variance.TheVariants.{Co, Contra}
use Rattle.rt_lines.specs.declared.variable.Dtv.{Dtv}
use Rattle.rt_lines.specs.declared.line.Line.{Line}
use Rattle.rt_lines.specs.declared.line.Line.TheVariants.{Var, Same, Sub}
use Rattle.rt_lines.specs.Words.{label_variance, times, variance_of_word}
use Rattle.rt_lines.specs.Orders.{Below}
use Rattle.rt_rules.specs.Rules.{longer, extended}
use Rattle.rt_loose.specs.Loose.{Loosely}
use Rattle.rt_loose.specs.Loose.Loosely.{same_sub, same_back, same_longer, sub_self, sub_co, sub_contra}
use Rattle.rt_rules.proofs.Covering.{extended-nil, extended-cons}
use Rattle.rt_marks.proofs.Carrying.{side}
use Rattle.rt_rules.proofs.Covering.{extended-nil, extended-cons}
use Rattle.rt_marks.proofs.Covering.{front}

module _ (order : Below) (lines : List Line) where
  -- below at Co, above at Contra
  abbrev pub IsTurned : Variance → Dtv → Dtv → Type 0
  IsTurned Co x y = Loosely order lines (Sub x y)
  IsTurned Contra x y = Loosely order lines (Sub y x)

  pub same_word : (x y : Dtv) (w : List Label) → Loosely order lines (Same x y) → Loosely order lines (Var (extended x w)) → Loosely order lines (Same (extended x w) (extended y w))
  same_word x y [] d e = rw (extended-nil x, extended-nil y) d
  same_word x y (l ∷ w) d e =
      let e' : Loosely order lines (Var (extended (longer x l) w)) = subst (λ v. Loosely order lines (Var v)) (sym (extended-cons x l w)) e in
      let s : Loosely order lines (Same (extended (longer x l) w) (extended (longer y l) w)) = same_word (longer x l) (longer y l) w (same_longer l d (front order lines (longer x l) w e')) e' in
      rw (extended-cons x l w, extended-cons y l w) at s

  turned_contra : (v : Variance) (x y : Dtv) → IsTurned v x y → IsTurned (times Contra v) y x
  turned_contra Co x y d = d
  turned_contra Contra x y d = d

  sub_word_by : (x y : Dtv) (l : Label) (s v : Variance) (x' y' : Dtv) → label_variance l ≡ s → (label_variance l ≡ Co → IsTurned v x' y') → (label_variance l ≡ Contra → IsTurned v y' x') → IsTurned (times s v) x' y'
  sub_word_by x y l Co v x' y' e co contra = co e
  sub_word_by x y l Contra v x' y' e co contra = turned_contra v y' x' (contra e)

  pub sub_word : (x y : Dtv) (w : List Label) → Loosely order lines (Sub x y) → Loosely order lines (Var (extended y w)) → IsTurned (variance_of_word w) (extended x w) (extended y w)
  sub_word x y [] d e = rw (extended-nil x, extended-nil y) d
  sub_word x y (l ∷ w) d e =
      let e' : Loosely order lines (Var (extended (longer y l) w)) = subst (λ v. Loosely order lines (Var v)) (sym (extended-cons y l w)) e in
      let there : Loosely order lines (Var (longer y l)) = front order lines (longer y l) w e' in
      let f : Loosely order lines (Same (extended (longer y l) w) (extended (longer x l) w)) = same_word (longer y l) (longer x l) w (same_longer l (same_back (same_sub d)) there) e' in
      let t : IsTurned (times (label_variance l) (variance_of_word w)) (extended (longer x l) w) (extended (longer y l) w) =
      sub_word_by x y l (label_variance l) (variance_of_word w) (extended (longer x l) w) (extended (longer y l) w) refl
      (λ co. sub_word (longer x l) (longer y l) w (sub_co l d there co) e')
      (λ contra. sub_word (longer y l) (longer x l) w (sub_contra l d there contra) (side order lines _ (extended (longer x l) w) f (inr refl))) in
      rw (extended-cons x l w, extended-cons y l w) at t

  -- the same for variables that are in either order
  pub turned_word : (s : Variance) (x y : Dtv) (w : List Label) → IsTurned s x y → Loosely order lines (Var (extended y w)) → IsTurned (times s (variance_of_word w)) (extended x w) (extended y w)
  turned_word Co x y w d e = sub_word x y w d e
  turned_word Contra x y w d e =
      let f : Loosely order lines (Same (extended y w) (extended x w)) = same_word y x w (same_sub d) e in
      turned_contra (variance_of_word w) (extended y w) (extended x w) (sub_word y x w d (side order lines _ (extended x w) f (inr refl)))

  pub turned_self : (v : Variance) (x : Dtv) → Loosely order lines (Var x) → IsTurned v x x
  turned_self Co x d = sub_self d
  turned_self Contra x d = sub_self d

  pub same_turned : (v : Variance) (x y : Dtv) → IsTurned v x y → Loosely order lines (Same x y)
  same_turned Co x y d = same_sub d
  same_turned Contra x y d = same_back (same_sub d)
