-- Lists without `same` lines derive what the paper's rules over derived variables derive.
use Rattle.std.proofs.Common.{◌≡◌, ◌↔◌, ℕ, List, [], ◌∷◌, refl, sym, subst}
use Rattle.rt_lines.specs.declared.label.Label.{Label}
use Rattle.rt_lines.specs.declared.label.Variance.{Variance}
use Rattle.rt_lines.specs.declared.label.Variance.TheVariants.{Co, Contra}
use Rattle.rt_lines.specs.declared.variable.Dtv.{Dtv}
use Rattle.rt_lines.specs.declared.line.Line.{Line}
use Rattle.rt_lines.specs.declared.line.Line.TheVariants.{Var, Same, Sub, Low, Up}
use Rattle.rt_lines.specs.Words.{label_variance}
use Rattle.rt_lines.specs.Orders.{Below}
use Rattle.rt_rules.specs.Rules.{longer, extended, Derivable}
use Rattle.rt_rules.specs.Rules.Derivable.{named, prefix, left_side, right_side, same_letter, same_line, same_sub, same_self, same_back, same_chain, same_longer, sub_line, sub_self, sub_chain, sub_co, sub_contra, sub_pointer, low_line, up_line, low_sub, up_sub}
use Rattle.rt_rules.specs.Paper.{InPaper, IsPaperLow, IsPaperUp, HasNoSame, WithoutSameVar, WithoutSameSub, WithoutSameLow, WithoutSameUp}
use Rattle.rt_rules.specs.Paper.InPaper.{paper_named, paper_prefix, paper_left_side, paper_right_side, paper_up, paper_down, paper_sub_line, paper_sub_self, paper_sub_chain, paper_sub_co, paper_sub_contra, paper_sub_pointer}
use Rattle.rt_rules.specs.Paper.IsPaperLow.{paper_low_line, paper_low_sub}
use Rattle.rt_rules.specs.Paper.IsPaperUp.{paper_up_line, paper_up_sub}
use Rattle.rt_rules.proofs.Covering.{extended-nil, extended-cons}

-- the paper's rules are rules, or two of them
pub from_paper : (order : Below) (lines : List Line) {j : Line} → InPaper lines j → Derivable order lines j
from_paper order lines (paper_named l c h) = named l c h
from_paper order lines (paper_prefix l d) = prefix l (from_paper order lines d)
from_paper order lines (paper_left_side d) = left_side (from_paper order lines d)
from_paper order lines (paper_right_side d) = right_side (from_paper order lines d)
from_paper order lines (paper_up l d e) = same_letter l (same_sub (from_paper order lines d)) (from_paper order lines e)
from_paper order lines (paper_down l d e) = same_letter l (same_back (same_sub (from_paper order lines d))) (from_paper order lines e)
from_paper order lines (paper_sub_line c) = sub_line c
from_paper order lines (paper_sub_self d) = sub_self (from_paper order lines d)
from_paper order lines (paper_sub_chain d e) = sub_chain (from_paper order lines d) (from_paper order lines e)
from_paper order lines (paper_sub_co l d e s) = sub_co l (from_paper order lines d) (from_paper order lines e) s
from_paper order lines (paper_sub_contra l d e s) = sub_contra l (from_paper order lines d) (from_paper order lines e) s
from_paper order lines (paper_sub_pointer x d e) = sub_pointer x (from_paper order lines d) (from_paper order lines e)

pub low_from_paper : (order : Below) (lines : List Line) {k : ℕ} {x : Dtv} → IsPaperLow order lines k x → Derivable order lines (Low k x)
low_from_paper order lines (paper_low_line c) = low_line c
low_from_paper order lines (paper_low_sub d e a) = low_sub (low_from_paper order lines d) (from_paper order lines e) a

pub up_from_paper : (order : Below) (lines : List Line) {x : Dtv} {k : ℕ} → IsPaperUp order lines x k → Derivable order lines (Up x k)
up_from_paper order lines (paper_up_line c) = up_line c
up_from_paper order lines (paper_up_sub d e a) = up_sub (from_paper order lines d) (up_from_paper order lines e) a

module _ (lines : List Line) where
  -- the two have the word or both have it not
  abbrev IsLinkedAt : List Label → Dtv → Dtv → Type 0
  IsLinkedAt w x y = InPaper lines (Var (extended x w)) ↔ InPaper lines (Var (extended y w))

  -- each of the two has the words of the other
  abbrev IsLinked : Dtv → Dtv → Type 0
  IsLinked x y = (w : List Label) → IsLinkedAt w x y

  to_word : (x : Dtv) (l : Label) (w : List Label) → InPaper lines (Var (extended (longer x l) w)) → InPaper lines (Var (extended x (l ∷ w)))
  to_word x l w d = subst (λ v. InPaper lines (Var v)) (extended-cons x l w) d

  from_word : (x : Dtv) (l : Label) (w : List Label) → InPaper lines (Var (extended x (l ∷ w))) → InPaper lines (Var (extended (longer x l) w))
  from_word x l w d = subst (λ v. InPaper lines (Var v)) (sym (extended-cons x l w)) d

  paper_front : (x : Dtv) (w : List Label) → InPaper lines (Var (extended x w)) → InPaper lines (Var x)
  paper_front x [] d = subst (λ v. InPaper lines (Var v)) (extended-nil x) d
  paper_front x (l ∷ w) d = paper_prefix l (paper_front (longer x l) w (from_word x l w d))

  linked_letter : (x y : Dtv) (l : Label) (w : List Label) (s : Variance) → label_variance l ≡ s → InPaper lines (Sub x y) → InPaper lines (Var (longer y l)) →
      ((u v : Dtv) → InPaper lines (Sub u v) → IsLinkedAt w u v) → IsLinkedAt w (longer x l) (longer y l)
  linked_letter x y l w Co e d f linked = linked (longer x l) (longer y l) (paper_sub_co l d f e)
  linked_letter x y l w Contra e d f linked = let k = linked (longer y l) (longer x l) (paper_sub_contra l d f e) in (k.1, k.0)

  -- what lies below something has its words, and the other way round
  linked_sub : (w : List Label) (x y : Dtv) → InPaper lines (Sub x y) → IsLinkedAt w x y
  linked_sub [] x y d = (λ e. rw (extended-nil y) (paper_right_side d), λ e. rw (extended-nil x) (paper_left_side d))
  linked_sub (l ∷ w) x y d =
      let next : InPaper lines (Var (longer y l)) → IsLinkedAt w (longer x l) (longer y l) = λ f. linked_letter x y l w (label_variance l) refl d f (linked_sub w) in (
        λ e. let e' = from_word x l w e in to_word y l w ((next (paper_up l d (paper_front (longer x l) w e'))).0 e'),
        λ e. let e' = from_word y l w e in to_word x l w ((next (paper_front (longer y l) w e')).1 e'),
      )

  module _ (order : Below) (none : HasNoSame lines) where
    -- what a judgement tells of the paper's
    abbrev IsTold : Line → Type 0
    IsTold (Var x) = InPaper lines (Var x)
    IsTold (Same x y) = IsLinked x y
    IsTold (Sub x y) = InPaper lines (Sub x y)
    IsTold (Low k x) = IsPaperLow order lines k x
    IsTold (Up x k) = IsPaperUp order lines x k

    pub told : {j : Line} → Derivable order lines j → IsTold j
    told (named l c h) = paper_named l c h
    told (prefix l d) = paper_prefix l (told d)
    told (left_side d) = paper_left_side (told d)
    told (right_side d) = paper_right_side (told d)
    told (same_letter l d e) = (told d (l ∷ [])).0 (told e)
    told (same_line {x = x} {y = y} c) = absurd (none x y c)
    told (same_sub {x = x} {y = y} d) = λ w. linked_sub w x y (told d)
    told (same_self d) = λ w. (λ e. e, λ e. e)
    told (same_back d) = λ w. let k = told d w in (k.1, k.0)
    told (same_chain d e) = λ w. (λ f. (told e w).0 ((told d w).0 f), λ f. (told d w).1 ((told e w).1 f))
    told (same_longer {x = x} {y = y} l d e) = λ w. (λ f. from_word y l w ((told d (l ∷ w)).0 (to_word x l w f)), λ f. from_word x l w ((told d (l ∷ w)).1 (to_word y l w f)))
    told (sub_line c) = paper_sub_line c
    told (sub_self d) = paper_sub_self (told d)
    told (sub_chain d e) = paper_sub_chain (told d) (told e)
    told (sub_co l d e s) = paper_sub_co l (told d) (told e) s
    told (sub_contra l d e s) = paper_sub_contra l (told d) (told e) s
    told (sub_pointer x d e) = paper_sub_pointer x (told d) (told e)
    told (low_line c) = paper_low_line c
    told (up_line c) = paper_up_line c
    told (low_sub d e a) = paper_low_sub (told d) (told e) a
    told (up_sub d e a) = paper_up_sub (told d) (told e) a

pub without_same_var : WithoutSameVar
without_same_var order lines x none = (told lines order none, from_paper order lines)

pub without_same_sub : WithoutSameSub
without_same_sub order lines x y none = (told lines order none, from_paper order lines)

pub without_same_low : WithoutSameLow
without_same_low order lines k x none = (told lines order none, low_from_paper order lines)

pub without_same_up : WithoutSameUp
without_same_up order lines x k none = (told lines order none, up_from_paper order lines)
