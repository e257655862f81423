-- Existentials that equal other variables give their places to them: the outside derives the same loosely.
use Rattle.std.proofs.Common.{◌≡◌, ℕ, ◌⊎◌, inl, inr, List, Contains, Bool, true, refl, sym, subst}
use Rattle.rt_base.proofs.Lists.{Contains-map, Contains-map_source}
use Rattle.rt_lines.specs.declared.label.Label.{Label}
use Rattle.rt_lines.specs.declared.label.Variance.{Variance}
use Rattle.rt_lines.specs.declared.label.Variance.TheVariants.{Co, Contra}
use Rattle.rt_lines.specs.declared.variable.Base.{Base}
use Rattle.rt_lines.specs.declared.variable.Base.TheVariants.{Exist}
use Rattle.rt_lines.specs.declared.variable.Dtv.{Dtv}
use Rattle.rt_lines.specs.declared.line.Line.{Line}
use Rattle.rt_lines.specs.declared.line.Line.TheVariants.{Var, Same, Sub, Low, Up}
use Rattle.rt_lines.specs.Words.{variance_of_word}
use Rattle.rt_lines.specs.Orders.{Below}
use Rattle.rt_rules.specs.Rules.{extended, HasSide}
use Rattle.rt_loose.specs.Loose.{Loosely}
use Rattle.rt_loose.specs.Loose.Loosely.{left_side, same_line, same_sub, same_chain, sub_line, sub_self, sub_chain, low_line, up_line}
use Rattle.rt_loose.specs.Loose.Loosely.{low_sub, up_sub}
use Rattle.rt_rules.specs.Alike.{map_line}
use Rattle.rt_marks.specs.Outsides.{LooselyCovers, LooselyAlike}
use Rattle.rt_rules.specs.Put.{exist, put, put_lines}
use Rattle.rt_marks.proofs.Carrying.{given, side}
use Rattle.rt_marks.proofs.Covering.{covers_by, covers_lines, loosely-refl, loosely-trans}
use Rattle.rt_rules.proofs.Renaming.{one_base}
use Rattle.rt_marks.proofs.Turned.{IsTurned, same_word, turned_word}
use Rattle.rt_polar.specs.Tidied.{tidied}
use Rattle.rt_loose.proofs.Loosely.{embed}
use Rattle.rt_marks.proofs.Tidying.{alike_tidied}
use Rattle.rt_polar.proofs.Exchanging.{put-apart, put-own}
use Rattle.rt_reduction.specs.Merges.{Merges}
use Rattle.rt_reduction.specs.Merges.Merges.{none_left, merges}
use Rattle.rt_marks.specs.Laws.{MergesAlikeLaw}
use Rattle.rt_reduction.proofs.Placing.{put-longer, not_outside}

module _ (order : Below) (lines : List Line) (n : ℕ) (z : Dtv) (above : Loosely order lines (Sub (exist n) z))
    (below : Loosely order lines (Sub z (exist n))) where
  abbrev IsNear : Dtv → Dtv → Type 0
  IsNear x y = Loosely order lines (Sub y x) × Loosely order lines (Sub x y)

  near_by : (v : Variance) (x y : Dtv) → IsTurned order lines v y x → IsTurned order lines v x y → IsNear x y
  near_by Co x y d e = (d, e)
  near_by Contra x y d e = (e, d)

  near_word : (w : List Label) → Loosely order lines (Var (extended (exist n) w)) → IsNear (extended (exist n) w) (extended z w)
  near_word w d =
      let s : Loosely order lines (Same (extended (exist n) w) (extended z w)) = same_word order lines (exist n) z w (same_sub above) d in
      near_by (variance_of_word w) (extended (exist n) w) (extended z w) (turned_word order lines Co z (exist n) w below d)
      (turned_word order lines Co (exist n) z w above (side order lines (Same (extended (exist n) w) (extended z w)) (extended z w) s
      (inr refl)))

  -- a variable and what becomes of it lie below each other
  pub near : (x : Dtv) → Loosely order lines (Var x) → IsNear x (put n z x)
  near x d = by (one_base x.base (Exist n))
    where
      own : x.base ≡ Exist n → extended (exist n) x.word ≡ x
      own e = λ i. record { base = sym e i; word = x.word }

      by : (x.base ≡ Exist n) ⊎ (x.base ≡ Exist n → ⊥) → IsNear x (put n z x)
      by (inl e) =
          subst (λ y. IsNear y (put n z x)) (own e)
          (subst (IsNear (extended (exist n) x.word)) (sym (put-own n z x e))
          (near_word x.word (subst (λ y. Loosely order lines (Var y)) (sym (own e)) d)))
      by (inr apart) = subst (IsNear x) (sym (put-apart n z x apart)) (sub_self d, sub_self d)

  near_side : (l : Line) (x : Dtv) → Contains lines l → HasSide l x → IsNear x (put n z x)
  near_side l x c h = near x (side order lines l x (given order lines l c) h)

  -- what becomes of each line is derivable
  put_derives : (l : Line) → Contains lines l → Loosely order lines (map_line (put n z) l)
  put_derives (Var x) c = left_side (near_side (Var x) x c refl).0
  put_derives (Same x y) c = same_chain (same_sub (near_side (Same x y) x c (inl refl)).0)
      (same_chain (same_line c) (same_sub (near_side (Same x y) y c (inr refl)).1))
  put_derives (Sub x y) c = sub_chain (near_side (Sub x y) x c (inl refl)).0 (sub_chain (sub_line c) (near_side (Sub x y) y c (inr refl)).1)
  put_derives (Low k x) c = low_sub (low_line c) (near_side (Low k x) x c refl).1 (inl refl)
  put_derives (Up x k) c = up_sub (near_side (Up x k) x c refl).0 (up_line c) (inl refl)

  module _ (inside : Base → Bool) (inner : inside (Exist n) ≡ true) where
    forth : LooselyCovers order inside lines (put_lines n z lines)
    forth = covers_by order inside lines (put_lines n z lines) (put n z) (put-longer n z)
        (λ x out. put-apart n z x (not_outside inside x.base (Exist n) out inner))
        (λ l c. given order (put_lines n z lines) (map_line (put n z) l) (Contains-map (map_line (put n z)) lines l c))

    back_line : (k : Line) → (l : Line) × Contains lines l × (map_line (put n z) l ≡ k) → Loosely order lines k
    back_line k (l, c, e) = subst (Loosely order lines) e (put_derives l c)

    pub alike_equal : LooselyAlike order inside lines (put_lines n z lines)
    alike_equal = (
      forth,
      covers_lines order inside (put_lines n z lines) lines
          (λ k c. back_line k (Contains-map_source (map_line (put n z)) lines k c)),
    )

alike_by : (order : Below) (inside : Base → Bool) (left start : List Line) → ((n : ℕ) → inside (Exist n) ≡ true) →
    Merges order left start → LooselyAlike order inside start left
alike_by order inside left start inner (none_left none) = loosely-refl order inside left
alike_by order inside left start inner (merges n z now merge rest) =
    loosely-trans order inside now (put_lines n z now) left (alike_equal order now n z (embed order now merge.equal.above) (embed order now merge.equal.below) inside (inner n))
    (loosely-trans order inside (put_lines n z now) (tidied (put_lines n z now)) left (alike_tidied order inside (put_lines n z now))
    (alike_by order inside left (tidied (put_lines n z now)) inner rest))

pub merges_alike_lem : MergesAlikeLaw
merges_alike_lem order inside start left inner m = alike_by order inside left start inner m
