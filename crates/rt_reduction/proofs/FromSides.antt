-- Sides of the lines that each step leaves come from sides of the lines before it.
use Rattle.std.proofs.Common.{◌≡◌, ◌≢◌, ℕ, ◌⊎◌, inl, inr, List, [], ◌∷◌, ◌++◌, map, Contains, Bool, true, false, cond, refl, sym}
use Rattle.std.proofs.Common.{subst, ◌∙◌}
use Rattle.rt_base.proofs.Lists.{Contains-map_source, Contains-middle, Contains-wider, Contains-middle_cases}
use Rattle.rt_lines.specs.declared.label.Label.{Label}
use Rattle.rt_lines.specs.declared.label.Variance.{Variance}
use Rattle.rt_lines.specs.declared.label.Variance.TheVariants.{Co, Contra}
use Rattle.rt_lines.specs.declared.variable.Base.{Base}
use Rattle.rt_lines.specs.declared.variable.Base.TheVariants.{Proc, Global, Exist, Outer}
use Rattle.rt_lines.specs.declared.variable.Dtv.{Dtv}
use Rattle.rt_lines.specs.declared.line.Line.{Line}
use Rattle.rt_lines.specs.declared.line.Line.TheVariants.{Var, Same, Sub, Low, Up}
use Rattle.rt_lines.specs.Equality.{variable_eq}
use Rattle.rt_lines.specs.Orders.{Below}
use Rattle.rt_lines.proofs.Deduplicating.{deduplicated-source}
use Rattle.rt_rules.specs.Rules.{HasSide}
use Rattle.rt_rules.specs.Alike.{map_line}
use Rattle.rt_rules.specs.Laws.{NamesBase}
use Rattle.rt_rules.specs.Put.{put, put_lines, use_of}
use Rattle.rt_rules.proofs.LineSides.{HasSide-map_line_source}
use Rattle.rt_rules.proofs.Renaming.{one_base}
use Rattle.rt_refine.specs.Refinements.{moved, move, refined}
use Rattle.rt_refine.proofs.OneCoarsest.{refined_sides_lem}
use Rattle.rt_polar.specs.Puts.{Exchanges, Puts}
use Rattle.rt_polar.specs.Puts.Exchanges.{goes, exists_still}
use Rattle.rt_polar.specs.Puts.Puts.{none_left, puts}
use Rattle.rt_polar.specs.Tidied.{without_self, tidied}
use Rattle.rt_polar.proofs.Exchanging.{put-apart, put-own}
use Rattle.rt_reduction.specs.Simplifies.{Simplifies, simple, twins_go}
use Rattle.rt_reduction.specs.Merges.{Merges}
use Rattle.rt_reduction.specs.Merges.Merges.{none_left as no_merge, merges}
use Rattle.rt_reduction.specs.Emits.{IsOfScheme, AreOfScheme}
use Rattle.rt_reduction.proofs.Simplifying.{twinned_lines}

abbrev pub IsSideOf : List Line → Dtv → Type 0
IsSideOf lines x = (l : Line) × Contains lines l × HasSide l x

-- a variable of an existential, or of the base of a side, and no procedure itself where the side is none
abbrev pub IsFrom : List Line → Dtv → Type 0
IsFrom lines x = ((n : ℕ) × (x.base ≡ Exist n)) ⊎ ((y : Dtv) × IsSideOf lines y × (x.base ≡ y.base) × ((n : ℕ) → x.base ≡ Proc n →
    y.word ≢ [] → x.word ≢ []))

abbrev pub AreFrom : List Line → List Line → Type 0
AreFrom lines after = (x : Dtv) → IsSideOf after x → IsFrom lines x

pub from_side : (lines : List Line) (x : Dtv) → IsSideOf lines x → IsFrom lines x
from_side lines x s = inr (x, s, refl, λ n e h. h)

pub from_self : (lines : List Line) → AreFrom lines lines
from_self lines x s = from_side lines x s

pub from_chain : (first second third : List Line) → AreFrom first second → AreFrom second third → AreFrom first third
from_chain first second third a b x s = by (b x s)
  where
    after : (y : Dtv) → (x.base ≡ y.base) → ((n : ℕ) → x.base ≡ Proc n → y.word ≢ [] → x.word ≢ []) → IsFrom first y → IsFrom first x
    after y e h (inl (n, f)) = inl (n, e ∙ f)
    after y e h (inr (z, t, f, k)) = inr (z, t, e ∙ f, λ n g m. h n g (k n (sym e ∙ g) m))

    by : IsFrom second x → IsFrom first x
    by (inl (n, e)) = inl (n, e)
    by (inr (y, t, e, h)) = after y e h (a y t)

-- what all sides of the later lines have, as those of the earlier ones have it
pub from_scheme : (lines after : List Line) → AreFrom lines after → AreOfScheme lines → AreOfScheme after
from_scheme lines after from scheme l x c h = by (from x (l, c, h))
  where
    exist_scheme : (n : ℕ) → x.base ≡ Exist n → IsOfScheme x.base x.word
    exist_scheme n e = subst (λ b. IsOfScheme b x.word) (sym e) tt

    side_scheme : (b : Base) (u w : List Label) → IsOfScheme b u → ((n : ℕ) → b ≡ Proc n → u ≢ [] → w ≢ []) → IsOfScheme b w
    side_scheme (Proc n) u w s k = k n refl s
    side_scheme (Global n) u w s k = tt
    side_scheme (Exist n) u w s k = tt
    side_scheme (Outer n) u w s k = s

    by : IsFrom lines x → IsOfScheme x.base x.word
    by (inl (n, e)) = exist_scheme n e
    by (inr (y, (k, d, g), e, m)) = subst (λ b. IsOfScheme b x.word) (sym e)
        (side_scheme y.base y.word x.word (scheme k y d g) (λ n f. m n (e ∙ f)))

pub from_procedure : (lines after : List Line) → AreFrom lines after → (n : ℕ) → NamesBase after (Proc n) → NamesBase lines (Proc n)
from_procedure lines after from n (l, x, c, h, e) = by (from x (l, c, h))
  where
    by : IsFrom lines x → NamesBase lines (Proc n)
    by (inl (m, f)) = let g : Proc n ≡ Exist m = sym e ∙ f in absurd (cc)
    by (inr (y, (k, d, g), f, m)) = (k, y, d, g, sym f ∙ e)

-- fewer lines
pub from_fewer : (lines after : List Line) → ((l : Line) → Contains after l → Contains lines l) → AreFrom lines after
from_fewer lines after fewer x (l, c, h) = from_side lines x (l, fewer l c, h)

-- tidied lines
pub without_side : (l : Line) (x : Dtv) → HasSide (without_self l) x → HasSide l x
without_side (Var y) x h = h
without_side (Low k y) x h = h
without_side (Up y k) x h = h
without_side (Same y z) x h = by (variable_eq y z) h
  where
    by : (t : Bool) → HasSide (cond t (Var y) (Same y z)) x → HasSide (Same y z) x
    by true k = inl k
    by false k = k
without_side (Sub y z) x h = by (variable_eq y z) h
  where
    by : (t : Bool) → HasSide (cond t (Var y) (Sub y z)) x → HasSide (Sub y z) x
    by true k = inl k
    by false k = k

pub from_tidied : (lines : List Line) → AreFrom lines (tidied lines)
from_tidied lines x (k, c, h) = by (Contains-map_source without_self lines k (deduplicated-source (map without_self lines) k c))
  where
    by : (l : Line) × Contains lines l × (without_self l ≡ k) → IsFrom lines x
    by (l, d, e) = from_side lines x (l, d, without_side l x (subst (λ m. HasSide m x) (sym e) h))

append_not_empty : (u w : List Label) → u ≢ [] → u ++ w ≢ []
append_not_empty [] w h e = h refl
append_not_empty (l ∷ u) w h e = cc

-- a variable of the lines in the place of an existential
pub from_put : (all lines : List Line) (n : ℕ) (z : Dtv) → IsSideOf all z → AreFrom all lines → AreFrom all (put_lines n z lines)
from_put all lines n z side from x (k, c, h) = by (Contains-map_source (map_line (put n z)) lines k c)
  where
    at : (y : Dtv) → IsSideOf lines y → (y.base ≡ Exist n) ⊎ (y.base ≡ Exist n → ⊥) → IsFrom all (put n z y)
    at y s (inl e) = subst (IsFrom all) (sym (put-own n z y e)) (inr (z, side, refl, λ m f. append_not_empty z.word y.word))
    at y s (inr apart) = subst (IsFrom all) (sym (put-apart n z y apart)) (from y s)

    by : (l : Line) × Contains lines l × (map_line (put n z) l ≡ k) → IsFrom all x
    by (l, d, e) =
        let s : (y : Dtv) × HasSide l y × (put n z y ≡ x) = HasSide-map_line_source (put n z) l x (subst (λ m. HasSide m x) (sym e) h) in
        subst (IsFrom all) s.2 (at s.0 (l, d, s.1) (one_base s.0.base (Exist n)))

pub use_is_side : (sign : Variance) (n : ℕ) (z : Dtv) → HasSide (use_of sign n z) z
use_is_side Co n z = inl refl
use_is_side Contra n z = inr refl

cut_side : (lines before after : List Line) (sign : Variance) (n : ℕ) (z : Dtv) → lines ≡ before ++ use_of sign n z ∷ after →
    IsSideOf lines z
cut_side lines before after sign n z cut = (
  use_of sign n z,
  subst (λ ls. Contains ls (use_of sign n z)) (sym cut) (Contains-middle before (use_of sign n z) after),
  use_is_side sign n z,
)

cut_fewer : (lines before after : List Line) (sole : Line) → lines ≡ before ++ sole ∷ after → (l : Line) → Contains (before ++ after) l →
    Contains lines l
cut_fewer lines before after sole cut l c = subst (λ ls. Contains ls l) (sym cut) (Contains-wider before sole after l c)

from_exchanged : (n : ℕ) (lines after : List Line) → Exchanges n lines after → AreFrom lines after
from_exchanged n lines _ (goes sign place left z before after is cut names) =
    from_chain lines (put_lines n z (before ++ after)) (tidied (put_lines n z (before ++ after)))
    (from_put lines (before ++ after) n z (cut_side lines before after sign n z cut)
    (from_fewer lines (before ++ after) (cut_fewer lines before after (use_of sign n z) cut)))
    (from_tidied (put_lines n z (before ++ after)))
from_exchanged n lines _ (exists_still sign place left z before after is cut unnamed) =
    from_chain lines (before ++ Var z ∷ after) (tidied (before ++ Var z ∷ after)) one (from_tidied (before ++ Var z ∷ after))
  where
    one : AreFrom lines (before ++ Var z ∷ after)
    one x (l, c, h) = by (Contains-middle_cases before (Var z) after l c)
      where
        by : (Var z ≡ l) ⊎ Contains (before ++ after) l → IsFrom lines x
        by (inl e) = let f : z ≡ x = subst (λ m. HasSide m x) (sym e) h in
            subst (IsFrom lines) f (from_side lines z (cut_side lines before after sign n z cut))
        by (inr d) = from_side lines x (l, cut_fewer lines before after (use_of sign n z) cut l d, h)

pub from_puts : (left start : List Line) → Puts left start → AreFrom start left
from_puts left start (none_left none) = from_self left
from_puts left start (puts n now between least exchanged rest) =
    from_chain now between left (from_exchanged n now between exchanged) (from_puts left between rest)

-- the least of each class in the others' places
pub from_classes : (lines : List Line) (class : ℕ → ℕ) → AreFrom lines (refined class lines)
from_classes lines class x (l, c, h) = by (refined_sides_lem lines class l x c h)
  where
    at : (b : Base) (w : List Label) → IsFrom lines (record { base = b; word = w }) → IsFrom lines (record { base = moved class b; word = w })
    at (Exist n) w f = inl (class n, refl)
    at (Proc n) w f = f
    at (Global n) w f = f
    at (Outer n) w f = f

    by : (k : Line) × (y : Dtv) × Contains lines k × HasSide k y × (move class y ≡ x) → IsFrom lines x
    by (k, y, d, s, e) = subst (IsFrom lines) e (at y.base y.word (from_side lines y (k, d, s)))

pub from_simple : (left start : List Line) → Simplifies left start → AreFrom start left
from_simple left start (simple _ p none none') = from_puts left start p
from_simple left start (twins_go _ between sign class w p turn c apart rest) =
    from_chain start between left (from_puts between start p)
    (from_chain between (refined class between) left (from_classes between class)
    (from_chain (refined class between) (twinned_lines class between) left (from_tidied (refined class between))
    (from_simple left (twinned_lines class between) rest)))

pub from_merges : (order : Below) (left start : List Line) → Merges order left start → AreFrom start left
from_merges order left start (no_merge none) = from_self left
from_merges order left start (merges n z now merge rest) =
    from_chain now (put_lines n z now) left (from_put now now n z (
      merge.equal.line,
      merge.equal.stands,
      merge.equal.is_side,
    ) (from_self now))
    (from_chain (put_lines n z now) (tidied (put_lines n z now)) left (from_tidied (put_lines n z now))
    (from_merges order left (tidied (put_lines n z now)) rest))
