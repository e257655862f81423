-- Each step names no base anew.
use Rattle.std.proofs.Common.{◌≡◌, ◌≢◌, ℕ, ◌⊎◌, inl, inr, List, ◌∷◌, ◌++◌, map, Contains, refl, sym, ap, subst, ◌∙◌}
use Rattle.rt_base.proofs.Lists.{Contains-map_source, Contains-middle, Contains-wider, Contains-middle_cases}
use Rattle.rt_lines.specs.declared.label.Variance.{Variance}
use Rattle.rt_lines.specs.declared.label.Variance.TheVariants.{Co, Contra}
use Rattle.rt_lines.specs.declared.variable.Base.{Base}
use Rattle.rt_lines.specs.declared.variable.Base.TheVariants.{Proc, Global, Exist, Outer}
use Rattle.rt_lines.specs.declared.variable.Dtv.{Dtv}
use Rattle.rt_lines.specs.declared.line.Line.{Line}
use Rattle.rt_lines.specs.declared.line.Line.TheVariants.{Var}
use Rattle.rt_lines.specs.Orders.{Below}
use Rattle.rt_lines.proofs.Deduplicating.{deduplicated-source}
use Rattle.rt_rules.specs.Rules.{HasSide}
use Rattle.rt_rules.specs.Alike.{map_line}
use Rattle.rt_rules.specs.Laws.{NamesBase}
use Rattle.rt_rules.specs.Put.{exist, put, put_lines, HasUse, use_of}
use Rattle.rt_rules.proofs.LineSides.{HasSide-map_line_source}
use Rattle.rt_rules.proofs.Renaming.{one_base}
use Rattle.rt_refine.specs.Refinements.{refined}
use Rattle.rt_twins.specs.Twinnings.{IsTwinning}
use Rattle.rt_twins.proofs.OneTwinning.{twinned_names_lem}
use Rattle.rt_polar.specs.Puts.{Exchanges, Puts}
use Rattle.rt_polar.specs.Puts.Exchanges.{goes, exists_still}
use Rattle.rt_polar.specs.Puts.Puts.{none_left, puts}
use Rattle.rt_polar.specs.Tidied.{without_self, tidied}
use Rattle.rt_polar.proofs.Exchanging.{put-apart, put-own}
use Rattle.rt_reduction.specs.Simplifies.{Simplifies, simple, twins_go}
use Rattle.rt_reduction.specs.Merges.{Merges}
use Rattle.rt_reduction.specs.Merges.Merges.{none_left as no_merge, merges}
use Rattle.rt_reduction.specs.Emits.{IsKept, IsEmitted}
use Rattle.rt_reduction.specs.Rounds.{IsRound}
use Rattle.rt_reduction.proofs.Simplifying.{twinned_lines}
use Rattle.rt_reduction.proofs.Flow.{flow_source}
use Rattle.rt_reduction.proofs.FromSides.{IsSideOf, without_side, use_is_side}
use Rattle.rt_reduction.proofs.Dropping.{kept_lem}
use Rattle.rt_reduction.proofs.Emitting.{use_side, emitted_base}

-- each base that is named after is named before
abbrev pub NamesFrom : List Line → List Line → Type 0
NamesFrom lines after = (x : Dtv) → IsSideOf after x → NamesBase lines x.base

pub named_from : (lines after : List Line) → NamesFrom lines after → (b : Base) → NamesBase after b → NamesBase lines b
named_from lines after from b (l, x, c, h, e) = subst (NamesBase lines) e (from x (l, c, h))

names_side : (lines : List Line) (x : Dtv) → IsSideOf lines x → NamesBase lines x.base
names_side lines x (l, c, h) = (l, x, c, h, refl)

pub names_chain : (first second third : List Line) → NamesFrom first second → NamesFrom second third → NamesFrom first third
names_chain first second third a b x s = named_from first second a x.base (b x s)

pub names_self : (lines : List Line) → NamesFrom lines lines
names_self lines x s = names_side lines x s

names_fewer : (lines after : List Line) → ((l : Line) → Contains after l → Contains lines l) → NamesFrom lines after
names_fewer lines after fewer x (l, c, h) = (l, x, fewer l c, h, refl)

pub names_tidied : (lines : List Line) → NamesFrom lines (tidied lines)
names_tidied lines x (k, c, h) = by (Contains-map_source without_self lines k (deduplicated-source (map without_self lines) k c))
  where
    by : (l : Line) × Contains lines l × (without_self l ≡ k) → NamesBase lines x.base
    by (l, d, e) = (l, x, d, without_side l x (subst (λ m. HasSide m x) (sym e) h), refl)

-- what becomes of the sides, where a variable is put
pub put_source : (lines : List Line) (n : ℕ) (z x : Dtv) → IsSideOf (put_lines n z lines) x → (x.base ≡ z.base)
    ⊎ ((x.base ≢ Exist n) × NamesBase lines x.base)
put_source lines n z x (k, c, h) = by (Contains-map_source (map_line (put n z)) lines k c)
  where
    at : (y : Dtv) → IsSideOf lines y → put n z y ≡ x → (y.base ≡ Exist n) ⊎ (y.base ≡ Exist n → ⊥) → (x.base ≡ z.base)
        ⊎ ((x.base ≢ Exist n) × NamesBase lines x.base)
    at y s e (inl f) = inl (ap (λ v. v.base) (sym e ∙ put-own n z y f))
    at y s e (inr apart) =
        let same : y ≡ x = sym (put-apart n z y apart) ∙ e in
        inr (λ f. apart (ap (λ v. v.base) same ∙ f), subst (λ v. NamesBase lines v.base) same (names_side lines y s))

    by : (l : Line) × Contains lines l × (map_line (put n z) l ≡ k) → (x.base ≡ z.base) ⊎ ((x.base ≢ Exist n) × NamesBase lines x.base)
    by (l, d, e) =
        let s : (y : Dtv) × HasSide l y × (put n z y ≡ x) = HasSide-map_line_source (put n z) l x (subst (λ m. HasSide m x) (sym e) h) in
        at s.0 (l, d, s.1) s.2 (one_base s.0.base (Exist n))

names_put : (all lines : List Line) (n : ℕ) (z : Dtv) → NamesBase all z.base → NamesFrom all lines → NamesFrom all (put_lines n z lines)
names_put all lines n z side from x s = by (put_source lines n z x s)
  where
    by : (x.base ≡ z.base) ⊎ ((x.base ≢ Exist n) × NamesBase lines x.base) → NamesBase all x.base
    by (inl e) = subst (NamesBase all) (sym e) side
    by (inr (apart, names)) = named_from all lines from x.base names

pub own_is_side : (sign : Variance) (n : ℕ) (z : Dtv) → HasSide (use_of sign n z) (exist n)
own_is_side Co n z = inr refl
own_is_side Contra n z = inl refl

module _ (lines before after : List Line) (sign : Variance) (n : ℕ) (z : Dtv) (cut : lines ≡ before ++ use_of sign n z ∷ after) where
  stands : Contains lines (use_of sign n z)
  stands = subst (λ ls. Contains ls (use_of sign n z)) (sym cut) (Contains-middle before (use_of sign n z) after)

  pub cut_names : NamesBase lines z.base
  cut_names = (use_of sign n z, z, stands, use_is_side sign n z, refl)

  pub cut_own : NamesBase lines (Exist n)
  cut_own = (use_of sign n z, exist n, stands, own_is_side sign n z, refl)

  pub cut_others : NamesFrom lines (before ++ after)
  cut_others = names_fewer lines (before ++ after)
      (λ l c. subst (λ ls. Contains ls l) (sym cut) (Contains-wider before (use_of sign n z) after l c))

pub names_exchanged : (n : ℕ) (lines after : List Line) → Exchanges n lines after → NamesFrom lines after
names_exchanged n lines _ (goes sign place left z before after is cut names) =
    names_chain lines (put_lines n z (before ++ after)) (tidied (put_lines n z (before ++ after)))
    (names_put lines (before ++ after) n z (cut_names lines before after sign n z cut) (cut_others lines before after sign n z cut))
    (names_tidied (put_lines n z (before ++ after)))
names_exchanged n lines _ (exists_still sign place left z before after is cut unnamed) =
    names_chain lines (before ++ Var z ∷ after) (tidied (before ++ Var z ∷ after))
    (λ x s. by x s.0 s.2 (Contains-middle_cases before (Var z) after s.0 s.1))
    (names_tidied (before ++ Var z ∷ after))
  where
    by : (x : Dtv) (l : Line) → HasSide l x → (Var z ≡ l) ⊎ Contains (before ++ after) l → NamesBase lines x.base
    by x l h (inl e) = let f : z ≡ x =
        subst (λ m. HasSide m x) (sym e) h in subst (λ v. NamesBase lines v.base) f (cut_names lines before after sign n z cut)
    by x l h (inr d) = cut_others lines before after sign n z cut x (l, d, h)

pub names_puts : (left start : List Line) → Puts left start → NamesFrom start left
names_puts left start (none_left none) = names_self left
names_puts left start (puts n now between least exchanged rest) =
    names_chain now between left (names_exchanged n now between exchanged) (names_puts left between rest)

pub names_twins_go : (sign : Variance) (lines : List Line) (class : ℕ → ℕ) → IsTwinning sign lines class
    → NamesFrom lines (twinned_lines class lines)
names_twins_go sign lines class is =
    names_chain lines (refined class lines) (twinned_lines class lines)
    (λ x (l, c, h). twinned_names_lem sign lines class x.base is (l, x, c, h, refl)) (names_tidied (refined class lines))

pub names_simple : (left start : List Line) → Simplifies left start → NamesFrom start left
names_simple left start (simple _ p none none') = names_puts left start p
names_simple left start (twins_go _ between sign class w p turn c apart rest) =
    names_chain start between left (names_puts between start p)
    (names_chain between (twinned_lines class between) left (names_twins_go sign between class c.twins)
    (names_simple left (twinned_lines class between) rest))

pub names_merges : (order : Below) (left start : List Line) → Merges order left start → NamesFrom start left
names_merges order left start (no_merge none) = names_self left
names_merges order left start (merges n z now merge rest) =
    names_chain now (put_lines n z now) left
    (names_put now now n z (names_side now z (merge.equal.line, merge.equal.stands, merge.equal.is_side)) (names_self now))
    (names_chain (put_lines n z now) (tidied (put_lines n z now)) left (names_tidied (put_lines n z now))
    (names_merges order left (tidied (put_lines n z now)) rest))

kept_names : (order : Below) (lines : List Line) (b : Base) → IsKept order lines b → NamesBase lines b
kept_names order lines (Global n) names = names
kept_names order lines (Proc n) names = names
kept_names order lines (Outer n) kept = absurd kept
kept_names order lines (Exist n) (l, c, u) = by u
  where
    at : (x : Dtv) × HasSide l x × (x.base ≡ Exist n) → NamesBase lines (Exist n)
    at (x, h, e) = (l, x, (flow_source lines l c).0, h, e)

    by : HasUse Co n l ⊎ HasUse Contra n l → NamesBase lines (Exist n)
    by (inl v) = at (use_side Co n l v)
    by (inr v) = at (use_side Contra n l v)

pub names_emitted : (order : Below) (lines emitted : List Line) → IsEmitted order lines emitted → NamesFrom lines emitted
names_emitted order lines emitted e x s = by (emitted_base order lines emitted e x s)
  where
    by : IsSideOf lines x ⊎ IsKept order lines x.base → NamesBase lines x.base
    by (inl t) = names_side lines x t
    by (inr kept) = kept_names order lines x.base kept

-- an existential that is named before and not after
abbrev pub Loses : List Line → List Line → Type 0
Loses lines after = (n : ℕ) × NamesBase lines (Exist n) × (NamesBase after (Exist n) → ⊥)

pub names_after : (order : Below) (lines after : List Line) (r : IsRound order lines after) → NamesFrom r.emitted after
names_after order lines after r =
    names_chain r.emitted r.merged after (names_merges order r.merged r.emitted r.is_merged)
    (names_fewer r.merged after (kept_lem order r.merged after r.is_dropped))
