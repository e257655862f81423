-- After a round a chain of lines joins each existential to a procedure or a global.
use Rattle.std.proofs.Common.{◌≡◌, ◌≢◌, ℕ, ◌⊎◌, inl, inr, List, [], map, Contains, Bool, true, false, cond}
use Rattle.std.proofs.Common.{refl, sym, ap, subst, ◌∙◌}
use Rattle.rt_base.proofs.Lists.{Contains-map}
use Rattle.rt_lines.specs.declared.variable.Base.{Base}
use Rattle.rt_lines.specs.declared.variable.Base.TheVariants.{Proc, Global, Exist, Outer}
use Rattle.rt_lines.specs.declared.variable.Dtv.{Dtv}
use Rattle.rt_lines.specs.declared.line.Line.{Line}
use Rattle.rt_lines.specs.declared.line.Line.TheVariants.{Var, Same, Sub, Low, Up}
use Rattle.rt_lines.specs.Equality.{variable_eq}
use Rattle.rt_lines.specs.Orders.{Below}
use Rattle.rt_lines.proofs.Deduplicating.{deduplicated-has}
use Rattle.rt_lines.proofs.Equal.{variable_equal}
use Rattle.rt_rules.specs.Rules.{Derivable}
use Rattle.rt_rules.specs.Alike.{map_line}
use Rattle.rt_rules.specs.Laws.{NamesBase}
use Rattle.rt_rules.specs.Put.{put, put_lines}
use Rattle.rt_rules.specs.Reduced.{Joins, IsJoined}
use Rattle.rt_rules.specs.Reduced.IsJoined.{joined_self, joined_line}
use Rattle.rt_rules.proofs.Renaming.{one_base}
use Rattle.rt_polar.specs.Tidied.{without_self, tidied}
use Rattle.rt_polar.proofs.Exchanging.{put-apart, put-own}
use Rattle.rt_reduction.specs.Drops.{Drops}
use Rattle.rt_reduction.specs.Emits.{IsAnchored, IsFixed}
use Rattle.rt_reduction.specs.Merges.{Merges}
use Rattle.rt_reduction.specs.Merges.Merges.{none_left, merges}
use Rattle.rt_reduction.specs.Rounds.{IsRound}
use Rattle.rt_reduction.proofs.Dropping.{kept_lem, kept_derive_lem}
use Rattle.rt_reduction.proofs.Emitting.{emits_joined_lem}
use Rattle.rt_reduction.proofs.Losing.{are_joined, chain_back, chain_on}
use Rattle.rt_reduction.proofs.NamesFrom.{named_from, names_tidied, put_source}
use Rattle.rt_reduce.proofs.Keeping.{fewer_named}

-- a chain leads from each existential that is named to a procedure or a global
abbrev pub AreAnchored : List Line → Type 0
AreAnchored lines = (n : ℕ) → NamesBase lines (Exist n) → IsAnchored lines (Exist n)

-- what one line joins, and what both sides of a tidied line are
without_joins : (l : Line) (a b : Base) → Joins l a b → (without_self l ≡ l) ⊎ (a ≡ b)
without_joins (Var x) a b j = absurd j
without_joins (Low k x) a b j = absurd j
without_joins (Up x k) a b j = absurd j
without_joins (Same x y) a b j = by (variable_eq x y) refl j
  where
    by : (t : Bool) → variable_eq x y ≡ t → ((x.base ≡ a) × (y.base ≡ b)) ⊎ ((x.base ≡ b) × (y.base ≡ a))
        → (cond t (Var x) (Same x y) ≡ Same x y) ⊎ (a ≡ b)
    by false e h = inl refl
    by true e (inl (f, g)) = inr (sym f ∙ ap (λ v. v.base) (variable_equal x y e) ∙ g)
    by true e (inr (f, g)) = inr (sym g ∙ ap (λ v. v.base) (sym (variable_equal x y e)) ∙ f)
without_joins (Sub x y) a b j = by (variable_eq x y) refl j
  where
    by : (t : Bool) → variable_eq x y ≡ t → ((x.base ≡ a) × (y.base ≡ b)) ⊎ ((x.base ≡ b) × (y.base ≡ a))
        → (cond t (Var x) (Sub x y) ≡ Sub x y) ⊎ (a ≡ b)
    by false e h = inl refl
    by true e (inl (f, g)) = inr (sym f ∙ ap (λ v. v.base) (variable_equal x y e) ∙ g)
    by true e (inr (f, g)) = inr (sym g ∙ ap (λ v. v.base) (sym (variable_equal x y e)) ∙ f)

module _ (order : Below) where
  -- chains go over where lines do
  chain_over : (first second : List Line) → ((l : Line) (a b : Base) → Contains first l → Joins l a b → IsJoined second a b) → {a b : Base}
      → IsJoined first a b → IsJoined second a b
  chain_over first second over joined_self = joined_self
  chain_over first second over (joined_line {a = a} {b = m} l c j rest) =
      chain_on order second (over l a m c j) (chain_over first second over rest)

  over_tidied : (lines : List Line) (l : Line) (a b : Base) → Contains lines l → Joins l a b → IsJoined (tidied lines) a b
  over_tidied lines l a b c j = by (without_joins l a b j)
    where
      by : (without_self l ≡ l) ⊎ (a ≡ b) → IsJoined (tidied lines) a b
      by (inl e) =
          joined_line l (subst (Contains (tidied lines)) e
          (deduplicated-has (map without_self lines) (without_self l) (Contains-map without_self lines l c))) j joined_self
      by (inr e) = subst (IsJoined (tidied lines) a) e joined_self

  anchored_tidied : (lines : List Line) → AreAnchored lines → AreAnchored (tidied lines)
  anchored_tidied lines are n names =
      let (b, fixed, chain) = are n (named_from lines (tidied lines) (names_tidied lines) (Exist n) names) in
      (b, fixed, chain_over lines (tidied lines) (over_tidied lines) chain)

  module _ (lines : List Line) (n : ℕ) (z : Dtv) where
    -- what becomes of a base
    abbrev moved : Base → Base
    moved b = (put n z (record { base = b; word = [] })).base

    stays : (b : Base) → b ≢ Exist n → moved b ≡ b
    stays b apart = ap (λ v. v.base) (put-apart n z (record { base = b; word = [] }) apart)

    fixed_stays : (b : Base) → IsFixed b → moved b ≡ b
    fixed_stays (Proc m) f = refl
    fixed_stays (Global m) f = refl
    fixed_stays (Exist m) f = absurd f
    fixed_stays (Outer m) f = absurd f

    base_put : (x : Dtv) → (put n z x).base ≡ moved x.base
    base_put x = by (one_base x.base (Exist n))
      where
        by : (x.base ≡ Exist n) ⊎ (x.base ≡ Exist n → ⊥) → (put n z x).base ≡ moved x.base
        by (inl e) = ap (λ v. v.base) (put-own n z x e) ∙ sym (ap (λ v. v.base) (put-own n z (record { base = x.base; word = [] }) e))
        by (inr apart) = ap (λ v. v.base) (put-apart n z x apart) ∙ sym (stays x.base apart)

    joins_put : (l : Line) (a b : Base) → Joins l a b → Joins (map_line (put n z) l) (moved a) (moved b)
    joins_put (Var x) a b j = j
    joins_put (Same x y) a b (inl (e, f)) = inl (base_put x ∙ ap moved e, base_put y ∙ ap moved f)
    joins_put (Same x y) a b (inr (e, f)) = inr (base_put x ∙ ap moved e, base_put y ∙ ap moved f)
    joins_put (Sub x y) a b (inl (e, f)) = inl (base_put x ∙ ap moved e, base_put y ∙ ap moved f)
    joins_put (Sub x y) a b (inr (e, f)) = inr (base_put x ∙ ap moved e, base_put y ∙ ap moved f)
    joins_put (Low k x) a b j = j
    joins_put (Up x k) a b j = j

    chain_put : {a b : Base} → IsJoined lines a b → IsJoined (put_lines n z lines) (moved a) (moved b)
    chain_put joined_self = joined_self
    chain_put (joined_line {a = a} {b = m} l c j rest) =
        joined_line (map_line (put n z) l) (Contains-map (map_line (put n z)) lines l c) (joins_put l a m j) (chain_put rest)

    anchored_put : z.base ≢ Exist n → NamesBase lines z.base → AreAnchored lines → AreAnchored (put_lines n z lines)
    anchored_put other side are m (l, x, c, h, e) = by (put_source lines n z x (l, c, h))
      where
        anchored : Exist m ≢ Exist n → NamesBase lines (Exist m) → IsAnchored (put_lines n z lines) (Exist m)
        anchored apart names =
            let (b, fixed, chain) = are m names in (
              b,
              fixed,
              subst (λ a. IsJoined (put_lines n z lines) a b) (stays (Exist m) apart)
                  (subst (IsJoined (put_lines n z lines) (moved (Exist m))) (fixed_stays b fixed) (chain_put chain)),
            )

        by : (x.base ≡ z.base) ⊎ ((x.base ≢ Exist n) × NamesBase lines x.base) → IsAnchored (put_lines n z lines) (Exist m)
        by (inl f) = anchored (λ g. other (sym f ∙ e ∙ g)) (subst (NamesBase lines) (sym f ∙ e) side)
        by (inr (apart, names)) = anchored (λ g. apart (e ∙ g)) (subst (NamesBase lines) e names)

  anchored_merges : (left start : List Line) → Merges order left start → AreAnchored start → AreAnchored left
  anchored_merges left start (none_left none) are = are
  anchored_merges left start (merges n z now merge rest) are =
      let names : NamesBase now z.base = (merge.equal.line, z, merge.equal.stands, merge.equal.is_side, refl) in
      anchored_merges left (tidied (put_lines n z now)) rest
      (anchored_tidied (put_lines n z now) (anchored_put now n z merge.equal.other_base names are))

  -- what is derivable joins only what is joined
  joins_derivable : (lines : List Line) (l : Line) (a b : Base) → Joins l a b → Derivable order lines l → IsJoined lines a b
  joins_derivable lines (Var x) a b j d = absurd j
  joins_derivable lines (Low k x) a b j d = absurd j
  joins_derivable lines (Up x k) a b j d = absurd j
  joins_derivable lines (Same x y) a b j d = by j
    where
      sides : IsJoined lines x.base y.base
      sides = are_joined order lines d

      by : ((x.base ≡ a) × (y.base ≡ b)) ⊎ ((x.base ≡ b) × (y.base ≡ a)) → IsJoined lines a b
      by (inl (e, f)) = subst (λ c. IsJoined lines c b) e (subst (IsJoined lines x.base) f sides)
      by (inr (e, f)) = chain_back order lines (subst (λ c. IsJoined lines c a) e (subst (IsJoined lines x.base) f sides))
  joins_derivable lines (Sub x y) a b j d = by j
    where
      sides : IsJoined lines x.base y.base
      sides = are_joined order lines d

      by : ((x.base ≡ a) × (y.base ≡ b)) ⊎ ((x.base ≡ b) × (y.base ≡ a)) → IsJoined lines a b
      by (inl (e, f)) = subst (λ c. IsJoined lines c b) e (subst (IsJoined lines x.base) f sides)
      by (inr (e, f)) = chain_back order lines (subst (λ c. IsJoined lines c a) e (subst (IsJoined lines x.base) f sides))

  anchored_drops : (lines kept : List Line) → Drops order [] lines kept → AreAnchored lines → AreAnchored kept
  anchored_drops lines kept drops are n names =
      let (b, fixed, chain) = are n (fewer_named lines kept (kept_lem order lines kept drops) n names) in
      (b, fixed, chain_over lines kept (λ l a c h j. joins_derivable kept l a c j (kept_derive_lem order lines kept drops l h)) chain)

  pub round_anchored : (lines after : List Line) → IsRound order lines after → AreAnchored after
  round_anchored lines after r =
      anchored_drops r.merged after r.is_dropped
      (anchored_merges r.merged r.emitted r.is_merged (emits_joined_lem order r.simple r.emitted r.is_emitted))
