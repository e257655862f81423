-- An existential gives its place away: the outside can derive the same loosely.
use Rattle.std.proofs.Common.{◌≡◌, ◌≢◌, ℕ, ◌⊎◌, inl, inr, List, ◌∷◌, ◌++◌, Contains, Bool, true, sym, ap, subst, ◌∙◌}
use Rattle.rt_lines.specs.declared.label.Variance.{Variance}
use Rattle.rt_lines.specs.declared.variable.Base.{Base}
use Rattle.rt_lines.specs.declared.variable.Base.TheVariants.{Exist}
use Rattle.rt_lines.specs.declared.variable.Dtv.{Dtv}
use Rattle.rt_lines.specs.declared.line.Line.{Line}
use Rattle.rt_lines.specs.declared.line.Line.TheVariants.{Var, Sub}
use Rattle.rt_lines.specs.Orders.{Below}
use Rattle.rt_rules.specs.Rules.{HasSide}
use Rattle.rt_loose.specs.Loose.{Loosely}
use Rattle.rt_loose.specs.Loose.Loosely.{left_side, sub_self}
use Rattle.rt_rules.specs.Alike.{map_line}
use Rattle.rt_marks.specs.Outsides.{LooselyAlike}
use Rattle.rt_rules.specs.Laws.{NamesBase}
use Rattle.rt_rules.specs.Put.{put, put_lines, use_of, IsOnlyUse}
use Rattle.rt_base.proofs.Lists.{Contains-map, Contains-map_source}
use Rattle.rt_rules.proofs.Carry.{HasSide-map}
use Rattle.rt_marks.proofs.Carrying.{given, side}
use Rattle.rt_marks.proofs.Covering.{exchange, front, loosely-refl, loosely-trans}
use Rattle.rt_polar.proofs.Exchanging.{put-own, put_use, put_line-apart, candidate_only}
use Rattle.rt_marks.proofs.Substitution.{substitution_lem}
use Rattle.rt_marks.specs.Laws.{PuttingLaw, PuttingOneLaw}
use Rattle.rt_polar.specs.Puts.{Puts}
use Rattle.rt_polar.specs.Puts.Exchanges.{goes, exists_still}
use Rattle.rt_polar.specs.Puts.Puts.{none_left, puts}
use Rattle.rt_marks.proofs.Tidying.{alike_tidied}
use Rattle.rt_base.proofs.Lists.{Contains-middle, Contains-wider, Contains-middle_cases}

module _ (order : Below) (inside : Base → Bool) (sign : Variance) (n : ℕ) (z : Dtv) (before after : List Line) (other : z.base ≢ Exist n) where
  abbrev lines : List Line
  lines = before ++ use_of sign n z ∷ after

  -- a line of the exchanged list is of the others, or is of z alone
  source : (k : Line) → Contains (put_lines n z lines) k → ((l : Line) × Contains (before ++ after) l × (map_line (put n z) l ≡ k)) ⊎ (Sub z z ≡ k)
  source k c = by (Contains-map_source (map_line (put n z)) lines k c)
    where
      which : (l : Line) → (use_of sign n z ≡ l) ⊎ Contains (before ++ after) l → map_line (put n z) l ≡ k → ((l : Line) × Contains (before ++ after) l × (map_line (put n z) l ≡ k)) ⊎ (Sub z z ≡ k)
      which l (inl e) f = inr (sym (put_use sign n z other) ∙ ap (map_line (put n z)) e ∙ f)
      which l (inr d) f = inl (l, d, f)

      by : (l : Line) × Contains lines l × (map_line (put n z) l ≡ k) → ((l : Line) × Contains (before ++ after) l × (map_line (put n z) l ≡ k)) ⊎ (Sub z z ≡ k)
      by (l, d, f) = which l (Contains-middle_cases before (use_of sign n z) after l d) f

  self_there : Contains (put_lines n z lines) (Sub z z)
  self_there = subst (Contains (put_lines n z lines)) (put_use sign n z other) (Contains-map (map_line (put n z)) lines (use_of sign n z) (Contains-middle before (use_of sign n z) after))

  -- where another line names the existential
  module _ (names : NamesBase (before ++ after) (Exist n)) where
    abbrev rest : List Line
    rest = put_lines n z (before ++ after)

    z_there : Loosely order rest (Var z)
    z_there = by names
      where
        by : (l : Line) × (x : Dtv) × Contains (before ++ after) l × HasSide l x × (x.base ≡ Exist n) → Loosely order rest (Var z)
        by (l, x, c, h, e) =
            front order rest z x.word
            (subst (λ v. Loosely order rest (Var v)) (put-own n z x e)
            (side order rest (map_line (put n z) l) (put n z x) (given order rest (map_line (put n z) l) (Contains-map (map_line (put n z)) (before ++ after) l c)) (HasSide-map (put n z) l x h)))

    rest_derives : (k : Line) → ((l : Line) × Contains (before ++ after) l × (map_line (put n z) l ≡ k)) ⊎ (Sub z z ≡ k) → Loosely order rest k
    rest_derives k (inl (l, d, f)) = given order rest k (subst (Contains rest) f (Contains-map (map_line (put n z)) (before ++ after) l d))
    rest_derives k (inr e) = subst (Loosely order rest) e (sub_self z_there)

    derives_rest : (k : Line) → (l : Line) × Contains (before ++ after) l × (map_line (put n z) l ≡ k) → Loosely order (put_lines n z lines) k
    derives_rest k (l, d, f) = given order (put_lines n z lines) k (subst (Contains (put_lines n z lines)) f (Contains-map (map_line (put n z)) lines l (Contains-wider before (use_of sign n z) after l d)))

    pub alike_goes : LooselyAlike order inside (put_lines n z lines) rest
    alike_goes =
        exchange order inside (put_lines n z lines) rest (λ k c. rest_derives k (source k c))
        (λ k c. derives_rest k (Contains-map_source (map_line (put n z)) (before ++ after) k c))

  -- where none does
  module _ (no : NamesBase (before ++ after) (Exist n) → ⊥) where
    abbrev still : List Line
    still = before ++ Var z ∷ after

    stays : (l : Line) → Contains (before ++ after) l → map_line (put n z) l ≡ l
    stays l c = put_line-apart n z l (λ x h e. no (l, x, c, h, e))

    still_derives : (k : Line) → ((l : Line) × Contains (before ++ after) l × (map_line (put n z) l ≡ k)) ⊎ (Sub z z ≡ k) → Loosely order still k
    still_derives k (inl (l, d, f)) = subst (Loosely order still) (sym (stays l d) ∙ f) (given order still l (Contains-wider before (Var z) after l d))
    still_derives k (inr e) = subst (Loosely order still) e (sub_self (given order still (Var z) (Contains-middle before (Var z) after)))

    derives_still : (k : Line) → (Var z ≡ k) ⊎ Contains (before ++ after) k → Loosely order (put_lines n z lines) k
    derives_still k (inl e) = subst (Loosely order (put_lines n z lines)) e (left_side (given order (put_lines n z lines) (Sub z z) self_there))
    derives_still k (inr d) =
        given order (put_lines n z lines) k (subst (Contains (put_lines n z lines)) (stays k d) (Contains-map (map_line (put n z)) lines k (Contains-wider before (use_of sign n z) after k d)))

    pub alike_exists_still : LooselyAlike order inside (put_lines n z lines) still
    alike_exists_still =
        exchange order inside (put_lines n z lines) still (λ k c. still_derives k (source k c))
        (λ k c. derives_still k (Contains-middle_cases before (Var z) after k c))

pub putting_one_lem : PuttingOneLaw
putting_one_lem order inside n start after inner (goes sign place left z before others is cut names) =
    let only : IsOnlyUse sign n z start = candidate_only is in
    let first : LooselyAlike order inside start (put_lines n z start) = substitution_lem order inside start sign n z inner only in
    let second : LooselyAlike order inside (put_lines n z start) (put_lines n z (before ++ others)) = rw cut (alike_goes order inside sign n z before others only.other_base names) in
    loosely-trans order inside start (put_lines n z start) after first
    (loosely-trans order inside (put_lines n z start) (put_lines n z (before ++ others)) after second (alike_tidied order inside (put_lines n z (before ++ others))))
putting_one_lem order inside n start after inner (exists_still sign place left z before others is cut unnamed) =
    let only : IsOnlyUse sign n z start = candidate_only is in
    let first : LooselyAlike order inside start (put_lines n z start) = substitution_lem order inside start sign n z inner only in
    let second : LooselyAlike order inside (put_lines n z start) (before ++ Var z ∷ others) = rw cut (alike_exists_still order inside sign n z before others only.other_base unnamed) in
    loosely-trans order inside start (put_lines n z start) after first
    (loosely-trans order inside (put_lines n z start) (before ++ Var z ∷ others) after second (alike_tidied order inside (before ++ Var z ∷ others)))

putting_by : (order : Below) (inside : Base → Bool) (left start : List Line) → ((n : ℕ) → inside (Exist n) ≡ true) → Puts left start → LooselyAlike order inside start left
putting_by order inside left start inner (none_left none) = loosely-refl order inside left
putting_by order inside left start inner (puts n now between least exchanged others) =
    loosely-trans order inside now between left (putting_one_lem order inside n now between (inner n) exchanged) (putting_by order inside left between inner others)

pub putting_lem : PuttingLaw
putting_lem order inside start left inner p = putting_by order inside left start inner p
