-- An existential gives its place away: the outside can derive the same.
use Rattle.std.proofs.Common.{◌≡◌, ◌≢◌, ℕ, ◌⊎◌, inl, inr, List, ◌∷◌, ◌++◌, Contains, Bool, true, false, cond, nat_eq, eq-eqb, refl, sym, ap, subst, ◌∙◌}
use Rattle.std.proofs.lemmas.Bool.{eqb-true}
use Rattle.std.proofs.lemmas.List.Elements.{Contains-append_left, Contains-append_right, Contains-append_cases, All-contains}
use Rattle.rt_lines.specs.declared.label.Label.{Label}
use Rattle.rt_lines.specs.declared.label.Variance.{Variance}
use Rattle.rt_lines.specs.declared.label.Variance.TheVariants.{Co, Contra}
use Rattle.rt_lines.specs.declared.variable.Base.{Base}
use Rattle.rt_lines.specs.declared.variable.Base.TheVariants.{Proc, Global, Exist, Outer}
use Rattle.rt_lines.specs.declared.variable.Dtv.{Dtv}
use Rattle.rt_lines.specs.declared.line.Line.{Line}
use Rattle.rt_lines.specs.declared.line.Line.TheVariants.{Var, Same, Sub, Low, Up}
use Rattle.rt_lines.specs.Orders.{Below}
use Rattle.rt_rules.specs.Rules.{extended, HasSide, Derivable}
use Rattle.rt_rules.specs.Rules.Derivable.{left_side, sub_self}
use Rattle.rt_rules.specs.Alike.{Alike, map_line}
use Rattle.rt_rules.specs.Laws.{NamesBase}
use Rattle.rt_rules.specs.Put.{exist, put_at, put, put_lines, HasUse, use_of, IsOnlyUse}
use Rattle.rt_rules.proofs.Lists.{Contains-here, Contains-there, Contains-cons_cases, Contains-map, Contains-map_source, All-from_contains}
use Rattle.rt_rules.proofs.Carry.{given, side, HasSide-map}
use Rattle.rt_rules.proofs.Covering.{exchange, extended-nil, front, map_line-fixed, Alike-refl, Alike-trans}
use Rattle.rt_rules.proofs.Substitution.{substitution_lem}
use Rattle.rt_polar.specs.Laws.{PuttingLaw, PuttingOneLaw}
use Rattle.rt_polar.specs.Polar.{IsSole, IsCandidate}
use Rattle.rt_polar.specs.Polar.IsCandidate.{defines, consumes}
use Rattle.rt_polar.specs.Puts.{Puts}
use Rattle.rt_polar.specs.Puts.Exchanges.{goes, exists_still}
use Rattle.rt_polar.specs.Puts.Puts.{none_left, puts}
use Rattle.rt_polar.proofs.AlikeTidied.{Alike-tidied}
use Rattle.rt_base.proofs.Lists.{Contains-middle, Contains-wider, Contains-middle_cases}

-- a variable of another base stays
put_at-apart : (n : ℕ) (z : Dtv) (b : Base) (w : List Label) → b ≢ Exist n → put_at n z b w ≡ record { base = b; word = w }
put_at-apart n z (Exist m) w apart = by (nat_eq m n) refl
  where
    by : (t : Bool) → nat_eq m n ≡ t → cond t (extended z w) (record { base = Exist m; word = w }) ≡ record { base = Exist m; word = w }
    by true e = absurd (apart (ap Exist (eqb-true m n e)))
    by false e = refl
put_at-apart n z (Proc m) w apart = refl
put_at-apart n z (Global m) w apart = refl
put_at-apart n z (Outer m) w apart = refl

pub put-apart : (n : ℕ) (z x : Dtv) → x.base ≢ Exist n → put n z x ≡ x
put-apart n z x apart = put_at-apart n z x.base x.word apart

-- a variable of the existential becomes one of what is in its place
put_at-own : (n : ℕ) (z : Dtv) (b : Base) (w : List Label) → b ≡ Exist n → put_at n z b w ≡ extended z w
put_at-own n z b w e = rw (e, eq-eqb n n refl) refl

pub put-own : (n : ℕ) (z x : Dtv) → x.base ≡ Exist n → put n z x ≡ extended z x.word
put-own n z x e = put_at-own n z x.base x.word e

pub put-exist : (n : ℕ) (z : Dtv) → put n z (exist n) ≡ z
put-exist n z = put-own n z (exist n) refl ∙ extended-nil z

-- the use becomes a line of z alone
pub put_use : (sign : Variance) (n : ℕ) (z : Dtv) → z.base ≢ Exist n → map_line (put n z) (use_of sign n z) ≡ Sub z z
put_use Co n z other = λ i. Sub (put-apart n z z other i) (put-exist n z i)
put_use Contra n z other = λ i. Sub (put-exist n z i) (put-apart n z z other i)

-- a line that does not name the existential stays
pub put_line-apart : (n : ℕ) (z : Dtv) (l : Line) → ((x : Dtv) → HasSide l x → x.base ≢ Exist n) → map_line (put n z) l ≡ l
put_line-apart n z l apart = map_line-fixed (put n z) l (λ x h. put-apart n z x (apart x h))

-- a sole use is an only one
pub sole_only : (sign : Variance) (n : ℕ) (z : Dtv) (lines : List Line) (place : ℕ) → IsSole sign n z lines place → IsOnlyUse sign n z lines
sole_only sign n z lines place sole = rw sole.cut here
  where
    by : (l : Line) → (use_of sign n z ≡ l) ⊎ Contains (sole.before ++ sole.after) l → (l ≡ use_of sign n z) ⊎ (HasUse sign n l → ⊥)
    by l (inl e) = inl (sym e)
    by l (inr c) = inr (All-contains (λ k. HasUse sign n k → ⊥) (sole.before ++ sole.after) l sole.alone c)

    here : IsOnlyUse sign n z (sole.before ++ use_of sign n z ∷ sole.after)
    here = record {
      other_base = sole.other_base;
      stands = Contains-middle sole.before (use_of sign n z) sole.after;
      only = All-from_contains (λ l. (l ≡ use_of sign n z) ⊎ (HasUse sign n l → ⊥)) (sole.before ++ use_of sign n z ∷ sole.after) (λ l c. by l (Contains-middle_cases sole.before (use_of sign n z) sole.after l c));
    }

pub candidate_only : {sign : Variance} {n : ℕ} {z : Dtv} {lines : List Line} {place : ℕ} {left : Bool} → IsCandidate n lines sign place left z → IsOnlyUse sign n z lines
candidate_only {n = n} {lines = lines} (defines z place s) = sole_only Co n z lines place s
candidate_only {n = n} {lines = lines} (consumes z place e s) = sole_only Contra n z lines place s

module _ (order : Below) (inside : Base → Bool) (sign : Variance) (n : ℕ) (z : Dtv) (before after : List Line) (other : z.base ≢ Exist n) where
  abbrev lines : List Line
  lines = before ++ use_of sign n z ∷ after

  -- a line of the exchanged list is of the others, or is of z alone
  source : (k : Line) → Contains (put_lines n z lines) k → ((l : Line) × Contains (before ++ after) l × (map_line (put n z) l ≡ k)) ⊎ (Sub z z ≡ k)
  source k c = by (Contains-map_source (map_line (put n z)) lines k c)
    where
      which : (l : Line) → (use_of sign n z ≡ l) ⊎ Contains (before ++ after) l → map_line (put n z) l ≡ k → ((l : Line) × Contains (before ++ after) l × (map_line (put n z) l ≡ k)) ⊎ (Sub z z ≡ k)
      which l (inl e) f = inr (sym (put_use sign n z other) ∙ ap (map_line (put n z)) e ∙ f)
      which l (inr d) f = inl (l, d, f)

      by : (l : Line) × Contains lines l × (map_line (put n z) l ≡ k) → ((l : Line) × Contains (before ++ after) l × (map_line (put n z) l ≡ k)) ⊎ (Sub z z ≡ k)
      by (l, d, f) = which l (Contains-middle_cases before (use_of sign n z) after l d) f

  self_there : Contains (put_lines n z lines) (Sub z z)
  self_there = subst (Contains (put_lines n z lines)) (put_use sign n z other) (Contains-map (map_line (put n z)) lines (use_of sign n z) (Contains-middle before (use_of sign n z) after))

  -- where another line names the existential
  module _ (names : NamesBase (before ++ after) (Exist n)) where
    abbrev rest : List Line
    rest = put_lines n z (before ++ after)

    z_there : Derivable order rest (Var z)
    z_there = by names
      where
        by : (l : Line) × (x : Dtv) × Contains (before ++ after) l × HasSide l x × (x.base ≡ Exist n) → Derivable order rest (Var z)
        by (l, x, c, h, e) =
            front order rest z x.word
            (subst (λ v. Derivable order rest (Var v)) (put-own n z x e)
            (side order rest (map_line (put n z) l) (put n z x) (given order rest (map_line (put n z) l) (Contains-map (map_line (put n z)) (before ++ after) l c)) (HasSide-map (put n z) l x h)))

    rest_derives : (k : Line) → ((l : Line) × Contains (before ++ after) l × (map_line (put n z) l ≡ k)) ⊎ (Sub z z ≡ k) → Derivable order rest k
    rest_derives k (inl (l, d, f)) = given order rest k (subst (Contains rest) f (Contains-map (map_line (put n z)) (before ++ after) l d))
    rest_derives k (inr e) = subst (Derivable order rest) e (sub_self z_there)

    derives_rest : (k : Line) → (l : Line) × Contains (before ++ after) l × (map_line (put n z) l ≡ k) → Derivable order (put_lines n z lines) k
    derives_rest k (l, d, f) = given order (put_lines n z lines) k (subst (Contains (put_lines n z lines)) f (Contains-map (map_line (put n z)) lines l (Contains-wider before (use_of sign n z) after l d)))

    pub Alike-goes : Alike order inside (put_lines n z lines) rest
    Alike-goes =
        exchange order inside (put_lines n z lines) rest (λ k c. rest_derives k (source k c))
        (λ k c. derives_rest k (Contains-map_source (map_line (put n z)) (before ++ after) k c))

  -- where none does
  module _ (no : NamesBase (before ++ after) (Exist n) → ⊥) where
    abbrev still : List Line
    still = before ++ Var z ∷ after

    stays : (l : Line) → Contains (before ++ after) l → map_line (put n z) l ≡ l
    stays l c = put_line-apart n z l (λ x h e. no (l, x, c, h, e))

    still_derives : (k : Line) → ((l : Line) × Contains (before ++ after) l × (map_line (put n z) l ≡ k)) ⊎ (Sub z z ≡ k) → Derivable order still k
    still_derives k (inl (l, d, f)) = subst (Derivable order still) (sym (stays l d) ∙ f) (given order still l (Contains-wider before (Var z) after l d))
    still_derives k (inr e) = subst (Derivable order still) e (sub_self (given order still (Var z) (Contains-middle before (Var z) after)))

    derives_still : (k : Line) → (Var z ≡ k) ⊎ Contains (before ++ after) k → Derivable order (put_lines n z lines) k
    derives_still k (inl e) = subst (Derivable order (put_lines n z lines)) e (left_side (given order (put_lines n z lines) (Sub z z) self_there))
    derives_still k (inr d) =
        given order (put_lines n z lines) k (subst (Contains (put_lines n z lines)) (stays k d) (Contains-map (map_line (put n z)) lines k (Contains-wider before (use_of sign n z) after k d)))

    pub Alike-exists_still : Alike order inside (put_lines n z lines) still
    Alike-exists_still =
        exchange order inside (put_lines n z lines) still (λ k c. still_derives k (source k c))
        (λ k c. derives_still k (Contains-middle_cases before (Var z) after k c))

pub putting_one_lem : PuttingOneLaw
putting_one_lem order inside n start after inner (goes sign place left z before others is cut names) =
    let only : IsOnlyUse sign n z start = candidate_only is in
    let first : Alike order inside start (put_lines n z start) = substitution_lem order inside start sign n z inner only in
    let second : Alike order inside (put_lines n z start) (put_lines n z (before ++ others)) = rw cut (Alike-goes order inside sign n z before others only.other_base names) in
    Alike-trans order inside start (put_lines n z start) after first
    (Alike-trans order inside (put_lines n z start) (put_lines n z (before ++ others)) after second (Alike-tidied order inside (put_lines n z (before ++ others))))
putting_one_lem order inside n start after inner (exists_still sign place left z before others is cut unnamed) =
    let only : IsOnlyUse sign n z start = candidate_only is in
    let first : Alike order inside start (put_lines n z start) = substitution_lem order inside start sign n z inner only in
    let second : Alike order inside (put_lines n z start) (before ++ Var z ∷ others) = rw cut (Alike-exists_still order inside sign n z before others only.other_base unnamed) in
    Alike-trans order inside start (put_lines n z start) after first
    (Alike-trans order inside (put_lines n z start) (before ++ Var z ∷ others) after second (Alike-tidied order inside (before ++ Var z ∷ others)))

putting_by : (order : Below) (inside : Base → Bool) (left start : List Line) → ((n : ℕ) → inside (Exist n) ≡ true) → Puts left start → Alike order inside start left
putting_by order inside left start inner (none_left none) = Alike-refl order inside left
putting_by order inside left start inner (puts n now between least exchanged others) =
    Alike-trans order inside now between left (putting_one_lem order inside n now between (inner n) exchanged) (putting_by order inside left between inner others)

pub putting_lem : PuttingLaw
putting_lem order inside start left inner p = putting_by order inside left start inner p
