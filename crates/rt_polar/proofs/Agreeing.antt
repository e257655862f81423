-- Slots that agree but for lines that name open existentials.
use Rattle.std.proofs.Common.{◌≡◌, ◌≢◌, ℕ, ◌<◌, ◌⊎◌, inl, inr, List, length, get_or, Bool, true, false, Option, Some, None, refl, sym, subst, ◌∙◌, arith}
use Rattle.std.proofs.Math.ListN.{set}
use Rattle.std.proofs.lemmas.List.{get_or-set_other, length-set}
use Rattle.rt_lines.specs.declared.label.Variance.{Variance}
use Rattle.rt_lines.specs.declared.variable.Dtv.{Dtv}
use Rattle.rt_lines.specs.declared.line.Line.{Line}
use Rattle.rt_rules.specs.Put.{HasUse, use_of}
use Rattle.rt_polar.specs.Index.{Names}
use Rattle.rt_polar.specs.Inside.Places.{Agrees, ArePending, Holds, IsFound, IsSoleAt, Settles, Stands}
use Rattle.rt_polar.specs.Inside.Places.Settles.{stands_before, moves, fills}
use Rattle.rt_polar.proofs.Cuts.{use_has}
use Rattle.rt_polar.proofs.Holding.{use_names}
use Rattle.rt_polar.proofs.Slots.{cleared_here, cleared_source, filled_here, filled_source, one_line}
use Rattle.rt_polar.proofs.Soles.{one_slot}

pub Agrees-refl : (pending : ℕ → Bool) (slots : List (Option Line)) → Agrees pending slots slots
Agrees-refl pending slots n l shut names = (λ s. s, λ s. s)

pub Agrees-trans : (pending : ℕ → Bool) (first second third : List (Option Line)) → Agrees pending first second → Agrees pending second third → Agrees pending first third
Agrees-trans pending first second third a b n l shut names = let f = a n l shut names in let g = b n l shut names in (λ s. g.0 (f.0 s), λ s. f.1 (g.1 s))

-- more are open
pub Agrees-opened : (old new : ℕ → Bool) (first second : List (Option Line)) → ((n : ℕ) → old n ≡ true → new n ≡ true) → Agrees old first second → Agrees new first second
Agrees-opened old new first second more a n l shut names = by (old n) refl
  where
    by : (b : Bool) → old n ≡ b → (Stands first l → Stands second l) × (Stands second l → Stands first l)
    by true e = let t : new n ≡ true = more n e in cc
    by false e = a n l e names

-- a line that names open existentials alone is another than one that names a shut one
other_line : (pending : ℕ → Bool) (k l : Line) (n : ℕ) → ((m : ℕ) → Names m k → pending m ≡ true) → pending n ≡ false → Names n l → k ≡ l → ⊥
other_line pending k l n all shut names e = let t : pending n ≡ true = all n (subst (Names n) (sym e) names) in cc

pub Agrees-cleared : (pending : ℕ → Bool) (slots : List (Option Line)) (slot : ℕ) (k : Line) → Holds slots slot k → ((m : ℕ) → Names m k → pending m ≡ true) → Agrees pending slots (set slots slot None)
Agrees-cleared pending slots slot k held all n l shut names = (forth, back)
  where
    forth : Stands slots l → Stands (set slots slot None) l
    forth (i, h) = (i, cleared_here slots slot i l h (λ e. other_line pending k l n all shut names (one_line slots slot k l held (subst (λ m. Holds slots m l) e h))))

    back : Stands (set slots slot None) l → Stands slots l
    back (i, h) = (i, (cleared_source slots slot i l h).1)

Agrees-filled : (pending : ℕ → Bool) (slots : List (Option Line)) (slot : ℕ) (k : Line) → slot < length slots → get_or slots slot None ≡ None → ((m : ℕ) → Names m k → pending m ≡ true) → Agrees pending slots (set slots slot (Some k))
Agrees-filled pending slots slot k lt empty all n l shut names = (forth, back)
  where
    forth : Stands slots l → Stands (set slots slot (Some k)) l
    forth (i, h) = (i, filled_here slots slot i k l h (λ e. let g : Holds slots slot l = subst (λ m. Holds slots m l) e h in cc))

    by : (i : ℕ) → ((i ≡ slot) × (k ≡ l)) ⊎ ((i ≢ slot) × Holds slots i l) → Stands slots l
    by i (inl (e, f)) = absurd (other_line pending k l n all shut names f)
    by i (inr (apart, h)) = (i, h)

    back : Stands (set slots slot (Some k)) l → Stands slots l
    back (i, h) = by i (filled_source slots slot i k l lt h)

pub Agrees-settled : (pending : ℕ → Bool) (old : List (Option Line)) (slot : ℕ) (k : Line) (new : List (Option Line)) → slot < length old → get_or old slot None ≡ None → ((m : ℕ) → Names m k → pending m ≡ true) → Settles old slot k new → Agrees pending old new
Agrees-settled pending old slot k new lt empty all (stands_before j less h is) = subst (Agrees pending old) (sym is) (Agrees-refl pending old)
Agrees-settled pending old slot k new lt empty all (moves j less h is) =
    let apart : slot ≢ j = λ e. omega (arith, e, less) in
    let first : Agrees pending old (set old j None) = Agrees-cleared pending old j k h all in
    let still : get_or (set old j None) slot None ≡ None = get_or-set_other old j slot None None apart ∙ empty in
    let second : Agrees pending (set old j None) (set (set old j None) slot (Some k)) = Agrees-filled pending (set old j None) slot k (omega (arith, length-set old j None)) still all in
    subst (Agrees pending old) (sym is) (Agrees-trans pending old (set old j None) (set (set old j None) slot (Some k)) first second)
Agrees-settled pending old slot k new lt empty all (fills none is) = subst (Agrees pending old) (sym is) (Agrees-filled pending old slot k lt empty all)

-- a sole use in the second slots is one in the first, where its existential is shut
sole_before : (pending : ℕ → Bool) (first second : List (Option Line)) (at : ℕ → ℕ → Bool) → IsFound first at → Agrees pending first second → (sign : Variance) (n : ℕ) (z : Dtv) (slot : ℕ) → pending n ≡ false → IsSoleAt sign n z second slot → (i : ℕ) × IsSoleAt sign n z first i
sole_before pending first second at found agrees sign n z slot shut sole = by ((agrees n (use_of sign n z) shut (use_names sign n (use_of sign n z) (use_has sign n z))).1 (slot, sole.holds))
  where
    is_use : (l : Line) → HasUse sign n l → Stands second l → l ≡ use_of sign n z
    is_use l u (j, g) = one_line second slot l (use_of sign n z) (subst (λ m. Holds second m l) (sole.only j l g u) g) sole.holds

    by : Stands first (use_of sign n z) → (i : ℕ) × IsSoleAt sign n z first i
    by (i, h) = (
      i,
      record {
        other_base = sole.other_base;
        holds = h;
        only = λ j l g u. one_slot first at found j i (use_of sign n z) (subst (Holds first j) (is_use l u ((agrees n l shut (use_names sign n l u)).0 (j, g))) g) h;
      },
    )

-- so each existential with a sole use is open, where each was, but for one that is
pub ArePending-after : (old new : ℕ → Bool) (first second : List (Option Line)) (at : ℕ → ℕ → Bool) (v : ℕ) → IsFound first at → ((n : ℕ) → old n ≡ true → new n ≡ true) → new v ≡ true →
    ((sign : Variance) (n : ℕ) (z : Dtv) (slot : ℕ) → IsSoleAt sign n z first slot → (n ≡ v) ⊎ (old n ≡ true)) → Agrees new first second → ArePending new second
ArePending-after old new first second at v found more own opened agrees sign n z slot sole = by (new n) refl
  where
    was : (n ≡ v) ⊎ (old n ≡ true) → new n ≡ true
    was (inl e) = rw e own
    was (inr e) = more n e

    by : (b : Bool) → new n ≡ b → new n ≡ true
    by true e = e
    by false e = let f = sole_before new first second at found agrees sign n z slot e sole in was (opened sign n z f.0 f.1)
