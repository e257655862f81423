-- A step of moving lines.
use Rattle.std.proofs.Common.{◌≡◌, ◌≢◌, ℕ, ◌+◌, ◌<◌, ◌≤◌, ◌⊎◌, inl, inr, List, length, get_or, map, Bool, true, Option, Some, None, refl, sym, ap, subst, ◌∙◌, arith}
use Rattle.std.proofs.Math.ListN.{set}
use Rattle.std.proofs.lemmas.List.{get_or-set_same, length-set}
use Rattle.rt_lines.specs.declared.variable.Base.TheVariants.{Exist}
use Rattle.rt_lines.specs.declared.variable.Dtv.{Dtv}
use Rattle.rt_lines.specs.declared.line.Line.{Line}
use Rattle.rt_rules.specs.Put.{put_lines}
use Rattle.rt_lines.specs.Numbering.{deduplicated}
use Rattle.rt_polar.specs.declared.index.Kind.TheVariants.{Naming}
use Rattle.rt_polar.specs.Index.{Names}
use Rattle.rt_polar.specs.Inside.Places.{Agrees, Holds, IsFound, IsIndexed, Settles, lines_of, moved}
use Rattle.rt_polar.specs.Inside.Places.Settles.{stands_before, moves, fills}
use Rattle.rt_polar.specs.Tidied.{tidied, without_self}
use Rattle.rt_polar.proofs.Agreeing.{Agrees-cleared, Agrees-opened, Agrees-refl, Agrees-settled, Agrees-trans}
use Rattle.rt_polar.proofs.Giving.{moved_all, step_same}
use Rattle.rt_polar.proofs.Moved.{moved-names, moved-unnamed}
use Rattle.rt_polar.proofs.Slots.{cleared_source, filled_source, within}

pub settles_length : (old : List (Option Line)) (slot : ℕ) (k : Line) (new : List (Option Line)) → Settles old slot k new → length new ≡ length old
settles_length old slot k new (stands_before i less h is) = ap length is
settles_length old slot k new (moves i less h is) = ap length is ∙ length-set (set old i None) slot (Some k) ∙ length-set old i None
settles_length old slot k new (fills none is) = ap length is ∙ length-set old slot (Some k)

-- what a slot holds after a line settled was there, or is the line
pub settles_source : (old : List (Option Line)) (slot : ℕ) (k : Line) (new : List (Option Line)) → slot < length old → Settles old slot k new → (i : ℕ) (l : Line) → Holds new i l → (k ≡ l) ⊎ Holds old i l
settles_source old slot k new lt (stands_before j less h is) i l g = inr (subst (λ s. Holds s i l) is g)
settles_source old slot k new lt (moves j less h is) i l g = by (filled_source (set old j None) slot i k l (omega (arith, lt, length-set old j None)) (subst (λ s. Holds s i l) is g))
  where
    by : ((i ≡ slot) × (k ≡ l)) ⊎ ((i ≢ slot) × Holds (set old j None) i l) → (k ≡ l) ⊎ Holds old i l
    by (inl (e, f)) = inl f
    by (inr (apart, f)) = inr (cleared_source old j i l f).1
settles_source old slot k new lt (fills none is) i l g = by (filled_source old slot i k l lt (subst (λ s. Holds s i l) is g))
  where
    by : ((i ≡ slot) × (k ≡ l)) ⊎ ((i ≢ slot) × Holds old i l) → (k ≡ l) ⊎ Holds old i l
    by (inl (e, f)) = inl f
    by (inr (apart, f)) = inr f

-- how far the lines are moved: no slot before one names the existential any more
pub record AreMoved (v : ℕ) (z : Dtv) (from : ℕ) (first now : List (Option Line)) (naming : ℕ → ℕ → Bool) (old pending : ℕ → Bool) : Type 0 where
  pub long : length now ≡ length first
  pub before : (i : ℕ) → i < from → naming v i ≡ true → ⊥
  pub same : deduplicated (map (moved v z) (lines_of now)) ≡ deduplicated (map (moved v z) (lines_of first))
  pub kept : (n : ℕ) → old n ≡ true → pending n ≡ true
  pub agree : Agrees pending first now

module _ (v : ℕ) (z : Dtv) (first now next : List (Option Line)) (from slot : ℕ) (line : Line) (naming naming' : ℕ → ℕ → Bool) (old pending pending' : ℕ → Bool)
    (other : z.base ≢ Exist v)
    (own : (n : ℕ) → z.base ≡ Exist n → old n ≡ true)
    (until : AreMoved v z from first now naming old pending)
    (indexed : IsIndexed Naming now naming)
    (indexed' : IsIndexed Naming next naming')
    (least : (i : ℕ) → from ≤ i → naming v i ≡ true → slot ≤ i)
    (held : Holds now slot line)
    (settles : Settles (set now slot None) slot (moved v z line) next)
    (kept : (n : ℕ) → pending n ≡ true → pending' n ≡ true)
    (added : (n : ℕ) → Names n line → pending' n ≡ true) where
  lt : slot < length now
  lt = within now slot line held

  lt' : slot < length (set now slot None)
  lt' = omega (arith, lt, length-set now slot None)

  empty : get_or (set now slot None) slot None ≡ None
  empty = get_or-set_same now slot None None lt

  none_before : (i : ℕ) (l : Line) → i < slot + 1 → Names v l → (moved v z line ≡ l) ⊎ Holds (set now slot None) i l → ⊥
  none_before i l less names (inl e) = moved-unnamed v z other line (subst (Names v) (sym e) names)
  none_before i l less names (inr h) = by (cleared_source now slot i l h)
    where
      case : naming v i ≡ true → i ≢ slot → (i < from) ⊎ (from ≤ i) → ⊥
      case e apart (inl f) = until.before i f e
      case e apart (inr f) = let le : slot ≤ i = least i f e in omega (arith, less, apart, le)

      or_from : (i from : ℕ) → (i < from) ⊎ (from ≤ i)
      or_from i from = grind arith

      by : (i ≢ slot) × Holds now i l → ⊥
      by (apart, g) = case (indexed.here v i l g names) apart (or_from i from)

  names_pending : (m : ℕ) → Names m (moved v z line) → pending' m ≡ true
  names_pending m names = by (moved-names v z m line names)
    where
      by : Names m line ⊎ (z.base ≡ Exist m) → pending' m ≡ true
      by (inl h) = added m h
      by (inr e) = kept m (until.kept m (own m e))

  pub moved_step : AreMoved v z (slot + 1) first next naming' old pending'
  moved_step = record {
    long = settles_length (set now slot None) slot (moved v z line) next settles ∙ length-set now slot None ∙ until.long;
    before = λ i less e. let s = indexed'.source v i e in none_before i s.0 less s.2 (settles_source (set now slot None) slot (moved v z line) next lt' settles i s.0 s.1);
    same = step_same v z now slot line next other held settles ∙ until.same;
    kept = λ n e. kept n (until.kept n e);
    agree = Agrees-trans pending' first now next (Agrees-opened pending pending' first now kept until.agree)
        (Agrees-trans pending' now (set now slot None) next (Agrees-cleared pending' now slot line held added) (Agrees-settled pending' (set now slot None) slot (moved v z line) next lt' empty names_pending settles));
  }

  -- where no slot behind names it, none does afterwards
  pub none_after : ((i : ℕ) → slot + 1 ≤ i → naming v i ≡ true → ⊥) → (i : ℕ) → slot + 1 ≤ i → naming' v i ≡ true → ⊥
  none_after none i le e = let s = indexed'.source v i e in by s.0 s.2 (settles_source (set now slot None) slot (moved v z line) next lt' settles i s.0 s.1)
    where
      by : (l : Line) → Names v l → (moved v z line ≡ l) ⊎ Holds (set now slot None) i l → ⊥
      by l names (inl f) = moved-unnamed v z other line (subst (Names v) (sym f) names)
      by l names (inr h) = none i le (indexed.here v i l (cleared_source now slot i l h).1 names)

-- before the first is moved
pub AreMoved-none : (v : ℕ) (z : Dtv) (first : List (Option Line)) (naming : ℕ → ℕ → Bool) (pending : ℕ → Bool) → AreMoved v z 0 first first naming pending pending
AreMoved-none v z first naming pending = record {
  long = refl;
  before = λ i less e. omega (arith, less);
  same = refl;
  kept = λ n e. e;
  agree = Agrees-refl pending first;
}

-- when no slot names the existential, all are moved
pub moved_end : (v : ℕ) (z : Dtv) (from : ℕ) (first last : List (Option Line)) (at : ℕ → ℕ → Bool) (naming : ℕ → ℕ → Bool) (old pending : ℕ → Bool) → AreMoved v z from first last naming old pending →
    IsFound last at → IsIndexed Naming last naming → ((i : ℕ) (l : Line) → Holds last i l → without_self l ≡ l) → ((i : ℕ) → from ≤ i → naming v i ≡ true → ⊥) → lines_of last ≡ tidied (put_lines v z (lines_of first))
moved_end v z from first last at naming old pending until found indexed plain none = moved_all v z first last at found plain (λ i l h names. by i (indexed.here v i l h names) (or_from i from)) until.same
  where
    or_from : (i from : ℕ) → (i < from) ⊎ (from ≤ i)
    or_from i from = grind arith

    by : (i : ℕ) → naming v i ≡ true → (i < from) ⊎ (from ≤ i) → ⊥
    by i e (inl f) = until.before i f e
    by i e (inr f) = none i f e
