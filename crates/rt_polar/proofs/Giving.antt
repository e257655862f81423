-- An existential gives its place away in slots.
use Rattle.std.proofs.Common.{◌≡◌, ◌≢◌, ℕ, suc, ◌<◌, ◌≤◌, ◌⊎◌, inl, inr, List, ◌∷◌, ◌++◌, length, get_or, map, take, drop, Bool, true, Option, Some, None, Result, Ok, Err, OnOk, sym, ap, subst, ◌∙◌, arith}
use Rattle.std.proofs.Math.ListN.{set}
use Rattle.std.proofs.lemmas.List.{get_or-set_same, length-set, set-set}
use Rattle.rt_lines.specs.declared.label.Variance.{Variance}
use Rattle.rt_lines.specs.declared.label.Variance.TheVariants.{Co, Contra}
use Rattle.rt_lines.specs.declared.variable.Base.TheVariants.{Exist}
use Rattle.rt_lines.specs.declared.variable.Dtv.{Dtv}
use Rattle.rt_lines.specs.declared.line.Line.{Line}
use Rattle.rt_lines.specs.declared.line.Line.TheVariants.{Var}
use Rattle.rt_rules.specs.Laws.{NamesBase}
use Rattle.rt_rules.specs.Put.{put_lines, use_of}
use Rattle.rt_lines.specs.Numbering.{deduplicated}
use Rattle.rt_polar.specs.declared.index.Kind.TheVariants.{Naming}
use Rattle.rt_polar.specs.Index.{Names}
use Rattle.rt_polar.specs.Inside.Places.{Agrees, ArePending, Holds, IsFound, IsIndexed, IsSoleAt, Settles, lines_of, moved}
use Rattle.rt_polar.specs.Puts.{Exchanges, IsLeast, Puts}
use Rattle.rt_polar.specs.Puts.Exchanges.{goes, exists_still}
use Rattle.rt_polar.specs.Puts.Puts.{none_left, puts}
use Rattle.rt_polar.specs.Tidied.{tidied, without_self}
use Rattle.rt_polar.specs.Inside.Turns.{GivesAway, IsNextTurn, other_lines}
use Rattle.rt_polar.proofs.Agreeing.{Agrees-cleared, Agrees-settled, Agrees-trans, ArePending-after}
use Rattle.rt_polar.proofs.Moved.{changed_same, map-replaced, moved-again, moved-apart, tidied-moved}
use Rattle.rt_polar.proofs.Settling.{settled}
use Rattle.rt_polar.proofs.Slots.{lines_cleared, lines_cut, lines_filled, lines_has, lines_source, within}
use Rattle.rt_polar.proofs.Soles.{candidate_of, candidate_sole, HasSoleAt, IsAnyCandidate, place_of}

-- what lines name, their slots name
pub names_in : (slots : List (Option Line)) (n : ℕ) → NamesBase (lines_of slots) (Exist n) → (i : ℕ) × (l : Line) × Holds slots i l × Names n l
names_in slots n (l, x, c, h, e) = let s = lines_source slots l c in (s.0, l, s.1, (x, h, e))

pub names_out : (slots : List (Option Line)) (n i : ℕ) (l : Line) → Holds slots i l → Names n l → NamesBase (lines_of slots) (Exist n)
names_out slots n i l h (x, g, e) = (l, x, lines_has slots i l h, g, e)

-- a line of the emptied slots, which is moved, counts as the line before it did
pub step_same : (n : ℕ) (z : Dtv) (now : List (Option Line)) (slot : ℕ) (l : Line) (next : List (Option Line)) → z.base ≢ Exist n → Holds now slot l → Settles (set now slot None) slot (moved n z l) next →
    deduplicated (map (moved n z) (lines_of next)) ≡ deduplicated (map (moved n z) (lines_of now))
step_same n z now slot l next other h settles =
    let lt : slot < length now = within now slot l h in
    let lt' : slot < length (set now slot None) = omega (arith, lt, length-set now slot None) in
    settled (moved n z) (set now slot None) slot (moved n z l) next lt' (get_or-set_same now slot None None lt) settles
    ∙ ap (λ slots. deduplicated (map (moved n z) (lines_of slots))) (set-set now slot None (Some (moved n z l)))
    ∙ ap deduplicated (map-replaced (moved n z) now slot l (moved n z l) h (moved-again n z other l))

-- when no line names the existential any more, the lines are those moved and tidied
pub moved_all : (n : ℕ) (z : Dtv) (first last : List (Option Line)) (at : ℕ → ℕ → Bool) → IsFound last at → ((i : ℕ) (l : Line) → Holds last i l → without_self l ≡ l) → ((i : ℕ) (l : Line) → Holds last i l → Names n l → ⊥) →
    deduplicated (map (moved n z) (lines_of last)) ≡ deduplicated (map (moved n z) (lines_of first)) → lines_of last ≡ tidied (put_lines n z (lines_of first))
moved_all n z first last at found plain unnamed same =
    sym (changed_same (moved n z) last at found (λ i l h. moved-apart n z l (unnamed i l h) (plain i l h))) ∙ same ∙ sym (tidied-moved n z (lines_of first))

-- where another line names it
pub gives_named : (n : ℕ) (z : Dtv) (slots : List (Option Line)) (slot i : ℕ) (l : Line) (lines : List Line) → slot < length slots → Holds (set slots slot None) i l → Names n l →
    lines ≡ tidied (put_lines n z (lines_of (set slots slot None))) → GivesAway n z slots slot lines
gives_named n z slots slot i l lines lt h names is =
    let cut : lines_of (set slots slot None) ≡ other_lines slots slot = lines_cleared slots slot lt in
    inl (subst (λ ls. NamesBase ls (Exist n)) cut (names_out (set slots slot None) n i l h names), is ∙ ap (λ ls. tidied (put_lines n z ls)) cut)

-- where none does
pub gives_unnamed : (n : ℕ) (z : Dtv) (slots : List (Option Line)) (slot : ℕ) (new : List (Option Line)) (at : ℕ → ℕ → Bool) → slot < length slots → ((i : ℕ) (l : Line) → Holds (set slots slot None) i l → Names n l → ⊥) →
    Settles (set slots slot None) slot (Var z) new → IsFound new at → ((i : ℕ) (l : Line) → Holds new i l → without_self l ≡ l) → GivesAway n z slots slot (lines_of new)
gives_unnamed n z slots slot new at lt unnamed settles found plain =
    let cut : lines_of (set slots slot None) ≡ other_lines slots slot = lines_cleared slots slot lt in
    let lt' : slot < length (set slots slot None) = omega (arith, lt, length-set slots slot None) in
    let same : deduplicated (map without_self (lines_of new)) ≡ deduplicated (map without_self (lines_of (set (set slots slot None) slot (Some (Var z))))) =
    settled without_self (set slots slot None) slot (Var z) new lt' (get_or-set_same slots slot None None lt) settles in
    let filled : lines_of (set (set slots slot None) slot (Some (Var z))) ≡ lines_of (take slot slots) ++ Var z ∷ lines_of (drop (suc slot) slots) =
    ap lines_of (set-set slots slot None (Some (Var z))) ∙ lines_filled slots slot (Var z) lt in
    inr (
      λ names. none (names_in (set slots slot None) n (subst (λ ls. NamesBase ls (Exist n)) (sym cut) names)),
      sym (changed_same without_self new at found plain) ∙ same ∙ ap (λ ls. deduplicated (map without_self ls)) filled,
    )
  where
    none : (i : ℕ) × (l : Line) × Holds (set slots slot None) i l × Names n l → ⊥
    none (i, l, h, names) = unnamed i l h names

-- a turn is a step of putting
pub turn_step : (n : ℕ) (z : Dtv) (slot : ℕ) (slots : List (Option Line)) (at : ℕ → ℕ → Bool) (pending : ℕ → Bool) (between left : List Line) → IsFound slots at → IsNextTurn n z slot slots pending →
    GivesAway n z slots slot between → Puts left between → Puts left (lines_of slots)
turn_step n z slot slots at pending between left found next gives rest = puts n (lines_of slots) between least (by gives) rest
  where
    candidate : IsAnyCandidate n (lines_of slots) next.sign (place_of slots slot) z
    candidate = candidate_of next.sign n z slots at slot found next.turn

    cut : lines_of slots ≡ lines_of (take slot slots) ++ use_of next.sign n z ∷ lines_of (drop (suc slot) slots)
    cut = lines_cut slots slot (use_of next.sign n z) next.turn.sole.holds

    less : (m : ℕ) → m < n → HasSoleAt m slots → ⊥
    less m lt s = next.least m lt s.sign s.z s.slot s.sole

    least : IsLeast n (lines_of slots)
    least = record {
      has = record { sign = next.sign; place = place_of slots slot; left = candidate.left; z = z; is = candidate.is };
      least = λ m lt has. less m lt (candidate_sole m slots at found has);
    }

    by : GivesAway n z slots slot between → Exchanges n (lines_of slots) between
    by (inl (names, is)) = subst (Exchanges n (lines_of slots)) (sym is) (goes next.sign (place_of slots slot) candidate.left z (lines_of (take slot slots)) (lines_of (drop (suc slot) slots)) candidate.is cut names)
    by (inr (none, is)) = subst (Exchanges n (lines_of slots)) (sym is) (exists_still next.sign (place_of slots slot) candidate.left z (lines_of (take slot slots)) (lines_of (drop (suc slot) slots)) candidate.is cut none)

-- where no existential has a sole use, none has a candidate
pub turns_end : (slots : List (Option Line)) (at : ℕ → ℕ → Bool) → IsFound slots at → ((n : ℕ) (sign : Variance) (z : Dtv) (slot : ℕ) → IsSoleAt sign n z slots slot → ⊥) → Puts (lines_of slots) (lines_of slots)
turns_end slots at found none = none_left (λ n has. by n (candidate_sole n slots at found has))
  where
    by : (n : ℕ) → HasSoleAt n slots → ⊥
    by n s = none n s.sign s.z s.slot s.sole

-- the use names the existential and the base of the other side alone
use_named : (sign : Variance) (n : ℕ) (z : Dtv) (m : ℕ) → Names m (use_of sign n z) → (m ≡ n) ⊎ (z.base ≡ Exist m)
use_named Co n z m (x, inl e, f) = inr (ap (λ y. y.base) e ∙ f)
use_named Co n z m (x, inr e, f) = let g : Exist n ≡ Exist m = ap (λ y. y.base) e ∙ f in inl cc
use_named Contra n z m (x, inl e, f) = let g : Exist n ≡ Exist m = ap (λ y. y.base) e ∙ f in inl cc
use_named Contra n z m (x, inr e, f) = inr (ap (λ y. y.base) e ∙ f)

-- each existential with a sole use is pending afterwards
pub pending_after : (v : ℕ) (z : Dtv) (slot : ℕ) (first cleared second : List (Option Line)) (at : ℕ → ℕ → Bool) (old added new : ℕ → Bool) → IsFound first at → IsNextTurn v z slot first old → cleared ≡ set first slot None →
    ((n : ℕ) → old n ≡ true → added n ≡ true) → added v ≡ true → ((n : ℕ) → z.base ≡ Exist n → added n ≡ true) → ((n : ℕ) → added n ≡ true → new n ≡ true) → Agrees new cleared second → ArePending new second
pending_after v z slot first cleared second at old added new found next is more own side kept agrees =
    ArePending-after old new first second at v found (λ n e. kept n (more n e)) (kept v own) next.others
    (Agrees-trans new first (set first slot None) second (Agrees-cleared new first slot (use_of next.sign v z) next.turn.sole.holds (λ m names. by m (use_named next.sign v z m names)))
    (subst (λ s. Agrees new s second) is agrees))
  where
    by : (m : ℕ) → (m ≡ v) ⊎ (z.base ≡ Exist m) → new m ≡ true
    by m (inl e) = kept m (rw e own)
    by m (inr e) = kept m (side m e)

-- a variable alone settles
pub pending_settled : (z : Dtv) (slot : ℕ) (first cleared second : List (Option Line)) (new : ℕ → Bool) → slot < length first → cleared ≡ set first slot None → ((n : ℕ) → z.base ≡ Exist n → new n ≡ true) → Settles cleared slot (Var z) second → Agrees new cleared second
pending_settled z slot first cleared second new lt is side settles =
    Agrees-settled new cleared slot (Var z) second (subst (λ s. slot < length s) (sym is) (omega (arith, lt, length-set first slot None))) (subst (λ s. get_or s slot None ≡ None) (sym is) (get_or-set_same first slot None None lt))
    (λ m names. by m names) settles
  where
    by : (m : ℕ) → Names m (Var z) → new m ≡ true
    by m (x, e, f) = side m (ap (λ y. y.base) e ∙ f)

pub turn_within : (n : ℕ) (z : Dtv) (slot : ℕ) (slots : List (Option Line)) (pending : ℕ → Bool) → IsNextTurn n z slot slots pending → slot < length slots
turn_within n z slot slots pending next = within slots slot (use_of next.sign n z) next.turn.sole.holds

-- where another line names it, after its slot is cleared
pub gives_in_some : (n : ℕ) (z : Dtv) (slots cleared : List (Option Line)) (slot i : ℕ) (naming : ℕ → ℕ → Bool) (lines : List Line) → slot < length slots → cleared ≡ set slots slot None → IsIndexed Naming cleared naming → naming n i ≡ true →
    lines ≡ tidied (put_lines n z (lines_of cleared)) → GivesAway n z slots slot lines
gives_in_some n z slots cleared slot i naming lines lt is indexed e same =
    let s = indexed.source n i e in
    gives_named n z slots slot i s.0 lines lt (subst (λ c. Holds c i s.0) is s.1) s.2 (same ∙ ap (λ c. tidied (put_lines n z (lines_of c))) is)

-- where none does
pub gives_in_none : (n : ℕ) (z : Dtv) (slots cleared new : List (Option Line)) (slot : ℕ) (naming : ℕ → ℕ → Bool) (at : ℕ → ℕ → Bool) → slot < length slots → cleared ≡ set slots slot None → IsIndexed Naming cleared naming →
    ((i : ℕ) → 0 ≤ i → naming n i ≡ true → ⊥) → Settles cleared slot (Var z) new → IsFound new at → ((i : ℕ) (l : Line) → Holds new i l → without_self l ≡ l) → GivesAway n z slots slot (lines_of new)
gives_in_none n z slots cleared new slot naming at lt is indexed none settles found plain =
    gives_unnamed n z slots slot new at lt (λ i l h names. none i (omega arith) (indexed.here n i l (subst (λ c. Holds c i l) (sym is) h) names)) (subst (λ c. Settles c slot (Var z) new) is settles) found plain

-- two promises of one result
pub on_ok_both : {X E : Type 0} (r : Result X E) (P Q R : Type 0) → (P → Q → R) → OnOk r P → OnOk r Q → OnOk r R
on_ok_both (Ok x) P Q R f p q = f p q
on_ok_both (Err e) P Q R f p q = tt

-- the side that was taken out is the one that comes in the place
pub next_side : (n : ℕ) (side z : Dtv) (slot : ℕ) (slots : List (Option Line)) (pending : ℕ → Bool) → Some side ≡ Some z → IsNextTurn n z slot slots pending → IsNextTurn n side slot slots pending
next_side n side z slot slots pending e next = let f : z ≡ side = cc in subst (λ y. IsNextTurn n y slot slots pending) f next
