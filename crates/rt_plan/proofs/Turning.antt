-- What a turn of the driver leads to.
use Rattle.std.proofs.Common.{◌≡◌, ℕ, zero, suc, ◌+◌, ◌<◌, ◌≤◌, ◌&&◌, Bool, true, false, cond, Option, Some, None, List, [], ◌∷◌, ◌++◌, map, length, get_or, refl, sym, ap, subst, ◌∙◌, arith}
use Rattle.std.specs.List.{count_by, list_all}
use Rattle.std.proofs.lemmas.Bool.{false≢true}
use Rattle.std.proofs.lemmas.List.Sums.{sum_by-cons}
use Rattle.std.proofs.lemmas.List.{length-set}
use Rattle.rt_plan.specs.declared.event.Event.TheVariants.{Claim, Publish}
use Rattle.rt_plan.specs.declared.event.Answer.{Answer}
use Rattle.rt_plan.specs.declared.event.Answer.TheVariants.{Done, Idle, AllDone}
use Rattle.rt_plan.specs.declared.event.State.{State}
use Rattle.rt_plan.specs.declared.event.State.TheVariants.{Open, Held, Published}
use Rattle.rt_plan.specs.Plans.{AreLower, Board, applied, claim, claim_by, first_missing, first_open, first_ready, held_by, is_done, is_held_by, is_open, is_published, leave, start, state_at, waits_for, with_state}
use Rattle.rt_plan.specs.Driver.{Drives, first_holder, next_state, turn_of, publishes as drive_publishes, takes as drive_takes, helps as drive_helps}
use Rattle.rt_plan.specs.Laws.{AreDriven, IsOfPlan}
use Rattle.rt_plan.specs.Turns.{IsTurn, publishes, takes, helps, published_count}
use Rattle.rt_plan.proofs.Counts.{count-set, itself, one}
use Rattle.rt_plan.proofs.Driving.{driven_set, holder, held_some, less_work, some_held, weight, work}
use Rattle.rt_plan.proofs.Keeping.{first_ready_within, held_by_within, held_number, held_state, published_not_held, open_not_held, state_here, state_elsewhere}
use Rattle.rt_plan.proofs.Ending.{done_holds_none}
use Rattle.rt_plan.proofs.Trees.{find_some, found_none}

-- a turn and what is driven after it
pub turn_drives : (state : ℕ) (old new : Board) (claims rest : List (ℕ × ℕ)) (n : ℕ) → is_done old ≡ false
    → IsTurn (turn_of (next_state state)) old claims n new → Drives (next_state state) new rest → Drives state old (claims ++ rest)
turn_drives state old new claims rest n undone (publishes h) r = drive_publishes undone h r
turn_drives state old new claims rest n undone (takes h f) r = drive_takes undone h f r
turn_drives state old new claims rest n undone (helps h f w k) r = drive_helps undone h f w k r

-- there is less to do
less_published : (old : Board) (w g : ℕ) → held_by old w ≡ Some g → work (with_state old g Published) < work old
less_published old w g h =
    let one : weight (state_at old g) ≡ 1 = ap weight (held_state old w g h) in
    less_work old g Published (held_by_within old w g h) (omega arith)

pub turn_less : (worker : ℕ) (old new : Board) (claims : List (ℕ × ℕ)) (n : ℕ) → IsTurn worker old claims n new → work new < work old
turn_less worker old new claims n (publishes {g = g} h) = less_published old worker g h
turn_less worker old new claims n (takes {g = g} h f) =
    let ready = first_ready_within old g f in
    let two : weight (state_at old g) ≡ 2 = ap weight ready.1 in
    less_work old g (Held worker) ready.0 (omega arith)
turn_less worker old new claims n (helps {w = w} {g = g} h f e k) = less_published old w g k

-- who holds what
driven_published : (old : Board) (w g : ℕ) → AreDriven old → held_by old w ≡ Some g → AreDriven (with_state old g Published)
driven_published old w g is h = driven_set old is g Published (held_by_within old w g h) (λ v q. absurd (published_not_held v q))

pub turn_driven : (worker : ℕ) (old new : Board) (claims : List (ℕ × ℕ)) (n : ℕ) → worker < 4 → IsTurn worker old claims n new → AreDriven old → AreDriven new
turn_driven worker old new claims n four (publishes {g = g} h) is = driven_published old worker g is h
turn_driven worker old new claims n four (takes {g = g} h f) is =
    driven_set old is g (Held worker) (first_ready_within old g f).0 (λ v q. let same : worker ≡ v = held_number worker v q in omega arith)
turn_driven worker old new claims n four (helps {w = w} {g = g} h f e k) is = driven_published old w g is k

-- how many are published
count_published : (old : Board) (w g : ℕ) → held_by old w ≡ Some g → published_count (with_state old g Published) ≡ published_count old + 1
count_published old w g h =
    let set = count-set is_published old.states g Published Open (held_by_within old w g h) in
    let not_yet : one (is_published (state_at old g)) ≡ 0 = ap (λ s. one (is_published s)) (held_state old w g h) in
    omega arith

pub turn_counts : (worker : ℕ) (old new : Board) (claims : List (ℕ × ℕ)) (n : ℕ) → IsTurn worker old claims n new → published_count new ≡ published_count old + n
turn_counts worker old new claims n (publishes {g = g} h) = count_published old worker g h
turn_counts worker old new claims n (takes {g = g} h f) =
    let ready = first_ready_within old g f in
    let set = count-set is_published old.states g (Held worker) Open ready.0 in
    let not_yet : one (is_published (state_at old g)) ≡ 0 = ap (λ s. one (is_published s)) ready.1 in
    omega arith
turn_counts worker old new claims n (helps {w = w} {g = g} h f e k) = count_published old w g k

-- what stays
written : (board : Board) (g : ℕ) (state : State) → IsOfPlan board (with_state board g state)
written board g state = record { workers = refl; callees = refl; groups = length-set board.states g state }

pub turn_kept : (worker : ℕ) (old new : Board) (claims : List (ℕ × ℕ)) (n : ℕ) → IsTurn worker old claims n new → IsOfPlan old new
turn_kept worker old new claims n (publishes {g = g} h) = written old g Published
turn_kept worker old new claims n (takes {g = g} h f) = written old g (Held worker)
turn_kept worker old new claims n (helps {g = g} h f e k) = written old g Published

-- where no group is ready and not all is published, a worker holds one
pub holder_there : (old : Board) → AreLower old.callees → AreDriven old → is_done old ≡ false → first_ready old ≡ None
    → (w : ℕ) × (g : ℕ) × (first_holder old ≡ Some w) × (held_by old w ≡ Some g)
holder_there old lower is undone none =
    let held = some_held old lower undone none in
    let some = held_some old held.0 held.1 held.2 in
    holder old held.0 some.0 (is held.1 held.0 held.2) some.1

-- the count at the end and at the start
all_counted : (states : List State) → list_all is_published states ≡ true → count_by is_published states ≡ length states
all_counted [] e = refl
all_counted (s ∷ states) e = by (is_published s) refl e (all_counted states)
  where
    by : (b : Bool) → is_published s ≡ b → (b && list_all is_published states) ≡ true → (list_all is_published states ≡ true → count_by is_published states ≡ length states)
        → count_by is_published (s ∷ states) ≡ suc (length states)
    by true q all rest =
        let first : one (is_published s) ≡ 1 = ap one q in
        let later = rest all in
        let both = sum_by-cons (λ t. one (is_published t)) s states in
        omega arith
    by false q all rest = absurd (false≢true all)

pub done_counted : (board : Board) → is_done board ≡ true → published_count board ≡ length board.states
done_counted board done = all_counted board.states done

none_counted : {X : Type 0} (xs : List X) → count_by is_published (map (λ x. Open) xs) ≡ 0
none_counted [] = refl
none_counted (x ∷ xs) = none_counted xs

pub start_counted : (workers : ℕ) (callees : List (List ℕ)) → published_count (start workers callees) ≡ 0
start_counted workers callees = none_counted callees

open_start : (workers : ℕ) (callees : List (List ℕ)) (g : ℕ) → state_at (start workers callees) g ≡ Open
open_start workers callees g = at callees g
  where
    at : {X : Type 0} (xs : List X) (k : ℕ) → get_or (map (λ x. Open) xs) k Open ≡ Open
    at [] k = refl
    at (x ∷ xs) zero = refl
    at (x ∷ xs) (suc k) = at xs k

pub start_driven : (workers : ℕ) (callees : List (List ℕ)) → AreDriven (start workers callees)
start_driven workers callees g w e = absurd (open_not_held w (sym (open_start workers callees g) ∙ e))

-- who gets a group holds it
no_holder : (board : Board) (w g : ℕ) → held_by board w ≡ None → g < length board.states → is_held_by w (state_at board g) ≡ false
no_holder board w g none within = found_none (λ h. is_held_by w (state_at board h)) 0 (length board.states) none g (omega arith) (omega arith)

pub claimed_held : (board : Board) (w g : ℕ) → held_by board w ≡ None → first_ready board ≡ Some g → held_by (with_state board g (Held w)) w ≡ Some g
claimed_held board w g none ready =
    find_some (λ h. is_held_by w (state_at new h)) 0 (length new.states) g (omega arith) (omega (arith, long, within))
    (ap (is_held_by w) (state_here board g (Held w) within) ∙ itself w) before
  where
    new : Board
    new = with_state board g (Held w)

    within : g < length board.states
    within = (first_ready_within board g ready).0

    long : length new.states ≡ length board.states
    long = length-set board.states g (Held w)

    before : (j : ℕ) → 0 ≤ j → j < g → is_held_by w (state_at new j) ≡ false
    before j l h =
        ap (is_held_by w) (state_elsewhere board g (Held w) within j (λ e. omega (arith, e, h)))
        ∙ no_holder board w j none (omega (arith, h, within))

-- What events of the driver come to.
undone_of : {P : Type 0} (b : Bool) → (b ≡ true → P) → (b ≡ false → P) → P
undone_of true when unless = when refl
undone_of false when unless = unless refl

none_is_some : (k : ℕ) → None ≡ Some k → ⊥
none_is_some k e = cc

pub record IsPublished (old : Board) (g : ℕ) (new : Board) : Type 0 where
  pub undone : is_done old ≡ false
  pub new_is : new ≡ with_state old g Published

pub publish_done : (old new : Board) (w g : ℕ) (answer : Answer) → held_by old w ≡ Some g → (answer, new) ≡ applied old (Publish w) → IsPublished old g new
publish_done old new w g answer h e = record { undone = undone; new_is = ap (λ (p : Answer × Board). p.1) e ∙ by_publish }
  where
    undone : is_done old ≡ false
    undone = undone_of (is_done old) (λ done. absurd (none_is_some g (sym (done_holds_none old w done) ∙ h))) (λ e. e)

    by_publish : (applied old (Publish w)).1 ≡ with_state old g Published
    by_publish = ap (λ b. (cond b (AllDone, old) (leave old Published (held_by old w))).1) undone ∙ ap (λ o. (leave old Published o).1) h

-- what a claim comes to of a worker that holds none
pub data IsClaimed (worker : ℕ) (old : Board) : Answer → Board → Type 0 where
  ended : is_done old ≡ true → IsClaimed worker old AllDone old
  got : {g : ℕ} → is_done old ≡ false → first_ready old ≡ Some g → IsClaimed worker old Done (with_state old g (Held worker))
  waits : {answer : Answer} → is_done old ≡ false → first_ready old ≡ None → (answer ≡ Done → ⊥) → (answer ≡ AllDone → ⊥) → IsClaimed worker old answer old

none_ready : (old : Board) → first_open old ≡ None → first_ready old ≡ None
none_ready old none = by (first_ready old) refl
  where
    by : (o : Option ℕ) → first_ready old ≡ o → first_ready old ≡ None
    by None q = q
    by (Some g) q =
        let ready = first_ready_within old g q in
        let off = found_none (λ h. is_open (state_at old h)) 0 (length old.states) none g (omega arith) (omega (arith, ready.0)) in
        absurd (false≢true (sym off ∙ ap is_open ready.1))

waits_not_done : (o : Option ℕ) → waits_for o ≡ Done → ⊥
waits_not_done None e = cc
waits_not_done (Some c) e = cc

waits_not_all : (o : Option ℕ) → waits_for o ≡ AllDone → ⊥
waits_not_all None e = cc
waits_not_all (Some c) e = cc

idle_not_done : Idle ≡ Done → ⊥
idle_not_done e = cc

idle_not_all : Idle ≡ AllDone → ⊥
idle_not_all e = cc

pub claimed : (old : Board) (w : ℕ) → held_by old w ≡ None → IsClaimed w old (applied old (Claim w)).0 (applied old (Claim w)).1
claimed old w none = undone_of (is_done old) when unless
  where
    Comes : Answer × Board → Type 0
    Comes p = IsClaimed w old p.0 p.1

    when : is_done old ≡ true → Comes (applied old (Claim w))
    when done = subst Comes (sym (ap (λ b. cond b (AllDone, old) (claim old w (held_by old w))) done)) (ended done)

    by : (first ready : Option ℕ) → first_open old ≡ first → first_ready old ≡ ready → is_done old ≡ false → Comes (claim_by old w first ready)
    by None ready e f undone = waits undone (none_ready old e) idle_not_done idle_not_all
    by (Some g) None e f undone = waits undone f (waits_not_done (first_missing old g)) (waits_not_all (first_missing old g))
    by (Some g) (Some h) e f undone = got undone f

    unless : is_done old ≡ false → Comes (applied old (Claim w))
    unless undone =
        subst Comes (sym (ap (λ b. cond b (AllDone, old) (claim old w (held_by old w))) undone ∙ ap (claim old w) none))
        (by (first_open old) (first_ready old) refl refl undone)
