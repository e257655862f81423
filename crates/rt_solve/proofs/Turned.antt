-- What a turn of the driver comes to.
use Rattle.std.proofs.Common.{◌≡◌, ℕ, zero, suc, ◌+◌, ◌<◌, ◌≤◌, Bool, true, false, cond, not, Option, Some, None, IsSome, List, [], ◌∷◌, ◌++◌, All, length, get_or, refl, sym, ap, subst, ◌∙◌, arith}
use Rattle.std.specs.Prelude.{find, is_none, is_some}
use Rattle.std.proofs.Common.{append-nil}
use Rattle.rt_plan.specs.declared.event.Event.{Event}
use Rattle.rt_plan.specs.declared.event.Event.TheVariants.{Claim, Publish}
use Rattle.rt_plan.specs.declared.event.Answer.{Answer}
use Rattle.rt_plan.specs.declared.event.Answer.TheVariants.{Done, AllDone}
use Rattle.rt_plan.specs.declared.event.State.TheVariants.{Held, Published}
use Rattle.rt_plan.specs.Driver.{first_holder}
use Rattle.rt_plan.specs.Laws.{AreDriven, IsOfPlan}
use Rattle.rt_plan.specs.Plans.{AreLower, Board, applied, first_ready, held_by, is_done, published_by, with_state}
use Rattle.rt_plan.specs.Turns.{IsTurn, publishes, takes, helps}
use Rattle.rt_plan.proofs.Ending.{published_if}
use Rattle.rt_plan.proofs.Events.{kept}
use Rattle.rt_plan.proofs.Turning.{IsClaimed, ended, got, waits, claimed, claimed_held, holder_there, publish_done}
use Rattle.rt_solve.specs.Claimed.{Claimed}
use Rattle.rt_solve.specs.Runs.{Course, IsRun, IsStep, Stage, Task, done, onward}
use Rattle.rt_solve.specs.Steps.{RoseBy, once}
use Rattle.rt_solve.specs.Inside.Turns.{ComesFrom, Helps, IsEnded, IsTurned, Publishes}
use Rattle.rt_solve.proofs.Counting.{none_rose, rose_more, rose_none}

-- Options.
pub some_is : {X : Type 0} (o : Option X) → IsSome o → (x : X) × (o ≡ Some x)
some_is None e = absurd (let off : false ≡ true = e in cc)
some_is (Some x) e = (x, refl)

pub none_is : {X : Type 0} (o : Option X) → is_some o ≡ false → o ≡ None
none_is None e = refl
none_is (Some x) e = absurd (let off : true ≡ false = e in cc)

some_not_none : {X : Type 0} (o : Option X) → is_some o ≡ true → not (is_none o) ≡ true
some_not_none None e = e
some_not_none (Some x) e = refl

none_none : {X : Type 0} (o : Option X) → o ≡ None → not (is_none o) ≡ false
none_none o e = ap (λ p. not (is_none p)) e

not_none_some : {X : Type 0} (o : Option X) → not (is_none o) ≡ true → IsSome o
not_none_some None e = e
not_none_some (Some x) e = refl

no_some : (k : ℕ) → None ≡ Some k → ⊥
no_some k e = cc

same_some : (j k : ℕ) → Some j ≡ Some k → j ≡ k
same_some j k e = cc

-- The least worker that holds a group.
skip : (p : ℕ → Bool) (x : ℕ) (xs : List ℕ) → p x ≡ false → find p (x ∷ xs) ≡ find p xs
skip p x xs e = ap (λ b. cond b (Some x) (find p xs)) e

here : (p : ℕ → Bool) (x : ℕ) (xs : List ℕ) → p x ≡ true → find p (x ∷ xs) ≡ Some x
here p x xs e = ap (λ b. cond b (Some x) (find p xs)) e

holds : Board → ℕ → Bool
holds board w = not (is_none (held_by board w))

pub first_is : (board : Board) (w : ℕ) → w < 4 → is_some (held_by board w) ≡ true → ((v : ℕ) → v < w → held_by board v ≡ None)
    → first_holder board ≡ Some w
first_is board zero lt some before =
    here (λ w. not (is_none (held_by board w))) 0 (1 ∷ 2 ∷ 3 ∷ []) (some_not_none (held_by board 0) some)
first_is board (suc zero) lt some before =
    skip (λ w. not (is_none (held_by board w))) 0 (1 ∷ 2 ∷ 3 ∷ []) (none_none (held_by board 0) (before 0 (omega arith)))
    ∙ here (λ w. not (is_none (held_by board w))) 1 (2 ∷ 3 ∷ []) (some_not_none (held_by board 1) some)
first_is board (suc (suc zero)) lt some before =
    skip (λ w. not (is_none (held_by board w))) 0 (1 ∷ 2 ∷ 3 ∷ []) (none_none (held_by board 0) (before 0 (omega arith)))
    ∙ skip (λ w. not (is_none (held_by board w))) 1 (2 ∷ 3 ∷ []) (none_none (held_by board 1) (before 1 (omega arith)))
    ∙ here (λ w. not (is_none (held_by board w))) 2 (3 ∷ []) (some_not_none (held_by board 2) some)
first_is board (suc (suc (suc zero))) lt some before =
    skip (λ w. not (is_none (held_by board w))) 0 (1 ∷ 2 ∷ 3 ∷ []) (none_none (held_by board 0) (before 0 (omega arith)))
    ∙ skip (λ w. not (is_none (held_by board w))) 1 (2 ∷ 3 ∷ []) (none_none (held_by board 1) (before 1 (omega arith)))
    ∙ skip (λ w. not (is_none (held_by board w))) 2 (3 ∷ []) (none_none (held_by board 2) (before 2 (omega arith)))
    ∙ here (λ w. not (is_none (held_by board w))) 3 [] (some_not_none (held_by board 3) some)
first_is board (suc (suc (suc (suc w)))) lt some before = absurd (omega (arith, lt))

pub first_none : (board : Board) → ((v : ℕ) → v < 4 → held_by board v ≡ None) → first_holder board ≡ None
first_none board none =
    skip (λ w. not (is_none (held_by board w))) 0 (1 ∷ 2 ∷ 3 ∷ []) (none_none (held_by board 0) (none 0 (omega arith)))
    ∙ skip (λ w. not (is_none (held_by board w))) 1 (2 ∷ 3 ∷ []) (none_none (held_by board 1) (none 1 (omega arith)))
    ∙ skip (λ w. not (is_none (held_by board w))) 2 (3 ∷ []) (none_none (held_by board 2) (none 2 (omega arith)))
    ∙ skip (λ w. not (is_none (held_by board w))) 3 [] (none_none (held_by board 3) (none 3 (omega arith)))

found_by : (p : ℕ → Bool) (x : ℕ) (xs : List ℕ) (w : ℕ) (b : Bool) → p x ≡ b → x < 4 → find p (x ∷ xs) ≡ Some w
    → (find p xs ≡ Some w → (w < 4) × (p w ≡ true)) → (w < 4) × (p w ≡ true)
found_by p x xs w true q lt e rest =
    let same : x ≡ w = same_some x w (sym (here p x xs q) ∙ e) in
    (subst (λ n. n < 4) same lt, subst (λ n. p n ≡ true) same q)
found_by p x xs w false q lt e rest = rest (sym (skip p x xs q) ∙ e)

found : (p : ℕ → Bool) (xs : List ℕ) (w : ℕ) → All (λ x. x < 4) xs → find p xs ≡ Some w → (w < 4) × (p w ≡ true)
found p [] w all e = absurd (no_some w e)
found p (x ∷ xs) w all e =
    found_by p x xs w (p x) refl (all 0 x (omega arith)) e (λ f. found p xs w (λ k d lt. all (suc k) d (omega (arith, lt))) f)

four : All (λ x. x < 4) (0 ∷ 1 ∷ 2 ∷ 3 ∷ [])
four zero d lt = omega arith
four (suc zero) d lt = omega arith
four (suc (suc zero)) d lt = omega arith
four (suc (suc (suc zero))) d lt = omega arith
four (suc (suc (suc (suc k)))) d lt = absurd (omega (arith, lt))

pub holder_within : (board : Board) (w : ℕ) → first_holder board ≡ Some w → w < 4
holder_within board w e = (found (λ w. not (is_none (held_by board w))) (0 ∷ 1 ∷ 2 ∷ 3 ∷ []) w four e).0

pub holder_holds : (board : Board) (w : ℕ) → first_holder board ≡ Some w → IsSome (held_by board w)
holder_holds board w e = not_none_some (held_by board w) (found (λ w. not (is_none (held_by board w))) (0 ∷ 1 ∷ 2 ∷ 3 ∷ []) w four e).1

-- Events, one after the other.
pub one_step : (old new : Course) (event : Event) (answer : Answer) → new.task ≡ old.task → new.count ≡ old.count
    → IsStep old.task old.stage event answer new.stage → ComesFrom old new
one_step old new event answer task count step = record {
  task = task;
  count = count;
  events = event ∷ [];
  run = onward step done;
}

then : (task : Task) (first middle last : Stage) (events more : List Event) → IsRun task first events middle → IsRun task middle more last
    → IsRun task first (events ++ more) last
then task first middle last events more done rest = rest
then task first middle last events more (onward {middle = next} {events = left} step run) rest =
    onward step (then task next middle last left more run rest)

pub comes_trans : (first second third : Course) → ComesFrom first second → ComesFrom second third → ComesFrom first third
comes_trans first second third a b = record {
  task = b.task ∙ a.task;
  count = b.count ∙ a.count;
  events = a.events ++ b.events;
  run = then first.task first.stage second.stage third.stage a.events b.events a.run
      (subst (λ task. IsRun task second.stage b.events third.stage) a.task b.run);
}

-- A worker publishes the group that it holds.
pub published_one : (board : Board) (w : ℕ) → IsSome (held_by board w) → once (published_by board (Publish w)) ≡ 1
published_one board w some =
    let held = some_is (held_by board w) some in
    ap once (sym (published_if board w) ∙ held.1)

pub publishes_by : (worker : ℕ) (old new : Course) (answer : Answer) → IsSome (held_by old.stage.board worker) → new.task ≡ old.task
    → new.count ≡ old.count → IsStep old.task old.stage (Publish worker) answer new.stage → Publishes worker old new
publishes_by worker old new answer some task count step =
    let held = some_is (held_by old.stage.board worker) some in
    let is = publish_done old.stage.board new.stage.board worker held.0 answer held.1 step.is_answer in
    record {
      group = held.0;
      undone = is.undone;
      holds = held.1;
      comes = one_step old new (Publish worker) answer task count step;
      board = is.new_is;
    }

-- Turns.
nothing_noted : (before : Claimed) → before ≡ record { number = before.number; claims = before.claims ++ [] }
nothing_noted before = λ i. record { number = before.number; claims = sym (append-nil before.claims) i }

pub turned_publishes : (worker : ℕ) (old new : Course) (before : Claimed) (from to : ℕ) → Publishes worker old new → RoseBy 1 from to
    → IsTurned worker old new before before from to
turned_publishes worker old new before from to is rose = record {
  undone = is.undone;
  comes = is.comes;
  claims = [];
  published = 1;
  turn = subst (IsTurn worker old.stage.board [] 1) (sym is.board) (publishes is.holds);
  noted = nothing_noted before;
  rose = rose;
}

module _ (worker : ℕ) (old new : Course) (answer : Answer) (none : held_by old.stage.board worker ≡ None) (task : new.task ≡ old.task)
    (count : new.count ≡ old.count) (step : IsStep old.task old.stage (Claim worker) answer new.stage) where
  is_claimed : IsClaimed worker old.stage.board answer new.stage.board
  is_claimed =
      subst (λ (p : Answer × Board). IsClaimed worker old.stage.board p.0 p.1) (sym step.is_answer) (claimed old.stage.board worker none)

  comes : ComesFrom old new
  comes = one_step old new (Claim worker) answer task count step

  pub same_workers : new.stage.board.workers ≡ old.stage.board.workers
  same_workers =
      let is : IsOfPlan old.stage.board new.stage.board =
      subst (IsOfPlan old.stage.board) (sym (ap (λ (p : Answer × Board). p.1) step.is_answer)) (kept old.stage.board (Claim worker)) in
      is.workers

  ended_by : (a : Answer) (b : Board) → IsClaimed worker old.stage.board a b → a ≡ AllDone → (is_done old.stage.board ≡ true) × (b ≡ old.stage.board)
  ended_by a b (ended d) e = (d, refl)
  ended_by a b (got u r) e = absurd (let off : Done ≡ AllDone = e in cc)
  ended_by a b (waits u r not_done not_all) e = absurd (not_all e)

  -- nothing was left to do
  pub turned_ended : (before : Claimed) (from to : ℕ) → answer ≡ AllDone → RoseBy 0 from to → IsEnded old new before before from to
  turned_ended before from to e rose =
      let is = ended_by answer new.stage.board is_claimed e in
      record { done = is.0; comes = comes; board = is.1; noted = refl; rose = rose_none from to rose }

  got_by : (a : Answer) (b : Board) → IsClaimed worker old.stage.board a b → a ≡ Done
      → (is_done old.stage.board ≡ false) × (g : ℕ) × (first_ready old.stage.board ≡ Some g) × (b ≡ with_state old.stage.board g (Held worker))
  got_by a b (ended d) e = absurd (let off : AllDone ≡ Done = e in cc)
  got_by a b (got {g = g} u r) e = (u, g, r, refl)
  got_by a b (waits u r not_done not_all) e = absurd (not_done e)

  -- the worker got a group
  pub turned_got : (before after : Claimed) (from to : ℕ) → answer ≡ Done → RoseBy 0 from to
      → ((group : ℕ) → held_by new.stage.board worker ≡ Some group
      → after ≡ record { number = before.number; claims = before.claims ++ (worker, group) ∷ [] })
      → IsTurned worker old new before after from to
  turned_got before after from to e rose noted =
      let (undone, g, ready, is) = got_by answer new.stage.board is_claimed e in
      record {
        undone = undone;
        comes = comes;
        claims = (worker, g) ∷ [];
        published = 0;
        turn = subst (IsTurn worker old.stage.board ((worker, g) ∷ []) 0) (sym is) (takes none ready);
        noted = noted g (ap (λ b. held_by b worker) is ∙ claimed_held old.stage.board worker g none ready);
        rose = rose;
      }

  waits_by : (a : Answer) (b : Board) → IsClaimed worker old.stage.board a b → (a ≡ Done → ⊥) → (a ≡ AllDone → ⊥)
      → (is_done old.stage.board ≡ false) × (first_ready old.stage.board ≡ None) × (b ≡ old.stage.board)
  waits_by a b (ended d) not_done not_all = absurd (not_all refl)
  waits_by a b (got u r) not_done not_all = absurd (not_done refl)
  waits_by a b (waits u r n m) not_done not_all = (u, r, refl)

  module _ (not_done : answer ≡ Done → ⊥) (not_all : answer ≡ AllDone → ⊥) where
    pub same_board : new.stage.board ≡ old.stage.board
    same_board = (waits_by answer new.stage.board is_claimed not_done not_all).2

    -- a worker holds a group
    pub some_holder : AreLower old.stage.board.callees → AreDriven old.stage.board → IsSome (first_holder new.stage.board)
    some_holder lower driven =
        let (undone, ready, is) = waits_by answer new.stage.board is_claimed not_done not_all in
        let there = holder_there old.stage.board lower driven undone ready in
        ap (λ b. is_some (first_holder b)) is ∙ ap is_some there.2

    -- and publishes it
    pub turned_helped : (last : Course) (before : Claimed) (from middle to : ℕ) → RoseBy 0 from middle → Helps new last → RoseBy 1 middle to
        → IsTurned worker old last before before from to
    turned_helped last before from middle to rose is more =
        let (undone, ready, same) = waits_by answer new.stage.board is_claimed not_done not_all in
        let board : last.stage.board ≡ with_state old.stage.board is.publishes.group Published =
        is.publishes.board ∙ ap (λ b. with_state b is.publishes.group Published) same in
        record {
          undone = undone;
          comes = comes_trans old new last comes is.publishes.comes;
          claims = [];
          published = 1;
          turn = subst (IsTurn worker old.stage.board [] 1) (sym board)
              (helps none ready (ap first_holder (sym same) ∙ is.least) (ap (λ b. held_by b is.worker) (sym same) ∙ is.publishes.holds));
          noted = nothing_noted before;
          rose = rose_more from middle to 0 1 rose more;
        }
