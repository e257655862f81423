-- What holds after each run of a plan.
use Rattle.std.proofs.Common.{◌≡◌, ◌≢◌, ℕ, zero, suc, ◌<◌, ◌≤◌, ◌&&◌, ◌⊎◌, inl, inr, Bool, true, false, cond}
use Rattle.std.proofs.Common.{Option, Some, None, List, [], ◌∷◌, Contains, map, length, get_or, replicate, refl, sym, ap, subst, ◌∙◌, arith}
use Rattle.std.specs.List.{list_all}
use Rattle.std.proofs.lemmas.Bool.{and_parts, cases_eq, cases_lt, false≢true}
use Rattle.std.proofs.lemmas.List.{get_or_default, get_or_past, length-map, length-replicate}
use Rattle.std.proofs.lemmas.List.Elements.{Contains-get_or}
use Rattle.rt_base.proofs.Lists.{list_all-at}
use Rattle.rt_components.specs.Groups.{IsAmongFirst, group_at}
use Rattle.rt_calls.specs.Calls.{Calls}
use Rattle.rt_calls.specs.Callees.{CalleesFirst}
use Rattle.rt_scheme.specs.declared.scheme.Scheme.{Scheme}
use Rattle.rt_table.specs.Laws.{OneList}
use Rattle.rt_settle.specs.Chosen.{OneChoice}
use Rattle.rt_plan.specs.declared.event.Event.{Event}
use Rattle.rt_plan.specs.declared.event.Event.TheVariants.{Claim, Publish, Abandon}
use Rattle.rt_plan.specs.declared.event.Answer.{Answer}
use Rattle.rt_plan.specs.declared.event.Answer.TheVariants.{AllDone}
use Rattle.rt_plan.specs.declared.event.State.{State}
use Rattle.rt_plan.specs.declared.event.State.TheVariants.{Open, Held, Published}
use Rattle.rt_plan.specs.Plans.{Board, applied, callees_at, claim, claim_by, first_open, first_ready, held_by, is_done}
use Rattle.rt_plan.specs.Plans.{is_open, is_out, is_published, leave, published_by, state_at, with_state}
use Rattle.rt_plan.proofs.Events.{kept}
use Rattle.rt_plan.proofs.Keeping.{first_ready_within, held_state, held_within, published_not_held, state_here, state_elsewhere}
use Rattle.rt_plan.proofs.Trees.{found}
use Rattle.rt_solve.specs.Solved.{AddsSchemesOf, AreSolved, IsGroupSolved}
use Rattle.rt_solve.specs.Runs.{AgreeWhere, AnyOrder, AreSchemesAfter, IsInOrder, IsRun, IsStep, IsTask, Stage, Task, first_stage}
use Rattle.rt_solve.specs.Runs.IsRun.{done, onward}
use Rattle.rt_solve.proofs.Linking.{AgreeFor}
use Rattle.rt_solve.proofs.Solving.{elsewhere, long, one_group, solved_here, solved_still}
use Rattle.rt_solve.proofs.Uniqueness.{member_same}

-- a stage's board is one of the task's groups
pub record IsStageOf (task : Task) (stage : Stage) : Type 0 where
  pub callees : stage.board.callees ≡ task.callees
  pub states : length stage.board.states ≡ length task.groups

-- What states are.
open_not_published : Open ≡ Published → ⊥
open_not_published e = cc

published_is : (s : State) → is_published s ≡ true → s ≡ Published
published_is Open e = absurd (false≢true e)
published_is (Held w) e = absurd (false≢true e)
published_is Published e = refl

published_not_open : (s : State) → s ≡ Published → s ≡ Open → ⊥
published_not_open s e o = open_not_published (sym o ∙ e)

-- Before the first event.
open_first : {X : Type 0} (xs : List X) (g : ℕ) → get_or (map (λ x. Open) xs) g Open ≡ Open
open_first [] g = refl
open_first (x ∷ xs) zero = refl
open_first (x ∷ xs) (suc g) = open_first xs g

none_first : (n q : ℕ) → get_or {A = Option Scheme} (replicate n None) q None ≡ None
none_first zero q = refl
none_first (suc n) zero = refl
none_first (suc n) (suc q) = none_first n q

pub first_stage_of : (task : Task) (workers : ℕ) → IsTask task → IsStageOf task (first_stage task workers)
first_stage_of task workers is = record {
  callees = refl;
  states = length-map task.callees (λ group. Open) ∙ is.are_callees.one_each;
}

pub first_in_order : (task : Task) (workers : ℕ) → IsTask task → IsInOrder task (first_stage task workers)
first_in_order task workers is = record {
  one_each = length-replicate {A = Option Scheme} (length task.procs) None;
  published = λ g e. absurd (open_not_published (sym (open_first task.callees g) ∙ e));
  unpublished = λ g q off member. none_first (length task.procs) q;
  callees_first = λ g c never calls. absurd (never (open_first task.callees g));
}

-- what an event makes of a board, with the group that it publishes
data Changes (old : Board) : Option ℕ → Board → Type 0 where
  stays : Changes old None old
  claims : (g w : ℕ) → first_ready old ≡ Some g → Changes old None (with_state old g (Held w))
  publishes : (g w : ℕ) → state_at old g ≡ Held w → Changes old (Some g) (with_state old g Published)
  abandons : (g w : ℕ) → state_at old g ≡ Held w → Changes old None (with_state old g Open)

module _ (old : Board) where
  by_claim : (w : ℕ) (first ready : Option ℕ) → first_ready old ≡ ready → Changes old None (claim_by old w first ready).1
  by_claim w None ready e = stays
  by_claim w (Some f) None e = stays
  by_claim w (Some f) (Some g) e = claims g w e

  claimed : (w : ℕ) (o : Option ℕ) → Changes old None (claim old w o).1
  claimed w None = by_claim w (first_open old) (first_ready old) refl
  claimed w (Some g) = stays

  published : (w : ℕ) (o : Option ℕ) → held_by old w ≡ o → Changes old o (leave old Published o).1
  published w None e = stays
  published w (Some g) e = publishes g w (held_state old w g e)

  abandoned : (w : ℕ) (o : Option ℕ) → held_by old w ≡ o → Changes old None (leave old Open o).1
  abandoned w None e = stays
  abandoned w (Some g) e = abandons g w (held_state old w g e)

  changed : (event : Event) → Changes old (published_by old event) (applied old event).1
  changed (Claim w) = by (is_done old)
    where
      by : (b : Bool) → Changes old None (cond b (AllDone, old) (claim old w (held_by old w))).1
      by true = stays
      by false = claimed w (held_by old w)
  changed (Publish w) = by (is_done old)
    where
      by : (b : Bool) → Changes old (cond b None (held_by old w)) (cond b (AllDone, old) (leave old Published (held_by old w))).1
      by true = stays
      by false = published w (held_by old w) refl
  changed (Abandon w) = by (is_done old)
    where
      by : (b : Bool) → Changes old None (cond b (AllDone, old) (leave old Open (held_by old w))).1
      by true = stays
      by false = abandoned w (held_by old w) refl

  -- each callee of a group that is ready is published
  ready_callees : (g c : ℕ) → first_ready old ≡ Some g → Contains (callees_at old g) c → state_at old c ≡ Published
  ready_callees g c e calls =
      let first = found (λ h. is_open (state_at old h) && list_all (is_out old) (callees_at old h)) 0 (length old.states) g e in
      let all = (and_parts (is_open (state_at old g)) (list_all (is_out old) (callees_at old g)) first.passes).1 in
      published_is (state_at old c) (list_all-at (is_out old) (callees_at old g) c all calls)

  -- what is published stays so where another group becomes something else
  published_still : (g c : ℕ) (s : State) → g < length old.states → is_out old g ≡ false → state_at old c ≡ Published
      → state_at (with_state old g s) c ≡ Published
  published_still g c s within off e = state_elsewhere old g s within c other ∙ e
    where
      other : c ≢ g
      other same = false≢true (sym off ∙ ap is_published (ap (state_at old) (sym same) ∙ e))

module _ (task : Task) (is_task : IsTask task) where
  -- a group with a member is one of the groups
  group_within : (g p : ℕ) → Contains (group_at task.groups g) p → g < length task.groups
  group_within g p member = by (cases_lt g (length task.groups))
    where
      none : Contains {X = ℕ} [] p → ⊥
      none (k, lt, e) = omega (arith, lt)

      by : (g < length task.groups) ⊎ (length task.groups ≤ g) → g < length task.groups
      by (inl less) = less
      by (inr past) = absurd (none (subst (λ group. Contains group p) (get_or_past task.groups g [] past) member))

  -- another group of which a member calls a member is among those that it calls
  called_group : (g c p q : ℕ) → Contains (group_at task.groups g) p → Calls task.procs p q → (Contains (group_at task.groups g) q → ⊥)
      → Contains (group_at task.groups c) q → Contains (group_at task.callees g) c
  called_group g c p q member calls apart other =
      (is_task.are_callees.called g c (group_within g p member)).1 (
        λ same. apart (subst (λ k. Contains (group_at task.groups k) q) same other),
        record { from = p; to = q; is_member = member; is_other = other; calls = calls },
      )

  module _ (old : Stage) (is_stage : IsStageOf task old) (in_order : IsInOrder task old) where
    -- and so it is published where the one that calls it is
    called_published : (g c p q : ℕ) → state_at old.board g ≡ Published → Contains (group_at task.groups g) p → Calls task.procs p q
        → (Contains (group_at task.groups g) q → ⊥) → Contains (group_at task.groups c) q → state_at old.board c ≡ Published
    called_published g c p q out member calls apart other =
        in_order.callees_first g c (published_not_open (state_at old.board g) out)
        (subst (λ callees. Contains (group_at callees g) c) (sym is_stage.callees) (called_group g c p q member calls apart other))

    -- a group that isn't published becomes one that isn't
    turned : (g : ℕ) (s : State) → g < length old.board.states → is_out old.board g ≡ false → is_published s ≡ false
        → ((c : ℕ) → (s ≡ Open → ⊥) → Contains (callees_at old.board g) c → state_at old.board c ≡ Published)
        → IsInOrder task (record { board = with_state old.board g s; schemes = old.schemes })
    turned g s within off off' ready = record {
      one_each = in_order.one_each;
      published = λ h e. out_before h e (cases_eq h g);
      unpublished = λ h q out member. in_order.unpublished h q (still_off h out (cases_eq h g)) member;
      callees_first = λ h c never calls.
          published_still old.board g c s within off (callee_before h c never calls (cases_eq h g));
    }
      where
        out_before : (h : ℕ) → state_at (with_state old.board g s) h ≡ Published → (h ≡ g) ⊎ (h ≢ g)
            → IsGroupSolved task.object task.roles task.order task.procs task.signatures old.schemes (group_at task.groups h)
        out_before h e (inl same) =
            let here : s ≡ Published = sym (state_here old.board g s within) ∙ (ap (state_at (with_state old.board g s)) (sym same) ∙ e) in
            absurd (false≢true (sym off' ∙ ap is_published here))
        out_before h e (inr other) = in_order.published h (sym (state_elsewhere old.board g s within h other) ∙ e)

        still_off : (h : ℕ) → is_out (with_state old.board g s) h ≡ false → (h ≡ g) ⊎ (h ≢ g) → is_out old.board h ≡ false
        still_off h out (inl same) = ap (is_out old.board) same ∙ off
        still_off h out (inr other) = sym (ap is_published (state_elsewhere old.board g s within h other)) ∙ out

        callee_before : (h c : ℕ) → (state_at (with_state old.board g s) h ≡ Open → ⊥) → Contains (callees_at old.board h) c
            → (h ≡ g) ⊎ (h ≢ g) → state_at old.board c ≡ Published
        callee_before h c never calls (inl same) =
            ready c (λ e. never (ap (state_at (with_state old.board g s)) same ∙ (state_here old.board g s within ∙ e)))
            (subst (λ k. Contains (callees_at old.board k) c) same calls)
        callee_before h c never calls (inr other) =
            in_order.callees_first h c (λ e. never (state_elsewhere old.board g s within h other ∙ e)) calls

    -- a group that is held is published
    module _ (g w : ℕ) (was : state_at old.board g ≡ Held w) (new : List (Option Scheme))
        (adds : AddsSchemesOf task.object task.roles task.order task.procs task.signatures (group_at task.groups g) old.schemes new) where
      within : g < length old.board.states
      within = held_within old.board w g was

      within_groups : g < length task.groups
      within_groups = omega (arith, within, is_stage.states)

      out_after : (h : ℕ) → state_at (with_state old.board g Published) h ≡ Published → (h ≡ g) ⊎ (h ≢ g)
          → IsGroupSolved task.object task.roles task.order task.procs task.signatures new (group_at task.groups h)
      out_after h e (inl same) =
          subst (λ k. IsGroupSolved task.object task.roles task.order task.procs task.signatures new (group_at task.groups k)) (sym same)
          (solved_here task.object task.roles task.order task.procs task.signatures task.groups is_task.are_groups g within_groups
          old.schemes new in_order.one_each adds)
      out_after h e (inr other) =
          solved_still task.object task.roles task.order task.procs task.signatures task.groups is_task.are_groups g within_groups
          old.schemes new in_order.one_each adds h other
          (λ p q member calls apart c. published_not_held w (sym (called_published h g p q out member calls apart c) ∙ was))
          (in_order.published h out)
        where
          out : state_at old.board h ≡ Published
          out = sym (state_elsewhere old.board g Published within h other) ∙ e

      none_after : (h q : ℕ) → is_out (with_state old.board g Published) h ≡ false → Contains (group_at task.groups h) q
          → (h ≡ g) ⊎ (h ≢ g) → get_or new q None ≡ None
      none_after h q off member (inl same) =
          let here : state_at (with_state old.board g Published) h ≡ Published =
          ap (state_at (with_state old.board g Published)) same ∙ state_here old.board g Published within in
          absurd (false≢true (sym off ∙ ap is_published here))
      none_after h q off member (inr other) =
          elsewhere task.object task.roles task.order task.procs task.signatures task.groups is_task.are_groups g within_groups old.schemes
          new in_order.one_each adds q
          (λ c.
          other (one_group task.object task.roles task.order task.procs task.signatures task.groups is_task.are_groups h g q member c))
          ∙ in_order.unpublished h q (sym (ap is_published (state_elsewhere old.board g Published within h other)) ∙ off) member

      callee_after : (h c : ℕ) → (state_at (with_state old.board g Published) h ≡ Open → ⊥) → Contains (callees_at old.board h) c
          → (h ≡ g) ⊎ (h ≢ g) → state_at old.board c ≡ Published
      callee_after h c never calls (inl same) =
          in_order.callees_first h c (λ o. held_not_open (sym was ∙ (ap (state_at old.board) (sym same) ∙ o))) calls
        where
          held_not_open : Held w ≡ Open → ⊥
          held_not_open e = cc
      callee_after h c never calls (inr other) =
          in_order.callees_first h c (λ o. never (state_elsewhere old.board g Published within h other ∙ o)) calls

      added : IsInOrder task (record { board = with_state old.board g Published; schemes = new })
      added = record {
        one_each = long task.object task.roles task.order task.procs task.signatures task.groups is_task.are_groups g within_groups
            old.schemes new in_order.one_each adds ∙ in_order.one_each;
        published = λ h e. out_after h e (cases_eq h g);
        unpublished = λ h q off member. none_after h q off member (cases_eq h g);
        callees_first = λ h c never calls.
            published_still old.board g c Published within (ap is_published was) (callee_after h c never calls (cases_eq h g));
      }

    -- a change of the board, with the schemes after it
    after : (group : Option ℕ) (board : Board) (schemes : List (Option Scheme)) → Changes old.board group board
        → AreSchemesAfter task group old.schemes schemes → IsInOrder task (record { board = board; schemes = schemes })
    after group board schemes stays e = subst (λ xs. IsInOrder task (record { board = old.board; schemes = xs })) (sym e) in_order
    after group board schemes (claims g w first) e =
        let ready = first_ready_within old.board g first in
        subst (λ xs. IsInOrder task (record { board = with_state old.board g (Held w); schemes = xs })) (sym e)
        (turned g (Held w) ready.0 (ap is_published ready.1) refl (λ c never calls. ready_callees old.board g c first calls))
    after group board schemes (publishes g w was) adds = added g w was schemes adds
    after group board schemes (abandons g w was) e =
        subst (λ xs. IsInOrder task (record { board = with_state old.board g Open; schemes = xs })) (sym e)
        (turned g Open (held_within old.board w g was) (ap is_published was) refl (λ c never calls. absurd (never refl)))

-- After an event.
pub step_stage_of : (task : Task) (old new : Stage) (event : Event) (answer : Answer) → IsStageOf task old
    → IsStep task old event answer new → IsStageOf task new
step_stage_of task old new event answer is step =
    let same : new.board ≡ (applied old.board event).1 = ap (λ (p : Answer × Board). p.1) step.is_answer in
    let of_plan = kept old.board event in
    record {
      callees = ap (λ (b : Board). b.callees) same ∙ (of_plan.callees ∙ is.callees);
      states = ap (λ (b : Board). length b.states) same ∙ (of_plan.groups ∙ is.states);
    }

pub step_in_order : (task : Task) (old new : Stage) (event : Event) (answer : Answer) → IsTask task → IsStageOf task old
    → IsInOrder task old → IsStep task old event answer new → IsInOrder task new
step_in_order task old new event answer is_task is_stage in_order step =
    let same : new.board ≡ (applied old.board event).1 = ap (λ (p : Answer × Board). p.1) step.is_answer in
    let here = changed old.board event in
    after task is_task old is_stage in_order (published_by old.board event) new.board new.schemes
    (subst (Changes old.board (published_by old.board event)) (sym same) here) step.are_schemes

-- After events.
pub run_stage_of : (task : Task) (first last : Stage) (events : List Event) → IsStageOf task first → IsRun task first events last
    → IsStageOf task last
run_stage_of task first last events is done = is
run_stage_of task first last events is (onward {middle = middle} {event = event} {answer = answer} {events = rest} step run) =
    run_stage_of task middle last rest (step_stage_of task first middle event answer is step) run

pub run_in_order : (task : Task) (first last : Stage) (events : List Event) → IsTask task → IsStageOf task first → IsInOrder task first
    → IsRun task first events last → IsInOrder task last
run_in_order task first last events is_task is here done = here
run_in_order task first last events is_task is here (onward {middle = middle} {event = event} {answer = answer} {events = rest} step run) =
    run_in_order task middle last rest is_task (step_stage_of task first middle event answer is step)
    (step_in_order task first middle event answer is_task is here step) run

-- where each group is published, all are solved
pub all_in_order : (task : Task) (stage : Stage) → IsTask task → IsStageOf task stage → IsInOrder task stage → is_done stage.board ≡ true
    → AreSolved task.object task.roles task.order task.procs task.signatures task.groups stage.schemes
all_in_order task stage is_task is in_order all = record {
  one_each = in_order.one_each;
  each = λ group (g, lt, e).
      let within : g < length stage.board.states = omega (arith, lt, is.states) in
      let one = Contains-get_or stage.board.states g Open within in
      let out = list_all-at is_published stage.board.states (state_at stage.board g) all one in
      subst (IsGroupSolved task.object task.roles task.order task.procs task.signatures stage.schemes)
      (get_or_default task.groups g [] group lt ∙ e)
      (in_order.published g (published_is (state_at stage.board g) out));
}

-- The schemes of the published groups are those of each family that is solved.
module _ (one_list : OneList) (one_choice : OneChoice) (lower : CalleesFirst) (task : Task) (is_task : IsTask task) (stage : Stage)
    (is_stage : IsStageOf task stage) (in_order : IsInOrder task stage) (solved : List (Option Scheme))
    (are : AreSolved task.object task.roles task.order task.procs task.signatures task.groups solved) where
  -- it is so of a group where it is of those below
  agree_for : (g : ℕ) → state_at stage.board g ≡ Published
      → ((i q : ℕ) → i < g → state_at stage.board i ≡ Published → Contains (group_at task.groups i) q
      → get_or stage.schemes q None ≡ get_or solved q None) → AgreeFor task.procs (group_at task.groups g) stage.schemes solved
  agree_for g out below = record {
    called = λ p q member calls apart. by p q member calls apart ((is_task.are_groups.nodes q).0 calls.0);
    past = λ q le.
        get_or_past stage.schemes q None (omega (arith, le, in_order.one_each))
        ∙ sym (get_or_past solved q None (omega (arith, le, are.one_each)));
  }
    where
      by : (p q : ℕ) → Contains (group_at task.groups g) p → Calls task.procs p q → (Contains (group_at task.groups g) q → ⊥)
          → IsAmongFirst task.groups (length task.groups) q → get_or stage.schemes q None ≡ get_or solved q None
      by p q member calls apart (i, less, other) =
          below i q
          (lower task.procs task.groups task.callees is_task.are_groups is_task.are_callees g i
          (called_group task is_task g i p q member calls apart other))
          (called_published task is_task stage is_stage in_order g i p q out member calls apart other) other

  agree_below : (k g q : ℕ) → g < k → state_at stage.board g ≡ Published → Contains (group_at task.groups g) q
      → get_or stage.schemes q None ≡ get_or solved q None
  agree_below zero g q less out member = absurd (omega (arith, less))
  agree_below (suc k) g q less out member =
      member_same task.object task.roles task.order task.procs task.signatures one_list one_choice (group_at task.groups g) stage.schemes
      solved (agree_for g out (λ i r before out' other. agree_below k i r (omega (arith, before, less)) out' other))
      (in_order.published g out)
      (are.each (group_at task.groups g) (Contains-get_or task.groups g [] (group_within task is_task g q member))) q member

  agree_where : AgreeWhere task stage solved
  agree_where g q out member = agree_below (suc g) g q (omega arith) out member

pub any_order_of : OneList → OneChoice → CalleesFirst → AnyOrder
any_order_of one_list one_choice lower task workers events last is_task run = (
  in_order,
  λ solved are. agree_where one_list one_choice lower task is_task last is_stage in_order solved are,
)
  where
    first_of : IsStageOf task (first_stage task workers)
    first_of = first_stage_of task workers is_task

    is_stage : IsStageOf task last
    is_stage = run_stage_of task (first_stage task workers) last events first_of run

    in_order : IsInOrder task last
    in_order =
        run_in_order task (first_stage task workers) last events is_task first_of (first_in_order task workers is_task) run
