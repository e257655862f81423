-- The driver of a run, turn after turn.
use Rattle.std.proofs.Common.{◌≡◌, ℕ, zero, suc, ◌+◌, ◌<◌, ◌≤◌, Bool, true, false, cond, Option, List, [], ◌∷◌, ◌++◌, All, length, get_or, refl, sym, ap, subst, ◌∙◌, arith, append-nil, append_assoc, true≢false}
use Rattle.std.specs.List.{count_by}
use Rattle.std.proofs.lemmas.Bool.{false≢true}
use Rattle.std.proofs.lemmas.List.Elements.{Contains-get_or}
use Rattle.std.proofs.lemmas.List.Sums.{sum_by-cons}
use Rattle.rt_plan.specs.declared.event.State.{State}
use Rattle.rt_plan.specs.Driver.{Drives, IsFrontOf, ends, publishes, takes, helps, next_state, turn_of}
use Rattle.rt_plan.specs.Laws.{AreDriven}
use Rattle.rt_plan.specs.Plans.{AreLower, Board, is_done, is_published, start}
use Rattle.rt_plan.specs.Turns.{published_count}
use Rattle.rt_plan.proofs.Counts.{one}
use Rattle.rt_plan.proofs.Driving.{driven, work}
use Rattle.rt_plan.proofs.Turning.{done_counted, start_counted, start_driven, turn_counts, turn_driven, turn_drives, turn_kept, turn_less}
use Rattle.rt_lines.specs.Orders.{Below}
use Rattle.rt_lattice.specs.declared.roles.Roles.{Roles}
use Rattle.rt_elf.specs.Parts.{Parts as Object}
use Rattle.rt_proc.specs.declared.proc.Proc.{Proc}
use Rattle.rt_scheme.specs.declared.scheme.Scheme.{Scheme}
use Rattle.rt_sigs.specs.Signatures.{Signature}
use Rattle.rt_calls.specs.Calls.{AreGroupsOf}
use Rattle.rt_calls.specs.Callees.{AreCalleesOf}
use Rattle.rt_calls.proofs.Calling.{callees_first, one_callees}
use Rattle.rt_solve.specs.Claimed.{Claimed}
use Rattle.rt_solve.specs.Runs.{Course, IsInOrder, IsRun, IsTask, IsTaskWith, Stage, Task, done, first_stage}
use Rattle.rt_solve.specs.Solved.{AreSolved}
use Rattle.rt_solve.specs.Steps.{RoseAtMost, RoseBy}
use Rattle.rt_solve.specs.Inside.Turns.{ComesFrom, IsEnded, IsOver, IsTurned, Turns}
use Rattle.rt_solve.proofs.Counting.{none_rose, rose_at_most, rose_more}
use Rattle.rt_solve.proofs.Ordering.{IsStageOf, all_in_order, first_in_order, first_stage_of, run_in_order, run_stage_of}
use Rattle.rt_solve.proofs.Turned.{comes_trans}

-- where a run that began so is, in a state of the driver and with these claims, and whether it goes on
pub record IsDriving (first now : Course) (number state : ℕ) (claims : List (ℕ × ℕ)) (from to : ℕ) (goes_on : Bool) : Type 0 where
  pub comes : ComesFrom first now
  pub staged : IsStageOf first.task now.stage
  pub in_order : IsInOrder first.task now.stage
  pub workers : now.stage.board.workers ≡ 4
  pub are_driven : AreDriven now.stage.board
  pub drives : (rest : List (ℕ × ℕ)) → Drives state now.stage.board rest → Drives number (start 4 first.task.callees) (claims ++ rest)
  pub rose : RoseBy (published_count now.stage.board) from to
  pub over : goes_on ≡ false → is_done now.stage.board ≡ true

-- how much is left to do
abbrev pub left : Course → Bool → ℕ
left now goes_on = work now.stage.board + cond goes_on 1 0

-- groups call groups before them
pub lower_list : (procs : List Proc) (groups callees : List (List ℕ)) → AreGroupsOf procs groups → AreCalleesOf procs groups callees
    → AreLower callees
lower_list procs groups callees are of g k d lt =
    callees_first procs groups callees are of g (get_or (get_or callees g []) k d) (Contains-get_or (get_or callees g []) k d lt)

pub lower_of : (task : Task) → IsTask task → AreLower task.callees
lower_of task is = lower_list task.procs task.groups task.callees is.are_groups is.are_callees

done_rest : (state : ℕ) (board : Board) (rest : List (ℕ × ℕ)) → is_done board ≡ true → Drives state board rest → rest ≡ []
done_rest state board rest is (ends e) = refl
done_rest state board rest is (publishes undone h d) = absurd (true≢false (sym is ∙ undone))
done_rest state board rest is (takes undone h r d) = absurd (true≢false (sym is ∙ undone))
done_rest state board rest is (helps undone h r w k d) = absurd (true≢false (sym is ∙ undone))

-- a turn leaves the schedule's number
pub turn_number : (more : Bool) (worker : ℕ) (old new : Course) (before after : Claimed) (from to : ℕ)
    → Turns more worker old new before after from to → after.number ≡ before.number
turn_number true worker old new before after from to t = ap (λ (s : Claimed). s.number) t.noted
turn_number false worker old new before after from to t = ap (λ (s : Claimed). s.number) t.noted

-- no more are published than there are
at_most_one : (b : Bool) → one b ≤ 1
at_most_one true = omega arith
at_most_one false = omega arith

count_within : (states : List State) → count_by is_published states ≤ length states
count_within [] = omega arith
count_within (s ∷ states) =
    let rest = count_within states in
    let both = sum_by-cons (λ t. one (is_published t)) s states in
    let small = at_most_one (is_published s) in
    omega (arith, rest, both, small)

module _ (first : Course) (task : IsTask first.task) where
  pub begins : (number from : ℕ) → first.stage ≡ first_stage first.task 4 → IsDriving first first number number [] from from true
  begins number from at = record {
    comes = record { task = refl; count = refl; events = []; run = done };
    staged = subst (IsStageOf first.task) (sym at) (first_stage_of first.task 4 task);
    in_order = subst (IsInOrder first.task) (sym at) (first_in_order first.task 4 task);
    workers = ap (λ (s : Stage). s.board.workers) at;
    are_driven = subst (λ (s : Stage). AreDriven s.board) (sym at) (start_driven 4 first.task.callees);
    drives = λ rest d. subst (λ (s : Stage). Drives number s.board rest) at d;
    rose = subst (λ n. RoseBy n from from) (sym (ap (λ (s : Stage). published_count s.board) at ∙ start_counted 4 first.task.callees))
        (none_rose from from refl);
    over = λ e. absurd (true≢false e);
  }

  module _ (now : Course) (number state : ℕ) (claims : List (ℕ × ℕ)) (from to : ℕ) (goes_on : Bool)
      (is : IsDriving first now number state claims from to goes_on) where
    pub lower_now : AreLower now.stage.board.callees
    lower_now = subst AreLower (sym is.staged.callees) (lower_of first.task task)

    -- the claims so far are the first ones
    pub front : IsFrontOf number (start 4 first.task.callees) claims
    front = let rest = driven state now.stage.board lower_now is.are_driven in record { rest = rest.0; drives = is.drives rest.0 rest.1 }

    module _ (next : Course) (before after : Claimed) (later : ℕ) (begun : before.claims ≡ claims) where
      turned : turn_of (next_state state) < 4 → IsTurned (turn_of (next_state state)) now next before after to later
          → IsDriving first next number (next_state state) after.claims from later true
      turned worker t =
          let run : IsRun first.task now.stage t.comes.events next.stage =
          subst (λ task. IsRun task now.stage t.comes.events next.stage) is.comes.task t.comes.run in
          record {
            comes = comes_trans first now next is.comes t.comes;
            staged = run_stage_of first.task now.stage next.stage t.comes.events is.staged run;
            in_order = run_in_order first.task now.stage next.stage t.comes.events task is.staged is.in_order run;
            workers = (turn_kept (turn_of (next_state state)) now.stage.board next.stage.board t.claims t.published t.turn).workers ∙ is.workers;
            are_driven = turn_driven (turn_of (next_state state)) now.stage.board next.stage.board t.claims t.published worker t.turn
                is.are_driven;
            drives = λ rest d. subst (Drives number (start 4 first.task.callees)) (same rest)
                (is.drives (t.claims ++ rest) (turn_drives state now.stage.board next.stage.board t.claims rest t.published t.undone t.turn d));
            rose = subst (λ n. RoseBy n from later)
                (sym (turn_counts (turn_of (next_state state)) now.stage.board next.stage.board t.claims t.published t.turn))
                (rose_more from to later (published_count now.stage.board) t.published is.rose t.rose);
            over = λ e. absurd (true≢false e);
          }
        where
          same : (rest : List (ℕ × ℕ)) → claims ++ (t.claims ++ rest) ≡ after.claims ++ rest
          same rest =
              sym (append_assoc claims t.claims rest)
              ∙ ap (λ cs. (cs ++ t.claims) ++ rest) (sym begun) ∙ ap (λ (c : Claimed). c.claims ++ rest) (sym t.noted)

      ended : IsEnded now next before after to later → IsDriving first next number (next_state state) after.claims from later false
      ended e =
          let run : IsRun first.task now.stage e.comes.events next.stage =
          subst (λ task. IsRun task now.stage e.comes.events next.stage) is.comes.task e.comes.run in
          let over : is_done next.stage.board ≡ true = ap is_done e.board ∙ e.done in
          record {
            comes = comes_trans first now next is.comes e.comes;
            staged = run_stage_of first.task now.stage next.stage e.comes.events is.staged run;
            in_order = run_in_order first.task now.stage next.stage e.comes.events task is.staged is.in_order run;
            workers = ap (λ (b : Board). b.workers) e.board ∙ is.workers;
            are_driven = subst AreDriven (sym e.board) is.are_driven;
            drives = λ rest d. subst (λ r. Drives number (start 4 first.task.callees) (after.claims ++ r))
                (sym (done_rest (next_state state) next.stage.board rest over d))
                (subst (λ cs. Drives number (start 4 first.task.callees) (cs ++ [])) (sym (ap (λ (c : Claimed). c.claims) e.noted ∙ begun))
                (is.drives [] (ends e.done)));
            rose = subst (λ (b : Board). RoseBy (published_count b) from later) (sym e.board)
                (subst (RoseBy (published_count now.stage.board) from) (sym e.rose) is.rose);
            over = λ f. over;
          }

      -- after a turn
      pub driving_more : (more : Bool) → turn_of (next_state state) < 4
          → Turns more (turn_of (next_state state)) now next before after to later
          → IsDriving first next number (next_state state) after.claims from later more
      driving_more true worker t = turned worker t
      driving_more false worker t = ended t

      -- less is left to do
      pub less_left : (more : Bool) → goes_on ≡ true → Turns more (turn_of (next_state state)) now next before after to later
          → left next more < left now goes_on
      less_left true on t =
          let less = turn_less (turn_of (next_state state)) now.stage.board next.stage.board t.claims t.published t.turn in
          let one_more : ◌≡◌ {A = ℕ} (cond goes_on 1 0) 1 = ap (λ b. cond b 1 0) on in
          omega (arith, less, one_more)
      less_left false on t =
          let same : work next.stage.board ≡ work now.stage.board = ap work t.board in
          let one_more : ◌≡◌ {A = ℕ} (cond goes_on 1 0) 1 = ap (λ b. cond b 1 0) on in
          omega (arith, same, one_more)

    -- the counter rose by no more than the number of groups
    pub risen_at_most : RoseAtMost (length first.task.groups) from to
    risen_at_most =
        let within = count_within now.stage.board.states in
        rose_at_most from to (published_count now.stage.board) (length first.task.groups) is.rose (omega (arith, within, is.staged.states))

    -- at the end
    module _ (off : goes_on ≡ false) where
      pub is_over : IsOver first now
      is_over = record { comes = is.comes; in_order = is.in_order; done = is.over off }

      pub all_claims : Drives number (start 4 first.task.callees) claims
      all_claims = subst (Drives number (start 4 first.task.callees)) (append-nil claims) (is.drives [] (ends (is.over off)))

      pub risen_all : RoseBy (length first.task.groups) from to
      risen_all = subst (λ n. RoseBy n from to) (done_counted now.stage.board (is.over off) ∙ is.staged.states) is.rose

-- before the first turn no claim is done
pub front_start : (number : ℕ) (callees : List (List ℕ)) → AreLower callees → IsFrontOf number (start 4 callees) []
front_start number callees lower =
    let drive = driven number (start 4 callees) lower (start_driven 4 callees) in record { rest = drive.0; drives = drive.1 }

module _ (object : Object) (roles : Roles) (order : Below) (procs : List Proc) (signatures : List Signature) (groups : List (List ℕ))
    (task : Task) where
  -- the callees of a task of these parts
  pub callees_same : IsTaskWith object roles order procs signatures groups task → (callees : List (List ℕ)) → AreCalleesOf procs groups callees
      → task.callees ≡ callees
  callees_same is callees are =
      one_callees procs groups task.callees callees
      (subst (λ ps. AreCalleesOf ps groups task.callees) is.procs_are
      (subst (λ gs. AreCalleesOf task.procs gs task.callees) is.groups_are is.is_task.are_callees)) are

  -- its solved schemes
  pub solved_with : (schemes : List (Option Scheme)) → IsTaskWith object roles order procs signatures groups task
      → AreSolved task.object task.roles task.order task.procs task.signatures task.groups schemes
      → AreSolved object roles order procs signatures groups schemes
  solved_with schemes is solved =
      subst (λ x. AreSolved x roles order procs signatures groups schemes) is.object_is
      (subst (λ x. AreSolved task.object x order procs signatures groups schemes) is.roles_are
      (subst (λ x. AreSolved task.object task.roles x procs signatures groups schemes) is.order_is
      (subst (λ x. AreSolved task.object task.roles task.order x signatures groups schemes) is.procs_are
      (subst (λ x. AreSolved task.object task.roles task.order task.procs x groups schemes) is.signatures_are
      (subst (λ x. AreSolved task.object task.roles task.order task.procs task.signatures x schemes) is.groups_are solved)))))

-- a run that is over is solved
pub over_solved : (first now : Course) → IsTask first.task → first.stage ≡ first_stage first.task 4 → IsOver first now
    → AreSolved first.task.object first.task.roles first.task.order first.task.procs first.task.signatures first.task.groups now.stage.schemes
over_solved first now task at over =
    let staged = run_stage_of first.task first.stage now.stage over.comes.events
    (subst (IsStageOf first.task) (sym at) (first_stage_of first.task 4 task)) over.comes.run in
    all_in_order first.task now.stage task staged over.in_order over.done
