-- Questions are of sites and registers that there are.
use Rattle.std.proofs.Common.{◌≡◌, ◌<◌, ◌≤◌, ◌⊎◌, inl, inr, ◌==◌, ℕ, suc, Bool, true, false, cond, Option, Some, None, List, [], ◌∷◌, ◌++◌, map, length, filter, flat_map, ltb, refl, sym, subst, arith, lit<}
use Rattle.std.specs.Prelude.{All}
use Rattle.std.specs.List.{list_any}
use Rattle.std.proofs.lemmas.Bool.{cases_lt, ltb-true}
use Rattle.std.proofs.lemmas.List.{get_or_past}
use Rattle.std.proofs.lemmas.List.Elements.{All-nil, All-cons, All-append, All-map, All-weaker, All-filter}
use Rattle.std.proofs.lemmas.List.Sums.{AllPass-from_list_all}
use Rattle.rt_flow.specs.declared.def.Def.{Def}
use Rattle.rt_body.specs.declared.action.Action.{Action}
use Rattle.rt_body.specs.declared.action.Action.TheVariants as action
use Rattle.rt_body.specs.declared.action.Address.{Address}
use Rattle.rt_body.specs.declared.action.Address.TheVariants as address
use Rattle.rt_body.specs.declared.action.Operation.{Operation}
use Rattle.rt_body.specs.declared.action.Operation.TheVariants as operation
use Rattle.rt_body.specs.declared.action.Width.{Width}
use Rattle.rt_body.specs.declared.action.Width.TheVariants as width
use Rattle.rt_body.specs.Readings.{Reading}
use Rattle.rt_body.specs.Registers.{HasAddressRegister, HasOperandRegister, HasRegisters}
use Rattle.rt_body.specs.Told.{IsDefWithin}
use Rattle.rt_proc.specs.declared.site.Callee.{Callee}
use Rattle.rt_proc.specs.declared.site.Callee.TheVariants as callee
use Rattle.rt_liveness.specs.declared.call.Call.{Call}
use Rattle.rt_liveness.specs.Calls.{HasCalleeRegister, HasCallRegister, taken_registers, takes_register}
use Rattle.rt_frame.specs.declared.addition.Addition.{Addition}
use Rattle.rt_frame.specs.declared.addition.Addition.TheVariants.{IndexLeft, IndexRight, Indices, Untold}
use Rattle.rt_frame.specs.declared.question.Question.{Question}
use Rattle.rt_frame.specs.declared.question.Question.TheVariants.{OfUse, OfDefinition}
use Rattle.rt_frame.specs.Questions.{IsQuestionWithin, questions, action_questions, is_kept, is_multi, is_real, is_result, addition, addition_questions, address_questions, call_questions, calls_at, compute_questions, data_questions, operand, results, result_questions, target_questions}

-- what holds of all calls of all sites holds of those of one
calls_there : (P : Call → Type 0) (calls : List (List Call)) (site : ℕ) → All (All P) calls → All P (calls_at calls site)
calls_there P calls site all = by (cases_lt site (length calls))
  where
    by : (site < length calls) ⊎ (length calls ≤ site) → All P (calls_at calls site)
    by (inl less) = all site [] less
    by (inr past) = subst (All P) (sym (get_or_past calls site [] past)) (All-nil P)

module _ (reading : Reading) (sites site : ℕ) (within : site < sites) where
  Fine : List Question → Type 0
  Fine asked = All (IsQuestionWithin sites) asked

  none : Fine []
  unfolding Fine
  none = All-nil (IsQuestionWithin sites)

  one : (register : ℕ) → register < 32 → Fine (OfUse site register ∷ [])
  unfolding Fine
  one register few = All-cons (IsQuestionWithin sites) (OfUse site register) [] (within, few) none

  both : (xs ys : List Question) → Fine xs → Fine ys → Fine (xs ++ ys)
  unfolding Fine
  both xs ys p q = All-append (IsQuestionWithin sites) xs ys p q

  if_so : (b : Bool) (xs : List Question) → Fine xs → Fine (cond b xs [])
  if_so true xs p = p
  if_so false xs p = none

  unless : (b : Bool) (xs : List Question) → Fine xs → Fine (cond b [] xs)
  unless true xs p = none
  unless false xs p = p

  of_two : (left right : ℕ) → left < 32 → right < 32 → Fine (OfUse site left ∷ OfUse site right ∷ [])
  of_two left right p q = both (OfUse site left ∷ []) (OfUse site right ∷ []) (one left p) (one right q)

  of_indexed : (to other index : ℕ) → other < 32 → index < 32 → Fine (cond (to == 0) [] (OfUse site other ∷ []) ++ OfUse site index ∷ [])
  of_indexed to other index p q = both (cond (to == 0) [] (OfUse site other ∷ [])) (OfUse site index ∷ []) (unless (to == 0) (OfUse site other ∷ []) (one other p)) (one index q)

  of_addition : (to left right : ℕ) (a : Addition) → left < 32 → right < 32 → Fine (addition_questions site to left right a)
  of_addition to left right IndexLeft p q = of_indexed to right left q p
  of_addition to left right IndexRight p q = of_indexed to left right p q
  of_addition to left right Indices p q = of_two left right p q
  of_addition to left right Untold p q = none

  of_address : (a : Address) → HasAddressRegister a → Fine (address_questions reading site a)
  of_address (address.Symbol symbol addend) p = none
  of_address (address.Register register immediate) p = if_so (is_multi (reading.value_at site register)) (OfUse site register ∷ []) (one register p)

  of_data : (register : ℕ) (w : Width) → register < 32 → Fine (data_questions site register w)
  of_data register width.Word p = one register p
  of_data register width.Half p = none
  of_data register width.Byte p = none

  of_operand : (right : Option ℕ) → HasOperandRegister right → Fine (operand site right)
  of_operand None p = none
  of_operand (Some register) p = one register p

  of_operands : (left : ℕ) (right : Option ℕ) → left < 32 → HasOperandRegister right → Fine (OfUse site left ∷ operand site right)
  of_operands left right p q = both (OfUse site left ∷ []) (operand site right) (one left p) (of_operand right q)

  of_compute : (o : Operation) (left : ℕ) (right : Option ℕ) → left < 32 → HasOperandRegister right → Fine (compute_questions site o left right)
  of_compute operation.LessUnsigned left right p q = none
  of_compute operation.Scale left right p q = of_operands left right p q
  of_compute operation.ShiftRight left right p q = of_operands left right p q
  of_compute operation.ShiftRightSigned left right p q = of_operands left right p q
  of_compute operation.Signed left right p q = of_operands left right p q
  of_compute operation.Unsigned left right p q = of_operands left right p q
  of_compute operation.SignedByUnsigned left right p q = of_operands left right p q
  of_compute operation.LessSigned left right p q = of_operands left right p q

  of_target : (is_plain : Bool) (whom : Callee) → HasCalleeRegister whom → Fine (target_questions site is_plain whom)
  of_target true (callee.Unknown register) p = one register p
  of_target true (callee.Proc number) p = none
  of_target true (callee.Extern symbol) p = none
  of_target false whom p = none

  Used : ℕ → Type 0
  Used register = IsQuestionWithin sites (OfUse site register)

  arguments : List ℕ
  arguments = 10 ∷ 11 ∷ 12 ∷ 13 ∷ 14 ∷ 15 ∷ 16 ∷ 17 ∷ []

  few_arguments : All (λ register. ltb register 32 ≡ true) arguments
  unfolding arguments
  few_arguments = AllPass-from_list_all (λ register. ltb register 32) (10 ∷ 11 ∷ 12 ∷ 13 ∷ 14 ∷ 15 ∷ 16 ∷ 17 ∷ []) refl

  used_arguments : All Used arguments
  unfolding Used
  used_arguments = All-weaker (λ register. ltb register 32 ≡ true) Used (λ register e. (within, ltb-true register 32 e)) arguments few_arguments

  of_arguments : (call : Call) → Fine (map (λ register. OfUse site register) (taken_registers call))
  unfolding Fine Used arguments
  of_arguments call =
      All-map (IsQuestionWithin sites) (λ register. OfUse site register) (taken_registers call)
      (All-filter (takes_register call) Used arguments used_arguments)

  of_call : (call : Call) → HasCallRegister call → Fine (call_questions site call)
  of_call call p =
      both (target_questions site call.is_plain call.callee) (map (λ register. OfUse site register) (taken_registers call))
      (of_target call.is_plain call.callee p) (of_arguments call)

  of_calls : (calls : List Call) → All HasCallRegister calls → Fine (flat_map (call_questions site) calls)
  of_calls [] p = none
  of_calls (call ∷ calls) p =
      both (call_questions site call) (flat_map (call_questions site) calls)
      (of_call call (p 0 call (omega arith))) (of_calls calls (λ k d less. p (suc k) d (omega arith)))

  module _ (reached : (register : ℕ) → All (IsDefWithin sites) (reading.reaching site register)) (calls : List (List Call)) where
    of_real : (b : Bool) (register : ℕ) (defs : List Def) → All (IsDefWithin sites) defs
        → All (IsDefWithin sites) (cond b (filter (is_result reading calls register) defs) [])
    of_real true register defs p = All-filter (is_result reading calls register) (IsDefWithin sites) defs p
    of_real false register defs p = All-nil (IsDefWithin sites)

    of_result : (register : ℕ) → register < 32 → Fine (result_questions reading calls site register)
    unfolding Fine
    of_result register few =
        let defs = reading.reaching site register in
        let P = λ (def : Def). IsQuestionWithin sites (OfDefinition def register) in
        All-map (IsQuestionWithin sites) (λ def. OfDefinition def register) (results reading calls site register)
        (All-weaker (IsDefWithin sites) P (λ def p. (p, few)) (results reading calls site register)
        (of_real (list_any (is_real reading calls register) defs) register defs (reached register)))

    of_action : (act : Action) → HasRegisters act → Fine (action_questions reading calls site act)
    of_action (action.AddImmediate to from immediate) p = if_so (is_kept reading site to from immediate) (OfUse site from ∷ []) (one from p.1)
    of_action (action.Add to left right) p = of_addition to left right (addition reading site left right) p.1.0 p.1.1
    of_action (action.Load loaded to a) p = of_address a p.1
    of_action (action.Store w register a) p = both (data_questions site register w) (address_questions reading site a) (of_data register w p.0) (of_address a p.1)
    of_action (action.Compute o to left right) p = of_compute o left right p.1.0 p.1.1
    of_action (action.Compare left right) p = of_two left right p.0 p.1
    of_action action.Return p = both (result_questions reading calls site 10) (result_questions reading calls site 11) (of_result 10 (lit< tt)) (of_result 11 (lit< tt))
    of_action (action.Constant to v) p = none
    of_action (action.Symbol to symbol addend) p = none
    of_action (action.Write to) p = none
    of_action action.Pass p = none
    of_action (action.Call callee link) p = none
    of_action action.Stop p = none

    pub questions_within : (act : Action) → HasRegisters act → All (All HasCallRegister) calls → All (IsQuestionWithin sites) (questions reading calls site act)
    unfolding Fine
    questions_within act p registers =
        both (action_questions reading calls site act) (flat_map (call_questions site) (calls_at calls site))
        (of_action act p) (of_calls (calls_at calls site) (calls_there HasCallRegister calls site registers))
