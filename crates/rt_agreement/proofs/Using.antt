-- Whatever the lines of a site speak of, the site reads.
use Rattle.std.proofs.Common.{◌≡◌, ◌⊎◌, inl, inr, ◌+◌, ◌≤◌, ℕ, ℤ, Bool, true, false, cond, nat_eq, Option, Some, None, List, [], ◌∷◌, ◌++◌, map, refl, subst, arith}
use Rattle.std.specs.Prelude.{Contains}
use Rattle.std.proofs.lemmas.List.Elements.{Contains-append_cases, Contains-append_left, Contains-append_right}
use Rattle.rt_base.proofs.Lists.{Contains-none, Contains-here, Contains-there, Contains-cons_cases, Contains-map_source}
use Rattle.rt_insn.specs.declared.insn.Insn.{Insn}
use Rattle.rt_insn.specs.declared.insn.Insn.TheVariants.{Lui, Auipc, Jal, Jalr, Beq, Bne, Blt, Bge, Bltu, Bgeu, Lb, Lh, Lw, Lbu, Lhu, Sb, Sh, Sw}
use Rattle.rt_insn.specs.declared.insn.Insn.TheVariants.{Addi, Slti, Sltiu, Xori, Ori, Andi, Slli, Srli, Srai, Add, Sub, Sll, Slt, Sltu, Xor, Srl, Sra, Or, And}
use Rattle.rt_insn.specs.declared.insn.Insn.TheVariants.{Mul, Mulh, Mulhsu, Mulhu, Div, Divu, Rem, Remu, Fence, Ecall, Ebreak}
use Rattle.rt_link.specs.declared.link.Link.{Link}
use Rattle.rt_link.specs.declared.link.Link.TheVariants.{Target, Pair, High, Low}
use Rattle.rt_proc.specs.declared.site.Callee.{Callee}
use Rattle.rt_proc.specs.declared.site.Callee.TheVariants as callee
use Rattle.rt_flow.specs.declared.def.Def.{Def}
use Rattle.rt_body.specs.declared.action.Action.{Action}
use Rattle.rt_body.specs.declared.action.Action.TheVariants as action
use Rattle.rt_body.specs.declared.action.Address.{Address}
use Rattle.rt_body.specs.declared.action.Address.TheVariants as address
use Rattle.rt_body.specs.declared.action.Operation.{Operation}
use Rattle.rt_body.specs.declared.action.Operation.TheVariants as operation
use Rattle.rt_body.specs.declared.action.Width.{Width}
use Rattle.rt_body.specs.declared.action.Width.TheVariants as width
use Rattle.rt_body.specs.Actions.{address_by, insn_action, op_of}
use Rattle.rt_body.specs.Readings.{Reading}
use Rattle.rt_track.specs.declared.op.Op.TheVariants as op
use Rattle.rt_liveness.specs.declared.call.Call.{Call}
use Rattle.rt_liveness.specs.Calls.{taken_registers}
use Rattle.rt_liveness.specs.Reads.{operands_of}
use Rattle.rt_frame.specs.declared.addition.Addition.{Addition}
use Rattle.rt_frame.specs.declared.addition.Addition.TheVariants as addition
use Rattle.rt_frame.specs.declared.question.Question.{Question}
use Rattle.rt_frame.specs.declared.question.Question.TheVariants.{OfUse, OfDefinition}
use Rattle.rt_frame.specs.Questions.{action_questions, addition_questions, address_questions, call_questions, compute_questions, data_questions, is_kept, is_multi, operand, results, target_questions}
use Rattle.rt_frame.specs.Questions.{addition as addition_at}

-- the register of an address
abbrev pub address_register : Address → List ℕ
address_register (address.Symbol g a) = []
address_register (address.Register r k) = r ∷ []

-- an operand, where it is a register
abbrev pub right_register : Option ℕ → List ℕ
right_register None = []
right_register (Some r) = r ∷ []

-- the registers that an action takes something from; a return takes results
abbrev pub used_by : Action → List ℕ
used_by (action.AddImmediate to from n) = from ∷ []
used_by (action.Add to left right) = left ∷ right ∷ []
used_by (action.Load l to a) = address_register a
used_by (action.Store w stored a) = address_register a ++ stored ∷ []
used_by (action.Compute o to left right) = left ∷ right_register right
used_by (action.Compare left right) = left ∷ right ∷ []
used_by action.Return = 10 ∷ 11 ∷ []
used_by other = []

-- the register of an address is read
addressed : (at : ℕ → ℕ) (link : Option Link) (from : ℕ) (k : ℤ) (r : ℕ) → Contains (address_register (address_by at link from k)) r → Contains (from ∷ []) r
addressed at None from k r c = c
addressed at (Some (Target s a)) from k r c = c
addressed at (Some (Pair s a)) from k r c = c
addressed at (Some (High s a)) from k r c = c
addressed at (Some (Low s a)) from k r c = absurd (Contains-none r c)

stored : (at : ℕ → ℕ) (link : Option Link) (from : ℕ) (k : ℤ) (n r : ℕ) → Contains (address_register (address_by at link from k) ++ n ∷ []) r → Contains (from ∷ n ∷ []) r
stored at None from k n r c = c
stored at (Some (Target s a)) from k n r c = c
stored at (Some (Pair s a)) from k n r c = c
stored at (Some (High s a)) from k n r c = c
stored at (Some (Low s a)) from k n r c = Contains-there from (n ∷ []) r c

-- an instruction reads what its action takes something from
pub insn_used : (at : ℕ → ℕ) (link : Option Link) (insn : Insn) (r : ℕ) → Contains (used_by (insn_action at link insn)) r → Contains (operands_of insn) r
unfolding insn_action
insn_used at None (Lui rd imm) r c = c
insn_used at (Some (Target s a)) (Lui rd imm) r c = c
insn_used at (Some (Pair s a)) (Lui rd imm) r c = c
insn_used at (Some (High s a)) (Lui rd imm) r c = c
insn_used at (Some (Low s a)) (Lui rd imm) r c = c
insn_used at None (Addi rd rs1 imm) r c = c
insn_used at (Some (Target s a)) (Addi rd rs1 imm) r c = c
insn_used at (Some (Pair s a)) (Addi rd rs1 imm) r c = c
insn_used at (Some (High s a)) (Addi rd rs1 imm) r c = c
insn_used at (Some (Low s a)) (Addi rd rs1 imm) r c = absurd (Contains-none r c)
insn_used at link (Auipc rd imm) r c = c
insn_used at link (Jal rd imm) r c = c
insn_used at link (Jalr rd rs1 imm) r c = absurd (Contains-none r c)
insn_used at link (Beq rs1 rs2 imm) r c = absurd (Contains-none r c)
insn_used at link (Bne rs1 rs2 imm) r c = absurd (Contains-none r c)
insn_used at link (Bltu rs1 rs2 imm) r c = absurd (Contains-none r c)
insn_used at link (Bgeu rs1 rs2 imm) r c = absurd (Contains-none r c)
insn_used at link (Blt rs1 rs2 imm) r c = c
insn_used at link (Bge rs1 rs2 imm) r c = c
insn_used at link (Lb rd rs1 imm) r c = addressed at link rs1 imm r c
insn_used at link (Lh rd rs1 imm) r c = addressed at link rs1 imm r c
insn_used at link (Lw rd rs1 imm) r c = addressed at link rs1 imm r c
insn_used at link (Lbu rd rs1 imm) r c = addressed at link rs1 imm r c
insn_used at link (Lhu rd rs1 imm) r c = addressed at link rs1 imm r c
insn_used at link (Sb rs1 rs2 imm) r c = stored at link rs1 imm rs2 r c
insn_used at link (Sh rs1 rs2 imm) r c = stored at link rs1 imm rs2 r c
insn_used at link (Sw rs1 rs2 imm) r c = stored at link rs1 imm rs2 r c
insn_used at link (Slti rd rs1 imm) r c = c
insn_used at link (Sltiu rd rs1 imm) r c = c
insn_used at link (Xori rd rs1 imm) r c = absurd (Contains-none r c)
insn_used at link (Ori rd rs1 imm) r c = absurd (Contains-none r c)
insn_used at link (Andi rd rs1 imm) r c = absurd (Contains-none r c)
insn_used at link (Slli rd rs1 amount) r c = c
insn_used at link (Srli rd rs1 amount) r c = c
insn_used at link (Srai rd rs1 amount) r c = c
insn_used at link (Add rd rs1 rs2) r c = c
insn_used at link (Sub rd rs1 rs2) r c = absurd (Contains-none r c)
insn_used at link (Xor rd rs1 rs2) r c = absurd (Contains-none r c)
insn_used at link (Or rd rs1 rs2) r c = absurd (Contains-none r c)
insn_used at link (And rd rs1 rs2) r c = absurd (Contains-none r c)
insn_used at link (Sll rd rs1 rs2) r c = c
insn_used at link (Slt rd rs1 rs2) r c = c
insn_used at link (Sltu rd rs1 rs2) r c = c
insn_used at link (Srl rd rs1 rs2) r c = c
insn_used at link (Sra rd rs1 rs2) r c = c
insn_used at link (Mul rd rs1 rs2) r c = c
insn_used at link (Mulh rd rs1 rs2) r c = c
insn_used at link (Mulhsu rd rs1 rs2) r c = c
insn_used at link (Mulhu rd rs1 rs2) r c = c
insn_used at link (Div rd rs1 rs2) r c = c
insn_used at link (Divu rd rs1 rs2) r c = c
insn_used at link (Rem rd rs1 rs2) r c = c
insn_used at link (Remu rd rs1 rs2) r c = c
insn_used at link (Fence kept) r c = c
insn_used at link Ecall r c = c
insn_used at link Ebreak r c = c

-- so does one whose result is counted from a register, or is a sum
pub added_used : (act : Action) (p : ℕ) (k : ℤ) → op_of act ≡ op.AddI p k → Contains (used_by act) p
added_used (action.AddImmediate to from n) p k e = let same : from ≡ p = cc in subst (Contains (from ∷ [])) same (Contains-here from [])
added_used (action.Constant to v) p k e = cc
added_used (action.Symbol to g a) p k e = cc
added_used (action.Add to left right) p k e = cc
added_used (action.Load l to a) p k e = cc
added_used (action.Store w d a) p k e = cc
added_used (action.Compute o to left right) p k e = cc
added_used (action.Compare left right) p k e = cc
added_used (action.Write to) p k e = cc
added_used action.Pass p k e = cc
added_used (action.Call callee link) p k e = cc
added_used action.Return p k e = cc
added_used action.Stop p k e = cc

pub summed_used : (act : Action) (p m : ℕ) → op_of act ≡ op.Add p m → Contains (used_by act) p × Contains (used_by act) m
summed_used (action.Add to left right) p m e =
    let one : left ≡ p = cc in
    let other : right ≡ m = cc in (
      subst (Contains (left ∷ right ∷ [])) one (Contains-here left (right ∷ [])),
      subst (Contains (left ∷ right ∷ [])) other (Contains-there left (right ∷ []) right (Contains-here right [])),
    )
summed_used (action.AddImmediate to from n) p m e = cc
summed_used (action.Constant to v) p m e = cc
summed_used (action.Symbol to g a) p m e = cc
summed_used (action.Load l to a) p m e = cc
summed_used (action.Store w d a) p m e = cc
summed_used (action.Compute o to left right) p m e = cc
summed_used (action.Compare left right) p m e = cc
summed_used (action.Write to) p m e = cc
summed_used action.Pass p m e = cc
summed_used (action.Call callee link) p m e = cc
summed_used action.Return p m e = cc
summed_used action.Stop p m e = cc

-- uses of such registers
abbrev pub IsUse : List ℕ → Question → Type 0
IsUse rs (OfUse s n) = Contains rs n
IsUse rs (OfDefinition d n) = ⊥

wider : (rs ns : List ℕ) → ((n : ℕ) → Contains rs n → Contains ns n) → (question : Question) → IsUse rs question → IsUse ns question
wider rs ns h (OfUse s n) c = h n c
wider rs ns h (OfDefinition d n) c = absurd c

-- What the lines of a site speak of.
module _ (site : ℕ) (question : Question) where
  -- uses of registers are of these
  of_uses : (rs : List ℕ) → Contains (map (λ (n : ℕ). OfUse site n) rs) question → IsUse rs question
  of_uses rs c = let (n, there, e) = Contains-map_source (λ (n : ℕ). OfUse site n) rs question c in subst (IsUse rs) e there

  no_use : Contains [] question → (X : Type 0) → X
  no_use c X = absurd (Contains-none question c)

  either : (one other : List Question) (rs : List ℕ) → (Contains one question → IsUse rs question) → (Contains other question → IsUse rs question)
      → Contains (one ++ other) question → IsUse rs question
  either one other rs f g c = by (Contains-append_cases one other question c)
    where
      by : Contains one question ⊎ Contains other question → IsUse rs question
      by (inl d) = f d
      by (inr d) = g d

  if_use : (b : Bool) (n : ℕ) → Contains (cond b (OfUse site n ∷ []) []) question → IsUse (n ∷ []) question
  if_use true n c = of_uses (n ∷ []) c
  if_use false n c = no_use c (IsUse (n ∷ []) question)

  unless_use : (b : Bool) (n : ℕ) → Contains (cond b [] (OfUse site n ∷ [])) question → IsUse (n ∷ []) question
  unless_use true n c = no_use c (IsUse (n ∷ []) question)
  unless_use false n c = of_uses (n ∷ []) c

  first_two : (left right : ℕ) → IsUse (left ∷ []) question → IsUse (left ∷ right ∷ []) question
  first_two left right c = wider (left ∷ []) (left ∷ right ∷ []) (λ n d. Contains-append_left (left ∷ []) (right ∷ []) n d) question c

  last_two : (left right : ℕ) → IsUse (right ∷ []) question → IsUse (left ∷ right ∷ []) question
  last_two left right c = wider (right ∷ []) (left ∷ right ∷ []) (λ n d. Contains-there left (right ∷ []) n d) question c

  additions : (to left right : ℕ) (a : Addition) → Contains (addition_questions site to left right a) question → IsUse (left ∷ right ∷ []) question
  additions to left right addition.IndexLeft c =
      either (cond (nat_eq to 0) [] (OfUse site right ∷ [])) (OfUse site left ∷ []) (left ∷ right ∷ [])
      (λ d. last_two left right (unless_use (nat_eq to 0) right d)) (λ d. first_two left right (of_uses (left ∷ []) d)) c
  additions to left right addition.IndexRight c =
      either (cond (nat_eq to 0) [] (OfUse site left ∷ [])) (OfUse site right ∷ []) (left ∷ right ∷ [])
      (λ d. first_two left right (unless_use (nat_eq to 0) left d)) (λ d. last_two left right (of_uses (right ∷ []) d)) c
  additions to left right addition.Indices c = of_uses (left ∷ right ∷ []) c
  additions to left right addition.Untold c = no_use c (IsUse (left ∷ right ∷ []) question)

  operands : (left : ℕ) (right : Option ℕ) → Contains (OfUse site left ∷ operand site right) question → IsUse (left ∷ right_register right) question
  operands left None c = of_uses (left ∷ []) c
  operands left (Some right) c = of_uses (left ∷ right ∷ []) c

  computes : (o : Operation) (left : ℕ) (right : Option ℕ) → Contains (compute_questions site o left right) question
      → IsUse (left ∷ right_register right) question
  computes operation.LessUnsigned left right c = no_use c (IsUse (left ∷ right_register right) question)
  computes operation.Scale left right c = operands left right c
  computes operation.ShiftRight left right c = operands left right c
  computes operation.ShiftRightSigned left right c = operands left right c
  computes operation.Signed left right c = operands left right c
  computes operation.Unsigned left right c = operands left right c
  computes operation.SignedByUnsigned left right c = operands left right c
  computes operation.LessSigned left right c = operands left right c

  datas : (w : Width) (n : ℕ) → Contains (data_questions site n w) question → IsUse (n ∷ []) question
  datas width.Word n c = of_uses (n ∷ []) c
  datas width.Half n c = no_use c (IsUse (n ∷ []) question)
  datas width.Byte n c = no_use c (IsUse (n ∷ []) question)

  -- Calls.

  -- what the callee of a call is held in, or what it takes
  abbrev pub IsOfCall : Call → Question → Type 0
  IsOfCall call asked = (n : ℕ) × (OfUse site n ≡ asked) × ((call.callee ≡ callee.Unknown n) ⊎ Contains (taken_registers call) n)

  targets : (call : Call) (plain : Bool) (c : Callee) → call.callee ≡ c → Contains (target_questions site plain c) question → IsOfCall call question
  targets call true (callee.Unknown n) e c = by (Contains-cons_cases (OfUse site n) [] question c)
    where
      by : (OfUse site n ≡ question) ⊎ Contains [] question → IsOfCall call question
      by (inl same) = (n, same, inl e)
      by (inr d) = no_use d (IsOfCall call question)
  targets call true (callee.Proc p) e c = no_use c (IsOfCall call question)
  targets call true (callee.Extern symbol) e c = no_use c (IsOfCall call question)
  targets call false (callee.Unknown n) e c = no_use c (IsOfCall call question)
  targets call false (callee.Proc p) e c = no_use c (IsOfCall call question)
  targets call false (callee.Extern symbol) e c = no_use c (IsOfCall call question)

  pub asked-call : (call : Call) → Contains (call_questions site call) question → IsOfCall call question
  asked-call call c =
      by (Contains-append_cases (target_questions site call.is_plain call.callee) (map (λ (n : ℕ). OfUse site n) (taken_registers call)) question c)
    where
      by : Contains (target_questions site call.is_plain call.callee) question ⊎ Contains (map (λ (n : ℕ). OfUse site n) (taken_registers call)) question
          → IsOfCall call question
      by (inl d) = targets call call.is_plain call.callee refl d
      by (inr d) = let (n, there, e) = Contains-map_source (λ (n : ℕ). OfUse site n) (taken_registers call) question d in (n, e, inr there)

  -- Actions.

  module _ (reading : Reading) (calls : List (List Call)) where
    -- a use of what an action that is no return takes something from, or a definition of a result that a return tells of
    abbrev pub IsOfAction : Action → Question → Type 0
    IsOfAction act (OfUse s n) = Contains (used_by act) n × (act ≡ action.Return → ⊥)
    IsOfAction act (OfDefinition d n) = (act ≡ action.Return) × ((m : ℕ) × (n ≡ 10 + m) × (m ≤ 1) × Contains (results reading calls site n) d)

    addresses : (a : Address) → Contains (address_questions reading site a) question → IsUse (address_register a) question
    addresses (address.Symbol g k) c = no_use c (IsUse [] question)
    addresses (address.Register n k) c = if_use (is_multi (reading.value_at site n)) n c

    uses : (act : Action) → (act ≡ action.Return → ⊥) → (asked : Question) → IsUse (used_by act) asked → IsOfAction act asked
    uses act other (OfUse s n) c = (c, other)
    uses act other (OfDefinition d n) c = absurd c

    definitions : (m : ℕ) → m ≤ 1 → Contains (map (λ (d : Def). OfDefinition d (10 + m)) (results reading calls site (10 + m))) question
        → IsOfAction action.Return question
    definitions m few c =
        let (d, there, e) = Contains-map_source (λ (d : Def). OfDefinition d (10 + m)) (results reading calls site (10 + m)) question c in
        let here : IsOfAction action.Return (OfDefinition d (10 + m)) = (refl, (m, refl, few, there)) in
        subst (IsOfAction action.Return) e here

    returns : Contains (action_questions reading calls site action.Return) question → IsOfAction action.Return question
    returns c =
        by (Contains-append_cases (map (λ (d : Def). OfDefinition d 10) (results reading calls site 10)) (map (λ (d : Def). OfDefinition d 11) (results reading calls site 11)) question c)
      where
        by : Contains (map (λ (d : Def). OfDefinition d 10) (results reading calls site 10)) question
            ⊎ Contains (map (λ (d : Def). OfDefinition d 11) (results reading calls site 11)) question → IsOfAction action.Return question
        by (inl d) = definitions 0 (omega arith) d
        by (inr d) = definitions 1 (omega arith) d

    pub asked-action : (act : Action) → Contains (action_questions reading calls site act) question → IsOfAction act question
    asked-action (action.AddImmediate to from n) c = uses (action.AddImmediate to from n) (λ e. cc) question (if_use (is_kept reading site to from n) from c)
    asked-action (action.Add to left right) c = uses (action.Add to left right) (λ e. cc) question (additions to left right (addition_at reading site left right) c)
    asked-action (action.Load l to a) c = uses (action.Load l to a) (λ e. cc) question (addresses a c)
    asked-action (action.Store w n a) c =
        uses (action.Store w n a) (λ e. cc) question
        (either (data_questions site n w) (address_questions reading site a) (address_register a ++ n ∷ [])
        (λ d. wider (n ∷ []) (address_register a ++ n ∷ []) (λ m h. Contains-append_right (address_register a) (n ∷ []) m h) question (datas w n d))
        (λ d. wider (address_register a) (address_register a ++ n ∷ []) (λ m h. Contains-append_left (address_register a) (n ∷ []) m h) question (addresses a d)) c)
    asked-action (action.Compute o to left right) c = uses (action.Compute o to left right) (λ e. cc) question (computes o left right c)
    asked-action (action.Compare left right) c = uses (action.Compare left right) (λ e. cc) question (of_uses (left ∷ right ∷ []) c)
    asked-action action.Return c = returns c
    asked-action (action.Constant to v) c = no_use c (IsOfAction (action.Constant to v) question)
    asked-action (action.Symbol to g a) c = no_use c (IsOfAction (action.Symbol to g a) question)
    asked-action (action.Write to) c = no_use c (IsOfAction (action.Write to) question)
    asked-action action.Pass c = no_use c (IsOfAction action.Pass question)
    asked-action (action.Call callee link) c = no_use c (IsOfAction (action.Call callee link) question)
    asked-action action.Stop c = no_use c (IsOfAction action.Stop question)
