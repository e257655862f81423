-- Real definitions are one notion.
use Rattle.std.proofs.Common.{◌≡◌, ◌∙◌, ◌⊎◌, inl, inr, ℕ, ◌+◌, ◌-◌, ◌<◌, ◌≤◌, pos, true, false, cond, ◌&&◌, nat_le, true≢false, Option, Some, None, List, [], ◌∷◌, ◌++◌, map, length, get_or, option_map, Contains, ap, arith, refl, subst, sym}
use Rattle.std.specs.Prelude.{◌↔◌, IsTrue, slice_get}
use Rattle.std.specs.List.{list_any}
use Rattle.std.proofs.lemmas.Bool.{cases_lt}
use Rattle.std.proofs.lemmas.List.{length-map}
use Rattle.std.proofs.lemmas.Bool.Decides.{nat_tests}
use Rattle.std.proofs.lemmas.Option.{get_or_from_slice_get, slice_get-map, slice_get_within}
use Rattle.rt_base.proofs.Lists.{Contains-none}
use Rattle.rt_insn.specs.declared.insn.Insn.{Insn}
use Rattle.rt_insn.specs.declared.insn.Insn.TheVariants.{Lui, Auipc, Jal, Jalr, Beq, Bne, Blt, Bge, Bltu, Bgeu, Lb, Lh, Lw, Lbu, Lhu, Sb, Sh, Sw}
use Rattle.rt_insn.specs.declared.insn.Insn.TheVariants.{Addi, Slti, Sltiu, Xori, Ori, Andi, Slli, Srli, Srai, Add, Sub, Sll, Slt, Sltu, Xor, Srl, Sra, Or, And}
use Rattle.rt_insn.specs.declared.insn.Insn.TheVariants.{Mul, Mulh, Mulhsu, Mulhu, Div, Divu, Rem, Remu, Fence, Ecall, Ebreak}
use Rattle.rt_link.specs.declared.link.Link.{Link}
use Rattle.rt_link.specs.declared.link.Link.TheVariants.{Target, Pair, High, Low}
use Rattle.rt_link.specs.Effects.{link_at}
use Rattle.rt_proc.specs.declared.proc.Proc.{Proc}
use Rattle.rt_proc.specs.declared.site.Callee.{Callee}
use Rattle.rt_proc.specs.declared.site.Kind.{Kind}
use Rattle.rt_proc.specs.declared.site.Kind.TheVariants as kind
use Rattle.rt_proc.specs.declared.site.Site.{Site}
use Rattle.rt_flow.specs.declared.def.Def.{Def}
use Rattle.rt_flow.specs.declared.def.Def.TheVariants.{Entry, At}
use Rattle.rt_flow.specs.Bodies.{Reaches}
use Rattle.rt_body.specs.declared.action.Action.TheVariants as action
use Rattle.rt_body.specs.Actions.{insn_action, kind_action, site_action}
use Rattle.rt_body.specs.Readings.{Reading, action_at}
use Rattle.rt_body.specs.Right.{IsReading}
use Rattle.rt_body.specs.Symbols.{lowest}
use Rattle.rt_body.proofs.Numbering.{IsBy, defined_at}
use Rattle.rt_liveness.specs.declared.call.Call.{Call}
use Rattle.rt_liveness.specs.Programs.{Program, IsSiteOf, callees_of, called_by, is_call}
use Rattle.rt_liveness.specs.Calls.{AreCallsAt, AreCallsIn, gives_result}
use Rattle.rt_liveness.specs.Gives.{Gives, HasReal}
use Rattle.rt_liveness.proofs.Meeting.{any_some, some_any}
use Rattle.rt_frame.specs.Questions.{calls_at, first_gives, is_call_action, is_real}
use Rattle.rt_agreement.proofs.Calling.{inside}

-- no instruction is a call
insn_no_call : (at : ℕ → ℕ) (link : Option Link) (insn : Insn) → is_call_action (insn_action at link insn) ≡ false
unfolding insn_action
insn_no_call at None (Lui rd imm) = refl
insn_no_call at (Some (Target s a)) (Lui rd imm) = refl
insn_no_call at (Some (Pair s a)) (Lui rd imm) = refl
insn_no_call at (Some (High s a)) (Lui rd imm) = refl
insn_no_call at (Some (Low s a)) (Lui rd imm) = refl
insn_no_call at None (Addi rd rs1 imm) = refl
insn_no_call at (Some (Target s a)) (Addi rd rs1 imm) = refl
insn_no_call at (Some (Pair s a)) (Addi rd rs1 imm) = refl
insn_no_call at (Some (High s a)) (Addi rd rs1 imm) = refl
insn_no_call at (Some (Low s a)) (Addi rd rs1 imm) = refl
insn_no_call at link (Auipc rd imm) = refl
insn_no_call at link (Jal rd imm) = refl
insn_no_call at link (Jalr rd rs1 imm) = refl
insn_no_call at link (Beq rs1 rs2 imm) = refl
insn_no_call at link (Bne rs1 rs2 imm) = refl
insn_no_call at link (Bltu rs1 rs2 imm) = refl
insn_no_call at link (Bgeu rs1 rs2 imm) = refl
insn_no_call at link (Blt rs1 rs2 imm) = refl
insn_no_call at link (Bge rs1 rs2 imm) = refl
insn_no_call at link (Lb rd rs1 imm) = refl
insn_no_call at link (Lh rd rs1 imm) = refl
insn_no_call at link (Lw rd rs1 imm) = refl
insn_no_call at link (Lbu rd rs1 imm) = refl
insn_no_call at link (Lhu rd rs1 imm) = refl
insn_no_call at link (Sb rs1 rs2 imm) = refl
insn_no_call at link (Sh rs1 rs2 imm) = refl
insn_no_call at link (Sw rs1 rs2 imm) = refl
insn_no_call at link (Slti rd rs1 imm) = refl
insn_no_call at link (Sltiu rd rs1 imm) = refl
insn_no_call at link (Xori rd rs1 imm) = refl
insn_no_call at link (Ori rd rs1 imm) = refl
insn_no_call at link (Andi rd rs1 imm) = refl
insn_no_call at link (Slli rd rs1 amount) = refl
insn_no_call at link (Srli rd rs1 amount) = refl
insn_no_call at link (Srai rd rs1 amount) = refl
insn_no_call at link (Add rd rs1 rs2) = refl
insn_no_call at link (Sub rd rs1 rs2) = refl
insn_no_call at link (Xor rd rs1 rs2) = refl
insn_no_call at link (Or rd rs1 rs2) = refl
insn_no_call at link (And rd rs1 rs2) = refl
insn_no_call at link (Sll rd rs1 rs2) = refl
insn_no_call at link (Slt rd rs1 rs2) = refl
insn_no_call at link (Sltu rd rs1 rs2) = refl
insn_no_call at link (Srl rd rs1 rs2) = refl
insn_no_call at link (Sra rd rs1 rs2) = refl
insn_no_call at link (Mul rd rs1 rs2) = refl
insn_no_call at link (Mulh rd rs1 rs2) = refl
insn_no_call at link (Mulhsu rd rs1 rs2) = refl
insn_no_call at link (Mulhu rd rs1 rs2) = refl
insn_no_call at link (Div rd rs1 rs2) = refl
insn_no_call at link (Divu rd rs1 rs2) = refl
insn_no_call at link (Rem rd rs1 rs2) = refl
insn_no_call at link (Remu rd rs1 rs2) = refl
insn_no_call at link (Fence kept) = refl
insn_no_call at link Ecall = refl
insn_no_call at link Ebreak = refl

-- a site's action is a call exactly where its kind is
kind_call : (at : ℕ → ℕ) (link : Option Link) (k : Kind) → is_call_action (kind_action at link k) ≡ is_call k
kind_call at link (kind.Plain insn) = insn_no_call at link insn
kind_call at link (kind.Call callee register) = refl
kind_call at link kind.Return = refl
kind_call at link kind.Stop = refl

module _ (program : Program) (q : ℕ) (proc : Proc) (reading : Reading) (calls : List (List Call)) (is_proc : slice_get program.procs q ≡ Some proc)
    (is_read : slice_get program.readings q ≡ Some reading) (is : IsReading program.object proc reading) (are : AreCallsIn program q proc calls) (r : ℕ) (few : r ≤ 1) where
  -- what the site of a number does
  act_is : (d : ℕ) (writer : Site) → slice_get proc.sites d ≡ Some writer → action_at reading.actions d ≡ site_action program.object writer
  act_is d writer at =
      ap (λ actions. action_at actions d) is.actions
      ∙ get_or_from_slice_get (map (site_action program.object) proc.sites) d (site_action program.object writer) action.Pass
      (slice_get-map (site_action program.object) proc.sites d ∙ ap (option_map (site_action program.object)) at)

  is_call_site : (d : ℕ) (writer : Site) → slice_get proc.sites d ≡ Some writer → is_call_action (action_at reading.actions d) ≡ is_call writer.kind
  is_call_site d writer at = ap is_call_action (act_is d writer at) ∙ kind_call (lowest program.object) (link_at program.object writer.place) writer.kind

  -- a definition that reaches a site is one of a site
  writer_of : (site d : ℕ) → Contains (reading.reaching site (10 + r)) (At d) → (writer : Site) × (slice_get proc.sites d ≡ Some writer)
  writer_of site d there = by (cases_lt site (length reading.actions))
    where
      by : (site < length reading.actions) ⊎ (length reading.actions ≤ site) → (writer : Site) × (slice_get proc.sites d ≡ Some writer)
      by (inl less) =
          let reaches : Reaches reading.body (pos (10 + r)) (At d) site = ((is.reaching site (10 + r) less).reaching (At d)).0 there in
          let found : IsBy 0 reading.actions d (10 + r) = defined_at 0 reading.actions d (10 + r) (subst (λ body. Contains body.defs (d, pos (10 + r))) is.body reaches.0) in
          let many : length reading.actions ≡ length proc.sites = ap length is.actions ∙ length-map proc.sites (site_action program.object) in
          inside proc.sites d (omega (arith, found.is_number, found.within, many))
      by (inr past) = absurd (Contains-none (At d) (subst (λ defs. Contains defs (At d)) (is.reaching_else site (10 + r) past) there))

  -- the first call of a site that is a call is that of its callee
  first_call : (here : List Call) (callees : List Callee) (callee : Callee) (tails : List Callee) → callees ≡ callee ∷ tails → length here ≡ length callees
      → ((call : Call) → 0 < length here → IsTrue (gives_result (get_or here 0 call) r) ↔ Gives program (get_or callees 0 callee) r)
      → (first_gives here (10 + r) ≡ true) ↔ Gives program callee r
  first_call [] callees callee tails same long each = absurd (omega (arith, long, ap length same))
  first_call (call ∷ more) callees callee tails same long each =
      let gives : IsTrue (gives_result call r) ↔ Gives program callee r = subst (λ cs. IsTrue (gives_result call r) ↔ Gives program (get_or cs 0 callee) r) same (each call (omega arith)) in
      let low : nat_le 10 (10 + r) ≡ true = grind (arith, nat_tests) in
      let number : 10 + r - 10 ≡ r = omega arith in
      let told : first_gives (call ∷ more) (10 + r) ≡ gives_result call r = ap (λ b. b && gives_result call (10 + r - 10)) low ∙ ap (gives_result call) number in
      ((λ e. gives.0 (sym told ∙ e)), λ g. told ∙ gives.1 g)

  call_gives : (d : ℕ) (writer : Site) (callee : Callee) (link : ℕ) → slice_get proc.sites d ≡ Some writer → writer.kind ≡ kind.Call callee link
      → (first_gives (calls_at calls d) (10 + r) ≡ true) ↔ Gives program callee r
  call_gives d writer callee link at is_kind =
      let less : d < length calls = omega (arith, are.one_each, slice_get_within proc.sites d writer at) in
      let told : AreCallsAt program q d writer (calls_at calls d) = subst (λ site. AreCallsAt program q d site (calls_at calls d)) (get_or_from_slice_get proc.sites d writer writer at) (are.each d writer less) in
      first_call (calls_at calls d) (callees_of writer) callee writer.tails (ap (λ k. called_by k ++ writer.tails) is_kind) told.one_each
      (λ call within. (told.each 0 callee call within).gives r)

  -- a definition is real
  abbrev IsRealOf : Site → Type 0
  IsRealOf writer = (is_call writer.kind ≡ false) ⊎ ((callee : Callee) × (link : ℕ) × (writer.kind ≡ kind.Call callee link) × Gives program callee r)

  by_instruction : (d : ℕ) (writer : Site) → slice_get proc.sites d ≡ Some writer → is_call writer.kind ≡ false → is_real reading calls (10 + r) (At d) ≡ true
  by_instruction d writer at none = ap (λ b. cond b (first_gives (calls_at calls d) (10 + r)) true) (is_call_site d writer at ∙ none)

  by_call : (d : ℕ) (writer : Site) (callee : Callee) (link : ℕ) → slice_get proc.sites d ≡ Some writer → writer.kind ≡ kind.Call callee link
      → is_real reading calls (10 + r) (At d) ≡ first_gives (calls_at calls d) (10 + r)
  by_call d writer callee link at is_kind = ap (λ b. cond b (first_gives (calls_at calls d) (10 + r)) true) (is_call_site d writer at ∙ ap is_call is_kind)

  real_to : (d : ℕ) (writer : Site) (k : Kind) → slice_get proc.sites d ≡ Some writer → writer.kind ≡ k → is_real reading calls (10 + r) (At d) ≡ true → IsRealOf writer
  real_to d writer (kind.Plain insn) at is_kind e = inl (ap is_call is_kind)
  real_to d writer (kind.Call callee link) at is_kind e = inr (callee, link, is_kind, (call_gives d writer callee link at is_kind).0 (sym (by_call d writer callee link at is_kind) ∙ e))
  real_to d writer kind.Return at is_kind e = inl (ap is_call is_kind)
  real_to d writer kind.Stop at is_kind e = inl (ap is_call is_kind)

  real_from : (d : ℕ) (writer : Site) → slice_get proc.sites d ≡ Some writer → IsRealOf writer → is_real reading calls (10 + r) (At d) ≡ true
  real_from d writer at (inl none) = by_instruction d writer at none
  real_from d writer at (inr (callee, link, is_kind, gives)) = by_call d writer callee link at is_kind ∙ (call_gives d writer callee link at is_kind).1 gives

  is_site_of : (d : ℕ) (writer : Site) → slice_get proc.sites d ≡ Some writer → IsSiteOf program q d reading writer
  is_site_of d writer at = record { proc = proc; is_proc = is_proc; is_reading = is_read; is_site = at }

  has_real : (site : ℕ) (def : Def) → Contains (reading.reaching site (10 + r)) def → is_real reading calls (10 + r) def ≡ true → HasReal program reading q site r
  has_real site Entry there e = absurd (true≢false (sym e))
  has_real site (At d) there e =
      let (writer, at) = writer_of site d there in
      record { d = d; reaches = there; writer = writer; is_writer = is_site_of d writer at; real = real_to d writer writer.kind at refl e }

  some_is : {X : Type 0} (x y : X) → Some x ≡ Some y → x ≡ y
  some_is x y e = cc

  -- the site of a number of the procedure
  site_there : (d : ℕ) (writer : Site) → IsSiteOf program q d reading writer → slice_get proc.sites d ≡ Some writer
  site_there d writer at = subst (λ (p : Proc). slice_get p.sites d ≡ Some writer) (some_is at.proc proc (sym at.is_proc ∙ is_proc)) at.is_site

  real_has : (site : ℕ) → HasReal program reading q site r → list_any (is_real reading calls (10 + r)) (reading.reaching site (10 + r)) ≡ true
  real_has site real =
      some_any (is_real reading calls (10 + r)) (reading.reaching site (10 + r)) (At real.d) real.reaches
      (real_from real.d real.writer (site_there real.d real.writer real.is_writer) real.real)

  pub real_iff : (site : ℕ) → (list_any (is_real reading calls (10 + r)) (reading.reaching site (10 + r)) ≡ true) ↔ HasReal program reading q site r
  real_iff site = (
    (λ e. let found = any_some (is_real reading calls (10 + r)) (reading.reaching site (10 + r)) e in has_real site found.0 found.1 found.2),
    real_has site,
  )

pub one_real : (program : Program) (q : ℕ) (proc : Proc) (reading : Reading) (calls : List (List Call)) (site r : ℕ)
    → slice_get program.procs q ≡ Some proc → slice_get program.readings q ≡ Some reading → IsReading program.object proc reading
    → AreCallsIn program q proc calls → r ≤ 1
    → (list_any (is_real reading calls (10 + r)) (reading.reaching site (10 + r)) ≡ true) ↔ HasReal program reading q site r
one_real program q proc reading calls site r is_proc is_read is are few = real_iff program q proc reading calls is_proc is_read is are r few site
