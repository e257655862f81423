-- The table of control: what a site does, by its relocation and its instruction.
use Rattle.std.specs.Prelude.{ℕ, ℤ, pos, ◌==◌, ◌&&◌, Option, Some, None, Result, Ok, Err, if◌then◌else◌}
use Rattle.std.specs.Ordering.{int_eq}
use Rattle.rt_elf.specs.Parts.{Parts as Object}
use Rattle.rt_insn.specs.declared.insn.Insn.{Insn}
use Rattle.rt_insn.specs.declared.insn.Insn.TheVariants.{Jal, Jalr, Beq, Bne, Blt, Bge, Bltu, Bgeu, Ebreak}
use Rattle.rt_link.specs.declared.link.Link.{Link}
use Rattle.rt_link.specs.declared.place.Place.{Place}
use Rattle.rt_control.specs.declared.form.Called.{Called}
use Rattle.rt_control.specs.declared.form.Called.TheVariants as called
use Rattle.rt_control.specs.declared.form.Form.{Form}
use Rattle.rt_control.specs.declared.form.Form.TheVariants.{Plain, Call, Tail, Return, Stop}
use Rattle.rt_control.specs.declared.form.Target.{Target}
use Rattle.rt_control.specs.declared.form.Target.TheVariants as target
use Rattle.rt_control.specs.declared.form.Way.{Way}
use Rattle.rt_control.specs.declared.form.Way.TheVariants.{On, Jump, Branch, Leave, Table}
use Rattle.rt_control.specs.declared.fault.SiteFault.{SiteFault}
use Rattle.rt_control.specs.declared.fault.SiteFault.TheVariants as fault
use Rattle.rt_control.specs.declared.outcome.Outcome.{Outcome}
use Rattle.rt_control.specs.declared.outcome.Outcome.TheVariants.{NoTable, BadTarget, Targets}
use Rattle.rt_control.specs.Places.{good_place, after, jump_target}

-- the number of a fault
abbrev pub number_of : SiteFault → ℕ
number_of fault.Instruction = 30
number_of fault.Target = 31
number_of fault.Continuation = 32
number_of fault.Jump = 33

-- what a call to a target calls
abbrev pub called_at : Target → Called
called_at (target.Code place) = called.Code place
called_at (target.Outside symbol) = called.Outside symbol

-- a call with a link register, whose continuation may be bad
abbrev pub call_form : Object → Place → ℕ → Called → Form
call_form object continuation link callee = Call callee link (good_place object continuation)

-- a far call by the register that takes the return address: with x0 a tail call
abbrev pub pair_form : Object → Place → ℕ → Option Target → Result Form SiteFault
pair_form object place link None = Err fault.Target
pair_form object place link (Some leads) =
    if link == 0 then Ok (Tail leads) else Ok (call_form object (after place 8) link (called_at leads))

-- how a jump goes on
abbrev pub way_to : Target → Way
way_to (target.Code place) = Jump place
way_to (target.Outside symbol) = Leave symbol

-- JAL: with x0 a jump, else a call
abbrev pub jal_form : Object → Place → Insn → ℕ → Option Target → Result Form SiteFault
jal_form object place insn link None = Err fault.Target
jal_form object place insn link (Some leads) =
    if link == 0 then Ok (Plain insn (way_to leads)) else Ok (call_form object (after place 4) link (called_at leads))

-- a jump through a register by what it comes to: to each entry of its table, if it has one that leads to code
abbrev pub table_form : Insn → Outcome → Result Form SiteFault
table_form insn NoTable = Err fault.Jump
table_form insn BadTarget = Err fault.Target
table_form insn (Targets places) = Ok (Plain insn (Table places))

-- JALR with no far call: with x0 a return if it is `jalr x0,0(ra)`, or else a jump to an entry of a table; else a call
-- of what the base register holds
abbrev pub jalr_form : Object → Place → Insn → ℕ → ℕ → ℤ → Outcome → Result Form SiteFault
jalr_form object place insn link base distance outcome =
    if link == 0 then (if base == 1 && int_eq distance (pos 0) then Ok Return else table_form insn outcome) else
    Ok (call_form object (after place 4) link (called.Register base))

-- a step to the continuation, if that is good
abbrev pub step_form : Insn → Option Place → Result Form SiteFault
step_form insn None = Err fault.Continuation
step_form insn (Some continuation) = Ok (Plain insn (On continuation))

-- a step to the target of a branch or to its continuation, if both are good; the target counts first
abbrev pub branch_form : Insn → Option Target → Option Place → Result Form SiteFault
branch_form insn (Some (target.Code place)) None = Err fault.Continuation
branch_form insn (Some (target.Code place)) (Some continuation) = Ok (Plain insn (Branch place continuation))
branch_form insn other continuation = Err fault.Target

-- the distance of a branch (RISC-V unprivileged ISA, "Conditional Branches")
abbrev pub branch_distance : Insn → Option ℤ
branch_distance (Beq rs1 rs2 distance) = Some distance
branch_distance (Bne rs1 rs2 distance) = Some distance
branch_distance (Blt rs1 rs2 distance) = Some distance
branch_distance (Bge rs1 rs2 distance) = Some distance
branch_distance (Bltu rs1 rs2 distance) = Some distance
branch_distance (Bgeu rs1 rs2 distance) = Some distance
branch_distance other = None

-- a branch, where there is a distance, or any instruction that goes on to its continuation alone
abbrev pub going_form : Object → Place → Option Link → Insn → Option ℤ → Result Form SiteFault
going_form object place link insn None = step_form insn (good_place object (after place 4))
going_form object place link insn (Some distance) =
    branch_form insn (jump_target object place link distance) (good_place object (after place 4))

-- what the site of an instruction at a place does, where a relocation may say the target, and a table where a jump
-- through a register leads
unfoldable pub insn_form : Object → Place → Option Link → Insn → Outcome → Result Form SiteFault
insn_form object place link (Jal rd distance) outcome = jal_form object place (Jal rd distance) rd (jump_target object place link distance)
insn_form object place link (Jalr rd base distance) outcome = jalr_form object place (Jalr rd base distance) rd base distance outcome
insn_form object place link Ebreak outcome = Ok Stop
insn_form object place link insn outcome = going_form object place link insn (branch_distance insn)
