-- What each site does with registers and memory.
use Rattle.std.specs.Prelude.{ℕ, ℤ, ◌==◌, Option, Some, None, List, [], ◌∷◌, ◌++◌, map, if◌then◌else◌}
use Rattle.std.specs.Int.{cast_unsigned, w32}
use Rattle.rt_elf.specs.Parts.{Parts as Object}
use Rattle.rt_insn.specs.declared.insn.Insn.{Insn}
use Rattle.rt_insn.specs.declared.insn.Insn.TheVariants.{Lui, Auipc, Jal, Jalr, Blt, Bge, Lb, Lh, Lw, Lbu, Lhu, Sb, Sh, Sw}
use Rattle.rt_insn.specs.declared.insn.Insn.TheVariants.{Addi, Slti, Sltiu, Xori, Ori, Andi, Slli, Srli, Srai, Add, Sub, Sll, Slt, Sltu}
use Rattle.rt_insn.specs.declared.insn.Insn.TheVariants.{Xor}
use Rattle.rt_insn.specs.declared.insn.Insn.TheVariants.{Srl, Sra, Or, And, Mul, Mulh, Mulhsu, Mulhu, Div, Divu, Rem, Remu, Ecall}
use Rattle.rt_link.specs.declared.link.Link.{Link}
use Rattle.rt_link.specs.declared.link.Link.TheVariants.{High, Low}
use Rattle.rt_link.specs.Effects.{link_at}
use Rattle.rt_proc.specs.declared.proc.Proc.{Proc}
use Rattle.rt_proc.specs.declared.site.Kind.{Kind}
use Rattle.rt_proc.specs.declared.site.Kind.TheVariants as kind
use Rattle.rt_proc.specs.declared.site.Site.{Site}
use Rattle.rt_track.specs.declared.op.Op.{Op}
use Rattle.rt_track.specs.declared.op.Op.TheVariants as op
use Rattle.rt_body.specs.declared.action.Address.{Address}
use Rattle.rt_body.specs.declared.action.Address.TheVariants as address
use Rattle.rt_body.specs.declared.action.Loaded.TheVariants as loaded
use Rattle.rt_body.specs.declared.action.Width.TheVariants as width
use Rattle.rt_body.specs.declared.action.Operation.TheVariants as operation
use Rattle.rt_body.specs.declared.action.Action.{Action}
use Rattle.rt_body.specs.declared.action.Action.TheVariants as action
use Rattle.rt_body.specs.Symbols.{lowest}

-- LUI gives a constant, unless a relocation gives it the high bits of an address
abbrev pub upper_action : Option Link → ℕ → ℤ → Action
upper_action (Some (High symbol addend)) to immediate = action.Write to
upper_action link to immediate = action.Constant to (cast_unsigned w32 immediate)

-- ADDI gives a symbol's address where a relocation gives it the low bits
abbrev pub add_action : (ℕ → ℕ) → Option Link → ℕ → ℕ → ℤ → Action
add_action at (Some (Low symbol addend)) to from immediate = action.Symbol to (at symbol) addend
add_action at link to from immediate = action.AddImmediate to from immediate

-- so does the address of a load or a store
abbrev pub address_by : (ℕ → ℕ) → Option Link → ℕ → ℤ → Address
address_by at (Some (Low symbol addend)) from immediate = address.Symbol (at symbol) addend
address_by at link from immediate = address.Register from immediate

-- what an instruction does; `at` is the lowest symbol at the place of a symbol
unfoldable pub insn_action : (ℕ → ℕ) → Option Link → Insn → Action
insn_action at link (Lui rd immediate) = upper_action link rd immediate
insn_action at link (Auipc rd immediate) = action.Write rd
insn_action at link (Jal rd distance) = action.Write rd
insn_action at link (Jalr rd rs1 distance) = action.Write rd
insn_action at link (Blt rs1 rs2 distance) = action.Compare rs1 rs2
insn_action at link (Bge rs1 rs2 distance) = action.Compare rs1 rs2
insn_action at link (Lb rd rs1 offset) = action.Load loaded.SignedByte rd (address_by at link rs1 offset)
insn_action at link (Lh rd rs1 offset) = action.Load loaded.SignedHalf rd (address_by at link rs1 offset)
insn_action at link (Lw rd rs1 offset) = action.Load loaded.Word rd (address_by at link rs1 offset)
insn_action at link (Lbu rd rs1 offset) = action.Load loaded.Byte rd (address_by at link rs1 offset)
insn_action at link (Lhu rd rs1 offset) = action.Load loaded.Half rd (address_by at link rs1 offset)
insn_action at link (Sb rs1 rs2 offset) = action.Store width.Byte rs2 (address_by at link rs1 offset)
insn_action at link (Sh rs1 rs2 offset) = action.Store width.Half rs2 (address_by at link rs1 offset)
insn_action at link (Sw rs1 rs2 offset) = action.Store width.Word rs2 (address_by at link rs1 offset)
insn_action at link (Addi rd rs1 immediate) = add_action at link rd rs1 immediate
insn_action at link (Slti rd rs1 immediate) = action.Compute operation.LessSigned rd rs1 None
insn_action at link (Sltiu rd rs1 immediate) = action.Compute operation.LessUnsigned rd rs1 None
insn_action at link (Xori rd rs1 immediate) = action.Write rd
insn_action at link (Ori rd rs1 immediate) = action.Write rd
insn_action at link (Andi rd rs1 immediate) = action.Write rd
insn_action at link (Slli rd rs1 amount) = action.Compute operation.Scale rd rs1 None
insn_action at link (Srli rd rs1 amount) = action.Compute operation.ShiftRight rd rs1 None
insn_action at link (Srai rd rs1 amount) = action.Compute operation.ShiftRightSigned rd rs1 None
insn_action at link (Add rd rs1 rs2) = action.Add rd rs1 rs2
insn_action at link (Sub rd rs1 rs2) = action.Write rd
insn_action at link (Sll rd rs1 rs2) = action.Compute operation.Scale rd rs1 (Some rs2)
insn_action at link (Slt rd rs1 rs2) = action.Compute operation.LessSigned rd rs1 (Some rs2)
insn_action at link (Sltu rd rs1 rs2) = action.Compute operation.LessUnsigned rd rs1 (Some rs2)
insn_action at link (Xor rd rs1 rs2) = action.Write rd
insn_action at link (Srl rd rs1 rs2) = action.Compute operation.ShiftRight rd rs1 (Some rs2)
insn_action at link (Sra rd rs1 rs2) = action.Compute operation.ShiftRightSigned rd rs1 (Some rs2)
insn_action at link (Or rd rs1 rs2) = action.Write rd
insn_action at link (And rd rs1 rs2) = action.Write rd
insn_action at link (Mul rd rs1 rs2) = action.Compute operation.Scale rd rs1 (Some rs2)
insn_action at link (Mulh rd rs1 rs2) = action.Compute operation.Signed rd rs1 (Some rs2)
insn_action at link (Mulhsu rd rs1 rs2) = action.Compute operation.SignedByUnsigned rd rs1 (Some rs2)
insn_action at link (Mulhu rd rs1 rs2) = action.Compute operation.Unsigned rd rs1 (Some rs2)
insn_action at link (Div rd rs1 rs2) = action.Compute operation.Signed rd rs1 (Some rs2)
insn_action at link (Divu rd rs1 rs2) = action.Compute operation.Unsigned rd rs1 (Some rs2)
insn_action at link (Rem rd rs1 rs2) = action.Compute operation.Signed rd rs1 (Some rs2)
insn_action at link (Remu rd rs1 rs2) = action.Compute operation.Unsigned rd rs1 (Some rs2)
insn_action at link Ecall = action.Write 10
insn_action at link other = action.Pass

-- what a site of a kind does, by the relocation with an effect at its place
abbrev pub kind_action : (ℕ → ℕ) → Option Link → Kind → Action
kind_action at link (kind.Plain insn) = insn_action at link insn
kind_action at link (kind.Call callee register) = action.Call callee register
kind_action at link kind.Return = action.Return
kind_action at link kind.Stop = action.Stop

-- what a site of an object does
abbrev pub site_action : Object → Site → Action
site_action object site = kind_action (lowest object) (link_at object site.place) site.kind

-- what the sites of a procedure do, in the order of their places
abbrev pub actions_of : Object → Proc → List Action
actions_of object proc = map (site_action object) proc.sites

-- a register that is written; x0 is none
abbrev pub written : ℕ → List ℕ
written register = if register == 0 then [] else register ∷ []

-- the registers that a call leaves undefined: ra, t0 to t2, a0 to a7, t3 to t6 (RISC-V psABI, "Integer Calling Convention")
abbrev pub call_clobbered : List ℕ
call_clobbered = 1 ∷ 5 ∷ 6 ∷ 7 ∷ 10 ∷ 11 ∷ 12 ∷ 13 ∷ 14 ∷ 15 ∷ 16 ∷ 17 ∷ 28 ∷ 29 ∷ 30 ∷ 31 ∷ []

-- the registers that a site defines
abbrev pub defined_by : Action → List ℕ
defined_by (action.Constant to value) = written to
defined_by (action.Symbol to symbol addend) = written to
defined_by (action.AddImmediate to from immediate) = written to
defined_by (action.Add to left right) = written to
defined_by (action.Load loaded to address) = written to
defined_by (action.Compute operation to left right) = written to
defined_by (action.Write to) = written to
defined_by (action.Call callee link) = call_clobbered ++ written link
defined_by other = []

-- how a site computes what it writes
abbrev pub op_of : Action → Op
op_of (action.Constant to value) = op.Const value
op_of (action.Symbol to symbol addend) = op.Sym symbol addend
op_of (action.AddImmediate to from immediate) = op.AddI from immediate
op_of (action.Add to left right) = op.Add left right
op_of other = op.Own
