-- Procedures of objects, and the registers of their sites.
use Rattle.std.proofs.Common.{◌≡◌, ℕ, ◌<◌, ◌==◌, inl, inr, List, [], ◌∷◌, ◌++◌, length, get_or, map, Option, Some, None, refl, sym, subst, lit<, rules}
use Rattle.std.specs.Prelude.{All, ℤ}
use Rattle.std.proofs.lemmas.List.Elements.{All-nil, All-cons, All-append, All-map, All-from_recursion}
use Rattle.rt_elf.specs.Parts.{Parts as Object}
use Rattle.rt_insn.specs.declared.insn.Insn.{Insn}
use Rattle.rt_insn.specs.declared.insn.Insn.TheVariants.{Lui, Auipc, Jal, Jalr, Beq, Bne, Blt, Bge, Bltu, Bgeu, Lb, Lh, Lw, Lbu, Lhu, Sb, Sh, Sw, Addi, Slti, Sltiu, Xori, Ori, Andi, Slli, Srli, Srai, Add, Sub, Sll, Slt, Sltu, Xor, Srl, Sra, Or, And, Mul, Mulh, Mulhsu, Mulhu, Div, Divu, Rem, Remu, Fence, Ecall, Ebreak}
use Rattle.rt_insn.specs.Range.{HasRange}
use Rattle.rt_link.specs.declared.link.Link.{Link}
use Rattle.rt_link.specs.declared.link.Link.TheVariants.{Target, Pair, High, Low}
use Rattle.rt_link.specs.Effects.{link_at}
use Rattle.rt_proc.specs.declared.proc.Proc.{Proc}
use Rattle.rt_proc.specs.declared.site.Callee.{Callee}
use Rattle.rt_proc.specs.declared.site.Kind.{Kind}
use Rattle.rt_proc.specs.declared.site.Kind.TheVariants as kind
use Rattle.rt_proc.specs.declared.site.Site.{Site}
use Rattle.rt_proc.specs.Laws.{IsKind, HasCallees, IsLawOfSteps, IsLawOfCallees}
use Rattle.rt_track.specs.declared.op.Op.{Op}
use Rattle.rt_track.specs.declared.op.Op.TheVariants as op
use Rattle.rt_track.specs.Placed.{Names, NamesRegisters}
use Rattle.rt_body.specs.declared.action.Loaded.TheVariants as loaded
use Rattle.rt_body.specs.declared.action.Width.TheVariants as width
use Rattle.rt_body.specs.declared.action.Operation.TheVariants as operation
use Rattle.rt_body.specs.declared.action.Action.{Action}
use Rattle.rt_body.specs.declared.action.Action.TheVariants as action
use Rattle.rt_body.specs.Actions.{address_by, add_action, upper_action, insn_action, kind_action, site_action, actions_of, written, call_clobbered, defined_by, op_of}
use Rattle.rt_body.specs.Readable.{IsKindInRange, IsReadable, IsLawOfProcs, HasOpRegisters}
use Rattle.rt_body.specs.Registers.{HasAddressRegister, HasRegisters}
use Rattle.rt_body.specs.Symbols.{lowest}
use Rattle.std.proofs.lemmas.Bool.{cases_Bool}

kind_in_range : (object : Object) (count : ℕ) (k : Kind) → IsKind object count k → IsKindInRange k
kind_in_range object count (kind.Plain insn) h = h
kind_in_range object count (kind.Call callee link) h = h.1
kind_in_range object count kind.Return h = tt
kind_in_range object count kind.Stop h = tt

pub procs_lem : IsLawOfSteps → IsLawOfCallees → IsLawOfProcs
procs_lem steps callees object ends procs linkable are k d less =
    let proc = get_or procs k d in
    record {
      ascending = (are.each k d less).ascending;
      closed = steps object ends procs are k d less;
      in_range = λ j e within. kind_in_range object (length procs) (get_or proc.sites j e).kind (callees object ends procs linkable are k d less j e within).0;
    }

abbrev IsRegister : ℕ → Type 0
IsRegister register = register < 32

written_within : (to : ℕ) → to < 32 → All IsRegister (written to)
written_within to h = elim (cases_Bool (to == 0)) [ inl e ↦ rw e (All-nil IsRegister) | inr e ↦ rw e (All-cons IsRegister to [] h (All-nil IsRegister)) ]

own_named : (o : Op) → o ≡ op.Own → NamesRegisters o
own_named o is = subst NamesRegisters (sym is) (λ r none. absurd none)

-- an action that writes a register, or none, and computes with none
writing : (a : Action) (to : ℕ) → op_of a ≡ op.Own → defined_by a ≡ written to → to < 32 → HasOpRegisters a
writing a to own defines h = record { named = own_named (op_of a) own; defined = subst (All IsRegister) (sym defines) (written_within to h) }

passing : (a : Action) → op_of a ≡ op.Own → defined_by a ≡ [] → HasOpRegisters a
passing a own defines = record { named = own_named (op_of a) own; defined = subst (All IsRegister) (sym defines) (All-nil IsRegister) }

-- an action whose registers are x0 to x31 computes with such registers and defines such ones
pub op_registers : (a : Action) → HasRegisters a → HasOpRegisters a
op_registers (action.Constant to value) h = record { named = λ r none. absurd none; defined = written_within to h }
op_registers (action.Symbol to symbol addend) h = record { named = λ r none. absurd none; defined = written_within to h }
op_registers (action.AddImmediate to from immediate) h = record { named = λ r e. subst IsRegister e h.1; defined = written_within to h.0 }
op_registers (action.Add to left right) h = record { named = λ r named. elim named [ inl e ↦ subst IsRegister e h.1.0 | inr e ↦ subst IsRegister e h.1.1 ]; defined = written_within to h.0 }
op_registers (action.Load loaded to a) h = writing (action.Load loaded to a) to refl refl h.0
op_registers (action.Store w register a) h = passing (action.Store w register a) refl refl
op_registers (action.Compute o to left right) h = writing (action.Compute o to left right) to refl refl h.0
op_registers (action.Compare left right) h = passing (action.Compare left right) refl refl
op_registers (action.Write to) h = writing (action.Write to) to refl refl h
op_registers action.Pass h = passing action.Pass refl refl
op_registers (action.Call callee link) h = record { named = λ r none. absurd none; defined = All-append IsRegister call_clobbered (written link) (All-from_recursion IsRegister call_clobbered (search rules)) (written_within link h) }
op_registers action.Return h = passing action.Return refl refl
op_registers action.Stop h = passing action.Stop refl refl

upper_registers : (link : Option Link) (to : ℕ) (immediate : ℤ) → to < 32 → HasRegisters (upper_action link to immediate)
upper_registers None to immediate h = h
upper_registers (Some (Target s a)) to immediate h = h
upper_registers (Some (Pair s a)) to immediate h = h
upper_registers (Some (High s a)) to immediate h = h
upper_registers (Some (Low s a)) to immediate h = h

add_registers : (at : ℕ → ℕ) (link : Option Link) (to from : ℕ) (immediate : ℤ) → to < 32 → from < 32 → HasRegisters (add_action at link to from immediate)
add_registers at None to from immediate h g = (h, g)
add_registers at (Some (Target s a)) to from immediate h g = (h, g)
add_registers at (Some (Pair s a)) to from immediate h g = (h, g)
add_registers at (Some (High s a)) to from immediate h g = (h, g)
add_registers at (Some (Low s a)) to from immediate h g = h

address_register : (at : ℕ → ℕ) (link : Option Link) (from : ℕ) (immediate : ℤ) → from < 32 → HasAddressRegister (address_by at link from immediate)
address_register at None from immediate h = h
address_register at (Some (Target s a)) from immediate h = h
address_register at (Some (Pair s a)) from immediate h = h
address_register at (Some (High s a)) from immediate h = h
address_register at (Some (Low s a)) from immediate h = tt

insn_registers : (at : ℕ → ℕ) (link : Option Link) (insn : Insn) → HasRange insn → HasRegisters (insn_action at link insn)
unfolding insn_action
insn_registers at link (Lui rd imm) h = upper_registers link rd imm h.0
insn_registers at link (Auipc rd imm) h = h.0
insn_registers at link (Jal rd imm) h = h.0
insn_registers at link (Jalr rd rs1 imm) h = h.0
insn_registers at link (Beq rs1 rs2 imm) h = tt
insn_registers at link (Bne rs1 rs2 imm) h = tt
insn_registers at link (Bltu rs1 rs2 imm) h = tt
insn_registers at link (Bgeu rs1 rs2 imm) h = tt
insn_registers at link (Blt rs1 rs2 imm) h = (h.0, h.1)
insn_registers at link (Bge rs1 rs2 imm) h = (h.0, h.1)
insn_registers at link (Lb rd rs1 imm) h = (h.0, address_register at link rs1 imm h.1)
insn_registers at link (Lh rd rs1 imm) h = (h.0, address_register at link rs1 imm h.1)
insn_registers at link (Lw rd rs1 imm) h = (h.0, address_register at link rs1 imm h.1)
insn_registers at link (Lbu rd rs1 imm) h = (h.0, address_register at link rs1 imm h.1)
insn_registers at link (Lhu rd rs1 imm) h = (h.0, address_register at link rs1 imm h.1)
insn_registers at link (Sb rs1 rs2 imm) h = (h.1, address_register at link rs1 imm h.0)
insn_registers at link (Sh rs1 rs2 imm) h = (h.1, address_register at link rs1 imm h.0)
insn_registers at link (Sw rs1 rs2 imm) h = (h.1, address_register at link rs1 imm h.0)
insn_registers at link (Addi rd rs1 imm) h = add_registers at link rd rs1 imm h.0 h.1
insn_registers at link (Slti rd rs1 imm) h = (h.0, (h.1, tt))
insn_registers at link (Sltiu rd rs1 imm) h = (h.0, (h.1, tt))
insn_registers at link (Xori rd rs1 imm) h = h.0
insn_registers at link (Ori rd rs1 imm) h = h.0
insn_registers at link (Andi rd rs1 imm) h = h.0
insn_registers at link (Slli rd rs1 amount) h = (h.0, (h.1, tt))
insn_registers at link (Srli rd rs1 amount) h = (h.0, (h.1, tt))
insn_registers at link (Srai rd rs1 amount) h = (h.0, (h.1, tt))
insn_registers at link (Add rd rs1 rs2) h = (h.0, (h.1, h.2))
insn_registers at link (Sub rd rs1 rs2) h = h.0
insn_registers at link (Xor rd rs1 rs2) h = h.0
insn_registers at link (Or rd rs1 rs2) h = h.0
insn_registers at link (And rd rs1 rs2) h = h.0
insn_registers at link (Sll rd rs1 rs2) h = (h.0, (h.1, h.2))
insn_registers at link (Slt rd rs1 rs2) h = (h.0, (h.1, h.2))
insn_registers at link (Sltu rd rs1 rs2) h = (h.0, (h.1, h.2))
insn_registers at link (Srl rd rs1 rs2) h = (h.0, (h.1, h.2))
insn_registers at link (Sra rd rs1 rs2) h = (h.0, (h.1, h.2))
insn_registers at link (Mul rd rs1 rs2) h = (h.0, (h.1, h.2))
insn_registers at link (Mulh rd rs1 rs2) h = (h.0, (h.1, h.2))
insn_registers at link (Mulhsu rd rs1 rs2) h = (h.0, (h.1, h.2))
insn_registers at link (Mulhu rd rs1 rs2) h = (h.0, (h.1, h.2))
insn_registers at link (Div rd rs1 rs2) h = (h.0, (h.1, h.2))
insn_registers at link (Divu rd rs1 rs2) h = (h.0, (h.1, h.2))
insn_registers at link (Rem rd rs1 rs2) h = (h.0, (h.1, h.2))
insn_registers at link (Remu rd rs1 rs2) h = (h.0, (h.1, h.2))
insn_registers at link (Fence kept) h = tt
insn_registers at link Ecall h = lit< tt
insn_registers at link Ebreak h = tt

kind_registers : (at : ℕ → ℕ) (link : Option Link) (k : Kind) → IsKindInRange k → HasRegisters (kind_action at link k)
kind_registers at link (kind.Plain insn) h = insn_registers at link insn h
kind_registers at link (kind.Call callee register) h = h
kind_registers at link kind.Return h = tt
kind_registers at link kind.Stop h = tt

-- so have all actions of a procedure
pub actions_registers : (object : Object) (proc : Proc) (actions : List Action) → IsReadable proc → actions ≡ actions_of object proc → All HasRegisters actions
actions_registers object proc actions readable are =
    subst (All HasRegisters) (sym are) (All-map HasRegisters (site_action object) proc.sites (λ k d less. let site = get_or proc.sites k d in kind_registers (lowest object) (link_at object site.place) site.kind (readable.in_range k d less)))
