-- What the code's records tell.
use Rattle.std.specs.Prelude.{ℕ, false, List}
use Rattle.rt_proc.specs.declared.site.Callee.TheVariants.{Proc}
use Rattle.rt_lattice.specs.Roles.{role_in}
use Rattle.rt_body.specs.Symbols.{is_code_symbol}
use Rattle.rt_body.specs.Told.{reading_of}
use Rattle.rt_liveness.specs.declared.call.Call.{Call}
use Rattle.rt_liveness.specs.Programs.{Program}
use Rattle.rt_liveness.specs.Told.{program_of}
use Rattle.rt_frame.specs.Told.{frame_of}
use Rattle.rt_table.specs.declared.context.Context.{Context as Given}
use Rattle.rt_table.specs.declared.context.Outside.{Outside}
use Rattle.rt_table.specs.declared.facts.Facts.{Facts}
use Rattle.rt_table.specs.declared.target.Target.{Target as GivenTarget}
use Rattle.rt_table.specs.declared.target.Target.TheVariants as target
use Rattle.rt_table.specs.Table.{Context, Target, Member, Scheme, Held, Unknown, Linked}
use Rattle.rt_table.specs.Facts.{Knowledge, knowledge_of}
use Rattle.rt_table.specs.Lists.{linked_in, target_by}

-- the object, its procedures, their bodies and the signatures
abbrev pub program_in : Facts → Program
program_in facts = program_of facts.object.now facts.procs.now facts.bodies.items facts.sigs.now

-- what is known of each procedure
abbrev pub known_in : Facts → List Knowledge
known_in facts = knowledge_of facts.bodies.items facts.calls facts.frames.items

-- the calls of sites, and how each is told
abbrev pub linked_of : Outside → List (List Call) → List (List Linked)
linked_of outside calls =
    linked_in (program_in outside.facts.now) (known_in outside.facts.now) outside.schemes.now outside.members.now.keys calls

-- how a procedure is told
abbrev pub procedure_target : Outside → ℕ → Target
procedure_target outside q =
    target_by (program_in outside.facts.now) (known_in outside.facts.now) outside.schemes.now outside.members.now.keys (Proc q) false

-- how a call is told
abbrev pub target_in : Outside → Call → Target
target_in outside call =
    target_by (program_in outside.facts.now) (known_in outside.facts.now) outside.schemes.now outside.members.now.keys
    call.callee call.is_plain

-- a call, and how it is told
abbrev pub linked_call : Outside → Call → Linked
linked_call outside call = record { call = call; target = target_in outside call }

abbrev pub target_of : GivenTarget → Target
target_of (target.Member procedure words) = Member procedure words.now
target_of (target.Scheme scheme covered) = Scheme scheme.now.base scheme.now.lines covered
target_of (target.Held register) = Held register
target_of target.Unknown = Unknown

-- what the table is read against
abbrev pub context_of : Given → Context
context_of given = record {
  procedure = given.procedure;
  reading = reading_of given.body.now;
  frame = frame_of given.frame.now;
  linked = linked_of given.outside given.calls.now;
  is_code = λ symbol. is_code_symbol given.outside.facts.now.object.now symbol;
  constant = λ role. role_in given.lattice.now.roles role;
}
