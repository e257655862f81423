-- What of its calls the rows of a procedure rest on.
use Rattle.std.specs.Prelude.{◌≡◌, ℕ, ◌+◌, ◌<◌, ◌≤◌, false, true, IsTrue, None, Some, Option, List, Contains, length, slice_index_or}
use Rattle.rt_lines.specs.declared.label.Loc.TheVariants.{Arg}
use Rattle.rt_lines.specs.declared.label.Label.TheVariants.{In}
use Rattle.rt_proc.specs.declared.site.Callee.TheVariants as callee
use Rattle.rt_body.specs.Readings.{action_at}
use Rattle.rt_scheme.specs.declared.scheme.Scheme as scheme
use Rattle.rt_scheme.specs.Instances.{instance_ports}
use Rattle.rt_scheme.specs.Ports.{names_label}
use Rattle.rt_liveness.specs.declared.call.Call.{Call}
use Rattle.rt_liveness.specs.Programs.{Program}
use Rattle.rt_liveness.specs.Calls.{takes_register}
use Rattle.rt_liveness.specs.Takes.{Takes, Procedure}
use Rattle.rt_frame.specs.declared.question.Question.{Question}
use Rattle.rt_frame.specs.Questions.{questions}
use Rattle.rt_table.specs.Table.{Context, Linked, Target, Scheme, Held, calls_of, linked_at, port_registers}
use Rattle.rt_table.specs.Lists.{is_member}

-- A call is told by what a register holds only where its site jumps there, with nothing added; and by a scheme only where its callee takes
-- each argument register that is passed to the scheme.
abbrev pub IsToldAs : Call → Target → Type 0
IsToldAs call (Held register) = (call.callee ≡ callee.Unknown register) × IsTrue call.is_plain
IsToldAs call (Scheme own lines covered) =
    (n : ℕ) → Contains (port_registers (instance_ports own lines 0) covered) n → IsTrue (takes_register call (10 + n))
IsToldAs call other = Unit {0}

-- so are all calls of a procedure's sites
abbrev pub AreToldCalls : Context → Type 0
AreToldCalls context = (site : ℕ) (linked : Linked) → Contains (linked_at context site) linked → IsToldAs linked.call linked.target

-- a line of a site asks this of the frame
abbrev pub IsAsked : Context → ℕ → Question → Type 0
IsAsked context site question =
    (site < length context.reading.actions)
    × Contains (questions context.reading (calls_of context) site (action_at context.reading.actions site)) question

-- of the schemes of procedures outside the group, each names only such argument registers as its procedure takes
abbrev pub NameTaken : Program → List (Option scheme.Scheme) → List ℕ → Type 0
NameTaken program schemes group =
    (q n : ℕ) (given : scheme.Scheme) → is_member group q ≡ false → slice_index_or schemes q None ≡ Some given
    → names_label given.base given.lines (In (Arg n)) ≡ true → n ≤ 7 → Takes program (Procedure q) (10 + n)
