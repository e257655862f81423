-- Parts of the table that functions compute alone.
use Rattle.std.specs.Prelude.{◌≡◌, ◌≤◌, ◌<◌, ℕ, suc, ◌+◌, ◌==◌, Option, Some, None, IsTrue, Bool, false, not, ◌&&◌}
use Rattle.std.specs.Prelude.{List, [], ◌∷◌, ◌++◌, flat_map, map}
use Rattle.rt_lines.specs.declared.label.Loc.TheVariants.{Arg, Stack}
use Rattle.rt_lines.specs.declared.label.Label.{Label}
use Rattle.rt_lines.specs.declared.label.Label.TheVariants as label
use Rattle.rt_lines.specs.Words.{IsLabel}
use Rattle.rt_scheme.specs.Instances.{instance_ports}
use Rattle.rt_scheme.specs.Ports.{names_label}
use Rattle.rt_liveness.specs.declared.call.Call.{Call}
use Rattle.rt_rows.specs.declared.row.Row.{Row}
use Rattle.rt_rows.specs.declared.row.Term.{Term}
use Rattle.rt_rows.specs.Terms.{along}
use Rattle.rt_table.specs.declared.item.Item.{Item}
use Rattle.rt_table.specs.declared.item.Item.TheVariants as item
use Rattle.rt_table.specs.declared.receiver.Receiver.{Receiver}
use Rattle.rt_table.specs.declared.receiver.Receiver.TheVariants as receiver
use Rattle.rt_table.specs.declared.side.Side.{Side}
use Rattle.rt_table.specs.declared.traced.Traced.{Traced}
use Rattle.rt_table.specs.declared.traced.Traced.TheVariants as traced
use Rattle.rt_table.specs.Inside.Words.{AreStackWords}
use Rattle.rt_table.specs.Table.{Context, Target, Member, Scheme, Held, Unknown, Linked, argument_flow, call_by, is_call_site, merge_name}
use Rattle.rt_table.specs.Table.{pointer_call, pointer_result, port_arguments, port_of, port_of_member, port_registers, register_arguments}
use Rattle.rt_table.specs.Table.{stack_arguments, tail_result, tail_results, told, use_side, value_side}

-- Sides of results.

-- the side of what the register holds that a target goes through
abbrev pub held_side : Context → ℕ → Target → Option Side
held_side context site (Held register) = use_side context site register
held_side context site other = None

-- the scheme that a target is names the result of a number
abbrev pub names_result : Target → ℕ → Bool
names_result (Scheme own lines covered) r = names_label own lines (label.Out r)
names_result other r = false

-- of results 0 and 1, whether the scheme names them by which the first of some calls is told
abbrev pub named_results : List Linked → List Bool
named_results [] = false ∷ false ∷ []
named_results (linked ∷ more) = names_result linked.target 0 ∷ names_result linked.target 1 ∷ []

-- the register that a target goes through is x0 to x31, and the words that a member takes are words of the stack
abbrev pub IsTargetWithin : Target → Type 0
IsTargetWithin (Member q words) = AreStackWords words
IsTargetWithin (Held register) = register < 32
IsTargetWithin other = Unit {0}

-- the sides of uses, by those of what sites wrote
abbrev pub uses_by : Context → (ℕ → ℕ → Option Side) → ℕ → ℕ → Option Side
uses_by context written site register =
    value_side context written (merge_name context site register) (context.reading.value_at site register)

-- what the side of what a site wrote comes to, whatever other sites wrote: it is known, or it is the result of what another site wrote
abbrev pub IsOutcome : Context → ℕ → ((ℕ → ℕ → Option Side) → Option Side) → Traced → Type 0
IsOutcome context site side (traced.Known known) = (written : ℕ → ℕ → Option Side) → side written ≡ known
IsOutcome context site side (traced.Through from register) =
    (written : ℕ → ℕ → Option Side) → side written ≡ Some (pointer_result context site 0 (written from register))

-- the side of the result of the first of some calls, each of which calls the result of the next, and the last one what a side is
abbrev pub result_of_calls : Context → List ℕ → Option Side → Option Side
result_of_calls context [] side = side
result_of_calls context (site ∷ sites) side = Some (pointer_result context site 0 (result_of_calls context sites side))

-- Arguments.

-- the variable of a receiver that takes the argument of a label
abbrev pub received : Context → ℕ → Receiver → Label → Term
received context site (receiver.Member procedure) l = port_of_member procedure l
received context site (receiver.Instance call) l = port_of context site call l
received context site (receiver.Pointer x) l = along x.now (l ∷ [])

-- an argument register of a label is one of a0 to a7
abbrev pub IsPassed : Label → Type 0
IsPassed (label.In (Arg n)) = n ≤ 7
IsPassed other = Unit {0}

-- a receiver may take the argument of a label: any of an instance, else one that a word may have
abbrev pub MayTake : Receiver → Label → Type 0
MayTake (receiver.Instance call) l = IsPassed l
MayTake other l = IsLabel l

-- what is passed to a receiver as the arguments of labels
abbrev pub passed : Context → ℕ → Receiver → List Label → List Row
passed context site to labels = flat_map (λ (l : Label). argument_flow context site l (received context site to l)) labels

-- the rows of a call of a site
abbrev pub call_rows : Context → ℕ → ℕ → Call → Target → List Row
call_rows context site i call (Member q words) =
    flat_map (λ (l : Label). argument_flow context site l (port_of_member q l)) (register_arguments call ++ stack_arguments words)
call_rows context site i call (Scheme own lines covered) =
    flat_map (λ (l : Label). argument_flow context site l (port_of context site i l)) (port_arguments (instance_ports own lines 0) covered)
call_rows context site i call (Held register) = pointer_call context site call (use_side context site register)
call_rows context site i call Unknown = []

-- the place of an instance, where a target is a scheme
abbrev pub places_of : ℕ → ℕ → Target → List Item
places_of site i (Scheme own lines covered) = item.Instance site i ∷ []
places_of site i other = []

-- the labels of the arguments in registers that have ports or are covered
abbrev pub port_register_labels : List (Label × ℕ) → Option ℕ → List Label
port_register_labels ports covered = map (λ (n : ℕ). label.In (Arg n)) (port_registers ports covered)

-- both results of a call in which a procedure goes on for good
abbrev pub both_results : Context → ℕ → ℕ → Linked → List Row
both_results context site i linked = tail_result context site i linked 0 ++ tail_result context site i linked 1

-- the call of a number comes back: the first one, where the site is a call
abbrev pub comes_back : Context → ℕ → ℕ → Bool
comes_back context site i = is_call_site context site && (i == 0)

-- the items of a call of a site
abbrev pub call_items : Context → ℕ → ℕ → Linked → List Item
call_items context site i linked =
    call_by context site i linked.call linked.target ++ told (tail_results context site i linked (not (comes_back context site i)))
