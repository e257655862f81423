-- When procedures take and give, by what callees do.
use Rattle.std.specs.Prelude.{ℕ, ◌+◌, ◌-◌, ◌==◌, ◌&&◌, not, nat_le, Bool, true, false, Option, Some, None, if◌then◌else◌, List, [], ◌∷◌}
use Rattle.std.specs.Prelude.{get_or, slice_get}
use Rattle.std.specs.List.{list_any}
use Rattle.rt_flow.specs.declared.def.Def.{Def}
use Rattle.rt_flow.specs.declared.def.Def.TheVariants.{Entry, At}
use Rattle.rt_proc.specs.declared.site.Callee.{Callee}
use Rattle.rt_proc.specs.declared.site.Callee.TheVariants.{Proc, Extern, Unknown}
use Rattle.rt_proc.specs.declared.site.Kind.{Kind}
use Rattle.rt_proc.specs.declared.site.Kind.TheVariants as kind
use Rattle.rt_proc.specs.declared.site.Site.{Site}
use Rattle.rt_liveness.specs.declared.named.Named.{Named}
use Rattle.rt_liveness.specs.declared.rule.Port.{Port}
use Rattle.rt_liveness.specs.declared.rule.When.{When}
use Rattle.rt_liveness.specs.declared.rule.When.TheVariants.{Never, Always, If}
use Rattle.rt_liveness.specs.Inside.Closures.{is_met}
use Rattle.rt_liveness.specs.Programs.{is_call}
use Rattle.rt_liveness.specs.Reads.{reads_of}

-- a register of a procedure
abbrev pub port_of : ℕ → ℕ → Port
port_of procedure register = record { procedure = procedure; register = register }

-- always or never
abbrev pub when_true : Bool → When
when_true b = if b then Always else Never

-- whether a function takes the argument of a number, if it is known
abbrev pub takes_of : Option Named → ℕ → Bool
takes_of None n = false
takes_of (Some named) n = get_or named.takes n false

-- whether it gives the result of a number
abbrev pub gives_of : Option Named → ℕ → Bool
gives_of None r = false
gives_of (Some named) r = get_or named.gives r false

-- the same of the function of a symbol
abbrev pub takes_named : List Named → ℕ → ℕ → Bool
takes_named named symbol n = takes_of (slice_get named symbol) n

abbrev pub gives_named : List Named → ℕ → ℕ → Bool
gives_named named symbol r = gives_of (slice_get named symbol) r

-- when a callee gives the result of a number
abbrev pub when_given : List Named → Callee → ℕ → When
when_given named (Proc p) r = If (port_of p (10 + r))
when_given named (Extern symbol) r = when_true (gives_named named symbol r)
when_given named (Unknown register) r = when_true (r == 0)

-- when what a site of a kind writes in the register of a result is one
abbrev pub when_written : List Named → Kind → ℕ → When
when_written named (kind.Call callee link) r = when_given named callee r
when_written named other r = Always

-- a definition is that of an instruction that is no call
abbrev pub is_own_at : Option Site → Bool
is_own_at None = false
is_own_at (Some site) = not (is_call site.kind)

abbrev pub is_own : List Site → Def → Bool
is_own sites Entry = false
is_own sites (At d) = is_own_at (slice_get sites d)

-- a definition is real, by what was found to be given
abbrev pub is_real_at : List Port → List Named → ℕ → Option Site → Bool
is_real_at given named r None = false
is_real_at given named r (Some site) = is_met given (when_written named site.kind r)

abbrev pub is_real : List Port → List Named → List Site → ℕ → Def → Bool
is_real given named sites r Entry = false
is_real given named sites r (At d) = is_real_at given named r (slice_get sites d)

-- Entry stands first among definitions
abbrev pub begins_with_entry : List Def → Bool
begins_with_entry [] = false
begins_with_entry (Entry ∷ defs) = true
begins_with_entry (At d ∷ defs) = false

-- a register is among those
abbrev pub is_among : List ℕ → ℕ → Bool
is_among registers register = list_any (λ r. r == register) registers

abbrev pub is_return : Kind → Bool
is_return kind.Return = true
is_return other = false

-- a return reads the register of a result, of which these definitions reach it
abbrev pub returns_real : List Port → List Named → List Site → Kind → ℕ → List Def → Bool
returns_real given named sites kind register defs =
    is_return kind && (nat_le register 11 && list_any (is_real given named sites (register - 10)) defs)

-- when a callee takes a register, of which these definitions reach the site that calls it
abbrev pub when_taken : List Named → List Site → List Def → Callee → ℕ → When
when_taken named sites defs (Proc p) register = If (port_of p register)
when_taken named sites defs (Extern symbol) register = when_true (takes_named named symbol (register - 10))
when_taken named sites defs (Unknown through) register = when_true (list_any (is_own sites) defs)
