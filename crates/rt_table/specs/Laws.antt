-- Laws of the lists of groups.
use Rattle.std.specs.Prelude.{◌≡◌, ℕ, Option, List}
use Rattle.rt_lines.specs.declared.line.Line.{Line}
use Rattle.rt_lattice.specs.declared.roles.Roles.{Roles}
use Rattle.rt_elf.specs.Parts.{Parts as Object}
use Rattle.rt_proc.specs.declared.proc.Proc.{Proc}
use Rattle.rt_scheme.specs.declared.scheme.Scheme.{Scheme}
use Rattle.rt_sigs.specs.Signatures.{Signature}
use Rattle.rt_table.specs.Lists.{AreLinesOf}

-- no two families of lists are those of a group
abbrev pub OneList : Type 0
OneList =
    (object : Object) (roles : Roles) (procs : List Proc) (signatures : List Signature) (schemes : List (Option Scheme)) (group : List ℕ)
    (first second : List (List Line)) → AreLinesOf object roles procs signatures schemes group first
    → AreLinesOf object roles procs signatures schemes group second → first ≡ second
