-- Laws of the schemes of an object's procedures.
use Rattle.std.specs.Prelude.{◌≡◌, ℕ, Option, List}
use Rattle.rt_lines.specs.Orders.{Below}
use Rattle.rt_lattice.specs.declared.roles.Roles.{Roles}
use Rattle.rt_elf.specs.Parts.{Parts as Object}
use Rattle.rt_proc.specs.declared.proc.Proc.{Proc}
use Rattle.rt_proc.specs.Procs.{AreProcs}
use Rattle.rt_calls.specs.Calls.{AreGroupsOf}
use Rattle.rt_scheme.specs.declared.scheme.Scheme.{Scheme}
use Rattle.rt_sigs.specs.Signatures.{Signature}
use Rattle.rt_solve.specs.Solved.{AreSolved}

-- No two families of schemes are solved under an order of constants, whatever list of procedures is the object's, where these symbols end
-- paths, and whatever list of groups is theirs: there is one of each.
abbrev pub OneSolution : Type 0
OneSolution =
    (object : Object) (ends : List ℕ) (roles : Roles) (order : Below) (signatures : List Signature) (procs others : List Proc)
    (groups other_groups : List (List ℕ)) (first second : List (Option Scheme)) → AreProcs object ends procs →
    AreProcs object ends others
    → AreGroupsOf procs groups → AreGroupsOf others other_groups → AreSolved object roles order procs signatures groups first
    → AreSolved object roles order others signatures other_groups second → first ≡ second
