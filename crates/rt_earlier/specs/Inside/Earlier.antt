-- What is known of earlier lines.
use Rattle.std.specs.Prelude.{◌≡◌, ℕ, ◌⊎◌, List, [], Contains, Some, slice_get, slice_index_or}
use Rattle.std.specs.Map.{lookup}
use Rattle.rt_lines.specs.declared.label.Label.{Label}
use Rattle.rt_lines.specs.declared.variable.Dtv.{Dtv}
use Rattle.rt_lines.specs.declared.line.Line.{Line}
use Rattle.rt_lines.specs.declared.line.Line.TheVariants.{Var, Same}
use Rattle.rt_lines.specs.Orders.{Below}
use Rattle.rt_rules.specs.Rules.{longer, Derivable}
use Rattle.rt_shape.specs.Graphs.{letter_eq}
use Rattle.rt_earlier.specs.declared.earlier.Earlier.{Earlier}

-- the variable of the number has one shape with the variable
pub record Reaches (order : Below) (lines : List Line) (named : List Dtv) (x : Dtv) (n : ℕ) : Type 0 where
  pub to : Dtv
  pub at : slice_get named n ≡ Some to
  pub same : Derivable order lines (Same x to)

-- the variables of the numbers have one shape
pub record AreOne (order : Below) (lines : List Line) (named : List Dtv) (m n : ℕ) : Type 0 where
  pub from : Dtv
  pub at : slice_get named m ≡ Some from
  pub reaches : Reaches order lines named from n

-- the variable of the number is there with the label more, and has one shape with that of the child
pub record Leads (order : Below) (lines : List Line) (named : List Dtv) (n : ℕ) (l : Label) (child : ℕ) : Type 0 where
  pub from : Dtv
  pub at : slice_get named n ≡ Some from
  pub there : Derivable order lines (Var (longer from l))
  pub reaches : Reaches order lines named (longer from l) child

-- each variable is there; what is in one class has one shape, and so has what is still to be made one
pub record AreSound (order : Below) (lines : List Line) (named : List Dtv) (class : List ℕ) (members : List (List ℕ))
    (children : List ((ℕ × Label) × ℕ)) (todo : List (ℕ × ℕ)) : Type 0 where
  pub there : (n : ℕ) (x : Dtv) → slice_get named n ≡ Some x → Derivable order lines (Var x)
  pub classes_one : (n c : ℕ) → slice_get class n ≡ Some c → AreOne order lines named n c
  pub members_one : (c n : ℕ) → Contains (slice_index_or members c []) n → AreOne order lines named n c
  pub children_lead : (c : ℕ) (l : Label) (n : ℕ) → lookup (letter_eq (c, l)) children ≡ Some n → Leads order lines named c l n
  pub todo_one : (m n : ℕ) → Contains todo (m, n) → AreOne order lines named m n

-- the same of what a program holds
abbrev pub IsSound : Below → List Line → Earlier → Type 0
IsSound order lines s = AreSound order lines s.named s.class.items s.members.items s.children.entries s.todo.items

-- what is sound over some lines stays so, where these have a property
abbrev pub StaysSound : (Below → List Line → Type 0) → Earlier → Earlier → Type 0
StaysSound P old new = (order : Below) (lines : List Line) → IsSound order lines old → P order lines → IsSound order lines new

-- each number keeps its variable
abbrev pub AreKept : List Dtv → List Dtv → Type 0
AreKept old new = (n : ℕ) (x : Dtv) → slice_get old n ≡ Some x → slice_get new n ≡ Some x

-- what rows have afterwards, they had, but for a number in one row
abbrev pub HasMore : List (List ℕ) → ℕ → ℕ → List (List ℕ) → Type 0
HasMore old row n new =
    (r m : ℕ) → Contains (slice_index_or new r []) m → Contains (slice_index_or old r []) m ⊎ ((r ≡ row) × (m ≡ n))
