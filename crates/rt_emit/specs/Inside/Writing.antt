-- The shape written anew, variable by variable.
use Rattle.std.specs.Prelude.{◌≡◌, ◌↔◌, ◌⊎◌, ℕ, nat_eq, List, [], ◌∷◌, ◌++◌, Contains, Some, None, cond, length, sum_by}
use Rattle.std.specs.BTreeMap.{BTreeMap, get, values}
use Rattle.std.specs.Ordering.{nat_cmp}
use Rattle.rt_lines.specs.declared.label.Label.{Label}
use Rattle.rt_lines.specs.declared.variable.Dtv.{Dtv}
use Rattle.rt_lines.specs.declared.line.Line.{Line}
use Rattle.rt_lines.specs.declared.line.Line.TheVariants.{Var, Same}
use Rattle.rt_lines.specs.Equality.{variable_eq}
use Rattle.rt_lines.specs.Orders.{Below}
use Rattle.rt_rules.specs.Rules.{longer}
use Rattle.rt_shape.specs.Graphs.{Graph, node_of}
use Rattle.rt_reduction.specs.Emits.{flow_lines, AreShapeLines}
use Rattle.rt_emit.specs.Inside.Letters.{letters_at}

-- how many letters are given for all nodes
abbrev pub total : BTreeMap ℕ (List Label) → ℕ
total letters = sum_by length (values letters)

-- the variable with one of the letters more
abbrev pub IsNext : Dtv → List Label → Dtv → Type 0
IsNext x letters y = (l : Label) × Contains letters l × (y ≡ longer x l)

-- the line that says the shape of a variable by its word
abbrev pub line_by : Dtv → Dtv → Line
line_by x word = cond (variable_eq x word) (Var x) (Same x word)

-- a variable is written: by the word that its node has, or as the word of its node, and then its letters come next
pub data IsTurn (graph : Graph) (x : Dtv) (letters letters' : BTreeMap ℕ (List Label)) (words words' : BTreeMap ℕ Dtv) (queue queue' :
    List Dtv) (shape shape' : List Line) : Type 0 where
  repeats : (n : ℕ) (word : Dtv) → node_of graph x ≡ Some n → get nat_cmp words n ≡ Some word →
      letters' ≡ letters → words' ≡ words → queue' ≡ queue → shape' ≡ shape ++ line_by x word ∷ [] →
      IsTurn graph x letters letters' words words' queue queue' shape shape'
  begins : (n : ℕ) → node_of graph x ≡ Some n → get nat_cmp words n ≡ None →
      ((m : ℕ) → get nat_cmp words' m ≡ cond (nat_eq n m) (Some x) (get nat_cmp words m)) →
      ((m : ℕ) → letters_at letters' m ≡ cond (nat_eq n m) [] (letters_at letters m)) →
      ((y : Dtv) → Contains queue' y ↔ (Contains queue y ⊎ IsNext x (letters_at letters n) y)) →
      shape' ≡ shape ++ Var x ∷ [] →
      IsTurn graph x letters letters' words words' queue queue' shape shape'

-- the `<=` lines and bounds, and then the lines of the shape
pub record IsFlowAndShape (lines all : List Line) : Type 0 where
  pub shape : List Line
  pub is : all ≡ flow_lines lines ++ shape
  pub are_shape : (order : Below) → AreShapeLines order lines shape
