-- Nodes of named variables, found one by one, and what a test says of them.
use Rattle.std.proofs.Common.{◌≡◌, ℕ, ◌+◌, ◌<◌, Bool, false, List, [], ◌∷◌, ◌++◌, Option, Some, None, length, get_or, refl, sym, ap, ◌∙◌, arith, below_more}
use Rattle.std.proofs.lemmas.List.{get_or_push, get_or_append_left, length_push}
use Rattle.rt_lines.specs.declared.label.Label.{Label}
use Rattle.rt_lines.specs.declared.variable.Dtv.{Dtv}
use Rattle.rt_rules.specs.Rules.{longer}
use Rattle.rt_shape.specs.Graphs.{Graph, node_of, step_of, walk}
use Rattle.rt_shape.proofs.Walks.{node_of-extended}
use Rattle.rt_named.specs.declared.origin.Origin.{Origin}
use Rattle.rt_named.specs.declared.origin.Origin.TheVariants.{Bare, Longer}
use Rattle.rt_named.specs.Origins.{made, no_variable, IsBelow}
use Rattle.rt_named.specs.Nodes.{stepped, node_made, AreNodesOf}

-- the nodes of the variables below a number
pub record AreNodesTo (graph : Graph) (named : List Dtv) (number : ℕ) (nodes : List (Option ℕ)) : Type 0 where
  pub size : length nodes ≡ number
  pub are : (n : ℕ) → n < number → get_or nodes n None ≡ node_of graph (get_or named n no_variable)

pub nodes_none : (graph : Graph) (named : List Dtv) (nodes : List (Option ℕ)) → nodes ≡ [] → AreNodesTo graph named 0 nodes
nodes_none graph named nodes e = record { size = ap length e; are = λ n h. absurd (omega (arith, h)) }

one_step : (graph : Graph) (o : Option ℕ) (l : Label) → walk graph.edges o (l ∷ []) ≡ stepped graph o l
one_step graph None l = refl
one_step graph (Some n) l = last (step_of graph n l)
  where
    last : (o : Option ℕ) → walk graph.edges o [] ≡ o
    last None = refl
    last (Some m) = refl

pub node_longer : (graph : Graph) (x : Dtv) (l : Label) → node_of graph (longer x l) ≡ stepped graph (node_of graph x) l
node_longer graph x l = node_of-extended graph x (l ∷ []) ∙ one_step graph (node_of graph x) l

node_right : (graph : Graph) (named : List Dtv) (number : ℕ) (nodes : List (Option ℕ)) (o : Origin) → get_or named number no_variable ≡ made named o → IsBelow o number →
    ((n : ℕ) → n < number → get_or nodes n None ≡ node_of graph (get_or named n no_variable)) → node_made graph nodes o ≡ node_of graph (get_or named number no_variable)
node_right graph named number nodes (Bare b) e h are = ap (node_of graph) (sym e)
node_right graph named number nodes (Longer n l) e h are = ap (λ p. stepped graph p l) (are n h) ∙ sym (ap (node_of graph) e ∙ node_longer graph (get_or named n no_variable) l)

pub nodes_next : (graph : Graph) (named : List Dtv) (number : ℕ) (nodes new : List (Option ℕ)) (o : Origin) (node : Option ℕ) → get_or named number no_variable ≡ made named o → IsBelow o number → node ≡ node_made graph nodes o →
    new ≡ nodes ++ node ∷ [] → AreNodesTo graph named number nodes → AreNodesTo graph named (number + 1) new
nodes_next graph named number nodes new o node e h is p are = record {
  size = ap length p ∙ length_push nodes node ∙ ap (λ n. n + 1) are.size;
  are = below_more (λ n. get_or new n None ≡ node_of graph (get_or named n no_variable)) number
      (λ n less. ap (λ xs. get_or xs n None) p ∙ get_or_append_left nodes (node ∷ []) None n (omega (arith, less, are.size)) ∙ are.are n less)
      (ap (λ xs. get_or xs number None) p ∙ get_or_push nodes node None number are.size ∙ is ∙ node_right graph named number nodes o e h are.are);
}

pub nodes_all : (graph : Graph) (named : List Dtv) (number : ℕ) (nodes : List (Option ℕ)) → number ≡ length named → AreNodesTo graph named number nodes → AreNodesOf graph named nodes
nodes_all graph named number nodes e are = record { each = are.size ∙ e; node = λ n h. are.are n (omega (arith, e, h)) }

-- what a test says of the nodes below a number
pub record AreSaidTo (test : Option ℕ → Bool) (nodes : List (Option ℕ)) (number : ℕ) (said : List Bool) : Type 0 where
  pub size : length said ≡ number
  pub are : (n : ℕ) → n < number → get_or said n false ≡ test (get_or nodes n None)

pub said_none : (test : Option ℕ → Bool) (nodes : List (Option ℕ)) (said : List Bool) → said ≡ [] → AreSaidTo test nodes 0 said
said_none test nodes said e = record { size = ap length e; are = λ n h. absurd (omega (arith, h)) }

pub said_next : (test : Option ℕ → Bool) (nodes : List (Option ℕ)) (number : ℕ) (said new : List Bool) (flag : Bool) → flag ≡ test (get_or nodes number None) → new ≡ said ++ flag ∷ [] →
    AreSaidTo test nodes number said → AreSaidTo test nodes (number + 1) new
said_next test nodes number said new flag is p are = record {
  size = ap length p ∙ length_push said flag ∙ ap (λ n. n + 1) are.size;
  are = below_more (λ n. get_or new n false ≡ test (get_or nodes n None)) number
      (λ n less. ap (λ xs. get_or xs n false) p ∙ get_or_append_left said (flag ∷ []) false n (omega (arith, less, are.size)) ∙ are.are n less)
      (ap (λ xs. get_or xs number false) p ∙ get_or_push said flag false number are.size ∙ is);
}

-- of all of them
pub said_all : (test : Option ℕ → Bool) (nodes : List (Option ℕ)) (number : ℕ) (said : List Bool) → number ≡ length nodes → AreSaidTo test nodes number said →
    (n : ℕ) → n < length nodes → get_or said n false ≡ test (get_or nodes n None)
said_all test nodes number said e are n h = are.are n (omega (arith, e, h))
