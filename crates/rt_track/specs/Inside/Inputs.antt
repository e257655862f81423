-- What uses and definitions take: the nodes of definitions with an operation, then those of joins.
use Rattle.std.specs.Prelude.{◌≡◌, ◌+◌, ◌<◌, ℕ, List, [], ◌∷◌, ◌++◌, Option, Some, None, pos, length, slice_get, slice_index_or}
use Rattle.std.proofs.Common.{zero, suc}
use Rattle.rt_flow.specs.declared.def.Def.{Def}
use Rattle.rt_flow.specs.declared.def.Def.TheVariants as def
use Rattle.rt_flow.specs.declared.source.Source.{Source}
use Rattle.rt_flow.specs.declared.source.Source.TheVariants.{Own, Shared}
use Rattle.rt_flow.specs.declared.reach.Reach.{Reach}
use Rattle.rt_flow.specs.Reaching.{sites_of}
use Rattle.rt_flow.specs.Sources.{shared_count_of, shared_in, source_in}
use Rattle.rt_track.specs.declared.op.Op.{Op}
use Rattle.rt_track.specs.declared.op.Op.TheVariants as op
use Rattle.rt_track.specs.declared.ops.Ops.{Ops}
use Rattle.rt_track.specs.declared.value.Value.{Value}
use Rattle.rt_track.specs.declared.value.Value.TheVariants as value
use Rattle.rt_track.specs.declared.nodes.Input.{Input}
use Rattle.rt_track.specs.declared.nodes.Input.TheVariants as input
use Rattle.rt_track.specs.declared.nodes.Node.{Node}
use Rattle.rt_track.specs.declared.nodes.Node.TheVariants as node
use Rattle.rt_track.specs.Candidates.{entry_value}
use Rattle.rt_track.specs.Changes.{change_at, IsAscending}
use Rattle.rt_track.specs.Operations.{entries_of, number_in}

-- the node of a definition with an operation, or the value of one without
abbrev pub node_or : Option ℕ → Value → Input
node_or (Some n) v = input.Node n
node_or None v = input.Known v

-- what a definition of a register has
abbrev pub def_input : Ops → Def → ℕ → Input
def_input ops def.Entry r = input.Known (entry_value r)
def_input ops (def.At s) r = node_or (number_in ops s r) (value.At s r (pos 0))

-- an input is the join of two: the joins stand behind the definitions with an operation
abbrev pub IsJoinOf : Ops → List (Input × Input) → Input → Input → Input → Type 0
IsJoinOf ops joins x a b = (j : ℕ) × (slice_get joins j ≡ Some (a, b)) × (x ≡ input.Node (length (entries_of ops) + j))

-- joins that stood stand
abbrev pub Keeps : List (Input × Input) → List (Input × Input) → Type 0
Keeps old new = (j : ℕ) (p : Input × Input) → slice_get old j ≡ Some p → slice_get new j ≡ Some p

-- an input joins what definitions of a register have, one after the other
pub data Gathers (ops : Ops) (joins : List (Input × Input)) (r : ℕ) : Input → List Def → Type 0 where
  none : Gathers ops joins r input.Nothing []
  more : {x y : Input} {defs : List Def} (d : Def) → Gathers ops joins r x defs → IsJoinOf ops joins y x (def_input ops d r) →
      Gathers ops joins r y (defs ++ d ∷ [])

-- an input has what the definitions of a source have
abbrev pub IsOfSource : Reach → Ops → List (Input × Input) → ℕ → Source → Input → Type 0
IsOfSource reach ops joins r (Own s) x = x ≡ def_input ops (def.At s) r
IsOfSource reach ops joins r (Shared n) x = Gathers ops joins r x (shared_in reach n)

-- an input has what a use of a register at a site has
abbrev pub IsUse : Reach → Ops → List (Input × Input) → ℕ → ℕ → Input → Type 0
IsUse reach ops joins zero s x = x ≡ input.Known (value.Const 0)
IsUse reach ops joins (suc r) s x = IsOfSource reach ops joins (suc r) (source_in reach s (pos (suc r))) x

-- inputs that are known of shared lists
abbrev pub AreKnown : Reach → Ops → List (Input × Input) → ℕ → List (Option Input) → Type 0
AreKnown reach ops joins r known = (n : ℕ) (x : Input) → slice_index_or known n None ≡ Some x →
    Gathers ops joins r x (shared_in reach n)

-- an input was found, and what was known before still is
pub record Finds (reach : Reach) (ops : Ops) (r : ℕ) (source : Source) (joins : List (Input × Input)) (joins' : List (Input × Input))
    (known' : List (Option Input)) (x : Input) : Type 0 where
  pub keeps : Keeps joins joins'
  pub each : length known' ≡ shared_count_of reach
  pub are_known : AreKnown reach ops joins' r known'
  pub found : IsOfSource reach ops joins' r source x

-- the uses of a register, from site to site
pub record AreUses (reach : Reach) (ops : Ops) (joins : List (Input × Input)) (r : ℕ) (changes : List (ℕ × Input)) : Type 0 where
  pub ascending : IsAscending changes
  pub at : (s : ℕ) → s < sites_of reach → IsUse reach ops joins r s (change_at changes s input.Nothing)

-- the uses of registers
pub record AreAllUses (reach : Reach) (ops : Ops) (joins : List (Input × Input)) (uses : List (List (ℕ × Input))) : Type 0 where
  pub each : length uses ≡ 32
  pub each_uses : (r : ℕ) → r < 32 → AreUses reach ops joins r (slice_index_or uses r [])

-- what a use of a register at a site takes
abbrev pub use_in : List (List (ℕ × Input)) → ℕ → ℕ → Input
use_in uses s r = change_at (slice_index_or uses r []) s input.Nothing

-- the node of a definition by its operation and the uses at its site
abbrev pub node_of : (ℕ → Input) → ℕ → ℕ → Op → Node
node_of takes s r op.Own = node.Fixed (value.At s r (pos 0))
node_of takes s r (op.Const c) = node.Fixed (value.Const c)
node_of takes s r (op.Sym g a) = node.Fixed (value.Sym g a)
node_of takes s r (op.AddI q k) = node.AddI (takes q) k
node_of takes s r (op.Add q p) = node.Add (takes q) (takes p) s r

-- the nodes of definitions with an operation, and those of joins behind them
pub record AreNodes (ops : Ops) (uses : List (List (ℕ × Input))) (joins : List (Input × Input)) (nodes : List Node) : Type 0 where
  pub of_ops : (n : ℕ) (e : (ℕ × ℕ) × Op) → slice_get (entries_of ops) n ≡ Some e →
      slice_get nodes n ≡ Some (node_of (use_in uses e.0.0) e.0.0 e.0.1 e.1)
  pub of_joins : (j : ℕ) (p : Input × Input) → slice_get joins j ≡ Some p →
      slice_get nodes (length (entries_of ops) + j) ≡ Some (node.Join p.0 p.1)
