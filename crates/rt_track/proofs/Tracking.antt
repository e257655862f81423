-- What nodes have is what uses and definitions of registers hold.
use Rattle.std.proofs.Common.{◌≡◌, ◌+◌, ◌<◌, ◌⊎◌, inl, inr, ℕ, zero, suc, ℤ, pos, List, [], ◌∷◌, ◌++◌, length, Option, Some, None, refl, sym, ap, subst, ◌∙◌, arith}
use Rattle.std.specs.Prelude.{Contains, slice_get, slice_index_or, unwrap_or}
use Rattle.std.proofs.lemmas.List.Elements.{Contains-append_left, Contains-push, Contains-push_cases}
use Rattle.std.proofs.lemmas.Option.{slice_get_within}
use Rattle.rt_flow.specs.declared.def.Def.{Def}
use Rattle.rt_flow.specs.declared.def.Def.TheVariants as def
use Rattle.rt_flow.specs.declared.source.Source.{Source}
use Rattle.rt_flow.specs.declared.source.Source.TheVariants as source
use Rattle.rt_flow.specs.declared.reach.Reach.{Reach}
use Rattle.rt_flow.specs.Bodies.{Body, AreReaching, Reaches}
use Rattle.rt_flow.specs.Reaching.{sites_of}
use Rattle.rt_flow.specs.Sources.{defs_in, list_in, shared_in, source_in}
use Rattle.rt_track.specs.declared.op.Op.{Op}
use Rattle.rt_track.specs.declared.op.Op.TheVariants as op
use Rattle.rt_track.specs.declared.ops.Ops.{Ops}
use Rattle.rt_track.specs.declared.value.Value.{Value}
use Rattle.rt_track.specs.declared.value.Value.TheVariants as value
use Rattle.rt_track.specs.declared.nodes.Input.{Input}
use Rattle.rt_track.specs.declared.nodes.Input.TheVariants as input
use Rattle.rt_track.specs.declared.nodes.Node.TheVariants as node
use Rattle.rt_track.specs.declared.nodes.Node.{Node as GraphNode}
use Rattle.rt_track.specs.Candidates.{Node, Use, Definition, IsCandidate, IsSole, IsValue, entry_value}
use Rattle.rt_track.specs.Candidates.IsCandidate.{of_zero, of_reaching, of_entry, of_own, of_const, of_sym, of_add_i, of_add, of_several}
use Rattle.rt_track.specs.Inside.Inputs.{AreAllUses, AreNodes, Gathers, IsOfSource, IsUse, def_input, node_of, node_or, use_in}
use Rattle.rt_track.specs.Inside.Inputs.Gathers.{none as gathers_none, more as gathers_more}
use Rattle.rt_track.specs.Inside.Nodes.{Covers, Gives, IsSolved, Made, state_of, value_in}
use Rattle.rt_track.specs.Inside.Nodes.Made.{known, fixed, left, right, raised, added, several}
use Rattle.rt_track.specs.Operations.{entries_of, number_in, op_in, ops_sites}
use Rattle.rt_track.specs.Placed.{NamesRegisters}
use Rattle.rt_track.specs.Values.{plus, sum}
use Rattle.rt_track.proofs.Entering.{entry_at, entry_within, no_entry}

-- a sum with several is several
plus_multi : (v : Value) (k : ℤ) → v ≡ value.Multi → plus v k ≡ value.Multi
plus_multi v k e = ap (λ w. plus w k) e

sum_multi : (s r : ℕ) (v : Value) → sum s r v value.Multi ≡ value.Multi
sum_multi s r (value.Const c) = refl
sum_multi s r value.Multi = refl
sum_multi s r v = refl

-- the value of what has candidates by a state that has them
pub value_is : (is_candidate : Value → Type 0) (o : Option Value) → ((v : Value) → o ≡ Some v → is_candidate v) → ((v : Value) → is_candidate v → Covers o v) → IsValue is_candidate (unwrap_or o value.Multi)
value_is is_candidate None made covers = record { of_sole = λ w sole. absurd (none w (covers w sole.candidate)); else_multi = inr refl }
  where
    none : (w : Value) → Covers None w → ⊥
    none w (inl e) = cc
    none w (inr e) = cc
value_is is_candidate (Some v) made covers = record { of_sole = λ w sole. sole.only v (made v refl); else_multi = by (is_multi v) }
  where
    is_multi : (w : Value) → (w ≡ value.Multi) ⊎ (w ≡ value.Multi → ⊥)
    is_multi value.Multi = inl refl
    is_multi (value.Const c) = inr (λ e. cc)
    is_multi (value.Sym g a) = inr (λ e. cc)
    is_multi (value.Frame a) = inr (λ e. cc)
    is_multi (value.Entry r a) = inr (λ e. cc)
    is_multi (value.At s r a) = inr (λ e. cc)

    by : (v ≡ value.Multi) ⊎ (v ≡ value.Multi → ⊥) → IsSole is_candidate v ⊎ (v ≡ value.Multi)
    by (inl e) = inr e
    by (inr other) = inl (record { candidate = made v refl; only = λ w c. only w (covers w c) })
      where
        only : (w : Value) → Covers (Some v) w → w ≡ v
        only w (inl e) = cc
        only w (inr e) = absurd (other (inner e))
          where
            inner : Some v ≡ Some value.Multi → v ≡ value.Multi
            inner e = cc

module _ (body : Body) (reach : Reach) (told : (site : ℕ) (loc : ℤ) → site < sites_of reach → AreReaching body loc site (defs_in reach site loc)) (ops : Ops) (same_sites : ops_sites ops ≡ sites_of reach)
    (joins : List (Input × Input)) (uses : List (List (ℕ × Input))) (are_uses : AreAllUses reach ops joins uses) (nodes : List GraphNode) (are_nodes : AreNodes ops uses joins nodes) where
  abbrev C : Node → Value → Type 0
  C n v = IsCandidate body (op_in ops) n v

  -- the node of a definition with an operation
  def_node : (s r n : ℕ) → number_in ops s r ≡ Some n → slice_get nodes n ≡ Some (node_of (use_in uses s) s r (op_in ops s r))
  def_node s r n e = are_nodes.of_ops n ((s, r), op_in ops s r) (entry_at ops s r n e)

  -- the use of a register at a site
  use_is : (s r : ℕ) → s < sites_of reach → r < 32 → IsUse reach ops joins r s (use_in uses s r)
  use_is s r less within = (are_uses.each_uses r within).at s less

  -- a definition whose input is a node's
  of_node : (i r : ℕ) (d : Def) → input.Node i ≡ def_input ops d r → (s : ℕ) × (d ≡ def.At s) × (number_in ops s r ≡ Some i)
  of_node i r def.Entry e = cc
  of_node i r (def.At s) e = by (number_in ops s r) refl e
    where
      by : (o : Option ℕ) → number_in ops s r ≡ o → input.Node i ≡ node_or o (value.At s r (pos 0)) → (t : ℕ) × (def.At s ≡ def.At t) × (number_in ops t r ≡ Some i)
      by None f g = cc
      by (Some n) f g = (s, refl, f ∙ ap Some (inner g))
        where
          inner : input.Node i ≡ input.Node n → n ≡ i
          inner h = cc

  -- what a value of an input means
  record Means (x : Input) (v : Value) : Type 0 where
    as_known : (w : Value) → x ≡ input.Known w → v ≡ w
    as_definition : (d : Def) (r : ℕ) → x ≡ def_input ops d r → C (Definition d r) v
    as_joined : (r : ℕ) (defs : List Def) → Gathers ops joins r x defs → (n : Node) → ((d : Def) (w : Value) → Contains defs d → C (Definition d r) w → C n w) → C n v

  -- it is a candidate of a use that takes the input
  means_use : (x : Input) (v : Value) → Means x v → (s r : ℕ) → s < sites_of reach → IsUse reach ops joins r s x → C (Use s r) v
  means_use x v means s zero less e = subst (C (Use s zero)) (sym (means.as_known (value.Const 0) e)) of_zero
  means_use x v means s (suc r) less is = by (source_in reach s (pos (suc r))) refl is
    where
      some : suc r ≡ 0 → ⊥
      some e = omega arith

      reaching : (d : Def) → Contains (defs_in reach s (pos (suc r))) d → Reaches body (pos (suc r)) d s
      reaching d c = ((told s (pos (suc r)) less).reaching d).0 c

      by : (q : Source) → source_in reach s (pos (suc r)) ≡ q → IsOfSource reach ops joins (suc r) q x → C (Use s (suc r)) v
      by (source.Own d) e f = of_reaching some (reaching (def.At d) (subst (λ q. Contains (list_in reach q) (def.At d)) (sym e) (0, omega arith, refl))) (means.as_definition (def.At d) (suc r) f)
      by (source.Shared n) e g = means.as_joined (suc r) (shared_in reach n) g (Use s (suc r)) (λ d w c h. of_reaching some (reaching d (subst (λ q. Contains (list_in reach q) d) (sym e) c)) h)

  -- a join of which the first so many definitions have the left input
  record IsJoined (i r : ℕ) (defs : List Def) : Type 0 where
    left_input : Input
    front : List Def
    last : Def
    defs_are : front ++ last ∷ [] ≡ defs
    gathers : Gathers ops joins r left_input front
    at : slice_get nodes i ≡ Some (node.Join left_input (def_input ops last r))

  joined : (i r : ℕ) (x : Input) (defs : List Def) → x ≡ input.Node i → Gathers ops joins r x defs → IsJoined i r defs
  joined i r x defs e gathers_none = cc
  joined i r y defs e (gathers_more {x = x} {defs = front} d g (j, at, f)) = record {
    left_input = x;
    front = front;
    last = d;
    defs_are = refl;
    gathers = g;
    at = subst (λ n. slice_get nodes n ≡ Some (node.Join x (def_input ops d r))) (inner (sym f ∙ e)) (are_nodes.of_joins j (x, def_input ops d r) at);
  }
    where
      inner : input.Node (length (entries_of ops) + j) ≡ input.Node i → length (entries_of ops) + j ≡ i
      inner g = cc

  -- one node stands at a number
  one_node : (i : ℕ) (m n : GraphNode) → slice_get nodes i ≡ Some m → slice_get nodes i ≡ Some n → m ≡ n
  one_node i m n e f = let g : Some m ≡ Some n = sym e ∙ f in cc

  not_known : {A : Type 0} (i : ℕ) (w : Value) → input.Node i ≡ input.Known w → A
  not_known i w e = cc

  -- a node that is no join
  no_join : {A : Type 0} (i r : ℕ) (n : GraphNode) → slice_get nodes i ≡ Some n → ((a b : Input) → n ≡ node.Join a b → ⊥) → (defs : List Def) → Gathers ops joins r (input.Node i) defs → A
  no_join i r n at other defs g = let j = joined i r (input.Node i) defs refl g in absurd (other j.left_input (def_input ops j.last r) (one_node i n (node.Join j.left_input (def_input ops j.last r)) at j.at))

  -- what the node of a definition has
  as_node : (P : Node → Type 0) (i r : ℕ) (n : GraphNode) → slice_get nodes i ≡ Some n → ((s : ℕ) → number_in ops s r ≡ Some i → node_of (use_in uses s) s r (op_in ops s r) ≡ n → P (Definition (def.At s) r)) → (d : Def) → input.Node i ≡ def_input ops d r → P (Definition d r)
  as_node P i r n at holds d e =
      let found = of_node i r d e in
      subst (λ x. P (Definition x r)) (sym found.1) (holds found.0 found.2 (one_node i (node_of (use_in uses found.0) found.0 r (op_in ops found.0 r)) n (def_node found.0 r i found.2) at))

  known_means : (v : Value) → Means (input.Known v) v
  known_means v = record {
    as_known = λ w e. same w e;
    as_definition = λ d r e. of_def d r e;
    as_joined = λ r defs g. nothing r (input.Known v) defs refl g;
  }
    where
      same : (w : Value) → input.Known v ≡ input.Known w → v ≡ w
      same w e = cc

      of_def : (d : Def) (r : ℕ) → input.Known v ≡ def_input ops d r → C (Definition d r) v
      of_def def.Entry r e = subst (C (Definition def.Entry r)) (sym (same (entry_value r) e)) of_entry
      of_def (def.At s) r e = by (number_in ops s r) refl e
        where
          by : (o : Option ℕ) → number_in ops s r ≡ o → input.Known v ≡ node_or o (value.At s r (pos 0)) → C (Definition (def.At s) r) v
          by None f g = subst (C (Definition (def.At s) r)) (sym (same (value.At s r (pos 0)) g)) (of_own (no_entry ops s r f))
          by (Some n) f g = not_known n v (sym g)

      nothing : {A : Type 0} (r : ℕ) (x : Input) (defs : List Def) → x ≡ input.Known v → Gathers ops joins r x defs → A
      nothing r x defs e gathers_none = cc
      nothing r y defs e (gathers_more d g (j, at, f)) = not_known (length (entries_of ops) + j) v (sym f ∙ e)

  fixed_means : (i : ℕ) (v : Value) → slice_get nodes i ≡ Some (node.Fixed v) → Means (input.Node i) v
  fixed_means i v at = record {
    as_known = λ w e. not_known i w e;
    as_definition = λ d r e. as_node (λ n. C n v) i r (node.Fixed v) at (λ s number is. by s r (op_in ops s r) refl is) d e;
    as_joined = λ r defs g. no_join i r (node.Fixed v) at (λ a b e. cc) defs g;
  }
    where
      same : (w : Value) → node.Fixed w ≡ node.Fixed v → w ≡ v
      same w e = cc

      by : (s r : ℕ) (o : Op) → op_in ops s r ≡ o → node_of (use_in uses s) s r o ≡ node.Fixed v → C (Definition (def.At s) r) v
      by s r op.Own e f = subst (C (Definition (def.At s) r)) (same (value.At s r (pos 0)) f) (of_own e)
      by s r (op.Const c) e f = subst (C (Definition (def.At s) r)) (same (value.Const c) f) (of_const e)
      by s r (op.Sym g a) e f = subst (C (Definition (def.At s) r)) (same (value.Sym g a) f) (of_sym e)
      by s r (op.AddI q k) e f = cc
      by s r (op.Add q p) e f = cc

  -- no definition's node is a join
  no_definition : {A : Type 0} (s r : ℕ) (a b : Input) (o : Op) → node_of (use_in uses s) s r o ≡ node.Join a b → A
  no_definition s r a b op.Own e = cc
  no_definition s r a b (op.Const c) e = cc
  no_definition s r a b (op.Sym g k) e = cc
  no_definition s r a b (op.AddI q k) e = cc
  no_definition s r a b (op.Add q p) e = cc

  join_means : (i : ℕ) (a b : Input) (v : Value) → slice_get nodes i ≡ Some (node.Join a b) → Means a v ⊎ Means b v → Means (input.Node i) v
  join_means i a b v at means = record {
    as_known = λ w e. not_known i w e;
    as_definition = λ d r e. as_node (λ n. C n v) i r (node.Join a b) at (λ s number is. no_definition s r a b (op_in ops s r) is) d e;
    as_joined = λ r defs g n from. by r defs (joined i r (input.Node i) defs refl g) n from means;
  }
    where
      by : (r : ℕ) (defs : List Def) → IsJoined i r defs → (n : Node) → ((d : Def) (w : Value) → Contains defs d → C (Definition d r) w → C n w) → Means a v ⊎ Means b v → C n v
      by r defs j n from m = cases m
        where
          same : node.Join a b ≡ node.Join j.left_input (def_input ops j.last r)
          same = one_node i (node.Join a b) (node.Join j.left_input (def_input ops j.last r)) at j.at

          left_is : node.Join a b ≡ node.Join j.left_input (def_input ops j.last r) → a ≡ j.left_input
          left_is e = cc

          right_is : node.Join a b ≡ node.Join j.left_input (def_input ops j.last r) → b ≡ def_input ops j.last r
          right_is e = cc

          cases : Means a v ⊎ Means b v → C n v
          cases (inl h) = h.as_joined r j.front (subst (λ x. Gathers ops joins r x j.front) (sym (left_is same)) j.gathers) n (λ d w c. from d w (subst (λ ds. Contains ds d) j.defs_are (Contains-append_left j.front (j.last ∷ []) d c)))
          cases (inr h) = from j.last v (subst (λ ds. Contains ds j.last) j.defs_are (Contains-push j.front j.last)) (h.as_definition j.last r (right_is same))

  -- where a definition with an operation stands, and which registers it names
  op_within : (s r n : ℕ) → number_in ops s r ≡ Some n → (s < sites_of reach) × NamesRegisters (op_in ops s r)
  op_within s r n e = let w = entry_within ops s r n e in (subst (λ m. s < m) same_sites w.0, w.2)

  raised_means : (i : ℕ) (a : Input) (k : ℤ) (v : Value) → slice_get nodes i ≡ Some (node.AddI a k) → Means a v → Means (input.Node i) (plus v k)
  raised_means i a k v at means = record {
    as_known = λ w e. not_known i w e;
    as_definition = λ d r e. as_node (λ n. C n (plus v k)) i r (node.AddI a k) at (λ s number is. by s r (op_in ops s r) refl number is) d e;
    as_joined = λ r defs g. no_join i r (node.AddI a k) at (λ b c e. cc) defs g;
  }
    where
      input_is : (b : Input) (j : ℤ) → node.AddI b j ≡ node.AddI a k → b ≡ a
      input_is b j e = cc

      number_is : (b : Input) (j : ℤ) → node.AddI b j ≡ node.AddI a k → j ≡ k
      number_is b j e = cc

      by : (s r : ℕ) (o : Op) → op_in ops s r ≡ o → number_in ops s r ≡ Some i → node_of (use_in uses s) s r o ≡ node.AddI a k → C (Definition (def.At s) r) (plus v k)
      by s r op.Own e n f = cc
      by s r (op.Const c) e n f = cc
      by s r (op.Sym g z) e n f = cc
      by s r (op.Add q p) e n f = cc
      by s r (op.AddI q j) e n f =
          let w = op_within s r i n in
          let within : q < 32 = subst NamesRegisters e w.1 q refl in
          let is = subst (IsUse reach ops joins q s) (input_is (use_in uses s q) j f) (use_is s q w.0 within) in
          subst (λ z. C (Definition (def.At s) r) (plus v z)) (number_is (use_in uses s q) j f) (of_add_i e (means_use a v means s q w.0 is))

  added_means : (i s r : ℕ) (a b : Input) (v w : Value) → slice_get nodes i ≡ Some (node.Add a b s r) → Means a v → Means b w → Means (input.Node i) (sum s r v w)
  added_means i t z a b v w at first second = record {
    as_known = λ u e. not_known i u e;
    as_definition = λ d r e. as_node (λ n. C n (sum t z v w)) i r (node.Add a b t z) at (λ s number is. by s r (op_in ops s r) refl number is) d e;
    as_joined = λ r defs g. no_join i r (node.Add a b t z) at (λ c d e. cc) defs g;
  }
    where
      first_is : (c d : Input) (s r : ℕ) → node.Add c d s r ≡ node.Add a b t z → c ≡ a
      first_is c d s r e = cc

      second_is : (c d : Input) (s r : ℕ) → node.Add c d s r ≡ node.Add a b t z → d ≡ b
      second_is c d s r e = cc

      site_is : (c d : Input) (s r : ℕ) → node.Add c d s r ≡ node.Add a b t z → s ≡ t
      site_is c d s r e = cc

      register_is : (c d : Input) (s r : ℕ) → node.Add c d s r ≡ node.Add a b t z → r ≡ z
      register_is c d s r e = cc

      by : (s r : ℕ) (o : Op) → op_in ops s r ≡ o → number_in ops s r ≡ Some i → node_of (use_in uses s) s r o ≡ node.Add a b t z → C (Definition (def.At s) r) (sum t z v w)
      by s r op.Own e n f = cc
      by s r (op.Const c) e n f = cc
      by s r (op.Sym g k) e n f = cc
      by s r (op.AddI q k) e n f = cc
      by s r (op.Add q p) e n f =
          let h = op_within s r i n in
          let named = subst NamesRegisters e h.1 in
          let is_first = subst (IsUse reach ops joins q s) (first_is (use_in uses s q) (use_in uses s p) s r f) (use_is s q h.0 (named q (inl refl))) in
          let is_second = subst (IsUse reach ops joins p s) (second_is (use_in uses s q) (use_in uses s p) s r f) (use_is s p h.0 (named p (inr refl))) in
          subst (λ y. C (Definition (def.At s) r) (sum y z v w)) (site_is (use_in uses s q) (use_in uses s p) s r f)
          (subst (λ y. C (Definition (def.At s) r) (sum s y v w)) (register_is (use_in uses s q) (use_in uses s p) s r f) (of_add e (means_use a v first s q h.0 is_first) (means_use b w second s p h.0 is_second)))

  several_means : (i : ℕ) (v w : Value) → Means (input.Node i) v → Means (input.Node i) w → (v ≡ w → ⊥) → Means (input.Node i) value.Multi
  several_means i v w first second other = record {
    as_known = λ u e. not_known i u e;
    as_definition = λ d r e. of_several (first.as_definition d r e) (second.as_definition d r e) other;
    as_joined = λ r defs g n from. of_several (first.as_joined r defs g n from) (second.as_joined r defs g n from) other;
  }

  -- each value that an input may have means that
  means : {x : Input} {v : Value} → Made nodes x v → Means x v
  means (known {v = v}) = known_means v
  means (fixed {i = i} {v = v} at) = fixed_means i v at
  means (left {i = i} {a = a} {b = b} {v = v} at m) = join_means i a b v at (inl (means m))
  means (right {i = i} {a = a} {b = b} {v = v} at m) = join_means i a b v at (inr (means m))
  means (raised {i = i} {a = a} {k = k} {v = v} at m) = raised_means i a k v at (means m)
  means (added {i = i} {s = s} {r = r} {a = a} {b = b} {v = v} {w = w} at m n) = added_means i s r a b v w at (means m) (means n)
  means (several {i = i} {v = v} {w = w} m n other) = several_means i v w (means m) (means n) other

  module _ (states : List (Option Value)) (solved : IsSolved nodes states) where
    -- what a node has by its inputs it has
    has : (i : ℕ) (n : GraphNode) (v : Value) → slice_get nodes i ≡ Some n → Gives states n v → Covers (slice_index_or states i None) v
    has i n v at gives = solved.closed i (slice_get_within nodes i n at) n v at gives

    all_in : (o : Option Value) (v : Value) → Covers o value.Multi → Covers o v
    all_in o v (inl e) = inr e
    all_in o v (inr e) = inr e

    -- what a joined definition has is taken in
    gathered : (r : ℕ) {x : Input} {defs : List Def} → Gathers ops joins r x defs → (d : Def) (v : Value) → Contains defs d → Covers (state_of states (def_input ops d r)) v → Covers (state_of states x) v
    gathered r gathers_none d v (k, less, e) c = absurd (omega arith)
    gathered r (gathers_more {x = x} {y = y} {defs = defs} last g (j, at, f)) d v c covers = by (gathered r g d v) (Contains-push_cases defs last d c)
      where
        n : ℕ
        n = length (entries_of ops) + j

        here : slice_get nodes (length (entries_of ops) + j) ≡ Some (node.Join x (def_input ops last r))
        here = are_nodes.of_joins j (x, def_input ops last r) at

        up : (a : Input) → ((u : Value) → state_of states a ≡ Some u → Gives states (node.Join x (def_input ops last r)) u) → Covers (state_of states a) v → Covers (slice_index_or states (length (entries_of ops) + j) None) v
        up a gives (inl e) = has (length (entries_of ops) + j) (node.Join x (def_input ops last r)) v here (gives v e)
        up a gives (inr e) = all_in (slice_index_or states (length (entries_of ops) + j) None) v (has (length (entries_of ops) + j) (node.Join x (def_input ops last r)) value.Multi here (gives value.Multi e))

        by : (Contains defs d → Covers (state_of states (def_input ops d r)) v → Covers (state_of states x) v) → Contains defs d ⊎ (last ≡ d) → Covers (state_of states y) v
        by before (inl h) = subst (λ z. Covers (state_of states z) v) (sym f) (up x (λ u e. inl e) (before h covers))
        by before (inr e) = subst (λ z. Covers (state_of states z) v) (sym f) (up (def_input ops last r) (λ u g. inr g) (subst (λ z. Covers (state_of states (def_input ops z r)) v) (sym e) covers))

    -- a candidate of a use or a definition is taken in with what it has
    Holds : Node → Value → Type 0
    Holds (Use s r) v = s < sites_of reach → r < 32 → Covers (state_of states (use_in uses s r)) v
    Holds (Definition d r) v = Covers (state_of states (def_input ops d r)) v

    zero_holds : (s : ℕ) → Holds (Use s 0) (value.Const 0)
    unfolding Holds
    zero_holds s less within = inl (ap (state_of states) (use_is s 0 less within))

    reaching_holds : (s r : ℕ) (d : Def) (v : Value) → (r ≡ 0 → ⊥) → Reaches body (pos r) d s → Holds (Definition d r) v → Holds (Use s r) v
    unfolding Holds
    reaching_holds s zero d v some reaches covers less within = absurd (some refl)
    reaching_holds s (suc r) d v some reaches covers less within = by (source_in reach s (pos (suc r))) refl (use_is s (suc r) less within)
      where
        inside : Contains (defs_in reach s (pos (suc r))) d
        inside = ((told s (pos (suc r)) less).reaching d).1 reaches

        only : (t : ℕ) → Contains (def.At t ∷ []) d → def.At t ≡ d
        only t (zero, h, e) = e
        only t (suc k, h, e) = absurd (omega arith)

        by : (q : Source) → source_in reach s (pos (suc r)) ≡ q → IsOfSource reach ops joins (suc r) q (use_in uses s (suc r)) → Covers (state_of states (use_in uses s (suc r))) v
        by (source.Own t) e f = subst (λ z. Covers (state_of states z) v) (sym f) (subst (λ z. Covers (state_of states (def_input ops z (suc r))) v) (sym (only t (subst (λ q. Contains (list_in reach q) d) e inside))) covers)
        by (source.Shared n) e g = gathered (suc r) g d v (subst (λ q. Contains (list_in reach q) d) e inside) covers

    entry_holds : (r : ℕ) → Holds (Definition def.Entry r) (entry_value r)
    unfolding Holds
    entry_holds r = inl refl

    -- a definition with an operation that is no sum
    fixed_holds : (s r : ℕ) (o : Op) (v : Value) → op_in ops s r ≡ o → ((take : ℕ → Input) → node_of take s r o ≡ node.Fixed v) → (op.Own ≡ o → value.At s r (pos 0) ≡ v) → Holds (Definition (def.At s) r) v
    unfolding Holds
    fixed_holds s r o v e is own = by (number_in ops s r) refl
      where
        by : (n : Option ℕ) → number_in ops s r ≡ n → Covers (state_of states (node_or n (value.At s r (pos 0)))) v
        by None f = inl (ap Some (own (sym (no_entry ops s r f) ∙ e)))
        by (Some n) f = has n (node.Fixed v) v (def_node s r n f ∙ ap Some (ap (node_of (use_in uses s) s r) e ∙ is (use_in uses s))) refl

    -- one that is
    raised_holds : (s r q : ℕ) (k : ℤ) (v : Value) → op_in ops s r ≡ op.AddI q k → Holds (Use s q) v → Holds (Definition (def.At s) r) (plus v k)
    unfolding Holds
    raised_holds s r q k v e covers = by (number_in ops s r) refl
      where
        other : op.Own ≡ op.AddI q k → ⊥
        other f = cc

        by : (n : Option ℕ) → number_in ops s r ≡ n → Covers (state_of states (node_or n (value.At s r (pos 0)))) (plus v k)
        by None f = absurd (other (sym (no_entry ops s r f) ∙ e))
        by (Some n) f = cases (covers within.0 (named q refl))
          where
            within : (s < sites_of reach) × NamesRegisters (op_in ops s r)
            within = op_within s r n f

            named : NamesRegisters (op.AddI q k)
            named = subst NamesRegisters e within.1

            at : slice_get nodes n ≡ Some (node.AddI (use_in uses s q) k)
            at = def_node s r n f ∙ ap Some (ap (node_of (use_in uses s) s r) e)

            cases : Covers (state_of states (use_in uses s q)) v → Covers (slice_index_or states n None) (plus v k)
            cases (inl g) = has n (node.AddI (use_in uses s q) k) (plus v k) at (v, g, refl)
            cases (inr g) = all_in (slice_index_or states n None) (plus v k) (has n (node.AddI (use_in uses s q) k) value.Multi at (value.Multi, g, refl))

    added_holds : (s r q p : ℕ) (v w : Value) → op_in ops s r ≡ op.Add q p → Holds (Use s q) v → Holds (Use s p) w → Holds (Definition (def.At s) r) (sum s r v w)
    unfolding Holds
    added_holds s r q p v w e first second = by (number_in ops s r) refl
      where
        other : op.Own ≡ op.Add q p → ⊥
        other f = cc

        by : (n : Option ℕ) → number_in ops s r ≡ n → Covers (state_of states (node_or n (value.At s r (pos 0)))) (sum s r v w)
        by None f = absurd (other (sym (no_entry ops s r f) ∙ e))
        by (Some n) f = cases (first within.0 (named q (inl refl))) (second within.0 (named p (inr refl)))
          where
            within : (s < sites_of reach) × NamesRegisters (op_in ops s r)
            within = op_within s r n f

            named : NamesRegisters (op.Add q p)
            named = subst NamesRegisters e within.1

            at : slice_get nodes n ≡ Some (node.Add (use_in uses s q) (use_in uses s p) s r)
            at = def_node s r n f ∙ ap Some (ap (node_of (use_in uses s) s r) e)

            gives : (x y : Value) → state_of states (use_in uses s q) ≡ Some x → state_of states (use_in uses s p) ≡ Some y → Covers (slice_index_or states n None) (sum s r x y)
            gives x y a b = has n (node.Add (use_in uses s q) (use_in uses s p) s r) (sum s r x y) at (x, y, a, b, refl)

            cases : Covers (state_of states (use_in uses s q)) v → Covers (state_of states (use_in uses s p)) w → Covers (slice_index_or states n None) (sum s r v w)
            cases (inl a) (inl b) = gives v w a b
            cases (inl a) (inr b) = all_in (slice_index_or states n None) (sum s r v w) (subst (Covers (slice_index_or states n None)) (sum_multi s r v) (gives v value.Multi a b))
            cases (inr a) (inl b) = all_in (slice_index_or states n None) (sum s r v w) (gives value.Multi w a b)
            cases (inr a) (inr b) = all_in (slice_index_or states n None) (sum s r v w) (gives value.Multi value.Multi a b)

    two : (o : Option Value) (v w : Value) → (v ≡ w → ⊥) → Covers o v → Covers o w → Covers o value.Multi
    two o v w other (inr e) c = inl e
    two o v w other (inl e) (inr f) = inl f
    two o v w other (inl e) (inl f) = absurd (other (inner (sym e ∙ f)))
      where
        inner : Some v ≡ Some w → v ≡ w
        inner g = cc

    several_holds : (n : Node) (v w : Value) → Holds n v → Holds n w → (v ≡ w → ⊥) → Holds n value.Multi
    unfolding Holds
    several_holds (Use s r) v w first second other = λ less within. two (state_of states (use_in uses s r)) v w other (first less within) (second less within)
    several_holds (Definition d r) v w first second other = two (state_of states (def_input ops d r)) v w other first second

    holds : {n : Node} {v : Value} → C n v → Holds n v
    holds (of_zero {s = s}) = zero_holds s
    holds (of_reaching {s = s} {r = r} {d = d} {v = v} some reaches c) = reaching_holds s r d v some reaches (holds c)
    holds (of_entry {r = r}) = entry_holds r
    holds (of_own {s = s} {r = r} e) = fixed_holds s r op.Own (value.At s r (pos 0)) e (λ take. refl) (λ f. refl)
    holds (of_const {s = s} {r = r} {c = c} e) = fixed_holds s r (op.Const c) (value.Const c) e (λ take. refl) (λ f. cc)
    holds (of_sym {s = s} {r = r} {g = g} {a = a} e) = fixed_holds s r (op.Sym g a) (value.Sym g a) e (λ take. refl) (λ f. cc)
    holds (of_add_i {s = s} {r = r} {q = q} {k = k} {v = v} e c) = raised_holds s r q k v e (holds c)
    holds (of_add {s = s} {r = r} {q = q} {p = p} {v = v} {w = w} e c d) = added_holds s r q p v w e (holds c) (holds d)
    holds (of_several {n = n} {v = v} {w = w} c d other) = several_holds n v w (holds c) (holds d) other

    -- what an input has means that
    state_means : (x : Input) (v : Value) → state_of states x ≡ Some v → Means x v
    state_means x v e = means (by x e)
      where
        by : (x : Input) → state_of states x ≡ Some v → Made nodes x v
        by input.Nothing f = cc
        by (input.Known w) f = subst (λ u. Made nodes (input.Known w) u) (inner f) known
          where
            inner : Some w ≡ Some v → w ≡ v
            inner g = cc
        by (input.Node i) f = solved.made i v f

    -- so values are those of uses and definitions
    pub use_value : (s r : ℕ) → s < sites_of reach → r < 32 → IsValue (C (Use s r)) (value_in states (use_in uses s r))
    unfolding Holds
    use_value s r less within =
        value_is (C (Use s r)) (state_of states (use_in uses s r)) (λ v e. means_use (use_in uses s r) v (state_means (use_in uses s r) v e) s r less (use_is s r less within)) (λ v c. holds c less within)

    pub definition_value : (s r : ℕ) → IsValue (C (Definition (def.At s) r)) (value_in states (def_input ops (def.At s) r))
    unfolding Holds
    definition_value s r =
        value_is (C (Definition (def.At s) r)) (state_of states (def_input ops (def.At s) r)) (λ v e. (state_means (def_input ops (def.At s) r) v e).as_definition (def.At s) r refl) (λ v c. holds c)
