-- What `Values` tells is what nodes have.
use Rattle.std.proofs.Common.{◌≡◌, ◌<◌, ◌≤◌, ℕ, ℤ, pos, List, [], length, map, Option, Some, None, refl, sym, ap, subst, ◌∙◌, arith}
use Rattle.std.specs.Prelude.{All, slice_index_or, unwrap_or}
use Rattle.std.specs.Option.{option_map}
use Rattle.std.proofs.lemmas.List.{get_or-map, length-map}
use Rattle.rt_flow.specs.declared.def.Def.TheVariants as def
use Rattle.rt_flow.specs.declared.reach.Reach.{Reach}
use Rattle.rt_flow.specs.Bodies.{Body, AreReaching}
use Rattle.rt_flow.specs.Reaching.{IsReachOf}
use Rattle.rt_flow.specs.Reaching as reaching
use Rattle.rt_flow.specs.Sources.{defs_in}
use Rattle.rt_track.specs.declared.ops.Ops.{Ops}
use Rattle.rt_track.specs.declared.value.Value.{Value}
use Rattle.rt_track.specs.declared.value.Value.TheVariants as value
use Rattle.rt_track.specs.declared.values.Values.{Values}
use Rattle.rt_track.specs.declared.nodes.Input.{Input}
use Rattle.rt_track.specs.declared.nodes.Input.TheVariants as input
use Rattle.rt_track.specs.declared.nodes.Node.{Node as GraphNode}
use Rattle.rt_track.specs.Candidates.{Use, Definition, IsCandidate, IsValue}
use Rattle.rt_track.specs.Changes.{change_at, IsAscending}
use Rattle.rt_track.specs.Inside.Definitions.{AreDefinitions}
use Rattle.rt_track.specs.Inside.Inputs.{AreAllUses, AreNodes, def_input, node_or, use_in}
use Rattle.rt_track.specs.Inside.Nodes.{IsSolved, value_in}
use Rattle.rt_track.specs.Operations.{number_in, op_in, ops_sites}
use Rattle.rt_track.specs.Told.{sites_of, value_at, value_of}
use Rattle.rt_track.specs.Tracked.{AreValuesOf}
use Rattle.rt_track.proofs.Changing.{change_at-map}
use Rattle.rt_track.proofs.Naming.{use_named, definition_named}
use Rattle.rt_track.proofs.Tracking.{use_value, definition_value}

-- the values of changes
abbrev pub valued : List (Option Value) → List (ℕ × Input) → List (ℕ × Value)
valued states changes = map (λ c. (c.0, value_in states c.1)) changes

-- their sites rise as before
ascending_valued : (states : List (Option Value)) (changes : List (ℕ × Input)) → IsAscending changes → IsAscending (valued states changes)
ascending_valued states changes ascending i j d le less =
    let short : j < length changes = simp length-map at less in
    let before : (slice_index_or changes i (d.0, input.Nothing)).0 ≤ (slice_index_or changes j (d.0, input.Nothing)).0 = ascending i j (d.0, input.Nothing) le short in
    subst (λ p. p.0 ≤ (slice_index_or (valued states changes) j d).0) (sym (get_or-map (λ c. (c.0, value_in states c.1)) changes i (d.0, input.Nothing) d (omega arith)))
    (subst (λ p. (slice_index_or changes i (d.0, input.Nothing)).0 ≤ p.0) (sym (get_or-map (λ c. (c.0, value_in states c.1)) changes j (d.0, input.Nothing) d short)) before)

module _ (reach : Reach) (ops : Ops) (joins : List (Input × Input)) (uses : List (List (ℕ × Input))) (are_uses : AreAllUses reach ops joins uses) (states : List (Option Value)) where
  -- the values of all registers
  pub each_valued : (rows : List (List (ℕ × Value))) → rows ≡ map (valued states) uses → length rows ≡ 32
  each_valued rows e = ap length e ∙ length-map uses (valued states) ∙ are_uses.each

  pub all_ascending : (rows : List (List (ℕ × Value))) → rows ≡ map (valued states) uses → All (λ changes. IsAscending changes) rows
  all_ascending rows e k d less =
      let within : k < 32 = subst (λ n. k < n) (each_valued rows e) less in
      let short : k < length uses = subst (λ n. k < n) (sym are_uses.each) within in
      let row : slice_index_or rows k d ≡ valued states (slice_index_or uses k []) = ap (λ (rs : List (List (ℕ × Value))). slice_index_or rs k d) e ∙ get_or-map (valued states) uses k [] d short in
      subst (λ (cs : List (ℕ × Value)). IsAscending cs) (sym row) (ascending_valued states (slice_index_or uses k []) (are_uses.each_uses k within).ascending)

  module _ (same_sites : ops_sites ops ≡ reaching.sites_of reach) (told : (body : Body) → IsReachOf body reach → (site : ℕ) (loc : ℤ) → site < reaching.sites_of reach → AreReaching body loc site (defs_in reach site loc))
      (nodes : List GraphNode) (are_nodes : AreNodes ops uses joins nodes) (solved : IsSolved nodes states) (values : Values) (rows_are : values.uses.items ≡ map (valued states) uses) (definitions_are : AreDefinitions ops states values.definitions) (sites_are : values.sites ≡ reaching.sites_of reach) where
    at_is : (s r : ℕ) → r < 32 → value_in states (use_in uses s r) ≡ value_at values s r
    unfolding value_at
    at_is s r less =
        let short : r < length uses = subst (λ n. r < n) (sym are_uses.each) less in
        let row : slice_index_or values.uses.items r [] ≡ valued states (slice_index_or uses r []) = ap (λ (rs : List (List (ℕ × Value))). slice_index_or rs r []) rows_are ∙ get_or-map (valued states) uses r [] [] short in
        sym (ap (λ (cs : List (ℕ × Value)). change_at cs s value.Multi) row ∙ change_at-map (value_in states) (slice_index_or uses r []) s input.Nothing)

    of_is : (s r : ℕ) → value_in states (def_input ops (def.At s) r) ≡ value_of values s r
    unfolding value_of
    of_is s r = by (number_in ops s r) ∙ sym (ap (λ o. unwrap_or o (value.At s r (pos 0))) (definitions_are s r))
      where
        by : (o : Option ℕ) → value_in states (node_or o (value.At s r (pos 0))) ≡ unwrap_or (option_map (λ n. value_in states (input.Node n)) o) (value.At s r (pos 0))
        by None = refl
        by (Some n) = refl

    in_reach : (body : Body) → IsReachOf body reach → (s : ℕ) → s < body.sites → s < reaching.sites_of reach
    in_reach body is s less = subst (λ n. s < n) (sym is.sites) less

    uses_are : (body : Body) → IsReachOf body reach → (s r : ℕ) → s < body.sites → r < 32 → IsValue (IsCandidate body (op_in ops) (Use s r)) (value_at values s r)
    uses_are body is s r less within = subst (IsValue (IsCandidate body (op_in ops) (Use s r))) (at_is s r within) (use_value body reach (told body is) ops same_sites joins uses are_uses nodes are_nodes states solved s r (in_reach body is s less) within)

    definitions_is : (body : Body) → IsReachOf body reach → (s r : ℕ) → IsValue (IsCandidate body (op_in ops) (Definition (def.At s) r)) (value_of values s r)
    definitions_is body is s r = subst (IsValue (IsCandidate body (op_in ops) (Definition (def.At s) r))) (of_is s r) (definition_value body reach (told body is) ops same_sites joins uses are_uses nodes are_nodes states solved s r)

    -- so the values are those of the definitions and operations
    pub are_values : AreValuesOf reach ops values
    unfolding sites_of
    are_values = record {
      sites = sites_are;
      uses = uses_are;
      definitions = λ body is s r less within. definitions_is body is s r;
      uses_named = λ body is s r less within. use_named body is.is_body ops s r (value_at values s r) within (uses_are body is s r less within);
      definitions_named = λ body is s r within defines. definition_named body is.is_body ops s r (value_of values s r) within defines (definitions_is body is s r);
    }
