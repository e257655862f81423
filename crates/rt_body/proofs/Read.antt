-- A body that was read is what is known of its procedure.
use Rattle.std.proofs.Common.{◌≡◌, ℕ, ◌+◌, ◌<◌, ◌≤◌, ◌⊎◌, inl, inr, pos, List, [], length, map, refl, sym, ap, subst, ◌∙◌, arith}
use Rattle.std.specs.Prelude.{All, Contains}
use Rattle.std.proofs.lemmas.Bool.{cases_lt}
use Rattle.std.proofs.lemmas.List.{length-map}
use Rattle.std.proofs.lemmas.List.Elements.{All-contains}
use Rattle.rt_elf.specs.Parts.{Parts as Object}
use Rattle.rt_link.specs.declared.place.Place.{Place}
use Rattle.rt_proc.specs.declared.proc.Proc.{Proc}
use Rattle.rt_proc.specs.declared.site.Site.{Site}
use Rattle.rt_proc.specs.Procs.{places_of}
use Rattle.rt_flow.specs.declared.def.Def.TheVariants.{At}
use Rattle.rt_flow.specs.declared.reach.Reach.{Reach}
use Rattle.rt_flow.specs.Bodies.{Body as Graph, Defines, AreReaching}
use Rattle.rt_flow.specs.Reaching.{IsReachOf}
use Rattle.rt_flow.specs.Sources.{defs_in}
use Rattle.rt_track.specs.declared.op.Op.TheVariants.{Own}
use Rattle.rt_track.specs.declared.ops.Ops.{Ops}
use Rattle.rt_track.specs.declared.value.Value.TheVariants as value
use Rattle.rt_track.specs.Candidates.{Use, Definition, IsCandidate, IsValue}
use Rattle.rt_track.specs.Operations.{op_in}
use Rattle.rt_track.specs.Told.{value_at, value_of}
use Rattle.rt_track.specs.Tracked.{AreValuesOf}
use Rattle.rt_body.specs.declared.action.Action.{Action}
use Rattle.rt_body.specs.declared.action.Action.TheVariants as action
use Rattle.rt_body.specs.declared.body.Body.{Body}
use Rattle.rt_body.specs.Actions.{actions_of, defined_by, site_action}
use Rattle.rt_body.specs.Readable.{IsReadable}
use Rattle.rt_body.specs.Readings.{number_at, edges_from, definitions_from, flow_body, register_body, action_at, op_at}
use Rattle.rt_body.specs.Inside.Parts.{AreParts}
use Rattle.rt_body.specs.Right.{IsReading}
use Rattle.rt_body.specs.Told.{reading_of, use_value, definition_value}
use Rattle.rt_body.proofs.Asked.{use_within, use_beyond, definition_within, definition_beyond, reaching_within_body, reaching_beyond}
use Rattle.rt_body.proofs.Numbering.{defined_at, edges_within, number_within}
use Rattle.rt_body.proofs.Operating.{defining_within}
use Rattle.rt_body.proofs.Ranging.{actions_registers, op_registers}
use Rattle.rt_body.proofs.Transferred.{own_value, value_transferred}

module _ (proc : Proc) (readable : IsReadable proc) (places : List Place) (count : ℕ) (are : places ≡ places_of proc.sites) (counted : count ≡ length proc.sites) where
  long : length places ≡ count
  long = ap length are ∙ length-map proc.sites (λ (site : Site). site.place) ∙ sym counted

  pub entry_within : number_at places proc.entry < count
  entry_within = subst (λ n. number_at places proc.entry < n) long (number_within places proc.entry (subst (λ (ps : List Place). Contains ps proc.entry) (sym are) readable.closed.entry))

  pub all_within : All (λ e. (e.0 < count) × (e.1 < count)) (edges_from places 0 proc.sites)
  all_within =
      let next : All (λ (site : Site). All (Contains places) site.next) proc.sites = subst (λ (ps : List Place). All (λ (site : Site). All (Contains ps) site.next) proc.sites) (sym are) readable.closed.next in
      λ k d less. let both = edges_within places 0 proc.sites next k d less in (omega (arith, both.0, counted), omega (arith, both.1, long))

flow_same : (actions : List Action) (n entry other : ℕ) (edges others : List (ℕ × ℕ)) → length actions ≡ n → entry ≡ other → edges ≡ others
    → flow_body actions entry edges ≡ (record { sites = n; entry = other; edges = others; defs = definitions_from 0 actions })
flow_same actions n entry other edges others e f g = rw (e, f, g) refl

pub parts_made : (object : Object) (proc : Proc) (sites : List Site) (actions : List Action) (places places' : List Place) (entry : ℕ) (edges : List (ℕ × ℕ)) → IsReadable proc → sites ≡ proc.sites
    → actions ≡ map (site_action object) sites → places ≡ places_of sites → places' ≡ places_of sites → entry ≡ number_at places proc.entry → edges ≡ edges_from places' 0 sites
    → AreParts object proc actions entry edges
parts_made object proc sites actions places places' entry edges readable sites_are actions_are places_are places'_are entry_is edges_are =
    let all : actions ≡ actions_of object proc = actions_are ∙ ap (map (site_action object)) sites_are in
    let counted : length actions ≡ length proc.sites = ap length all ∙ length-map proc.sites (site_action object) in
    let are : places ≡ places_of proc.sites = places_are ∙ ap places_of sites_are in
    let are' : places' ≡ places_of proc.sites = places'_are ∙ ap places_of sites_are in
    let edges_is : edges ≡ edges_from places' 0 proc.sites = edges_are ∙ ap (edges_from places' 0) sites_are in
    record {
      acting = all;
      flowing = flow_same actions (length proc.sites) entry (number_at (places_of proc.sites) proc.entry) edges (edges_from (places_of proc.sites) 0 proc.sites) counted (entry_is ∙ ap (λ ps. number_at ps proc.entry) are)
          (edges_is ∙ ap (λ (ps : List Place). edges_from ps 0 proc.sites) are');
      entered = subst (λ n. n < length actions) (sym entry_is) (entry_within proc readable places (length actions) are counted);
      joined = subst (All (λ e. (e.0 < length actions) × (e.1 < length actions))) (sym edges_is) (all_within proc readable places' (length actions) are' counted);
      ranged = actions_registers object proc actions readable all;
    }

module _ (actions : List Action) (entry : ℕ) (edges : List (ℕ × ℕ)) where
  -- a definition is by the action of its site
  pub defining : (s r : ℕ) → Defines (flow_body actions entry edges) s (pos r) → Contains (defined_by (action_at actions s)) r
  defining s r defines =
      let at = defined_at 0 actions s r defines in
      let same : at.number ≡ s = omega (arith, at.is_number) in
      subst (λ n. Contains (defined_by (action_at actions n)) r) same at.by_action

  -- what reaches a site is of a site of the body
  pub reaching_within : (reach : Reach) → ((s r : ℕ) → s < length actions → AreReaching (flow_body actions entry edges) (pos r) s (defs_in reach s (pos r)))
      → (s r d : ℕ) → s < length actions → Contains (defs_in reach s (pos r)) (At d) → d < length actions
  reaching_within reach told s r d less there = defining_within actions d r (defining d r (((told s r less).reaching (At d)).0 there).0)

module _ (body : Body) (object : Object) (proc : Proc) (ops : Ops) (are_parts : AreParts object proc body.actions body.entry body.edges)
    (of : IsReachOf (flow_body body.actions body.entry body.edges) body.reach)
    (told : (s r : ℕ) → s < length body.actions → AreReaching (flow_body body.actions body.entry body.edges) (pos r) s (defs_in body.reach s (pos r)))
    (same : (s r : ℕ) → Contains (defined_by (action_at body.actions s)) r → op_in ops s r ≡ op_at body.actions s r)
    (rest : (s r : ℕ) → (Contains (defined_by (action_at body.actions s)) r → ⊥) → op_in ops s r ≡ Own) (are : AreValuesOf body.reach ops body.values) where
  abbrev graph : Graph
  graph = flow_body body.actions body.entry body.edges

  agree : (s r : ℕ) → Defines graph s (pos r) → op_in ops s r ≡ op_at body.actions s r
  agree s r defines = same s r (defining body.actions body.entry body.edges s r defines)

  used : (s r : ℕ) → s < length body.actions → r < 32 → IsValue (IsCandidate graph (op_at body.actions) (Use s r)) (use_value body s r)
  used s r less few =
      subst (IsValue (IsCandidate graph (op_at body.actions) (Use s r))) (sym (use_within body s r less few))
      (value_transferred graph (op_in ops) (op_at body.actions) agree (Use s r) tt (value_at body.values s r) (are.uses graph of s r less few))

  given : (s r : ℕ) → Contains (defined_by (action_at body.actions s)) r → IsValue (IsCandidate graph (op_at body.actions) (Definition (At s) r)) (definition_value body s r)
  given s r defines =
      let less = defining_within body.actions s r defines in
      let few : r < 32 = All-contains (λ n. n < 32) (defined_by (action_at body.actions s)) r (op_registers (action_at body.actions s) (are_parts.ranged s action.Pass less)).defined defines in
      subst (IsValue (IsCandidate graph (op_at body.actions) (Definition (At s) r))) (sym (definition_within body s r less few))
      (value_transferred graph (op_in ops) (op_at body.actions) agree (Definition (At s) r) (same s r defines) (value_of body.values s r) (are.definitions graph of s r less few))

  not_given : (s r : ℕ) → (Contains (defined_by (action_at body.actions s)) r → ⊥) → definition_value body s r ≡ value.At s r (pos 0)
  not_given s r none = by (cases_lt s (length body.actions)) (cases_lt r 32)
    where
      by : (s < length body.actions) ⊎ (length body.actions ≤ s) → (r < 32) ⊎ (32 ≤ r) → definition_value body s r ≡ value.At s r (pos 0)
      by (inl less) (inl few) = definition_within body s r less few ∙ own_value graph (op_in ops) s r (rest s r none) (value_of body.values s r) (are.definitions graph of s r less few)
      by (inl less) (inr many) = definition_beyond body s r (λ h few. omega (arith, few, many))
      by (inr past) other = definition_beyond body s r (λ less few. omega (arith, less, past))

  pub is_reading : IsReading object proc (reading_of body)
  is_reading = record {
    actions = are_parts.acting;
    body = are_parts.flowing;
    is_body = of.is_body;
    value_at = used;
    value_of = given;
    reaching = λ s r less. subst (AreReaching graph (pos r) s) (sym (reaching_within_body body s r less)) (told s r less);
    value_at_else = use_beyond body;
    value_of_else = not_given;
    reaching_else = reaching_beyond body;
  }
