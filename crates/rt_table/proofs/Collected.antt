-- The rows of procedures, collected procedure by procedure, are those that the lists of lines are made of.
use Rattle.std.proofs.Common.{◌≡◌, ◌<◌, ◌+◌, ℕ, zero, suc, Bool, true, false, cond, nat_eq, ◌||◌, Option, Some, None, List, [], ◌∷◌, ◌++◌, length, get_or, take, map, refl, sym, ap, subst, ◌∙◌, arith}
use Rattle.std.specs.Prelude.{All, slice_index_or}
use Rattle.std.specs.List.{list_any}
use Rattle.std.proofs.lemmas.List.{get_or_default, length-map, take_more}
use Rattle.std.proofs.lemmas.List.Elements.{All-nil, All-cons, All-append}
use Rattle.rt_lines.specs.declared.line.Line.{Line}
use Rattle.rt_lines.specs.declared.variable.Base.{Base}
use Rattle.rt_lines.specs.declared.variable.Base.TheVariants as base
use Rattle.rt_rules.specs.Laws.{NamesBase}
use Rattle.rt_lattice.specs.declared.roles.Roles.{Roles}
use Rattle.rt_elf.specs.Parts.{Parts as Object}
use Rattle.rt_proc.specs.declared.proc.Proc.{Proc}
use Rattle.rt_proc.specs.declared.site.Callee.{Callee}
use Rattle.rt_proc.specs.declared.site.Callee.TheVariants as callee
use Rattle.rt_body.specs.Readings.{Reading}
use Rattle.rt_liveness.specs.declared.call.Call.{Call}
use Rattle.rt_liveness.specs.Programs.{Program}
use Rattle.rt_scheme.specs.declared.scheme.Scheme as scheme
use Rattle.rt_sigs.specs.Signatures.{Signature}
use Rattle.rt_rows.specs.declared.row.Row.{Row}
use Rattle.rt_rows.specs.Terms.{HasConstantBelow, IsBaseOf, group_lines}
use Rattle.rt_table.specs.Facts.{AreKnown, Knowledge}
use Rattle.rt_table.specs.Lists.{AreLinesOf, AreRowsOf, HasGlobalsOf, IsContext, is_member, linked_by, linked_in, scheme_target, target_by, words_at}
use Rattle.rt_table.specs.Inside.Naming.{AreRowsGiven}
use Rattle.rt_table.specs.Table.{Linked, Member, Target}

-- Members.

module _ (program : Program) (known : List Knowledge) (schemes : List (Option scheme.Scheme)) (keys group : List ℕ) (same : (q : ℕ) → is_member keys q ≡ is_member group q) where
  same_target : (c : Callee) (b : Bool) → target_by program known schemes keys c b ≡ target_by program known schemes group c b
  same_target (callee.Proc q) b = ap (λ m. cond m (Member q (words_at known q)) (scheme_target None (slice_index_or schemes q None))) (same q)
  same_target (callee.Extern symbol) b = refl
  same_target (callee.Unknown register) b = refl

  same_call : (call : Call) → linked_by program known schemes keys call ≡ linked_by program known schemes group call
  same_call call = ap (λ (t : Target). let l : Linked = record { call = call; target = t } in l) (same_target call.callee call.is_plain)

  same_calls : (here : List Call) → map (linked_by program known schemes keys) here ≡ map (linked_by program known schemes group) here
  same_calls [] = refl
  same_calls (call ∷ here) = ap (λ l. l ∷ map (linked_by program known schemes keys) here) (same_call call) ∙ ap (λ ls. linked_by program known schemes group call ∷ ls) (same_calls here)

  same_linked : (calls : List (List Call)) → linked_in program known schemes keys calls ≡ linked_in program known schemes group calls
  same_linked [] = refl
  same_linked (here ∷ calls) =
      ap (λ ls. ls ∷ linked_in program known schemes keys calls) (same_calls here)
      ∙ ap (λ lists. map (linked_by program known schemes group) here ∷ lists) (same_linked calls)

  -- the rows of a procedure are the same, by the members of a set as by those of a group
  pub same-rows : (roles : Roles) (number : ℕ) (rows : List Row) → AreRowsOf program known roles schemes keys number rows → AreRowsOf program known roles schemes group number rows
  same-rows roles number rows h =
      let is = h.is_context in
      record {
        context = h.context;
        is_context = record {
          procedure = is.procedure;
          knowledge = is.knowledge;
          is_known = is.is_known;
          reading = is.reading;
          frame = is.frame;
          linked = is.linked ∙ same_linked is.knowledge.calls;
          is_code = is.is_code;
          constant = is.constant;
        };
        are_rows = h.are_rows;
      }

-- Lists.

module _ (P : ℕ → List Row → Type 0) where
  -- one list of rows for each number
  abbrev pub AreLists : List ℕ → List (List Row) → Type 0
  AreLists [] [] = Unit {0}
  AreLists [] (rows ∷ lists) = ⊥
  AreLists (n ∷ group) [] = ⊥
  AreLists (n ∷ group) (rows ∷ lists) = P n rows × AreLists group lists

  lists_push : (group : List ℕ) (lists : List (List Row)) (n : ℕ) (rows : List Row) → AreLists group lists → P n rows → AreLists (group ++ n ∷ []) (lists ++ rows ∷ [])
  lists_push [] [] n rows h now = (now, tt)
  lists_push [] (other ∷ lists) n rows h now = absurd h
  lists_push (m ∷ group) [] n rows h now = absurd h
  lists_push (m ∷ group) (other ∷ lists) n rows h now = (h.0, lists_push group lists n rows h.1 now)

  pub lists-more : (group : List ℕ) (lists new : List (List Row)) (i : ℕ) (rows : List Row) → i < length group → AreLists (take i group) lists → P (get_or group i 0) rows
      → new ≡ lists ++ rows ∷ [] → AreLists (take (i + 1) group) new
  lists-more group lists new i rows less before now new_is =
      subst (AreLists (take (i + 1) group)) (sym new_is)
      (subst (λ numbers. AreLists numbers (lists ++ rows ∷ [])) (sym (take_more group i 0 less)) (lists_push (take i group) lists (get_or group i 0) rows before now))

  pub lists-length : (group : List ℕ) (lists : List (List Row)) → AreLists group lists → length lists ≡ length group
  lists-length [] [] h = refl
  lists-length [] (rows ∷ lists) h = absurd h
  lists-length (n ∷ group) [] h = absurd h
  lists-length (n ∷ group) (rows ∷ lists) h = ap suc (lists-length group lists h.1)

  pub lists-at : (group : List ℕ) (lists : List (List Row)) (i : ℕ) → AreLists group lists → i < length group → P (get_or group i 0) (get_or lists i [])
  lists-at [] lists i h less = absurd (omega arith)
  lists-at (n ∷ group) [] i h less = absurd h
  lists-at (n ∷ group) (rows ∷ lists) zero h less = h.0
  lists-at (n ∷ group) (rows ∷ lists) (suc i) h less = lists-at group lists i h.1 (omega arith)

-- one list more
pub all-more : (P : List Row → Type 0) (lists new : List (List Row)) (rows : List Row) → All P lists → P rows → new ≡ lists ++ rows ∷ [] → All P new
all-more P lists new rows h now new_is = subst (All P) (sym new_is) (All-append P lists (rows ∷ []) h (All-cons P rows [] now (All-nil P)))

-- the lists of a group
pub lists-lines : (object : Object) (roles : Roles) (procs : List Proc) (readings : List Reading) (signatures : List Signature) (known : List Knowledge) (schemes : List (Option scheme.Scheme))
    (keys group : List ℕ) (lists : List (List Row)) (bodies : List (List Line))
    → AreKnown (record { object = object; procs = procs; readings = readings; signatures = signatures }) known → ((q : ℕ) → is_member keys q ≡ is_member group q)
    → AreLists (AreRowsOf (record { object = object; procs = procs; readings = readings; signatures = signatures }) known roles schemes keys) group lists
    → bodies ≡ group_lines lists → AreLinesOf object roles procs signatures schemes group bodies
lists-lines object roles procs readings signatures known schemes keys group lists bodies are_known same h lines =
    let program : Program = record { object = object; procs = procs; readings = readings; signatures = signatures } in
    let P = AreRowsOf program known roles schemes keys in
    record {
      readings = readings;
      known = known;
      are_known = are_known;
      rows = lists;
      one_each = lists-length P group lists h;
      are_rows = λ i less. same-rows program known schemes keys group same roles (get_or group i 0) (get_or lists i []) (lists-at P group lists i h less);
      lines = lines;
    }

-- what the lines of rows that name symbols name
pub lists-constants : (object : Object) (count : ℕ) (lists : List (List Row)) → All (AreRowsGiven object count) lists → All (All (HasConstantBelow count)) lists
lists-constants object count lists h = λ k d less. (h k d less).constants

pub lists-globals : (object : Object) (count : ℕ) (lists : List (List Row)) (bodies : List (List Line)) → All (AreRowsGiven object count) lists → length bodies ≡ length lists
    → ((i : ℕ) (b : Base) → NamesBase (get_or bodies i []) b → IsBaseOf (get_or lists i []) b) → All (HasGlobalsOf object) bodies
lists-globals object count lists bodies h one_each bases = λ i d less g names.
    let here : get_or bodies i d ≡ get_or bodies i [] = get_or_default bodies i d [] less in
    (h i [] (omega arith)).globals g (bases i (base.Global g) (subst (λ lines. NamesBase lines (base.Global g)) here names))
