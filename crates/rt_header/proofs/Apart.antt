-- Structs that tell the same are one.
use Rattle.std.proofs.Common.{◌≡◌, ℕ, ◌+◌, ◌<◌, pos, negsuc, false, Option, Some, None, List, [], ◌∷◌, length, get_or, refl, sym, ap, subst, ◌∙◌}
use Rattle.std.specs.Prelude.{slice_index_or, unwrap_or, find}
use Rattle.std.specs.Option.{option_map, option_and_then}
use Rattle.rt_lines.specs.declared.label.Label.{Label}
use Rattle.rt_lines.specs.declared.label.Label.TheVariants.{In, Out, Load, Store, Field}
use Rattle.rt_tree.specs.Trees.{Nodes, marks_from, marks_of, node_at}
use Rattle.rt_erase.specs.declared.row.Row.{Row}
use Rattle.rt_erase.specs.Rows.{fields_of, is_pointer, row_at, scalar_number}
use Rattle.rt_erase.specs.Erasures.{target_of}
use Rattle.rt_cdecl.specs.declared.declarations.CType.{CType}
use Rattle.rt_cdecl.specs.declared.declarations.CField.{CField}
use Rattle.rt_cdecl.specs.declared.declarations.Decls.{Decls}
use Rattle.rt_cdecl.specs.HeaderWords.{Letter, Pointee, At, OfType, after_all, field_in, is_field, scalar_of}
use Rattle.rt_header.specs.Headers.{tail_in}
use Rattle.rt_header.specs.Inside.Built.{Forest, Structs, IsForest, IsNodeOf, IsStructOf, IsTypeOf, AreBuilt, tree_of, pointer, scalar}
use Rattle.rt_header.proofs.Telling as telling

module _ (forest : Forest) (is : IsForest forest) (structs : Structs) (decls : Decls)
    (built : AreBuilt forest structs decls.structs decls.functions)
    (distinct : (j k : ℕ) → j < length forest.names → k < length forest.names → slice_index_or forest.names j [] ≡ slice_index_or forest.names k [] → j ≡ k) where
  abbrev graph : Nodes
  graph = forest.erased.graph

  abbrev place : ℕ → ℕ → ℕ
  place i n = get_or forest.starts i 0 + n

  -- two structs tell the same
  abbrev pub AreEqual : ℕ → ℕ → Type 0
  AreEqual s t = (letters : List Letter) → tail_in decls s letters ≡ tail_in decls t letters

  abbrev fields_at : ℕ → ℕ → ℕ → Option CField
  fields_at s bits k = find (is_field bits (pos k)) (get_or decls.structs s (telling.no_struct forest is structs decls built)).fields

  -- what a struct tells from a field on
  tail_field : (s : ℕ) → s < length structs → (bits k : ℕ) (letters : List Letter) → tail_in decls s (At bits (pos k) ∷ letters) ≡
      option_map scalar_of (option_and_then (after_all decls letters) (option_map (λ (f : CField). OfType f.kind) (fields_at s bits k)))
  tail_field s less bits k letters =
      ap (λ o. option_map scalar_of (option_and_then (after_all decls letters) (option_and_then (λ struct. field_in struct bits (pos k)) o)))
      (telling.struct_found forest is structs decls built s less)

  some_is : {X : Type 0} (a b : X) → Some a ≡ Some b → a ≡ b
  some_is a b e = ap (λ o. unwrap_or o a) e

  -- nodes that structs which tell the same stand for have the same marks at a word
  abbrev IsOnward : List Label → Type 0
  IsOnward w = (i n s j m t : ℕ) → IsNodeOf forest i n → IsNodeOf forest j m → IsStructOf forest structs i n s → IsStructOf forest structs j m t
      → AreEqual s t → marks_from graph (place i n) w ≡ marks_from graph (place j m) w

  -- one step on
  same_steps : (w : List Label) → IsOnward w → (bits k i n s j m t : ℕ) → IsNodeOf forest i n → IsNodeOf forest j m → IsStructOf forest structs i n s → IsStructOf forest structs j m t
      → AreEqual s t → (f g : Option CField) → f ≡ fields_at s bits k → g ≡ fields_at t bits k → (row other : Option Row)
      → telling.AreBoth (λ (f : CField) (row : Row). IsNodeOf forest i row.node × IsTypeOf forest structs i bits row.node f.kind × (row.bits ≡ bits)) f row
      → telling.AreBoth (λ (f : CField) (row : Row). IsNodeOf forest j row.node × IsTypeOf forest structs j bits row.node f.kind × (row.bits ≡ bits)) g other
      → option_and_then (λ a. marks_from graph a w) (option_map (target_of forest.erased.extremes (get_or forest.starts i 0) (tree_of forest i)) row) ≡
      option_and_then (λ a. marks_from graph a w) (option_map (target_of forest.erased.extremes (get_or forest.starts j 0) (tree_of forest j)) other)
  same_steps w onward bits k i n s j m t at to so so' equal None None f g None None a b = refl
  same_steps w onward bits k i n s j m t at to so so' equal None g' f g (Some row) other a b = absurd a
  same_steps w onward bits k i n s j m t at to so so' equal f' None f g row (Some other) a b = absurd b
  same_steps w onward bits k i n s j m t at to so so' equal (Some x) g' f g None other a b = absurd a
  same_steps w onward bits k i n s j m t at to so so' equal f' (Some y) f g row None a b = absurd b
  same_steps w onward bits k i n s j m t at to so so' equal None (Some y) f g None (Some other) a b =
      let e = sym (tail_field s so.within bits k []) ∙ (equal (At bits (pos k) ∷ []) ∙ tail_field t so'.within bits k []) in
      absurd (none_some (scalar_of (OfType y.kind)) (ap tail f ∙ (e ∙ sym (ap tail g))))
    where
      tail : Option CField → Option (Option (List ℕ))
      tail o = option_map scalar_of (option_and_then (after_all decls []) (option_map (λ (f : CField). OfType f.kind) o))

      none_some : (z : Option (List ℕ)) → None ≡ Some z → ⊥
      none_some z e = cc
  same_steps w onward bits k i n s j m t at to so so' equal (Some x) None f g (Some row) None a b =
      let e = sym (tail_field s so.within bits k []) ∙ (equal (At bits (pos k) ∷ []) ∙ tail_field t so'.within bits k []) in
      absurd (none_some (scalar_of (OfType x.kind)) (ap tail g ∙ (sym e ∙ sym (ap tail f))))
    where
      tail : Option CField → Option (Option (List ℕ))
      tail o = option_map scalar_of (option_and_then (after_all decls []) (option_map (λ (f : CField). OfType f.kind) o))

      none_some : (z : Option (List ℕ)) → None ≡ Some z → ⊥
      none_some z e = cc
  same_steps w onward bits k i n s j m t at to so so' equal (Some x) (Some y) f g (Some row) (Some other) a b = by x.kind y.kind a.1 b.1 tails
    where
      here : ℕ
      here = target_of forest.erased.extremes (get_or forest.starts i 0) (tree_of forest i) row

      there : ℕ
      there = target_of forest.erased.extremes (get_or forest.starts j 0) (tree_of forest j) other

      -- what both tell from the field on
      from : List Letter → CType → Option (Option (List ℕ))
      from letters kind = option_map scalar_of (after_all decls letters (OfType kind))

      tails : (letters : List Letter) → from letters x.kind ≡ from letters y.kind
      tails letters =
          ap (λ o. option_map scalar_of (option_and_then (after_all decls letters) (option_map (λ (f : CField). OfType f.kind) o))) f ∙
          (sym (tail_field s so.within bits k letters) ∙ (equal (At bits (pos k) ∷ letters) ∙ (tail_field t so'.within bits k letters ∙
          sym (ap (λ o. option_map scalar_of (option_and_then (after_all decls letters) (option_map (λ (f : CField). OfType f.kind) o))) g))))

      number : ℕ → ℕ → ℕ
      number c d = scalar_number forest.erased.extremes.top forest.erased.extremes.bottom (node_at (tree_of forest c) d)

      below : (c d : ℕ) → IsNodeOf forest c d → number c d < length forest.names
      below c d cd = subst (λ l. number c d < l) (sym is.count) (telling.scalar_below forest is c d cd)

      no_name : (z : List ℕ) → Some None ≡ Some (Some z) → ⊥
      no_name z e = cc

      one_name : (y z : List ℕ) → Some (Some y) ≡ Some (Some z) → y ≡ z
      one_name y z e = some_is y z (some_is (Some y) (Some z) e)

      widths : (c d r : ℕ) → r ≡ bits → is_pointer (tree_of forest c) bits d ≡ false → is_pointer (tree_of forest c) r d ≡ false
      widths c d r e never = subst (λ z. is_pointer (tree_of forest c) z d ≡ false) (sym e) never

      by : (p q : CType) → IsTypeOf forest structs i bits row.node p → IsTypeOf forest structs j bits other.node q → ((letters : List Letter) → from letters p ≡ from letters q)
          → marks_from graph here w ≡ marks_from graph there w
      by _ _ (pointer c u e h uo) (pointer d v e' h' vo) same =
          let ip = telling.pointee_in forest is i row.node c a.0 h in
          let jp = telling.pointee_in forest is j other.node d b.0 h' in
          ap (λ z. marks_from graph z w) (telling.target_pointer forest is i c row (telling.pointer_true forest is i row.bits row.node c (a.2 ∙ e) h) h) ∙
          (onward i c u j d v ip jp uo vo (λ letters. same (Pointee ∷ letters)) ∙
          sym (ap (λ z. marks_from graph z w) (telling.target_pointer forest is j d other (telling.pointer_true forest is j other.bits other.node d (b.2 ∙ e') h') h')))
      by _ _ (pointer d u e h uo) (scalar never) same = absurd (no_name _ (same []))
      by _ _ (scalar never) (pointer d v e h vo) same = absurd (no_name _ (sym (same [])))
      by _ _ (scalar never) (scalar never') same =
          let one : number i row.node ≡ number j other.node = distinct (number i row.node) (number j other.node) (below i row.node a.0) (below j other.node b.0) (one_name _ _ (same [])) in
          ap (λ z. marks_from graph z w) (telling.target_scalar forest is i row (widths i row.node row.bits a.2 never) ∙ (one ∙ sym (telling.target_scalar forest is j other (widths j other.node other.bits b.2 never'))))

  same_words : (w : List Label) → IsOnward w
  same_words [] i n s j m t at to so so' equal = marked i n at ∙ sym (marked j m to)
    where
      marked : (a b : ℕ) → IsNodeOf forest a b → marks_from graph (place a b) [] ≡ Some (0, 0)
      marked a b ab =
          ap (option_map marks_of) (telling.node_there graph (place a b) (telling.in_graph forest is a b ab)) ∙ ap Some (telling.struct_marks forest is a b ab)
  same_words (Field bits (pos k) ∷ w) i n s j m t at to so so' equal =
      step i n at ∙ (same_steps w (same_words w) bits k i n s j m t at to so so' equal (fields_at s bits k) (fields_at t bits k) refl refl
      (row_at (fields_of (node_at (tree_of forest i) n)) bits k) (row_at (fields_of (node_at (tree_of forest j) m)) bits k)
      (telling.field_agrees forest is structs decls built i s n at so bits k) (telling.field_agrees forest is structs decls built j t m to so' bits k) ∙ sym (step j m to))
    where
      step : (a b : ℕ) → IsNodeOf forest a b → marks_from graph (place a b) (Field bits (pos k) ∷ w) ≡ option_and_then (λ c. marks_from graph c w)
          (option_map (target_of forest.erased.extremes (get_or forest.starts a 0) (tree_of forest a)) (row_at (fields_of (node_at (tree_of forest a) b)) bits k))
      step a b ab = telling.marks_step graph (place a b) (Field bits (pos k)) w ∙
          ap (option_and_then (λ c. marks_from graph c w)) ((is.trees a ab.tree).2.steps b ab.node (Field bits (pos k)))
  same_words (Field bits (negsuc k) ∷ w) i n s j m t at to so so' equal =
      telling.no_step forest is i n at (Field bits (negsuc k)) w refl ∙ sym (telling.no_step forest is j m to (Field bits (negsuc k)) w refl)
  same_words (In loc ∷ w) i n s j m t at to so so' equal = telling.no_step forest is i n at (In loc) w refl ∙ sym (telling.no_step forest is j m to (In loc) w refl)
  same_words (Out r ∷ w) i n s j m t at to so so' equal = telling.no_step forest is i n at (Out r) w refl ∙ sym (telling.no_step forest is j m to (Out r) w refl)
  same_words (Load ∷ w) i n s j m t at to so so' equal = telling.no_step forest is i n at Load w refl ∙ sym (telling.no_step forest is j m to Load w refl)
  same_words (Store ∷ w) i n s j m t at to so so' equal = telling.no_step forest is i n at Store w refl ∙ sym (telling.no_step forest is j m to Store w refl)

  -- structs that tell the same are one
  pub apart : (s t : ℕ) → s < length structs → t < length structs → AreEqual s t → s ≡ t
  apart s t less less' equal =
      let p : ℕ × ℕ = get_or structs s (0, 0) in
      let q : ℕ × ℕ = get_or structs t (0, 0) in
      let at = telling.stands_for forest is structs decls built s less in
      let to = telling.stands_for forest is structs decls built t less' in
      built.are.one s t less less' (telling.like_class forest is p.0 p.1 q.0 q.1 at to
      (λ w. same_words w p.0 p.1 s q.0 q.1 t at to (record { within = less; class = refl }) (record { within = less'; class = refl }) equal))
