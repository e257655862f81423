-- The fields of structs.
use Rattle.std.proofs.Common.{◌≡◌, ℕ, ◌+◌, ◌/◌, ◌≤◌, nat_le, cond, Bool, true, false, All, List, [], ◌∷◌, ◌++◌, length, get_or, refl, sym, ap, subst, ◌∙◌, arith, append-nil}
use Rattle.std.specs.List.{flat_map}
use Rattle.std.proofs.lemmas.Bool.Decides.{nat_tests}
use Rattle.std.proofs.lemmas.Grind.{flat_map-append}
use Rattle.std.proofs.lemmas.List.Elements.{All-nil, All-cons}
use Rattle.rt_tree.specs.Trees.{Stand, node_at}
use Rattle.rt_erase.specs.declared.row.Row.{Row}
use Rattle.rt_erase.specs.Rows.{fields_of, kept_from, row_of, sorted_with}
use Rattle.rt_cdecl.specs.declared.declarations.CType.{CType}
use Rattle.rt_cdecl.specs.declared.declarations.CField.{CField}
use Rattle.rt_cdecl.specs.declared.declarations.CStruct.{CStruct}
use Rattle.rt_cdecl.specs.GoodDecls.{LeadsBelow, FitFrom, IsStruct}
use Rattle.rt_cdecl.specs.Types.{IsField, bits_of, end_of}
use Rattle.rt_header.specs.Inside.Built.{Forest, Structs, tree_of, IsTypeOf, AreFieldsOf, IsStructBuilt}
use Rattle.rt_header.specs.Met.{struct_in, structs_of_fields}
use Rattle.rt_header.proofs.Growing.{stand_append}

pub type_bits : (forest : Forest) (structs : Structs) (i bits n : ℕ) (t : CType) → IsTypeOf forest structs i bits n t → bits_of t ≡ bits
type_bits forest structs i bits n t (IsTypeOf.pointer m s wide to is) = sym wide
type_bits forest structs i bits n t (IsTypeOf.scalar plain) = refl

pub type_leads : (forest : Forest) (structs : Structs) (i bits n : ℕ) (t : CType) → IsTypeOf forest structs i bits n t → LeadsBelow (length structs) t
type_leads forest structs i bits n t (IsTypeOf.pointer m s wide to is) = is.within
type_leads forest structs i bits n t (IsTypeOf.scalar plain) = tt

-- the fields so far, and one more
pub fields_pushed : (forest : Forest) (structs : Structs) (i : ℕ) (rows : List Row) (fields : List CField) (row : Row) (field : CField) → AreFieldsOf forest structs i rows fields → field.offset ≡ row.offset → IsTypeOf forest structs i row.bits row.node field.kind → AreFieldsOf forest structs i (rows ++ row ∷ []) (fields ++ field ∷ [])
fields_pushed forest structs i [] [] row field h e is = (e, is, tt)
fields_pushed forest structs i [] (g ∷ fields) row field h e is = absurd h
fields_pushed forest structs i (r ∷ rows) [] row field h e is = absurd h
fields_pushed forest structs i (r ∷ rows) (g ∷ fields) row field h e is = (h.0, h.1, fields_pushed forest structs i rows fields row field h.2 e is)

pub fields_lead : (forest : Forest) (structs : Structs) (i : ℕ) (rows : List Row) (fields : List CField) → AreFieldsOf forest structs i rows fields → All (λ (f : CField). LeadsBelow (length structs) f.kind) fields
fields_lead forest structs i [] [] h = All-nil (λ (f : CField). LeadsBelow (length structs) f.kind)
fields_lead forest structs i [] (field ∷ fields) h = absurd h
fields_lead forest structs i (row ∷ rows) [] h = absurd h
fields_lead forest structs i (row ∷ rows) (field ∷ fields) h =
    All-cons (λ (f : CField). LeadsBelow (length structs) f.kind) field fields (type_leads forest structs i row.bits row.node field.kind h.1) (fields_lead forest structs i rows fields h.2)

at_most : (m n : ℕ) → nat_le m n ≡ true → m ≤ n
at_most m n e = grind (arith, nat_tests)

-- rows that are kept don't overlap, nor do their fields
pub fields_fit : (forest : Forest) (structs : Structs) (i from : ℕ) (rows : List Row) (fields : List CField) → AreFieldsOf forest structs i (kept_from from rows) fields → FitFrom from fields
fields_fit forest structs i from [] [] h = tt
fields_fit forest structs i from [] (field ∷ fields) h = absurd h
fields_fit forest structs i from (row ∷ rows) fields h = by (nat_le from row.offset) refl fields h (λ k fs g. fields_fit forest structs i k rows fs g)
  where
    ends : (field : CField) → field.offset ≡ row.offset → bits_of field.kind ≡ row.bits → row.offset + row.bits / 8 ≡ end_of field
    ends field e f = cc

    by : (b : Bool) → nat_le from row.offset ≡ b → (fs : List CField) → AreFieldsOf forest structs i (cond b (row ∷ kept_from (row.offset + row.bits / 8) rows) (kept_from from rows)) fs
        → ((k : ℕ) (gs : List CField) → AreFieldsOf forest structs i (kept_from k rows) gs → FitFrom k gs) → FitFrom from fs
    by false e fs g rest = rest from fs g
    by true e [] g rest = absurd g
    by true e (field ∷ fs) g rest = (
      let le = at_most from row.offset e in let same = g.0 in omega arith,
      rest (end_of field) fs
          (subst (λ k. AreFieldsOf forest structs i (kept_from k rows) fs) (ends field g.0 (type_bits forest structs i row.bits row.node field.kind g.1)) g.2),
    )

-- the structs of the fields so far, and of one more
pub fields_stand : (before mid after : ℕ) (fields : List CField) (field : CField) → Stand before (structs_of_fields fields) mid → Stand mid (struct_in field.kind) after → Stand before (structs_of_fields (fields ++ field ∷ [])) after
fields_stand before mid after fields field h k =
    let e : structs_of_fields (fields ++ field ∷ []) ≡ structs_of_fields fields ++ struct_in field.kind =
    flat_map-append (λ (f : CField). struct_in f.kind) fields (field ∷ []) ∙ ap (λ (ns : List ℕ). structs_of_fields fields ++ ns) (append-nil (struct_in field.kind)) in
    subst (λ (ns : List ℕ). Stand before ns after) (sym e) (stand_append before mid after (structs_of_fields fields) (struct_in field.kind) h k)

pub is_built : (forest : Forest) (structs : Structs) (number : ℕ) (at : ℕ × ℕ) (struct : CStruct) → get_or structs number (0, 0) ≡ at → struct.number ≡ number → AreFieldsOf forest structs at.0 (fields_of (node_at (tree_of forest at.0) at.1)) struct.fields → IsStructBuilt forest structs number struct
is_built forest structs number at struct e numbered fields =
    let Has : ℕ × ℕ → Type 0 = λ p. AreFieldsOf forest structs p.0 (fields_of (node_at (tree_of forest p.0) p.1)) struct.fields in
    record { number = numbered; fields = subst Has (sym e) fields }

pub is_good : (forest : Forest) (structs : Structs) (at : ℕ × ℕ) (struct : CStruct) → All IsField struct.fields → AreFieldsOf forest structs at.0 (fields_of (node_at (tree_of forest at.0) at.1)) struct.fields → IsStruct (length structs) struct
is_good forest structs at struct good fields = record {
  fields = good;
  lead = fields_lead forest structs at.0 (fields_of (node_at (tree_of forest at.0) at.1)) struct.fields fields;
  fit = fields_fit forest structs at.0 0 (sorted_with [] (flat_map row_of (node_at (tree_of forest at.0) at.1).edges)) struct.fields fields;
}
