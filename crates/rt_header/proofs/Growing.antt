-- What is said of structs stays true when more structs are met.
use Rattle.std.proofs.Common.{◌≡◌, ℕ, ◌+◌, ◌<◌, ◌≤◌, inl, inr, List, [], ◌∷◌, ◌++◌, length, get_or, sym, ap, subst, ◌∙◌, arith, append_assoc, append-nil, length-append}
use Rattle.std.proofs.lemmas.List.{get_or_append_left}
use Rattle.rt_lines.specs.declared.label.Label.{Label}
use Rattle.rt_lines.specs.declared.label.Label.TheVariants.{In, Out}
use Rattle.rt_tree.specs.Trees.{Stand, node_at}
use Rattle.rt_erase.specs.declared.row.Row.{Row}
use Rattle.rt_erase.specs.Rows.{fields_of}
use Rattle.rt_cdecl.specs.declared.declarations.CType.{CType}
use Rattle.rt_cdecl.specs.declared.declarations.CType.TheVariants.{Unused, Scalar, Pointer}
use Rattle.rt_cdecl.specs.declared.declarations.CField.{CField}
use Rattle.rt_cdecl.specs.declared.declarations.CStruct.{CStruct}
use Rattle.rt_cdecl.specs.declared.declarations.CFunction.{CFunction}
use Rattle.rt_cdecl.specs.GoodDecls.{LeadsBelow, IsStruct, IsFunction, place_of}
use Rattle.rt_header.specs.Inside.Built.{Forest, Structs, tree_of, class_of, IsStructOf, IsTypeOf, AreFieldsOf, IsStructBuilt, IsPortOf, IsFunctionBuilt, HasMore}
use Rattle.rt_header.specs.Inside.Made.{AreMade}

-- a list begins itself
pub more_none : (structs : Structs) → HasMore structs structs
more_none structs = ([], sym (append-nil structs))

pub more_chain : (a b c : Structs) → HasMore a b → HasMore b c → HasMore a c
more_chain a b c m n = (m.0 ++ n.0, n.1 ∙ (ap (λ (s : Structs). s ++ n.0) m.1 ∙ append_assoc a m.0 n.0))

pub more_length : (old new : Structs) → HasMore old new → length old ≤ length new
more_length old new m = let e : length new ≡ length old + length m.0 = ap length m.1 ∙ length-append old m.0 in omega arith

-- a number has the struct that it had
pub more_same : (old new : Structs) → HasMore old new → (s : ℕ) → s < length old → get_or new s (0, 0) ≡ get_or old s (0, 0)
more_same old new m s less = ap (λ (x : Structs). get_or x s (0, 0)) m.1 ∙ get_or_append_left old m.0 (0, 0) s less

pub class_more : (forest : Forest) (old new : Structs) → HasMore old new → (s : ℕ) → s < length old → class_of forest (get_or new s (0, 0)).0 (get_or new s (0, 0)).1 ≡ class_of forest (get_or old s (0, 0)).0 (get_or old s (0, 0)).1
class_more forest old new m s less = ap (λ (at : ℕ × ℕ). class_of forest at.0 at.1) (more_same old new m s less)

pub stands_for_more : (forest : Forest) (old new : Structs) (i n s : ℕ) → HasMore old new → IsStructOf forest old i n s → IsStructOf forest new i n s
stands_for_more forest old new i n s m is = record {
  within = let le = more_length old new m in let less = is.within in omega arith;
  class = class_more forest old new m s is.within ∙ is.class;
}

pub type_more : (forest : Forest) (old new : Structs) (i bits n : ℕ) (t : CType) → HasMore old new → IsTypeOf forest old i bits n t → IsTypeOf forest new i bits n t
type_more forest old new i bits n t m (IsTypeOf.pointer k s wide to is) = IsTypeOf.pointer k s wide to (stands_for_more forest old new i k s m is)
type_more forest old new i bits n t m (IsTypeOf.scalar plain) = IsTypeOf.scalar plain

pub fields_more : (forest : Forest) (old new : Structs) (i : ℕ) (rows : List Row) (fields : List CField) → HasMore old new → AreFieldsOf forest old i rows fields → AreFieldsOf forest new i rows fields
fields_more forest old new i [] [] m h = tt
fields_more forest old new i [] (field ∷ fields) m h = h
fields_more forest old new i (row ∷ rows) [] m h = h
fields_more forest old new i (row ∷ rows) (field ∷ fields) m h =
    (h.0, type_more forest old new i row.bits row.node field.kind m h.1, fields_more forest old new i rows fields m h.2)

pub struct_more : (forest : Forest) (old new : Structs) (s : ℕ) (struct : CStruct) → HasMore old new → s < length old → IsStructBuilt forest old s struct → IsStructBuilt forest new s struct
struct_more forest old new s struct m less is =
    let Has : ℕ × ℕ → Type 0 = λ at. AreFieldsOf forest new at.0 (fields_of (node_at (tree_of forest at.0) at.1)) struct.fields in
    let at : ℕ × ℕ = get_or old s (0, 0) in
    record {
      number = is.number;
      fields = subst Has (sym (more_same old new m s less)) (fields_more forest old new at.0 (fields_of (node_at (tree_of forest at.0) at.1)) struct.fields m is.fields);
    }

pub port_more : (forest : Forest) (old new : Structs) (i : ℕ) (label : Label) (t : CType) → HasMore old new → IsPortOf forest old i label t → IsPortOf forest new i label t
port_more forest old new i label t m (IsPortOf.used n t' to is) = IsPortOf.used n t' to (type_more forest old new i 32 n t' m is)
port_more forest old new i label t m (IsPortOf.unused absent) = IsPortOf.unused absent

pub function_more : (forest : Forest) (old new : Structs) (i : ℕ) (function : CFunction) → HasMore old new → IsFunctionBuilt forest old i function → IsFunctionBuilt forest new i function
function_more forest old new i function m is = record {
  places = is.places;
  args = λ j less. port_more forest old new i (In (place_of j)) (get_or function.args j (place_of 0, Unused)).1 m (is.args j less);
  all = is.all;
  out0 = port_more forest old new i (Out 0) function.out0 m is.out0;
  out1 = port_more forest old new i (Out 1) function.out1 m is.out1;
}

pub leads_more : (count more : ℕ) (t : CType) → count ≤ more → LeadsBelow count t → LeadsBelow more t
leads_more count more Unused le h = tt
leads_more count more (Scalar name bits) le h = tt
leads_more count more (Pointer n) le h = omega arith

pub good_struct_more : (count more : ℕ) (struct : CStruct) → count ≤ more → IsStruct count struct → IsStruct more struct
good_struct_more count more struct le good = record {
  fields = good.fields;
  lead = λ k d less. leads_more count more (get_or struct.fields k d).kind le (good.lead k d less);
  fit = good.fit;
}

pub good_function_more : (count more : ℕ) (function : CFunction) → count ≤ more → IsFunction count function → IsFunction more function
good_function_more count more function le good = record {
  number = good.number;
  args = good.args;
  out0 = good.out0;
  out1 = good.out1;
  lead = λ k d less. leads_more count more _ le (good.lead k d less);
}

-- what was made is as it was
pub made_more : (forest : Forest) (old new : Structs) (made : List CStruct) → HasMore old new → AreMade forest old made → AreMade forest new made
made_more forest old new made m are = record {
  few = let le = more_length old new m in let few = are.few in omega arith;
  built = λ s less. struct_more forest old new s _ m (let few = are.few in omega arith) (are.built s less);
  good = λ k d less. good_struct_more (length old) (length new) _ (more_length old new m) (are.good k d less);
}

-- two lists of numbers one after the other
pub stand_append : (before mid after : ℕ) (xs ys : List ℕ) → Stand before xs mid → Stand mid ys after → Stand before (xs ++ ys) after
stand_append before mid after [] ys h k = subst (λ n. Stand n ys after) (sym h) k
stand_append before mid after (x ∷ xs) ys (inl h) k = inl (h.0, stand_append before mid after xs ys h.1 k)
stand_append before mid after (x ∷ xs) ys (inr h) k = inr (h.0, stand_append (before + 1) mid after xs ys h.1 k)
