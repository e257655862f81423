-- Structs that are met are reached.
use Rattle.std.proofs.Common.{◌≡◌, ℕ, suc, ◌+◌, ◌<◌, ◌≤◌, ◌⊎◌, ◌==◌, ◌&&◌, ◌/◌, inl, inr, pos, Bool, true, false, cond, Option, Some, None, List, [], ◌∷◌, ◌++◌, length, get_or, refl, sym, ap, subst, ◌∙◌, arith}
use Rattle.std.specs.Prelude.{Contains, find, All}
use Rattle.std.specs.Map.{lookup}
use Rattle.std.specs.Option.{option_map, option_and_then}
use Rattle.std.proofs.lemmas.Bool.{cases_order, eq-eqb, eqb-true}
use Rattle.std.proofs.lemmas.List.{get_or-append-add, get_or_append_left, length-append}
use Rattle.std.proofs.lemmas.List.Elements.{All-head, All-tail, Contains-append_cases}
use Rattle.rt_base.proofs.Lists.{Contains-none, Contains-here, Contains-there, Contains-cons_cases, Contains-flat_map_source}
use Rattle.rt_lines.specs.declared.label.Loc.{Loc}
use Rattle.rt_lines.specs.declared.label.Label.{Label}
use Rattle.rt_lines.specs.declared.label.Label.TheVariants.{In, Out}
use Rattle.rt_lines.specs.Equality.{loc_eq}
use Rattle.rt_tree.specs.Trees.{Stand}
use Rattle.rt_cdecl.specs.declared.declarations.CType.{CType}
use Rattle.rt_cdecl.specs.declared.declarations.CType.TheVariants.{Unused, Scalar, Pointer}
use Rattle.rt_cdecl.specs.declared.declarations.CField.{CField}
use Rattle.rt_cdecl.specs.declared.declarations.CStruct.{CStruct}
use Rattle.rt_cdecl.specs.declared.declarations.CFunction.{CFunction}
use Rattle.rt_cdecl.specs.declared.declarations.Decls.{Decls}
use Rattle.rt_cdecl.specs.Types.{bits_of, end_of}
use Rattle.rt_cdecl.specs.GoodDecls.{FitFrom, arg_types}
use Rattle.rt_cdecl.specs.HeaderWords.{Letter, Pointee, At, Spot, OfType, OfStruct, after, after_all, field_in, function_of, is_field, port_type, present, struct_of}
use Rattle.rt_header.proofs.Telling.{int_eq_pos}
use Rattle.rt_header.specs.Met.{AreMet, AreSearched, struct_in, structs_of_fields, structs_of_function}
use Rattle.rt_header.specs.Headers.{IsPointedTo}
use Rattle.rt_base.proofs.Numbers.{apart}

only_one : (m n : ℕ) → Contains (m ∷ []) n → m ≡ n
only_one m n c = elim (Contains-cons_cases m [] n c) [
  | inl e ↦ e
  | inr none ↦ absurd (Contains-none n none)
]

-- where letters lead one after another
after_more : (decls : Decls) (first second : List Letter) (spot : Spot) → after_all decls (first ++ second) spot ≡ option_and_then (after_all decls second) (after_all decls first spot)
after_more decls [] second spot = refl
after_more decls (letter ∷ first) second spot = by (after_more decls first second) (after decls letter spot)
  where
    by : ((next : Spot) → after_all decls (first ++ second) next ≡ option_and_then (after_all decls second) (after_all decls first next)) → (o : Option Spot)
        → option_and_then (after_all decls (first ++ second)) o ≡ option_and_then (after_all decls second) (option_and_then (after_all decls first) o)
    by more None = refl
    by more (Some next) = more next

-- numbers that stand are ends
stood : (P : ℕ → Type 0) (before : ℕ) (ends : List ℕ) (after : ℕ) → Stand before ends after → ((n : ℕ) → n < before → P n)
    → ((n : ℕ) → Contains ends n → P n) → (n : ℕ) → n < after → P n
stood P before [] after stand old new n less = old n (subst (λ k. n < k) (sym stand) less)
stood P before (end ∷ ends) after (inl (below, stand)) old new n less =
    stood P before ends after stand old (λ m c. new m (Contains-there end ends m c)) n less
stood P before (end ∷ ends) after (inr (is, stand)) old new n less =
    stood P (before + 1) ends after stand more (λ m c. new m (Contains-there end ends m c)) n less
  where
    more : (m : ℕ) → m < before + 1 → P m
    more m h = by (cases_order m before)
      where
        by : (m ≡ before) ⊎ ((m < before) ⊎ (before < m)) → P m
        by (inl e) = subst P (is ∙ sym e) (new end (Contains-here end ends))
        by (inr (inl l)) = old m l
        by (inr (inr g)) = absurd (omega (arith, g, h))

pub int_eq_field : (f g : CField) → is_field (bits_of g.kind) (pos g.offset) f ≡ ((f.offset == g.offset) && (bits_of f.kind == bits_of g.kind))
int_eq_field f g = ap (λ b. b && (bits_of f.kind == bits_of g.kind)) (int_eq_pos f.offset g.offset)

-- the field of an offset is the only one
pub only_field : (from : ℕ) (fields : List CField) → FitFrom from fields → (each : All (λ (f : CField). 0 < bits_of f.kind / 8) fields) → (field : CField) → Contains fields field
    → (from ≤ field.offset) × (find (is_field (bits_of field.kind) (pos field.offset)) fields ≡ Some field)
only_field from [] fit each field c = absurd (Contains-none field c)
only_field from (first ∷ fields) (begins, fit) each field c =
    by (Contains-cons_cases first fields field c) (only_field (end_of first) fields fit (All-tail (λ (f : CField). 0 < bits_of f.kind / 8) first fields each) field)
  where
    by : (first ≡ field) ⊎ Contains fields field
        → (Contains fields field → (end_of first ≤ field.offset) × (find (is_field (bits_of field.kind) (pos field.offset)) fields ≡ Some field)) → (from ≤ field.offset) × (find (is_field (bits_of field.kind) (pos field.offset)) (first ∷ fields) ≡ Some field)
    by (inl e) further = (
      subst (λ (f : CField). from ≤ f.offset) e begins,
      ap (λ b. cond b (Some first) (find (is_field (bits_of field.kind) (pos field.offset)) fields))
          (int_eq_field first field ∙ subst (λ (f : CField). ((f.offset == field.offset) && (bits_of f.kind == bits_of field.kind)) ≡ true) (sym e)
          (ap (λ b. b && (bits_of field.kind == bits_of field.kind)) (eq-eqb field.offset field.offset refl) ∙ eq-eqb (bits_of field.kind) (bits_of field.kind) refl)) ∙ ap Some e,
    )
    by (inr d) further =
        let rest = further d in
        let wide = All-head (λ (f : CField). 0 < bits_of f.kind / 8) first fields each in
        let past : first.offset < field.offset = omega (arith, rest.0, wide) in (
          omega (arith, begins, past),
          ap (λ b. cond b (Some first) (find (is_field (bits_of field.kind) (pos field.offset)) fields))
              (int_eq_field first field ∙ ap (λ b. b && (bits_of first.kind == bits_of field.kind)) (apart first.offset field.offset (λ e. omega (arith, e, past)))) ∙ rest.1,
        )

module _ (decls : Decls)
    (numbered : (s : ℕ) → s < length decls.structs → struct_of decls s ≡ Some (get_or decls.structs s (record { number = 0; fields = [] })))
    (fit : (s : ℕ) → s < length decls.structs → FitFrom 0 (get_or decls.structs s (record { number = 0; fields = [] })).fields)
    (wide : (s : ℕ) → s < length decls.structs → All (λ (f : CField). 0 < bits_of f.kind / 8) (get_or decls.structs s (record { number = 0; fields = [] })).fields)
    (called : (f : CFunction) → Contains decls.functions f → function_of decls f.number ≡ Some f)
    (passed : (f : CFunction) → Contains decls.functions f → (t : CType) → Contains (arg_types f.args) t → (loc : Loc) × (lookup (loc_eq loc) f.args ≡ Some t)) where
  abbrev no_struct : CStruct
  no_struct = record { number = 0; fields = [] }

  -- the pointers of a struct that is reached lead to ones that are
  field_reached : (s : ℕ) → s < length decls.structs → IsPointedTo decls s → (n : ℕ) → Contains (structs_of_fields (get_or decls.structs s no_struct).fields) n → IsPointedTo decls n
  field_reached s less to n c =
      let (field, is, there) = Contains-flat_map_source (λ (f : CField). struct_in f.kind) (get_or decls.structs s no_struct).fields n c in
      by field is field.kind refl there
    where
      by : (field : CField) → Contains (get_or decls.structs s no_struct).fields field → (t : CType) → t ≡ field.kind → Contains (struct_in t) n → IsPointedTo decls n
      by field is Unused e c = absurd (Contains-none n c)
      by field is (Scalar name bits) e c = absurd (Contains-none n c)
      by field is (Pointer m) e c = record {
        number = to.number;
        word = record { port = to.word.port; letters = to.word.letters ++ At 32 (pos field.offset) ∷ Pointee ∷ [] };
        leads = steps (option_and_then (λ f. port_type f to.word.port) (function_of decls to.number)) to.leads;
      }
        where
          width : bits_of field.kind ≡ 32
          width = ap bits_of (sym e)

          found : find (is_field 32 (pos field.offset)) (get_or decls.structs s no_struct).fields ≡ Some field
          found = subst (λ w. find (is_field w (pos field.offset)) (get_or decls.structs s no_struct).fields ≡ Some field) width
              (only_field 0 (get_or decls.structs s no_struct).fields (fit s less) (wide s less) field is).1

          last : after_all decls (At 32 (pos field.offset) ∷ Pointee ∷ []) (OfStruct s) ≡ Some (OfStruct n)
          last =
              ap (λ o. option_and_then (after_all decls (Pointee ∷ [])) (option_and_then (λ struct. field_in struct 32 (pos field.offset)) o)) (numbered s less) ∙
              (ap (λ o. option_and_then (after_all decls (Pointee ∷ [])) (option_map (λ (f : CField). OfType f.kind) o)) found ∙
              (ap (λ t. after_all decls (Pointee ∷ []) (OfType t)) (sym e) ∙ ap (λ k. Some (OfStruct k)) (only_one m n c)))

          steps : (o : Option Spot) → option_and_then (after_all decls to.word.letters) o ≡ Some (OfStruct s)
              → option_and_then (after_all decls (to.word.letters ++ At 32 (pos field.offset) ∷ Pointee ∷ [])) o ≡ Some (OfStruct n)
          steps None f = absurd (no_spot f)
            where
              no_spot : None ≡ Some (OfStruct s) → ⊥
              no_spot f = cc
          steps (Some spot) f =
              after_more decls to.word.letters (At 32 (pos field.offset) ∷ Pointee ∷ []) spot ∙
              (ap (option_and_then (after_all decls (At 32 (pos field.offset) ∷ Pointee ∷ []))) f ∙ last)

  -- a pointer of a port leads to a struct that is reached
  port_reached : (f : CFunction) → Contains decls.functions f → (l : Label) (n : ℕ) → port_type f l ≡ Some (OfType (Pointer n)) → IsPointedTo decls n
  port_reached f is l n e = record {
    number = f.number;
    word = record { port = l; letters = Pointee ∷ [] };
    leads = ap (λ o. option_and_then (after_all decls (Pointee ∷ [])) (option_and_then (λ g. port_type g l) o)) (called f is) ∙
        ap (option_and_then (after_all decls (Pointee ∷ []))) e;
  }

  function_reached : (f : CFunction) → Contains decls.functions f → (n : ℕ) → Contains (structs_of_function f) n → IsPointedTo decls n
  function_reached f is n c =
      let (t, there, in_t) = Contains-flat_map_source struct_in (arg_types f.args ++ f.out0 ∷ f.out1 ∷ []) n c in
      by t in_t (Contains-append_cases (arg_types f.args) (f.out0 ∷ f.out1 ∷ []) t there)
    where
      pointed : (t : CType) → Contains (struct_in t) n → t ≡ Pointer n
      pointed Unused c = absurd (Contains-none n c)
      pointed (Scalar name bits) c = absurd (Contains-none n c)
      pointed (Pointer m) c = ap Pointer (only_one m n c)

      result : (t : CType) → Contains (f.out0 ∷ f.out1 ∷ []) t → (f.out0 ≡ t) ⊎ (f.out1 ≡ t)
      result t c = elim (Contains-cons_cases f.out0 (f.out1 ∷ []) t c) [
        | inl e ↦ inl e
        | inr d ↦ inr (elim (Contains-cons_cases f.out1 [] t d) [ inl e ↦ e | inr none ↦ absurd (Contains-none t none) ])
      ]

      by : (t : CType) → Contains (struct_in t) n → Contains (arg_types f.args) t ⊎ Contains (f.out0 ∷ f.out1 ∷ []) t → IsPointedTo decls n
      by t in_t (inl arg) =
          let (loc, at) = passed f is t arg in
          port_reached f is (In loc) n (ap (option_and_then present) at ∙ ap present (pointed t in_t))
      by t in_t (inr out) = elim (result t out) [
        | inl e ↦ port_reached f is (Out 0) n (ap present (e ∙ pointed t in_t))
        | inr e ↦ port_reached f is (Out 1) n (ap present (e ∙ pointed t in_t))
      ]

  -- structs that are searched
  searched : (n before : ℕ) (own : List CStruct) → AreSearched n before own → ((m : ℕ) → m < before → IsPointedTo decls m)
      → ((k : ℕ) → k < length own → (n + k < length decls.structs) × (get_or decls.structs (n + k) no_struct ≡ get_or own k no_struct))
      → (m : ℕ) → m < n + length own → IsPointedTo decls m
  searched n before [] end old own_is m less = old m (let e : before ≡ n = end in omega (arith, e, less))
  searched n before (struct ∷ own) (below, after, stand, rest) old own_is m less =
      let here = own_is 0 (omega arith) in
      let at : n < length decls.structs = let h = here.0 in omega (arith, h) in
      let same : get_or decls.structs n no_struct ≡ struct = ap (λ k. get_or decls.structs k no_struct) (omega arith) ∙ here.1 in
      searched (n + 1) after own rest
      (stood (IsPointedTo decls) before (structs_of_fields struct.fields) after stand old
      (λ k c. field_reached n at (old n below) k (subst (λ (s : CStruct). Contains (structs_of_fields s.fields) k) (sym same) c)))
      (λ k h. let next = own_is (suc k) (omega (arith, h)) in
      (let l = next.0 in omega (arith, l), ap (λ i. get_or decls.structs i no_struct) (omega arith) ∙ next.1))
      m (omega (arith, less))

  -- structs that are met
  pub met_reached : (n : ℕ) (structs : List CStruct) (functions : List CFunction) → AreMet n structs functions
      → ((f : CFunction) → Contains functions f → Contains decls.functions f) → ((m : ℕ) → m < n → IsPointedTo decls m)
      → (n + length structs ≡ length decls.structs) → ((k : ℕ) → k < length structs → get_or decls.structs (n + k) no_struct ≡ get_or structs k no_struct)
      → (m : ℕ) → m < length decls.structs → IsPointedTo decls m
  met_reached n structs [] none called_in old whole are m less =
      old m (let e : length structs ≡ 0 = ap length none in omega (arith, e, whole, less))
  met_reached n structs (f ∷ functions) (own, rest, split, after, stand, search, more) called_in old whole are m less =
      let long : length structs ≡ length own + length rest = ap length split ∙ length-append own rest in
      let first : (k : ℕ) → k < length own → get_or structs k no_struct ≡ get_or own k no_struct =
      λ k h. ap (λ xs. get_or xs k no_struct) split ∙ get_or_append_left own rest no_struct k h in
      met_reached (n + length own) rest functions more (λ g c. called_in g (Contains-there f functions g c))
      (searched n after own search
      (stood (IsPointedTo decls) n (structs_of_function f) after stand old (function_reached f (called_in f (Contains-here f functions))))
      (λ k h. (omega (arith, h, long, whole), are k (omega (arith, h, long)) ∙ first k h)))
      (omega (arith, long, whole))
      (λ k h. ap (λ i. get_or decls.structs i no_struct) (omega arith) ∙ (are (length own + k) (omega (arith, h, long)) ∙
      (ap (λ xs. get_or xs (length own + k) no_struct) split ∙ get_or-append-add own rest k no_struct)))
      m less
