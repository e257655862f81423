-- A text is that of one list of declarations alone.
use Rattle.std.proofs.Common.{◌≡◌, ℕ, zero, suc, ◌+◌, ◌-◌, ◌/◌, ◌<◌, ◌≤◌, ◌^◌, ◌==◌, List, [], ◌∷◌, ◌++◌, Bool, true, false, if◌then◌else◌, All, map, length, refl, ap, sym, subst, ◌∙◌, inl, inr, ◌⊎◌, arith, append_assoc}
use Rattle.std.specs.List.{flat_map}
use Rattle.std.proofs.lemmas.List.{append_cancel_left}
use Rattle.std.proofs.lemmas.List.Elements.{All-head, All-tail, All-cons, All-nil, All-append, All-map}
use Rattle.rt_base.specs.First.{entries}
use Rattle.rt_lines.specs.declared.label.Loc.{Loc}
use Rattle.rt_texts.specs.Goods.{IsNumber}
use Rattle.rt_texts.proofs.Cuts.{one_cut}
use Rattle.rt_cdecl.specs.declared.declarations.CType.{CType}
use Rattle.rt_cdecl.specs.declared.declarations.CType.TheVariants.{Unused, Scalar, Pointer}
use Rattle.rt_cdecl.specs.declared.declarations.CField.{CField}
use Rattle.rt_cdecl.specs.declared.declarations.CStruct.{CStruct}
use Rattle.rt_cdecl.specs.declared.declarations.CFunction.{CFunction}
use Rattle.rt_cdecl.specs.declared.declarations.Decls.{Decls}
use Rattle.rt_cdecl.specs.Types.{bits_of, end_of, IsType, IsWide, IsPresent, IsField}
use Rattle.rt_cdecl.specs.Rows.{Row, Typedef, Named, Opened, Gap, Member, Closed, Pair, Half, Both, row_text, rows_text}
use Rattle.rt_cdecl.specs.Texts.{gap_rows, fields_rows, struct_rows, pair_rows, returns_of, stated_row, function_rows, decls_rows}
use Rattle.rt_cdecl.specs.GoodDecls.{IsStruct, IsFunction, IsGoodDecls, struct_numbers}
use Rattle.rt_cdecl.specs.Inside.GoodRows.{IsReturned, IsRow}
use Rattle.rt_cdecl.specs.Laws.{OneHeader}
use Rattle.rt_cdecl.proofs.Clear.{row_clear}
use Rattle.rt_cdecl.proofs.OneRow.{one_row}

-- lines from their text
no_empty : (a b : List ℕ) → a ++ 10 ∷ b ≡ [] → ⊥
no_empty [] b same = cc
no_empty (x ∷ a) b same = cc

pub rows_text-cons : (row : Row) (rows : List Row) → rows_text (row ∷ rows) ≡ row_text row ++ 10 ∷ rows_text rows
rows_text-cons row rows = append_assoc (row_text row) (10 ∷ []) (rows_text rows)

pub one_text : (rows more : List Row) → All IsRow rows → All IsRow more → rows_text rows ≡ rows_text more → rows ≡ more
one_text [] [] g h same = refl
one_text [] (r ∷ more) g h same = absurd (no_empty (row_text r) (rows_text more) (sym (rows_text-cons r more) ∙ sym same))
one_text (q ∷ rows) [] g h same = absurd (no_empty (row_text q) (rows_text rows) (sym (rows_text-cons q rows) ∙ same))
one_text (q ∷ rows) (r ∷ more) g h same =
    let here : IsRow q = All-head IsRow q rows g in
    let there : IsRow r = All-head IsRow r more h in
    let cut = one_cut 10 (row_text q) (10 ∷ rows_text rows) (row_text r) (10 ∷ rows_text more) (sym (rows_text-cons q rows) ∙ (same ∙ rows_text-cons r more)) (row_clear q here) refl (row_clear r there) refl in
    let first : q ≡ r = one_row q r here there cut.0 in
    let rest : rows ≡ more = one_text rows more (All-tail IsRow q rows g) (All-tail IsRow r more h) (append_cancel_left (10 ∷ []) (rows_text rows) (rows_text more) cut.1) in
    λ i. first i ∷ rest i

-- lines of good declarations are good
gap_rows-good : (from to : ℕ) → from < 2 ^ 32 → to < 2 ^ 31 → All IsRow (gap_rows from to)
gap_rows-good from to small less = by (from == to)
  where
    by : (t : Bool) → All IsRow (if t then [] else Gap from (to - from) ∷ [])
    by true = All-nil IsRow
    by false = All-cons IsRow (Gap from (to - from)) [] (omega arith, omega arith) (All-nil IsRow)

-- a field ends below 2^32
end_small : (field : CField) → IsField field → end_of field < 2 ^ 32
end_small field good = by field.kind good.0 good.2
  where
    by : (t : CType) → IsType t → field.offset < 2 ^ 31 → field.offset + bits_of t / 8 < 2 ^ 32
    by Unused g h = omega arith
    by (Scalar name bits) (named, inl e) h = omega arith
    by (Scalar name bits) (named, inr (inl e)) h = omega arith
    by (Scalar name bits) (named, inr (inr e)) h = omega arith
    by (Pointer n) g h = omega arith

fields_rows-good : (from : ℕ) (fields : List CField) → from < 2 ^ 32 → All IsField fields → All IsRow (fields_rows from fields)
fields_rows-good from [] small good = All-nil IsRow
fields_rows-good from (field ∷ fields) small good =
    let here : IsField field = All-head IsField field fields good in
    All-append IsRow (gap_rows from field.offset) (Member field ∷ fields_rows (end_of field) fields) (gap_rows-good from field.offset small here.2)
    (All-cons IsRow (Member field) (fields_rows (end_of field) fields) here (fields_rows-good (end_of field) fields (end_small field here) (All-tail IsField field fields good)))

struct_rows-good : (count : ℕ) (struct : CStruct) → IsNumber struct.number → IsStruct count struct → All IsRow (struct_rows struct)
struct_rows-good count struct small good =
    All-cons IsRow (Opened struct.number) (fields_rows 0 struct.fields ++ Closed ∷ []) small
    (All-append IsRow (fields_rows 0 struct.fields) (Closed ∷ []) (fields_rows-good 0 struct.fields (omega arith) good.fields) (All-cons IsRow Closed [] tt (All-nil IsRow)))

structs_rows-good : (count : ℕ) (structs : List CStruct) → All IsNumber (struct_numbers structs) → All (IsStruct count) structs → All IsRow (flat_map struct_rows structs)
structs_rows-good count [] small good = All-nil IsRow
structs_rows-good count (struct ∷ structs) small good =
    All-append IsRow (struct_rows struct) (flat_map struct_rows structs)
    (struct_rows-good count struct (All-head IsNumber struct.number (struct_numbers structs) small) (All-head (IsStruct count) struct structs good))
    (structs_rows-good count structs (All-tail IsNumber struct.number (struct_numbers structs) small) (All-tail (IsStruct count) struct structs good))

named_rows-good : (structs : List CStruct) → All IsNumber (struct_numbers structs) → All IsRow (map (λ (s : CStruct). Named s.number) structs)
named_rows-good [] small = All-nil IsRow
named_rows-good (struct ∷ structs) small =
    All-cons IsRow (Named struct.number) (map (λ (s : CStruct). Named s.number) structs) (All-head IsNumber struct.number (struct_numbers structs) small)
    (named_rows-good structs (All-tail IsNumber struct.number (struct_numbers structs) small))

-- the lines of a pair of results, of which that in a1 is there
abbrev pub two_rows : ℕ → CType → CType → List Row
two_rows number out0 out1 = Pair number ∷ Half 0 out0 ∷ Half 1 out1 ∷ Closed ∷ []

two_rows-good : (count : ℕ) (f : CFunction) → IsFunction count f → All IsRow (two_rows f.number f.out0 f.out1)
two_rows-good count f good =
    All-cons IsRow (Pair f.number) (Half 0 f.out0 ∷ Half 1 f.out1 ∷ Closed ∷ []) good.number
    (All-cons IsRow (Half 0 f.out0) (Half 1 f.out1 ∷ Closed ∷ []) (omega arith, good.out0)
    (All-cons IsRow (Half 1 f.out1) (Closed ∷ []) (omega arith, good.out1) (All-cons IsRow Closed [] tt (All-nil IsRow))))

-- a type is that of nothing, or of something
pub nothing_or : (t : CType) → (t ≡ Unused) ⊎ IsPresent t
nothing_or Unused = inl refl
nothing_or (Scalar name bits) = inr tt
nothing_or (Pointer n) = inr tt

pub pair_rows-two : (number : ℕ) (out0 out1 : CType) → IsPresent out1 → pair_rows number out0 out1 ≡ two_rows number out0 out1
pair_rows-two number out0 Unused here = absurd here
pair_rows-two number out0 (Scalar name bits) here = refl
pair_rows-two number out0 (Pointer n) here = refl

pub returns_of-both : (out0 out1 : CType) → IsPresent out1 → returns_of out0 out1 ≡ Both
returns_of-both out0 Unused here = absurd here
returns_of-both out0 (Scalar name bits) here = refl
returns_of-both out0 (Pointer n) here = refl

pair_rows-good : (count : ℕ) (f : CFunction) → IsFunction count f → All IsRow (pair_rows f.number f.out0 f.out1)
pair_rows-good count f good =
    elim (nothing_or f.out1) [
      | inl none ↦ subst (λ t. All IsRow (pair_rows f.number f.out0 t)) (sym none) (All-nil IsRow)
      | inr some ↦ subst (All IsRow) (sym (pair_rows-two f.number f.out0 f.out1 some)) (two_rows-good count f good)
    ]

returns_of-good : (out0 out1 : CType) → IsWide out0 → IsReturned (returns_of out0 out1)
returns_of-good out0 (Scalar name bits) good = tt
returns_of-good out0 (Pointer n) good = tt
returns_of-good Unused Unused good = tt
returns_of-good (Scalar name bits) Unused good = (good, tt)
returns_of-good (Pointer n) Unused good = (good, tt)

function_rows-good : (count : ℕ) (f : CFunction) → IsFunction count f → All IsRow (function_rows f)
function_rows-good count f good =
    All-append IsRow (pair_rows f.number f.out0 f.out1) (stated_row f ∷ []) (pair_rows-good count f good)
    (All-cons IsRow (stated_row f) [] (returns_of-good f.out0 f.out1 good.out0, good.number, good.args) (All-nil IsRow))

functions_rows-good : (count : ℕ) (functions : List CFunction) → All (IsFunction count) functions → All IsRow (flat_map function_rows functions)
functions_rows-good count [] good = All-nil IsRow
functions_rows-good count (f ∷ functions) good =
    All-append IsRow (function_rows f) (flat_map function_rows functions) (function_rows-good count f (All-head (IsFunction count) f functions good))
    (functions_rows-good count functions (All-tail (IsFunction count) f functions good))

entries_small : (i n : ℕ) → i + n ≤ 2 ^ 32 → All IsNumber (entries (λ k. k) i n)
entries_small i zero few = All-nil IsNumber
entries_small i (suc n) few = All-cons IsNumber i (entries (λ k. k) (i + 1) n) (omega arith) (entries_small (i + 1) n (omega arith))

numbers_small : (decls : Decls) → IsGoodDecls decls → All IsNumber (struct_numbers decls.structs)
numbers_small decls good = subst (All IsNumber) (sym good.numbered) (entries_small 0 (length decls.structs) (let few = good.few in omega arith))

pub decls_rows-good : (decls : Decls) → IsGoodDecls decls → All IsRow (decls_rows decls)
decls_rows-good decls good =
    let small = numbers_small decls good in
    let functions = functions_rows-good (length decls.structs) decls.functions good.functions in
    let structs = structs_rows-good (length decls.structs) decls.structs small good.structs in
    let names = named_rows-good decls.structs small in
    All-append IsRow (map Typedef decls.typedefs) _ (All-map IsRow Typedef decls.typedefs good.typedefs)
    (All-append IsRow (map (λ (s : CStruct). Named s.number) decls.structs) _ names
    (All-append IsRow (flat_map struct_rows decls.structs) _ structs functions))

-- lists of lines are cut in one way
abbrev NoTypedef : List Row → Type 0
NoTypedef [] = Unit {0}
NoTypedef (Typedef t ∷ rows) = ⊥
NoTypedef (row ∷ rows) = Unit {0}

abbrev NoNamed : List Row → Type 0
NoNamed [] = Unit {0}
NoNamed (Named n ∷ rows) = ⊥
NoNamed (row ∷ rows) = Unit {0}

abbrev NoOpened : List Row → Type 0
NoOpened [] = Unit {0}
NoOpened (Opened n ∷ rows) = ⊥
NoOpened (row ∷ rows) = Unit {0}

head_no : (Is : List Row → Type 0) (row : Row) (rest rows : List Row) → row ∷ rest ≡ rows → (Is (row ∷ rest) → ⊥) → Is rows → ⊥
head_no Is row rest rows same none good = none (subst Is (sym same) good)

one_typedefs : (ts us : List CType) (a b : List Row) → NoTypedef a → NoTypedef b → map Typedef ts ++ a ≡ map Typedef us ++ b → (ts ≡ us) × (a ≡ b)
one_typedefs [] [] a b g h same = (refl, same)
one_typedefs [] (u ∷ us) a b g h same = absurd (head_no NoTypedef (Typedef u) (map Typedef us ++ b) a (sym same) (λ x. x) g)
one_typedefs (t ∷ ts) [] a b g h same = absurd (head_no NoTypedef (Typedef t) (map Typedef ts ++ a) b same (λ x. x) h)
one_typedefs (t ∷ ts) (u ∷ us) a b g h same =
    let heads : t ≡ u = cc in
    let rest = one_typedefs ts us a b g h (cc) in
    ((λ i. heads i ∷ rest.0 i), rest.1)

abbrev named_rows : List CStruct → List Row
named_rows structs = map (λ (s : CStruct). Named s.number) structs

one_names : (ss us : List CStruct) (a b : List Row) → NoNamed a → NoNamed b → named_rows ss ++ a ≡ named_rows us ++ b → a ≡ b
one_names [] [] a b g h same = same
one_names [] (u ∷ us) a b g h same = absurd (head_no NoNamed (Named u.number) (named_rows us ++ b) a (sym same) (λ x. x) g)
one_names (s ∷ ss) [] a b g h same = absurd (head_no NoNamed (Named s.number) (named_rows ss ++ a) b same (λ x. x) h)
one_names (s ∷ ss) (u ∷ us) a b g h same = one_names ss us a b g h (cc)

-- fields
one_gap : (from to into : ℕ) (f h : CField) (a b : List Row) → gap_rows from to ++ Member f ∷ a ≡ gap_rows from into ++ Member h ∷ b → (f ≡ h) × (a ≡ b)
one_gap from to into f h a b = by (from == to) (from == into)
  where
    by : (s t : Bool) → (if s then [] else Gap from (to - from) ∷ []) ++ Member f ∷ a ≡ (if t then [] else Gap from (into - from) ∷ []) ++ Member h ∷ b → (f ≡ h) × (a ≡ b)
    by true true same = ((cc), (cc))
    by true false same = cc
    by false true same = cc
    by false false same = ((cc), (cc))

no_closed : (from to : ℕ) (f : CField) (a b : List Row) → gap_rows from to ++ Member f ∷ a ≡ Closed ∷ b → ⊥
no_closed from to f a b = by (from == to)
  where
    by : (s : Bool) → (if s then [] else Gap from (to - from) ∷ []) ++ Member f ∷ a ≡ Closed ∷ b → ⊥
    by true same = cc
    by false same = cc

fields_rows-cons : (from : ℕ) (f : CField) (fields : List CField) (a : List Row) → fields_rows from (f ∷ fields) ++ a ≡ gap_rows from f.offset ++ Member f ∷ (fields_rows (end_of f) fields ++ a)
fields_rows-cons from f fields a = append_assoc (gap_rows from f.offset) (Member f ∷ fields_rows (end_of f) fields) a

one_fields : (from : ℕ) (fs gs : List CField) (a b : List Row) → fields_rows from fs ++ Closed ∷ a ≡ fields_rows from gs ++ Closed ∷ b → (fs ≡ gs) × (a ≡ b)
one_fields from [] [] a b same = (refl, cc)
one_fields from [] (g ∷ gs) a b same = absurd (no_closed from g.offset g (fields_rows (end_of g) gs ++ Closed ∷ b) a (sym (fields_rows-cons from g gs (Closed ∷ b)) ∙ sym same))
one_fields from (f ∷ fs) [] a b same = absurd (no_closed from f.offset f (fields_rows (end_of f) fs ++ Closed ∷ a) b (sym (fields_rows-cons from f fs (Closed ∷ a)) ∙ same))
one_fields from (f ∷ fs) (g ∷ gs) a b same =
    let first = one_gap from f.offset g.offset f g (fields_rows (end_of f) fs ++ Closed ∷ a) (fields_rows (end_of g) gs ++ Closed ∷ b) (sym (fields_rows-cons from f fs (Closed ∷ a)) ∙ (same ∙ fields_rows-cons from g gs (Closed ∷ b))) in
    let rest = one_fields (end_of f) fs gs a b (first.1 ∙ ap (λ x. fields_rows (end_of x) gs ++ Closed ∷ b) (sym first.0)) in
    ((λ i. first.0 i ∷ rest.0 i), rest.1)

-- structs
struct_rows-cons : (s : CStruct) (rest : List Row) → struct_rows s ++ rest ≡ Opened s.number ∷ (fields_rows 0 s.fields ++ Closed ∷ rest)
struct_rows-cons s rest = ap (λ r. Opened s.number ∷ r) (append_assoc (fields_rows 0 s.fields) (Closed ∷ []) rest)

structs_rows-cons : (s : CStruct) (ss : List CStruct) (rest : List Row) → flat_map struct_rows (s ∷ ss) ++ rest ≡ Opened s.number ∷ (fields_rows 0 s.fields ++ Closed ∷ (flat_map struct_rows ss ++ rest))
structs_rows-cons s ss rest = append_assoc (struct_rows s) (flat_map struct_rows ss) rest ∙ struct_rows-cons s (flat_map struct_rows ss ++ rest)

one_structs : (ss us : List CStruct) (a b : List Row) → NoOpened a → NoOpened b → flat_map struct_rows ss ++ a ≡ flat_map struct_rows us ++ b → (ss ≡ us) × (a ≡ b)
one_structs [] [] a b g h same = (refl, same)
one_structs [] (u ∷ us) a b g h same = absurd (head_no NoOpened (Opened u.number) _ a (sym (structs_rows-cons u us b) ∙ sym same) (λ x. x) g)
one_structs (s ∷ ss) [] a b g h same = absurd (head_no NoOpened (Opened s.number) _ b (sym (structs_rows-cons s ss a) ∙ same) (λ x. x) h)
one_structs (s ∷ ss) (u ∷ us) a b g h same =
    let whole : Opened s.number ∷ (fields_rows 0 s.fields ++ Closed ∷ (flat_map struct_rows ss ++ a)) ≡ Opened u.number ∷ (fields_rows 0 u.fields ++ Closed ∷ (flat_map struct_rows us ++ b)) = sym (structs_rows-cons s ss a) ∙ (same ∙ structs_rows-cons u us b) in
    let number : s.number ≡ u.number = cc in
    let tails : fields_rows 0 s.fields ++ Closed ∷ (flat_map struct_rows ss ++ a) ≡ fields_rows 0 u.fields ++ Closed ∷ (flat_map struct_rows us ++ b) = cc in
    let fields = one_fields 0 s.fields u.fields (flat_map struct_rows ss ++ a) (flat_map struct_rows us ++ b) tails in
    let rest = one_structs ss us a b g h fields.1 in
    ((λ i. record { number = number i; fields = fields.0 i } ∷ rest.0 i), rest.1)

-- functions
one_result : (out0 out1 : CType) → returns_of out0 Unused ≡ returns_of out1 Unused → out0 ≡ out1
one_result Unused Unused same = refl
one_result Unused (Scalar name bits) same = cc
one_result Unused (Pointer n) same = cc
one_result (Scalar name bits) Unused same = cc
one_result (Pointer n) Unused same = cc
one_result (Scalar name bits) (Scalar other width) same = cc
one_result (Scalar name bits) (Pointer n) same = cc
one_result (Pointer n) (Scalar name bits) same = cc
one_result (Pointer n) (Pointer m) same = cc

-- the parts of a function
abbrev function_with : ℕ → List (Loc × CType) → CType → CType → CFunction
function_with number args out0 out1 = record { number = number; args = args; out0 = out0; out1 = out1 }

one_single : (f h : CFunction) (a b : List Row) → f.out1 ≡ Unused → h.out1 ≡ Unused → stated_row f ∷ a ≡ stated_row h ∷ b → (f ≡ h) × (a ≡ b)
one_single f h a b none off same =
    let returns : returns_of f.out0 f.out1 ≡ returns_of h.out0 h.out1 = cc in
    let number : f.number ≡ h.number = cc in
    let args : f.args ≡ h.args = cc in
    let out0 : f.out0 ≡ h.out0 = one_result f.out0 h.out0 (ap (returns_of f.out0) (sym none) ∙ (returns ∙ ap (returns_of h.out0) off)) in
    let out1 : f.out1 ≡ h.out1 = none ∙ sym off in
    ((λ i. function_with (number i) (args i) (out0 i) (out1 i)), cc)

one_double : (f h : CFunction) (a b : List Row) → two_rows f.number f.out0 f.out1 ++ stated_row f ∷ a ≡ two_rows h.number h.out0 h.out1 ++ stated_row h ∷ b → (f ≡ h) × (a ≡ b)
one_double f h a b same =
    let number : f.number ≡ h.number = cc in
    let out0 : f.out0 ≡ h.out0 = cc in
    let out1 : f.out1 ≡ h.out1 = cc in
    let args : f.args ≡ h.args = cc in
    ((λ i. function_with (number i) (args i) (out0 i) (out1 i)), cc)

function_rows-cons : (f : CFunction) (rest : List Row) → function_rows f ++ rest ≡ pair_rows f.number f.out0 f.out1 ++ stated_row f ∷ rest
function_rows-cons f rest = append_assoc (pair_rows f.number f.out0 f.out1) (stated_row f ∷ []) rest

pub single_rows : (f : CFunction) (rest : List Row) → f.out1 ≡ Unused → function_rows f ++ rest ≡ stated_row f ∷ rest
single_rows f rest none = function_rows-cons f rest ∙ ap (λ t. pair_rows f.number f.out0 t ++ stated_row f ∷ rest) none

pub double_rows : (f : CFunction) (rest : List Row) → IsPresent f.out1 → function_rows f ++ rest ≡ two_rows f.number f.out0 f.out1 ++ stated_row f ∷ rest
double_rows f rest some = function_rows-cons f rest ∙ ap (λ r. r ++ stated_row f ∷ rest) (pair_rows-two f.number f.out0 f.out1 some)

one_function : (f h : CFunction) (a b : List Row) → function_rows f ++ a ≡ function_rows h ++ b → (f ≡ h) × (a ≡ b)
one_function f h a b same = by (nothing_or f.out1) (nothing_or h.out1)
  where
    by : (f.out1 ≡ Unused) ⊎ IsPresent f.out1 → (h.out1 ≡ Unused) ⊎ IsPresent h.out1 → (f ≡ h) × (a ≡ b)
    by (inl none) (inl off) = one_single f h a b none off (sym (single_rows f a none) ∙ (same ∙ single_rows h b off))
    by (inl none) (inr some) = let clash : stated_row f ∷ a ≡ two_rows h.number h.out0 h.out1 ++ stated_row h ∷ b = sym (single_rows f a none) ∙ (same ∙ double_rows h b some) in cc
    by (inr some) (inl off) = let clash : two_rows f.number f.out0 f.out1 ++ stated_row f ∷ a ≡ stated_row h ∷ b = sym (double_rows f a some) ∙ (same ∙ single_rows h b off) in cc
    by (inr some) (inr more) = one_double f h a b (sym (double_rows f a some) ∙ (same ∙ double_rows h b more))

function_some : (f : CFunction) (rest : List Row) → function_rows f ++ rest ≡ [] → ⊥
function_some f rest same = by (nothing_or f.out1)
  where
    by : (f.out1 ≡ Unused) ⊎ IsPresent f.out1 → ⊥
    by (inl none) = let clash : stated_row f ∷ rest ≡ [] = sym (single_rows f rest none) ∙ same in cc
    by (inr some) = let clash : two_rows f.number f.out0 f.out1 ++ stated_row f ∷ rest ≡ [] = sym (double_rows f rest some) ∙ same in cc

one_functions : (fs hs : List CFunction) → flat_map function_rows fs ≡ flat_map function_rows hs → fs ≡ hs
one_functions [] [] same = refl
one_functions [] (h ∷ hs) same = absurd (function_some h (flat_map function_rows hs) (sym same))
one_functions (f ∷ fs) [] same = absurd (function_some f (flat_map function_rows fs) same)
one_functions (f ∷ fs) (h ∷ hs) same =
    let first = one_function f h (flat_map function_rows fs) (flat_map function_rows hs) same in
    let rest = one_functions fs hs first.1 in
    λ i. first.0 i ∷ rest i

-- what begins the lines of functions and of structs
functions_begin : (fs : List CFunction) → NoTypedef (flat_map function_rows fs) × NoNamed (flat_map function_rows fs) × NoOpened (flat_map function_rows fs)
functions_begin [] = (tt, tt, tt)
functions_begin (f ∷ fs) = by (nothing_or f.out1)
  where
    by : (f.out1 ≡ Unused) ⊎ IsPresent f.out1 → NoTypedef (function_rows f ++ flat_map function_rows fs) × NoNamed (function_rows f ++ flat_map function_rows fs) × NoOpened (function_rows f ++ flat_map function_rows fs)
    by (inl none) = let e = sym (single_rows f (flat_map function_rows fs) none) in (subst NoTypedef e tt, subst NoNamed e tt, subst NoOpened e tt)
    by (inr some) = let e = sym (double_rows f (flat_map function_rows fs) some) in (subst NoTypedef e tt, subst NoNamed e tt, subst NoOpened e tt)

structs_begin : (ss : List CStruct) (a : List Row) → NoTypedef a → NoNamed a → NoTypedef (flat_map struct_rows ss ++ a) × NoNamed (flat_map struct_rows ss ++ a)
structs_begin [] a g h = (g, h)
structs_begin (s ∷ ss) a g h = let e = sym (structs_rows-cons s ss a) in (subst NoTypedef e tt, subst NoNamed e tt)

names_begin : (ss : List CStruct) (a : List Row) → NoTypedef a → NoTypedef (named_rows ss ++ a)
names_begin [] a g = g
names_begin (s ∷ ss) a g = tt

-- the lines tell the declarations
pub one_lines : (first second : Decls) → decls_rows first ≡ decls_rows second → first ≡ second
one_lines first second same =
    let ends = functions_begin first.functions in
    let ends' = functions_begin second.functions in
    let middle = structs_begin first.structs (flat_map function_rows first.functions) ends.0 ends.1 in
    let middle' = structs_begin second.structs (flat_map function_rows second.functions) ends'.0 ends'.1 in
    let types = one_typedefs first.typedefs second.typedefs _ _ (names_begin first.structs _ middle.0) (names_begin second.structs _ middle'.0) same in
    let names = one_names first.structs second.structs _ _ middle.1 middle'.1 types.1 in
    let structs = one_structs first.structs second.structs (flat_map function_rows first.functions) (flat_map function_rows second.functions) ends.2 ends'.2 names in
    let functions = one_functions first.functions second.functions structs.1 in
    λ i. record { typedefs = types.0 i; structs = structs.0 i; functions = functions i }

pub one_header_lem : OneHeader
one_header_lem first second g h same = one_lines first second (one_text (decls_rows first) (decls_rows second) (decls_rows-good first g) (decls_rows-good second h) same)
