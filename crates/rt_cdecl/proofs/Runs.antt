-- The lines of well formed declarations may each follow those before them.
use Rattle.std.proofs.Common.{◌≡◌, ℕ, suc, ◌+◌, ◌-◌, ◌<◌, ◌≤◌, ◌^◌, ◌==◌, ◌⊎◌, inl, inr, List, [], ◌∷◌, ◌++◌, Bool, true, false, if◌then◌else◌, All, Contains, map, length, refl, ap, sym, subst, ◌∙◌, arith, append_assoc, append-nil}
use Rattle.std.specs.List.{flat_map}
use Rattle.std.proofs.lemmas.Bool.Decides.{nat_tests}
use Rattle.std.proofs.lemmas.List.{map-append, length_push}
use Rattle.std.proofs.lemmas.List.Elements.{All-head, All-tail, All-cons, All-nil}
use Rattle.rt_base.specs.First.{entries}
use Rattle.rt_base.proofs.Lists.{All-front, All-back, All-from_contains}
use Rattle.rt_lines.specs.declared.label.Loc.{Loc}
use Rattle.rt_cdecl.specs.declared.declarations.CType.{CType}
use Rattle.rt_cdecl.specs.declared.declarations.CType.TheVariants.{Unused, Scalar, Pointer}
use Rattle.rt_cdecl.specs.declared.declarations.CField.{CField}
use Rattle.rt_cdecl.specs.declared.declarations.CStruct.{CStruct}
use Rattle.rt_cdecl.specs.declared.declarations.CFunction.{CFunction}
use Rattle.rt_cdecl.specs.declared.declarations.Decls.{Decls}
use Rattle.rt_cdecl.specs.Types.{end_of, IsField, IsPresent}
use Rattle.rt_cdecl.specs.Rows.{Row, Typedef, Named, Opened, Gap, Member, Closed, Stated, Both, typedef_text}
use Rattle.rt_cdecl.specs.Texts.{gap_rows, fields_rows, struct_rows, returns_of, stated_row, function_rows, decls_rows}
use Rattle.rt_cdecl.specs.GoodDecls.{AreAscending, FitFrom, LeadsBelow, IsStruct, IsFunction, IsGoodDecls, arg_types, named_types, struct_types, result_types, function_types, used_types, struct_numbers, function_numbers}
use Rattle.rt_cdecl.specs.Inside.Drafts.{Idle, InStruct, Parts, no_parts, function_of_parts, LastBefore, least_after, Accepts}
use Rattle.rt_cdecl.proofs.Ascending.{RisesFrom, least_after-append, rises_all}
use Rattle.rt_cdecl.proofs.OneDecls.{nothing_or, returns_of-both, two_rows, single_rows, double_rows}

-- types
abbrev types_parts : List CType → Parts
types_parts ts = record { typedefs = ts; named = 0; structs = []; functions = []; stage = Idle }

last_before : (done : List CType) (t : CType) (todo : List CType) → AreAscending (map typedef_text (done ++ t ∷ todo)) → LastBefore done t
last_before [] t todo rise = tt
last_before (x ∷ []) t todo rise = rise.0
last_before (x ∷ y ∷ done) t todo rise = last_before (y ∷ done) t todo rise.1

pub accept_types : (done todo : List CType) (rest : List Row) (last : Parts) → AreAscending (map typedef_text (done ++ todo)) → Accepts (types_parts (done ++ todo)) rest last → Accepts (types_parts done) (map Typedef todo ++ rest) last
accept_types done [] rest last rise all = subst (λ d. Accepts (types_parts d) rest last) (append-nil done) all
accept_types done (t ∷ todo) rest last rise all =
    let same : (done ++ t ∷ []) ++ todo ≡ done ++ t ∷ todo = append_assoc done (t ∷ []) todo in (
      (refl, refl, refl, last_before done t todo rise),
      accept_types (done ++ t ∷ []) todo rest last (subst (λ ts. AreAscending (map typedef_text ts)) (sym same) rise) (subst (λ ts. Accepts (types_parts ts) rest last) (sym same) all),
    )

-- names of structs
abbrev names_parts : List CType → ℕ → Parts
names_parts ts k = record { typedefs = ts; named = k; structs = []; functions = []; stage = Idle }

pub accept_names : (ts : List CType) (k : ℕ) (todo : List CStruct) (rest : List Row) (last : Parts) → struct_numbers todo ≡ entries (λ n. n) k (length todo) → Accepts (names_parts ts (k + length todo)) rest last → Accepts (names_parts ts k) (map (λ (s : CStruct). Named s.number) todo ++ rest) last
accept_names ts k [] rest last numbered all = let same : k + 0 ≡ k = omega arith in subst (λ n. Accepts (names_parts ts n) rest last) same all
accept_names ts k (s ∷ todo) rest last numbered all =
    let here : s.number ≡ k = cc in
    let others : struct_numbers todo ≡ entries (λ n. n) (k + 1) (length todo) = cc in
    let same : k + suc (length todo) ≡ (k + 1) + length todo = omega arith in
    ((refl, refl, refl, here), accept_names ts (k + 1) todo rest last others (subst (λ n. Accepts (names_parts ts n) rest last) same all))

-- fields
abbrev struct_parts : List CType → ℕ → List CStruct → List CField → ℕ → Bool → Parts
struct_parts ts named ss fields from gapped = record { typedefs = ts; named = named; structs = ss; functions = []; stage = InStruct fields from gapped }

abbrev structs_parts : List CType → ℕ → List CStruct → Parts
structs_parts ts named ss = record { typedefs = ts; named = named; structs = ss; functions = []; stage = Idle }

abbrev with_struct : List CStruct → List CField → List CStruct
with_struct ss fields = ss ++ record { number = length ss; fields = fields } ∷ []

abbrev AreListed : List CType → ℕ → CType → Type 0
AreListed ts named t = All (Contains ts) (named_types t) × LeadsBelow named t

not_same : (a b : ℕ) → (a == b) ≡ false → a ≡ b → ⊥
not_same a b e same = grind (arith, nat_tests)

are_same : (a b : ℕ) → (a == b) ≡ true → a ≡ b
are_same a b e = grind (arith, nat_tests)

-- one field, after a gap or right at the end
accept_field : (ts : List CType) (named : ℕ) (ss : List CStruct) (done : List CField) (from : ℕ) (field : CField) (rest : List Row) (last : Parts) → from ≤ field.offset → field.offset < 2 ^ 31 → AreListed ts named field.kind → Accepts (struct_parts ts named ss (done ++ field ∷ []) (end_of field) false) rest last → Accepts (struct_parts ts named ss done from false) (gap_rows from field.offset ++ Member field ∷ rest) last
accept_field ts named ss done from field rest last fits low listed all = by (from == field.offset) refl
  where
    by : (t : Bool) → (from == field.offset) ≡ t → Accepts (struct_parts ts named ss done from false) ((if t then [] else Gap from (field.offset - from) ∷ []) ++ Member field ∷ rest) last
    by true e = ((sym (are_same from field.offset e), listed), all)
    by false e =
        let off : from ≡ field.offset → ⊥ = not_same from field.offset e in
        ((refl, omega arith, omega arith), ((omega arith, listed), all))

pub accept_fields : (ts : List CType) (named : ℕ) (ss : List CStruct) (done : List CField) (from : ℕ) (todo : List CField) (rest : List Row) (last : Parts) → FitFrom from todo → All IsField todo → All (λ (f : CField). AreListed ts named f.kind) todo → Accepts (structs_parts ts named (with_struct ss (done ++ todo))) rest last → Accepts (struct_parts ts named ss done from false) (fields_rows from todo ++ Closed ∷ rest) last
accept_fields ts named ss done from [] rest last fit good listed all = (tt, subst (λ fs. Accepts (structs_parts ts named (with_struct ss fs)) rest last) (append-nil done) all)
accept_fields ts named ss done from (field ∷ todo) rest last fit good listed all =
    let here : IsField field = All-head IsField field todo good in
    let fine : AreListed ts named field.kind = All-head (λ (f : CField). AreListed ts named f.kind) field todo listed in
    let same : (done ++ field ∷ []) ++ todo ≡ done ++ field ∷ todo = append_assoc done (field ∷ []) todo in
    let more = accept_fields ts named ss (done ++ field ∷ []) (end_of field) todo rest last fit.1 (All-tail IsField field todo good) (All-tail (λ (f : CField). AreListed ts named f.kind) field todo listed)
    (subst (λ fs. Accepts (structs_parts ts named (with_struct ss fs)) rest last) (sym same) all) in
    let one = accept_field ts named ss done from field (fields_rows (end_of field) todo ++ Closed ∷ rest) last fit.0 here.2 fine more in
    subst (λ rows. Accepts (struct_parts ts named ss done from false) rows last) (sym (append_assoc (gap_rows from field.offset) (Member field ∷ fields_rows (end_of field) todo) (Closed ∷ rest))) one

-- structs
structs_rows-one : (s : CStruct) (todo : List CStruct) (rest : List Row) → flat_map struct_rows (s ∷ todo) ++ rest ≡ Opened s.number ∷ (fields_rows 0 s.fields ++ Closed ∷ (flat_map struct_rows todo ++ rest))
structs_rows-one s todo rest =
    append_assoc (struct_rows s) (flat_map struct_rows todo) rest
    ∙ ap (λ r. Opened s.number ∷ r) (append_assoc (fields_rows 0 s.fields) (Closed ∷ []) (flat_map struct_rows todo ++ rest))

pub record IsFine (ts : List CType) (named : ℕ) (s : CStruct) : Type 0 where
  pub fit : FitFrom 0 s.fields
  good : All IsField s.fields
  listed : All (λ (f : CField). AreListed ts named f.kind) s.fields

pub accept_structs : (ts : List CType) (named : ℕ) (done todo : List CStruct) (rest : List Row) (last : Parts) → length done + length todo ≡ named → struct_numbers todo ≡ entries (λ n. n) (length done) (length todo) → All (IsFine ts named) todo → Accepts (structs_parts ts named (done ++ todo)) rest last → Accepts (structs_parts ts named done) (flat_map struct_rows todo ++ rest) last
accept_structs ts named done [] rest last count numbered fine all = subst (λ d. Accepts (structs_parts ts named d) rest last) (append-nil done) all
accept_structs ts named done (s ∷ todo) rest last count numbered fine all =
    let number : s.number ≡ length done = cc in
    let others : struct_numbers todo ≡ entries (λ n. n) (length done + 1) (length todo) = cc in
    let here : IsFine ts named s = All-head (IsFine ts named) s todo fine in
    let longer : length (done ++ s ∷ []) ≡ length done + 1 = length_push done s in
    let same : (done ++ s ∷ []) ++ todo ≡ done ++ s ∷ todo = append_assoc done (s ∷ []) todo in
    let made : done ++ s ∷ [] ≡ with_struct done s.fields = λ i. done ++ record { number = number i; fields = s.fields } ∷ [] in
    let counted : length (done ++ s ∷ []) + length todo ≡ named = omega arith in
    let numbers : struct_numbers todo ≡ entries (λ n. n) (length (done ++ s ∷ [])) (length todo) = others ∙ ap (λ k. entries (λ n. n) k (length todo)) (sym longer) in
    let more = accept_structs ts named (done ++ s ∷ []) todo rest last counted numbers (All-tail (IsFine ts named) s todo fine) (subst (λ ss. Accepts (structs_parts ts named ss) rest last) (sym same) all) in
    let fields = accept_fields ts named done [] 0 s.fields (flat_map struct_rows todo ++ rest) last here.fit here.good here.listed (subst (λ ss. Accepts (structs_parts ts named ss) (flat_map struct_rows todo ++ rest) last) made more) in
    let one : Accepts (structs_parts ts named done) (Opened s.number ∷ (fields_rows 0 s.fields ++ Closed ∷ (flat_map struct_rows todo ++ rest))) last = ((refl, refl, number, omega arith), fields) in
    subst (λ rows. Accepts (structs_parts ts named done) rows last) (sym (structs_rows-one s todo rest)) one

-- functions
abbrev functions_parts : List CType → ℕ → List CStruct → List CFunction → Parts
functions_parts ts named ss fs = record { typedefs = ts; named = named; structs = ss; functions = fs; stage = Idle }

-- one function, by its parts
accept_single : (ts : List CType) (named : ℕ) (ss : List CStruct) (fs : List CFunction) (n : ℕ) (args : List (Loc × CType)) (out0 : CType) (rest : List Row) (last : Parts) → length ss ≡ named → least_after 0 (function_numbers fs) ≤ n → All (Contains ts) (result_types out0 Unused) → LeadsBelow named out0 → All (AreListed ts named) (arg_types args) → Accepts (functions_parts ts named ss (fs ++ function_of_parts n args out0 Unused ∷ [])) rest last → Accepts (functions_parts ts named ss fs) (Stated (returns_of out0 Unused) n args ∷ rest) last
accept_single ts named ss fs n args Unused rest last whole low listed leads given all = (((whole, low), given), all)
accept_single ts named ss fs n args (Scalar name bits) rest last whole low listed leads given all = ((((whole, low), (listed, leads)), given), all)
accept_single ts named ss fs n args (Pointer m) rest last whole low listed leads given all = ((((whole, low), (listed, leads)), given), all)

accept_double : (ts : List CType) (named : ℕ) (ss : List CStruct) (fs : List CFunction) (n : ℕ) (args : List (Loc × CType)) (out0 out1 : CType) (rest : List Row) (last : Parts) → length ss ≡ named → least_after 0 (function_numbers fs) ≤ n → AreListed ts named out0 → AreListed ts named out1 → IsPresent out1 → All (AreListed ts named) (arg_types args) → Accepts (functions_parts ts named ss (fs ++ function_of_parts n args out0 out1 ∷ [])) rest last → Accepts (functions_parts ts named ss fs) (two_rows n out0 out1 ++ Stated Both n args ∷ rest) last
accept_double ts named ss fs n args out0 out1 rest last whole low listed fine here given all =
    ((refl, (whole, low)), ((tt, listed), ((here, fine), (tt, ((refl, given), all)))))

both_listed : (ts : List CType) (out0 out1 : CType) → IsPresent out1 → All (Contains ts) (result_types out0 out1) → All (Contains ts) (named_types out0) × All (Contains ts) (named_types out1)
both_listed ts out0 Unused here listed = absurd here
both_listed ts out0 (Scalar name bits) here listed = (All-front (Contains ts) (named_types out0) (Scalar name bits ∷ []) listed, All-back (Contains ts) (named_types out0) (Scalar name bits ∷ []) listed)
both_listed ts out0 (Pointer n) here listed = (listed, All-nil (Contains ts))

accept_function : (ts : List CType) (named : ℕ) (ss : List CStruct) (fs : List CFunction) (f : CFunction) (rest : List Row) (last : Parts) → length ss ≡ named → least_after 0 (function_numbers fs) ≤ f.number → All (Contains ts) (result_types f.out0 f.out1) → LeadsBelow named f.out0 → LeadsBelow named f.out1 → All (AreListed ts named) (arg_types f.args) → Accepts (functions_parts ts named ss (fs ++ f ∷ [])) rest last → Accepts (functions_parts ts named ss fs) (function_rows f ++ rest) last
accept_function ts named ss fs f rest last whole low listed leads leads' given all = by (nothing_or f.out1)
  where
    by : (f.out1 ≡ Unused) ⊎ IsPresent f.out1 → Accepts (functions_parts ts named ss fs) (function_rows f ++ rest) last
    by (inl none) =
        let single : f ≡ function_of_parts f.number f.args f.out0 Unused = λ i. function_of_parts f.number f.args f.out0 (none i) in
        let one = accept_single ts named ss fs f.number f.args f.out0 rest last whole low (subst (λ t. All (Contains ts) (result_types f.out0 t)) none listed) leads given (subst (λ g. Accepts (functions_parts ts named ss (fs ++ g ∷ [])) rest last) single all) in
        let row : Stated (returns_of f.out0 Unused) f.number f.args ∷ rest ≡ stated_row f ∷ rest = λ i. Stated (returns_of f.out0 (sym none i)) f.number f.args ∷ rest in
        subst (λ rows. Accepts (functions_parts ts named ss fs) rows last) (row ∙ sym (single_rows f rest none)) one
    by (inr some) =
        let both = both_listed ts f.out0 f.out1 some listed in
        let one = accept_double ts named ss fs f.number f.args f.out0 f.out1 rest last whole low (both.0, leads) (both.1, leads') some given all in
        let row : two_rows f.number f.out0 f.out1 ++ Stated Both f.number f.args ∷ rest ≡ two_rows f.number f.out0 f.out1 ++ stated_row f ∷ rest = λ i. two_rows f.number f.out0 f.out1 ++ Stated (sym (returns_of-both f.out0 f.out1 some) i) f.number f.args ∷ rest in
        subst (λ rows. Accepts (functions_parts ts named ss fs) rows last) (row ∙ sym (double_rows f rest some)) one

-- a function whose types are listed
pub record IsFit (ts : List CType) (named : ℕ) (f : CFunction) : Type 0 where
  results : All (Contains ts) (result_types f.out0 f.out1)
  leads : LeadsBelow named f.out0
  leads' : LeadsBelow named f.out1
  given : All (AreListed ts named) (arg_types f.args)

pub least_push : (fs : List CFunction) (f : CFunction) → least_after 0 (function_numbers (fs ++ f ∷ [])) ≡ f.number + 1
least_push fs f = ap (least_after 0) (map-append (λ (g : CFunction). g.number) fs (f ∷ [])) ∙ least_after-append 0 (function_numbers fs) (f.number ∷ [])

pub accept_functions : (ts : List CType) (named : ℕ) (ss : List CStruct) (done todo : List CFunction) → length ss ≡ named → RisesFrom (least_after 0 (function_numbers done)) (function_numbers todo) → All (IsFit ts named) todo → Accepts (functions_parts ts named ss done) (flat_map function_rows todo) (functions_parts ts named ss (done ++ todo))
accept_functions ts named ss done [] whole rise fit = λ i. functions_parts ts named ss (sym (append-nil done) i)
accept_functions ts named ss done (f ∷ todo) whole rise fit =
    let here : IsFit ts named f = All-head (IsFit ts named) f todo fit in
    let same : (done ++ f ∷ []) ++ todo ≡ done ++ f ∷ todo = append_assoc done (f ∷ []) todo in
    let rises : RisesFrom (least_after 0 (function_numbers (done ++ f ∷ []))) (function_numbers todo) = subst (λ low. RisesFrom low (function_numbers todo)) (sym (least_push done f)) rise.1 in
    let more = accept_functions ts named ss (done ++ f ∷ []) todo whole rises (All-tail (IsFit ts named) f todo fit) in
    accept_function ts named ss done f (flat_map function_rows todo) (functions_parts ts named ss (done ++ f ∷ todo)) whole rise.0 here.results here.leads here.leads' here.given
    (subst (λ fs. Accepts (functions_parts ts named ss (done ++ f ∷ [])) (flat_map function_rows todo) (functions_parts ts named ss fs)) same more)

-- what is used is listed
zip_listed : (ts : List CType) (named : ℕ) (us : List CType) → All (Contains ts) (flat_map named_types us) → All (LeadsBelow named) us → All (AreListed ts named) us
zip_listed ts named [] listed leads = All-nil (AreListed ts named)
zip_listed ts named (u ∷ us) listed leads =
    All-cons (AreListed ts named) u us
    (All-front (Contains ts) (named_types u) (flat_map named_types us) listed, All-head (LeadsBelow named) u us leads)
    (zip_listed ts named us (All-back (Contains ts) (named_types u) (flat_map named_types us) listed) (All-tail (LeadsBelow named) u us leads))

fields_listed : (ts : List CType) (named : ℕ) (fields : List CField) → All (Contains ts) (flat_map (λ (f : CField). named_types f.kind) fields) → All (λ (f : CField). LeadsBelow named f.kind) fields → All (λ (f : CField). AreListed ts named f.kind) fields
fields_listed ts named [] listed leads = All-nil (λ (f : CField). AreListed ts named f.kind)
fields_listed ts named (f ∷ fields) listed leads =
    All-cons (λ (f : CField). AreListed ts named f.kind) f fields
    (All-front (Contains ts) (named_types f.kind) (flat_map (λ (f : CField). named_types f.kind) fields) listed, All-head (λ (f : CField). LeadsBelow named f.kind) f fields leads)
    (fields_listed ts named fields (All-back (Contains ts) (named_types f.kind) (flat_map (λ (f : CField). named_types f.kind) fields) listed) (All-tail (λ (f : CField). LeadsBelow named f.kind) f fields leads))

structs_fine : (ts : List CType) (named : ℕ) (structs : List CStruct) → All (Contains ts) (flat_map struct_types structs) → All (IsStruct named) structs → All (IsFine ts named) structs
structs_fine ts named [] listed good = All-nil (IsFine ts named)
structs_fine ts named (s ∷ structs) listed good =
    let here : IsStruct named s = All-head (IsStruct named) s structs good in
    All-cons (IsFine ts named) s structs
    (record { fit = here.fit; good = here.fields; listed = fields_listed ts named s.fields (All-front (Contains ts) (struct_types s) (flat_map struct_types structs) listed) here.lead })
    (structs_fine ts named structs (All-back (Contains ts) (struct_types s) (flat_map struct_types structs) listed) (All-tail (IsStruct named) s structs good))

functions_fit : (ts : List CType) (named : ℕ) (functions : List CFunction) → All (Contains ts) (flat_map function_types functions) → All (IsFunction named) functions → All (IsFit ts named) functions
functions_fit ts named [] listed good = All-nil (IsFit ts named)
functions_fit ts named (f ∷ functions) listed good =
    let here : IsFunction named f = All-head (IsFunction named) f functions good in
    let own : All (Contains ts) (function_types f) = All-front (Contains ts) (function_types f) (flat_map function_types functions) listed in
    let outs : All (LeadsBelow named) (f.out1 ∷ arg_types f.args) = All-tail (LeadsBelow named) f.out0 (f.out1 ∷ arg_types f.args) here.lead in
    All-cons (IsFit ts named) f functions
    (record {
      results = All-front (Contains ts) (result_types f.out0 f.out1) (flat_map named_types (arg_types f.args)) own;
      leads = All-head (LeadsBelow named) f.out0 (f.out1 ∷ arg_types f.args) here.lead;
      leads' = All-head (LeadsBelow named) f.out1 (arg_types f.args) outs;
      given = zip_listed ts named (arg_types f.args) (All-back (Contains ts) (result_types f.out0 f.out1) (flat_map named_types (arg_types f.args)) own) (All-tail (LeadsBelow named) f.out1 (arg_types f.args) outs);
    })
    (functions_fit ts named functions (All-back (Contains ts) (function_types f) (flat_map function_types functions) listed) (All-tail (IsFunction named) f functions good))

-- the whole
abbrev pub ended : Decls → Parts
ended decls = functions_parts decls.typedefs (length decls.structs) decls.structs decls.functions

pub accept_decls : (decls : Decls) → IsGoodDecls decls → Accepts no_parts (decls_rows decls) (ended decls)
accept_decls decls good =
    let used : All (Contains decls.typedefs) (used_types decls.structs decls.functions) = All-from_contains (Contains decls.typedefs) (used_types decls.structs decls.functions) (λ t. (good.exact t).1) in
    let fine = structs_fine decls.typedefs (length decls.structs) decls.structs (All-front (Contains decls.typedefs) (flat_map struct_types decls.structs) (flat_map function_types decls.functions) used) good.structs in
    let fit = functions_fit decls.typedefs (length decls.structs) decls.functions (All-back (Contains decls.typedefs) (flat_map struct_types decls.structs) (flat_map function_types decls.functions) used) good.functions in
    let functions = accept_functions decls.typedefs (length decls.structs) decls.structs [] decls.functions refl (rises_all (function_numbers decls.functions) good.functions_rise) fit in
    let structs = accept_structs decls.typedefs (length decls.structs) [] decls.structs (flat_map function_rows decls.functions) (ended decls) (omega arith) good.numbered fine functions in
    let names = accept_names decls.typedefs 0 decls.structs (flat_map struct_rows decls.structs ++ flat_map function_rows decls.functions) (ended decls) good.numbered (subst (λ n. Accepts (names_parts decls.typedefs n) (flat_map struct_rows decls.structs ++ flat_map function_rows decls.functions) (ended decls)) (sym (zero_plus (length decls.structs))) structs) in
    accept_types [] decls.typedefs (map (λ (s : CStruct). Named s.number) decls.structs ++ (flat_map struct_rows decls.structs ++ flat_map function_rows decls.functions)) (ended decls) good.typedefs_rise names
  where
    zero_plus : (n : ℕ) → 0 + n ≡ n
    zero_plus n = omega arith
