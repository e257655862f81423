-- What was read stays well formed with each line that may follow.
use Rattle.std.proofs.Common.{◌≡◌, ℕ, zero, suc, ◌+◌, ◌<◌, ◌≤◌, ◌^◌, List, [], ◌∷◌, ◌++◌, true, false, All, Contains, map, length, refl, ap, sym, subst, ◌∙◌, arith, append-nil}
use Rattle.std.specs.List.{flat_map}
use Rattle.std.proofs.lemmas.Grind.{flat_map-append}
use Rattle.std.proofs.lemmas.List.{map-append, length_push}
use Rattle.std.proofs.lemmas.List.Elements.{All-head, All-tail, All-cons, All-nil, All-append, All-push}
use Rattle.rt_base.specs.First.{entries}
use Rattle.rt_base.proofs.Lists.{All-front, All-back}
use Rattle.rt_lines.specs.declared.label.Loc.{Loc}
use Rattle.rt_texts.specs.Goods.{IsNumber}
use Rattle.rt_cdecl.specs.declared.declarations.CType.{CType}
use Rattle.rt_cdecl.specs.declared.declarations.CType.TheVariants.{Unused, Scalar, Pointer}
use Rattle.rt_cdecl.specs.declared.declarations.CField.{CField}
use Rattle.rt_cdecl.specs.declared.declarations.CStruct.{CStruct}
use Rattle.rt_cdecl.specs.declared.declarations.CFunction.{CFunction}
use Rattle.rt_cdecl.specs.Types.{end_of, IsTypedef, IsWide, IsField, IsPresent}
use Rattle.rt_cdecl.specs.Rows.{Row, Typedef, Named, Opened, Gap, Member, Closed, Pair, Half, Stated, Nothing, Value, Both, typedef_text}
use Rattle.rt_cdecl.specs.GoodDecls.{AreAscending, LeadsBelow, FitFrom, IsStruct, AreArgs, IsFunction, arg_types, named_types, struct_types, result_types, function_types, used_types, struct_numbers, function_numbers}
use Rattle.rt_cdecl.specs.Inside.GoodRows.{IsRow}
use Rattle.rt_cdecl.specs.Inside.Drafts.{Stage, Idle, InStruct, InPair, HalfRead, BothRead, PairClosed, Parts, no_parts, function_of_parts, with_row, LastBefore, least_after, Fits, Accepts}
use Rattle.rt_cdecl.proofs.Ascending.{RisesFrom, RisesFrom-push}
use Rattle.rt_cdecl.proofs.Sound.{end_after, end_after-push, entries_push, made, none_left}

-- a type that is listed and leads to a struct that was named
abbrev AreListed : List CType → ℕ → CType → Type 0
AreListed ts named t = All (Contains ts) (named_types t) × LeadsBelow named t

-- what is still to be ended is well formed
abbrev pub IsGoodStage : List CType → ℕ → List CStruct → List CFunction → Stage → Type 0
IsGoodStage ts named ss fs Idle = Unit {0}
IsGoodStage ts named ss fs (InStruct fields from gapped) =
    IsStruct named (record { number = 0; fields = fields }) × (end_after 0 fields ≤ from) × All (Contains ts) (flat_map (λ (f : CField). named_types f.kind) fields) × (length ss < named)
IsGoodStage ts named ss fs (InPair n) = IsNumber n × (least_after 0 (function_numbers fs) ≤ n)
IsGoodStage ts named ss fs (HalfRead n a) = IsNumber n × (least_after 0 (function_numbers fs) ≤ n) × IsWide a × AreListed ts named a
IsGoodStage ts named ss fs (BothRead n a b) = IsNumber n × (least_after 0 (function_numbers fs) ≤ n) × (IsWide a × AreListed ts named a) × IsWide b × AreListed ts named b
IsGoodStage ts named ss fs (PairClosed n a b) = IsNumber n × (least_after 0 (function_numbers fs) ≤ n) × (IsWide a × AreListed ts named a) × IsWide b × AreListed ts named b

-- what was read is well formed, but that types may be listed that are not used
pub record IsGood (parts : Parts) : Type 0 where
  pub typedefs : All IsTypedef parts.typedefs
  pub typedefs_rise : AreAscending (map typedef_text parts.typedefs)
  pub structs : All (IsStruct parts.named) parts.structs
  pub numbered : struct_numbers parts.structs ≡ entries (λ n. n) 0 (length parts.structs)
  pub few : length parts.structs ≤ parts.named
  pub small : parts.named ≤ 2 ^ 32
  pub functions : All (IsFunction parts.named) parts.functions
  pub functions_rise : RisesFrom 0 (function_numbers parts.functions)
  pub listed : All (Contains parts.typedefs) (used_types parts.structs parts.functions)
  pub stage : IsGoodStage parts.typedefs parts.named parts.structs parts.functions parts.stage

pub good_start : IsGood no_parts
good_start = record {
  typedefs = All-nil IsTypedef;
  typedefs_rise = tt;
  structs = All-nil (IsStruct 0);
  numbered = refl;
  few = omega arith;
  small = omega arith;
  functions = All-nil (IsFunction 0);
  functions_rise = tt;
  listed = All-nil (Contains []);
  stage = tt;
}

-- one line more of each kind
rise_push : (ts : List CType) (t : CType) → AreAscending (map typedef_text ts) → LastBefore ts t → AreAscending (map typedef_text (ts ++ t ∷ []))
rise_push [] t rise last = tt
rise_push (a ∷ []) t rise last = (last, tt)
rise_push (a ∷ b ∷ ts) t rise last = (rise.0, rise_push (b ∷ ts) t rise.1 last)

fit_push : (from : ℕ) (fields : List CField) (field : CField) → FitFrom from fields → end_after from fields ≤ field.offset → FitFrom from (fields ++ field ∷ [])
fit_push from [] field fit low = (low, tt)
fit_push from (f ∷ fields) field fit low = (fit.0, fit_push (end_of f) fields field fit.1 low)

numbers_push : (ss : List CStruct) (fields : List CField) → struct_numbers ss ≡ entries (λ n. n) 0 (length ss) → struct_numbers (ss ++ record { number = length ss; fields = fields } ∷ []) ≡ entries (λ n. n) 0 (length (ss ++ record { number = length ss; fields = fields } ∷ []))
numbers_push ss fields numbered =
    let last : CStruct = record { number = length ss; fields = fields } in
    let zero_plus : 0 + length ss ≡ length ss = omega arith in
    map-append (λ (s : CStruct). s.number) ss (last ∷ [])
    ∙ (ap (λ ns. ns ++ length ss ∷ []) numbered
    ∙ (ap (λ n. entries (λ k. k) 0 (length ss) ++ n ∷ []) (sym zero_plus)
    ∙ (sym (entries_push 0 (length ss)) ∙ ap (entries (λ k. k) 0) (sym (length_push ss last)))))

function_numbers-push : (fs : List CFunction) (f : CFunction) → function_numbers (fs ++ f ∷ []) ≡ function_numbers fs ++ f.number ∷ []
function_numbers-push fs f = map-append (λ (g : CFunction). g.number) fs (f ∷ [])

used_push_struct : (ts : List CType) (ss : List CStruct) (fs : List CFunction) (s : CStruct) → All (Contains ts) (used_types ss fs) → All (Contains ts) (struct_types s) → All (Contains ts) (used_types (ss ++ s ∷ []) fs)
used_push_struct ts ss fs s listed here =
    All-append (Contains ts) (flat_map struct_types (ss ++ s ∷ [])) (flat_map function_types fs)
    (subst (All (Contains ts)) (sym (flat_map-append struct_types ss (s ∷ []) ∙ ap (λ r. flat_map struct_types ss ++ r) (append-nil (struct_types s)))) (All-append (Contains ts) (flat_map struct_types ss) (struct_types s) (All-front (Contains ts) (flat_map struct_types ss) (flat_map function_types fs) listed) here))
    (All-back (Contains ts) (flat_map struct_types ss) (flat_map function_types fs) listed)

used_push_function : (ts : List CType) (ss : List CStruct) (fs : List CFunction) (f : CFunction) → All (Contains ts) (used_types ss fs) → All (Contains ts) (function_types f) → All (Contains ts) (used_types ss (fs ++ f ∷ []))
used_push_function ts ss fs f listed here =
    All-append (Contains ts) (flat_map struct_types ss) (flat_map function_types (fs ++ f ∷ []))
    (All-front (Contains ts) (flat_map struct_types ss) (flat_map function_types fs) listed)
    (subst (All (Contains ts)) (sym (flat_map-append function_types fs (f ∷ []) ∙ ap (λ r. flat_map function_types fs ++ r) (append-nil (function_types f)))) (All-append (Contains ts) (flat_map function_types fs) (function_types f) (All-back (Contains ts) (flat_map struct_types ss) (flat_map function_types fs) listed) here))

-- the types of arguments that are listed, and those that they lead to
args_listed : (ts : List CType) (named : ℕ) (us : List CType) → All (AreListed ts named) us → All (Contains ts) (flat_map named_types us)
args_listed ts named [] all = All-nil (Contains ts)
args_listed ts named (u ∷ us) all =
    All-append (Contains ts) (named_types u) (flat_map named_types us) (All-head (AreListed ts named) u us all).0 (args_listed ts named us (All-tail (AreListed ts named) u us all))

args_lead : (ts : List CType) (named : ℕ) (us : List CType) → All (AreListed ts named) us → All (LeadsBelow named) us
args_lead ts named [] all = All-nil (LeadsBelow named)
args_lead ts named (u ∷ us) all =
    All-cons (LeadsBelow named) u us (All-head (AreListed ts named) u us all).1 (args_lead ts named us (All-tail (AreListed ts named) u us all))

results_listed : (ts : List CType) (a b : CType) → All (Contains ts) (named_types a) → All (Contains ts) (named_types b) → All (Contains ts) (result_types a b)
results_listed ts a (Scalar name bits) here there = All-append (Contains ts) (named_types a) (Scalar name bits ∷ []) here there
results_listed ts a (Pointer n) here there = here
results_listed ts Unused Unused here there = All-nil (Contains ts)
results_listed ts (Scalar name bits) Unused here there = here
results_listed ts (Pointer n) Unused here there = here

-- a function that is listed
stated_listed : (ts : List CType) (named n : ℕ) (args : List (Loc × CType)) (a b : CType) → All (Contains ts) (result_types a b) → All (AreListed ts named) (arg_types args) → All (Contains ts) (function_types (function_of_parts n args a b))
stated_listed ts named n args a b here given =
    All-append (Contains ts) (result_types a b) (flat_map named_types (arg_types args)) here (args_listed ts named (arg_types args) given)

stated_good : (ts : List CType) (named n : ℕ) (args : List (Loc × CType)) (a b : CType) → IsNumber n → AreArgs args → IsWide a → IsWide b → LeadsBelow named a → LeadsBelow named b → All (AreListed ts named) (arg_types args) → IsFunction named (function_of_parts n args a b)
stated_good ts named n args a b small fine wide wide' leads leads' given =
    record {
      number = small;
      args = fine;
      out0 = wide;
      out1 = wide';
      lead = All-cons (LeadsBelow named) a (b ∷ arg_types args) leads (All-cons (LeadsBelow named) b (arg_types args) leads' (args_lead ts named (arg_types args) given));
    }

good_stated : (ts : List CType) (named : ℕ) (ss : List CStruct) (fs : List CFunction) (stage : Stage) (n : ℕ) (args : List (Loc × CType)) (a b : CType) → IsGood (made ts named ss fs stage) → IsNumber n → least_after 0 (function_numbers fs) ≤ n → AreArgs args → IsWide a → IsWide b → All (Contains ts) (result_types a b) → LeadsBelow named a → LeadsBelow named b → All (AreListed ts named) (arg_types args) → IsGood (made ts named ss (fs ++ function_of_parts n args a b ∷ []) Idle)
good_stated ts named ss fs stage n args a b good small low fine wide wide' listed leads leads' given =
    let f : CFunction = function_of_parts n args a b in
    record {
      typedefs = good.typedefs;
      typedefs_rise = good.typedefs_rise;
      structs = good.structs;
      numbered = good.numbered;
      few = good.few;
      small = good.small;
      functions = All-push (IsFunction named) fs f good.functions (stated_good ts named n args a b small fine wide wide' leads leads' given);
      functions_rise = subst (RisesFrom 0) (sym (function_numbers-push fs f)) (RisesFrom-push 0 (function_numbers fs) n good.functions_rise low);
      listed = used_push_function ts ss fs f good.listed (stated_listed ts named n args a b listed given);
      stage = tt;
    }

-- the parts in another stage
good_moved : (ts : List CType) (named : ℕ) (ss : List CStruct) (fs : List CFunction) (stage next : Stage) → IsGood (made ts named ss fs stage) → IsGoodStage ts named ss fs next → IsGood (made ts named ss fs next)
good_moved ts named ss fs stage next good there =
    record {
      typedefs = good.typedefs;
      typedefs_rise = good.typedefs_rise;
      structs = good.structs;
      numbered = good.numbered;
      few = good.few;
      small = good.small;
      functions = good.functions;
      functions_rise = good.functions_rise;
      listed = good.listed;
      stage = there;
    }

good_made : (ts : List CType) (named : ℕ) (ss : List CStruct) (fs : List CFunction) (stage : Stage) (row : Row) → IsGood (made ts named ss fs stage) → IsRow row → Fits (made ts named ss fs stage) row → IsGood (with_row (made ts named ss fs stage) row)
good_made ts named ss fs stage (Typedef t) good fine fits =
    let none : ss ≡ [] = none_left ss named good.few fits.1 in
    record {
      typedefs = All-push IsTypedef ts t good.typedefs fine;
      typedefs_rise = rise_push ts t good.typedefs_rise fits.3;
      structs = good.structs;
      numbered = good.numbered;
      few = good.few;
      small = good.small;
      functions = good.functions;
      functions_rise = good.functions_rise;
      listed = subst (All (Contains (ts ++ t ∷ []))) (λ i. used_types (sym none i) (sym fits.2 i)) (All-nil (Contains (ts ++ t ∷ [])));
      stage = subst (IsGoodStage (ts ++ t ∷ []) named ss fs) (sym fits.0) tt;
    }
good_made ts named ss fs stage (Named n) good fine fits =
    record {
      typedefs = good.typedefs;
      typedefs_rise = good.typedefs_rise;
      structs = subst (All (IsStruct (named + 1))) (sym fits.1) (All-nil (IsStruct (named + 1)));
      numbered = good.numbered;
      few = let few = good.few in omega arith;
      small = let less : n < 2 ^ 32 = fine in let same : n ≡ named = fits.3 in omega arith;
      functions = subst (All (IsFunction (named + 1))) (sym fits.2) (All-nil (IsFunction (named + 1)));
      functions_rise = good.functions_rise;
      listed = good.listed;
      stage = subst (IsGoodStage ts (named + 1) ss fs) (sym fits.0) tt;
    }
good_made ts named ss fs stage (Opened n) good fine fits =
    good_moved ts named ss fs stage (InStruct [] 0 false) good (
      record { fields = All-nil IsField; lead = All-nil (λ (f : CField). LeadsBelow named f.kind); fit = tt },
      omega arith,
      All-nil (Contains ts),
      subst (λ k. k < named) fits.2 fits.3,
    )
good_made ts named ss fs (InStruct fields from false) (Gap k n) good fine fits =
    good_moved ts named ss fs (InStruct fields from false) (InStruct fields (from + n) true) good
    (good.stage.0, (let low : end_after 0 fields ≤ from = good.stage.1 in omega arith), good.stage.2, good.stage.3)
good_made ts named ss fs (InStruct fields from gapped) (Member field) good fine fits =
    let low : end_after 0 fields ≤ from = good.stage.1 in
    let at : field.offset ≡ from = fits.0 in
    let here : IsStruct named (record { number = 0; fields = fields }) = good.stage.0 in
    good_moved ts named ss fs (InStruct fields from gapped) (InStruct (fields ++ field ∷ []) (end_of field) false) good (
      record {
        fields = All-push IsField fields field here.fields fine;
        lead = All-push (λ (f : CField). LeadsBelow named f.kind) fields field here.lead fits.1.1;
        fit = fit_push 0 fields field here.fit (omega arith);
      },
      (let last = end_after-push 0 fields field in omega arith),
      subst (All (Contains ts)) (sym (flat_map-append (λ (f : CField). named_types f.kind) fields (field ∷ []) ∙ ap (λ r. flat_map (λ (f : CField). named_types f.kind) fields ++ r) (append-nil (named_types field.kind)))) (All-append (Contains ts) (flat_map (λ (f : CField). named_types f.kind) fields) (named_types field.kind) good.stage.2 fits.1.0),
      good.stage.3,
    )
good_made ts named ss fs (InStruct fields from false) Closed good fine fits =
    let s : CStruct = record { number = length ss; fields = fields } in
    let here : IsStruct named (record { number = 0; fields = fields }) = good.stage.0 in
    let long : length (ss ++ s ∷ []) ≡ length ss + 1 = length_push ss s in
    let less : length ss < named = good.stage.3 in
    record {
      typedefs = good.typedefs;
      typedefs_rise = good.typedefs_rise;
      structs = All-push (IsStruct named) ss s good.structs (record { fields = here.fields; lead = here.lead; fit = here.fit });
      numbered = numbers_push ss fields good.numbered;
      few = omega arith;
      small = good.small;
      functions = good.functions;
      functions_rise = good.functions_rise;
      listed = used_push_struct ts ss fs s good.listed good.stage.2;
      stage = tt;
    }
good_made ts named ss fs (BothRead n a b) Closed good fine fits = good_moved ts named ss fs (BothRead n a b) (PairClosed n a b) good good.stage
good_made ts named ss fs stage (Pair n) good fine fits = good_moved ts named ss fs stage (InPair n) good (fine, fits.1.1)
good_made ts named ss fs (InPair m) (Half zero t) good fine fits =
    good_moved ts named ss fs (InPair m) (HalfRead m t) good (good.stage.0, good.stage.1, fine.1, fits.1)
good_made ts named ss fs (HalfRead m a) (Half (suc zero) t) good fine fits =
    good_moved ts named ss fs (HalfRead m a) (BothRead m a t) good (good.stage.0, good.stage.1, (good.stage.2, good.stage.3), fine.1, fits.1)
good_made ts named ss fs Idle (Stated Nothing n args) good fine fits =
    good_stated ts named ss fs Idle n args Unused Unused good fine.1 fits.0.1 fine.2 (tt, refl) (tt, refl) (All-nil (Contains ts)) tt tt fits.1
good_made ts named ss fs Idle (Stated (Value t) n args) good fine fits =
    good_stated ts named ss fs Idle n args t Unused good fine.1 fits.0.0.1 fine.2 fine.0.0 (tt, refl) (value_listed ts t fine.0.1 fits.0.1.0) fits.0.1.1 tt fits.1
  where
    value_listed : (ts : List CType) (t : CType) → IsPresent t → All (Contains ts) (named_types t) → All (Contains ts) (result_types t Unused)
    value_listed ts Unused here listed = absurd here
    value_listed ts (Scalar name bits) here listed = listed
    value_listed ts (Pointer n) here listed = listed
good_made ts named ss fs (PairClosed m a b) (Stated Both n args) good fine fits =
    let low : least_after 0 (function_numbers fs) ≤ n = subst (λ k. least_after 0 (function_numbers fs) ≤ k) (sym fits.0) good.stage.1 in
    good_stated ts named ss fs (PairClosed m a b) n args a b good fine.1 low fine.2 good.stage.2.0 good.stage.3
    (results_listed ts a b good.stage.2.1.0 good.stage.4.0) good.stage.2.1.1 good.stage.4.1 fits.1
good_made ts named ss fs stage (Gap k n) good fine fits = absurd fits
good_made ts named ss fs stage (Member field) good fine fits = absurd fits.0
good_made ts named ss fs stage Closed good fine fits = absurd fits
good_made ts named ss fs stage (Half r t) good fine fits = absurd fits.0
good_made ts named ss fs stage (Stated returns n args) good fine fits = absurd fits.0

pub good_with : (parts : Parts) (row : Row) → IsGood parts → IsRow row → Fits parts row → IsGood (with_row parts row)
good_with parts row good fine fits = good_made parts.typedefs parts.named parts.structs parts.functions parts.stage row good fine fits

-- lines that may follow one another
pub good_all : (parts : Parts) (rows : List Row) (last : Parts) → IsGood parts → All IsRow rows → Accepts parts rows last → IsGood last
good_all parts [] last good fine all = subst IsGood all good
good_all parts (row ∷ rows) last good fine all =
    good_all (with_row parts row) rows last (good_with parts row good (All-head IsRow row rows fine) all.0) (All-tail IsRow row rows fine) all.1
