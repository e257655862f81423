-- What is needed of a header that is read in part so that lines can end it: room for the types that are left.
use Rattle.std.proofs.Common.{◌≡◌, ℕ, zero, suc, ◌+◌, ◌-◌, ◌*◌, ◌/◌, ◌<◌, ◌≤◌, ◌^◌, ◌==◌, ◌⊎◌, inl, inr, Bool, true, false, if◌then◌else◌, List, [], ◌∷◌, ◌++◌, All, Contains, length, refl, ap, sym, subst, ◌∙◌, arith}
use Rattle.std.specs.List.{flat_map}
use Rattle.std.proofs.lemmas.Bool.Decides.{nat_tests}
use Rattle.std.proofs.lemmas.List.{length-map, length_push}
use Rattle.std.proofs.lemmas.List.Elements.{All-head, All-tail, All-contains, Contains-append_left, Contains-append_cases}
use Rattle.rt_base.proofs.Lists.{Contains-none}
use Rattle.rt_lines.specs.declared.label.Loc.{Loc}
use Rattle.rt_cdecl.specs.declared.declarations.CType.{CType}
use Rattle.rt_cdecl.specs.declared.declarations.CType.TheVariants.{Unused, Scalar, Pointer}
use Rattle.rt_cdecl.specs.declared.declarations.CField.{CField}
use Rattle.rt_cdecl.specs.declared.declarations.CStruct.{CStruct}
use Rattle.rt_cdecl.specs.declared.declarations.CFunction.{CFunction}
use Rattle.rt_cdecl.specs.declared.kinds.Counts.{Counts}
use Rattle.rt_cdecl.specs.Types.{bits_of, end_of, IsType, IsWide, IsPresent}
use Rattle.rt_cdecl.specs.Rows.{Row, Typedef, Named, Opened, Gap, Member, Closed, Pair, Half, Stated, Returns, Nothing, Value, Both}
use Rattle.rt_cdecl.specs.GoodDecls.{IsLastPresent, IsArgument, arg_types, named_types, used_types, function_numbers}
use Rattle.rt_cdecl.specs.Inside.GoodRows.{IsRow, IsReturned}
use Rattle.rt_cdecl.specs.Inside.Drafts.{Stage, Idle, InStruct, InPair, HalfRead, BothRead, PairClosed, Parts, with_row, Fits, Accepts, IsWhole, IsListed, least_after, MayReturn, stated_of, line_types, returned_types, stage_types}
use Rattle.rt_cdecl.specs.Inside.Endings.{CanEnd, AreApart, AreLeft, AreCounted, HasPresent, FitStruct, FitFunctions, HasRoomIn, HasRoom, row_types}
use Rattle.rt_cdecl.proofs.Sound.{made, none_left}
use Rattle.rt_cdecl.proofs.Runs.{least_push}
use Rattle.rt_cdecl.proofs.Kept.{IsGood, IsGoodStage}
use Rattle.rt_cdecl.proofs.KindSets.{all_types, unused_has}
use Rattle.rt_cdecl.proofs.Phases.{IsPhase, IsPhased, used_all, listed_all}
use Rattle.rt_cdecl.proofs.Weights.{total, total-append, apart_total, kinds_apart, char_weight, narrow_weight, wide_weight, total_chars, total_narrow, total_wide}

-- functions alone can follow
abbrev IsLater : Stage → List CStruct → List CFunction → Type 0
IsLater Idle ss fs = ss ≡ [] → fs ≡ [] → ⊥
IsLater (InStruct fields from gapped) ss fs = ⊥
IsLater (InPair n) ss fs = n < 2 ^ 32
IsLater (HalfRead n a) ss fs = n < 2 ^ 32
IsLater (BothRead n a b) ss fs = n < 2 ^ 32
IsLater (PairClosed n a b) ss fs = n < 2 ^ 32

abbrev IsLast : Parts → Type 0
IsLast parts = (length parts.structs ≡ parts.named) × IsLater parts.stage parts.structs parts.functions

no_push : {X : Type 0} (xs : List X) (x : X) → xs ++ x ∷ [] ≡ [] → ⊥
no_push [] x same = cc
no_push (y ∷ xs) x same = cc

last_made : (ts : List CType) (named : ℕ) (ss : List CStruct) (fs : List CFunction) (stage : Stage) (row : Row) → IsLast (made ts named ss fs stage) → IsRow row → Fits (made ts named ss fs stage) row → IsLast (with_row (made ts named ss fs stage) row)
last_made ts named ss fs stage (Typedef t) last good fits =
    let later : IsLater Idle ss fs = subst (λ s. IsLater s ss fs) fits.0 last.1 in
    let count : length ss ≡ named = last.0 in
    absurd (later (none_left ss named (omega (arith, count)) fits.1) fits.2)
last_made ts named ss fs stage (Named n) last good fits =
    let later : IsLater Idle ss fs = subst (λ s. IsLater s ss fs) fits.0 last.1 in
    absurd (later fits.1 fits.2)
last_made ts named ss fs stage (Opened n) last good fits =
    let count : length ss ≡ named = last.0 in
    let at : n ≡ length ss = fits.2 in
    let less : n < named = fits.3 in
    absurd (omega (arith, count, at, less))
last_made ts named ss fs stage (Pair n) last good fits = (last.0, good)
last_made ts named ss fs (InPair m) (Half zero t) last good fits = last
last_made ts named ss fs (HalfRead m a) (Half (suc zero) t) last good fits = last
last_made ts named ss fs (BothRead m a b) Closed last good fits = last
last_made ts named ss fs Idle (Stated returns n args) last good fits = (last.0, λ none empty. no_push fs (stated_of Idle returns n args) empty)
last_made ts named ss fs (PairClosed m a b) (Stated returns n args) last good fits = (last.0, λ none empty. no_push fs (stated_of (PairClosed m a b) returns n args) empty)
last_made ts named ss fs (InStruct fields from gapped) (Gap k n) last good fits = absurd last.1
last_made ts named ss fs (InStruct fields from gapped) (Member field) last good fits = absurd last.1
last_made ts named ss fs (InStruct fields from gapped) Closed last good fits = absurd last.1
last_made ts named ss fs stage (Gap k n) last good fits = absurd fits
last_made ts named ss fs stage (Member field) last good fits = absurd fits.0
last_made ts named ss fs stage Closed last good fits = absurd fits
last_made ts named ss fs stage (Half r t) last good fits = absurd fits.0
last_made ts named ss fs stage (Stated returns n args) last good fits = absurd fits.0

last_with : (parts : Parts) (row : Row) → IsLast parts → IsRow row → Fits parts row → IsLast (with_row parts row)
last_with parts row last good fits = last_made parts.typedefs parts.named parts.structs parts.functions parts.stage row last good fits

-- how many types of 32 bits functions have room for
abbrev room : Stage → List CFunction → ℕ
room Idle fs = 16394 * (2 ^ 32 - least_after 0 (function_numbers fs))
room (InStruct fields from gapped) fs = 0
room (InPair n) fs = 16394 * (2 ^ 32 - n)
room (HalfRead n a) fs = 16394 * (2 ^ 32 - n) - 1
room (BothRead n a b) fs = 16394 * (2 ^ 32 - n) - 2
room (PairClosed n a b) fs = 16394 * (2 ^ 32 - n) - 2

-- the weights of what a line uses
abbrev bit : Bool → ℕ
bit b = if b then 1 else 0

bit_few : (b : Bool) → bit b + 0 ≤ 1
bit_few true = omega arith
bit_few false = omega arith

wide_one : (t : CType) → total wide_weight (named_types t) ≤ 1
wide_one Unused = omega arith
wide_one (Scalar name bits) = bit_few (bits == 32)
wide_one (Pointer n) = omega arith

wide_args : (us : List CType) → total wide_weight (flat_map named_types us) ≤ length us
wide_args [] = omega arith
wide_args (u ∷ us) =
    let here = wide_one u in
    let rest = wide_args us in
    let whole = total-append wide_weight (named_types u) (flat_map named_types us) in
    omega (arith, here, rest, whole)

wide_line : (returns : Returns) (args : List (Loc × CType)) (k : ℕ) → total wide_weight (returned_types returns) ≤ k → total wide_weight (line_types returns args) ≤ length args + k
wide_line returns args k few =
    let given = wide_args (arg_types args) in
    let count : length (arg_types args) ≡ length args = length-map args (λ (arg : Loc × CType). arg.1) in
    let whole = total-append wide_weight (flat_map named_types (arg_types args)) (returned_types returns) in
    omega (arith, given, count, whole, few)

narrow_one : (t : CType) → IsWide t → total narrow_weight (named_types t) ≡ 0
narrow_one Unused wide = refl
narrow_one (Scalar name bits) wide = subst (λ b. total narrow_weight (Scalar name b ∷ []) ≡ 0) (sym wide.1) refl
narrow_one (Pointer n) wide = refl

narrow_args : (us : List CType) → All IsWide us → total narrow_weight (flat_map named_types us) ≡ 0
narrow_args [] wide = refl
narrow_args (u ∷ us) wide =
    let here = narrow_one u (All-head IsWide u us wide) in
    let rest = narrow_args us (All-tail IsWide u us wide) in
    let whole = total-append narrow_weight (named_types u) (flat_map named_types us) in
    omega (arith, here, rest, whole)

narrow_line : (returns : Returns) (args : List (Loc × CType)) → All IsArgument args → total narrow_weight (returned_types returns) ≡ 0 → total narrow_weight (line_types returns args) ≡ 0
narrow_line returns args wide none =
    let given = narrow_args (arg_types args) ((all_types IsWide args).0 wide) in
    let whole = total-append narrow_weight (flat_map named_types (arg_types args)) (returned_types returns) in
    omega (arith, given, none, whole)

narrow_returned : (returns : Returns) (n : ℕ) (args : List (Loc × CType)) → IsRow (Stated returns n args) → total narrow_weight (returned_types returns) ≡ 0
narrow_returned Nothing n args good = refl
narrow_returned (Value t) n args good = narrow_one t good.0.0
narrow_returned Both n args good = refl

-- a line of functions uses nothing narrow, and no more than its part of the room
narrow_made : (ts : List CType) (named : ℕ) (ss : List CStruct) (fs : List CFunction) (stage : Stage) (row : Row) → IsLast (made ts named ss fs stage) → IsRow row → Fits (made ts named ss fs stage) row → total narrow_weight (row_types row) ≡ 0
narrow_made ts named ss fs stage (Typedef t) last good fits = refl
narrow_made ts named ss fs stage (Named n) last good fits = refl
narrow_made ts named ss fs stage (Opened n) last good fits = refl
narrow_made ts named ss fs stage (Gap k n) last good fits = refl
narrow_made ts named ss fs (InStruct fields from gapped) (Member field) last good fits = absurd last.1
narrow_made ts named ss fs stage (Member field) last good fits = absurd fits.0
narrow_made ts named ss fs stage Closed last good fits = refl
narrow_made ts named ss fs stage (Pair n) last good fits = refl
narrow_made ts named ss fs stage (Half r t) last good fits = narrow_one t good.1
narrow_made ts named ss fs stage (Stated returns n args) last good fits = let given = good.2 in narrow_line returns args given.types (narrow_returned returns n args good)

stated_room : (used least n next : ℕ) → used ≤ 16393 → least ≤ n → n < 2 ^ 32 → next ≡ n + 1 → used + 16394 * (2 ^ 32 - next) ≤ 16394 * (2 ^ 32 - least)
stated_room used least n next few low small is = omega arith

both_room : (used m n next : ℕ) → used ≤ 16392 → n ≡ m → n < 2 ^ 32 → next ≡ n + 1 → used + 16394 * (2 ^ 32 - next) ≤ 16394 * (2 ^ 32 - m) - 2
both_room used m n next few same small is = omega arith

pair_room : (least n : ℕ) → least ≤ n → 0 + 16394 * (2 ^ 32 - n) ≤ 16394 * (2 ^ 32 - least)
pair_room least n low = omega arith

half_room : (used n : ℕ) → used ≤ 1 → n < 2 ^ 32 → used + (16394 * (2 ^ 32 - n) - 1) ≤ 16394 * (2 ^ 32 - n)
half_room used n few small = omega arith

second_room : (used n : ℕ) → used ≤ 1 → n < 2 ^ 32 → used + (16394 * (2 ^ 32 - n) - 2) ≤ 16394 * (2 ^ 32 - n) - 1
second_room used n few small = omega arith

wide_made : (ts : List CType) (named : ℕ) (ss : List CStruct) (fs : List CFunction) (stage : Stage) (row : Row) → IsLast (made ts named ss fs stage) → IsRow row → Fits (made ts named ss fs stage) row →
    total wide_weight (row_types row) + room (with_row (made ts named ss fs stage) row).stage (with_row (made ts named ss fs stage) row).functions ≤ room stage fs
wide_made ts named ss fs stage (Typedef t) last good fits = omega arith
wide_made ts named ss fs stage (Named n) last good fits = omega arith
wide_made ts named ss fs stage (Opened n) last good fits = omega arith
wide_made ts named ss fs stage (Pair n) last good fits = subst (λ s. 0 + room (InPair n) fs ≤ room s fs) (sym fits.0) (pair_room (least_after 0 (function_numbers fs)) n fits.1.1)
wide_made ts named ss fs (InPair m) (Half zero t) last good fits = half_room (total wide_weight (named_types t)) m (wide_one t) last.1
wide_made ts named ss fs (HalfRead m a) (Half (suc zero) t) last good fits = second_room (total wide_weight (named_types t)) m (wide_one t) last.1
wide_made ts named ss fs (BothRead m a b) Closed last good fits = omega arith
wide_made ts named ss fs Idle (Stated Nothing n args) last good fits =
    let given = good.2 in let few = given.few in
    let most : total wide_weight (line_types Nothing args) ≤ length args + 0 = wide_line Nothing args 0 (omega arith) in
    stated_room (total wide_weight (line_types Nothing args)) (least_after 0 (function_numbers fs)) n _ (omega (arith, few, most)) fits.0.1 good.1 (least_push fs (stated_of Idle Nothing n args))
wide_made ts named ss fs Idle (Stated (Value t) n args) last good fits =
    let given = good.2 in let few = given.few in
    let most : total wide_weight (line_types (Value t) args) ≤ length args + 1 = wide_line (Value t) args 1 (wide_one t) in
    stated_room (total wide_weight (line_types (Value t) args)) (least_after 0 (function_numbers fs)) n _ (omega (arith, few, most)) fits.0.0.1 good.1 (least_push fs (stated_of Idle (Value t) n args))
wide_made ts named ss fs (PairClosed m a b) (Stated Both n args) last good fits =
    let given = good.2 in let few = given.few in
    let most : total wide_weight (line_types Both args) ≤ length args + 0 = wide_line Both args 0 (omega arith) in
    both_room (total wide_weight (line_types Both args)) m n _ (omega (arith, few, most)) fits.0 good.1 (least_push fs (stated_of (PairClosed m a b) Both n args))
wide_made ts named ss fs (InStruct fields from gapped) row last good fits = absurd last.1
wide_made ts named ss fs stage (Gap k n) last good fits = absurd fits
wide_made ts named ss fs stage (Member field) last good fits = absurd fits.0
wide_made ts named ss fs stage Closed last good fits = absurd fits
wide_made ts named ss fs stage (Half r t) last good fits = absurd fits.0
wide_made ts named ss fs stage (Stated returns n args) last good fits = absurd fits.0

wide_all : (parts : Parts) (rows : List Row) (last : Parts) → IsLast parts → All IsRow rows → Accepts parts rows last → total wide_weight (flat_map row_types rows) ≤ room parts.stage parts.functions
wide_all parts [] last later good all = omega arith
wide_all parts (row ∷ rows) last later good all =
    let fine : IsRow row = All-head IsRow row rows good in
    let here = wide_made parts.typedefs parts.named parts.structs parts.functions parts.stage row later fine all.0 in
    let rest = wide_all (with_row parts row) rows last (last_with parts row later fine all.0) (All-tail IsRow row rows good) all.1 in
    let whole = total-append wide_weight (row_types row) (flat_map row_types rows) in
    omega (arith, here, rest, whole)

narrow_all : (parts : Parts) (rows : List Row) (last : Parts) → IsLast parts → All IsRow rows → Accepts parts rows last → total narrow_weight (flat_map row_types rows) ≡ 0
narrow_all parts [] last later good all = refl
narrow_all parts (row ∷ rows) last later good all =
    let fine : IsRow row = All-head IsRow row rows good in
    let here = narrow_made parts.typedefs parts.named parts.structs parts.functions parts.stage row later fine all.0 in
    let rest = narrow_all (with_row parts row) rows last (last_with parts row later fine all.0) (All-tail IsRow row rows good) all.1 in
    let whole = total-append narrow_weight (row_types row) (flat_map row_types rows) in
    omega (arith, here, rest, whole)

-- a type of something that is listed
has_present : (parts : Parts) (t : CType) → IsListed parts t → IsPresent t → IsWide t → HasPresent parts
has_present parts Unused listed here wide = absurd here
has_present parts (Scalar name bits) listed here wide =
    inr (name, subst (λ b. Contains parts.typedefs (Scalar name b)) wide.1 (All-head (Contains parts.typedefs) (Scalar name bits) [] listed.0))
has_present parts (Pointer n) listed here wide = let low : n < parts.named = listed.1 in inl (omega (arith, low))

args_present : (parts : Parts) (us : List CType) → (us ≡ [] → ⊥) → IsLastPresent us → All (IsListed parts) us → All IsWide us → HasPresent parts
args_present parts [] some last listed wide = absurd (some refl)
args_present parts (u ∷ []) some last listed wide = has_present parts u (All-head (IsListed parts) u [] listed) last (All-head IsWide u [] wide)
args_present parts (u ∷ v ∷ us) some last listed wide =
    args_present parts (v ∷ us) (λ e. let clash : v ∷ us ≡ [] = e in cc) last (All-tail (IsListed parts) u (v ∷ us) listed) (All-tail IsWide u (v ∷ us) wide)

-- after the first result of a pair something present comes second
second_present : (ts : List CType) (named : ℕ) (ss : List CStruct) (fs : List CFunction) (n : ℕ) (a : CType) (row : Row) → IsRow row → Fits (made ts named ss fs (HalfRead n a)) row → HasPresent (made ts named ss fs (HalfRead n a))
second_present ts named ss fs n a (Half (suc zero) t) good fits = has_present (made ts named ss fs (HalfRead n a)) t fits.1 fits.0 good.1
second_present ts named ss fs n a (Half zero t) good fits = absurd fits.0
second_present ts named ss fs n a (Half (suc (suc r)) t) good fits = absurd fits.0
second_present ts named ss fs n a (Typedef t) good fits = absurd (let clash : HalfRead n a ≡ Idle = fits.0 in cc)
second_present ts named ss fs n a (Named k) good fits = absurd (let clash : HalfRead n a ≡ Idle = fits.0 in cc)
second_present ts named ss fs n a (Opened k) good fits = absurd (let clash : HalfRead n a ≡ Idle = fits.0 in cc)
second_present ts named ss fs n a (Pair k) good fits = absurd (let clash : HalfRead n a ≡ Idle = fits.0 in cc)
second_present ts named ss fs n a (Gap k m) good fits = absurd fits
second_present ts named ss fs n a (Member field) good fits = absurd fits.0
second_present ts named ss fs n a Closed good fits = absurd fits
second_present ts named ss fs n a (Stated returns m args) good fits = absurd fits.0

half_present : (ts : List CType) (named : ℕ) (ss : List CStruct) (fs : List CFunction) (n : ℕ) (a : CType) (rows : List Row) (last : Parts) → All IsRow rows → Accepts (made ts named ss fs (HalfRead n a)) rows last → IsWhole last → HasPresent (made ts named ss fs (HalfRead n a))
half_present ts named ss fs n a [] last good all whole = absurd (let clash : HalfRead n a ≡ Idle = ap (λ (p : Parts). p.stage) all ∙ whole.0 in cc)
half_present ts named ss fs n a (row ∷ rows) last good all whole = second_present ts named ss fs n a row (All-head IsRow row rows good) all.0

first_present : (ts : List CType) (named : ℕ) (ss : List CStruct) (fs : List CFunction) (n : ℕ) (row : Row) (rows : List Row) (last : Parts) → IsRow row → Fits (made ts named ss fs (InPair n)) row → All IsRow rows → Accepts (with_row (made ts named ss fs (InPair n)) row) rows last → IsWhole last → HasPresent (made ts named ss fs (InPair n))
first_present ts named ss fs n (Half zero t) rows last fine fits good all whole = half_present ts named ss fs n t rows last good all whole
first_present ts named ss fs n (Half (suc r) t) rows last fine fits good all whole = absurd fits.0
first_present ts named ss fs n (Typedef t) rows last fine fits good all whole = absurd (let clash : InPair n ≡ Idle = fits.0 in cc)
first_present ts named ss fs n (Named k) rows last fine fits good all whole = absurd (let clash : InPair n ≡ Idle = fits.0 in cc)
first_present ts named ss fs n (Opened k) rows last fine fits good all whole = absurd (let clash : InPair n ≡ Idle = fits.0 in cc)
first_present ts named ss fs n (Pair k) rows last fine fits good all whole = absurd (let clash : InPair n ≡ Idle = fits.0 in cc)
first_present ts named ss fs n (Gap k m) rows last fine fits good all whole = absurd fits
first_present ts named ss fs n (Member field) rows last fine fits good all whole = absurd fits.0
first_present ts named ss fs n Closed rows last fine fits good all whole = absurd fits
first_present ts named ss fs n (Stated returns m args) rows last fine fits good all whole = absurd fits.0

pair_present : (ts : List CType) (named : ℕ) (ss : List CStruct) (fs : List CFunction) (n : ℕ) (rows : List Row) (last : Parts) → All IsRow rows → Accepts (made ts named ss fs (InPair n)) rows last → IsWhole last → HasPresent (made ts named ss fs (InPair n))
pair_present ts named ss fs n [] last good all whole = absurd (let clash : InPair n ≡ Idle = ap (λ (p : Parts). p.stage) all ∙ whole.0 in cc)
pair_present ts named ss fs n (row ∷ rows) last good all whole = first_present ts named ss fs n row rows last (All-head IsRow row rows good) all.0 (All-tail IsRow row rows good) all.1 whole

some_line : (parts : Parts) (returns : Returns) (args : List (Loc × CType)) (n : ℕ) (t : CType) → IsRow (Stated returns n args) → MayReturn parts parts.stage returns n → All (IsListed parts) (arg_types args) → Contains (line_types returns args) t → HasPresent parts
some_line parts returns args n t good may listed h = elim (Contains-append_cases (flat_map named_types (arg_types args)) (returned_types returns) t h) [
  | inl a ↦ let given = good.2 in args_present parts (arg_types args) (λ none. Contains-none t (subst (λ us. Contains (flat_map named_types us) t) none a)) given.used listed ((all_types IsWide args).0 given.types)
  | inr b ↦ returned parts returns n parts.stage good.0 may b
]
  where
    returned : (parts : Parts) (returns : Returns) (n : ℕ) (stage : Stage) → IsReturned returns → MayReturn parts stage returns n → Contains (returned_types returns) t → HasPresent parts
    returned parts Nothing n stage fine may b = absurd (Contains-none t b)
    returned parts (Value u) n Idle fine may b = has_present parts u may.1 fine.1 fine.0
    returned parts (Value u) n (InStruct fields from gapped) fine may b = absurd may
    returned parts (Value u) n (InPair m) fine may b = absurd may
    returned parts (Value u) n (HalfRead m a) fine may b = absurd may
    returned parts (Value u) n (BothRead m a c) fine may b = absurd may
    returned parts (Value u) n (PairClosed m a c) fine may b = absurd may
    returned parts Both n stage fine may b = absurd (Contains-none t b)

unused_here : (ts : List CType) (named : ℕ) (ss : List CStruct) (fs : List CFunction) (stage : Stage) (row : Row) (rows : List Row) (last : Parts) → IsLast (made ts named ss fs stage) → IsRow row → Fits (made ts named ss fs stage) row → All IsRow rows → Accepts (with_row (made ts named ss fs stage) row) rows last → IsWhole last →
    Contains (row_types row) Unused → HasPresent (made ts named ss fs stage)
unused_here ts named ss fs stage (Typedef t) rows last later fine fits good all whole h = absurd (Contains-none Unused h)
unused_here ts named ss fs stage (Named n) rows last later fine fits good all whole h = absurd (Contains-none Unused h)
unused_here ts named ss fs stage (Opened n) rows last later fine fits good all whole h = absurd (Contains-none Unused h)
unused_here ts named ss fs stage (Gap k n) rows last later fine fits good all whole h = absurd (Contains-none Unused h)
unused_here ts named ss fs stage Closed rows last later fine fits good all whole h = absurd (Contains-none Unused h)
unused_here ts named ss fs stage (Pair n) rows last later fine fits good all whole h = absurd (Contains-none Unused h)
unused_here ts named ss fs (InStruct fields from gapped) (Member field) rows last later fine fits good all whole h = absurd later.1
unused_here ts named ss fs stage (Member field) rows last later fine fits good all whole h = absurd fits.0
unused_here ts named ss fs (InPair n) (Half zero t) rows last later fine fits good all whole h = half_present ts named ss fs n t rows last good all whole
unused_here ts named ss fs (HalfRead n a) (Half (suc zero) t) rows last later fine fits good all whole h = has_present (made ts named ss fs (HalfRead n a)) t fits.1 fits.0 fine.1
unused_here ts named ss fs stage (Half r t) rows last later fine fits good all whole h = absurd fits.0
unused_here ts named ss fs stage (Stated returns n args) rows last later fine fits good all whole h = some_line (made ts named ss fs stage) returns args n Unused fine fits.0 fits.1 h

-- where functions alone can follow a type that can be written can be written before
present_back : (parts : Parts) (row : Row) → IsLast parts → Fits parts row → HasPresent (with_row parts row) → HasPresent parts
present_back parts (Typedef t) later fits has =
    let off : IsLater Idle parts.structs parts.functions = subst (λ s. IsLater s parts.structs parts.functions) fits.0 later.1 in
    let count : length parts.structs ≡ parts.named = later.0 in
    absurd (off (none_left parts.structs parts.named (omega (arith, count)) fits.1) fits.2)
present_back parts (Named n) later fits has = absurd ((subst (λ s. IsLater s parts.structs parts.functions) fits.0 later.1) fits.1 fits.2)
present_back parts (Opened n) later fits has = has
present_back parts (Gap k n) later fits has = has
present_back parts (Member field) later fits has = has
present_back parts Closed later fits has = has
present_back parts (Pair n) later fits has = has
present_back parts (Half r t) later fits has = has
present_back parts (Stated returns n args) later fits has = has

unused_all : (parts : Parts) (rows : List Row) (last : Parts) → IsLast parts → All IsRow rows → Accepts parts rows last → IsWhole last → Contains (flat_map row_types rows) Unused → HasPresent parts
unused_all parts [] last later good all whole h = absurd (Contains-none Unused h)
unused_all parts (row ∷ rows) last later good all whole h =
    let fine : IsRow row = All-head IsRow row rows good in
    let fines : All IsRow rows = All-tail IsRow row rows good in
    elim (Contains-append_cases (row_types row) (flat_map row_types rows) Unused h) [
      | inl a ↦ unused_here parts.typedefs parts.named parts.structs parts.functions parts.stage row rows last later fine all.0 fines all.1 whole a
      | inr b ↦ present_back parts row later all.0 (unused_all (with_row parts row) rows last (last_with parts row later fine all.0) fines all.1 whole b)
    ]

-- the narrow types of a struct's fields, from an end on
abbrev FitFrom : ℕ → ℕ → ℕ → Type 0
FitFrom from c x = ((c + from ≤ 2 ^ 31) × (x + from ≤ 2 ^ 31 + 1)) ⊎ ((c ≡ 0) × (x ≡ 0))

fit_more : (from next c x a b : ℕ) → from < 2 ^ 31 → next ≡ from + b → a ≤ b → b ≤ 2 → a ≤ 1 → FitFrom next c x → FitFrom from (a + c) (b + x)
fit_more from next c x a b low is less two one (inl (p, q)) = inl (omega arith, omega arith)
fit_more from next c x a b low is less two one (inr (p, q)) = inl (omega arith, omega arith)

fit_later : (from next c x : ℕ) → from ≤ next → FitFrom next c x → FitFrom from (0 + c) (0 + x)
fit_later from next c x low (inl (p, q)) = inl (omega arith, omega arith)
fit_later from next c x low (inr (p, q)) = inr (omega arith, omega arith)

member_fit : (t : CType) (from c x : ℕ) → IsType t → IsPresent t → from < 2 ^ 31 → FitFrom (from + bits_of t / 8) c x → FitFrom from (total char_weight (named_types t) + c) (total narrow_weight (named_types t) + x)
member_fit Unused from c x good here low fit = absurd here
member_fit (Pointer n) from c x good here low fit = fit_later from (from + 4) c x (omega arith) fit
member_fit (Scalar name bits) from c x good here low fit = by good.1
  where
    Goal : ℕ → Type 0
    Goal b = FitFrom (from + b / 8) c x → FitFrom from (total char_weight (Scalar name b ∷ []) + c) (total narrow_weight (Scalar name b ∷ []) + x)

    by : (bits ≡ 8) ⊎ ((bits ≡ 16) ⊎ (bits ≡ 32)) → FitFrom from (total char_weight (Scalar name bits ∷ []) + c) (total narrow_weight (Scalar name bits ∷ []) + x)
    by (inl e) = subst Goal (sym e) (λ h. fit_more from (from + 1) c x 1 1 low refl (omega arith) (omega arith) (omega arith) h) fit
    by (inr (inl e)) = subst Goal (sym e) (λ h. fit_more from (from + 2) c x 0 2 low refl (omega arith) (omega arith) (omega arith) h) fit
    by (inr (inr e)) = subst Goal (sym e) (λ h. fit_later from (from + 4) c x (omega arith) h) fit

chars_few : (ts : List CType) → total char_weight ts ≤ total narrow_weight ts
chars_few [] = omega arith
chars_few (t ∷ ts) =
    let here = one t in
    let rest = chars_few ts in
    omega (arith, here, rest)
  where
    nested : (a b : Bool) → (if a then 1 else 0) ≤ (if a then 1 else if b then 2 else 0)
    nested true b = omega arith
    nested false true = omega arith
    nested false false = omega arith

    one : (u : CType) → char_weight u ≤ narrow_weight u
    one Unused = omega arith
    one (Scalar name bits) = nested (bits == 8) (bits == 16)
    one (Pointer n) = omega arith

abbrev FitRows : List Row → ℕ → Type 0
FitRows rows from = FitFrom from (total char_weight (flat_map row_types rows)) (total narrow_weight (flat_map row_types rows))

-- after the last struct nothing narrow is used
closed_fit : (parts : Parts) (rows : List Row) (last : Parts) (from : ℕ) → IsLast parts → All IsRow rows → Accepts parts rows last → FitRows rows from
closed_fit parts rows last from later good all =
    let none = narrow_all parts rows last later good all in
    let few = chars_few (flat_map row_types rows) in
    inr (omega (arith, none, few), none)

fit_row : (ts : List CType) (named : ℕ) (ss : List CStruct) (fs : List CFunction) (fields : List CField) (from : ℕ) (gapped : Bool) (row : Row) (rows : List Row) (last : Parts) → length ss + 1 ≡ named → IsRow row → Fits (made ts named ss fs (InStruct fields from gapped)) row → All IsRow rows → Accepts (with_row (made ts named ss fs (InStruct fields from gapped)) row) rows last →
    ((fields : List CField) (from : ℕ) (gapped : Bool) → Accepts (made ts named ss fs (InStruct fields from gapped)) rows last → FitRows rows from) →
    FitFrom from (total char_weight (row_types row) + total char_weight (flat_map row_types rows)) (total narrow_weight (row_types row) + total narrow_weight (flat_map row_types rows))
fit_row ts named ss fs fields from false (Gap k n) rows last count fine fits good all next = fit_later from (from + n) _ _ (omega arith) (next fields (from + n) true all)
fit_row ts named ss fs fields from true (Gap k n) rows last count fine fits good all next = absurd fits
fit_row ts named ss fs fields from gapped (Member field) rows last count fine fits good all next =
    let at : field.offset ≡ from = fits.0 in
    let low : field.offset < 2 ^ 31 = fine.2 in
    let more : FitRows rows (end_of field) = next (fields ++ field ∷ []) (end_of field) false all in
    member_fit field.kind from _ _ fine.0 fine.1 (omega (arith, at, low)) (subst (λ k. FitRows rows (k + bits_of field.kind / 8)) at more)
fit_row ts named ss fs fields from false Closed rows last count fine fits good all next =
    let s : CStruct = record { number = length ss; fields = fields } in
    let long : length (ss ++ s ∷ []) ≡ length ss + 1 = length_push ss s in
    fit_later from from _ _ (omega arith) (closed_fit (made ts named (ss ++ s ∷ []) fs Idle) rows last from (long ∙ count, λ none empty. no_push ss s none) good all)
fit_row ts named ss fs fields from true Closed rows last count fine fits good all next = absurd fits
fit_row ts named ss fs fields from gapped (Typedef t) rows last count fine fits good all next = absurd (let clash : InStruct fields from gapped ≡ Idle = fits.0 in cc)
fit_row ts named ss fs fields from gapped (Named n) rows last count fine fits good all next = absurd (let clash : InStruct fields from gapped ≡ Idle = fits.0 in cc)
fit_row ts named ss fs fields from gapped (Opened n) rows last count fine fits good all next = absurd (let clash : InStruct fields from gapped ≡ Idle = fits.0 in cc)
fit_row ts named ss fs fields from gapped (Pair n) rows last count fine fits good all next = absurd (let clash : InStruct fields from gapped ≡ Idle = fits.0 in cc)
fit_row ts named ss fs fields from gapped (Half r t) rows last count fine fits good all next = absurd fits.0
fit_row ts named ss fs fields from gapped (Stated returns n args) rows last count fine fits good all next = absurd fits.0

fit_all : (ts : List CType) (named : ℕ) (ss : List CStruct) (fs : List CFunction) (rows : List Row) (last : Parts) → length ss + 1 ≡ named → All IsRow rows → (fields : List CField) (from : ℕ) (gapped : Bool) → Accepts (made ts named ss fs (InStruct fields from gapped)) rows last → FitRows rows from
fit_all ts named ss fs [] last count good fields from gapped all = inr (refl, refl)
fit_all ts named ss fs (row ∷ rows) last count good fields from gapped all =
    let one = fit_row ts named ss fs fields from gapped row rows last count (All-head IsRow row rows good) all.0 (All-tail IsRow row rows good) all.1
    (fit_all ts named ss fs rows last count (All-tail IsRow row rows good)) in
    subst (λ c. FitFrom from c (total narrow_weight (flat_map row_types (row ∷ rows)))) (sym (total-append char_weight (row_types row) (flat_map row_types rows)))
    (subst (λ x. FitFrom from (total char_weight (row_types row) + total char_weight (flat_map row_types rows)) x) (sym (total-append narrow_weight (row_types row) (flat_map row_types rows))) one)

-- a number is less than another or the same
pub less_or_same : (a b : ℕ) → a ≤ b → (a < b) ⊎ (a ≡ b)
less_or_same a b low = by (a == b) refl
  where
    by : (t : Bool) → (a == b) ≡ t → (a < b) ⊎ (a ≡ b)
    by true e = inr (grind (arith, nat_tests))
    by false e = inl (off e)
      where
        off : (a == b) ≡ false → a < b
        off e = grind (arith, nat_tests)

-- what is left is used by the lines that end the header
module _ (parts : Parts) (left : List CType) (counts : Counts) (good : IsGood parts) (phase : IsPhased parts) (leaves : AreLeft left parts) (counted : AreCounted left counts) (can : CanEnd parts) where
  used_later : (t : CType) → Contains left t → Contains (flat_map row_types can.rows) t
  used_later t h =
      let at = (leaves t).0 h in
      let listed : Contains can.last.typedefs t = listed_all parts can.rows can.last can.accepted t at.0 in
      let used : Contains (used_types can.last.structs can.last.functions) t = All-contains (Contains (used_types can.last.structs can.last.functions)) can.last.typedefs t can.whole.2 listed in
      elim (used_all parts can.rows can.last can.good can.accepted t (Contains-append_left (used_types can.last.structs can.last.functions) (stage_types can.last.stage) t used)) [
        | inl a ↦ absurd (at.1 a)
        | inr b ↦ b
      ]

  apart_left : AreApart left
  apart_left = subst AreApart (sym counted.are) (kinds_apart counts.unused counted.chars counted.shorts counted.ints counted.each_char counted.each_short counted.each_int)

  few_chars : counts.chars ≤ total char_weight (flat_map row_types can.rows)
  few_chars =
      let most = apart_total char_weight left (flat_map row_types can.rows) apart_left used_later in
      let is : total char_weight left ≡ length counted.chars = ap (total char_weight) counted.are ∙ total_chars counts.unused counted.chars counted.shorts counted.ints in
      let count = counted.chars_are in
      omega (arith, most, is, count)

  few_narrow : counts.chars + 2 * counts.shorts ≤ total narrow_weight (flat_map row_types can.rows)
  few_narrow =
      let most = apart_total narrow_weight left (flat_map row_types can.rows) apart_left used_later in
      let is : total narrow_weight left ≡ length counted.chars + 2 * length counted.shorts = ap (total narrow_weight) counted.are ∙ total_narrow counts.unused counted.chars counted.shorts counted.ints in
      let c = counted.chars_are in
      let s = counted.shorts_are in
      omega (arith, most, is, c, s)

  few_wide : bit counts.unused + counts.ints ≤ total wide_weight (flat_map row_types can.rows)
  few_wide =
      let most = apart_total wide_weight left (flat_map row_types can.rows) apart_left used_later in
      let is : total wide_weight left ≡ bit counts.unused + length counted.ints = ap (total wide_weight) counted.are ∙ total_wide counts.unused counted.chars counted.shorts counted.ints in
      let i = counted.ints_are in
      omega (arith, most, is, i)

  fits_later : (number taken : ℕ) → IsLast parts → room parts.stage parts.functions + taken ≤ 16394 * (2 ^ 32 - number) → FitFunctions parts counts number taken
  fits_later number taken later enough =
      let none = narrow_all parts can.rows can.last later can.good can.accepted in
      let narrow = few_narrow in
      let most = wide_all parts can.rows can.last later can.good can.accepted in
      let wide = few_wide in
      record {
        chars = omega (arith, none, narrow);
        shorts = omega (arith, none, narrow);
        room = omega (arith, most, wide, enough);
        present = λ w. unused_all parts can.rows can.last later can.good can.accepted can.whole (used_later Unused (subst (λ ts. Contains ts Unused) (sym counted.are) ((unused_has counts.unused counted.chars counted.shorts counted.ints).0 w)));
      }

  last_in : (s : Stage) → parts.stage ≡ s → length parts.structs ≡ parts.named → IsLater s parts.structs parts.functions → IsLast parts
  last_in s e count later = (count, subst (λ t. IsLater t parts.structs parts.functions) (sym e) later)

  phase_in : (s : Stage) → parts.stage ≡ s → IsPhase s parts.structs parts.named parts.functions
  phase_in s e = subst (λ t. IsPhase t parts.structs parts.named parts.functions) e phase

  good_in : (s : Stage) → parts.stage ≡ s → IsGoodStage parts.typedefs parts.named parts.structs parts.functions s
  good_in s e = subst (λ t. IsGoodStage parts.typedefs parts.named parts.structs parts.functions t) e good.stage

  accepted_in : (s : Stage) → parts.stage ≡ s → Accepts (made parts.typedefs parts.named parts.structs parts.functions s) can.rows can.last
  accepted_in s e = subst (λ t. Accepts (made parts.typedefs parts.named parts.structs parts.functions t) can.rows can.last) e can.accepted

  fits_in : (s : Stage) → parts.stage ≡ s → length parts.structs ≡ parts.named → IsLater s parts.structs parts.functions → (number taken : ℕ) → room s parts.functions + taken ≤ 16394 * (2 ^ 32 - number) → FitFunctions parts counts number taken
  fits_in s e count later number taken enough =
      fits_later number taken (last_in s e count later) (subst (λ t. room t parts.functions + taken ≤ 16394 * (2 ^ 32 - number)) (sym e) enough)

  idle_room : parts.stage ≡ Idle → length parts.structs ≡ parts.named → (ss : List CStruct) (fs : List CFunction) → parts.structs ≡ ss → parts.functions ≡ fs →
      ((parts.named ≡ 0) × (parts.functions ≡ [])) ⊎ FitFunctions parts counts (least_after 0 (function_numbers parts.functions)) 0
  idle_room e count [] [] a b = inl (sym count ∙ ap length a, b)
  idle_room e count (s ∷ ss) fs a b = inr (fits_in Idle e count (λ none empty. let clash : s ∷ ss ≡ [] = sym a ∙ none in cc) (least_after 0 (function_numbers parts.functions)) 0 (omega arith))
  idle_room e count [] (f ∷ fs) a b = inr (fits_in Idle e count (λ none empty. let clash : f ∷ fs ≡ [] = sym b ∙ empty in cc) (least_after 0 (function_numbers parts.functions)) 0 (omega arith))

  struct_room : (from : ℕ) → FitRows can.rows from → FitStruct from counts
  struct_room from (inl (p, q)) = let c = few_chars in let x = few_narrow in inr (omega (arith, p, c), omega (arith, q, x))
  struct_room from (inr (p, q)) = let x = few_narrow in inl (omega (arith, q, x), omega (arith, q, x))

  one_more : (n : ℕ) → n < 2 ^ 32 → (16394 * (2 ^ 32 - n) - 1) + 1 ≤ 16394 * (2 ^ 32 - n)
  one_more n small = omega arith

  two_more : (n : ℕ) → n < 2 ^ 32 → (16394 * (2 ^ 32 - n) - 2) + 2 ≤ 16394 * (2 ^ 32 - n)
  two_more n small = omega arith

  room_in : (s : Stage) → parts.stage ≡ s → HasRoomIn parts counts s
  room_in Idle e =
      elim (less_or_same (length parts.structs) parts.named good.few) [
        | inl less ↦ inl less
        | inr same ↦ inr (idle_room e same parts.structs parts.functions refl refl)
      ]
  room_in (InStruct fields from gapped) e =
      let within = phase_in (InStruct fields from gapped) e in
      let less : length parts.structs < parts.named = within.1 in
      elim (less_or_same (length parts.structs + 1) parts.named (omega (arith, less))) [
        | inl more ↦ inl more
        | inr same ↦ inr (struct_room from (fit_all parts.typedefs parts.named parts.structs parts.functions can.rows can.last same can.good fields from gapped (accepted_in (InStruct fields from gapped) e)))
      ]
  room_in (InPair n) e =
      let small = (good_in (InPair n) e).0 in (
        pair_present parts.typedefs parts.named parts.structs parts.functions n can.rows can.last can.good (accepted_in (InPair n) e) can.whole,
        fits_in (InPair n) e (phase_in (InPair n) e) small n 0 (omega arith),
      )
  room_in (HalfRead n a) e =
      let small = (good_in (HalfRead n a) e).0 in (
        half_present parts.typedefs parts.named parts.structs parts.functions n a can.rows can.last can.good (accepted_in (HalfRead n a) e) can.whole,
        fits_in (HalfRead n a) e (phase_in (HalfRead n a) e) small n 1 (one_more n small),
      )
  room_in (BothRead n a b) e = let small = (good_in (BothRead n a b) e).0 in fits_in (BothRead n a b) e (phase_in (BothRead n a b) e) small n 2 (two_more n small)
  room_in (PairClosed n a b) e = let small = (good_in (PairClosed n a b) e).0 in fits_in (PairClosed n a b) e (phase_in (PairClosed n a b) e) small n 2 (two_more n small)

  pub needs_room : HasRoom parts counts
  needs_room = room_in parts.stage refl
