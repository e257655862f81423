-- What is kept of a header that is read in part.
use Rattle.std.proofs.Common.{◌≡◌, ℕ, zero, suc, ◌+◌, ◌<◌, Bool, ◌↔◌, ◌⊎◌, inl, inr, IsTrue, List, [], ◌∷◌, ◌++◌, All, Contains, length, refl, ap, sym, subst, ◌∙◌, append_assoc, append-nil}
use Rattle.std.specs.List.{flat_map}
use Rattle.std.proofs.lemmas.Grind.{flat_map-append}
use Rattle.std.proofs.lemmas.List.Elements.{All-head, All-nil, All-cons, Contains-append_left, Contains-append_right, Contains-append_cases}
use Rattle.rt_base.proofs.Lists.{Contains-none}
use Rattle.rt_lines.specs.declared.label.Loc.{Loc}
use Rattle.rt_cdecl.specs.declared.declarations.CType.{CType}
use Rattle.rt_cdecl.specs.declared.declarations.CType.TheVariants.{Unused, Scalar, Pointer}
use Rattle.rt_cdecl.specs.declared.declarations.CField.{CField}
use Rattle.rt_cdecl.specs.declared.declarations.CStruct.{CStruct}
use Rattle.rt_cdecl.specs.declared.declarations.CFunction.{CFunction}
use Rattle.rt_cdecl.specs.Types.{IsPresent}
use Rattle.rt_cdecl.specs.Rows.{Returns, Nothing, Value, Both}
use Rattle.rt_cdecl.specs.GoodDecls.{LeadsBelow, arg_types, named_types, struct_types, result_types, function_types, used_types, function_numbers}
use Rattle.rt_cdecl.specs.Inside.GoodRows.{IsReturned}
use Rattle.rt_cdecl.specs.Inside.Drafts.{Stage, Idle, InStruct, InPair, HalfRead, BothRead, PairClosed, Parts, stated_of, closed_structs, closed_stage, gapped_of, member_of, half_of, least_after, BeginsAt, MayClose, MayHalf, MayReturn, Adds, stage_types, returned_types, line_types, AreNoted}
use Rattle.rt_cdecl.proofs.Runs.{least_push}

-- a type that is listed
pub listed_pointer : (ts : List CType) (named n : ℕ) (t : CType) (r : Bool) → t ≡ Pointer n → IsTrue r ↔ (n < named) → IsTrue r ↔ (All (Contains ts) (named_types t) × LeadsBelow named t)
listed_pointer ts named n t r is test =
    subst (λ u. IsTrue r ↔ (All (Contains ts) (named_types u) × LeadsBelow named u)) (sym is) (λ h. (All-nil (Contains ts), test.0 h), λ h. test.1 h.1)

pub listed_type : (ts : List CType) (named : ℕ) (t : CType) (r : Bool) → ((n : ℕ) → t ≡ Pointer n → ⊥) → IsTrue r ↔ Contains ts t → IsTrue r ↔ (All (Contains ts) (named_types t) × LeadsBelow named t)
listed_type ts named Unused r off test =
    (λ h. (All-cons (Contains ts) Unused [] (test.0 h) (All-nil (Contains ts)), tt), λ h. test.1 (All-head (Contains ts) Unused [] h.0))
listed_type ts named (Scalar name bits) r off test =
    (λ h. (All-cons (Contains ts) (Scalar name bits) [] (test.0 h) (All-nil (Contains ts)), tt), λ h. test.1 (All-head (Contains ts) (Scalar name bits) [] h.0))
listed_type ts named (Pointer n) r off test = absurd (off n refl)

-- the types that were noted, in another stage
pub noted_same : (used : List CType) (ss : List CStruct) (fs : List CFunction) (stage next : Stage) → stage_types next ≡ stage_types stage → AreNoted used ss fs stage → AreNoted used ss fs next
noted_same used ss fs stage next same noted = subst (λ ts. (t : CType) → Contains used t ↔ Contains (used_types ss fs ++ ts) t) (sym same) noted

pub noted_opened : (used : List CType) (ss : List CStruct) (fs : List CFunction) (stage next : Stage) → stage ≡ Idle → stage_types next ≡ [] → AreNoted used ss fs stage → AreNoted used ss fs next
noted_opened used ss fs stage next idle none noted = noted_same used ss fs stage next (none ∙ ap stage_types (sym idle)) noted

gapped_types : (stage : Stage) (n : ℕ) → stage_types (gapped_of stage n) ≡ stage_types stage
gapped_types Idle n = refl
gapped_types (InStruct fields from gapped) n = refl
gapped_types (InPair m) n = refl
gapped_types (HalfRead m a) n = refl
gapped_types (BothRead m a b) n = refl
gapped_types (PairClosed m a b) n = refl

pub noted_gap : (used : List CType) (ss : List CStruct) (fs : List CFunction) (stage next : Stage) (n : ℕ) → next ≡ gapped_of stage n → AreNoted used ss fs stage → AreNoted used ss fs next
noted_gap used ss fs stage next n is noted = noted_same used ss fs stage next (ap stage_types is ∙ gapped_types stage n) noted

-- with types more
pub noted_more : (used new more : List CType) (ss : List CStruct) (fs : List CFunction) (stage next : Stage) → stage_types next ≡ stage_types stage ++ more → Adds used more new → AreNoted used ss fs stage → AreNoted new ss fs next
noted_more used new more ss fs stage next is added noted = λ t. (λ h. to t h, λ h. back t h)
  where
    whole : (used_types ss fs ++ stage_types stage) ++ more ≡ used_types ss fs ++ stage_types next
    whole = append_assoc (used_types ss fs) (stage_types stage) more ∙ ap (λ ts. used_types ss fs ++ ts) (sym is)

    to : (t : CType) → Contains new t → Contains (used_types ss fs ++ stage_types next) t
    to t h =
        subst (λ ts. Contains ts t) whole
        (elim ((added t).0 h) [
          | inl a ↦ Contains-append_left (used_types ss fs ++ stage_types stage) more t ((noted t).0 a)
          | inr b ↦ Contains-append_right (used_types ss fs ++ stage_types stage) more t b
        ])

    back : (t : CType) → Contains (used_types ss fs ++ stage_types next) t → Contains new t
    back t h =
        (added t).1
        (elim (Contains-append_cases (used_types ss fs ++ stage_types stage) more t (subst (λ ts. Contains ts t) (sym whole) h)) [ inl a ↦ inl ((noted t).1 a) | inr b ↦ inr b ])

member_types : (stage : Stage) (field : CField) → BeginsAt stage field.offset → stage_types (member_of stage field) ≡ stage_types stage ++ named_types field.kind
member_types (InStruct fields from gapped) field fits =
    flat_map-append (λ (f : CField). named_types f.kind) fields (field ∷ []) ∙ ap (λ r. flat_map (λ (f : CField). named_types f.kind) fields ++ r) (append-nil (named_types field.kind))
member_types Idle field fits = absurd fits
member_types (InPair m) field fits = absurd fits
member_types (HalfRead m a) field fits = absurd fits
member_types (BothRead m a b) field fits = absurd fits
member_types (PairClosed m a b) field fits = absurd fits

pub noted_field : (used new : List CType) (ss : List CStruct) (fs : List CFunction) (stage next : Stage) (field : CField) → next ≡ member_of stage field → BeginsAt stage field.offset → Adds used (named_types field.kind) new → AreNoted used ss fs stage → AreNoted new ss fs next
noted_field used new ss fs stage next field is fits added noted =
    noted_more used new (named_types field.kind) ss fs stage next (ap stage_types is ∙ member_types stage field fits) added noted

both_types : (a b : CType) → IsPresent b → result_types a b ≡ named_types a ++ named_types b
both_types a Unused here = absurd here
both_types a (Scalar name bits) here = refl
both_types a (Pointer n) here = sym (append-nil (named_types a))

half_types : (stage : Stage) (r : ℕ) (t : CType) → MayHalf stage r t → stage_types (half_of stage t) ≡ stage_types stage ++ named_types t
half_types (InPair m) zero t fits = refl
half_types (InPair m) (suc r) t fits = absurd fits
half_types (HalfRead m a) zero t fits = absurd fits
half_types (HalfRead m a) (suc zero) t fits = both_types a t fits
half_types (HalfRead m a) (suc (suc r)) t fits = absurd fits
half_types Idle r t fits = absurd fits
half_types (InStruct fields from gapped) r t fits = absurd fits
half_types (BothRead m a b) r t fits = absurd fits
half_types (PairClosed m a b) r t fits = absurd fits

pub noted_half : (used new : List CType) (ss : List CStruct) (fs : List CFunction) (stage next : Stage) (r : ℕ) (t : CType) → next ≡ half_of stage t → MayHalf stage r t → Adds used (named_types t) new → AreNoted used ss fs stage → AreNoted new ss fs next
noted_half used new ss fs stage next r t is fits added noted =
    noted_more used new (named_types t) ss fs stage next (ap stage_types is ∙ half_types stage r t fits) added noted

-- a struct's types go to those of the structs
turn : (a f s : List CType) (t : CType) → Contains ((a ++ f) ++ s) t ↔ Contains (((a ++ s) ++ f) ++ []) t
turn a f s t = (
  λ h. subst (λ ts. Contains ts t) (sym (append-nil ((a ++ s) ++ f))) (elim (Contains-append_cases (a ++ f) s t h) [
    | inl g ↦ elim (Contains-append_cases a f t g) [
      | inl x ↦ Contains-append_left (a ++ s) f t (Contains-append_left a s t x)
      | inr y ↦ Contains-append_right (a ++ s) f t y
    ]
    | inr z ↦ Contains-append_left (a ++ s) f t (Contains-append_right a s t z)
  ]),
  λ h. elim (Contains-append_cases (a ++ s) f t (subst (λ ts. Contains ts t) (append-nil ((a ++ s) ++ f)) h)) [
    | inl g ↦ elim (Contains-append_cases a s t g) [
      | inl x ↦ Contains-append_left (a ++ f) s t (Contains-append_left a f t x)
      | inr z ↦ Contains-append_right (a ++ f) s t z
    ]
    | inr y ↦ Contains-append_left (a ++ f) s t (Contains-append_right a f t y)
  ],
)

noted_end_of : (used : List CType) (ss : List CStruct) (fs : List CFunction) (stage : Stage) → MayClose stage → AreNoted used ss fs stage → AreNoted used (closed_structs ss stage) fs (closed_stage stage)
noted_end_of used ss fs (InStruct fields from gapped) fits noted = λ t.
    let s : CStruct = record { number = length ss; fields = fields } in
    let whole : flat_map struct_types (ss ++ s ∷ []) ≡ flat_map struct_types ss ++ struct_types s = flat_map-append struct_types ss (s ∷ []) ∙ ap (λ r. flat_map struct_types ss ++ r) (append-nil (struct_types s)) in
    let turned = turn (flat_map struct_types ss) (flat_map function_types fs) (struct_types s) t in (
      λ h. subst (λ ts. Contains ((ts ++ flat_map function_types fs) ++ []) t) (sym whole) (turned.0 ((noted t).0 h)),
      λ h. (noted t).1 (turned.1 (subst (λ ts. Contains ((ts ++ flat_map function_types fs) ++ []) t) whole h)),
    )
noted_end_of used ss fs (BothRead m a b) fits noted = noted
noted_end_of used ss fs Idle fits noted = absurd fits
noted_end_of used ss fs (InPair m) fits noted = absurd fits
noted_end_of used ss fs (HalfRead m a) fits noted = absurd fits
noted_end_of used ss fs (PairClosed m a b) fits noted = absurd fits

pub noted_end : (used : List CType) (ss new : List CStruct) (fs : List CFunction) (stage next : Stage) → new ≡ closed_structs ss stage → next ≡ closed_stage stage → MayClose stage → AreNoted used ss fs stage → AreNoted used new fs next
noted_end used ss new fs stage next is is' fits noted =
    subst (λ s. AreNoted used new fs s) (sym is') (subst (λ s. AreNoted used s fs (closed_stage stage)) (sym is) (noted_end_of used ss fs stage fits noted))

-- a function's types
function_turn : (used new a f s g ret r : List CType) → Adds used (g ++ ret) new → ((t : CType) → Contains used t ↔ Contains ((a ++ f) ++ s) t) → ((t : CType) → (Contains s t ⊎ Contains ret t) ↔ Contains r t) → (t : CType) → Contains new t ↔ Contains ((a ++ (f ++ (r ++ g))) ++ []) t
function_turn used new a f s g ret r added noted same t = (to, back)
  where
    end : a ++ (f ++ (r ++ g)) ≡ (a ++ (f ++ (r ++ g))) ++ []
    end = sym (append-nil (a ++ (f ++ (r ++ g))))

    in_r : Contains r t → Contains (a ++ (f ++ (r ++ g))) t
    in_r h = Contains-append_right a (f ++ (r ++ g)) t (Contains-append_right f (r ++ g) t (Contains-append_left r g t h))

    in_g : Contains g t → Contains (a ++ (f ++ (r ++ g))) t
    in_g h = Contains-append_right a (f ++ (r ++ g)) t (Contains-append_right f (r ++ g) t (Contains-append_right r g t h))

    in_f : Contains f t → Contains (a ++ (f ++ (r ++ g))) t
    in_f h = Contains-append_right a (f ++ (r ++ g)) t (Contains-append_left f (r ++ g) t h)

    to : Contains new t → Contains ((a ++ (f ++ (r ++ g))) ++ []) t
    to h =
        subst (λ ts. Contains ts t) end
        (elim ((added t).0 h) [
          | inl u ↦ elim (Contains-append_cases (a ++ f) s t ((noted t).0 u)) [
            | inl v ↦ elim (Contains-append_cases a f t v) [ inl x ↦ Contains-append_left a (f ++ (r ++ g)) t x | inr y ↦ in_f y ]
            | inr w ↦ in_r ((same t).0 (inl w))
          ]
          | inr u ↦ elim (Contains-append_cases g ret t u) [ inl v ↦ in_g v | inr w ↦ in_r ((same t).0 (inr w)) ]
        ])

    old : Contains ((a ++ f) ++ s) t → Contains new t
    old h = (added t).1 (inl ((noted t).1 h))

    back : Contains ((a ++ (f ++ (r ++ g))) ++ []) t → Contains new t
    back h =
        elim (Contains-append_cases a (f ++ (r ++ g)) t (subst (λ ts. Contains ts t) (sym end) h)) [
          | inl x ↦ old (Contains-append_left (a ++ f) s t (Contains-append_left a f t x))
          | inr u ↦ elim (Contains-append_cases f (r ++ g) t u) [
            | inl y ↦ old (Contains-append_left (a ++ f) s t (Contains-append_right a f t y))
            | inr v ↦ elim (Contains-append_cases r g t v) [
              | inl w ↦ elim ((same t).1 w) [ inl p ↦ old (Contains-append_right (a ++ f) s t p) | inr q ↦ (added t).1 (inr (Contains-append_right g ret t q)) ]
              | inr z ↦ (added t).1 (inr (Contains-append_left g ret t z))
            ]
          ]
        ]

results_are : (parts : Parts) (stage : Stage) (returns : Returns) (n : ℕ) (args : List (Loc × CType)) → IsReturned returns → MayReturn parts stage returns n → (t : CType) → (Contains (stage_types stage) t ⊎ Contains (returned_types returns) t) ↔ Contains (result_types (stated_of stage returns n args).out0 (stated_of stage returns n args).out1) t
results_are parts Idle Nothing n args good fits t = (λ h. elim h [ inl a ↦ a | inr b ↦ b ], λ h. inl h)
results_are parts Idle (Value u) n args good fits t = value u good.1
  where
    value : (u : CType) → IsPresent u → (Contains [] t ⊎ Contains (named_types u) t) ↔ Contains (result_types u Unused) t
    value Unused here = absurd here
    value (Scalar name bits) here = (λ h. elim h [ inl a ↦ absurd (Contains-none t a) | inr b ↦ b ], λ h. inr h)
    value (Pointer m) here = (λ h. elim h [ inl a ↦ absurd (Contains-none t a) | inr b ↦ b ], λ h. inr h)
results_are parts Idle Both n args good fits t = absurd fits
results_are parts (PairClosed m a b) Nothing n args good fits t = absurd fits
results_are parts (PairClosed m a b) (Value u) n args good fits t = absurd fits
results_are parts (PairClosed m a b) Both n args good fits t = (λ h. elim h [ inl x ↦ x | inr y ↦ absurd (Contains-none t y) ], λ h. inl h)
results_are parts (InStruct fields from gapped) returns n args good fits t = absurd fits
results_are parts (InPair m) returns n args good fits t = absurd fits
results_are parts (HalfRead m a) returns n args good fits t = absurd fits
results_are parts (BothRead m a b) returns n args good fits t = absurd fits

stated_args : (stage : Stage) (returns : Returns) (n : ℕ) (args : List (Loc × CType)) → (stated_of stage returns n args).args ≡ args
stated_args Idle returns n args = refl
stated_args (InStruct fields from gapped) returns n args = refl
stated_args (InPair m) returns n args = refl
stated_args (HalfRead m a) returns n args = refl
stated_args (BothRead m a b) returns n args = refl
stated_args (PairClosed m a b) returns n args = refl

pub noted_function : (parts : Parts) (used new : List CType) (ss : List CStruct) (fs gs : List CFunction) (stage : Stage) (returns : Returns) (n : ℕ) (args : List (Loc × CType)) → gs ≡ fs ++ stated_of stage returns n args ∷ [] → IsReturned returns → MayReturn parts stage returns n → Adds used (line_types returns args) new → AreNoted used ss fs stage → AreNoted new ss gs Idle
noted_function parts used new ss fs gs stage returns n args is good fits added noted =
    let f : CFunction = stated_of stage returns n args in
    let more : flat_map function_types (fs ++ f ∷ []) ≡ flat_map function_types fs ++ (result_types f.out0 f.out1 ++ flat_map named_types (arg_types args)) =
    flat_map-append function_types fs (f ∷ []) ∙ ap (λ r. flat_map function_types fs ++ r) (append-nil (function_types f) ∙ ap (λ list. result_types f.out0 f.out1 ++ flat_map named_types (arg_types list)) (stated_args stage returns n args)) in
    let turned = function_turn used new (flat_map struct_types ss) (flat_map function_types fs) (stage_types stage) (flat_map named_types (arg_types args)) (returned_types returns) (result_types f.out0 f.out1) added noted (results_are parts stage returns n args good fits) in
    let there : AreNoted new ss (fs ++ f ∷ []) Idle = subst (λ ts. (t : CType) → Contains new t ↔ Contains ((flat_map struct_types ss ++ ts) ++ []) t) (sym more) turned in
    subst (λ s. AreNoted new ss s Idle) (sym is) there

-- the least number after functions, one more
pub risen_more : (fs gs : List CFunction) (f : CFunction) (least : ℕ) → gs ≡ fs ++ f ∷ [] → least ≡ f.number + 1 → least ≡ least_after 0 (function_numbers gs)
risen_more fs gs f least grown is = is ∙ (sym (least_push fs f) ∙ ap (λ s. least_after 0 (function_numbers s)) (sym grown))
