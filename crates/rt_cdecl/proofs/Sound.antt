-- Lines that may follow one another are those of the parts that they make.
use Rattle.std.proofs.Common.{◌≡◌, ℕ, zero, suc, ◌+◌, ◌-◌, ◌<◌, ◌≤◌, ◌==◌, List, [], ◌∷◌, ◌++◌, Bool, true, false, if◌then◌else◌, All, map, length, refl, ap, sym, subst, ◌∙◌, arith, append_assoc, append-nil}
use Rattle.std.specs.List.{flat_map}
use Rattle.std.proofs.lemmas.Bool.Decides.{nat_tests}
use Rattle.std.proofs.lemmas.Grind.{flat_map-append}
use Rattle.std.proofs.lemmas.List.{map-append, length_push}
use Rattle.std.proofs.lemmas.List.Elements.{All-head, All-tail}
use Rattle.rt_base.specs.First.{entries}
use Rattle.rt_cdecl.specs.declared.declarations.CType.{CType}
use Rattle.rt_cdecl.specs.declared.declarations.CType.TheVariants.{Unused, Scalar, Pointer}
use Rattle.rt_cdecl.specs.declared.declarations.CField.{CField}
use Rattle.rt_cdecl.specs.declared.declarations.CStruct.{CStruct}
use Rattle.rt_cdecl.specs.declared.declarations.CFunction.{CFunction}
use Rattle.rt_cdecl.specs.Types.{end_of, IsPresent}
use Rattle.rt_cdecl.specs.Rows.{Row, Typedef, Named, Opened, Gap, Member, Closed, Pair, Half, Stated, Nothing, Value, Both}
use Rattle.rt_cdecl.specs.Texts.{gap_rows, fields_rows, struct_rows, returns_of, function_rows}
use Rattle.rt_cdecl.specs.Inside.Drafts.{Stage, Idle, InStruct, InPair, HalfRead, BothRead, PairClosed, Parts, no_parts, function_of_parts, with_row, Fits, Accepts}
use Rattle.rt_cdecl.proofs.OneDecls.{two_rows, pair_rows-two, returns_of-both}

-- where fields end
abbrev pub end_after : ℕ → List CField → ℕ
end_after from [] = from
end_after from (field ∷ fields) = end_after (end_of field) fields

-- the lines of what is still to be ended; a gap that was read is the last of a struct's
abbrev stage_rows : ℕ → Stage → List Row
stage_rows n Idle = []
stage_rows n (InStruct fields from false) = Opened n ∷ fields_rows 0 fields
stage_rows n (InStruct fields from true) = Opened n ∷ (fields_rows 0 fields ++ Gap (end_after 0 fields) (from - end_after 0 fields) ∷ [])
stage_rows n (InPair m) = Pair m ∷ []
stage_rows n (HalfRead m out0) = Pair m ∷ Half 0 out0 ∷ []
stage_rows n (BothRead m out0 out1) = Pair m ∷ Half 0 out0 ∷ Half 1 out1 ∷ []
stage_rows n (PairClosed m out0 out1) = Pair m ∷ Half 0 out0 ∷ Half 1 out1 ∷ Closed ∷ []

-- the lines of what was read
abbrev pub parts_rows : Parts → List Row
parts_rows parts =
    map Typedef parts.typedefs ++ (map Named (entries (λ n. n) 0 parts.named) ++ (flat_map struct_rows parts.structs ++
    (flat_map function_rows parts.functions ++ stage_rows (length parts.structs) parts.stage)))

-- a stage in which the ends are those of the fields
abbrev IsStage : Stage → Type 0
IsStage (InStruct fields from false) = from ≡ end_after 0 fields
IsStage (InStruct fields from true) = end_after 0 fields < from
IsStage (BothRead n out0 out1) = IsPresent out1
IsStage (PairClosed n out0 out1) = IsPresent out1
IsStage stage = Unit {0}

-- no function stands before a struct, and a struct that is read was named
abbrev IsWithin : Stage → List CStruct → ℕ → List CFunction → Type 0
IsWithin (InStruct fields from gapped) ss named fs = (fs ≡ []) × (length ss < named)
IsWithin stage ss named fs = Unit {0}

-- what every line keeps
pub record IsKept (parts : Parts) : Type 0 where
  pub stage : IsStage parts.stage
  pub within : IsWithin parts.stage parts.structs parts.named parts.functions
  pub few : length parts.structs ≤ parts.named

pub end_after-push : (from : ℕ) (fields : List CField) (field : CField) → end_after from (fields ++ field ∷ []) ≡ end_of field
end_after-push from [] field = refl
end_after-push from (f ∷ fields) field = end_after-push (end_of f) fields field

fields_rows-push : (from : ℕ) (fields : List CField) (field : CField) → fields_rows from (fields ++ field ∷ []) ≡ fields_rows from fields ++ (gap_rows (end_after from fields) field.offset ++ Member field ∷ [])
fields_rows-push from [] field = refl
fields_rows-push from (f ∷ fields) field =
    ap (λ r. gap_rows from f.offset ++ Member f ∷ r) (fields_rows-push (end_of f) fields field)
    ∙ sym (append_assoc (gap_rows from f.offset) (Member f ∷ fields_rows (end_of f) fields) (gap_rows (end_after (end_of f) fields) field.offset ++ Member field ∷ []))

no_gap_rows : (from to : ℕ) → from ≡ to → gap_rows from to ≡ []
no_gap_rows from to same = by (from == to) refl
  where
    by : (t : Bool) → (from == to) ≡ t → (if t then [] else Gap from (to - from) ∷ []) ≡ []
    by true e = refl
    by false e = absurd (off e same)
      where
        off : (from == to) ≡ false → from ≡ to → ⊥
        off e same = grind (arith, nat_tests)

some_gap_rows : (from to : ℕ) → from < to → gap_rows from to ≡ Gap from (to - from) ∷ []
some_gap_rows from to less = by (from == to) refl
  where
    by : (t : Bool) → (from == to) ≡ t → (if t then [] else Gap from (to - from) ∷ []) ≡ Gap from (to - from) ∷ []
    by true e = absurd (off e less)
      where
        off : (from == to) ≡ true → from < to → ⊥
        off e less = grind (arith, nat_tests)
    by false e = refl

pub entries_push : (i n : ℕ) → entries (λ k. k) i (n + 1) ≡ entries (λ k. k) i n ++ (i + n) ∷ []
entries_push i zero = λ j. sym (plus i) j ∷ []
  where
    plus : (i : ℕ) → i + 0 ≡ i
    plus i = omega arith
entries_push i (suc n) =
    let same : suc n + 1 ≡ suc (n + 1) = omega arith in
    let last : (i + 1) + n ≡ i + suc n = omega arith in
    ap (entries (λ k. k) i) same ∙ (ap (λ r. i ∷ r) (entries_push (i + 1) n) ∙ ap (λ k. i ∷ (entries (λ k. k) (i + 1) n ++ k ∷ [])) last)

-- the lines of a struct or a pair with a line more
abbrev closed_rows : ℕ → List CStruct → List CField → List Row
closed_rows n ss fields = flat_map struct_rows (ss ++ record { number = n; fields = fields } ∷ [])

structs_rows-push : (ss : List CStruct) (n : ℕ) (fields : List CField) → closed_rows n ss fields ≡ flat_map struct_rows ss ++ (Opened n ∷ (fields_rows 0 fields ++ Closed ∷ []))
structs_rows-push ss n fields =
    flat_map-append struct_rows ss (record { number = n; fields = fields } ∷ [])
    ∙ ap (λ r. flat_map struct_rows ss ++ r) (append-nil (Opened n ∷ (fields_rows 0 fields ++ Closed ∷ [])))

functions_rows-push : (fs : List CFunction) (f : CFunction) → flat_map function_rows (fs ++ f ∷ []) ≡ flat_map function_rows fs ++ function_rows f
functions_rows-push fs f = flat_map-append function_rows fs (f ∷ []) ∙ ap (λ r. flat_map function_rows fs ++ r) (append-nil (function_rows f))

-- lists that grow by one line
grow_first : (xs : List Row) (row : Row) (tail : List Row) → tail ≡ [] → (xs ++ row ∷ []) ++ tail ≡ (xs ++ tail) ++ row ∷ []
grow_first xs row tail none = ap (λ t. (xs ++ row ∷ []) ++ t) none ∙ (append-nil (xs ++ row ∷ []) ∙ ap (λ t. t ++ row ∷ []) (sym (ap (λ t. xs ++ t) none ∙ append-nil xs)))

grow_last : (a b c d e more : List Row) → more ≡ e → a ++ (b ++ (c ++ (d ++ more))) ≡ a ++ (b ++ (c ++ (d ++ e)))
grow_last a b c d e more same = ap (λ x. a ++ (b ++ (c ++ (d ++ x)))) same

push_last : (a b c d e : List Row) (row : Row) → a ++ (b ++ (c ++ (d ++ (e ++ row ∷ [])))) ≡ (a ++ (b ++ (c ++ (d ++ e)))) ++ row ∷ []
push_last a b c d e row = sym (
    append_assoc a (b ++ (c ++ (d ++ e))) (row ∷ []) ∙ (ap (λ x. a ++ x) (append_assoc b (c ++ (d ++ e)) (row ∷ [])) ∙ (ap (λ x. a ++ (b ++ x)) (append_assoc c (d ++ e) (row ∷ [])) ∙ ap (λ x. a ++ (b ++ (c ++ x))) (append_assoc d e (row ∷ [])))))

-- a stage with a line more
stage_rows-gap : (n : ℕ) (fields : List CField) (k from count : ℕ) → from ≡ end_after 0 fields → k ≡ from → 0 < count → stage_rows n (InStruct fields (from + count) true) ≡ stage_rows n (InStruct fields from false) ++ Gap k count ∷ []
stage_rows-gap n fields k from count ends at some =
    let size : (from + count) - end_after 0 fields ≡ count = omega arith in
    let place : end_after 0 fields ≡ k = sym ends ∙ sym at in
    λ i. Opened n ∷ (fields_rows 0 fields ++ Gap (place i) (size i) ∷ [])

stage_rows-member : (n : ℕ) (fields : List CField) (from : ℕ) (gapped : Bool) (field : CField) → IsStage (InStruct fields from gapped) → field.offset ≡ from → stage_rows n (InStruct (fields ++ field ∷ []) (end_of field) false) ≡ stage_rows n (InStruct fields from gapped) ++ Member field ∷ []
stage_rows-member n fields from false field ends at =
    let none : gap_rows (end_after 0 fields) field.offset ≡ [] = no_gap_rows (end_after 0 fields) field.offset (sym ends ∙ sym at) in
    ap (λ r. Opened n ∷ r) (fields_rows-push 0 fields field ∙ ap (λ g. fields_rows 0 fields ++ (g ++ Member field ∷ [])) none)
stage_rows-member n fields from true field ends at =
    let less : end_after 0 fields < field.offset = omega arith in
    let some : gap_rows (end_after 0 fields) field.offset ≡ Gap (end_after 0 fields) (from - end_after 0 fields) ∷ [] = some_gap_rows (end_after 0 fields) field.offset less ∙ ap (λ k. Gap (end_after 0 fields) (k - end_after 0 fields) ∷ []) at in
    ap (λ r. Opened n ∷ r) (
    fields_rows-push 0 fields field ∙ (ap (λ g. fields_rows 0 fields ++ (g ++ Member field ∷ [])) some
    ∙ sym (append_assoc (fields_rows 0 fields) (Gap (end_after 0 fields) (from - end_after 0 fields) ∷ []) (Member field ∷ []))))

-- a struct that is closed
close_rows : (a b : List Row) (ss : List CStruct) (fs : List CFunction) (fields : List CField) → fs ≡ [] → a ++ (b ++ (closed_rows (length ss) ss fields ++ (flat_map function_rows fs ++ []))) ≡ (a ++ (b ++ (flat_map struct_rows ss ++ (flat_map function_rows fs ++ stage_rows (length ss) (InStruct fields 0 false))))) ++ Closed ∷ []
close_rows a b ss fs fields none =
    let left : closed_rows (length ss) ss fields ++ (flat_map function_rows fs ++ []) ≡ flat_map struct_rows ss ++ (Opened (length ss) ∷ (fields_rows 0 fields ++ Closed ∷ [])) =
    ap (λ f. closed_rows (length ss) ss fields ++ (flat_map function_rows f ++ [])) none ∙ (append-nil (closed_rows (length ss) ss fields) ∙ structs_rows-push ss (length ss) fields) in
    let right : flat_map struct_rows ss ++ (flat_map function_rows fs ++ ((Opened (length ss) ∷ fields_rows 0 fields) ++ Closed ∷ [])) ≡ flat_map struct_rows ss ++ (Opened (length ss) ∷ (fields_rows 0 fields ++ Closed ∷ [])) =
    ap (λ f. flat_map struct_rows ss ++ (flat_map function_rows f ++ ((Opened (length ss) ∷ fields_rows 0 fields) ++ Closed ∷ []))) none in
    ap (λ x. a ++ (b ++ x)) (left ∙ sym right) ∙ push_last a b (flat_map struct_rows ss) (flat_map function_rows fs) (Opened (length ss) ∷ fields_rows 0 fields) Closed

-- a function that is stated
state_rows : (a b c : List Row) (fs : List CFunction) (f : CFunction) (begun : List Row) (row : Row) → function_rows f ≡ begun ++ row ∷ [] → a ++ (b ++ (c ++ (flat_map function_rows (fs ++ f ∷ []) ++ []))) ≡ (a ++ (b ++ (c ++ (flat_map function_rows fs ++ begun)))) ++ row ∷ []
state_rows a b c fs f begun row is =
    ap (λ x. a ++ (b ++ (c ++ x))) (append-nil (flat_map function_rows (fs ++ f ∷ [])) ∙ (functions_rows-push fs f ∙ ap (λ r. flat_map function_rows fs ++ r) is))
    ∙ push_last a b c (flat_map function_rows fs) begun row

-- the parts by themselves
abbrev pub made : List CType → ℕ → List CStruct → List CFunction → Stage → Parts
made ts named ss fs stage = record { typedefs = ts; named = named; structs = ss; functions = fs; stage = stage }

returned_value : (t : CType) → IsPresent t → returns_of t Unused ≡ Value t
returned_value Unused here = absurd here
returned_value (Scalar name bits) here = refl
returned_value (Pointer n) here = refl

pub none_left : (ss : List CStruct) (named : ℕ) → length ss ≤ named → named ≡ 0 → ss ≡ []
none_left [] named few none = refl
none_left (s ∷ ss) named few none = absurd (omega arith)

-- a value that a line gives is that of something
abbrev pub GivesSome : Row → Type 0
GivesSome (Stated (Value t) n args) = IsPresent t
GivesSome row = Unit {0}

rows_made : (ts : List CType) (named : ℕ) (ss : List CStruct) (fs : List CFunction) (stage : Stage) (row : Row) → IsKept (made ts named ss fs stage) → GivesSome row → Fits (made ts named ss fs stage) row → parts_rows (with_row (made ts named ss fs stage) row) ≡ parts_rows (made ts named ss fs stage) ++ row ∷ []
rows_made ts named ss fs stage (Typedef t) kept some fits =
    let none : ss ≡ [] = none_left ss named kept.few fits.1 in
    let tail : map Named (entries (λ n. n) 0 named) ++ (flat_map struct_rows ss ++ (flat_map function_rows fs ++ stage_rows (length ss) stage)) ≡ [] =
    λ i. map Named (entries (λ n. n) 0 (fits.1 i)) ++ (flat_map struct_rows (none i) ++ (flat_map function_rows (fits.2 i) ++ stage_rows (length (none i)) (fits.0 i))) in
    ap (λ r. r ++ (map Named (entries (λ n. n) 0 named) ++ (flat_map struct_rows ss ++ (flat_map function_rows fs ++ stage_rows (length ss) stage)))) (map-append Typedef ts (t ∷ []))
    ∙ grow_first (map Typedef ts) (Typedef t) _ tail
rows_made ts named ss fs stage (Named n) kept some fits =
    let tail : flat_map struct_rows ss ++ (flat_map function_rows fs ++ stage_rows (length ss) stage) ≡ [] =
    λ i. flat_map struct_rows (fits.1 i) ++ (flat_map function_rows (fits.2 i) ++ stage_rows (length (fits.1 i)) (fits.0 i)) in
    let last : 0 + named ≡ n = zero_plus named ∙ sym fits.3 in
    let names : map Named (entries (λ n. n) 0 (named + 1)) ≡ map Named (entries (λ n. n) 0 named) ++ Named n ∷ [] =
    ap (map Named) (entries_push 0 named) ∙ (map-append Named (entries (λ n. n) 0 named) ((0 + named) ∷ []) ∙ ap (λ k. map Named (entries (λ n. n) 0 named) ++ Named k ∷ []) last) in
    ap (λ r. map Typedef ts ++ (r ++ (flat_map struct_rows ss ++ (flat_map function_rows fs ++ stage_rows (length ss) stage)))) names
    ∙ (ap (λ r. map Typedef ts ++ r) (grow_first (map Named (entries (λ n. n) 0 named)) (Named n) _ tail) ∙ sym (append_assoc (map Typedef ts) _ (Named n ∷ [])))
  where
    zero_plus : (n : ℕ) → 0 + n ≡ n
    zero_plus n = omega arith
rows_made ts named ss fs stage (Opened n) kept some fits =
    let is : stage_rows (length ss) (InStruct [] 0 false) ≡ stage_rows (length ss) stage ++ Opened n ∷ [] = (λ i. Opened (sym fits.2 i) ∷ []) ∙ ap (λ s. stage_rows (length ss) s ++ Opened n ∷ []) (sym fits.0) in
    ap (λ x. map Typedef ts ++ (map Named (entries (λ n. n) 0 named) ++ (flat_map struct_rows ss ++ (flat_map function_rows fs ++ x)))) is
    ∙ push_last (map Typedef ts) (map Named (entries (λ n. n) 0 named)) (flat_map struct_rows ss) (flat_map function_rows fs) (stage_rows (length ss) stage) (Opened n)
rows_made ts named ss fs (InStruct fields from false) (Gap k n) kept some fits =
    ap (λ x. map Typedef ts ++ (map Named (entries (λ n. n) 0 named) ++ (flat_map struct_rows ss ++ (flat_map function_rows fs ++ x)))) (stage_rows-gap (length ss) fields k from n kept.stage fits.0 fits.1)
    ∙ push_last (map Typedef ts) (map Named (entries (λ n. n) 0 named)) (flat_map struct_rows ss) (flat_map function_rows fs) (stage_rows (length ss) (InStruct fields from false)) (Gap k n)
rows_made ts named ss fs (InStruct fields from gapped) (Member field) kept some fits =
    ap (λ x. map Typedef ts ++ (map Named (entries (λ n. n) 0 named) ++ (flat_map struct_rows ss ++ (flat_map function_rows fs ++ x)))) (stage_rows-member (length ss) fields from gapped field kept.stage fits.0)
    ∙ push_last (map Typedef ts) (map Named (entries (λ n. n) 0 named)) (flat_map struct_rows ss) (flat_map function_rows fs) (stage_rows (length ss) (InStruct fields from gapped)) (Member field)
rows_made ts named ss fs (InStruct fields from false) Closed kept some fits = close_rows (map Typedef ts) (map Named (entries (λ n. n) 0 named)) ss fs fields kept.within.0
rows_made ts named ss fs (BothRead n out0 out1) Closed kept some fits =
    push_last (map Typedef ts) (map Named (entries (λ n. n) 0 named)) (flat_map struct_rows ss) (flat_map function_rows fs) (stage_rows (length ss) (BothRead n out0 out1)) Closed
rows_made ts named ss fs stage (Pair n) kept some fits =
    let is : stage_rows (length ss) (InPair n) ≡ stage_rows (length ss) stage ++ Pair n ∷ [] = ap (λ s. stage_rows (length ss) s ++ Pair n ∷ []) (sym fits.0) in
    ap (λ x. map Typedef ts ++ (map Named (entries (λ n. n) 0 named) ++ (flat_map struct_rows ss ++ (flat_map function_rows fs ++ x)))) is
    ∙ push_last (map Typedef ts) (map Named (entries (λ n. n) 0 named)) (flat_map struct_rows ss) (flat_map function_rows fs) (stage_rows (length ss) stage) (Pair n)
rows_made ts named ss fs (InPair m) (Half zero t) kept some fits =
    push_last (map Typedef ts) (map Named (entries (λ n. n) 0 named)) (flat_map struct_rows ss) (flat_map function_rows fs) (stage_rows (length ss) (InPair m)) (Half 0 t)
rows_made ts named ss fs (HalfRead m out0) (Half (suc zero) t) kept some fits =
    push_last (map Typedef ts) (map Named (entries (λ n. n) 0 named)) (flat_map struct_rows ss) (flat_map function_rows fs) (stage_rows (length ss) (HalfRead m out0)) (Half 1 t)
rows_made ts named ss fs Idle (Stated Nothing n args) kept some fits =
    state_rows (map Typedef ts) (map Named (entries (λ n. n) 0 named)) (flat_map struct_rows ss) fs (function_of_parts n args Unused Unused) [] (Stated Nothing n args) refl
rows_made ts named ss fs Idle (Stated (Value t) n args) kept some fits =
    state_rows (map Typedef ts) (map Named (entries (λ n. n) 0 named)) (flat_map struct_rows ss) fs (function_of_parts n args t Unused) [] (Stated (Value t) n args) (λ i. Stated (returned_value t some i) n args ∷ [])
rows_made ts named ss fs (PairClosed m out0 out1) (Stated Both n args) kept some fits =
    state_rows (map Typedef ts) (map Named (entries (λ n. n) 0 named)) (flat_map struct_rows ss) fs (function_of_parts n args out0 out1) (stage_rows (length ss) (PairClosed m out0 out1)) (Stated Both n args)
    (ap (λ r. r ++ Stated (returns_of out0 out1) n args ∷ []) (pair_rows-two n out0 out1 kept.stage)
    ∙ ((λ i. two_rows n out0 out1 ++ Stated (returns_of-both out0 out1 kept.stage i) n args ∷ []) ∙ (λ i. Pair (fits.0 i) ∷ Half 0 out0 ∷ Half 1 out1 ∷ Closed ∷ Stated Both n args ∷ [])))
rows_made ts named ss fs stage (Gap k n) kept some fits = absurd fits
rows_made ts named ss fs stage (Member field) kept some fits = absurd fits.0
rows_made ts named ss fs stage Closed kept some fits = absurd fits
rows_made ts named ss fs stage (Half r t) kept some fits = absurd fits.0
rows_made ts named ss fs stage (Stated returns n args) kept some fits = absurd fits.0

-- what was read, with one line more
pub rows_with : (parts : Parts) (row : Row) → IsKept parts → GivesSome row → Fits parts row → parts_rows (with_row parts row) ≡ parts_rows parts ++ row ∷ []
rows_with parts row kept some fits = rows_made parts.typedefs parts.named parts.structs parts.functions parts.stage row kept some fits

-- each line keeps it
kept_made : (ts : List CType) (named : ℕ) (ss : List CStruct) (fs : List CFunction) (stage : Stage) (row : Row) → IsKept (made ts named ss fs stage) → Fits (made ts named ss fs stage) row → IsKept (with_row (made ts named ss fs stage) row)
kept_made ts named ss fs stage (Typedef t) kept fits = record { stage = kept.stage; within = kept.within; few = kept.few }
kept_made ts named ss fs stage (Named n) kept fits =
    record {
      stage = kept.stage;
      within = subst (λ s. IsWithin s ss (named + 1) fs) (sym fits.0) tt;
      few = let few = kept.few in omega arith;
    }
kept_made ts named ss fs stage (Opened n) kept fits = record { stage = refl; within = (fits.1, subst (λ k. k < named) fits.2 fits.3); few = kept.few }
kept_made ts named ss fs (InStruct fields from false) (Gap k n) kept fits =
    record { stage = (let ends : from ≡ end_after 0 fields = kept.stage in let some : 0 < n = fits.1 in omega arith); within = kept.within; few = kept.few }
kept_made ts named ss fs (InStruct fields from gapped) (Member field) kept fits =
    record { stage = sym (end_after-push 0 fields field); within = kept.within; few = kept.few }
kept_made ts named ss fs (InStruct fields from false) Closed kept fits =
    record { stage = tt; within = tt; few = (let less : length ss < named = kept.within.1 in let long = length_push ss (record { number = length ss; fields = fields }) in omega arith) }
kept_made ts named ss fs (BothRead n out0 out1) Closed kept fits = record { stage = kept.stage; within = tt; few = kept.few }
kept_made ts named ss fs stage (Pair n) kept fits = record { stage = tt; within = tt; few = kept.few }
kept_made ts named ss fs (InPair m) (Half zero t) kept fits = record { stage = tt; within = tt; few = kept.few }
kept_made ts named ss fs (HalfRead m out0) (Half (suc zero) t) kept fits = record { stage = fits.0; within = tt; few = kept.few }
kept_made ts named ss fs Idle (Stated returns n args) kept fits = record { stage = tt; within = tt; few = kept.few }
kept_made ts named ss fs (PairClosed m out0 out1) (Stated Both n args) kept fits = record { stage = tt; within = tt; few = kept.few }
kept_made ts named ss fs stage (Gap k n) kept fits = absurd fits
kept_made ts named ss fs stage (Member field) kept fits = absurd fits.0
kept_made ts named ss fs stage Closed kept fits = absurd fits
kept_made ts named ss fs stage (Half r t) kept fits = absurd fits.0
kept_made ts named ss fs stage (Stated returns n args) kept fits = absurd fits.0

pub kept_with : (parts : Parts) (row : Row) → IsKept parts → Fits parts row → IsKept (with_row parts row)
kept_with parts row kept fits = kept_made parts.typedefs parts.named parts.structs parts.functions parts.stage row kept fits

pub kept_start : IsKept no_parts
kept_start = record { stage = tt; within = tt; few = omega arith }

-- lines that may follow one another from the start are those of the parts that they make
pub accepted_rows : (parts : Parts) (rows : List Row) (last : Parts) → IsKept parts → All GivesSome rows → Accepts parts rows last → parts_rows last ≡ parts_rows parts ++ rows
accepted_rows parts [] last kept some all = ap parts_rows (sym all) ∙ sym (append-nil (parts_rows parts))
accepted_rows parts (row ∷ rows) last kept some all =
    let here : GivesSome row = All-head GivesSome row rows some in
    accepted_rows (with_row parts row) rows last (kept_with parts row kept all.0) (All-tail GivesSome row rows some) all.1
    ∙ (ap (λ r. r ++ rows) (rows_with parts row kept here all.0) ∙ append_assoc (parts_rows parts) (row ∷ []) rows)
