-- How far the lines that were read have come, and which types they use.
use Rattle.std.proofs.Common.{◌≡◌, ℕ, zero, suc, ◌+◌, ◌<◌, ◌^◌, ◌↔◌, ◌⊎◌, inl, inr, IsTrue, List, [], ◌∷◌, ◌++◌, false, All, Contains, length, refl, sym, subst, append-nil}
use Rattle.std.specs.List.{flat_map}
use Rattle.std.proofs.lemmas.Bool.{false≢true}
use Rattle.std.proofs.lemmas.List.Elements.{All-head, All-tail, Contains-append_left, Contains-append_right, Contains-append_cases}
use Rattle.rt_cdecl.specs.declared.declarations.CType.{CType}
use Rattle.rt_cdecl.specs.declared.declarations.CStruct.{CStruct}
use Rattle.rt_cdecl.specs.declared.declarations.CFunction.{CFunction}
use Rattle.rt_cdecl.specs.Rows.{Row, Typedef, Named, Opened, Gap, Member, Closed, Pair, Half, Stated, Nothing, Value, Both}
use Rattle.rt_cdecl.specs.GoodDecls.{used_types}
use Rattle.rt_cdecl.specs.Inside.GoodRows.{IsRow, IsReturned}
use Rattle.rt_cdecl.specs.Inside.Drafts.{Stage, Idle, InStruct, InPair, HalfRead, BothRead, PairClosed, Parts, with_row, Fits, Accepts, Adds, AreNoted, stage_types, gapped_of, member_of, half_of, stated_of, closed_structs, closed_stage}
use Rattle.rt_cdecl.specs.Inside.Endings.{all_used, row_types}
use Rattle.rt_cdecl.proofs.Sound.{made}
use Rattle.rt_cdecl.proofs.Drafting.{noted_more, noted_gap, noted_end, noted_field, noted_half, noted_function}

-- functions come after all structs that were named, and a field can follow a gap
abbrev pub IsPhase : Stage → List CStruct → ℕ → List CFunction → Type 0
IsPhase Idle ss named fs = (fs ≡ []) ⊎ (length ss ≡ named)
IsPhase (InStruct fields from gapped) ss named fs = (fs ≡ []) × (length ss < named) × (IsTrue gapped → from < 2 ^ 31)
IsPhase (InPair n) ss named fs = length ss ≡ named
IsPhase (HalfRead n a) ss named fs = length ss ≡ named
IsPhase (BothRead n a b) ss named fs = length ss ≡ named
IsPhase (PairClosed n a b) ss named fs = length ss ≡ named

abbrev pub IsPhased : Parts → Type 0
IsPhased parts = IsPhase parts.stage parts.structs parts.named parts.functions

phase_made : (ts : List CType) (named : ℕ) (ss : List CStruct) (fs : List CFunction) (stage : Stage) (row : Row) → IsPhased (made ts named ss fs stage) → Fits (made ts named ss fs stage) row → IsPhased (with_row (made ts named ss fs stage) row)
phase_made ts named ss fs stage (Typedef t) phase fits = phase
phase_made ts named ss fs stage (Named n) phase fits = subst (λ s. IsPhase s ss (named + 1) fs) (sym fits.0) (inl fits.2)
phase_made ts named ss fs stage (Opened n) phase fits = (fits.1, subst (λ k. k < named) fits.2 fits.3, λ t. absurd (false≢true t))
phase_made ts named ss fs (InStruct fields from false) (Gap k n) phase fits = (phase.0, phase.1, λ t. subst (λ j. j + n < 2 ^ 31) fits.0 fits.2)
phase_made ts named ss fs (InStruct fields from gapped) (Member field) phase fits = (phase.0, phase.1, λ t. absurd (false≢true t))
phase_made ts named ss fs (InStruct fields from false) Closed phase fits = inl phase.0
phase_made ts named ss fs (BothRead n a b) Closed phase fits = phase
phase_made ts named ss fs stage (Pair n) phase fits = fits.1.0
phase_made ts named ss fs (InPair m) (Half zero t) phase fits = phase
phase_made ts named ss fs (HalfRead m a) (Half (suc zero) t) phase fits = phase
phase_made ts named ss fs Idle (Stated Nothing n args) phase fits = inr fits.0.0
phase_made ts named ss fs Idle (Stated (Value t) n args) phase fits = inr fits.0.0.0
phase_made ts named ss fs (PairClosed m a b) (Stated Both n args) phase fits = inr phase
phase_made ts named ss fs stage (Gap k n) phase fits = absurd fits
phase_made ts named ss fs stage (Member field) phase fits = absurd fits.0
phase_made ts named ss fs stage Closed phase fits = absurd fits
phase_made ts named ss fs stage (Half r t) phase fits = absurd fits.0
phase_made ts named ss fs stage (Stated returns n args) phase fits = absurd fits.0

pub phase_with : (parts : Parts) (row : Row) → IsPhased parts → Fits parts row → IsPhased (with_row parts row)
phase_with parts row phase fits = phase_made parts.typedefs parts.named parts.structs parts.functions parts.stage row phase fits

pub phase_all : (parts : Parts) (rows : List Row) (last : Parts) → IsPhased parts → Accepts parts rows last → IsPhased last
phase_all parts [] last phase all = subst IsPhased all phase
phase_all parts (row ∷ rows) last phase all = phase_all (with_row parts row) rows last (phase_with parts row phase all.0) all.1

-- the types that are used, with those of a line more
adds_self : (used more : List CType) → Adds used more (used ++ more)
adds_self used more = λ t. (
  λ h. Contains-append_cases used more t h,
  λ h. elim h [ inl a ↦ Contains-append_left used more t a | inr b ↦ Contains-append_right used more t b ],
)

-- what a function's line gives is something
abbrev pub GivesGood : Row → Type 0
GivesGood (Stated returns n args) = IsReturned returns
GivesGood row = Unit {0}

pub good_gives : (row : Row) → IsRow row → GivesGood row
good_gives (Typedef t) good = tt
good_gives (Named n) good = tt
good_gives (Opened n) good = tt
good_gives (Gap k n) good = tt
good_gives (Member field) good = tt
good_gives Closed good = tt
good_gives (Pair n) good = tt
good_gives (Half r t) good = tt
good_gives (Stated returns n args) good = good.0

module _ (ss : List CStruct) (fs : List CFunction) (stage : Stage) where
  abbrev here : List CType
  here = used_types ss fs ++ stage_types stage

  noted_here : AreNoted here ss fs stage
  noted_here = λ t. (λ h. h, λ h. h)

  noted_none : (ss' : List CStruct) (fs' : List CFunction) (next : Stage) → AreNoted here ss' fs' next → AreNoted (here ++ []) ss' fs' next
  noted_none ss' fs' next noted = noted_more here (here ++ []) [] ss' fs' next next (sym (append-nil (stage_types next))) (adds_self here []) noted

  noted_opened : (next : Stage) → stage ≡ Idle → stage_types next ≡ [] → AreNoted (here ++ []) ss fs next
  noted_opened next idle none = noted_more here (here ++ []) [] ss fs stage next (λ i. begun i) (adds_self here []) noted_here
    where
      begun : stage_types next ≡ stage_types stage ++ []
      begun = subst (λ s. stage_types next ≡ stage_types s ++ []) (sym idle) none

  used_made : (ts : List CType) (named : ℕ) (row : Row) → GivesGood row → Fits (made ts named ss fs stage) row →
      AreNoted (here ++ row_types row) (with_row (made ts named ss fs stage) row).structs (with_row (made ts named ss fs stage) row).functions (with_row (made ts named ss fs stage) row).stage
  used_made ts named (Typedef t) good fits = noted_none ss fs stage noted_here
  used_made ts named (Named n) good fits = noted_none ss fs stage noted_here
  used_made ts named (Opened n) good fits = noted_opened (InStruct [] 0 false) fits.0 refl
  used_made ts named (Gap k n) good fits = noted_none ss fs (gapped_of stage n) (noted_gap here ss fs stage (gapped_of stage n) n refl noted_here)
  used_made ts named (Member field) good fits = noted_field here (here ++ row_types (Member field)) ss fs stage (member_of stage field) field refl fits.0 (adds_self here (row_types (Member field))) noted_here
  used_made ts named Closed good fits = noted_none (closed_structs ss stage) fs (closed_stage stage) (noted_end here ss (closed_structs ss stage) fs stage (closed_stage stage) refl refl fits noted_here)
  used_made ts named (Pair n) good fits = noted_opened (InPair n) fits.0 refl
  used_made ts named (Half r t) good fits = noted_half here (here ++ row_types (Half r t)) ss fs stage (half_of stage t) r t refl fits.0 (adds_self here (row_types (Half r t))) noted_here
  used_made ts named (Stated returns n args) good fits =
      noted_function (made ts named ss fs stage) here (here ++ row_types (Stated returns n args)) ss fs (fs ++ stated_of stage returns n args ∷ []) stage returns n args refl good fits.0 (adds_self here (row_types (Stated returns n args))) noted_here

pub used_row : (parts : Parts) (row : Row) → GivesGood row → Fits parts row → (t : CType) → Contains (all_used parts ++ row_types row) t ↔ Contains (all_used (with_row parts row)) t
used_row parts row good fits = used_made parts.structs parts.functions parts.stage parts.typedefs parts.named row good fits

pub used_with : (parts : Parts) (row : Row) → IsRow row → Fits parts row → (t : CType) → Contains (all_used parts ++ row_types row) t ↔ Contains (all_used (with_row parts row)) t
used_with parts row good fits = used_row parts row (good_gives row good) fits

-- a type that lines use was used before them, or one of them uses it
pub used_all : (parts : Parts) (rows : List Row) (last : Parts) → All IsRow rows → Accepts parts rows last → (t : CType) → Contains (all_used last) t → Contains (all_used parts) t ⊎ Contains (flat_map row_types rows) t
used_all parts [] last good all t h = inl (subst (λ p. Contains (all_used p) t) (sym all) h)
used_all parts (row ∷ rows) last good all t h =
    elim (used_all (with_row parts row) rows last (All-tail IsRow row rows good) all.1 t h) [
      | inl a ↦ elim (Contains-append_cases (all_used parts) (row_types row) t ((used_with parts row (All-head IsRow row rows good) all.0 t).1 a)) [
        | inl b ↦ inl b
        | inr c ↦ inr (Contains-append_left (row_types row) (flat_map row_types rows) t c)
      ]
      | inr d ↦ inr (Contains-append_right (row_types row) (flat_map row_types rows) t d)
    ]

-- types stay listed
listed_with : (parts : Parts) (row : Row) (t : CType) → Contains parts.typedefs t → Contains (with_row parts row).typedefs t
listed_with parts (Typedef u) t h = Contains-append_left parts.typedefs (u ∷ []) t h
listed_with parts (Named n) t h = h
listed_with parts (Opened n) t h = h
listed_with parts (Gap k n) t h = h
listed_with parts (Member field) t h = h
listed_with parts Closed t h = h
listed_with parts (Pair n) t h = h
listed_with parts (Half r u) t h = h
listed_with parts (Stated returns n args) t h = h

pub listed_all : (parts : Parts) (rows : List Row) (last : Parts) → Accepts parts rows last → (t : CType) → Contains parts.typedefs t → Contains last.typedefs t
listed_all parts [] last all t h = subst (λ p. Contains p.typedefs t) all h
listed_all parts (row ∷ rows) last all t h = listed_all (with_row parts row) rows last all.1 t (listed_with parts row t h)
