-- What was read, with a line more, by its parts.
use Rattle.std.proofs.Common.{◌≡◌, ℕ, Bool, ◌↔◌, IsTrue, List, [], ◌∷◌, ◌++◌, All, length, ap, sym, subst, ◌∙◌}
use Rattle.rt_lines.specs.declared.label.Loc.{Loc}
use Rattle.rt_cdecl.specs.declared.declarations.CType.{CType}
use Rattle.rt_cdecl.specs.declared.declarations.CStruct.{CStruct}
use Rattle.rt_cdecl.specs.declared.declarations.CFunction.{CFunction}
use Rattle.rt_cdecl.specs.Rows.{Row, Half, Stated, Returns}
use Rattle.rt_cdecl.specs.GoodDecls.{arg_types}
use Rattle.rt_cdecl.specs.Inside.Drafts.{Stage, Idle, Parts, with_row, Fits, IsListed, MayHalf, MayReturn, IsWhole, stated_of}
use Rattle.rt_cdecl.specs.Inside.Endings.{AreLeft}
use Rattle.rt_cdecl.proofs.Sound.{made}
use Rattle.rt_cdecl.proofs.Left.{none_left_used}

-- what was read, with a function's line more
pub function_is : (ts : List CType) (named : ℕ) (ss : List CStruct) (fs : List CFunction) (stage : Stage) (returns : Returns) (n : ℕ) (args : List (Loc × CType)) (taken : Stage) (f : CFunction) (more : List CFunction) (after : Stage) → taken ≡ stage → after ≡ Idle → f ≡ stated_of taken returns n args → more ≡ fs ++ f ∷ [] → made ts named ss more after ≡ with_row (made ts named ss fs stage) (Stated returns n args)
function_is ts named ss fs stage returns n args taken f more after was none same grown =
    let grown_so : more ≡ fs ++ stated_of stage returns n args ∷ [] = grown ∙ ap (λ g. fs ++ g ∷ []) (same ∙ ap (λ s. stated_of s returns n args) was) in
    λ i. made ts named ss (grown_so i) (none i)

-- what was read is whole
pub whole_is : (parts : Parts) (left : List CType) (none : Bool) → parts.stage ≡ Idle → length parts.structs ≡ parts.named → AreLeft left parts → IsTrue none ↔ (left ≡ []) → IsTrue none ↔ IsWhole parts
whole_is parts left none idle count leaves test =
    let used = none_left_used left parts leaves idle in
    (λ h. (idle, count, used.0 (test.0 h)), λ w. test.1 (used.1 w.2))

-- whether a result of a pair may follow
pub half_may : (parts : Parts) (row : Row) (r : ℕ) (t : CType) (b : Bool) → row ≡ Half r t → MayHalf parts.stage r t → IsTrue b ↔ IsListed parts t → IsTrue b ↔ Fits parts row
half_may parts row r t b at may test = subst (λ (q : Row). IsTrue b ↔ Fits parts q) (sym at) (λ h. (may, test.0 h), λ f. test.1 f.1)

-- whether a function's line may follow
pub stated_may : (parts : Parts) (row : Row) (returns : Returns) (n : ℕ) (args given : List (Loc × CType)) (b : Bool) → row ≡ Stated returns n args → given ≡ args → MayReturn parts parts.stage returns n → IsTrue b ↔ All (IsListed parts) (arg_types given) → IsTrue b ↔ Fits parts row
stated_may parts row returns n args given b at same may test =
    let here : IsTrue b ↔ All (IsListed parts) (arg_types args) = subst (λ (some : List (Loc × CType)). IsTrue b ↔ All (IsListed parts) (arg_types some)) same test in
    subst (λ (q : Row). IsTrue b ↔ Fits parts q) (sym at) (λ h. (may, here.0 h), λ f. here.1 f.1)
