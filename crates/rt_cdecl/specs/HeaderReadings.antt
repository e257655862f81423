-- Declarations read from headers, and the first line at which no header's text goes on.
use Rattle.std.specs.Prelude.{◌≡◌, ℕ, ◌+◌, ◌⊎◌, List, [], ◌∷◌, ◌++◌, All, length}
use Rattle.std.specs.List.{flat_map}
use Rattle.rt_texts.specs.declared.fault.TextFault.{TextFault}
use Rattle.rt_texts.specs.declared.fault.TextFault.TheVariants.{BadText, Memory}
use Rattle.rt_texts.specs.Readings.{IsNoText, HasNo, IsCut}
use Rattle.rt_cdecl.specs.declared.declarations.Decls.{Decls}
use Rattle.rt_cdecl.specs.Texts.{decls_text}
use Rattle.rt_cdecl.specs.GoodDecls.{IsGoodDecls}

-- lines, each with its line end
abbrev pub with_ends : List (List ℕ) → List ℕ
with_ends lines = flat_map (λ (line : List ℕ). line ++ 10 ∷ []) lines

-- the text of some well formed declarations begins so
pub record IsFront (front : List ℕ) : Type 0 where
  pub decls : Decls
  pub good : IsGoodDecls decls
  pub rest : List ℕ
  pub joined : front ++ rest ≡ decls_text decls

-- no well formed declarations have the text
abbrev pub IsNoHeader : List ℕ → Type 0
IsNoHeader text = IsNoText IsGoodDecls decls_text text

-- the rest begins with a whole line, and no header's text begins with the lines before and this one
abbrev pub NoneGoesOn : List (List ℕ) → List ℕ → Type 0
NoneGoesOn before rest = (line more : List ℕ) × IsCut 10 rest line (10 ∷ more) × (IsFront (with_ends (before ++ line ∷ [])) → ⊥)

-- The lines before the one that begins at this byte begin some header's text, and with it they begin none. Where the text has no more
-- whole lines than these, its end counts as a line: the text is no header's.
pub record IsBadLine (text : List ℕ) (place : ℕ) : Type 0 where
  pub before : List (List ℕ)
  pub rest : List ℕ
  pub each : All (HasNo 10) before
  pub joined : with_ends before ++ rest ≡ text
  pub placed : length (with_ends before) ≡ place
  pub begins : IsFront (with_ends before)
  pub bad : (HasNo 10 rest × IsNoHeader text) ⊎ NoneGoesOn before rest

-- why a text is no header's; memory may run out
abbrev pub IsFault : List ℕ → TextFault → Type 0
IsFault text (BadText place) = IsBadLine text place
IsFault text Memory = Unit {0}
