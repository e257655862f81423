-- What readers of texts give.
use Rattle.std.specs.Prelude.{◌≡◌, ◌≢◌, ℕ, ◌⊎◌, List, [], ◌∷◌, ◌++◌, Option, MatchOption, Result, MatchResult}
use Rattle.rt_texts.specs.declared.fault.TextFault.{TextFault}
use Rattle.rt_texts.specs.declared.fault.TextFault.TheVariants.{BadText, Memory}

-- no good value has the text, or the texts of several parts
abbrev pub IsNoText : {X T : Type 0} → (X → Type 0) → (X → T) → T → Type 0
IsNoText {X} IsGood text_of text = (x : X) → IsGood x → text_of x ≢ text

-- the good value that has the text; none where no good value has it
abbrev pub Reads : {X T : Type 0} → (X → Type 0) → (X → T) → T → Option X → Type 0
Reads {X} IsGood text_of text r = MatchOption r (IsNoText IsGood text_of text) (λ x. IsGood x × (text_of x ≡ text))

-- the good value that has the text; else no good value has it, or memory ran out
abbrev pub ReadsOrFails : {X T : Type 0} → (X → Type 0) → (X → T) → T → Result X TextFault → Type 0
ReadsOrFails {X} IsGood text_of text r =
    MatchResult r (λ x. IsGood x × (text_of x ≡ text)) (λ e. (e ≡ Memory) ⊎ ((e ≡ BadText 0) × IsNoText IsGood text_of text))

-- the byte is not in the list
abbrev pub HasNo : ℕ → List ℕ → Type 0
HasNo byte [] = Unit {0}
HasNo byte (b ∷ bs) = (b ≢ byte) × HasNo byte bs

-- the list is empty or begins with the byte
abbrev pub StopsAt : ℕ → List ℕ → Type 0
StopsAt byte [] = Unit {0}
StopsAt byte (b ∷ bs) = b ≡ byte

-- the parts of a text before and from the first place of the byte
pub record IsCut (byte : ℕ) (text front back : List ℕ) : Type 0 where
  pub joined : text ≡ front ++ back
  pub clear : HasNo byte front
  pub stops : StopsAt byte back
