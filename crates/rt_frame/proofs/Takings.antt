-- What questions ask for.
use Rattle.std.proofs.Common.{◌≡◌, inl, inr, ℕ, ℤ, List, sym, subst, ◌∙◌}
use Rattle.rt_flow.specs.declared.def.Def.{Def}
use Rattle.rt_track.specs.declared.value.Value.{Value}
use Rattle.rt_track.specs.declared.value.Value.TheVariants as value
use Rattle.rt_body.specs.Readings.{Reading}
use Rattle.rt_frame.specs.declared.question.Question.{Question}
use Rattle.rt_frame.specs.declared.question.Question.TheVariants.{OfUse, OfDefinition}
use Rattle.rt_frame.specs.Frames.{IsOfFrame}
use Rattle.rt_frame.specs.Inside.Gathering.{Among, Gains}
use Rattle.rt_frame.specs.Questions.{def_value}
use Rattle.rt_frame.proofs.Gathered.{gains_as, same_offset}

module _ (reading : Reading) (site register : ℕ) (multi : reading.value_at site register ≡ value.Multi) (k : ℤ) where
  Reached : Type 0
  Reached = Among (reading.reaching site register) (λ (def : Def) k. def_value reading register def ≡ value.Frame k) k

  of_several : Reached → IsOfFrame reading k (OfUse site register)
  unfolding Reached
  of_several reached = inr (multi, reached)

  several_of : IsOfFrame reading k (OfUse site register) → Reached
  unfolding Reached
  several_of (inl one) = absurd (cc)
  several_of (inr (multi, reached)) = reached

pub take_several : (reading : Reading) (site register : ℕ) (question : Question) {old new : List ℤ} → question ≡ OfUse site register → reading.value_at site register ≡ value.Multi
    → Gains old new (Among (reading.reaching site register) (λ (def : Def) k. def_value reading register def ≡ value.Frame k))
    → Gains old new (λ k. IsOfFrame reading k question)
unfolding Reached
take_several reading site register question {old} {new} is multi gains =
    subst (λ q. Gains old new (λ k. IsOfFrame reading k q)) (sym is)
    (gains_as (λ k. IsOfFrame reading k (OfUse site register)) gains (λ k. (of_several reading site register multi k, several_of reading site register multi k)))

pub take_defined : (reading : Reading) (register : ℕ) (def : Def) (question : Question) {old new : List ℤ} (v : Value) → question ≡ OfDefinition def register → v ≡ def_value reading register def
    → Gains old new (λ k. v ≡ value.Frame k)
    → Gains old new (λ k. IsOfFrame reading k question)
take_defined reading register def question {old} {new} v is same gains =
    subst (λ q. Gains old new (λ k. IsOfFrame reading k q)) (sym is)
    (gains_as (λ k. IsOfFrame reading k (OfDefinition def register)) gains (same_offset v (def_value reading register def) same))

module _ (reading : Reading) (site register : ℕ) (v : Value) (same : v ≡ reading.value_at site register) (one : v ≡ value.Multi → ⊥) (k : ℤ) where
  of_one : v ≡ value.Frame k → IsOfFrame reading k (OfUse site register)
  of_one e = inl (sym same ∙ e)

  one_of : IsOfFrame reading k (OfUse site register) → v ≡ value.Frame k
  one_of (inl e) = same ∙ e
  one_of (inr (multi, reached)) = absurd (one (same ∙ multi))

pub take_one : (reading : Reading) (site register : ℕ) (question : Question) (v : Value) {old new : List ℤ} → question ≡ OfUse site register → v ≡ reading.value_at site register → (v ≡ value.Multi → ⊥)
    → Gains old new (λ k. v ≡ value.Frame k)
    → Gains old new (λ k. IsOfFrame reading k question)
take_one reading site register question v {old} {new} is same one gains =
    subst (λ q. Gains old new (λ k. IsOfFrame reading k q)) (sym is)
    (gains_as (λ k. IsOfFrame reading k (OfUse site register)) gains (λ k. (of_one reading site register v same one k, one_of reading site register v same one k)))
