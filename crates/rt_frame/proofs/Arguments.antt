-- Questions of arguments, one register after the other.
use Rattle.std.proofs.Common.{◌≡◌, ◌+◌, ◌<◌, ℕ, Bool, true, false, cond, List, [], ◌∷◌, ◌++◌, map, filter, length, take, get_or, refl, sym, ap, ◌∙◌, append_assoc}
use Rattle.std.proofs.lemmas.List.{map-append}
use Rattle.std.proofs.lemmas.List.Elements.{filter_more}
use Rattle.rt_frame.specs.declared.question.Question.{Question}
use Rattle.rt_frame.specs.declared.question.Question.TheVariants.{OfUse}

module _ (site : ℕ) (takes : ℕ → Bool) where
  one : (b : Bool) (register : ℕ) → map (λ r. OfUse site r) (cond b (register ∷ []) []) ≡ cond b (OfUse site register ∷ []) []
  one true register = refl
  one false register = refl

  pub argument_more : (registers : List ℕ) (i d : ℕ) (old mid new : List Question) → i < length registers
      → mid ≡ old ++ map (λ r. OfUse site r) (filter takes (take i registers))
      → new ≡ mid ++ cond (takes (get_or registers i d)) (OfUse site (get_or registers i d) ∷ []) []
      → new ≡ old ++ map (λ r. OfUse site r) (filter takes (take (i + 1) registers))
  argument_more registers i d old mid new less before here =
      let register = get_or registers i d in
      let first = filter takes (take i registers) in
      let last = cond (takes register) (register ∷ []) [] in
      let asked = cond (takes register) (OfUse site register ∷ []) [] in
      let f : ℕ → Question = λ r. OfUse site r in
      let more : filter takes (take (i + 1) registers) ≡ first ++ last = filter_more takes registers i d less in
      let all : map f (filter takes (take (i + 1) registers)) ≡ map f first ++ asked =
      ap (map f) more ∙ (map-append f first last ∙ ap (λ ys. map f first ++ ys) (one (takes register) register)) in
      here ∙ (ap (λ ys. ys ++ asked) before ∙ (append_assoc old (map f first) asked ∙ ap (λ ys. old ++ ys) (sym all)))
