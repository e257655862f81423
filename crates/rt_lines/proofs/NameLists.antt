-- A list of names with one name more.
use Rattle.std.proofs.Common.{◌≢◌, ℕ, ◌<◌, List, [], ◌∷◌, ◌++◌, length, Contains, ◌∙◌, arith, length-append}
use Rattle.std.proofs.lemmas.List.{get_or_default}
use Rattle.std.proofs.lemmas.List.Elements.{All-push}
use Rattle.std.proofs.lemmas.List.Quantifiers.{all_pairs_push}
use Rattle.rt_lines.specs.Names.{IsName, AreNames}

pub AreNames-push : (names : List (List ℕ)) (name : List ℕ) → AreNames names → IsName name → (Contains names name → ⊥) → length names < 65535 → AreNames (names ++ name ∷ [])
AreNames-push names name good spelled absent room =
    record {
      spelled = All-push IsName names name good.spelled spelled;
      distinct =
          all_pairs_push (λ a b. a ≢ b) names name good.distinct
          (λ k d h e. absent (k, h, get_or_default names k name d h ∙ e));
      few = omega (arith, length-append names (name ∷ []));
    }
