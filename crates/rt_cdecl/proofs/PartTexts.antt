-- Parts of lines as they are read.
use Rattle.std.proofs.Common.{◌≡◌, ◌≢◌, ℕ, ◌-◌, ◌<◌, List, ◌∷◌, ◌++◌, length, take, drop, refl, ap, sym, subst, ◌∙◌, inl, inr, arith, codes, decimal}
use Rattle.std.proofs.lemmas.Grind.{common_steps}
use Rattle.std.proofs.lemmas.List.{append_cancel_left}
use Rattle.rt_texts.specs.Readings.{IsCut}
use Rattle.rt_texts.proofs.Cuts.{one_cut}
use Rattle.rt_cdecl.specs.declared.declarations.CType.TheVariants.{Scalar}
use Rattle.rt_cdecl.specs.Types.{IsType, IsWidth}
use Rattle.rt_cdecl.specs.Rows.{scalar_text}
use Rattle.rt_cdecl.proofs.OneRow.{one_tail, decimal-8, decimal-16, decimal-32, clear_scalar}

-- a scalar by its last bytes
pub tail_8 : (front name text : List ℕ) (bits : ℕ) → text ≡ front ++ codes "_8" → IsWidth bits → name ++ 95 ∷ decimal bits ≡ text → (front ≡ name) × (8 ≡ bits)
tail_8 front name text bits is wide same = one_tail front name 8 bits (inl refl) wide (ap (λ ds. front ++ 95 ∷ ds) decimal-8 ∙ (sym is ∙ sym same))

pub tail_16 : (front name text : List ℕ) (bits : ℕ) → text ≡ front ++ codes "_16" → IsWidth bits → name ++ 95 ∷ decimal bits ≡ text → (front ≡ name) × (16 ≡ bits)
tail_16 front name text bits is wide same = one_tail front name 16 bits (inr (inl refl)) wide (ap (λ ds. front ++ 95 ∷ ds) decimal-16 ∙ (sym is ∙ sym same))

pub tail_32 : (front name text : List ℕ) (bits : ℕ) → text ≡ front ++ codes "_32" → IsWidth bits → name ++ 95 ∷ decimal bits ≡ text → (front ≡ name) × (32 ≡ bits)
tail_32 front name text bits is wide same = one_tail front name 32 bits (inr (inr refl)) wide (ap (λ ds. front ++ 95 ∷ ds) decimal-32 ∙ (sym is ∙ sym same))

pub no_tail : (text name : List ℕ) (bits : ℕ) → ((front : List ℕ) → text ≢ front ++ codes "_8") → ((front : List ℕ) → text ≢ front ++ codes "_16") → ((front : List ℕ) → text ≢ front ++ codes "_32") → IsWidth bits → name ++ 95 ∷ decimal bits ≡ text → ⊥
no_tail text name bits a b c (inl e) same = a name (sym same ∙ ap (λ ds. name ++ 95 ∷ ds) (ap decimal e ∙ decimal-8))
no_tail text name bits a b c (inr (inl e)) same = b name (sym same ∙ ap (λ ds. name ++ 95 ∷ ds) (ap decimal e ∙ decimal-16))
no_tail text name bits a b c (inr (inr e)) same = c name (sym same ∙ ap (λ ds. name ++ 95 ∷ ds) (ap decimal e ∙ decimal-32))

-- a scalar as its text is cut at the first space
pub scalar_cut : (name rest text front back : List ℕ) (bits : ℕ) → IsType (Scalar name bits) → scalar_text name bits ++ 32 ∷ rest ≡ text → IsCut 32 text front back → (scalar_text name bits ≡ front) × (32 ∷ rest ≡ back)
scalar_cut name rest text front back bits good same cut =
    one_cut 32 (scalar_text name bits) (32 ∷ rest) front back (same ∙ cut.joined) (clear_scalar name bits good) refl cut.clear cut.stops

pub some_back : (rest back : List ℕ) → 32 ∷ rest ≡ back → length back < 1 → ⊥
some_back rest back same short = let long : length (32 ∷ rest) ≡ length back = ap length same in absurd (omega arith)

slice_rest : (b : ℕ) (rest : List ℕ) → take (length (b ∷ rest) - 1) (drop 1 (b ∷ rest)) ≡ rest
slice_rest b rest = grind (arith, common_steps)

pub rest_of : (b : ℕ) (rest back : List ℕ) → b ∷ rest ≡ back → take (length back - 1) (drop 1 back) ≡ rest
rest_of b rest back same = subst (λ s. take (length s - 1) (drop 1 s) ≡ rest) same (slice_rest b rest)

pub named_is : (name front named : List ℕ) (bits : ℕ) → scalar_text name bits ≡ front → front ≡ codes "rt_" ++ named → name ++ 95 ∷ decimal bits ≡ named
named_is name front named bits same is = append_cancel_left (codes "rt_") (name ++ 95 ∷ decimal bits) named (same ∙ is)
