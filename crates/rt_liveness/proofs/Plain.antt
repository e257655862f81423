-- Which words are plain jumps.
use Rattle.std.proofs.Common.{◌≡◌, ◌↔◌, ℕ, ℤ, pos, Bool, true, false, IsTrue, Option, Some, None, IfSome, refl, sym, ap, subst, ◌∙◌}
use Rattle.std.proofs.lemmas.Bool.{true≢false}
use Rattle.std.proofs.lemmas.Bool.Decides.{Decides-int_eq}
use Rattle.rt_insn.specs.Table.{IsCode}
use Rattle.rt_insn.specs.declared.insn.Insn.{Insn}
use Rattle.rt_insn.specs.declared.insn.Insn.TheVariants.{Jalr}
use Rattle.rt_liveness.specs.Inside.Found.{is_plain_insn}

plain_is : (insn : Insn) → is_plain_insn insn ≡ true → (link : ℕ) × (register : ℕ) × (insn ≡ Jalr link register (pos 0))
plain_is (Jalr link register offset) e = (link, register, ap (Jalr link register) ((Decides-int_eq offset (pos 0)).0 e))
plain_is other e = absurd (true≢false (sym e))

-- of a word that is an instruction
pub plain_code : (word : ℕ) (found : Option Insn) (insn : Insn) (b : Bool) → found ≡ Some insn → IfSome found (IsCode word) → ((i : Insn) → IsCode word i → found ≡ Some i) → b ≡ is_plain_insn insn
    → IsTrue b ↔ ((link register : ℕ) × IsCode word (Jalr link register (pos 0)))
plain_code word found insn b is code only result = (
  (λ e. let plain = plain_is insn (sym result ∙ e) in (plain.0, plain.1, subst (IsCode word) plain.2 (subst (λ (o : Option Insn). IfSome o (IsCode word)) is code))),
  λ h. let same : insn ≡ Jalr h.0 h.1 (pos 0) = let both : Some insn ≡ Some (Jalr h.0 h.1 (pos 0)) = sym is ∙ only (Jalr h.0 h.1 (pos 0)) h.2 in cc in
      result ∙ (ap is_plain_insn same ∙ (Decides-int_eq (pos 0) (pos 0)).1 refl),
)

-- of a word that is none
pub no_code : (word : ℕ) (found : Option Insn) → found ≡ None → ((i : Insn) → IsCode word i → found ≡ Some i) → IsTrue false ↔ ((link register : ℕ) × IsCode word (Jalr link register (pos 0)))
no_code word found is only = (
  (λ e. absurd (true≢false (sym e))),
  λ h. let both : None ≡ Some (Jalr h.0 h.1 (pos 0)) = sym is ∙ only (Jalr h.0 h.1 (pos 0)) h.2 in cc,
)
