-- Words that are AUIPC and JALR, and words that are neither.
use Rattle.std.proofs.Common.{◌≡◌, ℕ, ◌^◌, ◌<◌, ◌==◌, ◌&&◌, inl, inr, Bool, true, false, not, Option, Some, None, if◌then◌else◌, IsTrue, refl, sym, ◌∙◌}
use Rattle.std.proofs.lemmas.Bool.{ne_eqb, cases_Bool, and_parts, not-true}
use Rattle.std.proofs.lemmas.Bool.Decides.{Decides-eqb}
use Rattle.rt_insn.specs.Format.{imm_i, imm_u}
use Rattle.rt_insn.specs.Table.{IsCode}
use Rattle.rt_insn.specs.Word.{field}
use Rattle.rt_insn.specs.declared.insn.Insn.{Insn}
use Rattle.rt_insn.specs.declared.insn.Insn.TheVariants.{Auipc, Jalr}
use Rattle.rt_elf.proofs.Booleans.{eqb-is}
use Rattle.rt_link.specs.Checks.{is_pair}
use Rattle.rt_link.specs.Laws.{ArePair}

-- a word that is no instruction is no AUIPC
pub no_auipc : (w : ℕ) → w < 2 ^ 32 → (answer : Option Insn) → answer ≡ None → ((i : Insn) → IsCode w i → answer ≡ Some i)
    → None ≡ (if field w 0 7 == 0x17 then Some (field w 7 5) else None)
no_auipc w fits answer none only = elim (cases_Bool (field w 0 7 == 0x17)) [
  | inl e ↦
      let found = only (Auipc (field w 7 5) (imm_u w)) (record { fits = fits; has_opcode = eqb-is _ _ e; has_rd = refl; has_imm = refl }) in
      cc
  | inr e ↦ rw e refl
]

-- and no JALR
pub no_jalr : (w : ℕ) → w < 2 ^ 32 → (answer : Option Insn) → answer ≡ None → ((i : Insn) → IsCode w i → answer ≡ Some i)
    → None ≡ (if (field w 0 7 == 0x67) && (field w 12 3 == 0) then Some (field w 15 5) else None)
no_jalr w fits answer none only = elim (cases_Bool ((field w 0 7 == 0x67) && (field w 12 3 == 0))) [
  | inl e ↦
      let both = and_parts _ _ e in
      let found = only (Jalr (field w 7 5) (field w 15 5) (imm_i w)) (record { fits = fits; has_opcode = eqb-is _ _ both.0; has_funct3 = eqb-is _ _ both.1; has_rd = refl; has_rs1 = refl; has_imm = refl }) in
      cc
  | inr e ↦ rw e refl
]

true≢false : true ≡ false → ⊥
true≢false e = cc

-- a pair by the fields of the words is one by the code table
pub are_pair : (first second : ℕ) → first < 2 ^ 32 → second < 2 ^ 32 → IsTrue (is_pair first second) → ArePair first second
are_pair first second f g e =
    let a = and_parts _ _ e in
    let b = and_parts _ _ a.0 in
    let c = and_parts _ _ b.0 in
    let d = and_parts _ _ c.0 in
    record {
      register = field first 7 5;
      high = imm_u first;
      link = field second 7 5;
      low = imm_i second;
      is_auipc = record { fits = f; has_opcode = eqb-is _ _ d.0; has_rd = refl; has_imm = refl };
      is_jalr = record { fits = g; has_opcode = eqb-is _ _ d.1; has_funct3 = eqb-is _ _ c.1; has_rd = refl; has_rs1 = sym (eqb-is _ _ b.1); has_imm = refl };
      is_not_zero = λ z. let z' : (field first 7 5 == 0) ≡ true = (Decides-eqb _ _).1 z in true≢false (sym z' ∙ not-true _ a.1);
    }

-- and the other way round
pub pair_of : (first second : ℕ) → ArePair first second → IsTrue (is_pair first second)
pair_of first second pair =
    let register : field first 7 5 ≡ pair.register = sym pair.is_auipc.has_rd in
    let base : field second 15 5 ≡ pair.register = sym pair.is_jalr.has_rs1 in
    let same : (pair.register == pair.register) ≡ true = (Decides-eqb _ _).1 refl in
    rw (pair.is_auipc.has_opcode, pair.is_jalr.has_opcode, pair.is_jalr.has_funct3, base, register, same, ne_eqb pair.register 0 pair.is_not_zero) refl
