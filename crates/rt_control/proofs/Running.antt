-- Runs, step by step.
use Rattle.std.proofs.Common.{◌≡◌, ℕ, suc, ◌+◌, ◌-◌, ◌%◌, ◌<◌, ◌≤◌, ◌==◌, ◌&&◌, nat_le, IsTrue, true, false, Option, Some, List, [], ◌∷◌, ◌++◌, drop, length, get_or, sym, ap, subst, ◌∙◌, arith, add-one, append_assoc, eq-eqb, length-append}
use Rattle.std.proofs.Math.Seq.{drop-cons}
use Rattle.std.proofs.lemmas.Bool.{le-leb, leb-true, and_parts}
use Rattle.std.proofs.lemmas.List.{append-nil}
use Rattle.rt_elf.specs.Parts.{Parts as Object}
use Rattle.rt_elf.specs.Object.{section_of}
use Rattle.rt_elf.specs.Sections.{is_code_section}
use Rattle.rt_elf.proofs.Booleans.{eqb-is}
use Rattle.rt_insn.specs.declared.insn.Insn.{Insn}
use Rattle.rt_link.specs.declared.link.Link.{Link}
use Rattle.rt_link.specs.declared.place.Place.{Place}
use Rattle.rt_link.specs.Effects.{link_at}
use Rattle.rt_control.specs.declared.run.Step.{Step}
use Rattle.rt_control.specs.Places.{is_good, word_of}
use Rattle.rt_control.specs.Runs.{at, rd_of, is_rd, writer_of, is_step, IsStep, AreBefore, IsRun}
use Rattle.rt_control.proofs.Room.{all_true}
use Rattle.rt_control.specs.Sites.{IsInsnOf}
use Rattle.rt_control.specs.Runs.AreBefore.{full, begins, breaks, goes_back}

-- Writers.

-- a step that doesn't write is passed
pub writer-next : (register : ℕ) (steps : List Step) (i : ℕ) (d : Step) → i < length steps → is_rd register (rd_of (get_or steps i d).insn) ≡ false
    → writer_of register (drop i steps) ≡ writer_of register (drop (i + 1) steps)
writer-next register steps i d lt e = ap (λ (s : List Step). writer_of register s) (drop-cons steps i d lt) ∙ rw e (ap (λ (n : ℕ). writer_of register (drop n steps)) (sym (add-one i)))

-- one that writes is the writer
pub writer-here : (register : ℕ) (steps : List Step) (i : ℕ) (d : Step) → i < length steps → is_rd register (rd_of (get_or steps i d).insn) ≡ true
    → writer_of register (drop i steps) ≡ Some (get_or steps i d, drop (i + 1) steps)
writer-here register steps i d lt e =
    ap (λ (s : List Step). writer_of register s) (drop-cons steps i d lt) ∙ rw e (ap (λ (n : ℕ). Some (get_or steps i d, drop n steps)) (sym (add-one i)))

-- Steps.

-- no step stands where the instruction there isn't one
pub not_step : (object : Object) (section offset : ℕ) (insn : Insn) (link : Option Link) → link ≡ link_at object (at section offset)
    → ((other : Option Insn) → IsInsnOf (word_of object (at section offset)) other → other ≡ Some insn) → is_step object section offset insn link ≡ false
    → (step : Step) → IsStep object section offset step → ⊥
not_step object section offset insn link e only none step is =
    let found : Some step.insn ≡ Some insn = only (Some step.insn) is.stands in
    let insns : step.insn ≡ insn = cc in
    let links : step.link ≡ link = is.link_is ∙ sym e in
    let same : is_step object section offset step.insn step.link ≡ is_step object section offset insn link =
    ap (λ (i : Insn). is_step object section offset i step.link) insns ∙ ap (λ (l : Option Link). is_step object section offset insn l) links in
    let no : true ≡ false = sym is.is_step ∙ same ∙ none in
    cc

-- Runs.

-- some first steps of the run of a jump, down to a place: with those before it they are the run
pub record IsRunTo (object : Object) (jump place : Place) (steps : List Step) : Type 0 where
  pub good : IsTrue (is_good object place)
  pub few : length steps ≤ 64
  pub rest : (others : List Step) → AreBefore object place.section place.offset (64 - length steps) others → IsRun object jump (steps ++ others)

-- the place 4 bytes before a good one is good
pub earlier_good : (object : Object) (section offset : ℕ) → IsTrue (is_good object (at section offset)) → 4 ≤ offset → IsTrue (is_good object (at section (offset - 4)))
earlier_good object section offset good le =
    let here = section_of object section in
    let outer = and_parts (is_code_section here && (offset % 4 == 0)) (nat_le (offset + 4) here.size) good in
    let inner = and_parts (is_code_section here) (offset % 4 == 0) outer.0 in
    let is_aligned : offset % 4 ≡ 0 = eqb-is (offset % 4) 0 inner.1 in
    let aligned : (offset - 4) % 4 ≡ 0 = omega arith in
    let is_within : offset + 4 ≤ here.size = leb-true (offset + 4) here.size outer.1 in
    let within : (offset - 4) + 4 ≤ here.size = omega arith in
    all_true _ _ _ inner.0 (eq-eqb _ _ aligned) (le-leb _ _ within)

pub none_yet : (object : Object) (jump : Place) → IsTrue (is_good object jump) → IsRunTo object jump jump []
none_yet object jump good = record { good = good; few = omega arith; rest = λ others before. before }

pub one_more : (object : Object) (jump : Place) (section offset : ℕ) (steps : List Step) (step : Step) → IsRunTo object jump (at section offset) steps → length steps < 64 → 4 ≤ offset
    → IsStep object section (offset - 4) step → IsRunTo object jump (at section (offset - 4)) (steps ++ step ∷ [])
one_more object jump section offset steps step run lt le is = record {
  good = earlier_good object section offset run.good le;
  few = let e : length (steps ++ step ∷ []) ≡ length steps + 1 = length-append steps (step ∷ []) in omega arith;
  rest = λ others before.
      let e : length (steps ++ step ∷ []) ≡ length steps + 1 = length-append steps (step ∷ []) in
      let room : 64 - length steps ≡ suc (64 - length (steps ++ step ∷ [])) = omega arith in
      let back : (offset - 4) + 4 ≡ offset = omega arith in
      let longer : AreBefore object section offset (64 - length steps) (step ∷ others) =
      subst (λ (n : ℕ). AreBefore object section offset n (step ∷ others)) (sym room) (goes_back back is before) in
      subst (λ (all : List Step). IsRun object jump all) (sym (append_assoc steps (step ∷ []) others)) (run.rest (step ∷ others) longer);
}

-- steps that end are the run
no_others : (object : Object) (jump place : Place) (steps : List Step) → IsRunTo object jump place steps → AreBefore object place.section place.offset (64 - length steps) [] → IsRun object jump steps
no_others object jump place steps run before = subst (λ (all : List Step). IsRun object jump all) (append-nil steps) (run.rest [] before)

pub at_most : (object : Object) (jump place : Place) (steps : List Step) → IsRunTo object jump place steps → 64 ≤ length steps → IsRun object jump steps
at_most object jump place steps run le =
    let room : 0 ≡ 64 - length steps = omega arith in
    no_others object jump place steps run (subst (λ (n : ℕ). AreBefore object place.section place.offset n []) room full)

pub at_begin : (object : Object) (jump place : Place) (steps : List Step) → IsRunTo object jump place steps → place.offset < 4 → IsRun object jump steps
at_begin object jump place steps run short = no_others object jump place steps run (begins short)

pub at_break : (object : Object) (jump : Place) (section offset : ℕ) (steps : List Step) → IsRunTo object jump (at section offset) steps → 4 ≤ offset
    → ((step : Step) → IsStep object section (offset - 4) step → ⊥) → IsRun object jump steps
at_break object jump section offset steps run le none =
    let back : (offset - 4) + 4 ≡ offset = omega arith in
    no_others object jump (at section offset) steps run (breaks back none)
