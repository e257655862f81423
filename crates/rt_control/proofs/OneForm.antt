-- What stands at a place does one thing.
use Rattle.std.proofs.Common.{◌≡◌, ℕ, ◌+◌, ◌<◌, pos, inl, inr, Option, Some, None, List, [], ◌∷◌, Result, Ok, Err, length, refl, sym, ap, subst, ◌∙◌, arith}
use Rattle.std.specs.Result.{IsErrAnd}
use Rattle.std.proofs.lemmas.List.{ext_get_or}
use Rattle.rt_elf.specs.Parts.{Parts as Object}
use Rattle.rt_insn.specs.declared.insn.Insn.{Insn}
use Rattle.rt_insn.specs.Table.{IsCode}
use Rattle.rt_insn.proofs.Reading.{insn_of-code}
use Rattle.rt_link.specs.declared.link.Link.{Link}
use Rattle.rt_link.specs.declared.place.Place.{Place}
use Rattle.rt_link.specs.declared.pointers.Pointer.{Pointer}
use Rattle.rt_link.specs.Effects.{link_at}
use Rattle.rt_control.specs.declared.fault.FormFault.{FormFault}
use Rattle.rt_control.specs.declared.fault.FormFault.TheVariants.{Site}
use Rattle.rt_control.specs.declared.fault.SiteFault.{SiteFault}
use Rattle.rt_control.specs.declared.form.Form.{Form}
use Rattle.rt_control.specs.declared.outcome.Outcome.{Outcome}
use Rattle.rt_control.specs.declared.run.Step.{Step}
use Rattle.rt_control.specs.declared.table.Reading.{Reading}
use Rattle.rt_control.specs.Places.{word_of}
use Rattle.rt_control.specs.Runs.{at, IsStep, AreBefore}
use Rattle.rt_control.specs.Runs.AreBefore.{full, begins, breaks, goes_back}
use Rattle.rt_control.specs.Sites.{form_of, IsInsnOf, IsAt, IsAnswer}
use Rattle.rt_control.specs.Tables.{IsTable, AreEntriesOf, reading_in, table_register, MayJumpTo, outcome_of}

-- A word stands for one instruction at most.

one_code : (word : ℕ) (i j : Insn) → IsCode word i → IsCode word j → i ≡ j
one_code word i j h k = let e : Some i ≡ Some j = sym (insn_of-code word i h) ∙ insn_of-code word j k in cc

one_insn : (word : ℕ) (a b : Option Insn) → IsInsnOf word a → IsInsnOf word b → a ≡ b
one_insn word None None h k = refl
one_insn word None (Some j) h k = absurd (h j k)
one_insn word (Some i) None h k = absurd (k i h)
one_insn word (Some i) (Some j) h k = ap (λ (insn : Insn). Some insn) (one_code word i j h k)

-- A jump has one run.

step_same : (i j : Insn) (l m : Option Link) → i ≡ j → l ≡ m → let s : Step = record { insn = i; link = l } in let t : Step = record { insn = j; link = m } in s ≡ t
step_same i j l m e f = rw (e, f) refl

one_step : (object : Object) (section offset : ℕ) (s t : Step) → IsStep object section offset s → IsStep object section offset t → s ≡ t
one_step object section offset s t h k =
    step_same s.insn t.insn s.link t.link (one_code (word_of object (at section offset)) s.insn t.insn h.stands k.stands) (h.link_is ∙ sym k.link_is)

-- no step stands before where steps end
no_more : (object : Object) (section offset room before : ℕ) (step : Step) → AreBefore object section offset room [] → 0 < room → before + 4 ≡ offset
    → IsStep object section before step → ⊥
no_more object section offset room before step full lt e is = absurd (omega arith)
no_more object section offset room before step (begins short) lt e is = absurd (omega arith)
no_more object section offset room before step (breaks {before = here} f none) lt e is =
    let same : before ≡ here = omega arith in
    none step (subst (λ (n : ℕ). IsStep object section n step) same is)

-- the first of some steps, and where the others are
record Back (object : Object) (section offset room : ℕ) (step : Step) (steps : List Step) : Type 0 where
  before : ℕ
  left : ℕ
  back : before + 4 ≡ offset
  room_is : left + 1 ≡ room
  is_step : IsStep object section before step
  rest : AreBefore object section before left steps

back_of : (object : Object) (section offset room : ℕ) (step : Step) (steps : List Step) → AreBefore object section offset room (step ∷ steps) → Back object section offset room step steps
back_of object section offset room step steps (goes_back {before = before} {room = left} e is rest) =
    record { before = before; left = left; back = e; room_is = omega arith; is_step = is; rest = rest }

moved_steps : (object : Object) (section a b m n : ℕ) (steps : List Step) → a ≡ b → m ≡ n → AreBefore object section b n steps → AreBefore object section a m steps
moved_steps object section a b m n steps e f h = rw (e, f) h

moved_step : (object : Object) (section a b : ℕ) (step : Step) → a ≡ b → IsStep object section b step → IsStep object section a step
moved_step object section a b step e h = rw e h

cons_same : (x y : Step) (xs ys : List Step) → x ≡ y → xs ≡ ys → (x ∷ xs) ≡ (y ∷ ys)
cons_same x y xs ys e f = rw (e, f) refl

one_run : (object : Object) (section offset room : ℕ) (first second : List Step) → AreBefore object section offset room first → AreBefore object section offset room second → first ≡ second
one_run object section offset room [] [] h k = refl
one_run object section offset room [] (y ∷ ys) h k =
    let q = back_of object section offset room y ys k in
    let lt : 0 < room = let e = q.room_is in omega arith in
    absurd (no_more object section offset room q.before y h lt q.back q.is_step)
one_run object section offset room (x ∷ xs) [] h k =
    let p = back_of object section offset room x xs h in
    let lt : 0 < room = let e = p.room_is in omega arith in
    absurd (no_more object section offset room p.before x k lt p.back p.is_step)
one_run object section offset room (x ∷ xs) (y ∷ ys) h k =
    let p = back_of object section offset room x xs h in
    let q = back_of object section offset room y ys k in
    let same : p.before ≡ q.before = let e = p.back in let f = q.back in omega arith in
    let left : p.left ≡ q.left = let e = p.room_is in let f = q.room_is in omega arith in
    cons_same x y xs ys (one_step object section p.before x y p.is_step (moved_step object section p.before q.before y same q.is_step))
    (one_run object section p.before p.left xs ys p.rest (moved_steps object section p.before q.before p.left q.left ys same left q.rest))

-- A table has one list of entries.

no_pointer : Pointer
no_pointer = record { symbol = 0; addend = pos 0 }

not_longer : (object : Object) (start : Place) (xs ys : List Pointer) → IsTable object start xs → IsTable object start ys → length xs < length ys → ⊥
not_longer object start xs ys h k lt = let entry = k.each (length xs) no_pointer lt in elim h.ends [
  | inl past ↦ let within = k.within (length xs) lt in absurd (omega arith)
  | inr (inl none) ↦ let found = entry.stands in cc
  | inr (inr named) ↦ entry.unnamed named.0 named.1
]

one_table : (object : Object) (start : Place) (xs ys : List Pointer) → IsTable object start xs → IsTable object start ys → xs ≡ ys
one_table object start xs ys h k =
    let a : length xs < length ys → ⊥ = not_longer object start xs ys h k in
    let b : length ys < length xs → ⊥ = not_longer object start ys xs k h in
    let e : length xs ≡ length ys = omega (arith, a, b) in
    ext_get_or no_pointer xs ys e (λ i lt.
    let there : i < length ys = omega arith in
    let f = (h.each i no_pointer lt).stands in
    let g = (k.each i no_pointer there).stands in
    cc)

one_entries : (object : Object) (reading : Option Reading) (xs ys : List Pointer) → AreEntriesOf object reading xs → AreEntriesOf object reading ys → xs ≡ ys
one_entries object None xs ys h k = h ∙ sym k
one_entries object (Some reading) xs ys h k = one_table object _ xs ys h k

one_jump : (object : Object) (place : Place) (register : Option ℕ) (xs ys : List Pointer) → MayJumpTo object place register xs → MayJumpTo object place register ys → xs ≡ ys
one_jump object place None xs ys h k = h ∙ sym k
one_jump object place (Some register) xs ys h k =
    let same = one_run object place.section place.offset 64 h.steps k.steps h.is_run k.is_run in
    one_entries object (reading_in register h.steps) xs ys h.are_entries (subst (λ (steps : List Step). AreEntriesOf object (reading_in register steps) ys) (sym same) k.are_entries)

-- the site at a place does one thing, or has one fault
pub one_at : (object : Object) (place : Place) (first second : Result Form SiteFault) → IsAt object place first → IsAt object place second → first ≡ second
one_at object place first second h k =
    let insns = one_insn (word_of object place) h.insn k.insn h.stands k.stands in
    let entries = one_jump object place (table_register h.insn) h.entries k.entries h.jumps
    (subst (λ (insn : Option Insn). MayJumpTo object place (table_register insn) k.entries) (sym insns) k.jumps) in
    h.does ∙ ap (λ (insn : Option Insn). form_of object place (link_at object place) insn (outcome_of object h.entries)) insns
    ∙ ap (λ (entries : List Pointer). form_of object place (link_at object place) k.insn (outcome_of object entries)) entries ∙ sym k.does

-- what stands at a place, by its parts
pub at_of : (object : Object) (place : Place) (link : Option Link) (insn : Option Insn) (entries : List Pointer) (outcome : Outcome) (result : Result Form SiteFault)
    → IsInsnOf (word_of object place) insn → MayJumpTo object place (table_register insn) entries → link ≡ link_at object place → outcome ≡ outcome_of object entries
    → result ≡ form_of object place link insn outcome → IsAt object place result
at_of object place link insn entries outcome result stands jumps links outcomes does = record {
  insn = insn;
  stands = stands;
  entries = entries;
  jumps = jumps;
  does = does ∙ ap (λ (l : Option Link). form_of object place l insn outcome) links ∙ ap (λ (o : Outcome). form_of object place (link_at object place) insn o) outcomes;
}

-- an error that is a fault
pub bad_answer : (result : Result Form FormFault) (fault : SiteFault) (does : Result Form SiteFault) → IsErrAnd result (λ e. e ≡ Site fault) → does ≡ Err fault → IsAnswer result does
bad_answer (Ok form) fault does h e = absurd h
bad_answer (Err found) fault does h e = subst (λ (f : FormFault). IsAnswer (Err f) does) (sym h) e
