-- The words of the stack that a procedure takes, gathered site by site.
use Rattle.std.proofs.Common.{◌≡◌, ◌<◌, ◌≤◌, ◌+◌, ◌%◌, ◌+ℤ◌, ◌-ℤ◌, ◌↔◌, ◌⊎◌, inl, inr, ℕ, ℤ, zero, suc, pos, Bool, true, false, cond, ◌&&◌, ◌||◌, Option, Some, None, Ordering, Less, Equal, Greater, List, [], ◌∷◌, length, refl, sym, ap, subst, ◌∙◌, arith}
use Rattle.std.specs.Prelude.{Contains, IsTrue, All, get_or}
use Rattle.std.specs.Int.{cast_unsigned, int_wrap, w32}
use Rattle.std.specs.List.{list_any}
use Rattle.std.specs.Ordering.{is_eq, nat_cmp}
use Rattle.std.specs.BTreeSet.{BTreeSet, contains, Updates}
use Rattle.std.proofs.lemmas.Bool.{cases_lt, false≢true, and_parts, or_right, or_cases}
use Rattle.std.proofs.lemmas.Bool.Decides.{nat_tests}
use Rattle.std.proofs.lemmas.Cmp.{nat_cmp_total}
use Rattle.std.proofs.lemmas.Int.{ints}
use Rattle.std.proofs.lemmas.List.{get_or_default}
use Rattle.std.proofs.lemmas.List.Folds.{Any-from_list_any, list_any_at}
use Rattle.std.proofs.lemmas.Map.Lookups.{exact_unsigned}
use Rattle.std.proofs.lemmas.Map.Views.{btree_set_contains_iff}
use Rattle.rt_flow.specs.declared.def.Def.{Def}
use Rattle.rt_flow.specs.declared.def.Def.TheVariants.{Entry, At}
use Rattle.rt_track.specs.declared.value.Value.{Value}
use Rattle.rt_track.specs.declared.value.Value.TheVariants as value
use Rattle.rt_body.specs.declared.action.Action.{Action}
use Rattle.rt_body.specs.declared.action.Action.TheVariants as action
use Rattle.rt_body.specs.declared.action.Loaded.TheVariants as loaded
use Rattle.rt_body.specs.Readings.{Reading, action_at}
use Rattle.rt_frame.specs.declared.spot.Spot.{Spot}
use Rattle.rt_frame.specs.declared.spot.Spot.TheVariants as spot
use Rattle.rt_frame.specs.Frames.{Frame, Layout, byte_at, greatest_upto, is_from_to, spot_at, spot_from}
use Rattle.rt_frame.specs.Questions.{address_value}
use Rattle.rt_lines.specs.Words.{IsLoc}
use Rattle.rt_lines.specs.declared.label.Loc.TheVariants.{Stack}
use Rattle.rt_table.specs.Facts.{TakesWord}
use Rattle.rt_table.specs.Table.{is_stack_word}
use Rattle.rt_table.specs.Inside.Taken.{Gains, is_entry, is_location, is_passed_byte, is_passed_word, taken_at, taken_by, takes_at}
use Rattle.rt_table.specs.Inside.Words.{AreStackWords}

-- A number added to a set.

module _ (s n : BTreeSet ℕ) (a : ℕ) (updates : Updates nat_cmp s n a true) (k : ℕ) where
  in_new : IsTrue (contains nat_cmp n k) ↔ Contains n.keys k
  in_new = btree_set_contains_iff nat_cmp_total exact_unsigned n k

  in_old : IsTrue (contains nat_cmp s k) ↔ Contains s.keys k
  in_old = btree_set_contains_iff nat_cmp_total exact_unsigned s k

  forward : (r : Ordering) → nat_cmp a k ≡ r → cond (is_eq r) true (contains nat_cmp s k) ≡ true → Contains s.keys k ⊎ (a ≡ k)
  forward Equal same e = inr (exact_unsigned a k same)
  forward Less same e = inl (in_old.0 e)
  forward Greater same e = inl (in_old.0 e)

  back_old : (r : Ordering) → Contains s.keys k → cond (is_eq r) true (contains nat_cmp s k) ≡ true
  back_old Equal old = refl
  back_old Less old = in_old.1 old
  back_old Greater old = in_old.1 old

  inserted_new : Contains n.keys k → Contains s.keys k ⊎ (a ≡ k)
  inserted_new new = forward (nat_cmp a k) refl (sym (updates.0 k) ∙ in_new.1 new)

  inserted_old : Contains s.keys k → Contains n.keys k
  inserted_old old = in_new.0 (updates.0 k ∙ back_old (nat_cmp a k) old)

-- it has the number itself
inserted_own : (s n : BTreeSet ℕ) (a : ℕ) → Updates nat_cmp s n a true → Contains n.keys a
inserted_own s n a updates =
    let same : nat_cmp a a ≡ Equal = grind (arith, nat_tests) in
    (in_new s n a updates a).0 (updates.0 a ∙ ap (λ r. cond (is_eq r) true (contains nat_cmp s a)) same)

-- a set gains the number
pub gains-one : (s n : BTreeSet ℕ) (o : Option ℕ) (a : ℕ) → o ≡ Some a → Updates nat_cmp s n a true → Gains s.keys n.keys o
gains-one s n o a e updates = record { each = λ k. (λ c. forward k (inserted_new s n a updates k c), back k) }
  where
    forward : (k : ℕ) → Contains s.keys k ⊎ (a ≡ k) → Contains s.keys k ⊎ (o ≡ Some k)
    forward k (inl c) = inl c
    forward k (inr same) = inr (e ∙ ap Some same)

    back : (k : ℕ) → Contains s.keys k ⊎ (o ≡ Some k) → Contains n.keys k
    back k (inl c) = inserted_old s n a updates k c
    back k (inr is) = let same : a ≡ k = cc in subst (Contains n.keys) same (inserted_own s n a updates)

-- it gains nothing
pub gains-none : (keys : List ℕ) (o : Option ℕ) → o ≡ None → Gains keys keys o
gains-none keys o e = record { each = λ k. (λ c. inl c, back k) }
  where
    back : (k : ℕ) → Contains keys k ⊎ (o ≡ Some k) → Contains keys k
    back k (inl c) = c
    back k (inr is) = cc

-- Words.

-- a word of the stack is at an offset that is a number
pub word_number : (k : ℤ) → is_stack_word k ≡ true → pos (cast_unsigned w32 k) ≡ k
word_number k e = grind (arith, ints, nat_tests)

pub word_loc : (k : ℤ) → is_stack_word k ≡ true → IsLoc (Stack (cast_unsigned w32 k))
word_loc k e = (grind (arith, ints, nat_tests), grind (arith, ints, nat_tests))

-- an access that goes to the frame itself goes there at its own offset
spot_by : (saved : List ℤ) (k : ℤ) (o : Option ℤ) → is_location (spot_from saved k o) ≡ true → spot_from saved k o ≡ spot.Location k
spot_by saved k None e = refl
spot_by saved k (Some a) e =
    elim (list_any (is_from_to a k) saved)
    as (λ b. is_location (cond b (spot.Location k) (spot.OnObject a (int_wrap w32 (k -ℤ a)))) ≡ true → cond b (spot.Location k) (spot.OnObject a (int_wrap w32 (k -ℤ a))) ≡ spot.Location k)
    [ true ↦ λ h. refl | false ↦ λ h. absurd (false≢true h) ] e

pub at_location : (layout : Layout) (k : ℤ) → is_location (spot_at layout k) ≡ true → spot_at layout k ≡ spot.Location k
at_location layout k e = spot_by layout.saved k (greatest_upto k layout.taken) e

entry_is : (d : Def) → is_entry d ≡ true → d ≡ Entry
entry_is Entry e = refl
entry_is (At site) e = cc

-- a byte at which the entry's definition arrives
module _ (frame : Frame) (site : ℕ) (k : ℤ) where
  record Passed : Type 0 where
    byte : ℕ
    is_byte : byte < 4
    passed : Contains (frame.reaching site (byte_at (k +ℤ pos byte))) Entry

  byte_passed : (byte : ℕ) → byte < 4 → is_passed_byte frame site k byte ≡ true → Passed
  byte_passed byte less e =
      let defs = frame.reaching site (byte_at (k +ℤ pos byte)) in
      let found = Any-from_list_any (λ (d : Def). is_entry d) defs e in
      let same : found.1 ≡ Entry = entry_is found.1 found.4 in
      record { byte = byte; is_byte = less; passed = (found.0, found.2, get_or_default defs found.0 Entry found.1 found.2 ∙ (found.3 ∙ same)) }

  word_passed : is_passed_word frame site k ≡ true → Passed
  word_passed e = by_first (or_cases (is_passed_byte frame site k 0) (is_passed_byte frame site k 1 || (is_passed_byte frame site k 2 || is_passed_byte frame site k 3)) e)
    where
      by_third : (is_passed_byte frame site k 2 ≡ true) ⊎ (is_passed_byte frame site k 3 ≡ true) → Passed
      by_third (inl h) = byte_passed 2 (omega arith) h
      by_third (inr h) = byte_passed 3 (omega arith) h

      by_second : (is_passed_byte frame site k 1 ≡ true) ⊎ ((is_passed_byte frame site k 2 || is_passed_byte frame site k 3) ≡ true) → Passed
      by_second (inl h) = byte_passed 1 (omega arith) h
      by_second (inr h) = by_third (or_cases (is_passed_byte frame site k 2) (is_passed_byte frame site k 3) h)

      by_first : (is_passed_byte frame site k 0 ≡ true) ⊎ ((is_passed_byte frame site k 1 || (is_passed_byte frame site k 2 || is_passed_byte frame site k 3)) ≡ true) → Passed
      by_first (inl h) = byte_passed 0 (omega arith) h
      by_first (inr h) = by_second (or_cases (is_passed_byte frame site k 1) (is_passed_byte frame site k 2 || is_passed_byte frame site k 3) h)

  passed_byte : (byte : ℕ) → Contains (frame.reaching site (byte_at (k +ℤ pos byte))) Entry → is_passed_byte frame site k byte ≡ true
  passed_byte byte (i, less, at) =
      let defs = frame.reaching site (byte_at (k +ℤ pos byte)) in
      list_any_at (λ (d : Def). is_entry d) defs i Entry less (ap is_entry at)

  passed_word : (byte : ℕ) → byte < 4 → Contains (frame.reaching site (byte_at (k +ℤ pos byte))) Entry → is_passed_word frame site k ≡ true
  passed_word zero less c = ap (λ b. b || (is_passed_byte frame site k 1 || (is_passed_byte frame site k 2 || is_passed_byte frame site k 3))) (passed_byte 0 c)
  passed_word (suc zero) less c =
      or_right (is_passed_byte frame site k 0) (is_passed_byte frame site k 1 || (is_passed_byte frame site k 2 || is_passed_byte frame site k 3))
      (ap (λ b. b || (is_passed_byte frame site k 2 || is_passed_byte frame site k 3)) (passed_byte 1 c))
  passed_word (suc (suc zero)) less c =
      or_right (is_passed_byte frame site k 0) (is_passed_byte frame site k 1 || (is_passed_byte frame site k 2 || is_passed_byte frame site k 3))
      (or_right (is_passed_byte frame site k 1) (is_passed_byte frame site k 2 || is_passed_byte frame site k 3)
      (ap (λ b. b || is_passed_byte frame site k 3) (passed_byte 2 c)))
  passed_word (suc (suc (suc zero))) less c =
      or_right (is_passed_byte frame site k 0) (is_passed_byte frame site k 1 || (is_passed_byte frame site k 2 || is_passed_byte frame site k 3))
      (or_right (is_passed_byte frame site k 1) (is_passed_byte frame site k 2 || is_passed_byte frame site k 3)
      (or_right (is_passed_byte frame site k 2) (is_passed_byte frame site k 3) (passed_byte 3 c)))
  passed_word (suc (suc (suc (suc byte)))) less c = absurd (omega arith)

-- Sites.

-- the word at an address is taken
record TakenAt (frame : Frame) (site : ℕ) (v : Value) (k : ℕ) : Type 0 where
  there : v ≡ value.Frame (pos k)
  takes : takes_at frame site (pos k) ≡ true

taken_frame : (frame : Frame) (site : ℕ) (a : ℤ) (k : ℕ) (b : Bool) → takes_at frame site a ≡ b → cond b (Some (cast_unsigned w32 a)) None ≡ Some k → TakenAt frame site (value.Frame a) k
taken_frame frame site a k true takes e =
    let is : cast_unsigned w32 a ≡ k = cc in
    let number : a ≡ pos k = sym (word_number a (and_parts (is_stack_word a) (is_location (spot_at frame.layout a) && is_passed_word frame site a) takes).0) ∙ ap pos is in
    record { there = ap value.Frame number; takes = subst (λ m. takes_at frame site m ≡ true) number takes }
taken_frame frame site a k false takes e = cc

taken_value : (frame : Frame) (site : ℕ) (v : Value) (k : ℕ) → taken_at frame site v ≡ Some k → TakenAt frame site v k
taken_value frame site (value.Frame a) k e = taken_frame frame site a k (takes_at frame site a) refl e
taken_value frame site v k e = absurd (cc)

value_taken : (frame : Frame) (site : ℕ) (v : Value) (k : ℕ) → v ≡ value.Frame (pos k) → takes_at frame site (pos k) ≡ true → taken_at frame site v ≡ Some k
value_taken frame site v k there takes =
    let is_word : is_stack_word (pos k) ≡ true = (and_parts (is_stack_word (pos k)) (is_location (spot_at frame.layout (pos k)) && is_passed_word frame site (pos k)) takes).0 in
    let number : pos (cast_unsigned w32 (pos k)) ≡ pos k = word_number (pos k) is_word in
    let same : cast_unsigned w32 (pos k) ≡ k = cc in
    subst (λ w. taken_at frame site w ≡ Some k) (sym there)
    (ap (λ b. cond b (Some (cast_unsigned w32 (pos k))) None) takes ∙ ap Some same)

module _ (reading : Reading) (frame : Frame) where
  -- a site takes the word at an offset
  abbrev pub TakesBy : ℕ → ℕ → Type 0
  TakesBy site k = taken_by reading frame site (action_at reading.actions site) ≡ Some k

  -- one of so many sites does
  abbrev pub TakesUpto : ℕ → ℕ → Type 0
  TakesUpto sites k = (site : ℕ) × (site < sites) × TakesBy site k

  word_taken : (k site : ℕ) (act : Action) → site < length reading.actions → action_at reading.actions site ≡ act → taken_by reading frame site act ≡ Some k → TakesWord reading frame k
  word_taken k site (action.Load loaded.Word to a) within is e =
      let t = taken_value frame site (address_value reading site a) k e in
      let parts = and_parts (is_stack_word (pos k)) (is_location (spot_at frame.layout (pos k)) && is_passed_word frame site (pos k)) t.takes in
      let rest = and_parts (is_location (spot_at frame.layout (pos k))) (is_passed_word frame site (pos k)) parts.1 in
      let p = word_passed frame site (pos k) rest.1 in
      record {
        is_word = parts.0;
        site = site;
        within = within;
        to = to;
        address = a;
        loads = is;
        there = t.there;
        in_frame = at_location frame.layout (pos k) rest.0;
        byte = p.byte;
        is_byte = p.is_byte;
        passed = p.passed;
      }
  word_taken k site act within is e = absurd (cc)

  taken_word : (k : ℕ) → (t : TakesWord reading frame k) → TakesBy t.site k
  taken_word k t =
      let located : is_location (spot_at frame.layout (pos k)) ≡ true = ap is_location t.in_frame in
      let passed : is_passed_word frame t.site (pos k) ≡ true = passed_word frame t.site (pos k) t.byte t.is_byte t.passed in
      let takes : takes_at frame t.site (pos k) ≡ true =
      ap (λ b. b && (is_location (spot_at frame.layout (pos k)) && is_passed_word frame t.site (pos k))) t.is_word
      ∙ ap (λ b. b && is_passed_word frame t.site (pos k)) located ∙ passed
      in
      ap (taken_by reading frame t.site) t.loads ∙ value_taken frame t.site (address_value reading t.site t.address) k t.there takes

  pub takes-words : (k : ℕ) → TakesUpto (length reading.actions) k ↔ TakesWord reading frame k
  takes-words k = (λ (site, within, e). word_taken k site (action_at reading.actions site) within refl e, λ t. (t.site, t.within, taken_word k t))

  -- Sets of offsets.

  -- the offsets that some sites take, each of which is that of a word of the stack
  pub record AreTaken (sites : ℕ) (taken : List ℕ) : Type 0 where
    pub each : (k : ℕ) → Contains taken k ↔ TakesUpto sites k

  pub taken-none : AreTaken 0 []
  taken-none = record { each = λ k. (λ (i, less, at). absurd (omega arith), λ (site, less, e). absurd (omega arith)) }

  upto_more : (i k : ℕ) → TakesUpto i k → TakesUpto (i + 1) k
  upto_more i k (site, less, e) = (site, omega arith, e)

  upto_less : (i k site : ℕ) → site < i + 1 → TakesBy site k → (site < i) ⊎ (i ≤ site) → TakesUpto i k ⊎ TakesBy i k
  upto_less i k site less e (inl under) = inl (site, under, e)
  upto_less i k site less e (inr over) = let same : site ≡ i = omega arith in inr (subst (λ s. TakesBy s k) same e)

  -- one more site
  pub taken-more : (i : ℕ) (old new : List ℕ) → Gains old new (taken_by reading frame i (action_at reading.actions i)) → AreTaken i old → AreTaken (i + 1) new
  taken-more i old new gains h = record { each = λ k. (λ c. forward k ((gains.each k).0 c), λ (site, less, e). (gains.each k).1 (back k (upto_less i k site less e (cases_lt site i)))) }
    where
      forward : (k : ℕ) → Contains old k ⊎ TakesBy i k → TakesUpto (i + 1) k
      forward k (inl c) = upto_more i k ((h.each k).0 c)
      forward k (inr e) = (i, omega arith, e)

      back : (k : ℕ) → TakesUpto i k ⊎ TakesBy i k → Contains old k ⊎ TakesBy i k
      back k (inl t) = inl ((h.each k).1 t)
      back k (inr e) = inr e

  pub taken-all : (sites : ℕ) (taken : List ℕ) → length reading.actions ≤ sites → sites ≤ length reading.actions → AreTaken sites taken
      → (k : ℕ) → Contains taken k ↔ TakesWord reading frame k
  taken-all sites taken past within h k =
      let whole : sites ≡ length reading.actions = omega arith in
      (λ c. (takes-words k).0 (subst (λ n. TakesUpto n k) whole ((h.each k).0 c)), λ t. (h.each k).1 (subst (λ n. TakesUpto n k) (sym whole) ((takes-words k).1 t)))

  -- what is taken are words of the stack
  pub taken-words : (taken : List ℕ) → ((k : ℕ) → Contains taken k ↔ TakesWord reading frame k) → AreStackWords taken
  taken-words taken h k d less =
      let n = get_or taken k d in
      let t : TakesWord reading frame n = (h n).0 (k, less, get_or_default taken k n d less) in
      let number : pos (cast_unsigned w32 (pos n)) ≡ pos n = word_number (pos n) t.is_word in
      let same : cast_unsigned w32 (pos n) ≡ n = cc in
      subst (λ m. IsLoc (Stack m)) same (word_loc (pos n) t.is_word)
