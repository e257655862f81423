-- The numbers of fields: each field one of its own, above all existentials of the lines.
use Rattle.std.proofs.Common.{◌≡◌, ℕ, ◌+◌, ◌<◌, ◌⊎◌, inl, inr, Bool, true, false, cond, nat_eq, nat_lt, Option, Some, None, List, [], ◌∷◌, get_or, flat_map, Contains, refl, sym, ap, subst, ◌∙◌, arith, position}
use Rattle.std.proofs.lemmas.Bool.{eqb-true, and_parts}
use Rattle.std.proofs.lemmas.List.Quantifiers.{position-Some}
use Rattle.rt_base.proofs.Lists.{Contains-none, Contains-cons_cases, Contains-flat_map_source}
use Rattle.rt_lines.specs.declared.label.Label.{Label}
use Rattle.rt_lines.specs.declared.variable.Base.{Base}
use Rattle.rt_lines.specs.declared.variable.Base.TheVariants.{Proc, Global, Exist, Outer}
use Rattle.rt_lines.specs.declared.variable.Dtv.{Dtv}
use Rattle.rt_lines.specs.declared.line.Line.{Line}
use Rattle.rt_lines.specs.Equality.{label_eq}
use Rattle.rt_lines.specs.FirstFree.{first_free}
use Rattle.rt_lines.proofs.Equal.{label_equal}
use Rattle.rt_lines.proofs.Distinct.{inserted-source}
use Rattle.rt_rules.specs.Laws.{NamesBase}
use Rattle.rt_rules.proofs.FirstFree.{first_free-above}
use Rattle.rt_record.specs.declared.slots.Slot.{Slot}
use Rattle.rt_record.specs.Records.{part, IsPart, IsField, flow_sides, split}
use Rattle.rt_record.specs.Slots.{slot_eq, slot, word_slots, base_slots, side_slots, slots, number_at, numbers_from, numbers}
use Rattle.rt_record.specs.Laws.{PartsLaw, OneSplitLaw}
use Rattle.rt_record.proofs.Moving.{IsFlowSide}
use Rattle.rt_record.proofs.Splitting.{flow_part}

slot_same : (s t : Slot) → slot_eq s t ≡ true → s ≡ t
slot_same s t e =
    let both : (nat_eq s.holder t.holder ≡ true) × (label_eq s.field t.field ≡ true) =
    and_parts (nat_eq s.holder t.holder) (label_eq s.field t.field) e in
    let holders : s.holder ≡ t.holder = eqb-true s.holder t.holder both.0 in
    let fields : s.field ≡ t.field = label_equal s.field t.field both.1 in
    λ i. record { holder = holders i; field = fields i }

-- a field that has a number has a place in the list
record IsNumbered (first : ℕ) (order : List Slot) (n : ℕ) (f : Label) (m : ℕ) : Type 0 where
  place : ℕ
  found : position (slot_eq (slot n f)) order ≡ Some place
  is : m ≡ first + place

numbered : (first : ℕ) (order : List Slot) (n : ℕ) (f : Label) (m : ℕ) → numbers_from first order n f ≡ Some m → IsNumbered first order n f m
numbered first order n f m e = by (position (slot_eq (slot n f)) order) refl e
  where
    fits : (i : ℕ) (b : Bool) → cond b (Some (first + i)) None ≡ Some m → m ≡ first + i
    fits i true h = cc
    fits i false h = cc

    by : (o : Option ℕ) → position (slot_eq (slot n f)) order ≡ o → number_at first o ≡ Some m → IsNumbered first order n f m
    by None g h = cc
    by (Some i) g h = record { place = i; found = g; is = fits i (nat_lt (first + i) 4294967296) h }

at_place : (order : List Slot) (n : ℕ) (f : Label) (i : ℕ) (d : Slot) → position (slot_eq (slot n f)) order ≡ Some i → slot n f ≡ get_or order i d
at_place order n f i d e = slot_same (slot n f) (get_or order i d) (position-Some (slot_eq (slot n f)) order i d e).1

in_order : (first : ℕ) (order : List Slot) (n : ℕ) (f : Label) (m : ℕ) → IsNumbered first order n f m → Contains order (slot n f)
in_order first order n f m s = (
  s.place,
  (position-Some (slot_eq (slot n f)) order s.place (slot n f) s.found).0,
  sym (at_place order n f s.place (slot n f) s.found),
)

one_place : (first : ℕ) (order : List Slot) (n k : ℕ) (f g : Label) (m : ℕ) → IsNumbered first order n f m → IsNumbered first order k g m →
    (n ≡ k) × (f ≡ g)
one_place first order n k f g m s t =
    let places : s.place ≡ t.place = let a = s.is in let b = t.is in omega (arith, a, b) in
    let same : slot n f ≡ slot k g =
    at_place order n f s.place (slot n f) s.found ∙ ap (λ i. get_or order i (slot n f)) places ∙ sym (at_place order k g t.place (slot n f) t.found) in
    (ap (λ r. r.holder) same, ap (λ r. r.field) same)

-- the field is that of the variable, a part of an existential that the flags name
abbrev HasSlot : (ℕ → Bool) → Dtv → Slot → Type 0
HasSlot holds x s = (a : Label) × (u : List Label) × (holds s.holder ≡ true) × (x ≡ part s.holder a s.field u)

base_source : (holds : ℕ → Bool) (b : Base) (w : List Label) (s : Slot) → Contains (base_slots holds b w) s →
    HasSlot holds (record { base = b; word = w }) s
base_source holds (Proc n) w s c = absurd (Contains-none s c)
base_source holds (Global n) w s c = absurd (Contains-none s c)
base_source holds (Outer n) w s c = absurd (Contains-none s c)
base_source holds (Exist n) w s c = flagged (holds n) refl c
  where
    word : (v : List Label) → holds n ≡ true → Contains (word_slots n v) s → HasSlot holds (record { base = Exist n; word = v }) s
    word [] e d = absurd (Contains-none s d)
    word (a ∷ []) e d = absurd (Contains-none s d)
    word (a ∷ f ∷ u) e d = by (Contains-cons_cases (slot n f) [] s d)
      where
        by : (slot n f ≡ s) ⊎ Contains [] s → HasSlot holds (part n a f u) s
        by (inl g) = subst (HasSlot holds (part n a f u)) g (a, u, e, refl)
        by (inr g) = absurd (Contains-none s g)

    flagged : (h : Bool) → holds n ≡ h → Contains (cond h (word_slots n w) []) s → HasSlot holds (record { base = Exist n; word = w }) s
    flagged true e d = word w e d
    flagged false e d = absurd (Contains-none s d)

slot_source : (holds : ℕ → Bool) (lines : List Line) (s : Slot) → Contains (slots holds lines) s →
    (x : Dtv) × IsFlowSide lines x × HasSlot holds x s
slot_source holds lines s c = by (inserted-source slot_eq (flat_map (side_slots holds) (flat_map flow_sides lines)) [] s c)
  where
    by : Contains [] s ⊎ Contains (flat_map (side_slots holds) (flat_map flow_sides lines)) s → (x : Dtv) × IsFlowSide lines x × HasSlot holds x s
    by (inl d) = absurd (Contains-none s d)
    by (inr d) =
        let r : (x : Dtv) × Contains (flat_map flow_sides lines) x × Contains (side_slots holds x) s =
        Contains-flat_map_source (side_slots holds) (flat_map flow_sides lines) s d in
        (r.0, Contains-flat_map_source flow_sides lines r.0 r.1, base_source holds r.0.base r.0.word s r.2)

pub parts_lem : PartsLaw
parts_lem lines holds are = record {
  records = λ n e. (are n).0 e;
  of_records = λ n f m e. (source n f m e).2.2;
  fields = λ n f m e. field_of n f (source n f m e);
  fresh = fresh;
  one_to_one = λ n k f g m e h.
      one_place (first_free lines) (slots holds lines) n k f g m (numbered (first_free lines) (slots holds lines) n f m e)
      (numbered (first_free lines) (slots holds lines) k g m h);
}
  where
    Source : ℕ → Label → Type 0
    Source n f = (x : Dtv) × IsFlowSide lines x × HasSlot holds x (slot n f)

    source : (n : ℕ) (f : Label) (m : ℕ) → numbers holds lines n f ≡ Some m → Source n f
    source n f m e =
        slot_source holds lines (slot n f)
        (in_order (first_free lines) (slots holds lines) n f m (numbered (first_free lines) (slots holds lines) n f m e))

    second_of : Label → List Label → Label
    second_of d [] = d
    second_of d (a ∷ []) = d
    second_of d (a ∷ f ∷ u) = f

    second : (n k : ℕ) (a b f g : Label) (u v : List Label) → part n a f u ≡ part k b g v → g ≡ f
    second n k a b f g u v e = sym (ap (λ x. second_of f x.word) e)

    field_of : (n : ℕ) (f : Label) → Source n f → IsField f
    field_of n f (x, (l, c, d), (a, u, h, e)) =
        let p : IsPart n x = flow_part n l x ((are n).0 h l c) d (ap (λ y. y.base) e) in
        subst IsField (second n n a p.access f p.field u p.more (sym e ∙ p.same)) p.is_field

    fresh : (n : ℕ) (f : Label) (m : ℕ) → numbers holds lines n f ≡ Some m → NamesBase lines (Exist m) → ⊥
    fresh n f m e named =
        let s : IsNumbered (first_free lines) (slots holds lines) n f m = numbered (first_free lines) (slots holds lines) n f m e in
        let below : m < first_free lines = first_free-above lines m named in
        let is : m ≡ first_free lines + s.place = s.is in
        omega (arith, below, is)

pub one_split_lem : OneSplitLaw
one_split_lem lines holds other are too = ap (λ flags. split (numbers flags lines) lines) (λ i n. same n i)
  where
    agree : (a b : Bool) → (a ≡ true → b ≡ true) → (b ≡ true → a ≡ true) → a ≡ b
    agree true b f g = sym (f refl)
    agree false true f g = g refl
    agree false false f g = refl

    same : (n : ℕ) → holds n ≡ other n
    same n = agree (holds n) (other n) (λ e. (too n).1 ((are n).0 e)) (λ e. (are n).1 ((too n).0 e))
