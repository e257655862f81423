-- The heads that are held, and what they mean.
use Rattle.std.proofs.Common.{◌≡◌, ℕ, zero, suc, ◌+◌, ◌<◌, ◌≤◌, inl, inr, Bool, true, false, is_some, Option, Some, None, List, [], ◌∷◌, ◌++◌, find, take, length, get_or, if◌then◌else◌, refl, sym, ap, ◌∙◌, subst, arith, add-one}
use Rattle.std.specs.Option.{option_map, option_and_then, option_or}
use Rattle.std.proofs.lemmas.List.{take_more, take_all}
use Rattle.std.proofs.lemmas.List.Folds.{find-append}
use Rattle.std.proofs.Math.Bool.{and-false, and-true as and-true_right}
use Rattle.rt_elf.specs.declared.object.Object.{Object}
use Rattle.rt_elf.specs.declared.reloc.Reloc.{Reloc}
use Rattle.rt_elf.specs.declared.symbol.Symbol.{Symbol}
use Rattle.rt_link.specs.declared.heads.Heads.{Heads}
use Rattle.rt_link.specs.declared.kind.Kind.{Kind}
use Rattle.rt_link.specs.declared.kind.Kind.TheVariants.{Passed, Jump, Call, PcrelHigh, High, Low, PcrelLow}
use Rattle.rt_link.specs.declared.place.Place.{Place}
use Rattle.rt_link.specs.Checks.{place_fault, partner_fault, reloc_by, no_reloc, places_fault, partners_fault}
use Rattle.rt_link.specs.Effects.{place_of, is_place, is_head, head_at, is_high, high_at, low_of, link_of, meaning, symbol_place}
use Rattle.rt_link.specs.Kinds.{kind_of, has_effect, is_pcrel_high, is_pcrel_low}
use Rattle.rt_link.specs.Links.{head_of, head_in, low_in, low_of_head, meaning_in, link_held, AreHeads, high_of, HoldAll}
use Rattle.rt_elf.proofs.Booleans.{and-rest_false, eqb-is, fault_if-none, none_at}
use Rattle.rt_base.proofs.Options.{option_or-none}
use Rattle.rt_base.proofs.Entries.{then_of-none}
use Rattle.std.proofs.lemmas.Bool.{cases_Bool, and_parts, not-false}

is_some-false : {X : Type 0} (o : Option X) → is_some o ≡ false → o ≡ None
is_some-false None e = refl
is_some-false (Some x) e = cc

pub place-same : (s t o u : ℕ) → s ≡ t → o ≡ u → let p : Place = record { section = s; offset = o } in let q : Place = record { section = t; offset = u } in p ≡ q
place-same s t o u e f = rw (e, f) refl

pub is_place-same : (p q : Place) → is_place p q ≡ true → p ≡ q
is_place-same p q e =
    let both = and_parts _ _ e in
    place-same p.section q.section p.offset q.offset (eqb-is _ _ both.0) (eqb-is _ _ both.1)

-- the one more element of a search
pub find-more : {X : Type 0} (test : X → Bool) (xs : List X) (x : X) → find test (xs ++ x ∷ []) ≡ option_or (find test xs) (if test x then Some x else None)
find-more test xs x = find-append test xs (x ∷ [])

-- no head stands where a relocation with an effect comes next
no_head : (object : Object) (earlier : List Reloc) (reloc : Reloc) → place_fault object earlier reloc ≡ None → has_effect (kind_of reloc.kind) ≡ true
    → head_at earlier (place_of reloc) ≡ None
unfolding place_fault
no_head object earlier reloc none effect =
    let last = (then_of-none _ _ (then_of-none _ _ (then_of-none _ _ none).1).1).0 in
    is_some-false _ (and-rest_false _ _ (fault_if-none _ _ last) effect)

-- one more relocation with an effect
pub AreHeads-more : (object : Object) (earlier : List Reloc) (reloc : Reloc) (heads heads' : Heads) → AreHeads object.symbols earlier heads
    → place_fault object earlier reloc ≡ None → has_effect (kind_of reloc.kind) ≡ true
    → ((q : Place) → head_in heads' q ≡ (if is_place (place_of reloc) q then Some (head_of object.symbols reloc) else head_in heads q))
    → AreHeads object.symbols (earlier ++ reloc ∷ []) heads'
AreHeads-more object earlier reloc heads heads' are none effect puts q = elim (cases_Bool (is_place (place_of reloc) q)) [
  | inl same ↦
      let free : head_at earlier q ≡ None = subst (λ (p : Place). head_at earlier p ≡ None) (is_place-same (place_of reloc) q same) (no_head object earlier reloc none effect) in
      rw (puts q, find-more (is_head q) earlier reloc, free, effect, same) refl
  | inr other ↦
      let old = are q in
      rw (puts q, find-more (is_head q) earlier reloc, effect, other, option_or-none (head_at earlier q)) old
]

-- one more relocation with no effect
pub AreHeads-passed : (symbols : List Symbol) (earlier : List Reloc) (reloc : Reloc) (heads : Heads) → AreHeads symbols earlier heads
    → has_effect (kind_of reloc.kind) ≡ false → AreHeads symbols (earlier ++ reloc ∷ []) heads
AreHeads-passed symbols earlier reloc heads are effect q =
    rw (find-more (is_head q) earlier reloc, effect, option_or-none (head_at earlier q)) (are q)

-- a type without effect is no PCREL_HI20
no_effect-no_high : (kind : Option Kind) → has_effect kind ≡ false → is_pcrel_high kind ≡ false
no_effect-no_high None e = refl
no_effect-no_high (Some Passed) e = refl
no_effect-no_high (Some Jump) e = cc
no_effect-no_high (Some Call) e = cc
no_effect-no_high (Some PcrelHigh) e = cc
no_effect-no_high (Some High) e = cc
no_effect-no_high (Some Low) e = cc
no_effect-no_high (Some PcrelLow) e = cc

-- each PCREL_HI20 is the head at its place: one more relocation
highs-more : (object : Object) (earlier : List Reloc) (reloc : Reloc) (q : Place) → high_at earlier q ≡ high_of (head_at earlier q)
    → place_fault object earlier reloc ≡ None → high_at (earlier ++ reloc ∷ []) q ≡ high_of (head_at (earlier ++ reloc ∷ []) q)
highs-more object earlier reloc q are none = elim (cases_Bool (is_place (place_of reloc) q)) [
  | inr other ↦
      rw (
        find-more (is_high q) earlier reloc,
        find-more (is_head q) earlier reloc,
        other,
        and-false (is_pcrel_high (kind_of reloc.kind)),
        and-false (has_effect (kind_of reloc.kind)),
        option_or-none (high_at earlier q),
        option_or-none (head_at earlier q),
      ) are
  | inl same ↦ elim (cases_Bool (has_effect (kind_of reloc.kind))) [
    | inr effect ↦
        rw (
          find-more (is_high q) earlier reloc,
          find-more (is_head q) earlier reloc,
          effect,
          no_effect-no_high (kind_of reloc.kind) effect,
          option_or-none (high_at earlier q),
          option_or-none (head_at earlier q),
        ) are
    | inl effect ↦
        let free : head_at earlier q ≡ None = subst (λ (p : Place). head_at earlier p ≡ None) (is_place-same (place_of reloc) q same) (no_head object earlier reloc none effect) in
        let low : high_at earlier q ≡ None = are ∙ ap high_of free in
        rw (find-more (is_high q) earlier reloc, find-more (is_head q) earlier reloc, free, low, effect, same, and-true_right (is_pcrel_high (kind_of reloc.kind))) refl
  ]
]

-- of all relocations
pub highs-are_heads : (object : Object) (relocs : List Reloc) (q : Place) → places_fault object relocs ≡ None → (n : ℕ) → n ≤ length relocs
    → high_at (take n relocs) q ≡ high_of (head_at (take n relocs) q)
highs-are_heads object relocs q none zero h = refl
highs-are_heads object relocs q none (suc n) h =
    let more : take (suc n) relocs ≡ take n relocs ++ reloc_by relocs n ∷ [] = ap (λ (k : ℕ). take k relocs) (sym (add-one n)) ∙ take_more relocs n no_reloc (omega arith) in
    let fault : place_fault object (take n relocs) (reloc_by relocs n) ≡ None =
    none_at (λ (i : ℕ). place_fault object (take i relocs) (reloc_by relocs i)) (length relocs) n none (omega arith) in
    rw more (highs-more object (take n relocs) (reloc_by relocs n) q (highs-are_heads object relocs q none n (omega arith)) fault)

-- all heads are held once all relocations are read
pub holds_all : (object : Object) (relocs : List Reloc) (heads : Heads) (n : ℕ) → length relocs ≤ n → places_fault object relocs ≡ None
    → AreHeads object.symbols (take n relocs) heads → HoldAll object.symbols relocs heads
holds_all object relocs heads n h none are =
    let all : take n relocs ≡ relocs = take_all n relocs h in
    let whole : take (length relocs) relocs ≡ relocs = take_all (length relocs) relocs (omega arith) in
    record {
      are_heads = subst (λ (relocs : List Reloc). AreHeads object.symbols relocs heads) all are;
      highs = λ q. subst (λ (relocs : List Reloc). high_at relocs q ≡ high_of (head_at relocs q)) whole (highs-are_heads object relocs q none (length relocs) (omega arith));
    }

-- What heads mean.

some-mapped : {X Y : Type 0} (f : X → Y) (o : Option X) → is_some (option_map f o) ≡ is_some o
some-mapped f None = refl
some-mapped f (Some x) = refl

low-mapped : (symbols : List Symbol) (o : Option Reloc) → option_and_then low_of_head (option_map (head_of symbols) o) ≡ option_map low_of (high_of o)
low-mapped symbols None = refl
low-mapped symbols (Some reloc) = elim (cases_Bool (is_pcrel_high (kind_of reloc.kind))) [ inl e ↦ rw e refl | inr e ↦ rw e refl ]

-- what the low bits are at a place
pub low-held : (symbols : List Symbol) (relocs : List Reloc) (heads : Heads) (place : Place) → HoldAll symbols relocs heads
    → low_in heads place ≡ option_map low_of (high_at relocs place)
low-held symbols relocs heads place all =
    ap (option_and_then low_of_head) (all.are_heads place) ∙ low-mapped symbols (head_at relocs place) ∙ ap (option_map low_of) (sym (all.highs place))

-- whether a PCREL_HI20 stands there
pub some-held : (symbols : List Symbol) (relocs : List Reloc) (heads : Heads) (place : Place) → HoldAll symbols relocs heads
    → is_some (low_in heads place) ≡ is_some (high_at relocs place)
some-held symbols relocs heads place all = ap is_some (low-held symbols relocs heads place all) ∙ some-mapped low_of (high_at relocs place)

-- whether a head stands there
pub some-head : (symbols : List Symbol) (relocs : List Reloc) (heads : Heads) (place : Place) → AreHeads symbols relocs heads
    → is_some (head_in heads place) ≡ is_some (head_at relocs place)
some-head symbols relocs heads place are = ap is_some (are place) ∙ some-mapped (head_of symbols) (head_at relocs place)

meaning-held : (symbols : List Symbol) (relocs : List Reloc) (heads : Heads) (reloc : Reloc) (kind : Option Kind) → HoldAll symbols relocs heads
    → meaning_in heads kind (head_of symbols reloc) ≡ meaning symbols relocs kind reloc
meaning-held symbols relocs heads reloc None all = refl
meaning-held symbols relocs heads reloc (Some Passed) all = refl
meaning-held symbols relocs heads reloc (Some Jump) all = refl
meaning-held symbols relocs heads reloc (Some Call) all = refl
meaning-held symbols relocs heads reloc (Some PcrelHigh) all = refl
meaning-held symbols relocs heads reloc (Some High) all = refl
meaning-held symbols relocs heads reloc (Some Low) all = refl
meaning-held symbols relocs heads reloc (Some PcrelLow) all = low-held symbols relocs heads (symbol_place symbols reloc.symbol) all

links-held : (symbols : List Symbol) (relocs : List Reloc) (heads : Heads) (head : Option Reloc) → HoldAll symbols relocs heads
    → option_and_then (λ head. meaning_in heads (kind_of head.reloc.kind) head) (option_map (head_of symbols) head)
    ≡ option_and_then (λ reloc. meaning symbols relocs (kind_of reloc.kind) reloc) head
links-held symbols relocs heads None all = refl
links-held symbols relocs heads (Some reloc) all = meaning-held symbols relocs heads reloc (kind_of reloc.kind) all

-- what is held for a place means what the relocation there does
pub link-held : (symbols : List Symbol) (relocs : List Reloc) (heads : Heads) (place : Place) → HoldAll symbols relocs heads
    → link_held heads place ≡ link_of symbols relocs place
unfolding link_held
link-held symbols relocs heads place all =
    ap (option_and_then (λ head. meaning_in heads (kind_of head.reloc.kind) head)) (all.are_heads place) ∙ links-held symbols relocs heads (head_at relocs place) all

-- the element that a search finds stands in the list
pub find-found : {X : Type 0} (test : X → Bool) (xs : List X) (x d : X) → find test xs ≡ Some x → (i : ℕ) × (i < length xs) × (get_or xs i d ≡ x) × (test x ≡ true)
find-found test [] x d e = cc
find-found test (y ∷ ys) x d e = elim (cases_Bool (test y)) [
  | inl pass ↦
      let found : Some y ≡ Some x = rw pass at e in
      let same : y ≡ x = cc in
      (0, omega arith, same, rw (← same) pass)
  | inr fail ↦
      let rest : find test ys ≡ Some x = rw fail at e in
      let deeper = find-found test ys x d rest in
      (suc deeper.0, omega (arith, deeper.1), deeper.2, deeper.3)
]

-- a relocation with an effect means something where no check fails
meaning-some : (symbols : List Symbol) (relocs : List Reloc) (reloc : Reloc) (kind : Option Kind) → has_effect kind ≡ true
    → (is_pcrel_low kind ≡ true → is_some (high_at relocs (symbol_place symbols reloc.symbol)) ≡ true)
    → is_some (meaning symbols relocs kind reloc) ≡ true
meaning-some symbols relocs reloc None effect low = cc
meaning-some symbols relocs reloc (Some Passed) effect low = cc
meaning-some symbols relocs reloc (Some Jump) effect low = refl
meaning-some symbols relocs reloc (Some Call) effect low = refl
meaning-some symbols relocs reloc (Some PcrelHigh) effect low = refl
meaning-some symbols relocs reloc (Some High) effect low = refl
meaning-some symbols relocs reloc (Some Low) effect low = refl
meaning-some symbols relocs reloc (Some PcrelLow) effect low = some-mapped low_of (high_at relocs (symbol_place symbols reloc.symbol)) ∙ low refl

partner : (object : Object) (relocs : List Reloc) (reloc : Reloc) → partner_fault object relocs reloc ≡ None → is_pcrel_low (kind_of reloc.kind) ≡ true
    → is_some (high_at relocs (symbol_place object.symbols reloc.symbol)) ≡ true
unfolding partner_fault
partner object relocs reloc none low = not-false _ (and-rest_false _ _ (fault_if-none _ _ (then_of-none _ _ none).0) low)

link-some : (object : Object) (relocs : List Reloc) (place : Place) (head : Option Reloc) → head_at relocs place ≡ head → partners_fault object relocs ≡ None
    → is_some (option_and_then (λ reloc. meaning object.symbols relocs (kind_of reloc.kind) reloc) head) ≡ is_some head
link-some object relocs place None e none = refl
link-some object relocs place (Some reloc) e none =
    let found = find-found (is_head place) relocs reloc no_reloc e in
    let fault : partner_fault object relocs (reloc_by relocs found.0) ≡ None =
    none_at (λ (i : ℕ). partner_fault object relocs (reloc_by relocs i)) (length relocs) found.0 none found.1 in
    let fault' : partner_fault object relocs reloc ≡ None = rw found.2 at fault in
    meaning-some object.symbols relocs reloc (kind_of reloc.kind) (and_parts _ _ found.3).0 (partner object relocs reloc fault')

-- a link is there exactly where a relocation with an effect is
pub link-some_at : (object : Object) (relocs : List Reloc) (place : Place) → partners_fault object relocs ≡ None
    → is_some (link_of object.symbols relocs place) ≡ is_some (head_at relocs place)
link-some_at object relocs place none = link-some object relocs place (head_at relocs place) refl none

-- the next relocation joins those before it
pub AreHeads-next : (object : Object) (relocs : List Reloc) (n : ℕ) (reloc : Reloc) (heads : Heads) → n < length relocs → reloc ≡ reloc_by relocs n
    → AreHeads object.symbols (take n relocs ++ reloc ∷ []) heads → AreHeads object.symbols (take (n + 1) relocs) heads
AreHeads-next object relocs n reloc heads there is are =
    let more : take (n + 1) relocs ≡ take n relocs ++ reloc ∷ [] = take_more relocs n no_reloc there ∙ ap (λ (r : Reloc). take n relocs ++ r ∷ []) (sym is) in
    subst (λ (relocs : List Reloc). AreHeads object.symbols relocs heads) (sym more) are
