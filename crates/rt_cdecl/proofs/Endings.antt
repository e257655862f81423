-- A header that is read in part can be ended exactly where there is room for the types that are left.
use Rattle.std.proofs.Common.{◌≡◌, ℕ, zero, suc, ◌+◌, ◌-◌, ◌*◌, ◌<◌, ◌≤◌, ◌^◌, inl, inr, Bool, true, false, List, [], ◌∷◌, ◌++◌, All, Contains, length, refl, ap, sym, subst, ◌∙◌, arith, append-nil}
use Rattle.std.proofs.lemmas.Bool.{false≢true}
use Rattle.std.proofs.lemmas.List.{length_push}
use Rattle.std.proofs.lemmas.List.Elements.{All-head, All-tail, All-nil}
use Rattle.rt_base.proofs.Lists.{Contains-none, Contains-here, All-from_contains}
use Rattle.rt_cdecl.specs.declared.declarations.CType.{CType}
use Rattle.rt_cdecl.specs.declared.declarations.CType.TheVariants.{Unused, Scalar, Pointer}
use Rattle.rt_cdecl.specs.declared.declarations.CField.{CField}
use Rattle.rt_cdecl.specs.declared.declarations.CStruct.{CStruct}
use Rattle.rt_cdecl.specs.declared.declarations.CFunction.{CFunction}
use Rattle.rt_cdecl.specs.declared.kinds.Counts.{Counts}
use Rattle.rt_cdecl.specs.Types.{end_of}
use Rattle.rt_cdecl.specs.Rows.{Named, Opened, Member, Closed, Pair}
use Rattle.rt_cdecl.specs.GoodDecls.{IsFunction, used_types, function_numbers}
use Rattle.rt_cdecl.specs.Inside.GoodRows.{IsRow}
use Rattle.rt_cdecl.specs.Inside.Drafts.{Stage, Idle, InStruct, InPair, HalfRead, BothRead, PairClosed, Parts, Fits, least_after, stage_types}
use Rattle.rt_cdecl.specs.Inside.Endings.{CanEnd, HasPresent, AreApart, AreLeft, AreCounted, HasRoom, HasRoomIn, FitStruct, FitFunctions, IsFew, all_used}
use Rattle.rt_cdecl.proofs.Sound.{made, none_left}
use Rattle.rt_cdecl.proofs.Kept.{IsGood, IsGoodStage}
use Rattle.rt_cdecl.proofs.KindSets.{PartOf, part_of}
use Rattle.rt_cdecl.proofs.Phases.{IsPhase, IsPhased}
use Rattle.rt_cdecl.proofs.Weights.{total, apart_total, kinds_apart, total_units, unit_weight, units}
use Rattle.rt_cdecl.proofs.Needing.{less_or_same}
use Rattle.rt_cdecl.proofs.Ending.{IsRest, rest_row, same_row, end_row, first_short, more_shorts, first_char, more_chars, scalar_good, int_at, bit, Ends, end_pair, end_half, end_both, end_closed}

-- with nothing left after the last function
no_part : (t : CType) → PartOf false [] [] [] t → ⊥
no_part Unused p = false≢true p
no_part (Pointer n) p = p
no_part (Scalar x bits) (inl (there, e)) = Contains-none x there
no_part (Scalar x bits) (inr (inl (there, e))) = Contains-none x there
no_part (Scalar x bits) (inr (inr (there, e))) = Contains-none x there

whole_end : (parts : Parts) → IsRest parts false [] [] [] → parts.stage ≡ Idle → length parts.structs ≡ parts.named → CanEnd parts
whole_end parts rest idle count =
    record {
      rows = [];
      good = All-nil IsRow;
      last = parts;
      accepted = refl;
      whole = (
        idle,
        count,
        All-from_contains (Contains (used_types parts.structs parts.functions)) parts.typedefs (λ t h. elim (rest.covers t h) [
          | inl a ↦ subst (λ l. Contains l t) none a
          | inr p ↦ absurd (no_part t p)
        ]),
      );
    }
  where
    none : all_used parts ≡ used_types parts.structs parts.functions
    none = ap (λ s. used_types parts.structs parts.functions ++ stage_types s) idle ∙ append-nil (used_types parts.structs parts.functions)

-- functions one after the other
idle_more : (room : ℕ) → Ends room → (ts : List CType) (named : ℕ) (ss : List CStruct) (fs : List CFunction) (u : Bool) (ints : List (List ℕ)) → IsRest (made ts named ss fs Idle) u [] [] ints → length ss ≡ named → least_after 0 (function_numbers fs) + suc room ≡ 2 ^ 32 → bit u + length ints ≤ 16394 * suc room → HasPresent (made ts named ss fs Idle) → CanEnd (made ts named ss fs Idle)
idle_more room ends ts named ss fs u ints rest count at few has =
    let low : ℕ = least_after 0 (function_numbers fs) in
    let fine : IsRow (Pair low) = omega (arith, at) in
    let fits : Fits (made ts named ss fs Idle) (Pair low) = (refl, (count, omega arith)) in
    end_row (made ts named ss fs Idle) (Pair low) fine fits
    (end_pair room ends ts named ss fs count low (omega (arith, at)) u ints (same_row (made ts named ss fs Idle) (Pair low) u [] [] ints rest fine fits refl) (omega (arith, few)) has)

idle_next : (room : ℕ) → Ends room → (parts : Parts) (u : Bool) (ints : List (List ℕ)) → IsRest parts u [] [] ints → parts.stage ≡ Idle → length parts.structs ≡ parts.named → least_after 0 (function_numbers parts.functions) + suc room ≡ 2 ^ 32 → bit u + length ints ≤ 16394 * suc room → HasPresent parts → CanEnd parts
idle_next room ends parts u ints rest idle count at few has =
    subst (λ s. CanEnd (made parts.typedefs parts.named parts.structs parts.functions s)) (sym idle)
    (idle_more room ends parts.typedefs parts.named parts.structs parts.functions u ints (subst (λ s. IsRest (made parts.typedefs parts.named parts.structs parts.functions s) u [] [] ints) idle rest) count at few has)

ends_all : (room : ℕ) → Ends room
ends_all zero parts false [] rest idle count at few has = whole_end parts rest idle count
ends_all zero parts true ints rest idle count at few has = absurd (omega (arith, few))
ends_all zero parts false (i ∷ is) rest idle count at few has = absurd (omega (arith, few))
ends_all (suc room) parts false [] rest idle count at few has = whole_end parts rest idle count
ends_all (suc room) parts true ints rest idle count at few has = idle_next room (ends_all room) parts true ints rest idle count at few (has refl)
ends_all (suc room) parts false (i ∷ is) rest idle count at few has = idle_next room (ends_all room) parts false (i ∷ is) rest idle count at few (inr (i, int_at parts false i is rest))

-- between structs, with nothing narrow left
opened_fits : (ts : List CType) (named : ℕ) (ss : List CStruct) → IsGood (made ts named ss [] Idle) → length ss < named → IsRow (Opened (length ss)) × Fits (made ts named ss [] Idle) (Opened (length ss))
opened_fits ts named ss good less = let small = good.small in (omega (arith, small, less), (refl, refl, refl, less))

between : (d : ℕ) (ts : List CType) (named : ℕ) (ss : List CStruct) (u : Bool) (ints : List (List ℕ)) → IsRest (made ts named ss [] Idle) u [] [] ints → length ss + d ≡ named → 0 < named → bit u + length ints ≤ 2 ^ 31 → CanEnd (made ts named ss [] Idle)
between zero ts named ss u ints rest count some few =
    ends_all (2 ^ 32) (made ts named ss [] Idle) u ints rest refl (omega (arith, count)) (omega arith) (omega (arith, few)) (λ t. inl some)
between (suc d) ts named ss u ints rest count some few =
    let less : length ss < named = omega (arith, count) in
    let begun = opened_fits ts named ss rest.good less in
    let s : CStruct = record { number = length ss; fields = [] } in
    let long : length (ss ++ s ∷ []) ≡ length ss + 1 = length_push ss s in
    let inside = same_row (made ts named ss [] Idle) (Opened (length ss)) u [] [] ints rest begun.0 begun.1 refl in
    let after = same_row (made ts named ss [] (InStruct [] 0 false)) Closed u [] [] ints inside tt tt refl in
    end_row (made ts named ss [] Idle) (Opened (length ss)) begun.0 begun.1
    (end_row (made ts named ss [] (InStruct [] 0 false)) Closed tt tt
    (between d ts named (ss ++ s ∷ []) u ints after (omega (arith, count, long)) some few))

-- in a struct
ended : (ts : List CType) (named : ℕ) (ss : List CStruct) (u : Bool) (ints : List (List ℕ)) (fields : List CField) (from : ℕ) → IsRest (made ts named ss [] (InStruct fields from false)) u [] [] ints → bit u + length ints ≤ 2 ^ 31 → CanEnd (made ts named ss [] (InStruct fields from false))
ended ts named ss u ints fields from rest few =
    let s : CStruct = record { number = length ss; fields = fields } in
    let within = rest.phase in
    let less : length ss < named = within.1 in
    let long : length (ss ++ s ∷ []) ≡ length ss + 1 = length_push ss s in
    let after = same_row (made ts named ss [] (InStruct fields from false)) Closed u [] [] ints rest tt tt refl in
    end_row (made ts named ss [] (InStruct fields from false)) Closed tt tt
    (between (named - (length ss + 1)) ts named (ss ++ s ∷ []) u ints after (omega (arith, less, long)) (omega (arith, less)) few)

-- a pointer as a field, after a gap
abbrev point : ℕ → CField
point from = record { offset = from; kind = Pointer 0 }

point_fits : (ts : List CType) (named : ℕ) (ss : List CStruct) (fs : List CFunction) (fields : List CField) (from : ℕ) (gapped : Bool) → length ss < named → from < 2 ^ 31 → IsRow (Member (point from)) × Fits (made ts named ss fs (InStruct fields from gapped)) (Member (point from))
point_fits ts named ss fs fields from gapped less low = ((omega arith, tt, low), (refl, (All-nil (Contains ts), omega (arith, less))))

in_shorts : (shorts : List (List ℕ)) (ts : List CType) (named : ℕ) (ss : List CStruct) (u : Bool) (ints : List (List ℕ)) (fields : List CField) (from : ℕ) (gapped : Bool) → IsRest (made ts named ss [] (InStruct fields from gapped)) u [] shorts ints → (0 < length shorts → 2 * length shorts + from ≤ 2 ^ 31 + 1) → bit u + length ints ≤ 2 ^ 31 → CanEnd (made ts named ss [] (InStruct fields from gapped))
in_shorts [] ts named ss u ints fields from false rest fit few = ended ts named ss u ints fields from rest few
in_shorts [] ts named ss u ints fields from true rest fit few =
    let within = rest.phase in
    let ok = point_fits ts named ss [] fields from true within.1 (within.2 refl) in
    end_row (made ts named ss [] (InStruct fields from true)) (Member (point from)) ok.0 ok.1
    (ended ts named ss u ints (fields ++ point from ∷ []) (end_of (point from)) (same_row (made ts named ss [] (InStruct fields from true)) (Member (point from)) u [] [] ints rest ok.0 ok.1 refl) few)
in_shorts (s ∷ shorts) ts named ss u ints fields from gapped rest fit few =
    let parts = made ts named ss [] (InStruct fields from gapped) in
    let all = fit (omega arith) in
    let low : from < 2 ^ 31 = omega (arith, all) in
    let ok = scalar_good parts s 16 rest.good (rest.listed (Scalar s 16) (inr (inl (Contains-here s shorts, refl)))) in
    let field : CField = record { offset = from; kind = Scalar s 16 } in
    let fine : IsRow (Member field) = (ok.0, tt, low) in
    let fits : Fits parts (Member field) = (refl, ok.1) in
    end_row parts (Member field) fine fits
    (in_shorts shorts ts named ss u ints (fields ++ field ∷ []) (end_of field) false
    (rest_row parts (Member field) u u [] (s ∷ shorts) ints [] shorts ints rest fine fits refl (first_short u s shorts ints) (more_shorts u s shorts ints)) (λ some. next all) few)
  where
    next : 2 * length (s ∷ shorts) + from ≤ 2 ^ 31 + 1 → 2 * length shorts + (from + 2) ≤ 2 ^ 31 + 1
    next h = omega (arith, h)

in_chars : (chars shorts : List (List ℕ)) (ts : List CType) (named : ℕ) (ss : List CStruct) (u : Bool) (ints : List (List ℕ)) (fields : List CField) (from : ℕ) (gapped : Bool) → IsRest (made ts named ss [] (InStruct fields from gapped)) u chars shorts ints →
    (0 < length chars + length shorts → (length chars + from ≤ 2 ^ 31) × (length chars + 2 * length shorts + from ≤ 2 ^ 31 + 1)) → bit u + length ints ≤ 2 ^ 31 → CanEnd (made ts named ss [] (InStruct fields from gapped))
in_chars [] shorts ts named ss u ints fields from gapped rest fit few = in_shorts shorts ts named ss u ints fields from gapped rest (λ some. by (fit (omega (arith, some)))) few
  where
    by : (0 + from ≤ 2 ^ 31) × (0 + 2 * length shorts + from ≤ 2 ^ 31 + 1) → 2 * length shorts + from ≤ 2 ^ 31 + 1
    by (a, b) = omega (arith, b)
in_chars (c ∷ chars) shorts ts named ss u ints fields from gapped rest fit few =
    let parts = made ts named ss [] (InStruct fields from gapped) in
    let all = fit (omega arith) in
    let one : length (c ∷ chars) + from ≤ 2 ^ 31 = all.0 in
    let low : from < 2 ^ 31 = omega (arith, one) in
    let ok = scalar_good parts c 8 rest.good (rest.listed (Scalar c 8) (inl (Contains-here c chars, refl))) in
    let field : CField = record { offset = from; kind = Scalar c 8 } in
    let fine : IsRow (Member field) = (ok.0, tt, low) in
    let fits : Fits parts (Member field) = (refl, ok.1) in
    end_row parts (Member field) fine fits
    (in_chars chars shorts ts named ss u ints (fields ++ field ∷ []) (end_of field) false
    (rest_row parts (Member field) u u (c ∷ chars) shorts ints chars shorts ints rest fine fits refl (first_char u c chars shorts ints) (more_chars u c chars shorts ints)) (λ some. next all.0 all.1) few)
  where
    next : length (c ∷ chars) + from ≤ 2 ^ 31 → length (c ∷ chars) + 2 * length shorts + from ≤ 2 ^ 31 + 1 → (length chars + (from + 1) ≤ 2 ^ 31) × (length chars + 2 * length shorts + (from + 1) ≤ 2 ^ 31 + 1)
    next a b = (omega (arith, a), omega (arith, b))

-- before a struct
begin_struct : (ts : List CType) (named : ℕ) (ss : List CStruct) (u : Bool) (chars shorts ints : List (List ℕ)) → IsRest (made ts named ss [] Idle) u chars shorts ints → length ss < named → length chars + 2 * length shorts ≤ 2 ^ 31 → bit u + length ints ≤ 2 ^ 31 → CanEnd (made ts named ss [] Idle)
begin_struct ts named ss u chars shorts ints rest less narrow few =
    let begun = opened_fits ts named ss rest.good less in
    end_row (made ts named ss [] Idle) (Opened (length ss)) begun.0 begun.1
    (in_chars chars shorts ts named ss u ints [] 0 false (same_row (made ts named ss [] Idle) (Opened (length ss)) u chars shorts ints rest begun.0 begun.1 refl) (λ some. (omega (arith, narrow), omega (arith, narrow))) few)

-- in a struct before another
skip_plain : (ts : List CType) (named : ℕ) (ss : List CStruct) (u : Bool) (chars shorts ints : List (List ℕ)) (fields : List CField) (from : ℕ) → IsRest (made ts named ss [] (InStruct fields from false)) u chars shorts ints → length ss + 1 < named → length chars + 2 * length shorts ≤ 2 ^ 31 → bit u + length ints ≤ 2 ^ 31 → CanEnd (made ts named ss [] (InStruct fields from false))
skip_plain ts named ss u chars shorts ints fields from rest less narrow few =
    let s : CStruct = record { number = length ss; fields = fields } in
    let long : length (ss ++ s ∷ []) ≡ length ss + 1 = length_push ss s in
    end_row (made ts named ss [] (InStruct fields from false)) Closed tt tt
    (begin_struct ts named (ss ++ s ∷ []) u chars shorts ints (same_row (made ts named ss [] (InStruct fields from false)) Closed u chars shorts ints rest tt tt refl) (omega (arith, less, long)) narrow few)

skip_struct : (ts : List CType) (named : ℕ) (ss : List CStruct) (u : Bool) (chars shorts ints : List (List ℕ)) (fields : List CField) (from : ℕ) (gapped : Bool) → IsRest (made ts named ss [] (InStruct fields from gapped)) u chars shorts ints → length ss + 1 < named → length chars + 2 * length shorts ≤ 2 ^ 31 → bit u + length ints ≤ 2 ^ 31 → CanEnd (made ts named ss [] (InStruct fields from gapped))
skip_struct ts named ss u chars shorts ints fields from false rest less narrow few = skip_plain ts named ss u chars shorts ints fields from rest less narrow few
skip_struct ts named ss u chars shorts ints fields from true rest less narrow few =
    let within = rest.phase in
    let ok = point_fits ts named ss [] fields from true within.1 (within.2 refl) in
    end_row (made ts named ss [] (InStruct fields from true)) (Member (point from)) ok.0 ok.1
    (skip_plain ts named ss u chars shorts ints (fields ++ point from ∷ []) (end_of (point from))
    (same_row (made ts named ss [] (InStruct fields from true)) (Member (point from)) u chars shorts ints rest ok.0 ok.1 refl) less narrow few)

-- before any name of a struct
begin_names : (ts : List CType) (u : Bool) (chars shorts ints : List (List ℕ)) → IsRest (made ts 0 [] [] Idle) u chars shorts ints → length chars + 2 * length shorts ≤ 2 ^ 31 → bit u + length ints ≤ 2 ^ 31 → CanEnd (made ts 0 [] [] Idle)
begin_names ts u chars shorts ints rest narrow few =
    let fine : IsRow (Named 0) = omega arith in
    let fits : Fits (made ts 0 [] [] Idle) (Named 0) = (refl, refl, refl, refl) in
    end_row (made ts 0 [] [] Idle) (Named 0) fine fits
    (begin_struct ts 1 [] u chars shorts ints (same_row (made ts 0 [] [] Idle) (Named 0) u chars shorts ints rest fine fits refl) (omega arith) narrow few)

-- numbers of functions
least_small : (named low : ℕ) (fs : List CFunction) → All (IsFunction named) fs → low ≤ 2 ^ 32 → least_after low (function_numbers fs) ≤ 2 ^ 32
least_small named low [] good small = small
least_small named low (f ∷ fs) good small =
    let here = All-head (IsFunction named) f fs good in
    let number : f.number < 2 ^ 32 = here.number in
    least_small named (f.number + 1) fs (All-tail (IsFunction named) f fs good) (omega (arith, number))

none_named : (names : List (List ℕ)) → length names ≡ 0 → names ≡ []
none_named [] none = refl
none_named (n ∷ names) none = absurd (omega (arith, none))

module _ (parts : Parts) (left : List CType) (counts : Counts) (good : IsGood parts) (phase : IsPhased parts) (leaves : AreLeft left parts) (counted : AreCounted left counts) (small : length parts.typedefs ≤ 2 ^ 30) where
  rest : IsRest parts counts.unused counted.chars counted.shorts counted.ints
  rest = record {
    good = good;
    phase = phase;
    covers = λ t h. elim ((leaves t).1 h) [
      | inl l ↦ inr ((part_of counts.unused counted.chars counted.shorts counted.ints t).0 (subst (λ ts. Contains ts t) counted.are l))
      | inr used ↦ inl used
    ];
    listed = λ t p. ((leaves t).0 (subst (λ ts. Contains ts t) (sym counted.are) ((part_of counts.unused counted.chars counted.shorts counted.ints t).1 p))).0;
  }

  few_left : bit counts.unused + (length counted.chars + (length counted.shorts + length counted.ints)) ≤ 2 ^ 30
  few_left =
      let apart : AreApart left = subst AreApart (sym counted.are) (kinds_apart counts.unused counted.chars counted.shorts counted.ints counted.each_char counted.each_short counted.each_int) in
      let most = apart_total unit_weight left parts.typedefs apart (λ t h. ((leaves t).0 h).0) in
      let is : total unit_weight left ≡ bit counts.unused + (length counted.chars + (length counted.shorts + length counted.ints)) = ap (total unit_weight) counted.are ∙ total_units counts.unused counted.chars counted.shorts counted.ints in
      let all = units parts.typedefs in
      omega (arith, most, is, all, small)

  pub few_counts : IsFew counts
  few_counts =
      let few = few_left in
      let c = counted.chars_are in
      let s = counted.shorts_are in
      let i = counted.ints_are in
      (omega (arith, few, c), omega (arith, few, s), omega (arith, few, i))

  few_narrow : length counted.chars + 2 * length counted.shorts ≤ 2 ^ 31
  few_narrow = let few = few_left in omega (arith, few)

  few_wide : bit counts.unused + length counted.ints ≤ 2 ^ 31
  few_wide = let few = few_left in omega (arith, few)

  phase_in : (s : Stage) → parts.stage ≡ s → IsPhase s parts.structs parts.named parts.functions
  phase_in s e = subst (λ t. IsPhase t parts.structs parts.named parts.functions) e phase

  good_in : (s : Stage) → parts.stage ≡ s → IsGoodStage parts.typedefs parts.named parts.structs parts.functions s
  good_in s e = subst (λ t. IsGoodStage parts.typedefs parts.named parts.structs parts.functions t) e good.stage

  rest_in : (s : Stage) → parts.stage ≡ s → IsRest (made parts.typedefs parts.named parts.structs parts.functions s) counts.unused counted.chars counted.shorts counted.ints
  rest_in s e = subst (λ t. IsRest (made parts.typedefs parts.named parts.structs parts.functions t) counts.unused counted.chars counted.shorts counted.ints) e rest

  -- with no functions
  alone_in : (s : Stage) → parts.stage ≡ s → parts.functions ≡ [] → IsRest (made parts.typedefs parts.named parts.structs [] s) counts.unused counted.chars counted.shorts counted.ints
  alone_in s e none = subst (λ fs. IsRest (made parts.typedefs parts.named parts.structs fs s) counts.unused counted.chars counted.shorts counted.ints) none (rest_in s e)

  -- with nothing narrow left
  wide_in : (s : Stage) → parts.stage ≡ s → (number taken : ℕ) → FitFunctions parts counts number taken → IsRest (made parts.typedefs parts.named parts.structs parts.functions s) counts.unused [] [] counted.ints
  wide_in s e number taken fit =
      let c : counted.chars ≡ [] = none_named counted.chars (counted.chars_are ∙ fit.chars) in
      let h : counted.shorts ≡ [] = none_named counted.shorts (counted.shorts_are ∙ fit.shorts) in
      subst (λ cs. IsRest (made parts.typedefs parts.named parts.structs parts.functions s) counts.unused cs [] counted.ints) c
      (subst (λ hs. IsRest (made parts.typedefs parts.named parts.structs parts.functions s) counts.unused counted.chars hs counted.ints) h (rest_in s e))

  wide_few : (number taken : ℕ) → FitFunctions parts counts number taken → bit counts.unused + length counted.ints + taken ≤ 16394 * (2 ^ 32 - number)
  wide_few number taken fit = let room = fit.room in let are = counted.ints_are in omega (arith, room, are)

  begin_here : parts.stage ≡ Idle → parts.functions ≡ [] → length parts.structs < parts.named → CanEnd (made parts.typedefs parts.named parts.structs parts.functions Idle)
  begin_here e none less =
      subst (λ fs. CanEnd (made parts.typedefs parts.named parts.structs fs Idle)) (sym none)
      (begin_struct parts.typedefs parts.named parts.structs counts.unused counted.chars counted.shorts counted.ints (alone_in Idle e none) less few_narrow few_wide)

  less_here : parts.stage ≡ Idle → length parts.structs < parts.named → CanEnd (made parts.typedefs parts.named parts.structs parts.functions Idle)
  less_here e less =
      elim (phase_in Idle e) [
        | inl none ↦ begin_here e none less
        | inr same ↦ absurd (omega (arith, same, less))
      ]

  names_here : parts.stage ≡ Idle → parts.named ≡ 0 → parts.functions ≡ [] → CanEnd (made parts.typedefs parts.named parts.structs parts.functions Idle)
  names_here e none empty =
      let no : parts.structs ≡ [] = none_left parts.structs parts.named good.few none in
      let here : IsRest (made parts.typedefs 0 [] [] Idle) counts.unused counted.chars counted.shorts counted.ints =
      subst (λ (ss : List CStruct). IsRest (made parts.typedefs 0 ss [] Idle) counts.unused counted.chars counted.shorts counted.ints) no
      (subst (λ k. IsRest (made parts.typedefs k parts.structs [] Idle) counts.unused counted.chars counted.shorts counted.ints) none (alone_in Idle e empty)) in
      let can = begin_names parts.typedefs counts.unused counted.chars counted.shorts counted.ints here few_narrow few_wide in
      subst (λ (fs : List CFunction). CanEnd (made parts.typedefs parts.named parts.structs fs Idle)) (sym empty)
      (subst (λ k. CanEnd (made parts.typedefs k parts.structs [] Idle)) (sym none)
      (subst (λ (ss : List CStruct). CanEnd (made parts.typedefs 0 ss [] Idle)) (sym no) can))

  functions_here : parts.stage ≡ Idle → length parts.structs ≡ parts.named → FitFunctions parts counts (least_after 0 (function_numbers parts.functions)) 0 → CanEnd (made parts.typedefs parts.named parts.structs parts.functions Idle)
  functions_here e count fit =
      let least : ℕ = least_after 0 (function_numbers parts.functions) in
      let low : least ≤ 2 ^ 32 = least_small parts.named 0 parts.functions good.functions (omega arith) in
      let few = wide_few least 0 fit in
      ends_all (2 ^ 32 - least) (made parts.typedefs parts.named parts.structs parts.functions Idle) counts.unused counted.ints (wide_in Idle e least 0 fit) refl count (omega (arith, low)) (omega (arith, few)) fit.present

  idle_can : parts.stage ≡ Idle → HasRoomIn parts counts Idle → CanEnd (made parts.typedefs parts.named parts.structs parts.functions Idle)
  idle_can e (inl less) = less_here e less
  idle_can e (inr (inl (none, empty))) = names_here e none empty
  idle_can e (inr (inr fit)) =
      elim (less_or_same (length parts.structs) parts.named good.few) [
        | inl less ↦ less_here e less
        | inr same ↦ functions_here e same fit
      ]

  fit_chars : (from : ℕ) → FitStruct from counts → 0 < length counted.chars + length counted.shorts → (length counted.chars + from ≤ 2 ^ 31) × (length counted.chars + 2 * length counted.shorts + from ≤ 2 ^ 31 + 1)
  fit_chars from (inl (c, s)) some = let a = counted.chars_are in let b = counted.shorts_are in absurd (omega (arith, a, b, c, s, some))
  fit_chars from (inr (p, q)) some = let a = counted.chars_are in let b = counted.shorts_are in (omega (arith, a, p), omega (arith, a, b, q))

  struct_can : (fields : List CField) (from : ℕ) (gapped : Bool) → parts.stage ≡ InStruct fields from gapped → HasRoomIn parts counts (InStruct fields from gapped) → CanEnd (made parts.typedefs parts.named parts.structs parts.functions (InStruct fields from gapped))
  struct_can fields from gapped e has =
      let none : parts.functions ≡ [] = (phase_in (InStruct fields from gapped) e).0 in
      let alone = alone_in (InStruct fields from gapped) e none in
      subst (λ fs. CanEnd (made parts.typedefs parts.named parts.structs fs (InStruct fields from gapped))) (sym none)
      (elim has [
        | inl more ↦ skip_struct parts.typedefs parts.named parts.structs counts.unused counted.chars counted.shorts counted.ints fields from gapped alone more few_narrow few_wide
        | inr fit ↦ in_chars counted.chars counted.shorts parts.typedefs parts.named parts.structs counts.unused counted.ints fields from gapped alone (fit_chars from fit) few_wide
      ])

  can_in : (s : Stage) → parts.stage ≡ s → HasRoomIn parts counts s → CanEnd (made parts.typedefs parts.named parts.structs parts.functions s)
  can_in Idle e has = idle_can e has
  can_in (InStruct fields from gapped) e has = struct_can fields from gapped e has
  can_in (InPair n) e has =
      let low : n < 2 ^ 32 = (good_in (InPair n) e).0 in
      let few = wide_few n 0 has.1 in
      end_pair (2 ^ 32 - (n + 1)) (ends_all (2 ^ 32 - (n + 1))) parts.typedefs parts.named parts.structs parts.functions (phase_in (InPair n) e) n (omega (arith, low)) counts.unused counted.ints (wide_in (InPair n) e n 0 has.1) (omega (arith, few, low)) has.0
  can_in (HalfRead n a) e has =
      let low : n < 2 ^ 32 = (good_in (HalfRead n a) e).0 in
      let few = wide_few n 1 has.1 in
      end_half (2 ^ 32 - (n + 1)) (ends_all (2 ^ 32 - (n + 1))) parts.typedefs parts.named parts.structs parts.functions (phase_in (HalfRead n a) e) n (omega (arith, low)) a counts.unused counted.ints (wide_in (HalfRead n a) e n 1 has.1) (omega (arith, few, low)) has.0
  can_in (BothRead n a b) e has =
      let low : n < 2 ^ 32 = (good_in (BothRead n a b) e).0 in
      let few = wide_few n 2 has in
      end_both (2 ^ 32 - (n + 1)) (ends_all (2 ^ 32 - (n + 1))) parts.typedefs parts.named parts.structs parts.functions (phase_in (BothRead n a b) e) n (omega (arith, low)) a b counts.unused counted.ints (wide_in (BothRead n a b) e n 2 has) (omega (arith, few, low)) has.present
  can_in (PairClosed n a b) e has =
      let low : n < 2 ^ 32 = (good_in (PairClosed n a b) e).0 in
      let few = wide_few n 2 has in
      end_closed (2 ^ 32 - (n + 1)) (ends_all (2 ^ 32 - (n + 1))) parts.typedefs parts.named parts.structs parts.functions (phase_in (PairClosed n a b) e) n (omega (arith, low)) a b counts.unused counted.ints (wide_in (PairClosed n a b) e n 2 has) (omega (arith, few, low)) has.present

  pub room_ends : HasRoom parts counts → CanEnd parts
  room_ends has = can_in parts.stage refl has
