-- Lines that end a header that is read in part, where there is room for the types that are left.
use Rattle.std.proofs.Common.{◌≡◌, ℕ, zero, suc, ◌+◌, ◌-◌, ◌*◌, ◌≤◌, ◌^◌, ◌⊎◌, inl, inr, IsTrue, Bool, true, false, if◌then◌else◌, List, [], ◌∷◌, ◌++◌, All, Contains, map, length, refl, ap, sym, subst, ◌∙◌, arith, append-nil}
use Rattle.std.specs.List.{flat_map}
use Rattle.std.proofs.lemmas.Bool.{false≢true}
use Rattle.std.proofs.lemmas.List.{length-map}
use Rattle.std.proofs.lemmas.List.Elements.{All-nil, All-cons, All-contains, Contains-append_left, Contains-append_right, Contains-append_cases}
use Rattle.rt_base.proofs.Lists.{Contains-here, Contains-there, Contains-cons_cases, Contains-map}
use Rattle.rt_lines.specs.declared.label.Loc.{Loc}
use Rattle.rt_cdecl.specs.declared.declarations.CType.{CType}
use Rattle.rt_cdecl.specs.declared.declarations.CType.TheVariants.{Unused, Scalar, Pointer}
use Rattle.rt_cdecl.specs.declared.declarations.CStruct.{CStruct}
use Rattle.rt_cdecl.specs.declared.declarations.CFunction.{CFunction}
use Rattle.rt_cdecl.specs.Types.{IsType, IsTypedef, IsWide, IsPresent}
use Rattle.rt_cdecl.specs.Rows.{Row, Closed, Half, Stated, Both}
use Rattle.rt_cdecl.specs.GoodDecls.{AreArgs, ArePlaced, IsLastPresent, arg_types, named_types, place_of, function_numbers}
use Rattle.rt_cdecl.specs.Inside.GoodRows.{IsRow}
use Rattle.rt_cdecl.specs.Inside.Drafts.{Idle, InPair, HalfRead, BothRead, PairClosed, Parts, with_row, Fits, IsListed, least_after, stated_of, line_types}
use Rattle.rt_cdecl.specs.Inside.Endings.{CanEnd, HasPresent, all_used, row_types}
use Rattle.rt_cdecl.proofs.Sound.{made}
use Rattle.rt_cdecl.proofs.Runs.{least_push}
use Rattle.rt_cdecl.proofs.Kept.{IsGood, good_with}
use Rattle.rt_cdecl.proofs.KindSets.{PartOf, all_types}
use Rattle.rt_cdecl.proofs.Phases.{IsPhased, phase_with, used_with}

-- Each type that is listed is used, or is one of these, which are listed.
pub record IsRest (parts : Parts) (unused : Bool) (chars shorts ints : List (List ℕ)) : Type 0 where
  pub good : IsGood parts
  pub phase : IsPhased parts
  pub covers : (t : CType) → Contains parts.typedefs t → Contains (all_used parts) t ⊎ PartOf unused chars shorts ints t
  pub listed : (t : CType) → PartOf unused chars shorts ints t → Contains parts.typedefs t

-- with a line more
pub rest_row : (parts : Parts) (row : Row) (u v : Bool) (a b c d e f : List (List ℕ)) → IsRest parts u a b c → IsRow row → Fits parts row → (with_row parts row).typedefs ≡ parts.typedefs →
    ((t : CType) → PartOf u a b c t → Contains (row_types row) t ⊎ PartOf v d e f t) → ((t : CType) → PartOf v d e f t → PartOf u a b c t) → IsRest (with_row parts row) v d e f
rest_row parts row u v a b c d e f rest fine fits same moves stays =
    record {
      good = good_with parts row rest.good fine fits;
      phase = phase_with parts row rest.phase fits;
      covers = λ t h. elim (rest.covers t (subst (λ ts. Contains ts t) same h)) [
        | inl used ↦ inl ((used_with parts row fine fits t).0 (Contains-append_left (all_used parts) (row_types row) t used))
        | inr part ↦ elim (moves t part) [
          | inl now ↦ inl ((used_with parts row fine fits t).0 (Contains-append_right (all_used parts) (row_types row) t now))
          | inr later ↦ inr later
        ]
      ];
      listed = λ t p. subst (λ ts. Contains ts t) (sym same) (rest.listed t (stays t p));
    }

pub same_row : (parts : Parts) (row : Row) (u : Bool) (a b c : List (List ℕ)) → IsRest parts u a b c → IsRow row → Fits parts row → (with_row parts row).typedefs ≡ parts.typedefs → IsRest (with_row parts row) u a b c
same_row parts row u a b c rest fine fits same = rest_row parts row u u a b c a b c rest fine fits same (λ t p. inr p) (λ t p. p)

pub end_row : (parts : Parts) (row : Row) → IsRow row → Fits parts row → CanEnd (with_row parts row) → CanEnd parts
end_row parts row fine fits can =
    record { rows = row ∷ can.rows; good = All-cons IsRow row can.rows fine can.good; last = can.last; accepted = (fits, can.accepted); whole = can.whole }

-- the first name of those of each width
first_int : (u : Bool) (i : List ℕ) (is : List (List ℕ)) (t : CType) → PartOf u [] [] (i ∷ is) t → Contains (Scalar i 32 ∷ []) t ⊎ PartOf u [] [] is t
first_int u i is Unused p = inr p
first_int u i is (Pointer n) p = inr p
first_int u i is (Scalar x bits) (inl (there, e)) = inr (inl (there, e))
first_int u i is (Scalar x bits) (inr (inl (there, e))) = inr (inr (inl (there, e)))
first_int u i is (Scalar x bits) (inr (inr (there, e))) =
    elim (Contains-cons_cases i is x there) [
      | inl same ↦ inl (subst (λ t. Contains (Scalar i 32 ∷ []) t) (λ k. Scalar (same k) (sym e k)) (Contains-here (Scalar i 32) []))
      | inr more ↦ inr (inr (inr (more, e)))
    ]

more_ints : (u : Bool) (i : List ℕ) (is : List (List ℕ)) (t : CType) → PartOf u [] [] is t → PartOf u [] [] (i ∷ is) t
more_ints u i is Unused p = p
more_ints u i is (Pointer n) p = p
more_ints u i is (Scalar x bits) (inl q) = inl q
more_ints u i is (Scalar x bits) (inr (inl q)) = inr (inl q)
more_ints u i is (Scalar x bits) (inr (inr (there, e))) = inr (inr (Contains-there i is x there, e))

pub first_short : (u : Bool) (s : List ℕ) (ss is : List (List ℕ)) (t : CType) → PartOf u [] (s ∷ ss) is t → Contains (Scalar s 16 ∷ []) t ⊎ PartOf u [] ss is t
first_short u s ss is Unused p = inr p
first_short u s ss is (Pointer n) p = inr p
first_short u s ss is (Scalar x bits) (inl q) = inr (inl q)
first_short u s ss is (Scalar x bits) (inr (inr q)) = inr (inr (inr q))
first_short u s ss is (Scalar x bits) (inr (inl (there, e))) =
    elim (Contains-cons_cases s ss x there) [
      | inl same ↦ inl (subst (λ t. Contains (Scalar s 16 ∷ []) t) (λ k. Scalar (same k) (sym e k)) (Contains-here (Scalar s 16) []))
      | inr more ↦ inr (inr (inl (more, e)))
    ]

pub more_shorts : (u : Bool) (s : List ℕ) (ss is : List (List ℕ)) (t : CType) → PartOf u [] ss is t → PartOf u [] (s ∷ ss) is t
more_shorts u s ss is Unused p = p
more_shorts u s ss is (Pointer n) p = p
more_shorts u s ss is (Scalar x bits) (inl q) = inl q
more_shorts u s ss is (Scalar x bits) (inr (inr q)) = inr (inr q)
more_shorts u s ss is (Scalar x bits) (inr (inl (there, e))) = inr (inl (Contains-there s ss x there, e))

pub first_char : (u : Bool) (c : List ℕ) (cs ss is : List (List ℕ)) (t : CType) → PartOf u (c ∷ cs) ss is t → Contains (Scalar c 8 ∷ []) t ⊎ PartOf u cs ss is t
first_char u c cs ss is Unused p = inr p
first_char u c cs ss is (Pointer n) p = inr p
first_char u c cs ss is (Scalar x bits) (inr q) = inr (inr q)
first_char u c cs ss is (Scalar x bits) (inl (there, e)) =
    elim (Contains-cons_cases c cs x there) [
      | inl same ↦ inl (subst (λ t. Contains (Scalar c 8 ∷ []) t) (λ k. Scalar (same k) (sym e k)) (Contains-here (Scalar c 8) []))
      | inr more ↦ inr (inl (more, e))
    ]

pub more_chars : (u : Bool) (c : List ℕ) (cs ss is : List (List ℕ)) (t : CType) → PartOf u cs ss is t → PartOf u (c ∷ cs) ss is t
more_chars u c cs ss is Unused p = p
more_chars u c cs ss is (Pointer n) p = p
more_chars u c cs ss is (Scalar x bits) (inr q) = inr q
more_chars u c cs ss is (Scalar x bits) (inl (there, e)) = inl (Contains-there c cs x there, e)

first_unused : (ints : List (List ℕ)) (t : CType) → PartOf true [] [] ints t → Contains (Unused ∷ []) t ⊎ PartOf false [] [] ints t
first_unused ints Unused p = inl (Contains-here Unused [])
first_unused ints (Pointer n) p = inr p
first_unused ints (Scalar x bits) p = inr p

more_unused : (ints : List (List ℕ)) (t : CType) → PartOf false [] [] ints t → PartOf true [] [] ints t
more_unused ints Unused p = refl
more_unused ints (Pointer n) p = p
more_unused ints (Scalar x bits) p = p

-- types that can be written
record IsWritten (parts : Parts) (t : CType) : Type 0 where
  here : IsPresent t
  wide : IsWide t
  listed : IsListed parts t

pub scalar_good : (parts : Parts) (name : List ℕ) (bits : ℕ) → IsGood parts → Contains parts.typedefs (Scalar name bits) → IsType (Scalar name bits) × IsListed parts (Scalar name bits)
scalar_good parts name bits good h =
    (All-contains IsTypedef parts.typedefs (Scalar name bits) good.typedefs h, (All-cons (Contains parts.typedefs) (Scalar name bits) [] h (All-nil (Contains parts.typedefs)), tt))

int_written : (parts : Parts) (name : List ℕ) → IsGood parts → Contains parts.typedefs (Scalar name 32) → IsWritten parts (Scalar name 32)
int_written parts name good h = let fine = scalar_good parts name 32 good h in record { here = tt; wide = (fine.0, refl); listed = fine.1 }

some_written : (parts : Parts) → IsGood parts → HasPresent parts → (t : CType) × IsWritten parts t
some_written parts good (inl some) = (Pointer 0, record { here = tt; wide = (omega arith, refl); listed = (All-nil (Contains parts.typedefs), some) })
some_written parts good (inr (name, h)) = (Scalar name 32, int_written parts name good h)

pub int_at : (parts : Parts) (u : Bool) (i : List ℕ) (is : List (List ℕ)) → IsRest parts u [] [] (i ∷ is) → Contains parts.typedefs (Scalar i 32)
int_at parts u i is rest = rest.listed (Scalar i 32) (inr (inr (Contains-here i is, refl)))

unused_at : (parts : Parts) (ints : List (List ℕ)) → IsRest parts true [] [] ints → IsListed parts Unused
unused_at parts ints rest = (All-cons (Contains parts.typedefs) Unused [] (rest.listed Unused refl) (All-nil (Contains parts.typedefs)), tt)

-- arguments of types, at the first places
abbrev placed : ℕ → List CType → List (Loc × CType)
placed i [] = []
placed i (u ∷ us) = (place_of i, u) ∷ placed (i + 1) us

placed_types : (i : ℕ) (us : List CType) → arg_types (placed i us) ≡ us
placed_types i [] = refl
placed_types i (u ∷ us) = ap (λ r. u ∷ r) (placed_types (i + 1) us)

placed_fit : (i : ℕ) (us : List CType) → ArePlaced i (placed i us)
placed_fit i [] = tt
placed_fit i (u ∷ us) = (refl, placed_fit (i + 1) us)

placed_args : (us : List CType) → length us ≤ 16392 → All IsWide us → IsLastPresent us → AreArgs (placed 0 us)
placed_args us few wide last =
    let count : length (arg_types (placed 0 us)) ≡ length (placed 0 us) = length-map (placed 0 us) (λ (arg : Loc × CType). arg.1) in
    let same : length (arg_types (placed 0 us)) ≡ length us = ap length (placed_types 0 us) in
    record {
      places = placed_fit 0 us;
      few = omega (arith, few, count, same);
      types = (all_types IsWide (placed 0 us)).1 (subst (All IsWide) (sym (placed_types 0 us)) wide);
      used = subst IsLastPresent (sym (placed_types 0 us)) last;
    }

-- a list is cut after so many items, or has no more
record IsCutAt (k : ℕ) (xs : List (List ℕ)) : Type 0 where
  front : List (List ℕ)
  back : List (List ℕ)
  joined : xs ≡ front ++ back
  few : length front ≤ k
  left : length back ≤ length xs - k

cut_at : (k : ℕ) (xs : List (List ℕ)) → IsCutAt k xs
cut_at zero xs = record { front = []; back = xs; joined = refl; few = omega arith; left = omega arith }
cut_at (suc k) [] = record { front = []; back = []; joined = refl; few = omega arith; left = omega arith }
cut_at (suc k) (x ∷ xs) =
    let rest = cut_at k xs in
    let few = rest.few in
    let left = rest.left in
    record { front = x ∷ rest.front; back = rest.back; joined = λ i. x ∷ rest.joined i; few = omega (arith, few); left = omega (arith, left) }

abbrev scalars : List (List ℕ) → List CType
scalars names = map (λ (n : List ℕ). Scalar n 32) names

own_types : (u : Bool) (names : List (List ℕ)) → flat_map named_types (scalars names) ≡ scalars names
own_types u [] = refl
own_types u (n ∷ names) = ap (λ r. Scalar n 32 ∷ r) (own_types u names)

in_scalars : (names : List (List ℕ)) (x : List ℕ) (bits : ℕ) → Contains names x → bits ≡ 32 → Contains (flat_map named_types (scalars names)) (Scalar x bits)
in_scalars names x bits there e =
    subst (λ ts. Contains ts (Scalar x bits)) (sym (own_types true names))
    (subst (λ b. Contains (scalars names) (Scalar x b)) (sym e) (Contains-map (λ (n : List ℕ). Scalar n 32) names x there))

-- those of a front are written, and those of the back are left
front_moves : (u : Bool) (front back ints : List (List ℕ)) → ints ≡ front ++ back → (t : CType) → PartOf u [] [] ints t → Contains (flat_map named_types (scalars front)) t ⊎ PartOf u [] [] back t
front_moves u front back ints is Unused p = inr p
front_moves u front back ints is (Pointer n) p = inr p
front_moves u front back ints is (Scalar x bits) (inl q) = inr (inl q)
front_moves u front back ints is (Scalar x bits) (inr (inl q)) = inr (inr (inl q))
front_moves u front back ints is (Scalar x bits) (inr (inr (there, e))) =
    elim (Contains-append_cases front back x (subst (λ xs. Contains xs x) is there)) [
      | inl a ↦ inl (in_scalars front x bits a e)
      | inr b ↦ inr (inr (inr (b, e)))
    ]

back_stays : (u : Bool) (front back ints : List (List ℕ)) → ints ≡ front ++ back → (t : CType) → PartOf u [] [] back t → PartOf u [] [] ints t
back_stays u front back ints is Unused p = p
back_stays u front back ints is (Pointer n) p = p
back_stays u front back ints is (Scalar x bits) (inl q) = inl q
back_stays u front back ints is (Scalar x bits) (inr (inl q)) = inr (inl q)
back_stays u front back ints is (Scalar x bits) (inr (inr (there, e))) = inr (inr (subst (λ xs. Contains xs x) (sym is) (Contains-append_right front back x there), e))

-- scalars that are listed can be arguments
written_all : (parts : Parts) (names : List (List ℕ)) → IsGood parts → ((n : List ℕ) → Contains names n → Contains parts.typedefs (Scalar n 32)) → All IsWide (scalars names) × All (IsListed parts) (scalars names)
written_all parts [] good at = (All-nil IsWide, All-nil (IsListed parts))
written_all parts (n ∷ names) good at =
    let here = int_written parts n good (at n (Contains-here n names)) in
    let rest = written_all parts names good (λ m h. at m (Contains-there n names m h)) in
    (All-cons IsWide (Scalar n 32) (scalars names) here.wide rest.0, All-cons (IsListed parts) (Scalar n 32) (scalars names) here.listed rest.1)

scalars_last : (names : List (List ℕ)) → IsLastPresent (scalars names)
scalars_last [] = tt
scalars_last (n ∷ []) = tt
scalars_last (n ∷ m ∷ names) = scalars_last (m ∷ names)

abbrev pub bit : Bool → ℕ
bit b = if b then 1 else 0

-- parts after whose functions so many more can follow can be ended
abbrev pub Ends : ℕ → Type 0
Ends room =
    (parts : Parts) (u : Bool) (ints : List (List ℕ)) → IsRest parts u [] [] ints → parts.stage ≡ Idle → length parts.structs ≡ parts.named → least_after 0 (function_numbers parts.functions) + room ≡ 2 ^ 32 →
    bit u + length ints ≤ 16394 * room → (IsTrue u → HasPresent parts) → CanEnd parts

module _ (room : ℕ) (ends : Ends room) (ts : List CType) (named : ℕ) (ss : List CStruct) (fs : List CFunction) (count : length ss ≡ named) (n : ℕ) (number : n + 1 + room ≡ 2 ^ 32) where
  -- a function's line, after its pair
  state_types : (a b : CType) (u : Bool) (ints back : List (List ℕ)) (us : List CType) → IsRest (made ts named ss fs (PairClosed n a b)) u [] [] ints → length us ≤ 16392 → All IsWide us → All (IsListed (made ts named ss fs (PairClosed n a b))) us → IsLastPresent us →
      ((t : CType) → PartOf u [] [] ints t → Contains (flat_map named_types us) t ⊎ PartOf false [] [] back t) → ((t : CType) → PartOf false [] [] back t → PartOf u [] [] ints t) → length back ≤ 16394 * room → CanEnd (made ts named ss fs (PairClosed n a b))
  state_types a b u ints back us rest few wide listed last moves stays enough =
      let args = placed 0 us in
      let row : Row = Stated Both n args in
      let fine : IsRow row = (tt, omega (arith, number), placed_args us few wide last) in
      let fits : Fits (made ts named ss fs (PairClosed n a b)) row = (refl, subst (All (IsListed (made ts named ss fs (PairClosed n a b)))) (sym (placed_types 0 us)) listed) in
      let used : flat_map named_types us ≡ line_types Both args = ap (flat_map named_types) (sym (placed_types 0 us)) ∙ sym (append-nil (flat_map named_types (arg_types args))) in
      let after = rest_row (made ts named ss fs (PairClosed n a b)) row u false [] [] ints [] [] back rest fine fits refl
      (λ t p. elim (moves t p) [ inl x ↦ inl (subst (λ l. Contains l t) used x) | inr y ↦ inr y ]) stays in
      let next : least_after 0 (function_numbers (fs ++ stated_of (PairClosed n a b) Both n args ∷ [])) ≡ n + 1 = least_push fs (stated_of (PairClosed n a b) Both n args) in
      end_row (made ts named ss fs (PairClosed n a b)) row fine fits
      (ends (with_row (made ts named ss fs (PairClosed n a b)) row) false back after refl count (omega (arith, number, next)) (omega (arith, enough)) (λ t. absurd (false≢true t)))

  pub end_closed : (a b : CType) (u : Bool) (ints : List (List ℕ)) → IsRest (made ts named ss fs (PairClosed n a b)) u [] [] ints → bit u + length ints + 2 ≤ 16394 * (room + 1) → (IsTrue u → HasPresent (made ts named ss fs (PairClosed n a b))) → CanEnd (made ts named ss fs (PairClosed n a b))
  end_closed a b false ints rest enough has =
      let cut = cut_at 16392 ints in
      let few = cut.few in
      let left = cut.left in
      let long : length (scalars cut.front) ≡ length cut.front = length-map cut.front (λ (x : List ℕ). Scalar x 32) in
      let written = written_all (made ts named ss fs (PairClosed n a b)) cut.front rest.good (λ x h. rest.listed (Scalar x 32) (inr (inr (subst (λ xs. Contains xs x) (sym cut.joined) (Contains-append_left cut.front cut.back x h), refl)))) in
      state_types a b false ints cut.back (scalars cut.front) rest (omega (arith, few, long)) written.0 written.1 (scalars_last cut.front)
      (front_moves false cut.front cut.back ints cut.joined) (back_stays false cut.front cut.back ints cut.joined) (omega (arith, left, enough))
  end_closed a b true [] rest enough has =
      let parts = made ts named ss fs (PairClosed n a b) in
      let filler = some_written parts rest.good (has refl) in
      let at : IsListed parts Unused = unused_at parts [] rest in
      state_types a b true [] [] (Unused ∷ filler.0 ∷ []) rest (omega arith)
      (All-cons IsWide Unused (filler.0 ∷ []) (tt, refl) (All-cons IsWide filler.0 [] filler.1.wide (All-nil IsWide)))
      (All-cons (IsListed parts) Unused (filler.0 ∷ []) at (All-cons (IsListed parts) filler.0 [] filler.1.listed (All-nil (IsListed parts))))
      filler.1.here
      (λ t p. elim (first_unused [] t p) [ inl x ↦ inl (Contains-append_left (Unused ∷ []) (flat_map named_types (filler.0 ∷ [])) t x) | inr y ↦ inr y ])
      (more_unused []) (omega arith)
  end_closed a b true (i ∷ is) rest enough has =
      let parts = made ts named ss fs (PairClosed n a b) in
      let cut = cut_at 16390 is in
      let few = cut.few in
      let left = cut.left in
      let long : length (scalars cut.front) ≡ length cut.front = length-map cut.front (λ (x : List ℕ). Scalar x 32) in
      let joined : i ∷ is ≡ (i ∷ cut.front) ++ cut.back = λ k. i ∷ cut.joined k in
      let at : IsListed parts Unused = unused_at parts (i ∷ is) rest in
      let written = written_all parts (i ∷ cut.front) rest.good (λ x h. rest.listed (Scalar x 32) (inr (inr (subst (λ xs. Contains xs x) (sym joined) (Contains-append_left (i ∷ cut.front) cut.back x h), refl)))) in
      state_types a b true (i ∷ is) cut.back (Unused ∷ scalars (i ∷ cut.front)) rest (omega (arith, few, long))
      (All-cons IsWide Unused (scalars (i ∷ cut.front)) (tt, refl) written.0)
      (All-cons (IsListed parts) Unused (scalars (i ∷ cut.front)) at written.1)
      (scalars_last (i ∷ cut.front))
      (λ t p. elim (first_unused (i ∷ is) t p) [
        | inl x ↦ inl (Contains-append_left (Unused ∷ []) (flat_map named_types (scalars (i ∷ cut.front))) t x)
        | inr y ↦ elim (front_moves false (i ∷ cut.front) cut.back (i ∷ is) joined t y) [
          | inl z ↦ inl (Contains-append_right (Unused ∷ []) (flat_map named_types (scalars (i ∷ cut.front))) t z)
          | inr w ↦ inr w
        ]
      ])
      (λ t p. more_unused (i ∷ is) t (back_stays false (i ∷ cut.front) cut.back (i ∷ is) joined t p)) (omega (arith, left, enough))

  -- the end of a pair
  pub end_both : (a b : CType) (u : Bool) (ints : List (List ℕ)) → IsRest (made ts named ss fs (BothRead n a b)) u [] [] ints → bit u + length ints + 2 ≤ 16394 * (room + 1) → (IsTrue u → HasPresent (made ts named ss fs (BothRead n a b))) → CanEnd (made ts named ss fs (BothRead n a b))
  end_both a b u ints rest enough has =
      end_row (made ts named ss fs (BothRead n a b)) Closed tt tt
      (end_closed a b u ints (same_row (made ts named ss fs (BothRead n a b)) Closed u [] [] ints rest tt tt refl) enough has)

  -- the second result of a pair
  pub end_half : (a : CType) (u : Bool) (ints : List (List ℕ)) → IsRest (made ts named ss fs (HalfRead n a)) u [] [] ints → bit u + length ints + 1 ≤ 16394 * (room + 1) → HasPresent (made ts named ss fs (HalfRead n a)) → CanEnd (made ts named ss fs (HalfRead n a))
  end_half a u [] rest enough has =
      let parts = made ts named ss fs (HalfRead n a) in
      let filler = some_written parts rest.good has in
      let fine : IsRow (Half 1 filler.0) = (omega arith, filler.1.wide) in
      let fits : Fits parts (Half 1 filler.0) = (filler.1.here, filler.1.listed) in
      end_row parts (Half 1 filler.0) fine fits
      (end_both a filler.0 u [] (same_row parts (Half 1 filler.0) u [] [] [] rest fine fits refl) (few u) (λ t. has))
    where
      few : (v : Bool) → bit v + 0 + 2 ≤ 16394 * (room + 1)
      few true = omega arith
      few false = omega arith
  end_half a u (i ∷ is) rest enough has =
      let parts = made ts named ss fs (HalfRead n a) in
      let here = int_written parts i rest.good (int_at parts u i is rest) in
      let fine : IsRow (Half 1 (Scalar i 32)) = (omega arith, here.wide) in
      let fits : Fits parts (Half 1 (Scalar i 32)) = (tt, here.listed) in
      end_row parts (Half 1 (Scalar i 32)) fine fits
      (end_both a (Scalar i 32) u is (rest_row parts (Half 1 (Scalar i 32)) u u [] [] (i ∷ is) [] [] is rest fine fits refl (first_int u i is) (more_ints u i is)) (omega (arith, enough)) (λ t. has))

  -- the first result of a pair
  pub end_pair : (u : Bool) (ints : List (List ℕ)) → IsRest (made ts named ss fs (InPair n)) u [] [] ints → bit u + length ints ≤ 16394 * (room + 1) → HasPresent (made ts named ss fs (InPair n)) → CanEnd (made ts named ss fs (InPair n))
  end_pair true ints rest enough has =
      let parts = made ts named ss fs (InPair n) in
      let fine : IsRow (Half 0 Unused) = (omega arith, (tt, refl)) in
      let fits : Fits parts (Half 0 Unused) = (tt, unused_at parts ints rest) in
      end_row parts (Half 0 Unused) fine fits
      (end_half Unused false ints (rest_row parts (Half 0 Unused) true false [] [] ints [] [] ints rest fine fits refl (first_unused ints) (more_unused ints)) (omega (arith, enough)) has)
  end_pair false [] rest enough has =
      let parts = made ts named ss fs (InPair n) in
      let filler = some_written parts rest.good has in
      let fine : IsRow (Half 0 filler.0) = (omega arith, filler.1.wide) in
      let fits : Fits parts (Half 0 filler.0) = (tt, filler.1.listed) in
      end_row parts (Half 0 filler.0) fine fits
      (end_half filler.0 false [] (same_row parts (Half 0 filler.0) false [] [] [] rest fine fits refl) (omega arith) has)
  end_pair false (i ∷ is) rest enough has =
      let parts = made ts named ss fs (InPair n) in
      let here = int_written parts i rest.good (int_at parts false i is rest) in
      let fine : IsRow (Half 0 (Scalar i 32)) = (omega arith, here.wide) in
      let fits : Fits parts (Half 0 (Scalar i 32)) = (tt, here.listed) in
      end_row parts (Half 0 (Scalar i 32)) fine fits
      (end_half (Scalar i 32) false is (rest_row parts (Half 0 (Scalar i 32)) false false [] [] (i ∷ is) [] [] is rest fine fits refl (first_int false i is) (more_ints false i is)) (omega (arith, enough)) has)
