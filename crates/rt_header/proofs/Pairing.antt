-- Two headers of one list of sketches are one.
use Rattle.std.proofs.Common.{◌≡◌, ℕ, zero, suc, ◌+◌, ◌<◌, ◌≤◌, ◌/◌, ◌⊎◌, ◌==◌, ◌&&◌, inl, inr, pos, Bool, true, false, cond, Option, Some, None, List, [], ◌∷◌, ◌++◌, map, length, get_or, refl, sym, ap, subst, ◌∙◌, arith, flat_map, ext_get_or}
use Rattle.std.specs.Prelude.{Contains, find, All}
use Rattle.std.specs.Map.{lookup}
use Rattle.std.specs.Option.{option_map, option_and_then}
use Rattle.std.proofs.lemmas.Bool.{cases_order, and_parts, eqb-true}
use Rattle.std.proofs.lemmas.List.{get_or_append_left, get_or-append-add, get_or_default, length-append}
use Rattle.std.proofs.lemmas.List.Elements.{All-head, All-tail}
use Rattle.rt_base.proofs.Lists.{Contains-none, Contains-here, Contains-there, Contains-cons_cases}
use Rattle.rt_lines.specs.declared.label.Loc.{Loc}
use Rattle.rt_lines.specs.declared.label.Label.{Label}
use Rattle.rt_lines.specs.declared.label.Label.TheVariants.{In, Out}
use Rattle.rt_lines.specs.Equality.{loc_eq}
use Rattle.rt_tree.specs.Trees.{Stand}
use Rattle.rt_cdecl.specs.declared.declarations.CType.{CType}
use Rattle.rt_cdecl.specs.declared.declarations.CType.TheVariants.{Unused, Scalar, Pointer}
use Rattle.rt_cdecl.specs.declared.declarations.CField.{CField}
use Rattle.rt_cdecl.specs.declared.declarations.CStruct.{CStruct}
use Rattle.rt_cdecl.specs.declared.declarations.CFunction.{CFunction}
use Rattle.rt_cdecl.specs.declared.declarations.Decls.{Decls}
use Rattle.rt_cdecl.specs.Types.{bits_of, end_of, IsPresent}
use Rattle.rt_cdecl.specs.GoodDecls.{ArePlaced, FitFrom, IsLastPresent, LeadsBelow, arg_types, place_of}
use Rattle.rt_cdecl.specs.HeaderWords.{HeaderWord, Letter, Pointee, At, Spot, OfType, OfStruct, after, after_all, field_in, function_of, is_field, port_type, present, scalar_of, struct_of, word_in}
use Rattle.rt_header.specs.Met.{AreMet, AreSearched, struct_in, structs_of_fields, structs_of_function}
use Rattle.rt_header.proofs.Heading.{place_one}
use Rattle.rt_header.proofs.Reached.{int_eq_field, only_field}
use Rattle.rt_header.proofs.Telling.{loc_same}
use Rattle.rt_lines.proofs.Equal.{loc_equal}

none_some : {A : Type 0} (x : A) → None ≡ Some x → ⊥
none_some x e = cc

some_one : {A : Type 0} (x y : A) → Some x ≡ Some y → x ≡ y
some_one x y e = cc

true_false : true ≡ false → ⊥
true_false e = cc

abbrev pub no_struct : CStruct
no_struct = record { number = 0; fields = [] }

-- what is found is there and passes the test
found_in : {A : Type 0} (p : A → Bool) (xs : List A) (x : A) → find p xs ≡ Some x → Contains xs x × (p x ≡ true)
found_in p [] x e = absurd (none_some x e)
found_in p (y ∷ xs) x e = by (p y) refl e (found_in p xs x)
  where
    by : (b : Bool) → b ≡ p y → cond b (Some y) (find p xs) ≡ Some x → (find p xs ≡ Some x → Contains xs x × (p x ≡ true)) → Contains (y ∷ xs) x × (p x ≡ true)
    by true f e further = let same : y ≡ x = some_one y x e in (subst (λ z. Contains (y ∷ xs) z) same (Contains-here y xs), subst (λ z. p z ≡ true) same (sym f))
    by false f e further = let rest = further e in (Contains-there y xs x rest.0, rest.1)

-- the type of the argument at a place, where a place past the last is unused
pub looked : (k : ℕ) (args : List (Loc × CType)) → ArePlaced k args → (i : ℕ) → option_and_then present (lookup (loc_eq (place_of (k + i))) args) ≡ present (get_or (arg_types args) i Unused)
looked k [] placed i = refl
looked k (arg ∷ args) (here, placed) zero =
    ap (λ b. option_and_then present (cond b (Some arg.1) (lookup (loc_eq (place_of (k + 0))) args)))
    (ap (loc_eq (place_of (k + 0))) here ∙ (ap (λ n. loc_eq (place_of n) (place_of k)) (omega arith) ∙ loc_same (place_of k)))
looked k (arg ∷ args) (here, placed) (suc i) =
    ap (λ b. option_and_then present (cond b (Some arg.1) (lookup (loc_eq (place_of (k + suc i))) args))) (other (loc_eq (place_of (k + suc i)) arg.0) refl)
    ∙ (ap (λ n. option_and_then present (lookup (loc_eq (place_of n)) args)) (omega arith) ∙ looked (k + 1) args placed i)
  where
    other : (b : Bool) → b ≡ loc_eq (place_of (k + suc i)) arg.0 → loc_eq (place_of (k + suc i)) arg.0 ≡ false
    other false e = sym e
    other true e = absurd (let same : k + suc i ≡ k = place_one (k + suc i) k (loc_equal (place_of (k + suc i)) arg.0 (sym e) ∙ here) in omega (arith, same))

-- what holds of all holds of each
pub each_of : {A : Type 0} (P : A → Type 0) (xs : List A) → All P xs → (x : A) → Contains xs x → P x
each_of P xs all x (i, less, e) = subst P (get_or_default xs i x x less ∙ e) (all i x less)

-- where a type is present, it is the value's
present_is : (t : CType) → IsPresent t → present t ≡ Some (OfType t)
present_is Unused h = absurd h
present_is (Scalar name bits) h = refl
present_is (Pointer n) h = refl

-- fields rise
rising : (field : CField) (fields : List CField) → FitFrom (end_of field) fields → All (λ (f : CField). 0 < bits_of f.kind / 8) (field ∷ fields) → (other : CField) → Contains fields other → field.offset < other.offset
rising field fields fit wide other c =
    let first = All-head (λ (f : CField). 0 < bits_of f.kind / 8) field fields wide in
    let rest = only_field (end_of field) fields fit (All-tail (λ (f : CField). 0 < bits_of f.kind / 8) field fields wide) other c in
    omega (arith, rest.0, first)

-- what is behind a field
abbrev pub field_words : CStruct → ℕ → ℕ → Option Spot
field_words s bits k = field_in s bits (pos k)

module _ (a b : Decls) where
  -- the same words are behind the two structs
  abbrev pub Like : ℕ → ℕ → Type 0
  Like m n = (letters : List Letter) → option_map scalar_of (after_all a letters (OfStruct m)) ≡ option_map scalar_of (after_all b letters (OfStruct n))

  -- two types behind which there are the same words
  pub data Alike : CType → CType → Type 0 where
    unused : Alike Unused Unused
    scalar : (name : List ℕ) (bits : ℕ) → Alike (Scalar name bits) (Scalar name bits)
    pointer : (m n : ℕ) → Like m n → Alike (Pointer m) (Pointer n)

  pub typed : (s t : CType) → bits_of s ≡ bits_of t
      → ((letters : List Letter) → option_map scalar_of (option_and_then (after_all a letters) (present s)) ≡ option_map scalar_of (option_and_then (after_all b letters) (present t))) → Alike s t
  typed Unused Unused wide h = unused
  typed Unused (Scalar y q) wide h = absurd (none_some (Some y) (h []))
  typed Unused (Pointer n) wide h = absurd (none_some None (h []))
  typed (Scalar x p) Unused wide h = absurd (none_some (Some x) (sym (h [])))
  typed (Scalar x p) (Scalar y q) wide h =
      let names : x ≡ y = some_one x y (some_one (Some x) (Some y) (h [])) in
      subst (λ z. Alike (Scalar x p) (Scalar z q)) names (subst (λ w. Alike (Scalar x p) (Scalar x w)) wide (scalar x p))
  typed (Scalar x p) (Pointer n) wide h = absurd (none_some x (sym (some_one (Some x) None (h []))))
  typed (Pointer m) Unused wide h = absurd (none_some None (sym (h [])))
  typed (Pointer m) (Scalar y q) wide h = absurd (none_some y (some_one None (Some y) (h [])))
  typed (Pointer m) (Pointer n) wide h = pointer m n (λ letters. h (Pointee ∷ letters))

  -- lists of types that are alike
  pub data AreAlike : List CType → List CType → Type 0 where
    no_types : AreAlike [] []
    more_types : (s t : CType) (ss ts : List CType) → Alike s t → AreAlike ss ts → AreAlike (s ∷ ss) (t ∷ ts)

  unused_present : (s t : CType) → s ≡ Unused → Alike s t → IsPresent t → ⊥
  unused_present _ _ e unused h = h
  unused_present _ _ e (scalar name bits) h = cc
  unused_present _ _ e (pointer m n l) h = cc

  present_unused : (s t : CType) → t ≡ Unused → Alike s t → IsPresent s → ⊥
  present_unused _ _ e unused h = h
  present_unused _ _ e (scalar name bits) h = cc
  present_unused _ _ e (pointer m n l) h = cc

  -- of a list that isn't empty some type is present
  some_present : (t : CType) (ts : List CType) → IsLastPresent (t ∷ ts) → (i : ℕ) × IsPresent (get_or (t ∷ ts) i Unused)
  some_present t [] last = (0, last)
  some_present t (next ∷ ts) last = let there = some_present next ts last in (suc there.0, there.1)

  last_tail : (t : CType) (ts : List CType) → IsLastPresent (t ∷ ts) → IsLastPresent ts
  last_tail t [] last = tt
  last_tail t (next ∷ ts) last = last

  pub alike_by : (ss ts : List CType) → IsLastPresent ss → IsLastPresent ts → ((i : ℕ) → Alike (get_or ss i Unused) (get_or ts i Unused)) → AreAlike ss ts
  alike_by [] [] last last' each = no_types
  alike_by [] (t ∷ ts) last last' each = let there = some_present t ts last' in absurd (unused_present _ _ refl (each there.0) there.1)
  alike_by (s ∷ ss) [] last last' each = let there = some_present s ss last in absurd (present_unused _ _ refl (each there.0) there.1)
  alike_by (s ∷ ss) (t ∷ ts) last last' each = more_types s t ss ts (each 0) (alike_by ss ts (last_tail s ss last) (last_tail t ts last') (λ i. each (suc i)))

  alike_length : (ss ts : List CType) → AreAlike ss ts → length ss ≡ length ts
  alike_length _ _ no_types = refl
  alike_length _ _ (more_types s t ss ts h more) = ap suc (alike_length ss ts more)

  pub alike_append : (ss ts us vs : List CType) → AreAlike ss ts → AreAlike us vs → AreAlike (ss ++ us) (ts ++ vs)
  alike_append _ _ us vs no_types more = more
  alike_append _ _ us vs (more_types s t ss ts h rest) more = more_types s t (ss ++ us) (ts ++ vs) h (alike_append ss ts us vs rest more)

  -- lists of structs with the same words, each below the count of its side
  pub data ArePaired (la lb : ℕ) : List ℕ → List ℕ → Type 0 where
    no_pairs : ArePaired la lb [] []
    more_pairs : (m n : ℕ) (ms ns : List ℕ) → m < la → n < lb → Like m n → ArePaired la lb ms ns → ArePaired la lb (m ∷ ms) (n ∷ ns)

  pub paired : (la lb : ℕ) (ss ts : List CType) → AreAlike ss ts → All (LeadsBelow la) ss → All (LeadsBelow lb) ts → ArePaired la lb (flat_map struct_in ss) (flat_map struct_in ts)
  paired la lb _ _ no_types low low' = no_pairs
  paired la lb _ _ (more_types s t ss ts h more) low low' =
      one s t h (All-head (LeadsBelow la) s ss low) (All-head (LeadsBelow lb) t ts low') (paired la lb ss ts more (All-tail (LeadsBelow la) s ss low) (All-tail (LeadsBelow lb) t ts low'))
    where
      one : (s t : CType) → Alike s t → LeadsBelow la s → LeadsBelow lb t → ArePaired la lb (flat_map struct_in ss) (flat_map struct_in ts)
          → ArePaired la lb (struct_in s ++ flat_map struct_in ss) (struct_in t ++ flat_map struct_in ts)
      one _ _ unused low low' rest = rest
      one _ _ (scalar name bits) low low' rest = rest
      one _ _ (pointer m n l) low low' rest = more_pairs m n (flat_map struct_in ss) (flat_map struct_in ts) low low' l rest

  -- fields at the same offsets of types that are alike
  pub data HaveAlike : List CField → List CField → Type 0 where
    no_fields : HaveAlike [] []
    more_fields : (f g : CField) (fs gs : List CField) → f.offset ≡ g.offset → Alike f.kind g.kind → HaveAlike fs gs → HaveAlike (f ∷ fs) (g ∷ gs)

  kinds_paired : (la lb : ℕ) (fs gs : List CField) → HaveAlike fs gs → All (λ (f : CField). LeadsBelow la f.kind) fs → All (λ (f : CField). LeadsBelow lb f.kind) gs
      → ArePaired la lb (structs_of_fields fs) (structs_of_fields gs)
  kinds_paired la lb _ _ no_fields low low' = no_pairs
  kinds_paired la lb _ _ (more_fields f g fs gs e h more) low low' =
      one f.kind g.kind h (All-head (λ (f : CField). LeadsBelow la f.kind) f fs low) (All-head (λ (f : CField). LeadsBelow lb f.kind) g gs low')
      (kinds_paired la lb fs gs more (All-tail (λ (f : CField). LeadsBelow la f.kind) f fs low) (All-tail (λ (f : CField). LeadsBelow lb f.kind) g gs low'))
    where
      one : (s t : CType) → Alike s t → LeadsBelow la s → LeadsBelow lb t → ArePaired la lb (structs_of_fields fs) (structs_of_fields gs)
          → ArePaired la lb (struct_in s ++ structs_of_fields fs) (struct_in t ++ structs_of_fields gs)
      one _ _ unused low low' rest = rest
      one _ _ (scalar name bits) low low' rest = rest
      one _ _ (pointer m n l) low low' rest = more_pairs m n (structs_of_fields fs) (structs_of_fields gs) low low' l rest

  -- a field of the one has a field of the other at its offset
  abbrev pub Matches : CField → List CField → Type 0
  Matches f gs = (g : CField) × Contains gs g × (g.offset ≡ f.offset) × Alike f.kind g.kind

  module _ (s t : CStruct) (fit : FitFrom 0 s.fields) (wide : All (λ (f : CField). 0 < bits_of f.kind / 8) s.fields)
      (there : All (λ (f : CField). IsPresent f.kind) s.fields) (there' : All (λ (f : CField). IsPresent f.kind) t.fields)
      (same : (bits k : ℕ) (letters : List Letter) → option_map scalar_of (option_and_then (after_all a letters) (field_in s bits (pos k)))
      ≡ option_map scalar_of (option_and_then (after_all b letters) (field_in t bits (pos k)))) where
    pub matches : (f : CField) → Contains s.fields f → Matches f t.fields
    matches f c = by (find (is_field (bits_of f.kind) (pos f.offset)) t.fields) refl
      where
        words : (letters : List Letter) → option_map scalar_of (option_and_then (after_all a letters) (present f.kind))
            ≡ option_map scalar_of (option_and_then (after_all b letters) (field_in t (bits_of f.kind) (pos f.offset)))
        words letters =
            ap (λ o. option_map scalar_of (option_and_then (after_all a letters) o)) (present_is f.kind (each_of (λ (f : CField). IsPresent f.kind) s.fields there f c))
            ∙ (ap (λ o. option_map scalar_of (option_and_then (after_all a letters) (option_map (λ (g : CField). OfType g.kind) o))) (sym (only_field 0 s.fields fit wide f c).1)
            ∙ same (bits_of f.kind) f.offset letters)

        by : (o : Option CField) → o ≡ find (is_field (bits_of f.kind) (pos f.offset)) t.fields → Matches f t.fields
        by None e = absurd (gone f.kind (each_of (λ (f : CField). IsPresent f.kind) s.fields there f c) (words [] ∙ ap (λ o. option_map scalar_of (option_and_then (after_all b []) (option_map (λ (g : CField). OfType g.kind) o))) (sym e)))
          where
            gone : (k : CType) → IsPresent k → option_map scalar_of (option_and_then (after_all a []) (present k)) ≡ None → ⊥
            gone Unused h e = h
            gone (Scalar name bits) h e = none_some (Some name) (sym e)
            gone (Pointer n) h e = none_some None (sym e)
        by (Some g) e =
            let is = found_in (is_field (bits_of f.kind) (pos f.offset)) t.fields g (sym e) in
            let both = and_parts (g.offset == f.offset) (bits_of g.kind == bits_of f.kind) (sym (int_eq_field g f) ∙ is.1) in
            let wide : bits_of f.kind ≡ bits_of g.kind = sym (eqb-true (bits_of g.kind) (bits_of f.kind) both.1) in (
              g,
              is.0,
              eqb-true g.offset f.offset both.0,
              typed f.kind g.kind wide (λ letters. words letters
                  ∙ (ap (λ o. option_map scalar_of (option_and_then (after_all b letters) (option_map (λ (g : CField). OfType g.kind) o))) (sym e)
                  ∙ ap (λ o. option_map scalar_of (option_and_then (after_all b letters) o)) (sym (present_is g.kind (each_of (λ (f : CField). IsPresent f.kind) t.fields there' g is.0))))),
            )

  -- fields that match each other are alike
  pub have_alike : (from from' : ℕ) (fs gs : List CField) → FitFrom from fs → FitFrom from' gs → All (λ (f : CField). 0 < bits_of f.kind / 8) fs → All (λ (f : CField). 0 < bits_of f.kind / 8) gs
      → ((f : CField) → Contains fs f → Matches f gs) → ((g : CField) → Contains gs g → (f : CField) × Contains fs f × (f.offset ≡ g.offset)) → HaveAlike fs gs
  have_alike from from' [] [] fit fit' wide wide' to back = no_fields
  have_alike from from' [] (g ∷ gs) fit fit' wide wide' to back = let there = back g (Contains-here g gs) in absurd (Contains-none there.0 there.1)
  have_alike from from' (f ∷ fs) [] fit fit' wide wide' to back = let there = to f (Contains-here f fs) in absurd (Contains-none there.0 there.1)
  have_alike from from' (f ∷ fs) (g ∷ gs) fit fit' wide wide' to back =
      by (λ on back_on. have_alike (end_of f) (end_of g) fs gs fit.1 fit'.1 (All-tail (λ (f : CField). 0 < bits_of f.kind / 8) f fs wide) (All-tail (λ (f : CField). 0 < bits_of f.kind / 8) g gs wide') on back_on)
      (to f (Contains-here f fs)) (back g (Contains-here g gs))
    where
      Rest : Type 0
      Rest = ((x : CField) → Contains fs x → Matches x gs) → ((y : CField) → Contains gs y → (x : CField) × Contains fs x × (x.offset ≡ y.offset)) → HaveAlike fs gs

      up : (x : CField) → Contains fs x → f.offset < x.offset
      up x c = rising f fs fit.1 wide x c

      up' : (x : CField) → Contains gs x → g.offset < x.offset
      up' x c = rising g gs fit'.1 wide' x c

      on : f.offset ≡ g.offset → (x : CField) → Contains fs x → Matches x gs
      on e x c = at (to x (Contains-there f fs x c))
        where
          at : Matches x (g ∷ gs) → Matches x gs
          at (y, d, same, h) = cases (Contains-cons_cases g gs y d)
            where
              cases : (g ≡ y) ⊎ Contains gs y → Matches x gs
              cases (inl is) = let less = up x c in let k : g.offset ≡ y.offset = ap (λ (z : CField). z.offset) is in absurd (omega (arith, less, k, same, e))
              cases (inr c') = (y, c', same, h)

      back_on : f.offset ≡ g.offset → (y : CField) → Contains gs y → (x : CField) × Contains fs x × (x.offset ≡ y.offset)
      back_on e y d = at (back y (Contains-there g gs y d))
        where
          at : (x : CField) × Contains (f ∷ fs) x × (x.offset ≡ y.offset) → (x : CField) × Contains fs x × (x.offset ≡ y.offset)
          at (x, c, same) = cases (Contains-cons_cases f fs x c)
            where
              cases : (f ≡ x) ⊎ Contains fs x → (x : CField) × Contains fs x × (x.offset ≡ y.offset)
              cases (inl is) = let less = up' y d in let k : f.offset ≡ x.offset = ap (λ (z : CField). z.offset) is in absurd (omega (arith, less, k, same, e))
              cases (inr c') = (x, c', same)

      by : Rest → Matches f (g ∷ gs) → (x : CField) × Contains (f ∷ fs) x × (x.offset ≡ g.offset) → HaveAlike (f ∷ fs) (g ∷ gs)
      by rest (y, d, same, h) (x, c, same') = cases (Contains-cons_cases g gs y d) (Contains-cons_cases f fs x c)
        where
          cases : (g ≡ y) ⊎ Contains gs y → (f ≡ x) ⊎ Contains fs x → HaveAlike (f ∷ fs) (g ∷ gs)
          cases (inl is) other =
              let e : f.offset ≡ g.offset = sym same ∙ sym (ap (λ (z : CField). z.offset) is) in
              more_fields f g fs gs e (subst (λ (z : CField). Alike f.kind z.kind) (sym is) h) (rest (on e) (back_on e))
          cases (inr d') (inl is) = let less = up' y d' in let k : f.offset ≡ x.offset = ap (λ (z : CField). z.offset) is in absurd (omega (arith, less, k, same, same'))
          cases (inr d') (inr c') = let less = up' y d' in let less' = up x c' in absurd (omega (arith, less, less', same, same'))

  -- Structs are met in one order.
  module _ (la lb : ℕ) (apart_a : (m n : ℕ) → m < la → n < la → ((letters : List Letter) → option_map scalar_of (after_all a letters (OfStruct m)) ≡ option_map scalar_of (after_all a letters (OfStruct n))) → m ≡ n)
      (apart_b : (m n : ℕ) → m < lb → n < lb → ((letters : List Letter) → option_map scalar_of (after_all b letters (OfStruct m)) ≡ option_map scalar_of (after_all b letters (OfStruct n))) → m ≡ n)
      (fields_of_like : (m n : ℕ) → m < la → n < lb → Like m n → HaveAlike (get_or a.structs m no_struct).fields (get_or b.structs n no_struct).fields)
      (low_a : (m : ℕ) → m < la → All (λ (f : CField). LeadsBelow la f.kind) (get_or a.structs m no_struct).fields)
      (low_b : (n : ℕ) → n < lb → All (λ (f : CField). LeadsBelow lb f.kind) (get_or b.structs n no_struct).fields) where
    abbrev pub AreSameTo : ℕ → Type 0
    AreSameTo c = (k : ℕ) → k < c → (k < la) × (k < lb) × Like k k

    one_like : (c : ℕ) → AreSameTo c → (m n : ℕ) → m < c → n < lb → Like m n → m ≡ n
    one_like c same m n less low l = let (p, q, k) = same m less in apart_b m n q low (λ letters. sym (k letters) ∙ l letters)

    like_one : (c : ℕ) → AreSameTo c → (m n : ℕ) → m < la → n < c → Like m n → m ≡ n
    like_one c same m n low less l = let (p, q, k) = same n less in apart_a m n low p (λ letters. l letters ∙ sym (k letters))

    same_more : (before m n : ℕ) → AreSameTo before → m < la → n < lb → Like m n → m ≡ before → n ≡ before → AreSameTo (before + 1)
    same_more before m n same low low' l e f k less = by (cases_order k before)
      where
        by : (k ≡ before) ⊎ ((k < before) ⊎ (before < k)) → (k < la) × (k < lb) × Like k k
        by (inl is) = (omega (arith, low, e, is), omega (arith, low', f, is), subst (λ x. Like x k) (e ∙ sym is) (subst (λ y. Like m y) (f ∙ sym is) l))
        by (inr (inl below)) = same k below
        by (inr (inr above)) = absurd (omega (arith, less, above))

    stand_same : (before : ℕ) (ms ns : List ℕ) (after after' : ℕ) → AreSameTo before → ArePaired la lb ms ns → Stand before ms after → Stand before ns after' → (after ≡ after') × AreSameTo after
    stand_same before _ _ after after' same no_pairs e f = (sym e ∙ f, subst AreSameTo e same)
    stand_same before _ _ after after' same (more_pairs m n ms ns low low' l more) (inl (below, s)) (inl (below', t)) = stand_same before ms ns after after' same more s t
    stand_same before _ _ after after' same (more_pairs m n ms ns low low' l more) (inl (below, s)) (inr (e, t)) =
        let one : m ≡ n = one_like before same m n below low' l in absurd (omega (arith, one, below, e))
    stand_same before _ _ after after' same (more_pairs m n ms ns low low' l more) (inr (e, s)) (inl (below, t)) =
        let one : m ≡ n = like_one before same m n low below l in absurd (omega (arith, one, below, e))
    stand_same before _ _ after after' same (more_pairs m n ms ns low low' l more) (inr (e, s)) (inr (f, t)) =
        stand_same (before + 1) ms ns after after' (same_more before m n same low low' l e f) more s t

    -- a list of structs stands in another one from a number on
    abbrev Stands : List CStruct → ℕ → List CStruct → Type 0
    Stands all n structs = (j : ℕ) → j < length structs → get_or all (n + j) no_struct ≡ get_or structs j no_struct

    stands_tail : (all : List CStruct) (n : ℕ) (s : CStruct) (ss : List CStruct) → Stands all n (s ∷ ss) → Stands all (n + 1) ss
    stands_tail all n s ss h j less = ap (λ i. get_or all i no_struct) (omega arith) ∙ h (suc j) (omega (arith, less))

    searched_same : (n before : ℕ) (ss us : List CStruct) → Stands a.structs n ss → Stands b.structs n us → AreSameTo before → AreSearched n before ss → AreSearched n before us
        → (length ss ≡ length us) × AreSameTo (n + length ss)
    searched_same n before [] [] at at' same e f = (refl, subst AreSameTo (e ∙ omega arith) same)
    searched_same n before [] (u ∷ us) at at' same e f = let less = f.0 in absurd (omega (arith, e, less))
    searched_same n before (s ∷ ss) [] at at' same e f = let less = e.0 in absurd (omega (arith, f, less))
    searched_same n before (s ∷ ss) (u ∷ us) at at' same (less, after, stand, rest) (less', after', stand', rest') =
        let (p, q, l) = same n less in
        let here : get_or a.structs n no_struct ≡ s = ap (λ i. get_or a.structs i no_struct) (omega arith) ∙ at 0 (omega arith) in
        let here' : get_or b.structs n no_struct ≡ u = ap (λ i. get_or b.structs i no_struct) (omega arith) ∙ at' 0 (omega arith) in
        let alike : HaveAlike s.fields u.fields = subst (λ (x : CStruct). HaveAlike x.fields u.fields) here (subst (λ (y : CStruct). HaveAlike (get_or a.structs n no_struct).fields y.fields) here' (fields_of_like n n p q l)) in
        let pairs = kinds_paired la lb s.fields u.fields alike (subst (λ (x : CStruct). All (λ (f : CField). LeadsBelow la f.kind) x.fields) here (low_a n p)) (subst (λ (x : CStruct). All (λ (f : CField). LeadsBelow lb f.kind) x.fields) here' (low_b n q)) in
        let (ends, met) = stand_same before (structs_of_fields s.fields) (structs_of_fields u.fields) after after' same pairs stand stand' in
        let (each, all) = searched_same (n + 1) after ss us (stands_tail a.structs n s ss at) (stands_tail b.structs n u us at') met rest (subst (λ k. AreSearched (n + 1) k us) (sym ends) rest') in
        (ap suc each, subst AreSameTo (omega arith) all)

    -- functions that lead to the same structs
    pub data AreLed : List CFunction → List CFunction → Type 0 where
      no_functions : AreLed [] []
      more_functions : (f g : CFunction) (fs gs : List CFunction) → ArePaired la lb (structs_of_function f) (structs_of_function g) → AreLed fs gs → AreLed (f ∷ fs) (g ∷ gs)

    stands_left : (all : List CStruct) (n : ℕ) (ss own rest : List CStruct) → ss ≡ own ++ rest → Stands all n ss → Stands all n own
    stands_left all n ss own rest e h j less =
        h j (subst (λ xs. j < length xs) (sym e) (let l = length-append own rest in omega (arith, l, less)))
        ∙ (ap (λ xs. get_or xs j no_struct) e ∙ get_or_append_left own rest no_struct j less)

    stands_right : (all : List CStruct) (n : ℕ) (ss own rest : List CStruct) → ss ≡ own ++ rest → Stands all n ss → Stands all (n + length own) rest
    stands_right all n ss own rest e h j less =
        ap (λ i. get_or all i no_struct) (omega arith)
        ∙ (h (length own + j) (subst (λ xs. length own + j < length xs) (sym e) (let l = length-append own rest in omega (arith, l, less)))
        ∙ (ap (λ xs. get_or xs (length own + j) no_struct) e ∙ get_or-append-add own rest j no_struct))

    pub met_same : (n : ℕ) (ss us : List CStruct) (fs gs : List CFunction) → Stands a.structs n ss → Stands b.structs n us → AreLed fs gs → AreSameTo n → AreMet n ss fs → AreMet n us gs
        → (length ss ≡ length us) × AreSameTo (n + length ss)
    met_same n ss us _ _ at at' no_functions same e f = (ap length e ∙ sym (ap length f), subst AreSameTo (let l : length ss ≡ 0 = ap length e in omega (arith, l)) same)
    met_same n ss us _ _ at at' (more_functions f g fs gs pairs led) same (own, rest, e, after, stand, searched, more) (own', rest', e', after', stand', searched', more') =
        let (ends, met) = stand_same n (structs_of_function f) (structs_of_function g) after after' same pairs stand stand' in
        let (each, all) = searched_same n after own own' (stands_left a.structs n ss own rest e at) (stands_left b.structs n us own' rest' e' at') met searched (subst (λ k. AreSearched n k own') (sym ends) searched') in
        let there : Stands b.structs (n + length own) rest' = subst (λ k. Stands b.structs (n + k) rest') (sym each) (stands_right b.structs n us own' rest' e' at') in
        let further : AreMet (n + length own) rest' gs = subst (λ k. AreMet (n + k) rest' gs) (sym each) more' in
        let (lengths, whole) = met_same (n + length own) rest rest' fs gs (stands_right a.structs n ss own rest e at) there led all more further in
        let l : length ss ≡ length own + length rest = ap length e ∙ length-append own rest in
        let l' : length us ≡ length own' + length rest' = ap length e' ∙ length-append own' rest' in
        (omega (arith, l, l', each, lengths), subst AreSameTo (omega (arith, l)) whole)

    -- types that are alike are one, where all structs are met
    pub type_same : AreSameTo la → (s t : CType) → Alike s t → LeadsBelow la s → LeadsBelow lb t → s ≡ t
    type_same same _ _ unused low low' = refl
    type_same same _ _ (scalar name bits) low low' = refl
    type_same same _ _ (pointer m n l) low low' = ap Pointer (one_like la same m n low low' l)

    pub fields_same : AreSameTo la → (fs gs : List CField) → HaveAlike fs gs → All (λ (f : CField). LeadsBelow la f.kind) fs → All (λ (f : CField). LeadsBelow lb f.kind) gs → fs ≡ gs
    fields_same same _ _ no_fields low low' = refl
    fields_same same _ _ (more_fields f g fs gs e h more) low low' =
        ap (λ z. z ∷ fs) (one_field f g e (type_same same f.kind g.kind h (All-head (λ (f : CField). LeadsBelow la f.kind) f fs low) (All-head (λ (f : CField). LeadsBelow lb f.kind) g gs low')))
        ∙ ap (λ zs. g ∷ zs) (fields_same same fs gs more (All-tail (λ (f : CField). LeadsBelow la f.kind) f fs low) (All-tail (λ (f : CField). LeadsBelow lb f.kind) g gs low'))
      where
        field_by : ℕ → CType → CField
        field_by offset kind = record { offset = offset; kind = kind }

        one_field : (f g : CField) → f.offset ≡ g.offset → f.kind ≡ g.kind → f ≡ g
        one_field f g e h = ap (λ o. field_by o f.kind) e ∙ ap (λ k. field_by g.offset k) h

    pub types_same : AreSameTo la → (ss ts : List CType) → AreAlike ss ts → All (LeadsBelow la) ss → All (LeadsBelow lb) ts → ss ≡ ts
    types_same same _ _ no_types low low' = refl
    types_same same _ _ (more_types s t ss ts h more) low low' =
        ap (λ z. z ∷ ss) (type_same same s t h (All-head (LeadsBelow la) s ss low) (All-head (LeadsBelow lb) t ts low'))
        ∙ ap (λ zs. t ∷ zs) (types_same same ss ts more (All-tail (LeadsBelow la) s ss low) (All-tail (LeadsBelow lb) t ts low'))
