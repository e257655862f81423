-- No text is that of two lines of headers.
use Rattle.std.proofs.Common.{◌≡◌, ℕ, ◌+◌, ◌==◌, List, [], ◌∷◌, ◌++◌, if◌then◌else◌, get_or, refl, ap, sym, ◌∙◌, inl, inr, ◌⊎◌, arith, codes, decimal, All, append_assoc, lit<, lit≤}
use Rattle.std.proofs.lemmas.Fmt.{decimal_digit, decimal_step}
use Rattle.std.proofs.lemmas.List.{append_cancel_left, append_cancel_right}
use Rattle.std.proofs.lemmas.List.Elements.{All-head, All-tail}
use Rattle.rt_lines.specs.declared.label.Loc.{Loc}
use Rattle.rt_texts.specs.Goods.{IsNumber}
use Rattle.rt_texts.specs.Readings.{HasNo}
use Rattle.rt_texts.proofs.Cuts.{one_cut}
use Rattle.rt_cdecl.specs.declared.declarations.CType.{CType}
use Rattle.rt_cdecl.specs.declared.declarations.CType.TheVariants.{Unused, Scalar, Pointer}
use Rattle.rt_cdecl.specs.Types.{IsType, IsWidth, IsTypedef}
use Rattle.rt_cdecl.specs.Rows.{Row, Typedef, Named, Opened, Gap, Member, Closed, Pair, Half, Stated, Returns, Nothing, Value, Both, carrier_text, scalar_text, typedef_text, type_text, loc_text, arg_text, more_args_text, args_text, returns_text, row_text}
use Rattle.rt_cdecl.specs.GoodDecls.{IsArgument, ArePlaced, place_of, AreArgs}
use Rattle.rt_cdecl.specs.Inside.GoodRows.{IsReturned, IsRow}
use Rattle.rt_cdecl.specs.Inside.Guesses.{StopsDigits}
use Rattle.rt_cdecl.proofs.Clear.{AreAbove-fixed, AreAbove-scalar, one_number}
use Rattle.rt_texts.proofs.Clear.{HasNo-above}

-- the last byte
abbrev last_of : List ℕ → ℕ
last_of [] = 0
last_of (x ∷ []) = x
last_of (x ∷ y ∷ xs) = last_of (y ∷ xs)

last-append : (a : List ℕ) (x : ℕ) (xs : List ℕ) → last_of (a ++ x ∷ xs) ≡ last_of (x ∷ xs)
last-append [] x xs = refl
last-append (a ∷ []) x xs = refl
last-append (a ∷ b ∷ more) x xs = last-append (b ∷ more) x xs

pub decimal-8 : decimal 8 ≡ codes "8"
decimal-8 = decimal_digit 8 (lit< tt)

pub decimal-16 : decimal 16 ≡ codes "16"
decimal-16 = decimal_step 16 (lit≤ tt) (lit< tt) ∙ ap (λ ds. ds ++ 54 ∷ []) (decimal_digit 1 (lit< tt))

pub decimal-32 : decimal 32 ≡ codes "32"
decimal-32 = decimal_step 32 (lit≤ tt) (lit< tt) ∙ ap (λ ds. ds ++ 50 ∷ []) (decimal_digit 3 (lit< tt))

-- the last byte of a scalar's name
abbrev mark_of : ℕ → ℕ
mark_of bits = if bits == 8 then 56 else if bits == 16 then 54 else 50

last_width : (name : List ℕ) (bits : ℕ) (ds : List ℕ) → decimal bits ≡ ds → last_of (name ++ 95 ∷ decimal bits) ≡ last_of (95 ∷ ds)
last_width name bits ds same = last-append name 95 (decimal bits) ∙ ap (λ s. last_of (95 ∷ s)) same

last_scalar : (name : List ℕ) (bits : ℕ) → IsWidth bits → last_of (name ++ 95 ∷ decimal bits) ≡ mark_of bits
last_scalar name bits (inl e) = last_width name bits (codes "8") (ap decimal e ∙ decimal-8) ∙ sym (ap mark_of e)
last_scalar name bits (inr (inl e)) = last_width name bits (codes "16") (ap decimal e ∙ decimal-16) ∙ sym (ap mark_of e)
last_scalar name bits (inr (inr e)) = last_width name bits (codes "32") (ap decimal e ∙ decimal-32) ∙ sym (ap mark_of e)

mark_is : (bits : ℕ) → IsWidth bits → ((bits ≡ 8) × (mark_of bits ≡ 56)) ⊎ (((bits ≡ 16) × (mark_of bits ≡ 54)) ⊎ ((bits ≡ 32) × (mark_of bits ≡ 50)))
mark_is bits (inl e) = inl (e, ap mark_of e)
mark_is bits (inr (inl e)) = inr (inl (e, ap mark_of e))
mark_is bits (inr (inr e)) = inr (inr (e, ap mark_of e))

one_width : (bits width : ℕ) → IsWidth bits → IsWidth width → mark_of bits ≡ mark_of width → bits ≡ width
one_width bits width g h same = by (mark_is bits g) (mark_is width h)
  where
    by : ((bits ≡ 8) × (mark_of bits ≡ 56)) ⊎ (((bits ≡ 16) × (mark_of bits ≡ 54)) ⊎ ((bits ≡ 32) × (mark_of bits ≡ 50))) → ((width ≡ 8) × (mark_of width ≡ 56)) ⊎ (((width ≡ 16) × (mark_of width ≡ 54)) ⊎ ((width ≡ 32) × (mark_of width ≡ 50))) → bits ≡ width
    by (inl (e, a)) (inl (f, b)) = e ∙ sym f
    by (inl (e, a)) (inr (inl (f, b))) = absurd (omega arith)
    by (inl (e, a)) (inr (inr (f, b))) = absurd (omega arith)
    by (inr (inl (e, a))) (inl (f, b)) = absurd (omega arith)
    by (inr (inl (e, a))) (inr (inl (f, b))) = e ∙ sym f
    by (inr (inl (e, a))) (inr (inr (f, b))) = absurd (omega arith)
    by (inr (inr (e, a))) (inl (f, b)) = absurd (omega arith)
    by (inr (inr (e, a))) (inr (inl (f, b))) = absurd (omega arith)
    by (inr (inr (e, a))) (inr (inr (f, b))) = e ∙ sym f

-- scalars
pub one_tail : (name other : List ℕ) (bits width : ℕ) → IsWidth bits → IsWidth width → name ++ 95 ∷ decimal bits ≡ other ++ 95 ∷ decimal width → (name ≡ other) × (bits ≡ width)
one_tail name other bits width g h same =
    let marks : mark_of bits ≡ mark_of width = sym (last_scalar name bits g) ∙ (ap last_of same ∙ last_scalar other width h) in
    let wide : bits ≡ width = one_width bits width g h marks in
    (append_cancel_right name other (95 ∷ decimal bits) (same ∙ ap (λ w. other ++ 95 ∷ decimal w) (sym wide)), wide)

pub one_scalar : (name other : List ℕ) (bits width : ℕ) → IsWidth bits → IsWidth width → scalar_text name bits ≡ scalar_text other width → (name ≡ other) × (bits ≡ width)
one_scalar name other bits width g h same = one_tail name other bits width g h (append_cancel_left (codes "rt_") (name ++ 95 ∷ decimal bits) (other ++ 95 ∷ decimal width) same)

mark_low : (bits : ℕ) → IsWidth bits → 100 ≡ mark_of bits → ⊥
mark_low bits g same = by (mark_is bits g)
  where
    by : ((bits ≡ 8) × (mark_of bits ≡ 56)) ⊎ (((bits ≡ 16) × (mark_of bits ≡ 54)) ⊎ ((bits ≡ 32) × (mark_of bits ≡ 50))) → ⊥
    by (inl (e, a)) = absurd (omega arith)
    by (inr (inl (e, a))) = absurd (omega arith)
    by (inr (inr (e, a))) = absurd (omega arith)

no_unused : (name : List ℕ) (bits : ℕ) → IsWidth bits → codes "rt_unused" ≡ scalar_text name bits → ⊥
no_unused name bits g same =
    let tail : codes "unused" ≡ name ++ 95 ∷ decimal bits = append_cancel_left (codes "rt_") (codes "unused") (name ++ 95 ∷ decimal bits) same in
    mark_low bits g (ap last_of tail ∙ last_scalar name bits g)

clear_unused : HasNo 32 (codes "rt_unused")
clear_unused = HasNo-above 32 47 (codes "rt_unused") (omega arith) (AreAbove-fixed 47 (codes "rt_unused") refl)

pub clear_scalar : (name : List ℕ) (bits : ℕ) → IsType (Scalar name bits) → HasNo 32 (scalar_text name bits)
clear_scalar name bits good = HasNo-above 32 47 (scalar_text name bits) (omega arith) (AreAbove-scalar name bits good.0 good.1)

no_unused_type : (name a b : List ℕ) (bits : ℕ) → IsType (Scalar name bits) → type_text Unused ++ a ≡ type_text (Scalar name bits) ++ b → ⊥
no_unused_type name a b bits good same =
    let cut = one_cut 32 (codes "rt_unused") (32 ∷ a) (scalar_text name bits) (32 ∷ b) (same ∙ append_assoc (scalar_text name bits) (codes " ") b) clear_unused refl (clear_scalar name bits good) refl in
    no_unused name bits good.1 cut.0

-- a type and what follows it are read in one way
pub one_type : (t u : CType) (a b : List ℕ) → IsType t → IsType u → type_text t ++ a ≡ type_text u ++ b → (t ≡ u) × (a ≡ b)
one_type Unused Unused a b g h same = (refl, append_cancel_left (codes "rt_unused ") a b same)
one_type Unused (Scalar name bits) a b g h same = absurd (no_unused_type name a b bits h same)
one_type (Scalar name bits) Unused a b g h same = absurd (no_unused_type name b a bits g (sym same))
one_type Unused (Pointer m) a b g h same = let e : ◌≡◌ {A = ℕ} 114 115 = ap (λ s. get_or s 0 0) same in absurd (omega arith)
one_type (Pointer n) Unused a b g h same = let e : ◌≡◌ {A = ℕ} 115 114 = ap (λ s. get_or s 0 0) same in absurd (omega arith)
one_type (Scalar name bits) (Pointer m) a b g h same = let e : ◌≡◌ {A = ℕ} 114 115 = ap (λ s. get_or s 0 0) same in absurd (omega arith)
one_type (Pointer n) (Scalar name bits) a b g h same = let e : ◌≡◌ {A = ℕ} 115 114 = ap (λ s. get_or s 0 0) same in absurd (omega arith)
one_type (Scalar name bits) (Scalar other width) a b g h same =
    let whole : scalar_text name bits ++ 32 ∷ a ≡ scalar_text other width ++ 32 ∷ b = sym (append_assoc (scalar_text name bits) (codes " ") a) ∙ (same ∙ append_assoc (scalar_text other width) (codes " ") b) in
    let cut = one_cut 32 (scalar_text name bits) (32 ∷ a) (scalar_text other width) (32 ∷ b) whole (clear_scalar name bits g) refl (clear_scalar other width h) refl in
    let one = one_scalar name other bits width g.1 h.1 cut.0 in
    ((λ i. Scalar (one.0 i) (one.1 i)), append_cancel_left (32 ∷ []) a b cut.1)
one_type (Pointer n) (Pointer m) a b g h same =
    let rest : (decimal n ++ codes " *") ++ a ≡ (decimal m ++ codes " *") ++ b = append_cancel_left (codes "struct s") ((decimal n ++ codes " *") ++ a) ((decimal m ++ codes " *") ++ b) same in
    let parts = one_number n m (codes " *" ++ a) (codes " *" ++ b) g h refl refl (sym (append_assoc (decimal n) (codes " *") a) ∙ (rest ∙ append_assoc (decimal m) (codes " *") b)) in
    ((λ i. Pointer (parts.0 i)), append_cancel_left (codes " *") a b parts.1)

-- arguments at known places
pub one_arg : (i : ℕ) (l m : Loc) (t u : CType) (a b : List ℕ) → l ≡ place_of i → m ≡ place_of i → IsType t → IsType u → arg_text (l, t) ++ a ≡ arg_text (m, u) ++ b → (l ≡ m) × (t ≡ u) × (a ≡ b)
one_arg i l m t u a b at at' g h same =
    let place : l ≡ m = at ∙ sym at' in
    let parts = one_type t u (loc_text l ++ a) (loc_text m ++ b) g h (sym (append_assoc (type_text t) (loc_text l) a) ∙ (same ∙ append_assoc (type_text u) (loc_text m) b)) in
    (place, parts.0, append_cancel_left (loc_text l) a b (parts.1 ∙ ap (λ x. loc_text x ++ b) (sym place)))

one_more : (i : ℕ) (args more : List (Loc × CType)) (a b : List ℕ) → ArePlaced i args → ArePlaced i more → All IsArgument args → All IsArgument more → more_args_text args ++ 41 ∷ a ≡ more_args_text more ++ 41 ∷ b → (args ≡ more) × (a ≡ b)
one_more i [] [] a b p q g h same = (refl, append_cancel_left (41 ∷ []) a b same)
one_more i [] (y ∷ more) a b p q g h same = let e : ◌≡◌ {A = ℕ} 41 44 = ap (λ s. get_or s 0 0) same in absurd (omega arith)
one_more i (x ∷ args) [] a b p q g h same = let e : ◌≡◌ {A = ℕ} 44 41 = ap (λ s. get_or s 0 0) same in absurd (omega arith)
one_more i ((l, t) ∷ args) ((m, u) ∷ more) a b p q g h same =
    let whole : codes ", " ++ (arg_text (l, t) ++ (more_args_text args ++ 41 ∷ a)) ≡ codes ", " ++ (arg_text (m, u) ++ (more_args_text more ++ 41 ∷ b)) =
    ap (λ s. codes ", " ++ s) (sym (append_assoc (arg_text (l, t)) (more_args_text args) (41 ∷ a))) ∙ (sym (append_assoc (codes ", ") (arg_text (l, t) ++ more_args_text args) (41 ∷ a)) ∙ (same ∙ ap (λ s. codes ", " ++ s) (append_assoc (arg_text (m, u)) (more_args_text more) (41 ∷ b)))) in
    let first = one_arg i l m t u (more_args_text args ++ 41 ∷ a) (more_args_text more ++ 41 ∷ b) p.0 q.0 (All-head IsArgument (l, t) args g).0 (All-head IsArgument (m, u) more h).0 (append_cancel_left (codes ", ") _ _ whole) in
    let rest = one_more (i + 1) args more a b p.1 q.1 (All-tail IsArgument (l, t) args g) (All-tail IsArgument (m, u) more h) first.2 in
    ((λ k. (first.0 k, first.1 k) ∷ rest.0 k), rest.1)

pub no_void : (l : Loc) (t : CType) (more : List (Loc × CType)) (a b : List ℕ) → codes "void" ++ a ≡ (arg_text (l, t) ++ more_args_text more) ++ b → ⊥
no_void l Unused more a b same = let e : ◌≡◌ {A = ℕ} 118 114 = ap (λ s. get_or s 0 0) same in absurd (omega arith)
no_void l (Scalar name bits) more a b same = let e : ◌≡◌ {A = ℕ} 118 114 = ap (λ s. get_or s 0 0) same in absurd (omega arith)
no_void l (Pointer n) more a b same = let e : ◌≡◌ {A = ℕ} 118 115 = ap (λ s. get_or s 0 0) same in absurd (omega arith)

one_args : (args more : List (Loc × CType)) (a b : List ℕ) → ArePlaced 0 args → ArePlaced 0 more → All IsArgument args → All IsArgument more → args_text args ++ 41 ∷ a ≡ args_text more ++ 41 ∷ b → (args ≡ more) × (a ≡ b)
one_args [] [] a b p q g h same = (refl, append_cancel_left (codes "void)") a b same)
one_args [] ((m, u) ∷ more) a b p q g h same = absurd (no_void m u more (41 ∷ a) (41 ∷ b) same)
one_args ((l, t) ∷ args) [] a b p q g h same = absurd (no_void l t args (41 ∷ b) (41 ∷ a) (sym same))
one_args ((l, t) ∷ args) ((m, u) ∷ more) a b p q g h same =
    let first = one_arg 0 l m t u (more_args_text args ++ 41 ∷ a) (more_args_text more ++ 41 ∷ b) p.0 q.0 (All-head IsArgument (l, t) args g).0 (All-head IsArgument (m, u) more h).0 (sym (append_assoc (arg_text (l, t)) (more_args_text args) (41 ∷ a)) ∙ (same ∙ append_assoc (arg_text (m, u)) (more_args_text more) (41 ∷ b))) in
    let rest = one_more 1 args more a b p.1 q.1 (All-tail IsArgument (l, t) args g) (All-tail IsArgument (m, u) more h) first.2 in
    ((λ k. (first.0 k, first.1 k) ∷ rest.0 k), rest.1)

-- what a function gives
no_void_type : (t : CType) (a b : List ℕ) → codes "void " ++ a ≡ type_text t ++ b → ⊥
no_void_type Unused a b same = let e : ◌≡◌ {A = ℕ} 118 114 = ap (λ s. get_or s 0 0) same in absurd (omega arith)
no_void_type (Scalar name bits) a b same = let e : ◌≡◌ {A = ℕ} 118 114 = ap (λ s. get_or s 0 0) same in absurd (omega arith)
no_void_type (Pointer n) a b same = let e : ◌≡◌ {A = ℕ} 118 115 = ap (λ s. get_or s 0 0) same in absurd (omega arith)

no_pair_type : (t : CType) (a b : List ℕ) → codes "struct r" ++ a ≡ type_text t ++ b → ⊥
no_pair_type Unused a b same = let e : ◌≡◌ {A = ℕ} 115 114 = ap (λ s. get_or s 0 0) same in absurd (omega arith)
no_pair_type (Scalar name bits) a b same = let e : ◌≡◌ {A = ℕ} 115 114 = ap (λ s. get_or s 0 0) same in absurd (omega arith)
no_pair_type (Pointer n) a b same = let e : ◌≡◌ {A = ℕ} 114 115 = ap (λ s. get_or s 7 0) same in absurd (omega arith)

one_returns : (n m : ℕ) (r q : Returns) (a b : List ℕ) → IsNumber n → IsNumber m → IsReturned r → IsReturned q → returns_text n r ++ a ≡ returns_text m q ++ b → (r ≡ q) × (a ≡ b)
one_returns n m Nothing Nothing a b small less g h same = (refl, append_cancel_left (codes "void ") a b same)
one_returns n m Nothing (Value u) a b small less g h same = absurd (no_void_type u a b same)
one_returns n m Nothing Both a b small less g h same = let e : ◌≡◌ {A = ℕ} 118 115 = ap (λ s. get_or s 0 0) same in absurd (omega arith)
one_returns n m (Value t) Nothing a b small less g h same = absurd (no_void_type t b a (sym same))
one_returns n m (Value t) (Value u) a b small less g h same = let parts = one_type t u a b g.0.0 h.0.0 same in ((λ i. Value (parts.0 i)), parts.1)
one_returns n m (Value t) Both a b small less g h same = absurd (no_pair_type t ((decimal m ++ codes " ") ++ b) a (sym same))
one_returns n m Both Nothing a b small less g h same = let e : ◌≡◌ {A = ℕ} 115 118 = ap (λ s. get_or s 0 0) same in absurd (omega arith)
one_returns n m Both (Value u) a b small less g h same = absurd (no_pair_type u ((decimal n ++ codes " ") ++ a) b same)
one_returns n m Both Both a b small less g h same =
    let rest : (decimal n ++ codes " ") ++ a ≡ (decimal m ++ codes " ") ++ b = append_cancel_left (codes "struct r") ((decimal n ++ codes " ") ++ a) ((decimal m ++ codes " ") ++ b) same in
    let parts = one_number n m (codes " " ++ a) (codes " " ++ b) small less refl refl (sym (append_assoc (decimal n) (codes " ") a) ∙ (rest ∙ append_assoc (decimal m) (codes " ") b)) in
    (refl, append_cancel_left (codes " ") a b parts.1)

-- a function's line after what it gives
abbrev pub stated_tail : ℕ → List (Loc × CType) → List ℕ
stated_tail n args = codes "f" ++ (decimal n ++ (codes "(" ++ (args_text args ++ codes ");")))

one_stated : (n m : ℕ) (args more : List (Loc × CType)) → IsNumber n → IsNumber m → AreArgs args → AreArgs more → stated_tail n args ≡ stated_tail m more → (n ≡ m) × (args ≡ more)
one_stated n m args more small less g h same =
    let rest = append_cancel_left (codes "f") _ _ same in
    let parts = one_number n m (codes "(" ++ (args_text args ++ codes ");")) (codes "(" ++ (args_text more ++ codes ");")) small less refl refl rest in
    let all = one_args args more (59 ∷ []) (59 ∷ []) g.places h.places g.types h.types (append_cancel_left (codes "(") _ _ parts.1) in
    (parts.0, all.0)

-- a number before a fixed text
numbered : (front a b : List ℕ) (n m : ℕ) → IsNumber n → IsNumber m → StopsDigits a → StopsDigits b → front ++ (decimal n ++ a) ≡ front ++ (decimal m ++ b) → (n ≡ m) × (a ≡ b)
numbered front a b n m g h s t same = one_number n m a b g h s t (append_cancel_left front (decimal n ++ a) (decimal m ++ b) same)

-- a function's line is none of a struct's
no_stated : (returns : Returns) (n k : ℕ) (a w : List ℕ) → IsNumber n → IsNumber k → IsReturned returns → StopsDigits w → (get_or w 1 0 ≡ 42 → ⊥) → returns_text n returns ++ a ≡ codes "struct s" ++ (decimal k ++ w) → ⊥
no_stated Nothing n k a w small less good stops other same = let e : ◌≡◌ {A = ℕ} 118 115 = ap (λ s. get_or s 0 0) same in absurd (omega arith)
no_stated (Value Unused) n k a w small less good stops other same = absurd good.1
no_stated (Value (Scalar name bits)) n k a w small less good stops other same = let e : ◌≡◌ {A = ℕ} 114 115 = ap (λ s. get_or s 0 0) same in absurd (omega arith)
no_stated (Value (Pointer m)) n k a w small less good stops other same =
    let rest : (decimal m ++ codes " *") ++ a ≡ decimal k ++ w = append_cancel_left (codes "struct s") ((decimal m ++ codes " *") ++ a) (decimal k ++ w) same in
    let parts = one_number m k (codes " *" ++ a) w good.0.0 less refl stops (sym (append_assoc (decimal m) (codes " *") a) ∙ rest) in
    other (ap (λ s. get_or s 1 0) (sym parts.1))
no_stated Both n k a w small less good stops other same = let e : ◌≡◌ {A = ℕ} 114 115 = ap (λ s. get_or s 7 0) same in absurd (omega arith)

no_stated_pair : (returns : Returns) (n k : ℕ) (a : List ℕ) → IsNumber n → IsNumber k → IsReturned returns → get_or a 0 0 ≡ 102 → returns_text n returns ++ a ≡ codes "struct r" ++ (decimal k ++ codes " {") → ⊥
no_stated_pair Nothing n k a small less good begins same = let e : ◌≡◌ {A = ℕ} 118 115 = ap (λ s. get_or s 0 0) same in absurd (omega arith)
no_stated_pair (Value t) n k a small less good begins same = no_pair_type t (decimal k ++ codes " {") a (sym same)
no_stated_pair Both n k a small less good begins same =
    let rest : (decimal n ++ codes " ") ++ a ≡ decimal k ++ codes " {" = append_cancel_left (codes "struct r") ((decimal n ++ codes " ") ++ a) (decimal k ++ codes " {") same in
    let parts = one_number n k (codes " " ++ a) (codes " {") small less refl refl (sym (append_assoc (decimal n) (codes " ") a) ∙ rest) in
    let e : get_or a 0 0 ≡ 123 = ap (λ s. get_or s 1 0) parts.1 in
    absurd (omega arith)

-- lines that begin with spaces
pub no_gap : (t : CType) (a b : List ℕ) → codes "  " ++ (type_text t ++ a) ≡ codes "  unsigned char p" ++ b → ⊥
no_gap Unused a b same = let e : ◌≡◌ {A = ℕ} 114 117 = ap (λ s. get_or s 2 0) same in absurd (omega arith)
no_gap (Scalar name bits) a b same = let e : ◌≡◌ {A = ℕ} 114 117 = ap (λ s. get_or s 2 0) same in absurd (omega arith)
no_gap (Pointer n) a b same = let e : ◌≡◌ {A = ℕ} 115 117 = ap (λ s. get_or s 2 0) same in absurd (omega arith)

pub no_half : (t u : CType) (a b : List ℕ) → IsType t → IsType u → codes "  " ++ (type_text t ++ (codes "m" ++ a)) ≡ codes "  " ++ (type_text u ++ (codes "a" ++ b)) → ⊥
no_half t u a b g h same =
    let parts = one_type t u (codes "m" ++ a) (codes "a" ++ b) g h (append_cancel_left (codes "  ") _ _ same) in
    let e : ◌≡◌ {A = ℕ} 109 97 = ap (λ s. get_or s 0 0) parts.1 in
    absurd (omega arith)

-- lines of types

pub clear_carrier : (bits : ℕ) → IsWidth bits → HasNo 32 (carrier_text bits)
clear_carrier bits (inl e) = rw e (HasNo-above 32 47 (codes "char") (omega arith) (AreAbove-fixed 47 (codes "char") refl))
clear_carrier bits (inr (inl e)) = rw e (HasNo-above 32 47 (codes "short") (omega arith) (AreAbove-fixed 47 (codes "short") refl))
clear_carrier bits (inr (inr e)) = rw e (HasNo-above 32 47 (codes "int") (omega arith) (AreAbove-fixed 47 (codes "int") refl))

abbrev pub typedef_tail : List ℕ → ℕ → List ℕ
typedef_tail name bits = scalar_text name bits ++ codes ";"

pub one_typedef : (t u : CType) → IsTypedef t → IsTypedef u → typedef_text t ≡ typedef_text u → t ≡ u
one_typedef Unused Unused g h same = refl
one_typedef (Pointer n) u g h same = absurd g
one_typedef Unused (Pointer n) g h same = absurd h
one_typedef (Scalar name bits) (Pointer n) g h same = absurd h
one_typedef Unused (Scalar name bits) g h same =
    let rest : codes "int rt_unused;" ≡ carrier_text bits ++ (32 ∷ typedef_tail name bits) = append_cancel_left (codes "typedef unsigned ") (codes "int rt_unused;") (carrier_text bits ++ (32 ∷ typedef_tail name bits)) same in
    let cut = one_cut 32 (codes "int") (codes " rt_unused;") (carrier_text bits) (32 ∷ typedef_tail name bits) rest (HasNo-above 32 47 (codes "int") (omega arith) (AreAbove-fixed 47 (codes "int") refl)) refl (clear_carrier bits h.1) refl in
    absurd (no_unused name bits h.1 (append_cancel_right (codes "rt_unused") (scalar_text name bits) (codes ";") (append_cancel_left (codes " ") (codes "rt_unused;") (typedef_tail name bits) cut.1)))
one_typedef (Scalar name bits) Unused g h same =
    let rest : codes "int rt_unused;" ≡ carrier_text bits ++ (32 ∷ typedef_tail name bits) = append_cancel_left (codes "typedef unsigned ") (codes "int rt_unused;") (carrier_text bits ++ (32 ∷ typedef_tail name bits)) (sym same) in
    let cut = one_cut 32 (codes "int") (codes " rt_unused;") (carrier_text bits) (32 ∷ typedef_tail name bits) rest (HasNo-above 32 47 (codes "int") (omega arith) (AreAbove-fixed 47 (codes "int") refl)) refl (clear_carrier bits g.1) refl in
    absurd (no_unused name bits g.1 (append_cancel_right (codes "rt_unused") (scalar_text name bits) (codes ";") (append_cancel_left (codes " ") (codes "rt_unused;") (typedef_tail name bits) cut.1)))
one_typedef (Scalar name bits) (Scalar other width) g h same =
    let rest : carrier_text bits ++ (32 ∷ typedef_tail name bits) ≡ carrier_text width ++ (32 ∷ typedef_tail other width) = append_cancel_left (codes "typedef unsigned ") (carrier_text bits ++ (32 ∷ typedef_tail name bits)) (carrier_text width ++ (32 ∷ typedef_tail other width)) same in
    let cut = one_cut 32 (carrier_text bits) (32 ∷ typedef_tail name bits) (carrier_text width) (32 ∷ typedef_tail other width) rest (clear_carrier bits g.1) refl (clear_carrier width h.1) refl in
    let tails : typedef_tail name bits ≡ typedef_tail other width = append_cancel_left (codes " ") (typedef_tail name bits) (typedef_tail other width) cut.1 in
    let one = one_scalar name other bits width g.1 h.1 (append_cancel_right (scalar_text name bits) (scalar_text other width) (codes ";") tails) in
    λ i. Scalar (one.0 i) (one.1 i)

-- four groups of lines, told apart by their first bytes
abbrev pub group_of : Row → ℕ
group_of (Typedef t) = 0
group_of (Named n) = 3
group_of (Opened n) = 3
group_of (Gap k n) = 2
group_of (Member field) = 2
group_of Closed = 1
group_of (Pair n) = 3
group_of (Half r t) = 2
group_of (Stated returns n args) = 3

abbrev pub byte_group : ℕ → ℕ
byte_group b = if b == 116 then 0 else if b == 125 then 1 else if b == 32 then 2 else 3

pub row_group : (row : Row) → IsRow row → byte_group (get_or (row_text row) 0 0) ≡ group_of row
row_group (Typedef Unused) good = refl
row_group (Typedef (Scalar name bits)) good = refl
row_group (Typedef (Pointer n)) good = absurd good
row_group (Named n) good = refl
row_group (Opened n) good = refl
row_group (Gap k n) good = refl
row_group (Member field) good = refl
row_group Closed good = refl
row_group (Pair n) good = refl
row_group (Half r t) good = refl
row_group (Stated Nothing n args) good = refl
row_group (Stated (Value Unused) n args) good = refl
row_group (Stated (Value (Scalar name bits)) n args) good = refl
row_group (Stated (Value (Pointer m)) n args) good = refl
row_group (Stated Both n args) good = refl

one_in_group : (q r : Row) → group_of q ≡ group_of r → IsRow q → IsRow r → row_text q ≡ row_text r → q ≡ r
one_in_group (Typedef t) (Typedef u) e g h same = let one : t ≡ u = one_typedef t u g h same in λ i. Typedef (one i)
one_in_group (Typedef t) r e g h same = absurd (omega arith)
one_in_group Closed Closed e g h same = refl
one_in_group Closed r e g h same = absurd (omega arith)
one_in_group (Gap k n) (Gap l m) e g h same =
    let first = numbered (codes "  unsigned char p") (codes "[" ++ (decimal n ++ codes "];")) (codes "[" ++ (decimal m ++ codes "];")) k l g.0 h.0 refl refl same in
    let second = numbered (codes "[") (codes "];") (codes "];") n m g.1 h.1 refl refl first.1 in
    λ i. Gap (first.0 i) (second.0 i)
one_in_group (Gap k n) (Member field) e g h same = absurd (no_gap field.kind _ _ (sym same))
one_in_group (Gap k n) (Half r t) e g h same = absurd (no_gap t _ _ (sym same))
one_in_group (Gap k n) r e g h same = absurd (omega arith)
one_in_group (Member field) (Gap l m) e g h same = absurd (no_gap field.kind _ _ same)
one_in_group (Member field) (Member other) e g h same =
    let kinds = one_type field.kind other.kind (codes "m" ++ (decimal field.offset ++ codes ";")) (codes "m" ++ (decimal other.offset ++ codes ";")) g.0 h.0 (append_cancel_left (codes "  ") _ _ same) in
    let places = numbered (codes "m") (codes ";") (codes ";") field.offset other.offset (omega arith) (omega arith) refl refl kinds.1 in
    λ i. Member (record { offset = places.0 i; kind = kinds.0 i })
one_in_group (Member field) (Half r t) e g h same = absurd (no_half field.kind t _ _ g.0 h.1.0 same)
one_in_group (Member field) r e g h same = absurd (omega arith)
one_in_group (Half r t) (Gap l m) e g h same = absurd (no_gap t _ _ same)
one_in_group (Half r t) (Member field) e g h same = absurd (no_half field.kind t _ _ h.0 g.1.0 (sym same))
one_in_group (Half r t) (Half q u) e g h same =
    let kinds = one_type t u (codes "a" ++ (decimal r ++ codes ";")) (codes "a" ++ (decimal q ++ codes ";")) g.1.0 h.1.0 (append_cancel_left (codes "  ") _ _ same) in
    let places = numbered (codes "a") (codes ";") (codes ";") r q (omega arith) (omega arith) refl refl kinds.1 in
    λ i. Half (places.0 i) (kinds.0 i)
one_in_group (Half r t) q e g h same = absurd (omega arith)
one_in_group (Named n) (Named m) e g h same = let one = numbered (codes "struct s") (codes ";") (codes ";") n m g h refl refl same in λ i. Named (one.0 i)
one_in_group (Named n) (Opened m) e g h same =
    let one = numbered (codes "struct s") (codes ";") (codes " {") n m g h refl refl same in
    let off : ◌≡◌ {A = ℕ} 59 32 = ap (λ s. get_or s 0 0) one.1 in
    absurd (omega arith)
one_in_group (Opened n) (Named m) e g h same =
    let one = numbered (codes "struct s") (codes " {") (codes ";") n m g h refl refl same in
    let off : ◌≡◌ {A = ℕ} 32 59 = ap (λ s. get_or s 0 0) one.1 in
    absurd (omega arith)
one_in_group (Named n) (Pair m) e g h same = let off : ◌≡◌ {A = ℕ} 115 114 = ap (λ s. get_or s 7 0) same in absurd (omega arith)
one_in_group (Pair n) (Named m) e g h same = let off : ◌≡◌ {A = ℕ} 114 115 = ap (λ s. get_or s 7 0) same in absurd (omega arith)
one_in_group (Opened n) (Pair m) e g h same = let off : ◌≡◌ {A = ℕ} 115 114 = ap (λ s. get_or s 7 0) same in absurd (omega arith)
one_in_group (Pair n) (Opened m) e g h same = let off : ◌≡◌ {A = ℕ} 114 115 = ap (λ s. get_or s 7 0) same in absurd (omega arith)
one_in_group (Opened n) (Opened m) e g h same = let one = numbered (codes "struct s") (codes " {") (codes " {") n m g h refl refl same in λ i. Opened (one.0 i)
one_in_group (Pair n) (Pair m) e g h same = let one = numbered (codes "struct r") (codes " {") (codes " {") n m g h refl refl same in λ i. Pair (one.0 i)
one_in_group (Named k) (Stated returns n args) e g h same = absurd (no_stated returns n k (stated_tail n args) (codes ";") h.1 g h.0 refl (λ x. absurd (omega arith)) (sym same))
one_in_group (Stated returns n args) (Named k) e g h same = absurd (no_stated returns n k (stated_tail n args) (codes ";") g.1 h g.0 refl (λ x. absurd (omega arith)) same)
one_in_group (Opened k) (Stated returns n args) e g h same = absurd (no_stated returns n k (stated_tail n args) (codes " {") h.1 g h.0 refl (λ x. absurd (omega arith)) (sym same))
one_in_group (Stated returns n args) (Opened k) e g h same = absurd (no_stated returns n k (stated_tail n args) (codes " {") g.1 h g.0 refl (λ x. absurd (omega arith)) same)
one_in_group (Pair k) (Stated returns n args) e g h same = absurd (no_stated_pair returns n k (stated_tail n args) h.1 g h.0 refl (sym same))
one_in_group (Stated returns n args) (Pair k) e g h same = absurd (no_stated_pair returns n k (stated_tail n args) g.1 h g.0 refl same)
one_in_group (Stated returns n args) (Stated gives m more) e g h same =
    let first = one_returns n m returns gives (stated_tail n args) (stated_tail m more) g.1 h.1 g.0 h.0 same in
    let rest = one_stated n m args more g.1 h.1 g.2 h.2 first.1 in
    λ i. Stated (first.0 i) (rest.0 i) (rest.1 i)
one_in_group (Named n) r e g h same = absurd (omega arith)
one_in_group (Opened n) r e g h same = absurd (omega arith)
one_in_group (Pair n) r e g h same = absurd (omega arith)
one_in_group (Stated returns n args) r e g h same = absurd (omega arith)

-- one text, one line
pub one_row : (q r : Row) → IsRow q → IsRow r → row_text q ≡ row_text r → q ≡ r
one_row q r g h same = one_in_group q r (sym (row_group q g) ∙ (ap (λ s. byte_group (get_or s 0 0)) same ∙ row_group r h)) g h same
