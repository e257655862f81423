-- Who calls whom: lists of callers, and what notes one more.
use Rattle.std.proofs.Common.{◌≡◌, ℕ, ◌+◌, ◌<◌, ◌≤◌, ◌==◌, inl, inr, Bool, true, false, cond, nat_lt, List, [], ◌∷◌, ◌++◌, All, length, get_or, set, take, replicate, refl, sym, ap, subst, ◌∙◌, arith}
use Rattle.std.proofs.lemmas.List.{get_or-set_same, get_or-set_other, get_or_past, get_or-replicate, length-replicate}
use Rattle.std.proofs.lemmas.Bool.{cases_eq, cases_lt}
use Rattle.std.proofs.lemmas.Bool.Decides.{nat_tests}
use Rattle.rt_base.proofs.Lists.{All-from_contains}
use Rattle.rt_base.proofs.Numbers.{apart}
use Rattle.rt_plan.specs.Inside.Boards.{AreCallers, times}
use Rattle.rt_plan.proofs.Counts.{itself, one, times-contains, times-more, times-push}

-- what is noted when a group is put into the list of one that it calls
pub noted : (callers : List (List ℕ)) (c group : ℕ) → c < length callers → (g h : ℕ) → times g (get_or (set callers c (get_or callers c [] ++ group ∷ [])) h []) ≡ times g (get_or callers h []) + cond (g == group) (one (c == h)) 0
noted callers c group within g h = elim (cases_eq h c) [
  | inl e ↦
      let read : get_or (set callers c (get_or callers c [] ++ group ∷ [])) h [] ≡ get_or callers c [] ++ group ∷ [] = ap (λ k. get_or (set callers c (get_or callers c [] ++ group ∷ [])) k []) e ∙ get_or-set_same callers c (get_or callers c [] ++ group ∷ []) [] within in
      let push = times-push g (get_or callers c []) group in
      let was : times g (get_or callers h []) ≡ times g (get_or callers c []) = ap (λ k. times g (get_or callers k [])) e in
      let now : times g (get_or (set callers c (get_or callers c [] ++ group ∷ [])) h []) ≡ times g (get_or callers c [] ++ group ∷ []) = ap (times g) read in
      let here : one (c == h) ≡ 1 = ap (λ k. one (c == k)) e ∙ ap one (itself c) in
      let same = turned g group in
      let right : cond (g == group) (one (c == h)) 0 ≡ cond (g == group) 1 0 = ap (λ n. cond (g == group) n 0) here in
      omega arith
  | inr other ↦
      let read : get_or (set callers c (get_or callers c [] ++ group ∷ [])) h [] ≡ get_or callers h [] = get_or-set_other callers c h (get_or callers c [] ++ group ∷ []) [] other in
      let now : times g (get_or (set callers c (get_or callers c [] ++ group ∷ [])) h []) ≡ times g (get_or callers h []) = ap (times g) read in
      let apart : one (c == h) ≡ 0 = ap one (apart c h (λ e. other (sym e))) in
      let right : cond (g == group) (one (c == h)) 0 ≡ 0 = ap (λ n. cond (g == group) n 0) apart ∙ none (g == group) in
      omega arith
]
  where
    none : (b : Bool) → ◌≡◌ {A = ℕ} (cond b 0 0) 0
    none true = refl
    none false = refl

    turned : (a b : ℕ) → one (b == a) ≡ cond (a == b) 1 0
    turned a b = elim (cases_eq a b) [
      | inl e ↦ ap (λ k. one (b == k)) e ∙ sym (ap (λ k. cond (k == b) 1 0) e)
      | inr other ↦ ap one (apart b a (λ e. other (sym e))) ∙ sym (ap (λ t. cond t 1 0) (apart a b other))
    ]

-- one callee more of those that note a group
pub noted_more : (before now after : List (List ℕ)) (xs : List ℕ) (i c group : ℕ) → i < length xs → c ≡ get_or xs i c → c < length now → after ≡ set now c (get_or now c [] ++ group ∷ []) → ((g h : ℕ) → times g (get_or now h []) ≡ times g (get_or before h []) + cond (g == group) (times h (take i xs)) 0) → (g h : ℕ) → times g (get_or after h []) ≡ times g (get_or before h []) + cond (g == group) (times h (take (i + 1) xs)) 0
noted_more before now after xs i c group less read within is so g h = by (g == group) refl
  where
    by : (b : Bool) → (g == group) ≡ b → times g (get_or after h []) ≡ times g (get_or before h []) + cond b (times h (take (i + 1) xs)) 0
    by b e =
        let step : times g (get_or after h []) ≡ times g (get_or now h []) + cond b (one (c == h)) 0 = ap (λ lists. times g (get_or lists h [])) is ∙ (noted now c group within g h ∙ ap (λ t. times g (get_or now h []) + cond t (one (c == h)) 0) e) in
        let was : times g (get_or now h []) ≡ times g (get_or before h []) + cond b (times h (take i xs)) 0 = so g h ∙ ap (λ t. times g (get_or before h []) + cond t (times h (take i xs)) 0) e in
        let more : times h (take (i + 1) xs) ≡ times h (take i xs) + one (c == h) = times-more h xs i c less ∙ ap (λ k. times h (take i xs) + one (k == h)) (sym read) in
        add b step was more
      where
        add : (b : Bool) → times g (get_or after h []) ≡ times g (get_or now h []) + cond b (one (c == h)) 0 → times g (get_or now h []) ≡ times g (get_or before h []) + cond b (times h (take i xs)) 0 → times h (take (i + 1) xs) ≡ times h (take i xs) + one (c == h) → times g (get_or after h []) ≡ times g (get_or before h []) + cond b (times h (take (i + 1) xs)) 0
        add true step was more = omega arith
        add false step was more = omega arith

below_test : (g n : ℕ) → g < n → nat_lt g n ≡ true
below_test g n h = grind (arith, nat_tests)

above_test : (g n : ℕ) → n ≤ g → nat_lt g n ≡ false
above_test g n h = grind (arith, nat_tests)

-- One group more has noted its callees.
pub called_more : (callees now after : List (List ℕ)) (i : ℕ) → ((g c : ℕ) → times g (get_or now c []) ≡ cond (nat_lt g i) (times c (get_or callees g [])) 0) → ((g c : ℕ) → times g (get_or after c []) ≡ times g (get_or now c []) + cond (g == i) (times c (get_or callees i [])) 0) → (g c : ℕ) → times g (get_or after c []) ≡ cond (nat_lt g (i + 1)) (times c (get_or callees g [])) 0
called_more callees now after i so more g c = elim (cases_eq g i) [
  | inl e ↦
      let here : (g == i) ≡ true = ap (λ k. k == i) e ∙ itself i in
      let not_before : nat_lt g i ≡ false = above_test g i (omega arith) in
      let now_before : nat_lt g (i + 1) ≡ true = below_test g (i + 1) (omega arith) in
      let a : times g (get_or now c []) ≡ 0 = so g c ∙ ap (λ b. cond b (times c (get_or callees g [])) 0) not_before in
      let b : times g (get_or after c []) ≡ times g (get_or now c []) + times c (get_or callees i []) = more g c ∙ ap (λ b. times g (get_or now c []) + cond b (times c (get_or callees i [])) 0) here in
      let d : cond (nat_lt g (i + 1)) (times c (get_or callees g [])) 0 ≡ times c (get_or callees i []) = ap (λ b. cond b (times c (get_or callees g [])) 0) now_before ∙ ap (λ k. times c (get_or callees k [])) e in
      omega arith
  | inr other ↦
      let elsewhere : (g == i) ≡ false = apart g i other in
      let same : nat_lt g (i + 1) ≡ nat_lt g i = elim (cases_lt g i) [
        | inl less ↦ below_test g (i + 1) (omega arith) ∙ sym (below_test g i less)
        | inr past ↦ above_test g (i + 1) (omega arith) ∙ sym (above_test g i past)
      ] in
      let b : times g (get_or after c []) ≡ times g (get_or now c []) + 0 = more g c ∙ ap (λ b. times g (get_or now c []) + cond b (times c (get_or callees i [])) 0) elsewhere in
      let d : cond (nat_lt g (i + 1)) (times c (get_or callees g [])) 0 ≡ cond (nat_lt g i) (times c (get_or callees g [])) 0 = ap (λ b. cond b (times c (get_or callees g [])) 0) same in
      let a = so g c in
      omega arith
]

-- nobody has noted any
pub called_none : (callees : List (List ℕ)) (n : ℕ) (g c : ℕ) → times g (get_or (replicate n []) c []) ≡ cond (nat_lt g 0) (times c (get_or callees g [])) 0
called_none callees n g c =
    let empty : ◌≡◌ {A = List ℕ} (get_or (replicate n []) c []) [] = elim (cases_lt c n) [
      | inl less ↦ get_or-replicate {A = List ℕ} n c [] [] less
      | inr past ↦ get_or_past (replicate n []) c [] (subst (λ m. m ≤ c) (sym (length-replicate {A = List ℕ} n [])) past)
    ] in
    let never : nat_lt g 0 ≡ false = above_test g 0 (omega arith) in
    ap (times g) empty ∙ sym (ap (λ b. cond b (times c (get_or callees g [])) 0) never)

-- each has noted its own
pub called_all : (callees callers : List (List ℕ)) (n : ℕ) → length callees ≤ n → ((g c : ℕ) → times g (get_or callers c []) ≡ cond (nat_lt g n) (times c (get_or callees g [])) 0) → (g c : ℕ) → times g (get_or callers c []) ≡ times c (get_or callees g [])
called_all callees callers n all so g c = elim (cases_lt g n) [
  | inl less ↦ let is : nat_lt g n ≡ true = below_test g n less in so g c ∙ ap (λ b. cond b (times c (get_or callees g [])) 0) is
  | inr past ↦
      let is : nat_lt g n ≡ false = above_test g n past in
      so g c ∙ (ap (λ b. cond b (times c (get_or callees g [])) 0) is ∙ sym (ap (times c) (get_or_past callees g [] (omega arith))))
]

-- who calls is one of the groups
pub callers_within : (callees callers : List (List ℕ)) → AreCallers callees callers → (c : ℕ) → All (λ g. g < length callees) (get_or callers c [])
callers_within callees callers is c = All-from_contains (λ g. g < length callees) (get_or callers c []) (λ g has. elim (cases_lt g (length callees)) [
  | inl less ↦ less
  | inr past ↦
      let some = times-contains g (get_or callers c []) has in
      let e : times g (get_or callers c []) ≡ times c [] = is.called g c ∙ ap (times c) (get_or_past callees g [] past) in
      absurd (omega arith)
])
