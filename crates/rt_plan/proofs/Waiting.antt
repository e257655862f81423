-- How many callees groups wait for, and which of the groups are ready.
use Rattle.std.proofs.Common.{◌≡◌, ◌≢◌, ℕ, ◌+◌, ◌-◌, ◌<◌, ◌≤◌, ◌==◌, ◌&&◌, ◌⊎◌, inl, inr, Bool, true, false, List, [], ◌∷◌, ◌++◌, length, get_or, set, take, replicate, refl, sym, ap, subst, ◌∙◌, arith}
use Rattle.std.proofs.lemmas.List.{length-set, get_or-set_same, get_or-set_other, set-get_or, get_or_past, get_or_push, get_or_append_left, get_or-replicate, length-replicate, same_lists, get_or_default}
use Rattle.std.proofs.lemmas.List.Sums.{sum_by-take-le}
use Rattle.std.proofs.lemmas.Bool.{cases_eq, cases_lt}
use Rattle.rt_base.proofs.Numbers.{apart, before_or}
use Rattle.rt_plan.specs.declared.event.State.{State}
use Rattle.rt_plan.specs.declared.event.State.TheVariants.{Open}
use Rattle.rt_plan.specs.Plans.{is_open}
use Rattle.rt_plan.specs.Inside.Boards.{AreReady, times}
use Rattle.rt_plan.proofs.Counts.{itself, one, times-more}

and_false : (b t : Bool) → t ≡ false → (b && t) ≡ false
and_false true t e = e
and_false false t e = refl

positive_test : (n : ℕ) → 0 < n → (n == 0) ≡ false
positive_test n h = apart n 0 (λ e. omega arith)

-- a group that waits for some isn't ready
pub waits_not_ready : (states : List State) (left : List ℕ) (ready : List Bool) (g : ℕ) → AreReady states left ready → g < length left → 0 < get_or left g 0 → get_or ready g false ≡ false
waits_not_ready states left ready g is within some = is.readies g within ∙ and_false (is_open (get_or states g Open)) (get_or left g 0 == 0) (positive_test (get_or left g 0) some)

-- what isn't ready and still waits stays so
pub still_waits : (ready : List Bool) (g n : ℕ) (b : Bool) → get_or ready g false ≡ false → 0 < n → ready ≡ set ready g (b && (n == 0))
still_waits ready g n b off some =
    let value : (b && (n == 0)) ≡ get_or ready g false = and_false b (n == 0) (positive_test n some) ∙ sym off in
    sym (set-get_or ready g false) ∙ ap (set ready g) (sym value)

-- One caller more of a group that is published: it still waited for some.
pub release_some : (initial left xs : List ℕ) (i c : ℕ) → i < length xs → c ≡ get_or xs i c → times c xs ≤ get_or initial c 0 → get_or left c 0 + times c (take i xs) ≡ get_or initial c 0 → 0 < get_or left c 0
release_some initial left xs i c less read enough so =
    let more : times c (take (i + 1) xs) ≡ times c (take i xs) + one (get_or xs i c == c) = times-more c xs i c less in
    let here : one (get_or xs i c == c) ≡ 1 = ap (λ k. one (k == c)) (sym read) ∙ ap one (itself c) in
    let part : times c (take (i + 1) xs) ≤ times c xs = sum_by-take-le (λ k. one (k == c)) xs (i + 1) in
    omega arith

pub released_left : (initial left after xs : List ℕ) (i c : ℕ) → i < length xs → c ≡ get_or xs i c → c < length left → 0 < get_or left c 0 → after ≡ set left c (get_or left c 0 - 1) → ((g : ℕ) → get_or left g 0 + times g (take i xs) ≡ get_or initial g 0) → (g : ℕ) → get_or after g 0 + times g (take (i + 1) xs) ≡ get_or initial g 0
released_left initial left after xs i c less read within some is so g =
    let more : times g (take (i + 1) xs) ≡ times g (take i xs) + one (get_or xs i c == g) = times-more g xs i c less in
    let counted : one (get_or xs i c == g) ≡ one (c == g) = ap (λ k. one (k == g)) (sym read) in
    let was = so g in
    elim (cases_eq g c) [
      | inl e ↦
          let here : one (c == g) ≡ 1 = ap (λ k. one (c == k)) e ∙ ap one (itself c) in
          let now : get_or after g 0 ≡ get_or left c 0 - 1 = ap (λ list. get_or list g 0) is ∙ (ap (λ k. get_or (set left c (get_or left c 0 - 1)) k 0) e ∙ get_or-set_same left c (get_or left c 0 - 1) 0 within) in
          let old : get_or left g 0 ≡ get_or left c 0 = ap (λ k. get_or left k 0) e in
          omega arith
      | inr other ↦
          let here : one (c == g) ≡ 0 = ap one (apart c g (λ e. other (sym e))) in
          let now : get_or after g 0 ≡ get_or left g 0 = ap (λ list. get_or list g 0) is ∙ get_or-set_other left c g (get_or left c 0 - 1) 0 other in
          omega arith
    ]

pub released_ready : (states : List State) (left after : List ℕ) (ready ready' : List Bool) (c : ℕ) → AreReady states left ready → c < length left → after ≡ set left c (get_or left c 0 - 1) → ready' ≡ set ready c (is_open (get_or states c Open) && (get_or left c 0 - 1 == 0)) → AreReady states after ready'
released_ready states left after ready ready' c is within now is' =
    let n : length after ≡ length left = ap length now ∙ length-set left c (get_or left c 0 - 1) in
    let each = is.each in
    record {
      each = ap length is' ∙ (length-set ready c (is_open (get_or states c Open) && (get_or left c 0 - 1 == 0)) ∙ (is.each ∙ sym n));
      readies = λ g l. ap (λ list. get_or list g false) is' ∙ (at g (omega arith) (cases_eq g c) ∙ sym (ap (λ list. is_open (get_or states g Open) && (get_or list g 0 == 0)) now));
    }
  where
    at : (g : ℕ) → g < length left → (g ≡ c) ⊎ (g ≢ c) → get_or (set ready c (is_open (get_or states c Open) && (get_or left c 0 - 1 == 0))) g false ≡ (is_open (get_or states g Open) && (get_or (set left c (get_or left c 0 - 1)) g 0 == 0))
    at g l (inl e) =
        let each = is.each in
        subst (λ k. get_or (set ready c (is_open (get_or states c Open) && (get_or left c 0 - 1 == 0))) k false ≡ (is_open (get_or states k Open) && (get_or (set left c (get_or left c 0 - 1)) k 0 == 0))) (sym e)
        (get_or-set_same ready c (is_open (get_or states c Open) && (get_or left c 0 - 1 == 0)) false (omega arith) ∙ sym (ap (λ n. is_open (get_or states c Open) && (n == 0)) (get_or-set_same left c (get_or left c 0 - 1) 0 within)))
    at g l (inr other) =
        get_or-set_other ready c g (is_open (get_or states c Open) && (get_or left c 0 - 1 == 0)) false other ∙ (is.readies g l ∙ sym (ap (λ n. is_open (get_or states g Open) && (n == 0)) (get_or-set_other left c g (get_or left c 0 - 1) 0 other)))

-- One length more.
pub lengths_more : (callees : List (List ℕ)) (left after : List ℕ) (i n : ℕ) → length left ≡ i → n ≡ length (get_or callees i []) → after ≡ left ++ n ∷ [] → ((g : ℕ) → g < i → get_or left g 0 ≡ length (get_or callees g [])) → (g : ℕ) → g < i + 1 → get_or after g 0 ≡ length (get_or callees g [])
lengths_more callees left after i n count is now so g less = ap (λ list. get_or list g 0) now ∙ by (before_or i g less)
  where
    by : (g < i) ⊎ (g ≡ i) → get_or (left ++ n ∷ []) g 0 ≡ length (get_or callees g [])
    by (inl before) = get_or_append_left left (n ∷ []) 0 g (omega arith) ∙ so g before
    by (inr e) = get_or_push left n 0 g (count ∙ sym e) ∙ (is ∙ ap (λ k. length (get_or callees k [])) (sym e))

pub lengths_all : (callees : List (List ℕ)) (left : List ℕ) (n : ℕ) → length left ≡ n → length callees ≤ n → ((g : ℕ) → g < n → get_or left g 0 ≡ length (get_or callees g [])) → (g : ℕ) → get_or left g 0 ≡ length (get_or callees g [])
lengths_all callees left n count all so g = elim (cases_lt g n) [
  | inl less ↦ so g less
  | inr past ↦ get_or_past left g 0 (omega arith) ∙ sym (ap length (get_or_past callees g [] (omega arith)))
]

-- One flag more.
pub flags_more : (flags after : List Bool) (wanted : ℕ → Bool) (i : ℕ) (b : Bool) → i < length flags → after ≡ set flags i b → b ≡ wanted i → ((k : ℕ) → k < i → get_or flags k false ≡ wanted k) → (k : ℕ) → k < i + 1 → get_or after k false ≡ wanted k
flags_more flags after wanted i b within now is so k less = ap (λ list. get_or list k false) now ∙ by (before_or i k less)
  where
    by : (k < i) ⊎ (k ≡ i) → get_or (set flags i b) k false ≡ wanted k
    by (inl before) = get_or-set_other flags i k b false (λ e. absurd (omega arith)) ∙ so k before
    by (inr e) = ap (λ j. get_or (set flags i b) j false) e ∙ (get_or-set_same flags i b false within ∙ (is ∙ ap wanted (sym e)))

pub all_flags : (flags : List Bool) (n : ℕ) → length flags ≡ n → ((k : ℕ) → k < n → get_or flags k false ≡ true) → flags ≡ replicate n true
all_flags flags n count so = same_lists flags (replicate n true) (count ∙ sym (length-replicate n true)) (λ k d h. get_or_default flags k d false h ∙ (so k (omega arith) ∙ sym (get_or-replicate n k true d (omega arith))))
