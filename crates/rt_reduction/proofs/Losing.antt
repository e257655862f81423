-- Where something is left to do, a round loses an existential.
use Rattle.std.proofs.Common.{◌≡◌, ◌≢◌, ℕ, ◌⊎◌, inl, inr, List, ◌++◌, ◌∷◌, Contains, Bool, true, false, cond, ◌||◌, map}
use Rattle.std.proofs.Common.{refl, sym, ap, subst, ◌∙◌}
use Rattle.std.proofs.lemmas.List.Elements.{Contains-append_cases}
use Rattle.rt_lines.specs.declared.label.Variance.{Variance}
use Rattle.rt_lines.specs.declared.label.Variance.TheVariants.{Co, Contra}
use Rattle.rt_lines.specs.declared.variable.Base.{Base}
use Rattle.rt_lines.specs.declared.variable.Base.TheVariants.{Exist}
use Rattle.rt_lines.specs.declared.variable.Dtv.{Dtv}
use Rattle.rt_lines.specs.declared.line.Line.{Line}
use Rattle.rt_lines.specs.declared.line.Line.TheVariants.{Var, Same, Sub, Low, Up}
use Rattle.rt_lines.specs.Equality.{variable_eq}
use Rattle.rt_lines.specs.Orders.{Below}
use Rattle.rt_lines.proofs.Deduplicating.{deduplicated-source}
use Rattle.rt_rules.specs.Rules.{HasSide, Derivable}
use Rattle.rt_rules.specs.Rules.Derivable.{named, prefix, left_side, right_side, same_letter, same_line, same_sub, same_self, same_back}
use Rattle.rt_rules.specs.Rules.Derivable.{same_chain, same_longer, sub_line, sub_self, sub_chain, sub_co, sub_contra, sub_pointer}
use Rattle.rt_rules.specs.Rules.Derivable.{low_line, up_line, low_sub, up_sub}
use Rattle.rt_rules.specs.Laws.{NamesBase}
use Rattle.rt_rules.specs.Put.{put_lines, HasUse}
use Rattle.rt_rules.specs.Reduced.{Joins, IsJoined}
use Rattle.rt_rules.specs.Reduced.IsJoined.{joined_self, joined_line}
use Rattle.rt_refine.specs.Refinements.{refined}
use Rattle.rt_twins.specs.Twinnings.{IsTwinning}
use Rattle.rt_twins.proofs.OneTwinning.{twinned_loses_lem}
use Rattle.rt_polar.specs.Polar.{HasCandidate}
use Rattle.rt_polar.specs.Puts.{Exchanges, Puts}
use Rattle.rt_polar.specs.Puts.Exchanges.{goes, exists_still}
use Rattle.rt_polar.specs.Puts.Puts.{none_left, puts}
use Rattle.rt_polar.specs.Tidied.{tidied, without_self}
use Rattle.rt_polar.proofs.Exchanging.{candidate_only}
use Rattle.rt_polar.proofs.OneAnswer.{left_none}
use Rattle.rt_reduction.specs.Simplifies.{HasNoTwins, Simplifies, simple, twins_go}
use Rattle.rt_reduction.specs.Emits.{AreOfScheme, flow_lines, first_side, IsShapeLine, IsAnchored, IsEmitted}
use Rattle.rt_trim.specs.Idle.{is_idle, trimmed, trimmed_line}
use Rattle.rt_reduction.specs.Rounds.{Prepares, prepared, Refines, trims, IsUnfinished, of_candidate, of_twins, of_unused, of_unjoined}
use Rattle.rt_reduction.specs.Laws.{RoundNamesLaw, RoundLosesLaw, SimplifiesRestLaw}
use Rattle.rt_reduction.proofs.Simplifying.{twinned_lines}
use Rattle.rt_reduction.proofs.Flow.{flow_source}
use Rattle.rt_reduction.proofs.Anchoring.{keep_source}
use Rattle.rt_reduction.proofs.Emitting.{emits_used_lem, emits_joined_lem}
use Rattle.rt_reduction.proofs.Refined.{names_refines, refines_lose}
use Rattle.rt_reduction.proofs.Prepared.{names_prepares, names_round, names_trimmed, from_prepares}
use Rattle.rt_reduction.proofs.FromSides.{from_scheme}
use Rattle.rt_reduction.proofs.Tidying.{tidied_twice}
use Rattle.rt_reduction.proofs.NamesFrom.{NamesFrom, Loses, named_from, names_chain, names_tidied, put_source}
use Rattle.rt_reduction.proofs.NamesFrom.{cut_own, names_puts, names_simple, names_emitted, names_after}
use Rattle.rt_base.proofs.Lists.{Contains-map_source, Contains-middle_cases}

pub round_names_lem : RoundNamesLaw
round_names_lem order lines after r b names = named_from lines after (names_round order lines after r) b names

pub loses_before : (first second third : List Line) → Loses first second → NamesFrom second third → Loses first third
loses_before first second third (n, names, gone) from = (n, names, λ h. gone (named_from second third from (Exist n) h))

pub loses_after : (first second third : List Line) → NamesFrom first second → Loses second third → Loses first third
loses_after first second third from (n, names, gone) = (n, named_from first second from (Exist n) names, gone)

put_gone : (lines : List Line) (n : ℕ) (z : Dtv) → z.base ≢ Exist n → NamesBase (tidied (put_lines n z lines)) (Exist n) → ⊥
put_gone lines n z other names =
    by (named_from (put_lines n z lines) (tidied (put_lines n z lines)) (names_tidied (put_lines n z lines)) (Exist n) names)
  where
    at : (x : Dtv) → x.base ≡ Exist n → (x.base ≡ z.base) ⊎ ((x.base ≢ Exist n) × NamesBase lines x.base) → ⊥
    at x e (inl f) = other (sym f ∙ e)
    at x e (inr (apart, more)) = apart e

    by : NamesBase (put_lines n z lines) (Exist n) → ⊥
    by (l, x, c, h, e) = at x e (put_source lines n z x (l, c, h))

pub exchange_loses : (n : ℕ) (lines after : List Line) → Exchanges n lines after → Loses lines after
exchange_loses n lines _ (goes sign place left z before after is cut names) =
    (n, cut_own lines before after sign n z cut, put_gone (before ++ after) n z (candidate_only is).other_base)
exchange_loses n lines _ (exists_still sign place left z before after is cut unnamed) = (n, cut_own lines before after sign n z cut, gone)
  where
    at : (x : Dtv) (l : Line) → HasSide l x → x.base ≡ Exist n → (Var z ≡ l) ⊎ Contains (before ++ after) l → ⊥
    at x l h e (inl f) = let g : z ≡ x = subst (λ m. HasSide m x) (sym f) h in (candidate_only is).other_base (ap (λ v. v.base) g ∙ e)
    at x l h e (inr d) = unnamed (l, x, d, h, e)

    by : NamesBase (before ++ Var z ∷ after) (Exist n) → ⊥
    by (l, x, c, h, e) = at x l h e (Contains-middle_cases before (Var z) after l c)

    gone : NamesBase (tidied (before ++ Var z ∷ after)) (Exist n) → ⊥
    gone names = by (named_from (before ++ Var z ∷ after) (tidied (before ++ Var z ∷ after)) (names_tidied (before ++ Var z ∷ after))
        (Exist n) names)

-- putting changes nothing, or loses an existential
pub puts_lose : (left start : List Line) → Puts left start → (start ≡ left) ⊎ Loses start left
puts_lose left start (none_left none) = inl refl
puts_lose left start (puts n now between least exchanged rest) =
    inr (loses_before now between left (exchange_loses n now between exchanged) (names_puts left between rest))

pub twins_lose : (sign : Variance) (lines : List Line) (class : ℕ → ℕ) (w : ℕ) → IsTwinning sign lines class → class w ≢ w
    → Loses lines (twinned_lines class lines)
twins_lose sign lines class w is apart =
    let (names, gone) = twinned_loses_lem sign lines class w is apart in
    (w, names, λ h. gone (named_from (refined class lines) (twinned_lines class lines) (names_tidied (refined class lines)) (Exist w) h))

-- so does simplifying, and where it changes nothing there are no candidates and no twins
pub record IsSimple (lines : List Line) : Type 0 where
  pub no_candidate : (n : ℕ) → HasCandidate n lines → ⊥
  pub no_twins : (sign : Variance) → HasNoTwins sign lines

pub no_twins_at : (lines : List Line) → HasNoTwins Co lines → HasNoTwins Contra lines → (sign : Variance) → HasNoTwins sign lines
no_twins_at lines a b Co = a
no_twins_at lines a b Contra = b

pub simple_loses : (left start : List Line) → Simplifies left start → ((start ≡ left) × IsSimple left) ⊎ Loses start left
simple_loses left start (simple _ p none none') = by (puts_lose left start p)
  where
    by : (start ≡ left) ⊎ Loses start left → ((start ≡ left) × IsSimple left) ⊎ Loses start left
    by (inl e) = inl (e, record { no_candidate = left_none left start p; no_twins = no_twins_at left none none' })
    by (inr h) = inr h
simple_loses left start (twins_go _ between sign class w p turn c apart rest) =
    inr (loses_after start between left (names_puts between start p)
    (loses_before between (twinned_lines class between) left (twins_lose sign between class w c.twins apart)
    (names_simple left (twinned_lines class between) rest)))

-- what is left has neither
left_simple : (left start : List Line) → Simplifies left start → IsSimple left
left_simple left start (simple _ p none none') = record {
  no_candidate = left_none left start p;
  no_twins = no_twins_at left none none';
}
left_simple left start (twins_go _ between sign class w p turn c apart rest) = left_simple left (twinned_lines class between) rest

pub simplifies_rest_lem : SimplifiesRestLaw
simplifies_rest_lem lines left s = let is : IsSimple left = left_simple left lines s in (is.no_candidate, is.no_twins)

-- variables of one shape are joined
module _ (order : Below) (lines : List Line) where
  pub chain_on : {a b c : Base} → IsJoined lines a b → IsJoined lines b c → IsJoined lines a c
  chain_on joined_self k = k
  chain_on (joined_line l c j rest) k = joined_line l c j (chain_on rest k)

  pub back_joins : (l : Line) (a b : Base) → Joins l a b → Joins l b a
  back_joins (Var x) a b j = j
  back_joins (Same x y) a b (inl (e, f)) = inr (e, f)
  back_joins (Same x y) a b (inr (e, f)) = inl (e, f)
  back_joins (Sub x y) a b (inl (e, f)) = inr (e, f)
  back_joins (Sub x y) a b (inr (e, f)) = inl (e, f)
  back_joins (Low k x) a b j = j
  back_joins (Up x k) a b j = j

  pub chain_back : {a b : Base} → IsJoined lines a b → IsJoined lines b a
  chain_back joined_self = joined_self
  chain_back (joined_line {a = a} {b = m} l c j rest) = chain_on (chain_back rest) (joined_line l c (back_joins l a m j) joined_self)

  abbrev AreJoined : Line → Type 0
  AreJoined (Var x) = Unit {0}
  AreJoined (Same x y) = IsJoined lines x.base y.base
  AreJoined (Sub x y) = IsJoined lines x.base y.base
  AreJoined (Low k x) = Unit {0}
  AreJoined (Up x k) = Unit {0}

  pub are_joined : {j : Line} → Derivable order lines j → AreJoined j
  are_joined (named (Var y) c h) = tt
  are_joined (named (Same y z) c h) = tt
  are_joined (named (Sub y z) c h) = tt
  are_joined (named (Low k y) c h) = tt
  are_joined (named (Up y k) c h) = tt
  are_joined (prefix l d) = tt
  are_joined (left_side d) = tt
  are_joined (right_side d) = tt
  are_joined (same_letter l d e) = tt
  are_joined (same_line {x = x} {y = y} c) = joined_line (Same x y) c (inl (refl, refl)) joined_self
  are_joined (same_sub d) = are_joined d
  are_joined (same_self d) = joined_self
  are_joined (same_back d) = chain_back (are_joined d)
  are_joined (same_chain d e) = chain_on (are_joined d) (are_joined e)
  are_joined (same_longer l d e) = are_joined d
  are_joined (sub_line {x = x} {y = y} c) = joined_line (Sub x y) c (inl (refl, refl)) joined_self
  are_joined (sub_self d) = joined_self
  are_joined (sub_chain d e) = chain_on (are_joined d) (are_joined e)
  are_joined (sub_co l d e h) = are_joined d
  are_joined (sub_contra l d e h) = chain_back (are_joined d)
  are_joined (sub_pointer x d e) = joined_self
  are_joined (low_line c) = tt
  are_joined (up_line c) = tt
  are_joined (low_sub d e a) = tt
  are_joined (up_sub d e a) = tt

  module _ (emitted : List Line) (em : IsEmitted order lines emitted) where
    source : (l : Line) → Contains emitted l → Contains (flow_lines lines) l ⊎ Contains em.shape l
    source l c = Contains-append_cases (flow_lines lines) em.shape l
        (keep_source (λ k. IsAnchored (flow_lines lines ++ em.shape) (first_side k).base) em.joined l c).0

    shape_joins : (x y : Dtv) (t : Bool) (a b : Base) → Derivable order lines (Same x y) → Joins (cond t (Var x) (Same x y)) a b
        → IsJoined lines a b
    shape_joins x y true a b d j = absurd j
    shape_joins x y false a b d (inl (e, f)) = subst (λ c. IsJoined lines c b) e (subst (IsJoined lines x.base) f (are_joined d))
    shape_joins x y false a b d (inr (e, f)) =
        chain_back (subst (λ c. IsJoined lines c a) e (subst (IsJoined lines x.base) f (are_joined d)))

    emitted_joins : (l : Line) (a b : Base) → Joins l a b → Contains (flow_lines lines) l ⊎ Contains em.shape l → IsJoined lines a b
    emitted_joins l a b j (inl c) = joined_line l (flow_source lines l c).0 j joined_self
    emitted_joins l a b j (inr c) =
        let s : IsShapeLine order lines l = (em.are_shape.each l).0 c in
        shape_joins s.variable s.word (variable_eq s.variable s.word) a b s.one_shape (subst (λ k. Joins k a b) s.line j)

    emitted_chain : {a b : Base} → IsJoined emitted a b → IsJoined lines a b
    emitted_chain joined_self = joined_self
    emitted_chain (joined_line {a = a} {b = m} l c j rest) = chain_on (emitted_joins l a m j (source l c)) (emitted_chain rest)

    shape_no_use : (sign : Variance) (n : ℕ) (x y : Dtv) (t : Bool) → HasUse sign n (cond t (Var x) (Same x y)) → ⊥
    shape_no_use sign n x y true u = u
    shape_no_use sign n x y false u = u

    use_stood : (sign : Variance) (n : ℕ) (l : Line) → HasUse sign n l → Contains (flow_lines lines) l ⊎ Contains em.shape l
        → Contains lines l
    use_stood sign n l u (inl c) = (flow_source lines l c).0
    use_stood sign n l u (inr c) =
        let s : IsShapeLine order lines l = (em.are_shape.each l).0 c in
        absurd (shape_no_use sign n s.variable s.word (variable_eq s.variable s.word) (subst (HasUse sign n) s.line u))

    unused_gone : AreOfScheme lines → (n : ℕ) → ((l : Line) → Contains lines l → HasUse Co n l ⊎ HasUse Contra n l → ⊥)
        → NamesBase emitted (Exist n) → ⊥
    unused_gone scheme n unused names = by (emits_used_lem order lines emitted scheme em n names)
      where
        by : (l : Line) × Contains emitted l × (HasUse Co n l ⊎ HasUse Contra n l) → ⊥
        by (l, c, inl u) = unused l (use_stood Co n l u (source l c)) (inl u)
        by (l, c, inr u) = unused l (use_stood Contra n l u (source l c)) (inr u)

    unjoined_gone : (n : ℕ) → (IsAnchored lines (Exist n) → ⊥) → NamesBase emitted (Exist n) → ⊥
    unjoined_gone n unjoined names = let r : IsAnchored emitted (Exist n) =
        emits_joined_lem order lines emitted em n names in unjoined (r.0, r.1, emitted_chain r.2)

-- uses and what is joined of a line are so of another one
abbrev IsWeaker : Line → Line → Type 0
IsWeaker k l = ((sign : Variance) (n : ℕ) → HasUse sign n k → HasUse sign n l) × ((a b : Base) → Joins k a b → Joins l a b)

is_weaker_self : (l : Line) → IsWeaker l l
is_weaker_self l = (λ sign n u. u, λ a b j. j)

weaker_shape : (t : Bool) (x y : Dtv) → IsWeaker (cond t (Same x y) (Sub x y)) (Sub x y)
weaker_shape true x y = (λ sign n u. absurd u, λ a b j. j)
weaker_shape false x y = is_weaker_self (Sub x y)

weaker_trimmed : (idle : ℕ → Bool) (l : Line) → IsWeaker (trimmed_line idle l) l
weaker_trimmed idle (Var x) = is_weaker_self (Var x)
weaker_trimmed idle (Same x y) = is_weaker_self (Same x y)
weaker_trimmed idle (Sub x y) = weaker_shape (is_idle idle x.base || is_idle idle y.base) x y
weaker_trimmed idle (Low k x) = by (is_idle idle x.base)
  where
    by : (t : Bool) → IsWeaker (cond t (Var x) (Low k x)) (Low k x)
    by true = (λ sign n u. absurd u, λ a b j. absurd j)
    by false = is_weaker_self (Low k x)
weaker_trimmed idle (Up x k) = by (is_idle idle x.base)
  where
    by : (t : Bool) → IsWeaker (cond t (Var x) (Up x k)) (Up x k)
    by true = (λ sign n u. absurd u, λ a b j. absurd j)
    by false = is_weaker_self (Up x k)

weaker_plain : (l : Line) → IsWeaker (without_self l) l
weaker_plain (Var x) = is_weaker_self (Var x)
weaker_plain (Same x y) = by (variable_eq x y)
  where
    by : (t : Bool) → IsWeaker (cond t (Var x) (Same x y)) (Same x y)
    by true = (λ sign n u. absurd u, λ a b j. absurd j)
    by false = is_weaker_self (Same x y)
weaker_plain (Sub x y) = by (variable_eq x y)
  where
    by : (t : Bool) → IsWeaker (cond t (Var x) (Sub x y)) (Sub x y)
    by true = (λ sign n u. absurd u, λ a b j. absurd j)
    by false = is_weaker_self (Sub x y)
weaker_plain (Low k x) = is_weaker_self (Low k x)
weaker_plain (Up x k) = is_weaker_self (Up x k)

-- each line is so of one of others
abbrev AreWeaker : List Line → List Line → Type 0
AreWeaker lines after = (k : Line) → Contains after k → (l : Line) × Contains lines l × IsWeaker k l

weaker_mapped : (f : Line → Line) → ((l : Line) → IsWeaker (f l) l) → (lines : List Line) → AreWeaker lines (map f lines)
weaker_mapped f is lines k c =
    let s : (l : Line) × Contains lines l × (f l ≡ k) = Contains-map_source f lines k c in
    (s.0, s.1, subst (λ m. IsWeaker m s.0) s.2 (is s.0))

weaker_chain : (first second third : List Line) → AreWeaker first second → AreWeaker second third → AreWeaker first third
weaker_chain first second third a b k c =
    let s : (l : Line) × Contains second l × IsWeaker k l = b k c in
    let t : (l : Line) × Contains first l × IsWeaker s.0 l = a s.0 s.1 in
    (t.0, t.1, (λ sign n u. t.2.0 sign n (s.2.0 sign n u), λ x y j. t.2.1 x y (s.2.1 x y j)))

weaker_tidied : (lines : List Line) → AreWeaker lines (tidied lines)
weaker_tidied lines k c =
    weaker_mapped without_self weaker_plain lines k (deduplicated-source (map without_self lines) k c)

weaker_next : (idle : ℕ → Bool) (lines : List Line) → AreWeaker lines (tidied (trimmed idle lines))
weaker_next idle lines =
    weaker_chain lines (trimmed idle lines) (tidied (trimmed idle lines))
    (weaker_mapped (trimmed_line idle) (weaker_trimmed idle) lines) (weaker_tidied (trimmed idle lines))

-- an existential without a use, or that no chain joins to a procedure or a global
abbrev IsLeftover : List Line → ℕ → Type 0
IsLeftover lines n = ((l : Line) → Contains lines l → HasUse Co n l ⊎ HasUse Contra n l → ⊥) ⊎ (IsAnchored lines (Exist n) → ⊥)

weaker_joined : (lines after : List Line) → AreWeaker lines after → {a b : Base} → IsJoined after a b → IsJoined lines a b
weaker_joined lines after are joined_self = joined_self
weaker_joined lines after are (joined_line {a = a} {b = m} l c j rest) =
    let s : (k : Line) × Contains lines k × IsWeaker l k = are l c in
    joined_line s.0 s.1 (s.2.1 a m j) (weaker_joined lines after are rest)

leftover_on : (lines after : List Line) → AreWeaker lines after → (n : ℕ) → IsLeftover lines n → IsLeftover after n
leftover_on lines after are n (inl unused) = inl unused_on
  where
    unused_on : (k : Line) → Contains after k → HasUse Co n k ⊎ HasUse Contra n k → ⊥
    unused_on k c (inl u) =
        let s : (l : Line) × Contains lines l × IsWeaker k l = are k c in unused s.0 s.1 (inl (s.2.0 Co n u))
    unused_on k c (inr u) =
        let s : (l : Line) × Contains lines l × IsWeaker k l = are k c in unused s.0 s.1 (inr (s.2.0 Contra n u))
leftover_on lines after are n (inr loose) = inr (λ r. loose (r.0, r.1, weaker_joined lines after are r.2))

-- the first step of preparing changes nothing, or loses an existential
start_loses : (start between left : List Line) → tidied start ≡ start → Refines start between → Simplifies left between →
    ((start ≡ left) × IsSimple left) ⊎ Loses start left
start_loses start between left same r s = by (refines_lose start between same r) (simple_loses left between s)
  where
    by : (start ≡ between) ⊎ Loses start between → ((between ≡ left) × IsSimple left) ⊎ Loses between left →
        ((start ≡ left) × IsSimple left) ⊎ Loses start left
    by (inl e) (inl (f, is)) = inl (e ∙ f, is)
    by (inl e) (inr h) = inr (subst (λ ls. Loses ls left) (sym e) h)
    by (inr h) o = inr (loses_before start between left h (names_simple left between s))

-- where preparing loses none, there were no candidates and no twins
prepared_simple : (left start : List Line) → tidied start ≡ start → Prepares left start → IsSimple start ⊎ Loses start left
prepared_simple left start same (prepared _ between idle r s is none) = by (start_loses start between left same r s)
  where
    by : ((start ≡ left) × IsSimple left) ⊎ Loses start left → IsSimple start ⊎ Loses start left
    by (inl (e, simply)) = inl (subst IsSimple (sym e) simply)
    by (inr h) = inr h
prepared_simple left start same (trims _ between now idle r s is some rest) = by (start_loses start between now same r s)
  where
    on : NamesFrom now left
    on = names_chain now (tidied (trimmed idle now)) left (names_trimmed idle now) (names_prepares left (tidied (trimmed idle now)) rest)

    by : ((start ≡ now) × IsSimple now) ⊎ Loses start now → IsSimple start ⊎ Loses start left
    by (inl (e, simply)) = inl (subst IsSimple (sym e) simply)
    by (inr h) = inr (loses_before start now left h on)

-- and what was left over still is
prepared_leftover : (left start : List Line) → tidied start ≡ start → Prepares left start → (n : ℕ) → IsLeftover start n →
    IsLeftover left n ⊎ Loses start left
prepared_leftover left start same (prepared _ between idle r s is none) n over = by (start_loses start between left same r s)
  where
    by : ((start ≡ left) × IsSimple left) ⊎ Loses start left → IsLeftover left n ⊎ Loses start left
    by (inl (e, simply)) = inl (subst (λ ls. IsLeftover ls n) e over)
    by (inr h) = inr h
prepared_leftover left start same (trims _ between now idle r s is some rest) n over =
    by (start_loses start between now same r s) (prepared_leftover left next (tidied_twice (trimmed idle now)) rest n)
  where
    next : List Line
    next = tidied (trimmed idle now)

    last : NamesFrom start now → IsLeftover left n ⊎ Loses next left → IsLeftover left n ⊎ Loses start left
    last from (inl o) = inl o
    last from (inr h) = inr (loses_after start next left (names_chain start now next from (names_trimmed idle now)) h)

    by : ((start ≡ now) × IsSimple now) ⊎ Loses start now → (IsLeftover next n → IsLeftover left n ⊎ Loses next left) →
        IsLeftover left n ⊎ Loses start left
    by (inl (e, simply)) induction =
        last (names_chain start between now (names_refines start between r) (names_simple now between s))
        (induction (leftover_on now next (weaker_next idle now) n (subst (λ ls. IsLeftover ls n) e over)))
    by (inr h) induction =
        inr (loses_before start now left h
        (names_chain now next left (names_trimmed idle now) (names_prepares left next rest)))

pub round_loses_lem : RoundLosesLaw
round_loses_lem order lines after scheme r left = by left
  where
    rest : NamesFrom r.emitted after
    rest = names_after order lines after r

    on : NamesFrom r.simple after
    on = names_chain r.simple r.emitted after (names_emitted order r.simple r.emitted r.is_emitted) rest

    of_simple : IsSimple lines ⊎ Loses lines r.simple → (IsSimple lines → ⊥) → Loses lines after
    of_simple (inl s) apart = absurd (apart s)
    of_simple (inr h) apart = loses_before lines r.simple after h on

    of_leftover : (n : ℕ) → NamesBase lines (Exist n) → IsLeftover r.simple n ⊎ Loses lines r.simple → Loses lines after
    of_leftover n names (inl (inl unused)) = loses_before lines r.emitted after (
      n,
      names,
      unused_gone order r.simple r.emitted r.is_emitted (from_scheme lines r.simple (from_prepares r.simple lines r.is_simple) scheme) n unused,
    ) rest
    of_leftover n names (inl (inr loose)) =
        loses_before lines r.emitted after (n, names, unjoined_gone order r.simple r.emitted r.is_emitted n loose) rest
    of_leftover n names (inr h) = loses_before lines r.simple after h on

    by : IsUnfinished lines → Loses lines after
    by (of_candidate n has) =
        of_simple (prepared_simple r.simple lines r.is_tidied r.is_simple) (λ s. s.no_candidate n has)
    by (of_twins sign class n is apart) =
        of_simple (prepared_simple r.simple lines r.is_tidied r.is_simple) (λ s. apart (s.no_twins sign class is n))
    by (of_unused n names unused) =
        of_leftover n names (prepared_leftover r.simple lines r.is_tidied r.is_simple n (inl unused))
    by (of_unjoined n names unjoined) =
        of_leftover n names (prepared_leftover r.simple lines r.is_tidied r.is_simple n (inr unjoined))
