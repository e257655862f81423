-- Origins and the variables that they make.
use Rattle.std.proofs.Common.{◌≡◌, ℕ, ◌+◌, ◌<◌, ◌≤◌, ◌⊎◌, inl, inr, List, [], ◌∷◌, ◌++◌, Contains, length, get_or, Bool, true, false, refl, ap, sym, ◌∙◌, subst, arith, true≢false, cond, nat_lt}
use Rattle.std.specs.Prelude.{slice_get, Some, None, nat_eq}
use Rattle.std.specs.List.{list_any, Any, position, position_or_len}
use Rattle.std.proofs.lemmas.List.Sums.{passes_at_first}
use Rattle.std.proofs.lemmas.Option.{slice_get-get_or, get_or_from_slice_get, slice_get_within}
use Rattle.std.proofs.lemmas.Bool.{cases_eq, eqb-true, and_parts}
use Rattle.std.proofs.lemmas.List.{length_push, get_or_push, get_or_append_left, get_or_default}
use Rattle.std.proofs.lemmas.List.Sums.{fold-append}
use Rattle.std.proofs.lemmas.List.Folds.{list_any_at, Any-from_list_any}
use Rattle.indexmap.specs.IndexSet.{insert_key}
use Rattle.rt_lines.specs.declared.label.Label.{Label}
use Rattle.rt_lines.specs.declared.variable.Base.{Base}
use Rattle.rt_lines.specs.declared.variable.Base.TheVariants.{Proc}
use Rattle.rt_lines.specs.declared.variable.Dtv.{Dtv}
use Rattle.rt_lines.specs.Equality.{variable_eq, label_eq}
use Rattle.rt_lines.proofs.Equal.{variable_equal, label_equal, base_equal}
use Rattle.rt_rules.specs.Rules.{longer, extended}
use Rattle.rt_rules.proofs.Covering.{extended-nil, extended-cons}
use Rattle.rt_bridge.specs.Growing.{at, dot, dv, vd}
use Rattle.rt_bridge.proofs.Growing.{dv-vd, vd-longer}
use Rattle.rt_named.specs.declared.origin.Origin.{Origin}
use Rattle.rt_named.specs.declared.origin.Origin.TheVariants.{Bare, Longer}
use Rattle.rt_named.specs.contracts.origin.OriginPartialEq.TheImpl as the_origin
use Rattle.rt_named.specs.contracts.origin.OriginEq.TheImpl.Laws as origin_laws
use Rattle.rt_named.specs.Origins.{no_variable, made, IsBelow, variables, AreMade}
use Rattle.rt_lines.proofs.Same.{variable_self}

abbrev pub origin_eq : Origin → Origin → Bool
origin_eq = (the_origin.ghosts).eq

pub origin_equal : (a b : Origin) → origin_eq a b ≡ true → a ≡ b
origin_equal (Bare a) (Bare b) e = ap Bare (base_equal a b e)
origin_equal (Longer m k) (Longer n l) e =
    let parts : (nat_eq m n ≡ true) × (label_eq k l ≡ true) = and_parts (nat_eq m n) (label_eq k l) e in
    let numbers : m ≡ n = eqb-true m n parts.0 in
    let labels : k ≡ l = label_equal k l parts.1 in
    rw (numbers, labels) refl
origin_equal (Bare a) (Longer n l) e = cc
origin_equal (Longer n l) (Bare a) e = cc

origin_self : (a : Origin) → origin_eq a a ≡ true
origin_self a = (origin_laws.laws-law).refl a

-- a letter more is no base alone
pub no_base : (x : Dtv) (l : Label) (b : Base) → longer x l ≡ record { base = b; word = [] } → ⊥
no_base x l b e = let h : dot (vd x) l ≡ at b = sym (vd-longer x l) ∙ ap vd e in cc

pub last_letter : (x y : Dtv) (l m : Label) → longer x l ≡ longer y m → (x ≡ y) × (l ≡ m)
last_letter x y l m e =
    let h : dot (vd x) l ≡ dot (vd y) m = sym (vd-longer x l) ∙ ap vd e ∙ vd-longer y m in
    let p : vd x ≡ vd y = cc in
    let q : l ≡ m = cc in
    (sym (dv-vd x) ∙ ap dv p ∙ dv-vd y, q)

-- one more
pub variables-push : (origins : List Origin) (o : Origin) → variables (origins ++ o ∷ []) ≡ variables origins ++ made (variables origins) o ∷ []
variables-push origins o = fold-append (λ (known : List Dtv) (o : Origin). known ++ made known o ∷ []) [] origins (o ∷ [])

pub AreMade-none : AreMade [] []
AreMade-none = record { size = refl; few = omega arith; below = λ i h. absurd (omega arith); each = λ i h. absurd (omega arith); distinct = λ i j h k e. absurd (omega arith) }

module _ (origins : List Origin) (known : List Dtv) (are : AreMade origins known) where
  at_place : ℕ → Dtv
  at_place i = get_or known i no_variable

  -- the origin of a variable that is there
  pub found : (o : Origin) (j : ℕ) → IsBelow o (length origins) → j < length origins → get_or known j no_variable ≡ made known o → get_or origins j (Bare (Proc 0)) ≡ o
  found o j below h e = by o (get_or origins j (Bare (Proc 0))) below (are.below j h) (sym (are.each j h) ∙ e)
    where
      by : (o p : Origin) → IsBelow o (length origins) → IsBelow p j → made known p ≡ made known o → p ≡ o
      by (Bare b) (Bare c) q r e = ap (λ (z : Dtv). Bare z.base) e
      by (Bare b) (Longer m k) q r e = absurd (no_base (get_or known m no_variable) k b e)
      by (Longer n l) (Bare c) q r e = absurd (no_base (get_or known n no_variable) l c (sym e))
      by (Longer n l) (Longer m k) q r e =
          let s : (get_or known m no_variable ≡ get_or known n no_variable) × (k ≡ l) = last_letter (get_or known m no_variable) (get_or known n no_variable) k l e in
          let t : m ≡ n = are.distinct m n (omega arith) q s.0 in
          rw (t, s.1) refl

  -- what is made of earlier ones stays
  made-more : (more : List Dtv) (p : Origin) (i : ℕ) → IsBelow p i → i ≤ length known → made (known ++ more) p ≡ made known p
  made-more more (Bare b) i h k = refl
  made-more more (Longer n l) i h k = ap (λ (z : Dtv). longer z l) (get_or_append_left known more no_variable n (omega arith))

  -- a variable that is there without its last letter
  pub shorter : (x : Dtv) (l : Label) → Contains known (longer x l) → Contains known x
  shorter x l c =
      let h : c.0 < length known = c.1 in
      let k : c.0 < length origins = omega (arith, are.size) in
      let e : get_or known c.0 no_variable ≡ longer x l = get_or_default known c.0 no_variable (longer x l) h ∙ c.2 in
      by (get_or origins c.0 (Bare (Proc 0))) (are.below c.0 k) (sym (are.each c.0 k) ∙ e) h
    where
      by : (p : Origin) → IsBelow p c.0 → made known p ≡ longer x l → c.0 < length known → Contains known x
      by (Bare b) q e h = absurd (no_base x l b (sym e))
      by (Longer m k) q e h =
          let s : (get_or known m no_variable ≡ x) × (k ≡ l) = last_letter (get_or known m no_variable) x k l e in
          let less : m < length known = omega arith in
          (m, less, get_or_default known m x no_variable less ∙ s.0)

  -- and without the last letters
  pub shorter_all : (w : List Label) (x : Dtv) → Contains known (extended x w) → Contains known x
  shorter_all [] x c = subst (Contains known) (extended-nil x) c
  shorter_all (l ∷ w) x c = shorter x l (shorter_all w (longer x l) (subst (Contains known) (sym (extended-cons x l w)) c))

  last_or : (i n : ℕ) → i < n + 1 → (i < n) ⊎ (i ≡ n)
  last_or i n h = elim (cases_eq i n) [ inl e ↦ inr e | inr f ↦ inl (omega arith) ]

  -- a variable that is new, made of an earlier one
  module _ (o : Origin) (is_below : IsBelow o (length origins)) (new : Contains known (made known o) → ⊥) (room : length origins < 4294967295) where
    abbrev origins' : List Origin
    origins' = origins ++ o ∷ []

    abbrev known' : List Dtv
    known' = known ++ made known o ∷ []

    origin_old : (i : ℕ) → i < length origins → get_or origins' i (Bare (Proc 0)) ≡ get_or origins i (Bare (Proc 0))
    origin_old i h = get_or_append_left origins (o ∷ []) (Bare (Proc 0)) i h

    origin_new : (i : ℕ) → i ≡ length origins → get_or origins' i (Bare (Proc 0)) ≡ o
    origin_new i e = get_or_push origins o (Bare (Proc 0)) i (sym e)

    known_old : (i : ℕ) → i < length origins → get_or known' i no_variable ≡ get_or known i no_variable
    known_old i h = get_or_append_left known (made known o ∷ []) no_variable i (omega (arith, are.size))

    known_new : (i : ℕ) → i ≡ length origins → get_or known' i no_variable ≡ made known o
    known_new i e = get_or_push known (made known o) no_variable i (are.size ∙ sym e)

    old_new : (i : ℕ) → i < length origins → get_or known i no_variable ≡ made known o → ⊥
    old_new i h e = let k : i < length known = omega (arith, are.size) in new (i, k, get_or_default known i (made known o) no_variable k ∙ e)

    below : (i : ℕ) → (i < length origins) ⊎ (i ≡ length origins) → IsBelow (get_or origins' i (Bare (Proc 0))) i
    below i (inl h) = rw (origin_old i h) (are.below i h)
    below i (inr e) = rw (origin_new i e) (subst (IsBelow o) (sym e) is_below)

    each : (i : ℕ) → (i < length origins) ⊎ (i ≡ length origins) → get_or known' i no_variable ≡ made known' (get_or origins' i (Bare (Proc 0)))
    each i (inl h) =
        known_old i h ∙ are.each i h ∙ sym (made-more (made known o ∷ []) (get_or origins i (Bare (Proc 0))) i (are.below i h) (omega (arith, are.size)))
        ∙ ap (made known') (sym (origin_old i h))
    each i (inr e) =
        known_new i e ∙ sym (made-more (made known o ∷ []) o (length origins) is_below (omega (arith, are.size))) ∙ ap (made known') (sym (origin_new i e))

    distinct : (i j : ℕ) → (i < length origins) ⊎ (i ≡ length origins) → (j < length origins) ⊎ (j ≡ length origins) → get_or known' i no_variable ≡ get_or known' j no_variable → i ≡ j
    distinct i j (inl h) (inl k) e = are.distinct i j h k (sym (known_old i h) ∙ e ∙ known_old j k)
    distinct i j (inl h) (inr k) e = absurd (old_new i h (sym (known_old i h) ∙ e ∙ known_new j k))
    distinct i j (inr h) (inl k) e = absurd (old_new j k (sym (known_old j k) ∙ sym e ∙ known_new i h))
    distinct i j (inr h) (inr k) e = h ∙ sym k

    size' : length origins' ≡ length origins + 1
    size' = length_push origins o

    pub pushed : AreMade origins' known'
    pushed = record {
      size = length_push known (made known o) ∙ ap (λ n. n + 1) are.size ∙ sym size';
      few = omega (arith, size', room);
      below = λ i h. below i (last_or i (length origins) (omega (arith, h, size')));
      each = λ i h. each i (last_or i (length origins) (omega (arith, h, size')));
      distinct = λ i j h k e. distinct i j (last_or i (length origins) (omega (arith, h, size'))) (last_or j (length origins) (omega (arith, k, size'))) e;
    }

  -- whether the variable is there is whether its origin is
  pub origin_there : (o : Origin) → list_any (origin_eq o) origins ≡ true → Contains known (made known o)
  origin_there o e =
      let a : Any (λ (p : Origin). origin_eq o p ≡ true) origins = Any-from_list_any (origin_eq o) origins e in
      let f : get_or origins a.0 (Bare (Proc 0)) ≡ o = get_or_default origins a.0 (Bare (Proc 0)) a.1 a.2 ∙ a.3 ∙ sym (origin_equal o a.1 a.4) in
      let k : a.0 < length known = omega (arith, a.2, are.size) in
      (a.0, k, get_or_default known a.0 (made known o) no_variable k ∙ are.each a.0 a.2 ∙ ap (made known) f)

  pub origin_absent : (o : Origin) → IsBelow o (length origins) → list_any (origin_eq o) origins ≡ false → Contains known (made known o) → ⊥
  origin_absent o below e c =
      let k : c.0 < length origins = omega (arith, c.1, are.size) in
      let f : get_or origins c.0 (Bare (Proc 0)) ≡ o = found o c.0 below k (get_or_default known c.0 no_variable (made known o) c.1 ∙ c.2) in
      let g : list_any (origin_eq o) origins ≡ true = list_any_at (origin_eq o) origins c.0 (Bare (Proc 0)) k (ap (origin_eq o) f ∙ origin_self o) in
      true≢false (sym g ∙ e)

  at_origin : (o : Origin) (i : ℕ) → i < length origins → get_or origins i (Bare (Proc 0)) ≡ o → slice_get known i ≡ Some (made known o)
  at_origin o i h e = slice_get-get_or known i no_variable (omega (arith, h, are.size)) ∙ ap Some (are.each i h ∙ ap (made known) e)

  -- an origin that is found is that of its variable
  pub find_some : (o : Origin) (i : ℕ) → position (origin_eq o) origins ≡ Some i → slice_get known i ≡ Some (made known o)
  find_some o i e = by (nat_lt (position_or_len (origin_eq o) origins) (length origins)) refl e
    where
      by : (b : Bool) → nat_lt (position_or_len (origin_eq o) origins) (length origins) ≡ b → cond b (Some (position_or_len (origin_eq o) origins)) None ≡ Some i → slice_get known i ≡ Some (made known o)
      by true f g =
          let h : position_or_len (origin_eq o) origins ≡ i = cc in
          let less : position_or_len (origin_eq o) origins < length origins = grind (arith, f) in
          let passes : origin_eq o (get_or origins (position_or_len (origin_eq o) origins) (Bare (Proc 0))) ≡ true = passes_at_first (origin_eq o) origins (Bare (Proc 0)) less in
          at_origin o i (omega (arith, h, less)) (ap (λ n. get_or origins n (Bare (Proc 0))) (sym h) ∙ sym (origin_equal o (get_or origins (position_or_len (origin_eq o) origins) (Bare (Proc 0))) passes))
      by false f g = absurd (cc)

  pub find_none : (o : Origin) → IsBelow o (length known) → list_any (origin_eq o) origins ≡ false → (w : List Label) → Contains known (extended (made known o) w) → ⊥
  find_none o small e w c = origin_absent o (subst (IsBelow o) are.size small) e (shorter_all w (made known o) c)

abbrev view : List Origin → List Dtv
view origins = variables origins

-- an origin inserted
module _ (origins : List Origin) (are : AreMade origins (view origins)) (o : Origin) (below : IsBelow o (length (view origins))) (room : length origins < 4294967295) where
  under : IsBelow o (length origins)
  under = subst (IsBelow o) are.size below

  absent : list_any (origin_eq o) origins ≡ false → Contains (view origins) (made (view origins) o) → ⊥
  absent e = origin_absent origins (view origins) are o under e

  pub inserted_made : AreMade (insert_key origin_eq origins o) (view (insert_key origin_eq origins o))
  inserted_made = by (list_any (origin_eq o) origins) refl
    where
      by : (b : Bool) → list_any (origin_eq o) origins ≡ b → AreMade (insert_key origin_eq origins o) (view (insert_key origin_eq origins o))
      by true e = rw e are
      by false e = rw (e, variables-push origins o) (pushed origins (view origins) are o under (absent e) room)

  any_there : Contains (view origins) (made (view origins) o) → list_any (variable_eq (made (view origins) o)) (view origins) ≡ true
  any_there c = list_any_at (variable_eq (made (view origins) o)) (view origins) c.0 (made (view origins) o) c.1 (ap (variable_eq (made (view origins) o)) c.2 ∙ variable_self (made (view origins) o))

  any_absent : (Contains (view origins) (made (view origins) o) → ⊥) → list_any (variable_eq (made (view origins) o)) (view origins) ≡ false
  any_absent n = by (list_any (variable_eq (made (view origins) o)) (view origins)) refl
    where
      by : (b : Bool) → list_any (variable_eq (made (view origins) o)) (view origins) ≡ b → list_any (variable_eq (made (view origins) o)) (view origins) ≡ false
      by false e = e
      by true e =
          let a : Any (λ (x : Dtv). variable_eq (made (view origins) o) x ≡ true) (view origins) = Any-from_list_any (variable_eq (made (view origins) o)) (view origins) e in
          let f : a.1 ≡ made (view origins) o = sym (variable_equal (made (view origins) o) a.1 a.4) in
          absurd (n (a.0, a.2, get_or_default (view origins) a.0 (made (view origins) o) a.1 a.2 ∙ a.3 ∙ f))

  pub inserted_view : view (insert_key origin_eq origins o) ≡ insert_key variable_eq (view origins) (made (view origins) o)
  inserted_view = by (list_any (origin_eq o) origins) refl
    where
      by : (b : Bool) → list_any (origin_eq o) origins ≡ b → view (insert_key origin_eq origins o) ≡ insert_key variable_eq (view origins) (made (view origins) o)
      by true e = rw (e, any_there (origin_there origins (view origins) are o e)) refl
      by false e = rw (e, any_absent (absent e)) (variables-push origins o)

  pub inserted_at : (i : ℕ) (k : Origin) → slice_get (insert_key origin_eq origins o) i ≡ Some k → origin_eq o k ≡ true → slice_get (view (insert_key origin_eq origins o)) i ≡ Some (made (view origins) o)
  inserted_at i k e f = by (list_any (origin_eq o) origins) refl
    where
      same : k ≡ o
      same = sym (origin_equal o k f)

      by : (b : Bool) → list_any (origin_eq o) origins ≡ b → slice_get (view (insert_key origin_eq origins o)) i ≡ Some (made (view origins) o)
      by true g =
          let h : slice_get origins i ≡ Some k = rw g at e in
          rw g (at_origin origins (view origins) are o i (slice_get_within origins i k h) (get_or_from_slice_get origins i k (Bare (Proc 0)) h ∙ same))
      by false g =
          let h : slice_get (origins ++ o ∷ []) i ≡ Some k = rw g at e in
          let more : AreMade (origins ++ o ∷ []) (view origins ++ made (view origins) o ∷ []) = pushed origins (view origins) are o under (absent g) room in
          let r : slice_get (view origins ++ made (view origins) o ∷ []) i ≡ Some (made (view origins ++ made (view origins) o ∷ []) o) =
          at_origin (origins ++ o ∷ []) (view origins ++ made (view origins) o ∷ []) more o i (slice_get_within (origins ++ o ∷ []) i k h) (get_or_from_slice_get (origins ++ o ∷ []) i k (Bare (Proc 0)) h ∙ same) in
          let s : made (view origins ++ made (view origins) o ∷ []) o ≡ made (view origins) o = made-more origins (view origins) are (made (view origins) o ∷ []) o (length origins) under (omega (arith, are.size)) in
          rw (g, variables-push origins o) (r ∙ ap Some s)
