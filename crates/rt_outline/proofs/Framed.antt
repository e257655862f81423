-- Nodes, entered one by one.
use Rattle.std.proofs.Common.{◌≡◌, ℕ, zero, suc, ◌+◌, ◌<◌, ◌≤◌, ◌⊎◌, inl, inr, Bool, true, false, List, [], ◌∷◌, ◌++◌, Contains, Option, Some, None, length, get_or, cond, refl, sym, subst, ap, ◌∙◌, arith}
use Rattle.std.specs.Prelude.{slice_get}
use Rattle.std.specs.Map.{lookup}
use Rattle.std.proofs.lemmas.Bool.{cases_eq}
use Rattle.std.proofs.lemmas.List.{get_or_append_left, get_or_past, get_or_push, length_push}
use Rattle.std.proofs.lemmas.Option.{slice_get_within}
use Rattle.rt_lines.specs.declared.label.Label.{Label}
use Rattle.rt_lines.specs.declared.variable.Dtv.{Dtv}
use Rattle.rt_rules.specs.Rules.{longer}
use Rattle.rt_named.specs.declared.origin.Origin.{Origin}
use Rattle.rt_named.specs.declared.origin.Origin.TheVariants.{Bare, Longer}
use Rattle.rt_named.specs.Origins.{made, IsBelow}
use Rattle.rt_shape.specs.Graphs.{letter_eq}
use Rattle.rt_shape.proofs.Letters.{letter_equal, letter_self}
use Rattle.rt_outline.specs.declared.arc.Arc.{Arc}
use Rattle.rt_outline.specs.Arcs.{HasArc}
use Rattle.rt_outline.specs.Frames.{Origins, AreOriginsTo, IsFrame, IsFresh, IsMade, IsSetAt, origin_of, step_of, variable_at}
use Rattle.rt_base.proofs.Lists.{slice_get-front, slice_get-last}

pub slice_cases : {X : Type 0} (xs : List X) (y : X) (n : ℕ) (x : X) → slice_get (xs ++ y ∷ []) n ≡ Some x → (slice_get xs n ≡ Some x) ⊎ ((n ≡ length xs) × (y ≡ x))
slice_cases [] y zero x e = inr (refl, cc)
slice_cases [] y (suc n) x e = absurd (cc)
slice_cases (z ∷ xs) y zero x e = inl e
slice_cases (z ∷ xs) y (suc n) x e = elim (slice_cases xs y n x e) [ inl f ↦ inl f | inr f ↦ inr (ap suc f.0, f.1) ]

-- a step that is set by a key
pub set_at : (key : ℕ × Label) (node : ℕ) (old new : List ((ℕ × Label) × ℕ)) → ((q : ℕ × Label) → lookup (letter_eq q) new ≡ cond (letter_eq key q) (Some node) (lookup (letter_eq q) old)) →
    (p : ℕ) (l : Label) → IsSetAt (Some key) node p l old new
set_at key node old new updates p l = by (letter_eq key (p, l)) refl
  where
    by : (b : Bool) → letter_eq key (p, l) ≡ b → IsSetAt (Some key) node p l old new
    by true f = let same : key ≡ (p, l) = letter_equal key (p, l) f in inl (ap Some same, updates (p, l) ∙ ap (λ (b : Bool). cond b (Some node) (lookup (letter_eq (p, l)) old)) f)
    by false f = inr (
      λ e. (let same : key ≡ (p, l) = cc in let t : letter_eq key (p, l) ≡ true = subst (λ (k : ℕ × Label). letter_eq key k ≡ true) same (letter_self key) in absurd (let g : true ≡ false = sym t ∙ f in cc)),
      updates (p, l) ∙ ap (λ (b : Bool). cond b (Some node) (lookup (letter_eq (p, l)) old)) f,
    )

pub set_none : (node : ℕ) (old : List ((ℕ × Label) × ℕ)) (p : ℕ) (l : Label) → IsSetAt None node p l old old
set_none node old p l = inr (λ e. absurd (cc), refl)

-- room for a node more
wider : (arcs : List (List Arc)) (v : ℕ) → get_or (arcs ++ [] ∷ []) v [] ≡ get_or arcs v []
wider arcs v = by (cases_eq v (length arcs))
  where
    below : (v : ℕ) → (v < length arcs) ⊎ (length arcs ≤ v)
    below v = grind arith

    by : (v ≡ length arcs) ⊎ (v ≡ length arcs → ⊥) → get_or (arcs ++ [] ∷ []) v [] ≡ get_or arcs v []
    by (inl e) = get_or_push arcs [] [] v (sym e) ∙ sym (get_or_past arcs v [] (omega (arith, e)))
    by (inr n) = elim (below v) [
      | inl less ↦ get_or_append_left arcs ([] ∷ []) [] v less
      | inr past ↦ get_or_past (arcs ++ [] ∷ []) v [] (omega (arith, past, n, length_push arcs [])) ∙ sym (get_or_past arcs v [] past)
    ]

pub arcs_wider : (arcs : List (List Arc)) (v w : ℕ) (line : Option ℕ) → (HasArc (arcs ++ [] ∷ []) v w line → HasArc arcs v w line) × (HasArc arcs v w line → HasArc (arcs ++ [] ∷ []) v w line)
arcs_wider arcs v w line = (
  λ c. subst (λ (xs : List Arc). Contains xs (record { to = w; line = line })) (wider arcs v) c,
  λ c. subst (λ (xs : List Arc). Contains xs (record { to = w; line = line })) (sym (wider arcs v)) c,
)

-- a node more
pub entered_frame : (origins : Origins) (steps next : List ((ℕ × Label) × ℕ)) (arcs back : List (List Arc)) (origin : Option (ℕ × Label)) → length origins < 4294967295 → IsFrame origins steps arcs back → IsFresh origins origin →
    ((p : ℕ) (l : Label) → origin ≡ Some (p, l) → p < length origins) → ((p : ℕ) (l : Label) → IsSetAt origin (length origins) p l steps next) →
    IsFrame (origins ++ origin ∷ []) next (arcs ++ [] ∷ []) (back ++ [] ∷ [])
entered_frame origins steps next arcs back origin few frame fresh below set = record {
  few = omega (arith, few, longer_by);
  each = length_push arcs [] ∙ ap (λ n. n + 1) frame.each ∙ sym longer_by;
  each_back = length_push back [] ∙ ap (λ n. n + 1) frame.each_back ∙ sym longer_by;
  made = made_is;
  only = only_is;
  below = λ n p l m. (elim (slice_cases origins origin n (Some (p, l)) m) [
    | inl d ↦ (let h : p < length origins = frame.below n p l d in omega (arith, h, longer_by))
    | inr e ↦ (let h : p < length origins = below p l e.1 in omega (arith, h, longer_by))
  ]);
  within = λ v w line c. (let h : w < length origins = frame.within v w line ((arcs_wider arcs v w line).0 c) in omega (arith, h, longer_by));
  turned = λ v w line. (
    λ c. (arcs_wider back w v line).1 ((frame.turned v w line).0 ((arcs_wider arcs v w line).0 c)),
    λ c. (arcs_wider arcs v w line).1 ((frame.turned v w line).1 ((arcs_wider back w v line).0 c)),
  );
}
  where
    longer_by : length (origins ++ origin ∷ []) ≡ length origins + 1
    longer_by = length_push origins origin

    made_is : (n p : ℕ) (l : Label) → IsMade (origins ++ origin ∷ []) n p l → step_of next p l ≡ Some n
    made_is n p l m = elim (slice_cases origins origin n (Some (p, l)) m) [
      | inl d ↦ (elim (set p l) [ inl s ↦ absurd (fresh n p l s.0 d) | inr s ↦ s.1 ∙ frame.made n p l d ])
      | inr e ↦ (elim (set p l) [ inl s ↦ s.1 ∙ ap Some (sym e.0) | inr s ↦ absurd (s.0 e.1) ])
    ]

    only_is : (n p : ℕ) (l : Label) → step_of next p l ≡ Some n → IsMade (origins ++ origin ∷ []) n p l
    only_is n p l f = elim (set p l) [
      | inl s ↦ (let g : Some (length origins) ≡ Some n = sym s.1 ∙ f in let h : length origins ≡ n = cc in
          subst (λ k. IsMade (origins ++ origin ∷ []) k p l) h (slice_get-last origins origin ∙ ap Some s.0))
      | inr s ↦ slice_get-front origins (origin ∷ []) n (Some (p, l)) (frame.only n p l (sym s.1 ∙ f))
    ]

-- what a variable of a number more is made of
pub origins_none : (named : List Dtv) → AreOriginsTo named 0 []
origins_none named = record { each = refl; bare = λ n m. absurd (cc); only = λ n p l m. absurd (cc) }

pub origins_next : (named : List Dtv) (number : ℕ) (o : Origin) (origins new : Origins) → variable_at named number ≡ made named o → IsBelow o number → new ≡ origins ++ origin_of o ∷ [] → AreOriginsTo named number origins → AreOriginsTo named (number + 1) new
origins_next named number o origins new is small e are = record {
  each = ap length e ∙ length_push origins (origin_of o) ∙ ap (λ n. n + 1) are.each;
  bare = λ n m. (elim (slice_cases origins (origin_of o) n None (subst (λ xs. slice_get xs n ≡ Some None) e m)) [
    | inl d ↦ are.bare n d
    | inr f ↦ none_by o n (f.0 ∙ are.each) f.1 is
  ]);
  only = λ n p l m. (elim (slice_cases origins (origin_of o) n (Some (p, l)) (subst (λ xs. IsMade xs n p l) e m)) [
    | inl d ↦ are.only n p l d
    | inr f ↦ by o n p l (f.0 ∙ are.each) f.1 is small
  ]);
}
  where
    none_by : (o : Origin) (n : ℕ) → n ≡ number → origin_of o ≡ None → variable_at named number ≡ made named o → (variable_at named n).word ≡ []
    none_by (Bare b) n f g is = ap (λ m. (variable_at named m).word) f ∙ ap (λ (x : Dtv). x.word) is
    none_by (Longer q k) n f g is = absurd (cc)

    by : (o : Origin) (n p : ℕ) (l : Label) → n ≡ number → origin_of o ≡ Some (p, l) → variable_at named number ≡ made named o → IsBelow o number → (p < n) × (variable_at named n ≡ longer (variable_at named p) l)
    by (Bare b) n p l f g is small = absurd (cc)
    by (Longer q k) n p l f g is small =
        let h : (q, k) ≡ (p, l) = cc in
        let i : q ≡ p = ap (λ (x : ℕ × Label). x.0) h in
        let j : k ≡ l = ap (λ (x : ℕ × Label). x.1) h in
        (omega (arith, small, f, i), ap (variable_at named) f ∙ is ∙ ap (λ m. longer (variable_at named m) k) i ∙ ap (longer (variable_at named p)) j)

-- variables that are made of others once have one number
pub fresh_next : (named : List Dtv) (number : ℕ) (o : Origin) (origins : Origins) → number < length named → ((i j : ℕ) → i < length named → j < length named → variable_at named i ≡ variable_at named j → i ≡ j) →
    variable_at named number ≡ made named o → AreOriginsTo named number origins → IsFresh origins (origin_of o)
fresh_next named number o origins small once is are n p l e m = by o e is
  where
    within : n < number
    within = let h : n < length origins = slice_get_within origins n (Some (p, l)) m in omega (arith, h, are.each)

    by : (o : Origin) → origin_of o ≡ Some (p, l) → variable_at named number ≡ made named o → ⊥
    by (Bare b) g is = cc
    by (Longer q k) g is =
        let h : (q, k) ≡ (p, l) = cc in
        let i : q ≡ p = ap (λ (x : ℕ × Label). x.0) h in
        let j : k ≡ l = ap (λ (x : ℕ × Label). x.1) h in
        let same : n ≡ number = once n number (omega (arith, within, small)) small ((are.only n p l m).1 ∙ sym (is ∙ ap (λ m. longer (variable_at named m) k) i ∙ ap (longer (variable_at named p)) j)) in
        omega (arith, within, same)

pub below_next : (number count : ℕ) (o : Origin) → IsBelow o number → number ≡ count → (p : ℕ) (l : Label) → origin_of o ≡ Some (p, l) → p < count
below_next number count (Bare b) small e p l g = absurd (cc)
below_next number count (Longer q k) small e p l g =
    let h : (q, k) ≡ (p, l) = cc in
    let i : q ≡ p = ap (λ (x : ℕ × Label). x.0) h in
    omega (arith, small, e, i)

pub frame_as : (origins others : Origins) (steps : List ((ℕ × Label) × ℕ)) (arcs some back more : List (List Arc)) → others ≡ origins → some ≡ arcs → more ≡ back → IsFrame origins steps arcs back → IsFrame others steps some more
frame_as origins others steps arcs some back more e f g frame =
    subst (λ xs. IsFrame xs steps some more) (sym e) (subst (λ xs. IsFrame origins steps xs more) (sym f) (subst (λ xs. IsFrame origins steps arcs xs) (sym g) frame))
