-- Existentials that no line spoils are idle, and no others.
use Rattle.std.proofs.Common.{◌≡◌, ◌↔◌, ℕ, ◌<◌, ◌≤◌, ◌⊎◌, inl, inr, Bool, true, false, not, IsTrue, List, Option, Some, length, map, take, get_or, Contains, refl, sym, ap, subst, ◌∙◌, true≢false, nat_lt, arith}
use Rattle.std.specs.Map.{lookup}
use Rattle.std.specs.Prelude.{slice_get}
use Rattle.std.proofs.lemmas.Bool.{cases_Bool}
use Rattle.std.proofs.lemmas.Bool.Decides.{nat_tests}
use Rattle.std.proofs.lemmas.Option.{slice_get-get_or, slice_get_within, get_or_from_slice_get}
use Rattle.rt_lines.specs.declared.label.Label.{Label}
use Rattle.rt_lines.specs.declared.variable.Base.{Base}
use Rattle.rt_lines.specs.declared.variable.Base.TheVariants.{Exist}
use Rattle.rt_lines.specs.declared.variable.Dtv.{Dtv}
use Rattle.rt_lines.specs.declared.line.Line.{Line}
use Rattle.rt_lines.specs.declared.line.Line.TheVariants.{Var, Same, Sub, Low, Up}
use Rattle.rt_lines.specs.Equality.{variable_eq, line_eq}
use Rattle.rt_lines.proofs.Equal.{line_equal}
use Rattle.rt_lines.proofs.Same.{line_self}
use Rattle.rt_trim.specs.Idle.{as_load, Begins, HasFlow, IsIdle, AreIdle}
use Rattle.rt_trim.specs.Trimming.{IsFlowSide, front_of, loaded, HasLoaded, HasUser, AreUsers, HasOtherUser, HasRival}
use Rattle.rt_trim.specs.Trimming.{IsSpoiledAt, IsSpoiledBy, AreOfLines}
use Rattle.rt_trim.proofs.Fronts.{begins_from, begins_to, front_apart, front_all}

of_some : {X : Type 0} (x y : X) → ◌≡◌ {A = Option X} (Some x) (Some y) → x ≡ y
of_some x y e = cc

-- whether the line that is noted is another
pub other_user : (lines : List Line) (users : List (Dtv × ℕ)) (l : Line) (z : Dtv) (i : ℕ) (k : Line) (differs : Bool) →
    Some i ≡ lookup (variable_eq z) users → i < length lines → k ≡ get_or lines i k → differs ≡ not (line_eq k l) →
    IsTrue differs ↔ HasOtherUser lines users l z
other_user lines users l z i k differs found less is e = (forth, back)
  where
    at : slice_get lines i ≡ Some k
    at = slice_get-get_or lines i k less ∙ ap Some (sym is)

    forth : IsTrue differs → HasOtherUser lines users l z
    forth t = (
      i,
      k,
      sym found,
      at,
      λ same.
          true≢false (sym t ∙ e ∙ ap not (subst (λ (m : Line). line_eq k m ≡ true) same (line_self k))),
    )

    back : HasOtherUser lines users l z → IsTrue differs
    back (j, m, f, a, apart) = by (line_eq k l) refl
      where
        line : k ≡ m
        line = of_some k m (sym at ∙ ap (slice_get lines) (of_some i j (found ∙ f)) ∙ a)

        by : (b : Bool) → line_eq k l ≡ b → IsTrue differs
        by true q = absurd (apart (sym line ∙ line_equal k l q))
        by false q = e ∙ ap not q

-- where the index is past the end there is no such line
pub no_other_user : (lines : List Line) (users : List (Dtv × ℕ)) (l : Line) (z : Dtv) (i : ℕ) → Some i ≡ lookup (variable_eq z) users →
    false ≡ nat_lt i (length lines) → IsTrue false ↔ HasOtherUser lines users l z
no_other_user lines users l z i found past = (λ t. absurd (true≢false (sym t)), back)
  where
    outside : i < length lines → ⊥
    outside less = grind (arith, nat_tests)

    back : HasOtherUser lines users l z → IsTrue false
    back (j, m, f, a, apart) =
        absurd (outside (subst (λ (t : ℕ). t < length lines) (sym (of_some i j (found ∙ f))) (slice_get_within lines j m a)))

-- sides
from_flow : (n : ℕ) (u : List Label) (l : Line) → HasFlow n u l → IsFlowSide l (record { base = Exist n; word = u })
from_flow n u (Var x) h = h
from_flow n u (Same x y) h = h
from_flow n u (Sub x y) h = h
from_flow n u (Low k x) h = h
from_flow n u (Up x k) h = h

of_base : (x : Dtv) (n : ℕ) → x.base ≡ Exist n → x ≡ record { base = Exist n; word = x.word }
of_base x n e = ap (based x) e
  where
    based : Dtv → Base → Dtv
    based y b = record { base = b; word = y.word }

to_flow : (n : ℕ) (x : Dtv) (l : Line) → x.base ≡ Exist n → IsFlowSide l x → HasFlow n x.word l
to_flow n x (Var y) e h = h
to_flow n x (Same y z) e h = h
to_flow n x (Sub y z) e (inl h) = inl (h ∙ of_base x n e)
to_flow n x (Sub y z) e (inr h) = inr (h ∙ of_base x n e)
to_flow n x (Low k y) e h = h ∙ of_base x n e
to_flow n x (Up y k) e h = h ∙ of_base x n e

contains_at : (lines : List Line) (i : ℕ) (l : Line) → slice_get lines i ≡ Some l → Contains lines l
contains_at lines i l e = (i, slice_get_within lines i l e, get_or_from_slice_get lines i l l e)

module _ (lines : List Line) (users : List (Dtv × ℕ)) (n : ℕ) where
  spoiled_side : (l : Line) (x : Dtv) → IsFlowSide l x → IsSpoiledAt lines users l x n → IsSpoiledBy lines users n l
  spoiled_side (Var y) x f s = f
  spoiled_side (Same y z) x f s = f
  spoiled_side (Sub y z) x (inl f) s = inr (inl (subst (λ (v : Dtv). IsSpoiledAt lines users (Sub y z) v n) (sym f) s))
  spoiled_side (Sub y z) x (inr f) s = inr (inr (subst (λ (v : Dtv). IsSpoiledAt lines users (Sub y z) v n) (sym f) s))
  spoiled_side (Low k y) x f s = subst (λ (v : Dtv). IsSpoiledAt lines users (Low k y) v n) (sym f) s
  spoiled_side (Up y k) x f s = subst (λ (v : Dtv). IsSpoiledAt lines users (Up y k) v n) (sym f) s

  -- it stands on both sides, or on one that has a rival
  abbrev AreBoth : Line → Type 0
  AreBoth l = (x : Dtv) × (y : Dtv) × (l ≡ Sub x y) × (x.base ≡ Exist n) × (y.base ≡ Exist n)

  spoiled_how : (l : Line) → IsSpoiledBy lines users n l → AreBoth l ⊎ ((x : Dtv) × IsFlowSide l x × IsSpoiledAt lines users l x n)
  spoiled_how (Var x) s = absurd s
  spoiled_how (Same x y) s = absurd s
  spoiled_how (Sub x y) (inl s) = inl (x, y, refl, s.0, s.1)
  spoiled_how (Sub x y) (inr (inl s)) = inr (x, inl refl, s)
  spoiled_how (Sub x y) (inr (inr s)) = inr (y, inr refl, s)
  spoiled_how (Low k x) s = inr (x, refl, s)
  spoiled_how (Up x k) s = inr (x, refl, s)

  module _ (are : AreUsers lines (length lines) users) where
    user_of : (l : Line) (x : Dtv) → Contains lines l → IsFlowSide l x → HasUser users (loaded x)
    user_of l x c f =
        let at : slice_get lines c.0 ≡ Some l = slice_get-get_or lines c.0 l c.1 ∙ ap Some c.2 in
        are.all c.0 l (loaded x) c.1 at (x, f, refl)

    -- where no line spoils it
    module _ (none : (l : Line) → Contains lines l → IsSpoiledBy lines users n l → ⊥) where
      alone : (l : Line) (x : Dtv) → Contains lines l → IsFlowSide l x → x.base ≡ Exist n → HasRival lines users l x → ⊥
      alone l x c f e r = none l c (spoiled_side l x f (e, r))

      noted : (l : Line) (x : Dtv) (i : ℕ) (m : Line) → Contains lines l → IsFlowSide l x → x.base ≡ Exist n →
          lookup (variable_eq (loaded x)) users ≡ Some i → slice_get lines i ≡ Some m → m ≡ l
      noted l x i m c f e found at = by (line_eq m l) refl
        where
          differ : line_eq m l ≡ false → m ≡ l → ⊥
          differ q same = true≢false (sym (subst (λ (k : Line). line_eq m k ≡ true) same (line_self m)) ∙ q)

          by : (b : Bool) → line_eq m l ≡ b → m ≡ l
          by true q = line_equal m l q
          by false q = absurd (alone l x c f e (inr (i, m, found, at, differ q)))

      idle_from : IsIdle lines n
      idle_from = record { apart = apart; one_side = λ x y c e f. none (Sub x y) c (inl (e, f)) }
        where
          split : (i j : ℕ) → i ≤ j → (i < j) ⊎ (j ≤ i)
          split i j h = grind arith

          apart : (k l : Line) (u w : List Label) → Contains lines k → Contains lines l → HasFlow n u k → HasFlow n w l → Begins u w → k ≡ l
          apart k l u w ck cl fk fl b = by (split r.0 (length w) r.1)
            where
              r : (m : ℕ) × (m ≤ length w) × (map as_load u ≡ map as_load (take m w))
              r = begins_to b

              one : Dtv
              one = record { base = Exist n; word = u }

              other : Dtv
              other = record { base = Exist n; word = w }

              worded : List Label → Dtv
              worded v = record { base = Exist n; word = v }

              user : HasUser users (loaded one)
              user = user_of k one ck (from_flow n u k fk)

              front : loaded one ≡ front_of other r.0
              front = ap worded r.2

              by : (r.0 < length w) ⊎ (length w ≤ r.0) → k ≡ l
              by (inl less) = absurd (alone l other cl (from_flow n w l fl) refl (inl (r.0, less, subst (HasUser users) front user)))
              by (inr whole) =
                  let same : loaded one ≡ loaded other = front ∙ front_all other r.0 whole in
                  let found : (m : Line) × (slice_get lines user.0 ≡ Some m) × HasLoaded m (loaded one) =
                  are.only (loaded one) user.0 user.1 in
                  sym (noted k one user.0 found.0 ck (from_flow n u k fk) refl user.1 found.1)
                  ∙ noted l other user.0 found.0 cl (from_flow n w l fl) refl
                  (subst (λ (z : Dtv). lookup (variable_eq z) users ≡ Some user.0) same user.1) found.1

    -- where it is idle
    module _ (idle : IsIdle lines n) where
      one_of_two : (l : Line) (x y : Dtv) → Contains lines l → IsFlowSide l x → IsFlowSide l y → x.base ≡ Exist n → y.base ≡ Exist n → x ≡ y
      one_of_two (Var a) x y c f g d e = absurd f
      one_of_two (Same a b) x y c f g d e = absurd f
      one_of_two (Sub a b) x y c (inl f) (inl g) d e = sym f ∙ g
      one_of_two (Sub a b) x y c (inl f) (inr g) d e =
          absurd (idle.one_side a b c (ap (λ (v : Dtv). v.base) f ∙ d) (ap (λ (v : Dtv). v.base) g ∙ e))
      one_of_two (Sub a b) x y c (inr f) (inl g) d e =
          absurd (idle.one_side a b c (ap (λ (v : Dtv). v.base) g ∙ e) (ap (λ (v : Dtv). v.base) f ∙ d))
      one_of_two (Sub a b) x y c (inr f) (inr g) d e = sym f ∙ g
      one_of_two (Low k a) x y c f g d e = sym f ∙ g
      one_of_two (Up a k) x y c f g d e = sym f ∙ g

      -- a line that is noted of a front is the line
      same_line : (l : Line) (x : Dtv) (m i : ℕ) → Contains lines l → IsFlowSide l x → x.base ≡ Exist n →
          lookup (variable_eq (front_of x m)) users ≡ Some i →
          (y : Dtv) × (slice_get lines i ≡ Some l) × IsFlowSide l y × (y.base ≡ Exist n) × (loaded y ≡ front_of x m)
      same_line l x m i c f e found =
          (y, subst (λ (k : Line). slice_get lines i ≡ Some k) same s.1, subst (λ (k : Line). IsFlowSide k y) same s.2.1, base, s.2.2)
        where
          s : (k : Line) × (slice_get lines i ≡ Some k) × HasLoaded k (front_of x m)
          s = are.only (front_of x m) i found

          y : Dtv
          y = s.2.0

          base : y.base ≡ Exist n
          base = ap (λ (v : Dtv). v.base) s.2.2 ∙ e

          same : s.0 ≡ l
          same = idle.apart s.0 l y.word x.word (contains_at lines i s.0 s.1) c (to_flow n y s.0 base s.2.1) (to_flow n x l e f)
              (begins_from y.word x.word m (ap (λ (v : Dtv). v.word) s.2.2))

      no_rival : (l : Line) (x : Dtv) → Contains lines l → IsFlowSide l x → x.base ≡ Exist n → HasRival lines users l x → ⊥
      no_rival l x c f e (inl (m, less, (i, found))) =
          let s = same_line l x m i c f e found in
          let both : x ≡ s.0 = one_of_two l x s.0 c f s.2 e s.3 in
          front_apart x m less (sym (ap loaded both ∙ s.4))
      no_rival l x c f e (inr (i, k, found, at, apart)) =
          let front : loaded x ≡ front_of x (length x.word) = sym (front_all x (length x.word) (omega arith)) in
          let s = same_line l x (length x.word) i c f e (subst (λ (z : Dtv). lookup (variable_eq z) users ≡ Some i) front found) in
          apart (of_some k l (sym at ∙ s.1))

      not_spoiled : (l : Line) → Contains lines l → IsSpoiledBy lines users n l → ⊥
      not_spoiled l c s = by (spoiled_how l s)
        where
          by : AreBoth l ⊎ ((x : Dtv) × IsFlowSide l x × IsSpoiledAt lines users l x n) → ⊥
          by (inl (x, y, e, f, g)) = idle.one_side x y (subst (Contains lines) e c) f g
          by (inr (x, f, (e, r))) = no_rival l x c f e r

-- the flags of those that no line spoils
pub are_idle : (lines : List Line) (users : List (Dtv × ℕ)) (spoiled : ℕ → Bool) → AreUsers lines (length lines) users →
    AreOfLines (IsSpoiledBy lines users) lines spoiled → AreIdle lines (λ n. not (spoiled n))
are_idle lines users spoiled are is n = (forth, back)
  where
    forth : not (spoiled n) ≡ true → IsIdle lines n
    forth e = idle_from lines users n are (λ l c s. true≢false (sym e ∙ ap not ((is n).1 (l, c, s))))

    back : IsIdle lines n → not (spoiled n) ≡ true
    back idle = elim (cases_Bool (spoiled n)) [
      | inl e ↦ (let s = (is n).0 e in absurd (not_spoiled lines users n are idle s.0 s.1 s.2))
      | inr e ↦ ap not e
    ]
