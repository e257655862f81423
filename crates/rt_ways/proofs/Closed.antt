-- Arcs that are closed, and the closure.
use Rattle.std.proofs.Common.{◌≡◌, ℕ, ◌<◌, inl, inr, List, [], ◌∷◌, Contains, length, refl, sym, subst, ◌∙◌, arith}
use Rattle.rt_lines.specs.declared.variable.Dtv.{Dtv}
use Rattle.rt_components.specs.Groups.{Reaches}
use Rattle.rt_components.specs.Groups.Reaches.{there, onward}
use Rattle.rt_ways.specs.Arcs.{AreMore, AreRows, AreWithin, IsInRow}
use Rattle.rt_ways.specs.Pushes.{AreClosure, Closure, IsClosed, IsPushed}
use Rattle.rt_ways.specs.Pushes.Closure.{arc, stay, chain, co, contra}
use Rattle.rt_ways.specs.Pushes.IsPushed.{co as pushed_co, contra as pushed_contra}

-- arcs on the way to closed ones
pub record IsClosing (named : List Dtv) (first arcs : List (List ℕ)) : Type 0 where
  pub each : length arcs ≡ length named
  pub within : AreWithin arcs
  pub kept : (v w : ℕ) → IsInRow first v w → IsInRow arcs v w
  pub sound : (v w : ℕ) → IsInRow arcs v w → Closure named (IsInRow first) v w

pub closing_first : (named : List Dtv) (first : List (List ℕ)) → length first ≡ length named → AreWithin first → IsClosing named first first
closing_first named first e within = record { each = e; within = within; kept = λ v w c. c; sound = λ v w c. arc c }

reaches_closure : (named : List Dtv) (first arcs : List (List ℕ)) → ((v w : ℕ) → IsInRow arcs v w → Closure named (IsInRow first) v w) → {v w : ℕ} →
    Reaches (IsInRow arcs) v w → Closure named (IsInRow first) v w
reaches_closure named first arcs sound there = stay
reaches_closure named first arcs sound (onward {a} {b} e r) = chain (sound a b e) (reaches_closure named first arcs sound r)

append : (E : ℕ → ℕ → Type 0) → {u v w : ℕ} → Reaches E u v → Reaches E v w → Reaches E u w
append E there r = r
append E (onward e q) r = onward e (append E q r)

module _ (named : List Dtv) (first arcs rows : List (List ℕ)) (closing : IsClosing named first arcs) (are : AreRows (IsInRow arcs) (length arcs) rows) where
  -- what is in a row is of the closure
  pub row_sound : (v w : ℕ) → v < length named → IsInRow rows v w → Closure named (IsInRow first) v w
  row_sound v w h c =
      let less : v < length arcs = subst (λ n. v < n) (sym closing.each) h in
      reaches_closure named first arcs closing.sound ((are.row v less w).0 c)

  -- what is pushed from rows is of the closure
  pub pushed_sound : (v w : ℕ) → IsPushed named (IsInRow rows) v w → Closure named (IsInRow first) v w
  pushed_sound v w (pushed_co {p} {q} {l} s x y e) = let less : p < length named = x.parent in co s x y (row_sound p q less e)
  pushed_sound v w (pushed_contra {p} {q} {l} s x y e) = let less : q < length named = y.parent in contra s x y (row_sound q p less e)

  pub pushed_left : (v w : ℕ) → IsPushed named (IsInRow rows) v w → v < length arcs
  pushed_left v w (pushed_co s x y e) = subst (λ n. v < n) (sym closing.each) x.within
  pushed_left v w (pushed_contra s x y e) = subst (λ n. v < n) (sym closing.each) x.within

  pushed_right : (v w : ℕ) → IsPushed named (IsInRow rows) v w → w < length named
  pushed_right v w (pushed_co s x y e) = y.within
  pushed_right v w (pushed_contra s x y e) = y.within

  -- pushed arcs more
  pub closing_more : (fresh : List (ℕ × ℕ)) (new : List (List ℕ)) → ((v w : ℕ) → Contains fresh (v, w) → IsPushed named (IsInRow rows) v w) →
      AreMore (λ v w. Contains fresh (v, w)) arcs new → IsClosing named first new
  closing_more fresh new pushed more = record {
    each = more.each ∙ closing.each;
    within = λ v w c. subst (λ n. w < n) (sym (more.each ∙ closing.each)) (elim (more.only v w c) [
      | inl d ↦ subst (λ n. w < n) closing.each (closing.within v w d)
      | inr f ↦ pushed_right v w (pushed v w f)
    ]);
    kept = λ v w c. more.kept v w (closing.kept v w c);
    sound = λ v w c. (elim (more.only v w c) [ inl d ↦ closing.sound v w d | inr f ↦ pushed_sound v w (pushed v w f) ]);
  }

  -- the closure is reached
  reached : IsClosed named (IsInRow rows) → {v w : ℕ} → v < length named → Closure named (IsInRow first) v w → Reaches (IsInRow arcs) v w × (w < length named)
  reached closed {v} {w} h (arc e) = (onward (closing.kept v w e) there, subst (λ n. w < n) closing.each (closing.within v w (closing.kept v w e)))
  reached closed h stay = (there, h)
  reached closed {v} {w} h (chain {v = u} c d) =
      let a : Reaches (IsInRow arcs) v u × (u < length named) = reached closed h c in
      let b : Reaches (IsInRow arcs) u w × (w < length named) = reached closed a.1 d in
      (append (IsInRow arcs) a.0 b.0, b.1)
  reached closed {v} {w} h (co {p} {q} {l} s x y c) =
      let less : p < length named = x.parent in
      let a : Reaches (IsInRow arcs) p q × (q < length named) = reached closed less c in
      (from v w h (closed v w (pushed_co s x y (into p q less a.0))), y.within)
    where
      into : (v w : ℕ) → v < length named → Reaches (IsInRow arcs) v w → IsInRow rows v w
      into v w h r = (are.row v (subst (λ n. v < n) (sym closing.each) h) w).1 r

      from : (v w : ℕ) → v < length named → IsInRow rows v w → Reaches (IsInRow arcs) v w
      from v w h c = (are.row v (subst (λ n. v < n) (sym closing.each) h) w).0 c
  reached closed {v} {w} h (contra {p} {q} {l} s x y c) =
      let less : q < length named = y.parent in
      let a : Reaches (IsInRow arcs) q p × (p < length named) = reached closed less c in
      (from v w h (closed v w (pushed_contra s x y (into q p less a.0))), y.within)
    where
      into : (v w : ℕ) → v < length named → Reaches (IsInRow arcs) v w → IsInRow rows v w
      into v w h r = (are.row v (subst (λ n. v < n) (sym closing.each) h) w).1 r

      from : (v w : ℕ) → v < length named → IsInRow rows v w → Reaches (IsInRow arcs) v w
      from v w h c = (are.row v (subst (λ n. v < n) (sym closing.each) h) w).0 c

  pub closed_rows : IsClosed named (IsInRow rows) → AreClosure named (IsInRow first) rows
  closed_rows closed = record {
    each = are.each ∙ closing.each;
    row = λ v w h. (row_sound v w h, λ c. (are.row v (subst (λ n. v < n) (sym closing.each) h) w).1 (reached closed h c).0);
  }

pub no_items : {X : Type 0} (xs : List X) → length xs ≡ 0 → xs ≡ []
no_items [] e = refl
no_items (x ∷ xs) e = absurd (omega (arith, e))
