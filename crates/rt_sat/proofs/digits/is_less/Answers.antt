use Rattle.std.proofs.Common.{◌≡◌, ℕ, ◌+◌, ◌-◌, ◌<◌, ◌↔◌, Bool, true, false, get_or, drop, List, refl, subst, ap, arith}
use Rattle.std.specs.Prelude.{IsTrue, not}
use Rattle.std.specs.Bool.{beq}
use Rattle.rt_sat.specs.Counts.{digit_of, value_of}
use Rattle.rt_sat.proofs.Binary.{value-drop, less_from}
use Rattle.rt_sat.proofs.digits.is_less.Goals as goal

-- where the first digits from the top that differ are those
decided : (a b : List Bool) (i : ℕ) (x y : Bool) → x ≡ get_or a i false → y ≡ get_or b i false → (x ≡ y → ⊥) → value_of (drop (i + 1) a) ≡ value_of (drop (i + 1) b) →
    IsTrue y ↔ (value_of a < value_of b)
decided a b i true true e f n h = absurd (n refl)
decided a b i false false e f n h = absurd (n refl)
decided a b i true false e f n h =
    let less : value_of b < value_of a = less_from b a i (omega (arith, value-drop a i, value-drop b i, ap digit_of e, ap digit_of f, h)) in
    (λ t. absurd (cc), λ k. absurd (omega (arith, less, k)))
decided a b i false true e f n h =
    let less : value_of a < value_of b = less_from a b i (omega (arith, value-drop a i, value-drop b i, ap digit_of e, ap digit_of f, h)) in
    (λ t. less, λ k. refl)

apart : (b : Bool) → not (beq b b) ≡ true → ⊥
apart true e = absurd (cc)
apart false e = absurd (cc)

pub returns-then-x-y : goal.returns-then-x-y
returns-then-x-y c =
    let n : c.digit-x.result ≡ c.digit-y.result → ⊥ = λ e. (let f : not (beq c.digit-y.result c.digit-y.result) ≡ true = rw e at c.if-x-y.true in apart c.digit-y.result f) in
    let h : value_of (drop (c.loop-i.i - 1 + 1) c.args.a.now) ≡ value_of (drop (c.loop-i.i - 1 + 1) c.args.b.now) =
    subst (λ n. value_of (drop n c.args.a.now) ≡ value_of (drop n c.args.b.now)) (omega (arith, c.loop-i-test.true)) c.loop-i.invariant in
    decided c.args.a.now c.args.b.now (c.loop-i.i - 1) c.digit-x.result c.digit-y.result c.digit-x.ensures c.digit-y.ensures n h
