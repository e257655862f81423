use Rattle.std.proofs.Common.{◌≡◌, ℕ, ◌+◌, ◌*◌, ◌++◌, ◌∷◌, [], ◌≤◌, Bool, true, false, List, get_or, drop, length, sym, subst, ap, ◌∙◌, arith}
use Rattle.rt_sat.specs.Counts.{digit_of, value_of}
use Rattle.rt_sat.proofs.Binary.{value_onto, value_onto-push, value_onto-none, value-drop, value-past}
use Rattle.rt_sat.proofs.digits.sum.Goals as goal
use Rattle.rt_sat.proofs.digits.sum.Goals.{then-carried+in_ok-push-2, else-carried}

-- a digit more
step : (s a b : List Bool) (i total : ℕ) (x y c h n : Bool) → x ≡ get_or a i false → y ≡ get_or b i false → digit_of x + digit_of y + digit_of c ≡ digit_of h + 2 * digit_of n →
    value_onto s (digit_of c + value_of (drop i a) + value_of (drop i b)) ≡ total →
    value_onto (s ++ h ∷ []) (digit_of n + value_of (drop (i + 1) a) + value_of (drop (i + 1) b)) ≡ total
step s a b i total x y c h n e f g w =
    value_onto-push s h (digit_of n + value_of (drop (i + 1) a) + value_of (drop (i + 1) b))
    ∙ ap (value_onto s) (omega (arith, value-drop a i, value-drop b i, ap digit_of e, ap digit_of f, g)) ∙ w

-- the last carry
last : (s a b : List Bool) (i total : ℕ) (c : Bool) → length a ≤ i → length b ≤ i →
    value_onto s (digit_of c + value_of (drop i a) + value_of (drop i b)) ≡ total → value_onto s (digit_of c) ≡ total
last s a b i total c h k w = ap (value_onto s) (omega (arith, value-past a i h, value-past b i k)) ∙ w

carried : (s : List Bool) (c : Bool) → c ≡ true → value_of (s ++ true ∷ []) ≡ value_onto s (digit_of c)
carried s c e = sym (value_onto-none (s ++ true ∷ [])) ∙ value_onto-push s true 0 ∙ ap (λ b. value_onto s (digit_of b)) (sym e)

none : (s : List Bool) (c : Bool) → c ≡ false → value_of s ≡ value_onto s (digit_of c)
none s c e = sym (value_onto-none s) ∙ ap (λ b. value_onto s (digit_of b)) (sym e)

pub loop-i-preserved : goal.loop-i-preserved
loop-i-preserved c =
    subst (λ s. value_onto s (digit_of c.added-here.result.1 + value_of (drop (c.loop-i.i + 1) c.args.a.now) + value_of (drop (c.loop-i.i + 1) c.args.b.now)) ≡ value_of c.args.a.now + value_of c.args.b.now + digit_of c.args.carry)
    (sym c.in_ok-push.ensures.items)
    (step c.loop-i.sum.items c.args.a.now c.args.b.now c.loop-i.i (value_of c.args.a.now + value_of c.args.b.now + digit_of c.args.carry) c.digit.result c.digit-in-loop-i.result c.loop-i.carried c.added-here.result.0 c.added-here.result.1
    c.digit.ensures c.digit-in-loop-i.ensures c.added-here.ensures c.loop-i.invariant)

pub returns : goal.returns
returns c =
    let total = value_of c.args.a.now + value_of c.args.b.now + digit_of c.args.carry in
    let w : value_onto c.loop-i.sum.items (digit_of c.loop-i.carried) ≡ value_of c.args.a.now + value_of c.args.b.now + digit_of c.args.carry =
    last c.loop-i.sum.items c.args.a.now c.args.b.now c.loop-i.i total c.loop-i.carried (omega (arith, c.loop-i-test.false, c.max-i-end.ensures)) (omega (arith, c.loop-i-test.false, c.max-i-end.ensures)) c.loop-i.invariant in
    elim c.if-carried.branch [
      | then-carried+in_ok-push-2 v ↦
          ap (λ s. value_of s.items) v.sum-is ∙ ap value_of v.in_ok-push-2.ensures.items ∙ carried c.loop-i.sum.items c.loop-i.carried v.if-carried.true ∙ w
      | else-carried v ↦ ap (λ s. value_of s.items) v.sum-is ∙ none c.loop-i.sum.items c.loop-i.carried v.if-carried.false ∙ w
    ]
