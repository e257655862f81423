use Rattle.std.proofs.Common.{◌≡◌, ◌++◌, ◌∷◌, [], ◌+◌, ◌-◌, length, replicate, decimal, refl, sym, ap, ◌∙◌, arith, rules, append_assoc, append-nil}
use Rattle.rt_settle.specs.Sorted.{padded}
use Rattle.rt_settle.proofs.Naming.{added, replicate-push}
use Rattle.rt_settle.proofs.ordering.push_padded.Goals as goal

pub loop-init : goal.loop-init
loop-init c =
    let e : c.len-counter.result ≡ length c.print_number.new.out.items = search rules in
    let z : c.len-counter.result - length c.print_number.new.out.items ≡ 0 = omega (arith, e) in
    (omega (arith, e), omega (arith, e), rw (z, append-nil) refl)

pub loop-preserved : goal.loop-preserved
loop-preserved c =
    let n = length c.print_number.new.out.items in
    let (low, high, is) = c.loop.invariant in
    let lt = c.loop-test.true in
    let more : c.loop.counter + 1 - n ≡ (c.loop.counter - n) + 1 = omega arith in (
      omega arith,
      omega arith,
      c.in_ok-push.ensures.items ∙ ap (λ xs. xs ++ 48 ∷ []) is ∙ append_assoc c.args.out.now.items (replicate (c.loop.counter - n) 48) (48 ∷ [])
          ∙ ap (λ xs. c.args.out.now.items ++ xs) (replicate-push (c.loop.counter - n) 48) ∙ ap (λ m. c.args.out.now.items ++ replicate m 48) (sym more),
    )

pub returns : goal.returns
returns c =
    let digits : c.print_number.new.out.items ≡ decimal c.args.number = search rules in
    let (low, high, is) = c.loop.invariant in
    let past = c.loop-test.false in
    let m : c.loop.counter - length c.print_number.new.out.items ≡ 3 - length c.print_number.new.out.items = omega arith in
    let all : c.loop.out.items ++ c.deref.result.now ≡ c.args.out.now.items ++ padded c.args.number =
    ap (λ xs. c.loop.out.items ++ xs) (c.deref.ensures.value ∙ digits)
    ∙ ap (λ xs. xs ++ decimal c.args.number) (is ∙ ap (λ n. c.args.out.now.items ++ replicate n 48) (m ∙ ap (λ xs. 3 - length xs) digits))
    ∙ append_assoc c.args.out.now.items (replicate (3 - length (decimal c.args.number)) 48) (decimal c.args.number) in
    added c.extend_from_slice.result c.extend_from_slice.new.self.items c.loop.out.items c.deref.result.now (c.args.out.now.items ++ padded c.args.number) c.extend_from_slice.ensures.items all
