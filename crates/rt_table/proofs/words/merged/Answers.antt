use Rattle.std.proofs.Common.{◌≡◌, ◌-◌, ◌≤◌, ◌⊎◌, inl, inr, ◌++◌, length, drop, take, ap, ◌∙◌, arith}
use Rattle.std.proofs.lemmas.List.{length-drop, take_all}
use Rattle.rt_table.proofs.Merging.{merging-end}
use Rattle.rt_table.proofs.words.merged.Goals as goal
use Rattle.rt_table.proofs.words.merged.Goals.{then-loop-i-test+else-j-right, else-loop-i-test}

pub returns : goal.returns
returns c =
    let left = c.args.left.now in
    let right = c.args.right.now in
    let i = c.loop-i.i in
    let j = c.loop-i.j in
    let through : (length left ≤ i) ⊎ (length right ≤ j) =
    elim c.loop-i-test.branch [ then-loop-i-test+else-j-right w ↦ inr (omega arith) | else-loop-i-test w ↦ inl (omega arith) ]
    in
    let all_left : take (length left - i) (drop i left) ≡ drop i left = take_all (length left - i) (drop i left) (omega (arith, length-drop i left)) in
    let all_right : take (length right - j) (drop j right) ≡ drop j right = take_all (length right - j) (drop j right) (omega (arith, length-drop j right)) in
    c.in_ok-extend_from_slice-2.ensures.items ∙ ap (λ xs. xs ++ take (length right - j) (drop j right)) c.in_ok-extend_from_slice.ensures.items
    ∙ ap (λ xs. (c.loop-i.all.items ++ take (length left - i) (drop i left)) ++ xs) all_right ∙ ap (λ xs. (c.loop-i.all.items ++ xs) ++ drop j right) all_left
    ∙ merging-end left right c.loop-i.all.items i j c.loop-i.invariant through
