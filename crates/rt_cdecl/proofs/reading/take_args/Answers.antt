use Rattle.std.proofs.Common.{◌≡◌, ◌+◌, ◌∷◌, ◌++◌, [], ap, sym, subst, ◌∙◌}
use Rattle.rt_lines.specs.declared.label.Loc.{Loc}
use Rattle.rt_cdecl.specs.GoodDecls.{place_of}
use Rattle.rt_cdecl.proofs.ArgTexts.{AreTaken, taken_more, taken_last, taken_fault, taken_full}
use Rattle.rt_cdecl.proofs.reading.take_args.Goals as goal

pub returns-in-Err : goal.returns-in-Err
returns-in-Err c = λ arg args good same. taken_fault c.args.text.now c.loop-i.i c.loop-i.args c.loop-i.rest.now c.loop-i.invariant c.in-Err.ensures arg args good same

pub returns-in-None : goal.returns-in-None
returns-in-None c =
    λ arg args good same.
    let pushed : c.push.new.self ≡ c.loop-i.args ++ (place_of c.loop-i.i, c.in-Ok.taken.0) ∷ [] = c.in-Ok-push.ensures.ok ∙ ap (λ (l : Loc). c.loop-i.args ++ (l, c.in-Ok.taken.0) ∷ []) c.place.ensures in
    pushed ∙ taken_last c.args.text.now c.loop-i.i c.loop-i.args c.loop-i.rest.now c.in-Ok.taken.1.now c.after_place.result.now c.in-Ok.taken.0 c.loop-i-test.true c.loop-i.invariant c.in-Ok.ensures c.after_place.ensures c.in-None.ensures arg args good same

pub loop-i-preserved : goal.loop-i-preserved
loop-i-preserved c =
    λ arg args good same.
    let pushed : c.push.new.self ≡ c.loop-i.args ++ (place_of c.loop-i.i, c.in-Ok.taken.0) ∷ [] = c.in-Ok-push.ensures.ok ∙ ap (λ (l : Loc). c.loop-i.args ++ (l, c.in-Ok.taken.0) ∷ []) c.place.ensures in
    subst (λ done. AreTaken (arg ∷ args) (c.loop-i.i + 1) done c.in-Some.next.now) (sym pushed)
    (taken_more c.args.text.now c.loop-i.i c.loop-i.args c.loop-i.rest.now c.in-Ok.taken.1.now c.after_place.result.now c.in-Some.next.now c.in-Ok.taken.0 c.loop-i-test.true c.loop-i.invariant c.in-Ok.ensures c.after_place.ensures c.in-Some.ensures arg args good same)

pub returns : goal.returns
returns c = λ arg args good same. absurd (taken_full c.args.text.now c.loop-i.args c.loop-i.rest.now c.loop-i.i c.loop-i-test.false c.loop-i.invariant arg args good same)
