use Rattle.std.proofs.Common.{ℕ, ◌+◌, ◌<◌, Option, List, [], ◌∷◌, ◌++◌, length, get_or, sym, subst, arith}
use Rattle.std.specs.Prelude.{slice_index}
use Rattle.std.proofs.lemmas.List.Elements.{All-get_or}
use Rattle.rt_shape.specs.Inside.Classes.{IsNumberOf}
use Rattle.rt_shape.specs.Inside.Classes.IsNumberOf.{is_known, is_next}
use Rattle.rt_shape.proofs.Numbers.{AreNumbered, AreNumbered-known, AreNumbered-new, IsNumbering-all}
use Rattle.rt_shape.proofs.quotient.numbered.Goals as goal

-- one class more has a number
more : (class : List ℕ) (i : ℕ) (known after : List (Option ℕ)) (numbers : List ℕ) (count next number : ℕ) → AreNumbered class i known numbers count → slice_index class i < length class → IsNumberOf (slice_index class i) known count number after next →
    AreNumbered class (i + 1) after (numbers ++ number ∷ []) next
more class i known after numbers count next number are within (is_known e f g) = rw (f, g) (AreNumbered-known class i known numbers count are number e)
more class i known after numbers count next number are within (is_next e f g h) = rw (f, g, h) (AreNumbered-new class i known numbers count are within e)

pub number_of-number-requires-clause-known : goal.number_of-number-requires-clause-known
number_of-number-requires-clause-known c =
    let class = c.args.class.now in
    let here : get_or class c.loop-c.c-index 0 < length class = All-get_or (λ k. k < length class) class c.loop-c.c-index 0 (omega arith) c.requires.within in
    subst (λ n. get_or class c.loop-c.c-index 0 < n) (sym c.loop-c.invariant.size) here

pub number_of-number-requires-clause-few : goal.number_of-number-requires-clause-few
number_of-number-requires-clause-few c = let few = c.loop-c.invariant.few in let all = c.requires.few in omega arith

pub loop-c-preserved : goal.loop-c-preserved
loop-c-preserved c =
    let class = c.args.class.now in
    let i = c.loop-c.c-index in
    let here : get_or class i 0 < length class = All-get_or (λ k. k < length class) class i 0 (omega arith) c.requires.within in
    rw c.in_ok-push.ensures.items (more class i c.loop-c.known.items c.number_of-number.new.known.items c.loop-c.numbers.items c.loop-c.count c.number_of-number.new.count c.number_of-number.result c.loop-c.invariant here c.number_of-number.ensures)

pub returns : goal.returns
returns c = IsNumbering-all c.args.class.now c.loop-c.c-index c.loop-c.known.items c.loop-c.numbers.items c.loop-c.count c.loop-c.invariant (omega arith)
