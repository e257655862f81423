use Rattle.std.proofs.Common.{◌≡◌, ◌<◌, length, drop, sym, subst, arith, rules}
use Rattle.rt_lines.specs.declared.label.Variance.TheVariants.{Contra}
use Rattle.rt_lines.specs.Words.{variance_of_word}
use Rattle.rt_chain.specs.Numbers.{AreSpellings}
use Rattle.rt_chain.proofs.Digits.{Raised, raised}
use Rattle.rt_chain.proofs.next.Goals as goal

pub returns-then-eq-clause-spelling : goal.returns-then-eq-clause-spelling
returns-then-eq-clause-spelling c =
    let within : c.loop-i.i < length c.args.word.now = grind arith in
    let turned : c.loop-i.sign ≡ Contra = search rules in
    let sign : variance_of_word (drop c.loop-i.i c.args.word.now) ≡ Contra = grind (arith, c.loop-i.invariant.sign) in
    let r : Raised c.args.word.now c.args.flips.now c.loop-i.i = raised c.args.word.now c.args.flips.now c.loop-i.i c.requires.lengths within c.requires.pointers c.if-flips-i.true sign c.loop-i.invariant.ones in
    subst (AreSpellings c.args.flips.now c.args.word.now) (sym c.in_ok-exchanged.ensures) r.spells

pub returns-then-eq-clause-number : goal.returns-then-eq-clause-number
returns-then-eq-clause-number c =
    let within : c.loop-i.i < length c.args.word.now = grind arith in
    let turned : c.loop-i.sign ≡ Contra = search rules in
    let sign : variance_of_word (drop c.loop-i.i c.args.word.now) ≡ Contra = grind (arith, c.loop-i.invariant.sign) in
    let r : Raised c.args.word.now c.args.flips.now c.loop-i.i = raised c.args.word.now c.args.flips.now c.loop-i.i c.requires.lengths within c.requires.pointers c.if-flips-i.true sign c.loop-i.invariant.ones in
    rw c.in_ok-exchanged.ensures r.number
