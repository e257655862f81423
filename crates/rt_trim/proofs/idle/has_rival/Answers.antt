use Rattle.std.proofs.Common.{◌<◌, ◌≤◌, length, ap, arith}
use Rattle.rt_lines.specs.declared.label.Label.TheVariants.{In}
use Rattle.rt_lines.specs.declared.label.Loc.TheVariants.{Arg}
use Rattle.rt_trim.proofs.Rivals.{front_next, none_next, rival_all, rival_front}
use Rattle.rt_trim.proofs.idle.has_rival.Goals as goal

pub returns-then-contains_key : goal.returns-then-contains_key
returns-then-contains_key c =
    let less : c.loop-letter.letter-index < length c.args.x.now.word =
    omega (arith, c.loop-letter-test.true, ap length c.items-letter-items.ensures.letters) in
    rival_front c.args.lines.now c.args.users.now.entries c.args.line.now c.args.x.now c.loop-letter.front c.loop-letter.letter-index
    c.contains_key.result less c.loop-letter.invariant.front c.contains_key.ensures c.if-contains_key.true

pub loop-letter-preserved : goal.loop-letter-preserved
loop-letter-preserved c =
    let less : c.loop-letter.letter-index < length c.args.x.now.word =
    omega (arith, c.loop-letter-test.true, ap length c.items-letter-items.ensures.letters) in
    record {
      letters = c.items-letter-items.ensures.letters;
      front = front_next c.args.x.now c.loop-letter.front c.items-letter-items.result.now c.loop-letter.letter-index (In (Arg 0))
          c.letter_as_load.result c.push.new.self c.items-letter-items.ensures.letters less c.loop-letter.invariant.front
          c.letter_as_load.ensures.is c.in_ok-push.ensures.ok;
      none = none_next c.args.lines.now c.args.users.now.entries c.args.line.now c.args.x.now c.loop-letter.front c.loop-letter.letter-index
          c.contains_key.result c.loop-letter.invariant.front c.contains_key.ensures c.if-contains_key.false c.loop-letter.invariant.none;
    }

pub returns : goal.returns
returns c =
    let whole : length c.args.x.now.word ≤ c.loop-letter.letter-index =
    omega (arith, c.loop-letter-test.false, ap length c.items-letter-items.ensures.letters) in
    rival_all c.args.lines.now c.args.users.now.entries c.args.line.now c.args.x.now c.loop-letter.front c.loop-letter.letter-index
    c.has_other_user.result c.loop-letter.invariant.front whole c.loop-letter.invariant.none c.has_other_user.ensures
