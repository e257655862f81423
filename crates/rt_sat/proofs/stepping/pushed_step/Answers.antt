use Rattle.std.proofs.Common.{ℕ, ◌<◌, get_or, refl, arith}
use Rattle.rt_sat.proofs.ToldPushes.{end_told}
use Rattle.rt_sat.proofs.stepping.pushed_step.Goals as goal

pub returns-clause-told : goal.returns-clause-told
returns-clause-told c = λ known flips lines members into from to first last told.
    let target = c.args.target.now in
    let row = c.args.row.now in
    let rooted : ℕ = get_or row target.place 0 in
    let few : rooted < 255 = omega (arith, c.type_inv.row target.place, c.if-rooted.false) in
    end_told known flips lines members row into c.args.source.now target rooted c.in_ok-way.way c.in_ok-count.count from to first last c.if-target-source.false told c.requires.parent refl few c.in_ok-way.ensures.passed c.in_ok-count.ensures.push
