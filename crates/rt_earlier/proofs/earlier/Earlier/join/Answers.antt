use Rattle.std.proofs.lemmas.Result.{on_ok_weaker}
use Rattle.rt_earlier.proofs.Reaching.{one_back, classes_one}
use Rattle.rt_earlier.proofs.earlier.Earlier.join.Goals as goal

pub returns-then-count : goal.returns-then-count
returns-then-count c =
    let s = c.args.self.now in
    let a = c.class_of-a.result in
    let b = c.class_of-b.result in
    on_ok_weaker c.rename.result (λ after order lines sound one.
    after order lines sound
    (classes_one order lines s.named c.args.i c.args.j a b one (c.class_of-a.ensures order lines one.from sound one.at) (c.class_of-b.ensures order lines one.reaches.to sound one.reaches.at)))
    c.rename.ensures

pub returns-else-count : goal.returns-else-count
returns-else-count c =
    let s = c.args.self.now in
    let a = c.class_of-a.result in
    let b = c.class_of-b.result in
    on_ok_weaker c.rename-else-count.result (λ after order lines sound one.
    after order lines sound
    (one_back order lines s.named a b (classes_one order lines s.named c.args.i c.args.j a b one (c.class_of-a.ensures order lines one.from sound one.at) (c.class_of-b.ensures order lines one.reaches.to sound one.reaches.at))))
    c.rename-else-count.ensures
