use Rattle.std.proofs.Common.{◌≡◌}
use Rattle.std.proofs.lemmas.Bool.{eqb-true}
use Rattle.rt_earlier.proofs.Reaching.{same_reached}
use Rattle.rt_earlier.proofs.earlier.Earlier.are_one.Goals as goal

pub returns : goal.returns
returns c = λ e order lines x y sound a b.
    let same : c.class_of.result ≡ c.class_of-2.result = eqb-true c.class_of.result c.class_of-2.result e in
    same_reached order lines c.args.self.now.named x y c.args.i c.args.j c.class_of.result c.class_of-2.result a b
    (c.class_of.ensures order lines a.to sound a.at) (c.class_of-2.ensures order lines b.to sound b.at) same
