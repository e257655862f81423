use Rattle.rt_earlier.proofs.Reaching.{reach_self}
use Rattle.rt_earlier.proofs.earlier.Earlier.class_of.Goals as goal

pub returns-in-None : goal.returns-in-None
returns-in-None c = λ order lines x sound e. record {
  from = x;
  at = e;
  reaches = reach_self order lines c.args.self.now.named x c.args.number e (sound.there c.args.number x e);
}
