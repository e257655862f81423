use Rattle.rt_reduce.proofs.Flags.{set_again}
use Rattle.rt_reduce.proofs.dropping.goes.Goals as goal

pub returns : goal.returns
returns c = set_again c.args.stands.now.items c.args.place c.requires.stood
