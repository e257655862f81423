use Rattle.std.proofs.Common.{[], refl}
use Rattle.rt_named.specs.Naming.{named as named_by}
use Rattle.rt_equals.proofs.Outlining.{outer_of}
use Rattle.rt_equals.proofs.comparison.outer_classes.Goals as goal

pub returns : goal.returns
returns c =
    outer_of c.args.lines.now (named_by c.args.lines.now []) c.args.outer.now c.in_ok-classes.classes.count c.in_ok-classes.classes.numbers.items
    c.requires refl c.in_ok-classes.ensures
