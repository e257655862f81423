use Rattle.std.proofs.Common.{rules}
use Rattle.std.proofs.lemmas.Result.{on_ok_weaker}
use Rattle.rt_cdecl.specs.Inside.Drafts.{IsAdded}
use Rattle.rt_cdecl.proofs.KindSets.{added_char, added_short, added_int, wide_left}
use Rattle.rt_cdecl.proofs.kinds.Kinds.add_scalar.Goals as goal

pub returns-in-8 : goal.returns-in-8
returns-in-8 c =
    on_ok_weaker c.add.result
    (λ (added : IsAdded c.self.inside.chars c.args.name.now c.add.new.self). added_char c.self.inside.unused c.self.inside.chars c.self.inside.shorts c.self.inside.ints c.args.self.now c.args.name.now c.args.bits c.add.new.self c.self.view_is c.in-8.is added)
    c.add.ensures

pub returns-in-16 : goal.returns-in-16
returns-in-16 c =
    on_ok_weaker c.add-in-16.result
    (λ (added : IsAdded c.self.inside.shorts c.args.name.now c.add-in-16.new.self). added_short c.self.inside.unused c.self.inside.chars c.self.inside.shorts c.self.inside.ints c.args.self.now c.args.name.now c.args.bits c.add-in-16.new.self c.self.view_is c.in-16.is added)
    c.add-in-16.ensures

pub returns-in_default : goal.returns-in_default
returns-in_default c =
    on_ok_weaker c.add-in_default.result
    (λ (added : IsAdded c.self.inside.ints c.args.name.now c.add-in_default.new.self). added_int c.self.inside.unused c.self.inside.chars c.self.inside.shorts c.self.inside.ints c.args.self.now c.args.name.now c.args.bits c.add-in_default.new.self c.self.view_is (wide_left c.args.bits c.requires (search rules) (search rules)) added)
    c.add-in_default.ensures
