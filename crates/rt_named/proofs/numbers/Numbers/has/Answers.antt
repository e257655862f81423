use Rattle.std.proofs.Common.{◌∙◌, sym, subst, Contains}
use Rattle.rt_named.proofs.numbers.Numbers.has.Goals as goal
use Rattle.rt_base.proofs.Lists.{found_from, found_to}

pub returns : goal.returns
returns c = (
  λ e. subst (λ keys. Contains keys c.args.number) c.self.view_is (found_from c.self.inside.keys.keys c.args.number (sym c.contains.ensures ∙ e)),
  λ h. c.contains.ensures ∙ found_to c.self.inside.keys.keys c.args.number (subst (λ keys. Contains keys c.args.number) (sym c.self.view_is) h),
)
