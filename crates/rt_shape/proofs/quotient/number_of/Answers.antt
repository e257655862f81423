use Rattle.std.proofs.Common.{None, refl, sym, ◌∙◌}
use Rattle.std.proofs.lemmas.List.{get_or_read}
use Rattle.rt_shape.specs.Inside.Classes.IsNumberOf.{is_known, is_next}
use Rattle.rt_shape.proofs.quotient.number_of.Goals as goal

pub returns-in-Some : goal.returns-in-Some
returns-in-Some c = is_known (sym (get_or_read c.args.known.now.items c.args.class c.index.result.now c.requires.known c.index.ensures None) ∙ c.in-Some.is) refl refl

pub returns-in-None : goal.returns-in-None
returns-in-None c = is_next (sym (get_or_read c.args.known.now.items c.args.class c.index.result.now c.requires.known c.index.ensures None) ∙ c.in-None.is) refl refl refl
