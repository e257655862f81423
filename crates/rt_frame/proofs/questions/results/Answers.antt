use Rattle.std.proofs.Common.{sym, subst, take}
use Rattle.std.specs.Prelude.{All}
use Rattle.std.proofs.lemmas.List.Elements.{All-filter, All-take}
use Rattle.rt_body.specs.Told.{reading_of, sites_in, IsDefWithin}
use Rattle.rt_frame.specs.Questions.{is_result}
use Rattle.rt_frame.proofs.questions.results.Goals as goal

pub returns-clause-within : goal.returns-clause-within
returns-clause-within c =
    let P = IsDefWithin (sites_in c.args.body.now) in
    let defs = c.reaching-defs.result.now in
    let tells = is_result (reading_of c.args.body.now) c.args.calls.now c.args.register in
    subst (All P) (sym c.loop-def.invariant) (All-filter tells P (take c.loop-def.def-index defs) (All-take P c.loop-def.def-index defs c.reaching-defs.ensures.within))
