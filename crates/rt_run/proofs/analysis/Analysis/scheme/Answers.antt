use Rattle.std.proofs.Common.{◌∙◌, ap, sym}
use Rattle.rt_scheme.specs.declared.scheme.Scheme.{Scheme}
use Rattle.rt_run.proofs.Sketching.{has_scheme, scheme_is, scheme_there}
use Rattle.rt_run.proofs.analysis.Analysis.scheme.Goals as goal

pub unreachable-requires : goal.unreachable-requires
unreachable-requires c =
    scheme_there c.args.self.now c.args.number (has_scheme c.args.self.now c.args.number c.requires.analysis c.requires.number) c.in-None.ensures

pub returns-clause-own : goal.returns-clause-own
returns-clause-own c =
    let has = has_scheme c.args.self.now c.args.number c.requires.analysis c.requires.number in
    sym (ap (λ (s : Scheme). s.base) (scheme_is c.args.self.now c.args.number c.in-Some.scheme.now has (sym c.in-Some.ensures))) ∙ has.own
