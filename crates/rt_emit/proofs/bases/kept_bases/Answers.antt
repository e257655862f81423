use Rattle.std.proofs.Common.{◌≡◌, List, [], fold, take, ap, sym, subst, ◌∙◌, arith}
use Rattle.std.specs.List.{flat_map}
use Rattle.std.proofs.lemmas.List.{take_all}
use Rattle.indexmap.specs.IndexSet.{insert_key}
use Rattle.rt_lines.specs.declared.variable.Base.{Base}
use Rattle.rt_lines.specs.declared.line.Line.{Line}
use Rattle.rt_lines.specs.Equality.{base_eq}
use Rattle.rt_emit.specs.Inside.Bases.{existential_bases, fixed_bases, AreKeptBases}
use Rattle.rt_emit.proofs.KeptBases.{kept_are}
use Rattle.rt_emit.proofs.bases.kept_bases.Goals as goal

abbrev kept : List Line → List Line → List Base
kept flow lines = fold (insert_key base_eq) (fold (insert_key base_eq) [] (flat_map existential_bases flow)) (flat_map fixed_bases lines)

pub returns : goal.returns
returns c =
    let whole : take c.loop-line-2.line-index c.args.lines.now ≡ c.args.lines.now =
    take_all c.loop-line-2.line-index c.args.lines.now (omega arith) in
    subst (AreKeptBases c.args.lines.now) (sym (c.loop-line-2.invariant ∙ ap (kept c.args.flow.now) whole ∙
    ap (λ flow. kept flow c.args.lines.now) c.requires.flow))
    (kept_are c.args.lines.now c.requires.scheme)
