use Rattle.std.proofs.Common.{◌≡◌, ◌+◌, [], ◌∷◌, ◌++◌, Contains, take, sym, subst, arith}
use Rattle.std.proofs.lemmas.List.{take_all}
use Rattle.std.proofs.lemmas.List.Elements.{Contains-get_or}
use Rattle.rt_lines.specs.declared.variable.Dtv.{Dtv}
use Rattle.rt_lines.specs.declared.line.Line.{Line}
use Rattle.rt_rules.specs.Rules.{HasSide}
use Rattle.rt_shape.specs.Graphs.{Has}
use Rattle.rt_shape.proofs.Named.{turn}
use Rattle.rt_emit.specs.Inside.Letters.{with_edges}
use Rattle.rt_emit.proofs.Lettering.{side_there, next_spelled, are_letters}
use Rattle.rt_emit.proofs.letters.letters_of.Goals as goal

pub enter_line-requires-clause-there : goal.enter_line-requires-clause-there
enter_line-requires-clause-there c =
    let stands : Contains c.args.lines.now c.line-item.result =
    subst (Contains c.args.lines.now) (sym c.line-item.is)
    (Contains-get_or c.args.lines.now c.loop-line.line-index c.line-item.result (omega arith)) in
    λ x h. side_there c.args.lines.now c.args.shape.now c.requires c.line-item.result x stands h

pub loop-line-preserved : goal.loop-line-preserved
loop-line-preserved c =
    let more : take (c.loop-line.line-index + 1) c.args.lines.now ≡ take c.loop-line.line-index c.args.lines.now ++ c.line-item.result ∷
    [] =
    turn c.args.lines.now c.loop-line.line-index c.line-item.result (omega arith) c.line-item.is in
    record {
      good = c.in_ok-enter_line.ensures.good;
      after = c.in_ok-enter_line.ensures.after;
      spelled = subst (λ ls. (line : Line) (x : Dtv) → Contains ls line → HasSide line x →
          Has (with_edges c.args.shape.now c.enter_line.new.edges.entries) x) (sym more)
          (next_spelled (take c.loop-line.line-index c.args.lines.now) c.line-item.result c.args.shape.now c.loop-line.edges.entries
          c.enter_line.new.edges.entries
          c.in_ok-enter_line.ensures.kept c.loop-line.invariant.spelled c.in_ok-enter_line.ensures.walked);
    }

pub returns : goal.returns
returns c =
    let whole : take c.loop-line.line-index c.args.lines.now ≡ c.args.lines.now =
    take_all c.loop-line.line-index c.args.lines.now (omega arith) in
    are_letters c.args.lines.now c.args.shape.now c.requires c.loop-line.edges.entries c.loop-line.invariant.good
    (subst (λ ls. (line : Line) (x : Dtv) → Contains ls line → HasSide line x →
    Has (with_edges c.args.shape.now c.loop-line.edges.entries) x) whole c.loop-line.invariant.spelled)
    c.loop-line.letters c.loop-line.invariant.after
