use Rattle.std.proofs.Common.{Contains, refl, sym, ◌∙◌}
use Rattle.rt_sat.proofs.Telling.{told_edge}
use Rattle.rt_sat.proofs.hints.enter_lines.Goals as goal

pub enter_line-requires : goal.enter_line-requires
enter_line-requires c = (c.requires.0, c.loop-edge.invariant.family c.requires.0 c.requires.1)

pub loop-edge-init : goal.loop-edge-init
loop-edge-init c = record { same = refl; family = λ count f. f; told = λ known flips t. t; among = λ known flips edges within t. t; walked = λ edges within w. w }

pub loop-edge-preserved : goal.loop-edge-preserved
loop-edge-preserved c =
    let there : Contains c.args.lines.now c.edge-item.result = (c.loop-edge.edge-index, c.loop-edge-test.true, sym c.edge-item.is) in
    record {
      same = c.in_ok-enter_line.ensures.same ∙ c.loop-edge.invariant.same;
      family = λ count f. c.in_ok-enter_line.ensures.family count (c.loop-edge.invariant.family count f);
      told = λ known flips t. c.in_ok-enter_line.ensures.told known flips c.args.lines.now (told_edge known flips c.args.lines.now c.edge-item.result there) (c.loop-edge.invariant.told known flips t);
      among = λ known flips edges within t. c.in_ok-enter_line.ensures.told known flips edges (told_edge known flips edges c.edge-item.result (within c.edge-item.result there))
          (c.loop-edge.invariant.among known flips edges within t);
      walked = λ edges within w. c.in_ok-enter_line.ensures.walked edges (within c.edge-item.result there)
          (c.loop-edge.invariant.walked edges within w);
    }
