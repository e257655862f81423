use Rattle.std.proofs.Common.{map, sym, ◌∙◌, arith}
use Rattle.rt_sketch.proofs.Entering.{entered_next, entered_none, good_among, not_among}
use Rattle.rt_sketch.proofs.rows.enter_edge.Goals as goal

pub returns-then-not-contains : goal.returns-then-not-contains
returns-then-not-contains c =
    entered_none c.args.shape.now c.args.letters.now.keys c.args.i (map (λ r. r.keys) c.args.rows.now.items) c.requires.entered c.edge-from.result.0 c.edge-from.result.1 c.edge-from.result.2 c.edge-from.ensures.entry
    (not_among c.args.letters.now.keys c.edge-from.result.1 (sym c.contains.ensures ∙ c.if-not-contains.true))

pub returns : goal.returns
returns c =
    entered_next c.args.shape.now c.args.letters.now.keys c.args.i (map (λ r. r.keys) c.args.rows.now.items) c.requires.entered c.edge-from.result.0 c.edge-from.result.1 c.edge-from.result.2 c.edge-from.ensures.entry
    (map (λ r. r.keys) c.enter.new.rows.items) (let size = c.requires.entered.size in let within = c.edge-from.ensures.within.0 in omega arith)
    (good_among c.args.letters.now.keys c.edge-from.result.1 c.requires.letters (sym c.contains.ensures ∙ c.if-not-contains.false)) c.in_ok-enter.ensures
