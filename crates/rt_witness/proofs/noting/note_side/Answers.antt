use Rattle.std.proofs.Common.{◌≡◌, ◌+◌, [], ◌∷◌, length, get_or, take, sym, ap, subst, ◌∙◌, arith}
use Rattle.std.proofs.lemmas.List.{take_all}
use Rattle.rt_lines.specs.declared.label.Label.TheVariants.{In}
use Rattle.rt_lines.specs.declared.label.Loc.TheVariants.{Arg}
use Rattle.rt_rules.specs.Rules.{longer}
use Rattle.rt_shape.specs.Graphs.{node_of, walk}
use Rattle.rt_shape.specs.Shapes.{IsFront}
use Rattle.rt_shape.proofs.Fronts.{front_of, front_of-more}
use Rattle.rt_shape.proofs.Walks.{node_of-extended}
use Rattle.rt_witness.proofs.Numbers.{AreKept-chain, noted_next}
use Rattle.rt_witness.proofs.noting.note_side.Goals as goal

pub loop-letter-preserved : goal.loop-letter-preserved
loop-letter-preserved c =
    let x = c.args.x.now in
    let n = c.loop-letter.letter-index in
    let letter = get_or c.items-letter-items.result.now n (In (Arg 0)) in
    let more : longer (front_of x n) letter ≡ front_of x (n + 1) =
    front_of-more x c.items-letter-items.result.now n (In (Arg 0)) c.items-letter-items.ensures.letters (omega arith) in
    let node : c.node_after-node.result ≡ node_of c.args.shape.now (front_of x (n + 1)) =
    c.node_after-node.ensures ∙ ap (λ o. walk c.args.shape.now.edges o (letter ∷ [])) c.loop-letter.invariant.node
    ∙ sym (node_of-extended c.args.shape.now (front_of x n) (letter ∷ [])) ∙ ap (node_of c.args.shape.now) more in
    record {
      letters = c.items-letter-items.ensures.letters;
      node = node;
      noted = λ y f. noted_next c.args.shape.now c.loop-letter.rows.items c.note-in-loop-letter.new.rows.items c.args.i (front_of x n)
          (front_of x (n + 1)) c.node_after-node.result y letter more node c.loop-letter.invariant.noted c.in_ok-note-2.ensures.kept
          c.in_ok-note-2.ensures.noted f;
      kept = AreKept-chain c.args.rows.now.items c.loop-letter.rows.items c.note-in-loop-letter.new.rows.items c.loop-letter.invariant.kept
          c.in_ok-note-2.ensures.kept;
    }

pub returns-clause-noted : goal.returns-clause-noted
returns-clause-noted c = λ y f.
    let whole : take c.loop-letter.letter-index c.args.x.now.word ≡ c.args.x.now.word =
    take_all c.loop-letter.letter-index c.args.x.now.word (omega (arith, ap length c.loop-letter.invariant.letters)) in
    c.loop-letter.invariant.noted y (subst (λ w. IsFront y (record { base = c.args.x.now.base; word = w })) (sym whole) f)
