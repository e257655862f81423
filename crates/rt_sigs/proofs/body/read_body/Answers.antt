use Rattle.std.proofs.Common.{◌+◌, subst, sym, ◌∙◌}
use Rattle.rt_sigs.specs.Inside.Readings.{IsReadTo}
use Rattle.rt_sigs.proofs.Parts.{read-more, body_fault, no_end}
use Rattle.rt_sigs.proofs.body.read_body.Goals as goal

pub returns-in-Err : goal.returns-in-Err
returns-in-Err c =
    body_fault _ _ _ _ _ _ _ _ _ _ c.loop-line.invariant.read c.in-Some.ensures (no_end _ _ _ c.eq.ensures c.if-eq.false c.as_slice.ensures) c.in-Err.ensures

pub loop-line-preserved : goal.loop-line-preserved
loop-line-preserved c = record {
  own = c.in-Ok-push.ensures.base ∙ c.loop-line.invariant.own;
  read =
      subst (λ lines. IsReadTo c.args.names.now c.args.args c.args.text.now c.args.first lines c.in-Some.more.now (c.loop-line.number + 1)) (sym c.in-Ok-push.ensures.ok)
      (read-more _ _ _ _ _ _ _ _ _ _ c.loop-line.invariant.read c.in-Some.ensures c.in-Ok.ensures);
}
