use Rattle.std.proofs.Common.{◌≡◌, ◌∙◌, ◌+◌, ap, get_or, length, sym, subst, arith}
use Rattle.std.proofs.lemmas.List.{length_push}
use Rattle.rt_proc.specs.declared.proc.Proc.{Proc}
use Rattle.rt_body.specs.declared.body.Body.{Body}
use Rattle.rt_body.specs.Readable.{IsReadable}
use Rattle.rt_body.specs.Right.{IsReading}
use Rattle.rt_body.specs.Told.{reading_of}
use Rattle.rt_table.proofs.Framings.{each-more}
use Rattle.rt_table.proofs.preparation.bodies_of.Goals as goal

pub read-requires-clause-readable : goal.read-requires-clause-readable
read-requires-clause-readable c =
    let i = c.loop-proc.proc-index in
    let proc = c.proc-item.result in
    subst IsReadable (sym (c.proc-item.is ∙ ap (λ procs. get_or procs i proc) c.items-proc-items.ensures))
    (c.requires.readable i proc (omega (arith, ap length c.items-proc-items.ensures)))

pub loop-proc-preserved : goal.loop-proc-preserved
loop-proc-preserved c = record {
  one_each = ap length c.in_ok-push.ensures.items ∙ length_push c.loop-proc.bodies.items c.in_ok-read.field-0 ∙ ap (λ n. n + 1) c.loop-proc.invariant.one_each;
  each = each-more (λ (proc : Proc) (body : Body). IsReading c.args.object.now proc (reading_of body)) c.items-proc-items.result.now c.loop-proc.bodies.items c.push.new.self.items
      c.loop-proc.proc-index c.proc-item.result c.in_ok-read.field-0 c.loop-proc-test.true c.proc-item.is c.loop-proc.invariant.one_each c.loop-proc.invariant.each
      c.in_ok-read.ensures c.in_ok-push.ensures.items;
}

pub returns : goal.returns
returns c = record {
  one_each = omega (arith, ap length c.items-proc-items.ensures);
  each = λ q proc body less.
      subst (λ procs. IsReading c.args.object.now (get_or procs q proc) (reading_of (get_or c.loop-proc.bodies.items q body))) c.items-proc-items.ensures
      (c.loop-proc.invariant.each q proc body (omega (arith, ap length c.items-proc-items.ensures)));
}
