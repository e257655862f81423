use Rattle.std.proofs.Common.{◌≡◌, ◌<◌, ◌∙◌, ap, arith, get_or, length, subst}
use Rattle.rt_run.specs.Inside.Analyses.{procs_in}
use Rattle.rt_run.proofs.Sketching.{drawn_next, drawn_whole}
use Rattle.rt_run.proofs.sketches.sketches_text.Goals as goal

pub loop-place-preserved : goal.loop-place-preserved
loop-place-preserved c =
    let analysis = c.in_ok-analysis.analysis in
    let place = c.loop-place.place in
    let shown : c.items-proc-items.result.now ≡ procs_in analysis = c.items-proc-items.ensures ∙ c.procs.ensures.procs in
    drawn_next analysis place c.proc-item.result c.loop-place.text.items c.push_sketch.new.text.items c.loop-place.invariant
    (subst (λ l. c.proc-item.result ≡ get_or l place c.proc-item.result) shown c.proc-item.is) (subst (λ l. place < length l) shown c.loop-place-test.true)
    c.in_ok-push_sketch.ensures

pub returns : goal.returns
returns c =
    let analysis = c.in_ok-analysis.analysis in
    let shown : c.items-proc-items.result.now ≡ procs_in analysis = c.items-proc-items.ensures ∙ c.procs.ensures.procs in
    let is : c.loop-place.place ≡ length (procs_in analysis) = omega (arith, c.loop-place.auto.place-end, c.loop-place-test.false, ap length shown) in
    drawn_whole c.args.program.now.object c.args.program.now.procs c.args.lattice.now c.args.sigs.now analysis c.loop-place.place c.loop-place.text.items
    c.requires.in_profile c.in_ok-analysis.ensures.is_analysis c.in_ok-analysis.ensures.object c.in_ok-analysis.ensures.procs c.in_ok-analysis.ensures.signatures
    c.in_ok-analysis.ensures.lattice is c.loop-place.invariant
