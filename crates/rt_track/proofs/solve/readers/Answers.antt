use Rattle.std.proofs.Common.{arith}
use Rattle.std.specs.Prelude.{slice_index_or}
use Rattle.std.proofs.lemmas.Option.{slice_get-get_or}
use Rattle.rt_track.specs.declared.value.Value.TheVariants.{Const}
use Rattle.rt_track.specs.declared.nodes.Node.TheVariants.{Fixed}
use Rattle.rt_track.proofs.Noting.{goes_on, ends}
use Rattle.rt_track.proofs.solve.readers.Goals as goal

pub loop-reader-preserved : goal.loop-reader-preserved
loop-reader-preserved c =
    goes_on c.args.nodes.now c.loop-reader.reader c.loop-reader.readers.items c.note_inputs.new.readers.items (slice_index_or c.args.nodes.now c.loop-reader.reader (Fixed (Const 0)))
    (slice_get-get_or c.args.nodes.now c.loop-reader.reader (Fixed (Const 0)) c.loop-reader-test.true) c.loop-reader.invariant c.in_ok-note_inputs.ensures

pub returns : goal.returns
returns c = ends c.args.nodes.now c.loop-reader.reader c.loop-reader.readers.items (omega arith) (omega arith) c.loop-reader.invariant
