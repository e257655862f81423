use Rattle.std.proofs.Common.{arith, suc, ◌≡◌, ◌+◌, ◌*◌, ◌<◌, length, min}
use Rattle.rt_io.proofs.Appending.{appends_piece, appends_front}
use Rattle.rt_io.proofs.Pieces.{put_next, put_there}
use Rattle.rt_io.proofs.put.put_all.Goals as goal

pub loop-at-preserved : goal.loop-at-preserved
loop-at-preserved g c =
    let less : c.loop-at.at < length c.args.text.now = omega (arith, c.loop-at-test.true) in
    let ends : c.min-end.result ≡ min (length c.args.text.now) (c.loop-at.at + 4096) = omega (arith, c.min-end.ensures) in
    let is : c.loop-at.at ≡ min (c.loop-at.invariant.pieces * 4096) (length c.args.text.now) = c.loop-at.invariant.is_at in
    record {
      within = omega (arith, c.min-end.ensures);
      front = appends_piece _ _ _ _ _ _ (omega (arith, ends, less)) c.loop-at.invariant.front c.in-Ok.ensures.ok;
      counts = omega (arith, c.loop-at.invariant.counts, c.in-Ok.ensures.counted);
      pieces = suc c.loop-at.invariant.pieces;
      is_at = omega (arith, is, ends, less);
      begin = λ n before. omega (arith, is, less, before);
      put = put_next g.O.Sink.takes c.args.text.now c.loop-at.invariant.pieces c.loop-at.at c.min-end.result c.args.out.now c.loop-at.out c.put.new.self less is ends c.loop-at.invariant.put c.in-Ok.ensures.taken;
    }

pub returns-in-Err-clause-front : goal.returns-in-Err-clause-front
returns-in-Err-clause-front g c =
    let less : c.loop-at.at < length c.args.text.now = omega (arith, c.loop-at-test.true) in
    let ends : c.min-end.result ≡ min (length c.args.text.now) (c.loop-at.at + 4096) = omega (arith, c.min-end.ensures) in
    let is : c.loop-at.at ≡ min (c.loop-at.invariant.pieces * 4096) (length c.args.text.now) = c.loop-at.invariant.is_at in
    record {
      appended = appends_front _ _ _ _ _ _ c.loop-at.invariant.front c.in-Err.ensures.front;
      put = record {
        pieces = c.loop-at.invariant.pieces;
        within = omega (arith, is, less);
        middle = c.loop-at.out;
        put = c.loop-at.invariant.put;
        refused = put_there g.O.Sink.refuses c.args.text.now c.loop-at.invariant.pieces c.loop-at.at c.min-end.result c.loop-at.out c.put.new.self less is ends c.in-Err.ensures.refused;
      };
    }
