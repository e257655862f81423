use Rattle.std.proofs.Common.{ap, ◌∙◌, arith}
use Rattle.std.proofs.lemmas.Option.{slice_get_read}
use Rattle.rt_control.specs.Tables.{with_places}
use Rattle.rt_control.specs.Laws.{IsGood}
use Rattle.rt_proc.specs.Entries.{IsFunction, LeadsTo}
use Rattle.rt_proc.specs.Inside.Looks.{led_by}
use Rattle.rt_proc.proofs.Forms.{leads, good-led}
use Rattle.rt_proc.proofs.Inserted.{inserted-all}
use Rattle.rt_proc.proofs.Looking.{no-looks, looks-more, all-looks}
use Rattle.rt_proc.proofs.Walking.{begins, next-good, goes_on, ends, all}
use Rattle.rt_proc.proofs.reach.reach.Goals as goal

pub loop-index-init : goal.loop-index-init
loop-index-init c =
    let same = inserted-all c.new-found.result.places.items c.args.functions.now c.insert_all.new.self.places.items c.new-found.ensures.empty c.in_ok-insert_all.ensures.places in
    record {
      walking = begins (IsFunction c.args.source.now.object.now) (LeadsTo c.args.source.now.object.now c.args.source.now.ends.now) (IsGood c.args.source.now.object.now) c.insert_all.new.self.places.items
          (λ p. ((λ h. (c.requires.functions p).0 ((same p).0 h)), λ h. (same p).1 ((c.requires.functions p).1 h)))
          (λ p h. h.is_good);
      looks = no-looks c.args.source.now.object.now c.args.source.now.ends.now c.new-looks.result c.new-looks.ensures;
      kept = c.in_ok-insert_all.ensures.same;
    }

pub look_at-requires-clause-is_good : goal.look_at-requires-clause-is_good
look_at-requires-clause-is_good c =
    next-good (IsFunction c.args.source.now.object.now) (LeadsTo c.args.source.now.object.now c.args.source.now.ends.now) (IsGood c.args.source.now.object.now) c.loop-index.found.places.items c.loop-index.index c.index-place.result.now (slice_get_read c.loop-index.found.places.items c.len.result c.loop-index.index c.index-place.result.now (omega arith) c.loop-index-test.true c.index-place.ensures) c.loop-index.invariant.walking

pub loop-index-preserved : goal.loop-index-preserved
loop-index-preserved c =
    let led = c.in_ok-insert_all-2.ensures.places ∙ ap (with_places c.loop-index.found.places.items) (c.deref.ensures.value ∙ c.in_ok-led_by.ensures) in
    record {
      walking = goes_on (IsFunction c.args.source.now.object.now) (LeadsTo c.args.source.now.object.now c.args.source.now.ends.now) (IsGood c.args.source.now.object.now) c.loop-index.found.places.items (led_by c.in_ok-look.look) c.insert_all-in-loop-index.new.self.places.items
          c.loop-index.index c.index-place.result.now (slice_get_read c.loop-index.found.places.items c.len.result c.loop-index.index c.index-place.result.now (omega arith) c.loop-index-test.true c.index-place.ensures) led
          (leads c.args.source.now.object.now c.args.source.now.ends.now c.index-place.result.now c.in_ok-look.look c.in_ok-look.ensures) (good-led c.args.source.now.object.now c.args.source.now.ends.now c.index-place.result.now c.in_ok-look.look c.in_ok-look.ensures) c.loop-index.invariant.walking;
      looks = looks-more c.args.source.now.object.now c.args.source.now.ends.now c.loop-index.looks c.insert.new.self c.loop-index.found.places.items (led_by c.in_ok-look.look) c.insert_all-in-loop-index.new.self.places.items
          c.loop-index.index c.index-place.result.now c.in_ok-look.look (slice_get_read c.loop-index.found.places.items c.len.result c.loop-index.index c.index-place.result.now (omega arith) c.loop-index-test.true c.index-place.ensures) led c.in_ok-look.ensures c.in_ok-insert.ensures c.loop-index.invariant.looks;
      kept = c.in_ok-insert_all-2.ensures.same;
    }

pub returns-clause-reached : goal.returns-clause-reached
returns-clause-reached c =
    ends (IsFunction c.args.source.now.object.now) (LeadsTo c.args.source.now.object.now c.args.source.now.ends.now) (IsGood c.args.source.now.object.now) c.loop-index.found.places.items c.loop-index.index (omega arith) c.loop-index.invariant.walking

pub returns-clause-looks : goal.returns-clause-looks
returns-clause-looks c =
    all-looks c.args.source.now.object.now c.args.source.now.ends.now c.loop-index.looks c.loop-index.found.places.items c.loop-index.index (omega arith)
    (all (IsFunction c.args.source.now.object.now) (LeadsTo c.args.source.now.object.now c.args.source.now.ends.now) (IsGood c.args.source.now.object.now) c.loop-index.found.places.items c.loop-index.index (omega arith) c.loop-index.invariant.walking)
    c.loop-index.invariant.looks
