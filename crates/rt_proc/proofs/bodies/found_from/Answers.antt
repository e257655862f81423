use Rattle.std.proofs.Common.{◌≡◌, [], ◌∷◌, ap, ◌∙◌, arith}
use Rattle.std.proofs.lemmas.Option.{slice_get_read}
use Rattle.rt_control.specs.Tables.{with_places}
use Rattle.rt_link.specs.declared.place.Place.{Place}
use Rattle.rt_proc.specs.Bodies.{StepsTo}
use Rattle.rt_proc.specs.Inside.Looks.{stepped_by}
use Rattle.rt_proc.proofs.EntrySets.{reached-body}
use Rattle.rt_proc.proofs.Inserted.{inserted-all}
use Rattle.rt_proc.proofs.Staying.{stepped, one-place}
use Rattle.rt_proc.proofs.Walking.{begins, next-walked, goes_on, ends}
use Rattle.rt_proc.proofs.bodies.found_from.Goals as goal

pub loop-index-init : goal.loop-index-init
loop-index-init c =
    let same = inserted-all c.new-found.result.places.items (c.args.own ∷ []) c.insert.new.self.places.items c.new-found.ensures.empty c.in_ok-insert.ensures.places in
    record {
      walking = begins (λ (p : Place). p ≡ c.args.own) (StepsTo c.args.code.now.source.object.now c.args.code.now.source.ends.now c.args.own) (λ (p : Place). Unit {0}) c.insert.new.self.places.items
          (λ p. ((λ h. (one-place c.args.own p).0 ((same p).0 h)), λ h. (same p).1 ((one-place c.args.own p).1 h)))
          (λ p h. tt);
      kept = c.in_ok-insert.ensures.same;
    }

pub look-look-requires-clause-reached : goal.look-look-requires-clause-reached
look-look-requires-clause-reached c =
    reached-body c.args.code.now.source.object.now c.args.code.now.source.ends.now c.args.own c.index.result.now c.requires.entry
    (next-walked (λ (p : Place). p ≡ c.args.own) (StepsTo c.args.code.now.source.object.now c.args.code.now.source.ends.now c.args.own) (λ (p : Place). Unit {0}) c.loop-index.found.places.items c.loop-index.index c.index.result.now (slice_get_read c.loop-index.found.places.items c.len.result c.loop-index.index c.index.result.now (omega arith) c.loop-index-test.true c.index.ensures) c.loop-index.invariant.walking)

pub loop-index-preserved : goal.loop-index-preserved
loop-index-preserved c =
    record {
      walking = goes_on (λ (p : Place). p ≡ c.args.own) (StepsTo c.args.code.now.source.object.now c.args.code.now.source.ends.now c.args.own) (λ (p : Place). Unit {0}) c.loop-index.found.places.items
          (stepped_by c.args.entries.now c.args.own c.look-look.result.now) c.insert_all.new.self.places.items c.loop-index.index c.index.result.now (slice_get_read c.loop-index.found.places.items c.len.result c.loop-index.index c.index.result.now (omega arith) c.loop-index-test.true c.index.ensures)
          (c.in_ok-insert_all.ensures.places ∙ ap (with_places c.loop-index.found.places.items) (c.deref.ensures.value ∙ c.in_ok-stepped_by.ensures))
          (stepped c.args.code.now.source.object.now c.args.code.now.source.ends.now c.args.entries.now c.args.own c.requires.entries.same c.index.result.now c.look-look.result.now c.look-look.ensures)
          (λ k d within. tt) c.loop-index.invariant.walking;
      kept = c.in_ok-insert_all.ensures.same;
    }

pub returns : goal.returns
returns c =
    ends (λ (p : Place). p ≡ c.args.own) (StepsTo c.args.code.now.source.object.now c.args.code.now.source.ends.now c.args.own) (λ (p : Place). Unit {0}) c.loop-index.found.places.items c.loop-index.index (omega arith) c.loop-index.invariant.walking
