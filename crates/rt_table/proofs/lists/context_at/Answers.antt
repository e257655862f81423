use Rattle.std.proofs.Common.{◌≡◌, ◌<◌, ◌∙◌, [], ap, get_or, length, refl, sym, subst, arith}
use Rattle.std.specs.Prelude.{All}
use Rattle.std.proofs.lemmas.List.{length-map}
use Rattle.rt_body.specs.Told.{reading_of, sites_in}
use Rattle.rt_frame.specs.Told.{frame_sites}
use Rattle.rt_liveness.specs.Calls.{HasCallRegister}
use Rattle.rt_table.specs.declared.facts.Framed.{Framed}
use Rattle.rt_table.proofs.Framings.{knowledge-here, known_by, maps-at}
use Rattle.rt_table.proofs.lists.context_at.Goals as goal

pub invariant_of-result : goal.invariant_of-result
invariant_of-result c =
    let facts = c.args.outside.facts.now in
    let bodies : length facts.bodies.items ≡ length facts.procs.now = sym (length-map facts.bodies.items reading_of) ∙ c.requires.facts.are_known.is_program.one_each in
    let less : c.args.number < length facts.bodies.items = omega (arith, c.requires.within) in
    record {
      of_one = maps-at (λ (framed : Framed). frame_sites framed.frame) sites_in facts.frames.items facts.bodies.items c.args.number c.index-framed.result.now c.index-body.result.now
          facts.of_one (omega (arith, facts.bodies_each)) less c.index-framed.ensures c.index-body.ensures;
      registers = subst (All (All HasCallRegister)) (sym c.requires.calls) (facts.registers c.args.number [] (omega (arith, facts.bodies_each, facts.calls_each)));
      results = c.requires.named;
    }

pub returns-clause-is : goal.returns-clause-is
returns-clause-is c =
    let facts = c.args.outside.facts.now in
    let bodies : length facts.bodies.items ≡ length facts.procs.now = sym (length-map facts.bodies.items reading_of) ∙ c.requires.facts.are_known.is_program.one_each in
    let less : c.args.number < length facts.bodies.items = omega (arith, c.requires.within) in
    record {
      procedure = refl;
      knowledge = known_by c.index-body.result.now c.args.calls.now c.index-framed.result.now;
      is_known = knowledge-here facts.bodies.items facts.calls facts.frames.items c.args.number c.index-body.result.now c.args.calls.now []
          c.index-framed.result.now less (facts.calls_each ∙ sym facts.bodies_each) (sym facts.bodies_each) c.index-body.ensures c.requires.calls c.index-framed.ensures;
      reading = refl;
      frame = refl;
      linked = refl;
      is_code = λ symbol. refl;
      constant = λ role. refl;
    }
