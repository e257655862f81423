use Rattle.std.proofs.Common.{◌≡◌, ◌∙◌, List, refl, sym, subst}
use Rattle.rt_body.specs.declared.body.Body.{Body}
use Rattle.rt_body.specs.Told.{sites_in}
use Rattle.rt_liveness.specs.Calls.{AreCallsOf}
use Rattle.rt_liveness.specs.Ends.{ends_of}
use Rattle.rt_liveness.specs.Programs.{IsProgram}
use Rattle.rt_liveness.specs.Told.{program_of}
use Rattle.rt_frame.specs.Told.{frame_sites}
use Rattle.rt_table.specs.declared.facts.Framed.{Framed}
use Rattle.rt_table.specs.Inside.Framing.{AreFramed}
use Rattle.rt_table.specs.Inside.Registers.{HaveRegisters}
use Rattle.rt_table.proofs.Framings.{are-known, maps-same, readings-program}
use Rattle.rt_table.proofs.preparation.prepare.Goals as goal

pub bodies_of-requires-clause-readable : goal.bodies_of-requires-clause-readable
bodies_of-requires-clause-readable c =
    c.procs.ensures c.args.object.now (ends_of c.args.object.now c.args.sigs.now) c.args.procs.now c.relocs-relocs.ensures.sound.linkable c.requires.procs

pub calls_of-requires-clause-program : goal.calls_of-requires-clause-program
calls_of-requires-clause-program c =
    subst (λ (bodies : List Body). IsProgram (program_of c.args.object.now c.args.procs.now bodies c.args.sigs.now)) (sym c.deref.ensures.value)
    (readings-program c.args.object.now c.args.procs.now c.in_ok-bodies.bodies.items c.args.sigs.now c.in_ok-bodies.ensures)

pub frames_of-requires-clause-registers : goal.frames_of-requires-clause-registers
frames_of-requires-clause-registers c = subst HaveRegisters (sym c.items.ensures) c.in_ok-calls.ensures.registers

pub invariant_of-result : goal.invariant_of-result
invariant_of-result c =
    let object = c.args.object.now in
    let procs = c.args.procs.now in
    let bodies = c.in_ok-bodies.bodies.items in
    let calls = c.in_ok-calls.calls in
    let frames = c.in_ok-frames.frames.items in
    let told = subst (λ (bs : List Body). AreCallsOf (program_of object procs bs c.args.sigs.now) calls) c.deref.ensures.value c.in_ok-calls.ensures.calls in
    let framed = subst (λ (bs : List Body). AreFramed bs calls frames) c.deref-2.ensures.value
    (subst (λ cs. AreFramed c.deref-2.result.now cs frames) c.items.ensures c.in_ok-frames.ensures)
    in
    record {
      bodies_each = sym framed.one_each;
      calls_each = told.one_each ∙ sym c.in_ok-bodies.ensures.one_each ∙ sym framed.one_each;
      of_one = maps-same (λ (f : Framed). frame_sites f.frame) sites_in frames bodies framed.one_each (λ q f body less. (framed.each q body f less).sites);
      registers = c.in_ok-calls.ensures.registers;
      few = c.in_ok-calls.ensures.few;
    }

pub returns : goal.returns
returns c =
    let object = c.args.object.now in
    let procs = c.args.procs.now in
    let bodies = c.in_ok-bodies.bodies.items in
    let calls = c.in_ok-calls.calls in
    let frames = c.in_ok-frames.frames.items in
    let told = subst (λ (bs : List Body). AreCallsOf (program_of object procs bs c.args.sigs.now) calls) c.deref.ensures.value c.in_ok-calls.ensures.calls in
    let framed = subst (λ (bs : List Body). AreFramed bs calls frames) c.deref-2.ensures.value
    (subst (λ cs. AreFramed c.deref-2.result.now cs frames) c.items.ensures c.in_ok-frames.ensures)
    in
    record {
      linkable = c.relocs-relocs.ensures.sound.linkable;
      object_is = refl;
      procs_is = refl;
      signatures_are = refl;
      are_known = are-known object procs bodies calls c.args.sigs.now frames told framed c.in_ok-bodies.ensures;
    }
