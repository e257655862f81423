use Rattle.std.proofs.Common.{◌<◌, length, inl, refl, subst, sym}
use Rattle.rt_track.specs.declared.value.Value.TheVariants.{Const}
use Rattle.rt_track.specs.declared.nodes.Node.TheVariants.{Fixed}
use Rattle.rt_track.proofs.Visiting.{none_given, taken_in, rises, visited}
use Rattle.rt_track.proofs.solve.visit.Goals as goal

pub returns-in_default : goal.returns-in_default
returns-in_default c = inl (refl, refl, none_given c.args.nodes.now c.args.node c.requires.within (Fixed (Const 0)) c.args.states.now.items c.deref.result.now c.deref.ensures.value c.given.result c.given.ensures c.in_default.not-Some)

pub returns-in_default-risen : goal.returns-in_default-risen
returns-in_default-risen c =
    let in_states : c.args.node < length c.args.states.now.items = subst (λ n. c.args.node < n) (sym c.requires.states) c.requires.within in
    inl (
      refl,
      refl,
      taken_in c.args.nodes.now c.args.node c.requires.within (Fixed (Const 0)) c.args.states.now.items c.deref.result.now c.deref.ensures.value c.given.result c.given.ensures
          c.in-Some.value c.in-Some.is c.index.result.now in_states c.index.ensures c.in_default-risen.ensures,
    )

pub returns : goal.returns
returns c =
    let in_states : c.args.node < length c.args.states.now.items = subst (λ n. c.args.node < n) (sym c.requires.states) c.requires.within in
    let in_readers : c.args.node < length c.args.readers.now = subst (λ n. c.args.node < n) (sym c.requires.readers) c.requires.within in
    visited c.add_all.result c.args.nodes.now c.args.readers.now c.args.node c.args.states.now.items c.args.work.now.items c.in-Some-risen.value
    (rises c.args.nodes.now c.args.node c.requires.within (Fixed (Const 0)) c.args.states.now.items c.deref.result.now c.deref.ensures.value c.given.result c.given.ensures
    c.in-Some.value c.in-Some.is c.index.result.now in_states c.index.ensures c.in-Some-risen.value c.in-Some-risen.ensures)
    c.index-readers-node.result c.items.result.now in_readers c.index-readers-node.is c.items.ensures c.add_all.new.numbers.items c.add_all.ensures
