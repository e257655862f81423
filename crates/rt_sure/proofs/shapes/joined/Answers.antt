use Rattle.std.proofs.Common.{◌≡◌, drop, length, ap, sym, subst, ◌∙◌, arith}
use Rattle.rt_sure.proofs.Shaping.{AreBehind, joined_by}
use Rattle.rt_sure.proofs.shapes.joined.Goals as goal

pub returns-clause-joined : goal.returns-clause-joined
returns-clause-joined c =
    let lines = c.args.lines.now in
    let stays = c.args.stays.now in
    let shapes = c.deref.result.now in
    let told = c.in_ok-joined.joined.items in
    let (sure, are, count, behind) = c.loop-i.invariant in
    let all : c.loop-i.i ≡ length stays = omega arith in
    let behind_all : AreBehind lines stays sure (length stays) shapes =
    c.deref.ensures.value ∙ subst (λ n. AreBehind lines stays sure n c.loop-i.shapes.items) all behind in
    joined_by lines stays sure shapes (length stays) told c.take_first.new.flags.items are behind_all c.requires
    c.in_ok-joined.ensures.each c.in_ok-joined.ensures.derived
    (c.take_first.ensures ∙ ap (λ n. drop n told) (sym count))
