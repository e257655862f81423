use Rattle.std.proofs.Common.{List, Bool, sym, ap, subst, ◌∙◌}
use Rattle.rt_lines.specs.declared.line.Line.{Line}
use Rattle.rt_sat.specs.declared.increments.Snapshot.{Snapshot}
use Rattle.rt_sure.specs.Grounds.{Grounded, HasShape, IsGround}
use Rattle.rt_sure.proofs.Fating.{is_ground}
use Rattle.rt_sure.proofs.fate.with_going.Goals as goal

pub new-requires-clause-ground : goal.new-requires-clause-ground
new-requires-clause-ground c =
    let known = c.in_ok-known.known in
    let base = c.in_ok-table.table.base in
    let growing = c.fates_by.new.table.growing in
    let is : IsGround c.args.lines.now c.args.stays.now known.joined.items base growing =
    is_ground c.args.lines.now c.args.stays.now known.joined.items base c.in_ok-table.table.growing growing c.in_ok-table.ensures.told c.in_ok-known.ensures.joined
    c.in_ok-table.ensures.base (λ told. c.in_ok-fates.ensures.then told base) in
    subst (λ (ls : List Line). IsGround ls known.stays.items known.joined.items c.fates_by.new.table.base growing) (sym c.in_ok-known.ensures.lines)
    (subst (λ (fs : List Bool). IsGround c.args.lines.now fs known.joined.items c.fates_by.new.table.base growing) (sym c.in_ok-known.ensures.stays)
    (subst (λ (earlier : Snapshot). IsGround c.args.lines.now c.args.stays.now known.joined.items earlier growing) (sym c.in_ok-fates.ensures.base) is))

pub new-requires-clause-shape : goal.new-requires-clause-shape
new-requires-clause-shape c =
    let known = c.in_ok-known.known in
    subst (λ (ls : List Line). HasShape ls known.stays.items known.shape) (sym c.in_ok-known.ensures.lines)
    (subst (λ (fs : List Bool). HasShape c.args.lines.now fs known.shape) (sym c.in_ok-known.ensures.stays) c.in_ok-known.ensures.shape)

pub returns-clause-ground : goal.returns-clause-ground
returns-clause-ground c = (
  ap (λ (g : Grounded). g.lines) c.new.ensures ∙ c.in_ok-known.ensures.lines,
  ap (λ (g : Grounded). g.stays) c.new.ensures ∙ c.in_ok-known.ensures.stays,
)
