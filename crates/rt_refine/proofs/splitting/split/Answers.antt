use Rattle.std.proofs.Common.{Bool, length, sym, subst}
use Rattle.std.specs.BTreeMap.{get}
use Rattle.std.specs.BTreeSet.{contains}
use Rattle.std.specs.Ordering.{nat_cmp}
use Rattle.rt_polar.specs.Index.{has}
use Rattle.rt_refine.specs.Groups.{AreShared, class_of, IsNamed}
use Rattle.rt_refine.specs.Splits.{IsSplit}
use Rattle.rt_refine.proofs.Noting.{named_or}
use Rattle.rt_refine.proofs.Parting.{split_is}
use Rattle.rt_refine.proofs.splitting.split.Goals as goal

pub returns : goal.returns
returns c =
    let lines = c.args.lines.now in
    let named = c.args.named.now in
    let moves = class_of (get nat_cmp c.args.moves.now) in
    let old = class_of (get nat_cmp c.args.classes.now) in
    let new = class_of (get nat_cmp c.in_ok-parts.parts) in
    let shared = contains nat_cmp c.in_ok-shared.shared in
    let s = c.in_ok-shared.ensures in
    let are : AreShared (IsNamed lines) old shared = record {
      all = λ v w a b. s.all v w ((c.requires v).1 a) ((c.requires w).1 b);
      among = λ v h. (c.requires v).0 (s.among v h);
    } in
    let r = c.in_ok-parts.ensures in
    let away = c.are_moved-moved.ensures in
    subst (λ (changed : Bool). IsSplit c.args.side lines moves old new changed) (sym c.either.ensures)
    (split_is c.args.side lines moves old shared (length lines) (has c.in_ok-index.index) c.in_ok-index.ensures are new
    c.are_moved-moved.result c.in_ok-parts.changed r.grouped (named_or lines named c.requires)
    (λ e v a. away.stay e v ((c.requires v).1 a))
    (λ e. let t = away.moved e in (t.0, (c.requires t.0).0 t.1, t.2, t.3)) r.stays r.differs)
