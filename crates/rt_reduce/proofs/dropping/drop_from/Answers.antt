use Rattle.std.proofs.Common.{rules, ℕ, ◌≡◌, ◌+◌, ◌-◌, ◌<◌, ◌≤◌, suc, [], List, Bool, All, Contains, true, false, length, get_or, replicate}
use Rattle.std.proofs.Common.{refl, sym, ap, subst, ◌∙◌, arith}
use Rattle.std.specs.List.{remove_range}
use Rattle.std.proofs.lemmas.List.{length-replicate}
use Rattle.std.proofs.lemmas.Option.{IfSome_then}
use Rattle.rt_lines.specs.declared.line.Line.{Line}
use Rattle.rt_lines.specs.Lines.{HasConstantsBelow}
use Rattle.rt_named.specs.Naming.{named as named_by}
use Rattle.rt_reduce.specs.Inside.Deciding.{AreStanding, AreWitnessed, IsInnerFor, IsWaysFor}
use Rattle.rt_reduce.specs.Inside.Dropping.{AreFated, AreLeft, Decides, IsKeptOrGone, IsMoved, IsToldAt}
use Rattle.rt_reduce.proofs.Fated.{fated_here, fated_next, first_made, named_lines}
use Rattle.rt_reduce.proofs.Flags.{first_standing, first_witnessed, moved_long, moved_standing}
use Rattle.rt_reduce.proofs.Grounded.{ground_here}
use Rattle.rt_reduce.proofs.Holes.{no_hole}
use Rattle.rt_reduce.proofs.Made.{first_inner, first_ways, inner_stays, ways_stay}
use Rattle.rt_reduce.proofs.Leaving.{AreLeft-all, AreLeft-next, left_below, left_long, left_stood}
use Rattle.rt_reduce.proofs.Told.{told_left}
use Rattle.rt_reduce.proofs.dropping.drop_from.Goals as goal

pub loop-place-init : goal.loop-place-init
loop-place-init c =
    let order = c.args.order.now in
    let lines = c.args.lines.now in
    let copied = c.in_ok-left.left.items in
    let from = length lines in
    let left : List Line = remove_range copied from from in
    let stands = c.in_ok-stands.stands.items in
    let e : left ≡ lines = no_hole copied from ∙ c.in_ok-left.ensures in
    let s : stands ≡ replicate from true = c.in_ok-stands.ensures.items_if_clones_equal (search rules) in
    let k : length stands ≡ from = ap length s ∙ length-replicate from true in
    let within : from ≤ length lines = omega arith in
    record {
      first = c.requires.first;
      from = omega arith;
      to = omega (arith, ap length c.in_ok-left.ensures);
      within = omega (arith, ap length e);
      inside = omega arith;
      constants = subst (All (HasConstantsBelow order.count)) (sym e) c.requires.constants;
      stood = λ m h. subst (λ (ls : List Line). Contains ls m) e h;
      are_left = subst (AreLeft order lines from) (sym e) (AreLeft-all order lines from refl);
      flags = omega (arith, k);
      each = k;
      fated = subst (λ (fs : List Bool). AreFated order lines fs c.args.fates.now) (sym s) c.requires.fated;
      standing = IfSome_then c.args.outer c.requires.outer
          (λ t own. first_standing lines left stands from t.now own e s within);
      witnessed = first_witnessed lines left stands from e s within;
      made = first_made order lines left e;
      inner = IfSome_then c.args.inner c.requires.inner (λ t is. first_inner order lines left t.now is e);
      ways = IfSome_then c.args.ways c.requires.ways (λ t own. first_ways order lines left t.now own e);
    }

pub drop_before-requires-clause-fated : goal.drop_before-requires-clause-fated
drop_before-requires-clause-fated c =
    let place = c.loop-place.place in
    let e : place ≡ (place - 1) + 1 = omega arith in
    let order = c.args.order.now in
    let lines = c.args.lines.now in
    let left : ℕ → List Line = λ n. remove_range c.loop-place.left.items n c.loop-place.next in
    let stands = c.loop-place.stands.items in
    let fates = c.args.fates.now in
    let inv = c.loop-place.invariant in
    fated_here order lines (left ((place - 1) + 1)) stands (place - 1) fates inv.fated
    (subst (λ n. AreWitnessed lines (left n) stands n) e inv.witnessed)
    (subst (λ n. IsInnerFor order (left n) (named_lines lines)) e inv.made)
    (subst (λ n. place - 1 < length (left n)) e (omega (arith, inv.within)))
    c.fate_of.result c.fate_of.ensures

pub drop_before-requires-clause-stood : goal.drop_before-requires-clause-stood
drop_before-requires-clause-stood c =
    c.loop-place.invariant.witnessed.before (c.loop-place.place - 1) (omega arith)

pub drop_before-requires-clause-within : goal.drop_before-requires-clause-within
drop_before-requires-clause-within c =
    (omega (arith, c.loop-place.invariant.from), omega (arith, c.loop-place.invariant.to))

pub drop_before-requires-clause-flags : goal.drop_before-requires-clause-flags
drop_before-requires-clause-flags c = omega (arith, c.loop-place.invariant.flags)

pub drop_before-requires-clause-constants : goal.drop_before-requires-clause-constants
drop_before-requires-clause-constants c =
    let place = c.loop-place.place in
    let e : place ≡ (place - 1) + 1 = omega arith in
    subst (λ n. All (HasConstantsBelow c.args.order.now.count) (remove_range c.loop-place.left.items n c.loop-place.next)) e
    c.loop-place.invariant.constants

pub drop_before-requires-clause-standing : goal.drop_before-requires-clause-standing
drop_before-requires-clause-standing c =
    let place = c.loop-place.place in
    let e : place ≡ (place - 1) + 1 = omega arith in
    IfSome_then c.args.outer c.loop-place.invariant.standing
    (λ t are. subst (λ n. AreStanding (remove_range c.loop-place.left.items n c.loop-place.next) c.loop-place.stands.items n t.now) e are)

pub drop_before-requires-clause-inner : goal.drop_before-requires-clause-inner
drop_before-requires-clause-inner c =
    let place = c.loop-place.place in
    let e : place ≡ (place - 1) + 1 = omega arith in
    IfSome_then c.args.inner c.loop-place.invariant.inner
    (λ t is. subst (λ n. IsInnerFor c.args.order.now (remove_range c.loop-place.left.items n c.loop-place.next) t.now) e is)

pub drop_before-requires-clause-ways : goal.drop_before-requires-clause-ways
drop_before-requires-clause-ways c =
    let place = c.loop-place.place in
    let e : place ≡ (place - 1) + 1 = omega arith in
    IfSome_then c.args.ways c.loop-place.invariant.ways
    (λ t are. subst (λ n. IsWaysFor c.args.order.now (remove_range c.loop-place.left.items n c.loop-place.next) t.now) e are)

pub drop_before-requires-clause-ground : goal.drop_before-requires-clause-ground
drop_before-requires-clause-ground c =
    let place = c.loop-place.place in
    let e : place ≡ (place - 1) + 1 = omega arith in
    let order = c.args.order.now in
    let lines = c.args.lines.now in
    let left : ℕ → List Line = λ n. remove_range c.loop-place.left.items n c.loop-place.next in
    let stands = c.loop-place.stands.items in
    let fates = c.args.fates.now in
    let inv = c.loop-place.invariant in
    IfSome_then c.args.ground c.requires.ground (λ g own.
    ground_here order lines (left ((place - 1) + 1)) stands (place - 1) fates g.now own inv.fated
    (subst (λ n. AreWitnessed lines (left n) stands n) e inv.witnessed)
    (subst (λ n. IsInnerFor order (left n) (named_lines lines)) e inv.made) c.fate_of.result c.fate_of.ensures)

pub drop_before-requires-clause-told : goal.drop_before-requires-clause-told
drop_before-requires-clause-told c =
    let place = c.loop-place.place in
    let e : place ≡ (place - 1) + 1 = omega arith in
    let told = c.args.told.now in
    let left : ℕ → List Line = λ n. remove_range c.loop-place.left.items n c.loop-place.next in
    let inv = c.loop-place.invariant in
    subst (λ n. IsToldAt (get_or told (place - 1) false) (left n) (place - 1)) e
    (told_left c.args.lines.now (left place) c.loop-place.stands.items told (place - 1) place inv.witnessed
    (omega arith) c.requires.told)

pub drop_before-requires-clause-witnesses : goal.drop_before-requires-clause-witnesses
drop_before-requires-clause-witnesses c =
    let place = c.loop-place.place in
    let e : place ≡ (place - 1) + 1 = omega arith in (
      c.args.lines.now,
      c.requires.witnesses,
      subst (λ n. AreWitnessed c.args.lines.now (remove_range c.loop-place.left.items n c.loop-place.next) c.loop-place.stands.items n) e
          c.loop-place.invariant.witnessed,
    )

pub loop-place-preserved : goal.loop-place-preserved
loop-place-preserved c =
    let place = c.loop-place.place in
    let next : place ≡ suc (place - 1) = omega arith in
    let e : place ≡ (place - 1) + 1 = omega arith in
    let left : List Line = remove_range c.loop-place.left.items place c.loop-place.next in
    let same : left ≡ remove_range c.loop-place.left.items ((place - 1) + 1) c.loop-place.next =
    ap (λ n. remove_range c.loop-place.left.items n c.loop-place.next) e in
    let now : List Line = remove_range c.drop_before.new.left.items (place - 1) c.in_ok-next.next in
    let stands = c.loop-place.stands.items in
    let flags = c.drop_before.new.stands.items in
    let inv = c.loop-place.invariant in
    let kept : IsKeptOrGone left (place - 1) now =
    subst (λ (ls : List Line). IsKeptOrGone ls (place - 1) now) (sym same) c.in_ok-next.ensures.lines in
    let decides : Decides c.args.order.now left (place - 1) now =
    subst (λ (ls : List Line). Decides c.args.order.now ls (place - 1) now) (sym same) c.in_ok-next.ensures.decides in
    let moved : IsMoved left stands (place - 1) now flags =
    subst (λ (ls : List Line). IsMoved ls stands (place - 1) now flags) (sym same) c.in_ok-next.ensures.moved in
    let n : length flags ≡ length stands = moved_long left now stands flags (place - 1) moved in
    let fates = c.args.fates.now in
    record {
      first = omega arith;
      from = c.in_ok-next.ensures.within.0;
      to = c.in_ok-next.ensures.within.1;
      within = left_long left now (place - 1) (omega (arith, next, inv.within)) kept;
      inside = omega (arith, inv.inside);
      constants = left_below (HasConstantsBelow c.args.order.now.count) left now (place - 1) inv.constants kept;
      stood = λ m h. inv.stood m (left_stood left now (place - 1) kept m h);
      are_left = AreLeft-next c.args.order.now c.args.lines.now left now place (place - 1) next inv.are_left decides;
      flags = omega (arith, n, inv.flags);
      each = n ∙ inv.each;
      fated = fated_next c.args.order.now c.args.lines.now left now stands flags (place - 1) fates inv.fated c.fate_of.result c.fate_of.ensures
          c.in_ok-next.ensures.stays (inv.witnessed.before (place - 1) (omega (arith, next))) moved;
      standing = IfSome_then c.args.outer inv.standing
          (λ t are. moved_standing left now stands flags (place - 1) t.now moved (subst (λ k. AreStanding left stands k t.now) e are));
      witnessed = moved_standing left now stands flags (place - 1)
          (record { lines = c.args.lines.now; named = named_by c.args.lines.now [] }) moved
          (subst (AreWitnessed c.args.lines.now left stands) e inv.witnessed);
      made = inner_stays c.args.order.now left (place - 1) (named_lines c.args.lines.now) inv.made now (omega (arith, next, inv.within)) decides;
      inner = IfSome_then c.args.inner inv.inner
          (λ t is. inner_stays c.args.order.now left (place - 1) t.now is now (omega (arith, next, inv.within)) decides);
      ways = IfSome_then c.args.ways inv.ways
          (λ t are. ways_stay c.args.order.now left (place - 1) t.now are now (omega (arith, next, inv.within)) decides kept);
    }

pub take_out-requires : goal.take_out-requires
take_out-requires c = (c.loop-place.invariant.from, c.loop-place.invariant.to)

pub returns-clause-left : goal.returns-clause-left
returns-clause-left c =
    let order = c.args.order.now in
    let lines = c.args.lines.now in
    let left : List Line = c.take_out.new.left.items in
    let inv = c.loop-place.invariant in
    let end : c.loop-place.place ≡ c.args.first = omega (arith, inv.first) in
    subst (λ n. AreLeft order lines n left) end
    (subst (AreLeft order lines c.loop-place.place) (sym c.take_out.ensures) inv.are_left)

pub returns-clause-stood : goal.returns-clause-stood
returns-clause-stood c = λ l h.
    c.loop-place.invariant.stood l (subst (λ (ls : List Line). Contains ls l) c.take_out.ensures h)
