use Rattle.std.proofs.Common.{◌≡◌, ℕ, List, true, false, sym, subst, ◌∙◌}
use Rattle.std.specs.BTreeMap.{get}
use Rattle.std.specs.BTreeSet.{contains}
use Rattle.std.specs.Ordering.{nat_cmp}
use Rattle.rt_polar.specs.Index.{has}
use Rattle.rt_polar.proofs.Pairs.{bare_noted}
use Rattle.rt_refine.specs.Groups.{class_of}
use Rattle.rt_refine.specs.Uses.{move_use}
use Rattle.rt_refine.specs.Ranks.{Rank, rank_cmp, use_ranks}
use Rattle.rt_refine.specs.Numbers.{HasNumber, IsNumbered}
use Rattle.rt_refine.proofs.Owning.{use_parts}
use Rattle.rt_refine.proofs.Indexing.{index_stays, index_more}
use Rattle.rt_refine.proofs.index.note_use.Goals as goal

pub returns-in_default : goal.returns-in_default
returns-in_default c = λ seen is.
    index_stays c.args.side seen (class_of (get nat_cmp c.args.classes.now)) (contains nat_cmp c.args.wanted.now) c.args.line.now
    c.args.fresh (HasNumber rank_cmp c.args.numbers.now) (has c.args.index.now)
    (λ n u may. c.in_default.ensures n u) is

pub returns-then-not-contains : goal.returns-then-not-contains
returns-then-not-contains c = λ seen is.
    let own = c.in-Some.ensures in
    let wanted = contains nat_cmp c.args.wanted.now in
    index_stays c.args.side seen (class_of (get nat_cmp c.args.classes.now)) wanted c.args.line.now
    c.args.fresh (HasNumber rank_cmp c.args.numbers.now) (has c.args.index.now)
    (λ n u may e.
    let same : c.in-Some.existential ≡ n = (use_parts c.args.side c.in-Some.existential n own.0 u (sym own.1 ∙ e)).0 in
    let here : wanted c.in-Some.existential ≡ true = subst (λ (k : ℕ). wanted k ≡ true) (sym same) may in
    let not : false ≡ true = c.if-not-contains.ensures ∙ here in
    absurd (cc))
    is

pub returns : goal.returns
returns c = λ seen is.
    let own = c.in-Some.ensures in
    let class = class_of (get nat_cmp c.args.classes.now) in
    let old = HasNumber rank_cmp c.args.numbers.now in
    let new = HasNumber rank_cmp c.number_of.new.numbers in
    let e : c.in_ok-ranks.ranks.items ≡ use_ranks (move_use class own.0) = c.in_ok-ranks.ensures c.in-Some.existential own.0 own.1 in
    index_more c.args.side seen class (contains nat_cmp c.args.wanted.now) c.args.line.now c.in-Some.existential own.0 c.in_ok-number.number c.args.fresh old new
    (has c.args.index.now)
    (has c.insert.new.self) own.1
    (subst (λ (r : List Rank). IsNumbered r c.args.fresh c.in_ok-number.number old new) e c.in_ok-number.ensures)
    (bare_noted c.in-Some.existential c.in_ok-number.number (has c.args.index.now) (has c.insert.new.self)
    (λ n i. c.in_ok-insert.ensures.updates.0 (n, i)))
    is
