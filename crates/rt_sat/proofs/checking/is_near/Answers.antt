use Rattle.std.proofs.Common.{◌≡◌, ◌<◌, ◌≤◌, length, get_or, sym, ap, subst, ◌∙◌, arith}
use Rattle.std.proofs.lemmas.List.{get_or_default, get_or_read}
use Rattle.rt_grid.specs.Tables.{Table, count_at, row_of, size_of}
use Rattle.rt_sat.specs.Inside.Checks.{row_at}
use Rattle.rt_sat.specs.Hints.{grid_of, no_table}
use Rattle.rt_sat.specs.Searches.{Walk}
use Rattle.rt_sat.specs.Searches.Walk.{stays}
use Rattle.rt_sat.proofs.Searching.{state_equal}
use Rattle.rt_sat.proofs.Flagging.{walked_near}
use Rattle.rt_sat.proofs.checking.is_near.Goals as goal

pub returns-then-eq : goal.returns-then-eq
returns-then-eq c = λ e more walked.
    (0, subst (λ s. Walk more c.args.from s 0) (state_equal c.args.from c.args.to (sym c.eq.ensures ∙ c.if-eq.true)) stays, omega arith)

pub returns-then-way-lt-NONE : goal.returns-then-way-lt-NONE
returns-then-way-lt-NONE c = λ e more walked.
    let pushed = c.args.pushed.now in
    let left = c.in-Some.left in
    let right = c.in-Some-home.right in
    let less : left.class < length pushed.grids.items = subst (λ n. left.class < n) (sym c.requires.1.each) c.in-Some.ensures.home.class in
    let grid : c.index.result.now ≡ grid_of pushed left.class =
    get_or_read pushed.grids.items left.class c.index.result.now less c.index.ensures no_table in
    let row : c.row.result.now ≡ row_at pushed left = c.row.ensures.row ∙ ap (λ (g : Table). row_of g.rows left.index) grid in
    let long : length c.row.result.now ≡ size_of (grid_of pushed left.class) = c.row.ensures.long ∙ ap size_of grid in
    let place : right.index < size_of (grid_of pushed left.class) =
    subst (λ n. right.index < size_of (grid_of pushed n)) (sym c.if-left-right.false) c.in-Some-home.ensures.home.place in
    let inside : right.index < length c.row.result.now = subst (λ n. right.index < n) (sym long) place in
    let way : get_or c.row.result.now right.index 0 ≡ count_at (row_at pushed left) right.index =
    get_or_default c.row.result.now right.index 0 255 inside ∙ ap (λ xs. count_at xs right.index) row in
    let within : get_or c.row.result.now right.index 0 ≤ c.args.count = grind (arith, e) in
    walked_near pushed more c.args.from c.args.to left right c.args.count walked c.in-Some.ensures.home c.in-Some-home.ensures.home
    c.if-left-right.false (subst (λ n. n < 255) way c.if-way-lt-NONE.true) (subst (λ n. n ≤ c.args.count) way within)
