use Rattle.std.proofs.Common.{◌≡◌, ◌<◌, Bool, List, false, length, get_or, ap, sym, subst, ◌∙◌}
use Rattle.std.proofs.lemmas.List.{get_or_read}
use Rattle.rt_grid.specs.Tables.{Table, row_of}
use Rattle.rt_sat.specs.Inside.Checks.{row_at}
use Rattle.rt_sat.specs.Inside.Flags.{IsCoveredRow}
use Rattle.rt_sat.specs.Hints.{grid_of, members_of, no_table}
use Rattle.rt_sat.specs.Pushes.{asked_of, flip_at, matter_at, IsClosedFrom}
use Rattle.rt_sat.proofs.Flagging.{child_only, closed_row}
use Rattle.rt_sat.proofs.ToldPushes.{list_read}
use Rattle.rt_sat.proofs.checking.is_child_covered.Goals as goal

pub returns : goal.returns
returns c = λ e edges more complete walked end m same are.
    let known = c.args.frame.now.named in
    let flips = c.args.frame.now.flips.items in
    let matters = c.args.frame.now.matters.items in
    let ways = c.args.ways.now in
    let parent = c.args.parent in
    let child = c.in-Some.child in
    let letter = c.in-Some.letter in
    let home = c.in-Some-home.home in
    let flip : c.flag.result ≡ flip_at flips parent.variable =
    c.flag.ensures ∙ ap (λ (xs : List Bool). get_or xs parent.variable false) c.deref.ensures.value in
    let matter : c.flag-2.result ≡ matter_at matters child.variable =
    c.flag-2.ensures ∙ ap (λ (xs : List Bool). get_or xs c.args.number false) c.deref-2.ensures.value
    ∙ ap (matter_at matters) (sym c.in-Some.ensures.number) in
    let members : c.items-members.result.now ≡ members_of ways home.class =
    list_read ways.members.items home.class c.items-members.result.now c.index.result.now c.in-Some-home.ensures.home.class
    c.items-members.ensures c.index.ensures in
    let less : home.class < length ways.grids.items =
    subst (λ n. home.class < n) (sym c.requires.ways.each) c.in-Some-home.ensures.home.class in
    let grid : c.index-2.result.now ≡ grid_of ways home.class =
    get_or_read ways.grids.items home.class c.index-2.result.now less c.index-2.ensures no_table in
    let row : c.row-row.result.now ≡ row_at ways home = c.row-row.ensures.row ∙ ap (λ (g : Table). row_of g.rows home.index) grid in
    let rows : IsCoveredRow known (flip_at flips parent.variable) (asked_of (matter_at matters child.variable)) more child letter
    (members_of ways home.class) (row_at ways home) =
    subst (λ f. IsCoveredRow known f (asked_of (matter_at matters child.variable)) more child letter (members_of ways home.class)
    (row_at ways home)) flip
    (subst (λ b. IsCoveredRow known c.flag.result (asked_of b) more child letter (members_of ways home.class) (row_at ways home)) matter
    (subst (λ xs. IsCoveredRow known c.flag.result (asked_of c.flag-2.result) more child letter xs (row_at ways home)) members
    (subst (λ xs. IsCoveredRow known c.flag.result (asked_of c.flag-2.result) more child letter c.items-members.result.now xs) row
    (c.is_row_covered.ensures e more walked)))) in
    child_only known c.requires.distinct child parent letter
    (λ s l. IsClosedFrom known flips matters edges more s parent l) c.in-Some.ensures.child
    (closed_row known flips matters edges more ways home child parent letter (sym c.in-Some-home.ensures.is) complete rows) end m
    (same ∙ sym c.in-Some.ensures.number) are
