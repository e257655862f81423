use Rattle.std.proofs.Common.{◌≡◌, ℕ, ◌<◌, [], ◌∷◌, List, length, get_or, ap, sym, subst, ◌∙◌, arith, below_more, length-append}
use Rattle.std.proofs.lemmas.List.{get_or_append_left, get_or_default, get_or_push}
use Rattle.rt_grid.specs.Tables.{Table}
use Rattle.rt_sat.specs.Hints.{no_table, IsTurning}
use Rattle.rt_sat.proofs.family.grids.Goals as goal

pub turning-requires : goal.turning-requires
turning-requires c =
    let item : c.class-item.result ≡ get_or c.args.members.now c.loop-class.class-index [] = c.class-item.is ∙ get_or_default c.args.members.now c.loop-class.class-index c.class-item.result [] c.loop-class-test.true in
    omega (arith, c.len.ensures, ap length item, c.requires.1.few c.loop-class.class-index)

pub loop-class-init : goal.loop-class-init
loop-class-init c = record { each = ap length c.in_ok-grids.ensures.items; turning = λ class h. absurd (omega (arith, h)) }

pub loop-class-preserved : goal.loop-class-preserved
loop-class-preserved c =
    let index : ℕ = c.loop-class.class-index in
    let old : List Table = c.loop-class.grids.items in
    let grid : Table = c.in_ok-turning.field-0 in
    let item : c.class-item.result ≡ get_or c.args.members.now index [] = c.class-item.is ∙ get_or_default c.args.members.now index c.class-item.result [] c.loop-class-test.true in
    let kept : (class : ℕ) → class < index → get_or c.push.new.self.items class no_table ≡ get_or old class no_table =
    λ class h. ap (λ (xs : List Table). get_or xs class no_table) c.in_ok-push.ensures.items ∙ get_or_append_left old (grid ∷ []) no_table class (omega (arith, h, c.loop-class.invariant.each)) in
    let here : get_or c.push.new.self.items index no_table ≡ grid = ap (λ (xs : List Table). get_or xs index no_table) c.in_ok-push.ensures.items ∙ get_or_push old grid no_table index c.loop-class.invariant.each in
    record {
      each = omega (arith, ap length c.in_ok-push.ensures.items, length-append old (grid ∷ []), c.loop-class.invariant.each);
      turning = below_more _ _
          (λ class h. subst (IsTurning (length (get_or c.args.members.now class []))) (sym (kept class h)) (c.loop-class.invariant.turning class h))
          (subst (λ n. IsTurning n (get_or c.push.new.self.items index no_table)) (c.len.ensures ∙ ap length item) (subst (IsTurning c.len.result) (sym here) c.in_ok-turning.ensures));
    }

pub returns-clause-each : goal.returns-clause-each
returns-clause-each c = omega (arith, c.loop-class.invariant.each, c.loop-class.auto.class-index-end, c.loop-class-test.false)

pub returns-clause-turning : goal.returns-clause-turning
returns-clause-turning c class h = c.loop-class.invariant.turning class (omega (arith, h, c.loop-class-test.false))
