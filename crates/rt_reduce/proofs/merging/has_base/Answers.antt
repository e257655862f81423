use Rattle.std.proofs.Common.{◌≡◌, arith, sym, refl}
use Rattle.rt_lines.specs.declared.variable.Dtv.{Dtv}
use Rattle.rt_lines.proofs.Equal.{base_equal}
use Rattle.rt_reduce.proofs.Compared.{base_itself}
use Rattle.rt_reduce.proofs.Telling.{none_begun, none_more, none_whole}
use Rattle.rt_reduce.proofs.merging.has_base.Goals as goal

pub loop-side-init : goal.loop-side-init
loop-side-init c = none_begun (λ (x : Dtv). x.base ≡ c.args.base) c.args.sides.now

pub returns-then-eq : goal.returns-then-eq
returns-then-eq c = (
  λ t. (c.side-item.result, (c.loop-side.side-index, c.loop-side-test.true, sym c.side-item.is), base_equal c.side-item.result.base c.args.base (grind arith)),
  λ p. refl,
)

pub loop-side-preserved : goal.loop-side-preserved
loop-side-preserved c =
    none_more (λ (x : Dtv). x.base ≡ c.args.base) c.args.sides.now c.loop-side.side-index c.side-item.result c.loop-side-test.true
    c.side-item.is (λ e. (let t = base_itself c.side-item.result.base c.args.base e in absurd (grind arith))) c.loop-side.invariant

pub returns : goal.returns
returns c = (
  λ t. absurd (cc),
  λ p. absurd (none_whole (λ (x : Dtv). x.base ≡ c.args.base) c.args.sides.now c.loop-side.side-index c.loop-side-test.false
      c.loop-side.invariant p.0 p.1 p.2),
)
