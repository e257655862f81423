use Rattle.std.proofs.Common.{◌≡◌, ℕ, [], Contains, refl, subst}
use Rattle.rt_outline.proofs.Following.{some_in, some_next, some_only}
use Rattle.rt_outline.proofs.spreading.may_lead.Goals as goal

pub loop-source-preserved : goal.loop-source-preserved
loop-source-preserved c = some_next (λ (s w : ℕ). s ≡ w) c.args.sources.now c.loop-source.source-index [] c.loop-source.found c.insert.new.self c.loop-source-test.true c.loop-source.invariant c.in_ok-insert.ensures

pub returns : goal.returns
returns c = (
  λ e. (let m = c.meets.ensures.0 e in
      let p = c.in_ok-spread.ensures.only m.0 m.2 in
      let o = some_only (λ (s w : ℕ). s ≡ w) c.args.sources.now c.loop-source.source-index c.loop-source.found c.loop-source-test.false c.loop-source.invariant p.0 p.1 in
      (p.0, m.0, subst (Contains c.args.sources.now) o.2 o.1, p.2, m.1)),
  λ r. c.meets.ensures.1 (
    r.1,
    r.4,
    c.in_ok-spread.ensures.all r.0 r.1
        (some_in (λ (s w : ℕ). s ≡ w) c.args.sources.now c.loop-source.source-index c.loop-source.found c.loop-source-test.false c.loop-source.invariant r.0 r.0 r.2 refl) r.3,
  ),
)
