use Rattle.std.proofs.Common.{ℕ, ◌<◌, List, Contains, length, sym, subst}
use Rattle.rt_sat.specs.declared.state.Edge.{Edge}
use Rattle.rt_outline.specs.Together.{AreTogetherBy, HasPair}
use Rattle.rt_equals.specs.Plain.{ArePlainPairs}
use Rattle.rt_equals.proofs.Equal.{equals_whole}
use Rattle.rt_equals.proofs.counted.numbers_of.Goals as goal

pub together-requires-clause-within : goal.together-requires-clause-within
together-requires-clause-within c = λ v w m.
    let t = c.args.table.now in
    let p = c.in_ok-pairs.ensures.only v w (subst (λ (xs : List (ℕ × ℕ)). Contains xs (v, w)) c.deref-2.ensures.value m) in
    let h = c.requires p.edge (subst (λ (xs : List Edge). Contains xs p.edge) c.deref.ensures.value p.listed) in (
      subst (λ n. v < n) (sym c.len.ensures.count) (subst (λ n. n < length t.named) p.start h.0),
      subst (λ n. w < n) (sym c.len.ensures.count) (subst (λ n. n < length t.named) p.end h.1),
    )

pub returns : goal.returns
returns c = λ lines table.
    let t = c.args.table.now in
    equals_whole lines t.named t.edges.items c.in_ok-pairs.pairs.items c.len.result c.in_ok-classes.classes.numbers.items table
    (subst (λ (xs : List Edge). ArePlainPairs xs c.in_ok-pairs.pairs.items) c.deref.ensures.value c.in_ok-pairs.ensures)
    c.len.ensures.count
    (subst (λ (xs : List (ℕ × ℕ)). AreTogetherBy (HasPair xs) c.len.result c.in_ok-classes.classes.numbers.items) c.deref-2.ensures.value c.in_ok-classes.ensures.classes)
