use Rattle.std.proofs.Common.{◌≡◌, ◌≢◌, ℕ, ◌+◌, ◌<◌, ◌≤◌, ◌⊎◌, inl, inr, true, sym, subst, ◌∙◌, arith}
use Rattle.rt_polar.specs.Index.{has}
use Rattle.rt_polar.specs.Inside.Places.{Holds}
use Rattle.rt_polar.proofs.Holding.{same_or_apart}
use Rattle.rt_polar.proofs.Slots.{held_by, read_held, within}
use Rattle.rt_polar.proofs.places.Places.find.Goals as goal
use Rattle.std.proofs.lemmas.Bool.{cases_lt}

pub returns-then-is_held : goal.returns-then-is_held
returns-then-is_held c =
    let slots = c.args.self.now.slots.items in
    let s = c.requires.found.source c.digest-digest.result c.in-Some.slot c.in-Some.ensures.1 in
    held_by slots c.in-Some.slot c.index.result.now c.args.row.now (within slots c.in-Some.slot s.0 s.1) (sym c.index.ensures ∙ c.is_held.ensures.0 c.if-is_held.true)

pub loop-slot-preserved : goal.loop-slot-preserved
loop-slot-preserved c = λ i lt h. by i lt h (cases_lt i c.loop-slot.from) (same_or_apart i c.in-Some.slot)
  where
    by : (i : ℕ) → i < c.in-Some.slot + 1 → Holds c.args.self.now.slots.items i c.args.row.now → (i < c.loop-slot.from) ⊎ (c.loop-slot.from ≤ i) → (i ≡ c.in-Some.slot) ⊎ (i ≢ c.in-Some.slot) → ⊥
    by i lt h (inl less) same = c.loop-slot.invariant i less h
    by i lt h (inr le) (inl e) =
        let slots = c.args.self.now.slots.items in
        let g : Holds slots c.in-Some.slot c.args.row.now = subst (λ k. Holds slots k c.args.row.now) e h in
        let no = c.if-is_held.false in
        let yes : c.is_held.result ≡ true = c.is_held.ensures.1 (c.index.ensures ∙ read_held slots c.in-Some.slot c.index.result.now c.args.row.now g) in
        cc
    by i lt h (inr le) (inr apart) =
        let at : has c.args.self.now.at c.digest-digest.result i ≡ true = subst (λ d. has c.args.self.now.at d i ≡ true) (sym c.digest-digest.ensures) (c.requires.found.digested i c.args.row.now h) in
        let least : c.in-Some.slot ≤ i = c.in-Some.ensures.2 i le at in
        omega (arith, lt, apart, least)

pub returns : goal.returns
returns c = λ i h. by i h (cases_lt i c.loop-slot.from)
  where
    by : (i : ℕ) → Holds c.args.self.now.slots.items i c.args.row.now → (i < c.loop-slot.from) ⊎ (c.loop-slot.from ≤ i) → ⊥
    by i h (inl less) = c.loop-slot.invariant i less h
    by i h (inr le) = c.in_default.ensures i le (subst (λ d. has c.args.self.now.at d i ≡ true) (sym c.digest-digest.ensures) (c.requires.found.digested i c.args.row.now h))
