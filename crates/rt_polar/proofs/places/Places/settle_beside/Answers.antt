use Rattle.std.proofs.Common.{◌≡◌, ◌≢◌, ℕ, ◌<◌, ◌≤◌, List, Bool, Option, Some, None, get_or, refl, sym, ap, subst, ◌∙◌, arith}
use Rattle.std.proofs.Math.ListN.{set}
use Rattle.indexmap.proofs.MapLemmas.{OnOk-map}
use Rattle.rt_lines.specs.declared.line.Line.{Line}
use Rattle.rt_polar.specs.Inside.Places.{Holds, IsFound, Settles}
use Rattle.rt_polar.specs.Inside.Places.Settles.{stands_before, moves}
use Rattle.rt_polar.specs.Index.{has}
use Rattle.rt_polar.proofs.Slots.{cleared_source, one_line}
use Rattle.rt_polar.proofs.Soles.{one_slot}
use Rattle.rt_polar.proofs.places.Places.settle_beside.Goals as goal

-- the cleared slot alone held the line
absent : (slots : List (Option Line)) (at : ℕ → ℕ → Bool) (other : ℕ) (l : Line) → IsFound slots at → Holds slots other l → (i : ℕ) → Holds (set slots other None) i l → ⊥
absent slots at other l found held i h = let s = cleared_source slots other i l h in s.0 (one_slot slots at found i other l s.1 held)

-- an empty slot is not the one that holds the line
behind : (slots : List (Option Line)) (other slot : ℕ) (l : Line) → Holds slots other l → get_or slots slot None ≡ None → slot ≤ other → slot < other
behind slots other slot l held empty le = omega (arith, le, apart)
  where
    apart : slot ≢ other
    apart e = let h : Holds slots slot l = subst (λ k. Holds slots k l) (sym e) held in cc

-- the line that the slot held is the one that is put before it
settled : (slots cleared new : List (Option Line)) (other slot : ℕ) (row : Line) → Holds slots other row → get_or slots slot None ≡ None → slot ≤ other → cleared ≡ set slots other None → new ≡ set cleared slot (Some row) → (l : Line) → Holds slots other l →
    Settles slots slot l new
settled slots cleared new other slot row here empty le e f l held =
    subst (λ m. Settles slots slot m new) (one_line slots other row l here held) (moves other (behind slots other slot row here empty le) here (f ∙ ap (λ s. set s slot (Some row)) e))

pub returns-then-other-slot-clause-settles : goal.returns-then-other-slot-clause-settles
returns-then-other-slot-clause-settles c = λ l held. stands_before c.args.other c.if-other-slot.true held refl

pub unreachable-requires : goal.unreachable-requires
unreachable-requires c =
    let held : Holds c.args.self.now.slots.items c.args.other c.requires.held.0 = c.requires.held.1 in
    let none : get_or c.args.self.now.slots.items c.args.other None ≡ None = sym c.clear.ensures.line ∙ c.in-None.is in
    cc

pub fill-requires-clause-absent : goal.fill-requires-clause-absent
fill-requires-clause-absent c = λ i h.
    absent c.args.self.now.slots.items (has c.args.self.now.at) c.args.other c.in-Some.row c.requires.places.found (sym c.clear.ensures.line ∙ c.in-Some.is) i (subst (λ slots. Holds slots i c.in-Some.row) c.clear.ensures.slots h)

pub fill-requires-clause-plain : goal.fill-requires-clause-plain
fill-requires-clause-plain c = c.requires.places.plain c.args.other c.in-Some.row (sym c.clear.ensures.line ∙ c.in-Some.is)

pub returns-clause-settles : goal.returns-clause-settles
returns-clause-settles c =
    let slots = c.args.self.now.slots.items in
    OnOk-map c.fill.result (c.fill.new.self.slots.items ≡ set c.clear.new.self.slots.items c.args.slot (Some c.in-Some.row)) ((l : Line) → Holds slots c.args.other l → Settles slots c.args.slot l c.fill.new.self.slots.items)
    (settled slots c.clear.new.self.slots.items c.fill.new.self.slots.items c.args.other c.args.slot c.in-Some.row (sym c.clear.ensures.line ∙ c.in-Some.is) c.requires.empty c.if-other-slot.false c.clear.ensures.slots)
    c.fill.ensures.slots
