-- Which numbered variables lie below each other, by a table.
use Rattle.std.proofs.Common.{◌≡◌, ℕ, ◌+◌, ◌<◌, Bool, true, false, List, [], length, Contains, sym, ap, subst, refl, ◌∙◌, arith}
use Rattle.std.specs.Prelude.{◌↔◌}
use Rattle.rt_lines.specs.declared.variable.Dtv.{Dtv}
use Rattle.rt_lines.specs.declared.line.Line.{Line}
use Rattle.rt_lines.specs.declared.line.Line.TheVariants.{Sub}
use Rattle.rt_lines.specs.Orders.{Below}
use Rattle.rt_rules.specs.Rules.{Derivable}
use Rattle.rt_components.specs.Groups.{Reaches}
use Rattle.rt_components.specs.Groups.Reaches.{there, onward}
use Rattle.rt_bridge.specs.Growing.{Given}
use Rattle.rt_bridge.specs.Counted.{differ, IsEven}
use Rattle.rt_bridge.specs.Laws.{Named}
use Rattle.rt_bridge.proofs.Bridges.{bridge_even}
use Rattle.rt_sat.specs.declared.state.State.{State}
use Rattle.rt_sat.specs.declared.state.Edge.{Edge}
use Rattle.rt_sat.specs.Deciding.{is_among}
use Rattle.rt_sat.specs.Numbered.{sign_of, at_number}
use Rattle.rt_sat.specs.Pushes.{AreSound}
use Rattle.rt_sat.specs.Searches.{Walk}
use Rattle.rt_sat.specs.Searches.Walk.{stays, turns, steps}
use Rattle.rt_sat.specs.Tables.{IsTableOf, place}
use Rattle.rt_sat.proofs.Below as below
use Rattle.rt_sat.proofs.Closings.{lines_sound}
use Rattle.rt_equals.specs.Comparing.{AreEquals}
use Rattle.rt_outline.specs.Together.{AreTogetherBy, HasPair}
use Rattle.rt_equals.specs.Plain.{ArePlainPairs, HasPlain}
use Rattle.rt_components.proofs.Reaching.{reaches_by}

-- an edge of count nought keeps the sign
pub parity_co : (k : ℕ) (a b : Bool) → IsEven (k + differ (sign_of a) (sign_of b)) → k ≡ 0 → a ≡ false → b ≡ false
parity_co k false false e z f = refl
parity_co k false true e z f = absurd (omega (arith, e, z))
parity_co k true b e z f = absurd (cc)

pub placed : (s : State) → s.contra ≡ false → s ≡ place s.variable
placed s e = λ i. record { variable = s.variable; contra = e i }

module _ (order : Below) (lines : List Line) (known : List Dtv) (edges : List Edge) (table : IsTableOf lines [] known edges) where
  abbrev L : Given
  L = record { order = order; lines = lines }

  sound : AreSound L known edges
  sound = table.closing.sound L (below.frame order lines [] known edges table) (below.named_all order lines [] known edges table).sides
      (lines_sound L known table.first table.entered)

  -- an edge of count nought turns nothing round
  plain_end : (e : Edge) → Contains edges e → e.count ≡ 0 → e.from.contra ≡ false → e.to.contra ≡ false
  plain_end e c z f = parity_co e.count e.from.contra e.to.contra (bridge_even L (Named (is_among known)) (sound e c)) z f

  plain : (e : Edge) → Contains edges e → e.count ≡ 0 → e.from.contra ≡ false → HasPlain edges e.from.variable e.to.variable
  plain e c z f = record {
    edge = e;
    listed = c;
    plain = record { from = placed e.from f; to = placed e.to (plain_end e c z f); none = z };
    start = refl;
    end = refl;
  }

  walk_reaches : {x y : State} {k : ℕ} → Walk edges x y k → k ≡ 0 → x.contra ≡ false → Reaches (HasPlain edges) x.variable y.variable
  walk_reaches stays z f = there
  walk_reaches (turns w) z f = absurd (omega (arith, z))
  walk_reaches (steps {k} e c w) z f =
      let n : e.count ≡ 0 = omega (arith, z) in
      onward (plain e c n f) (walk_reaches w (omega (arith, z)) (plain_end e c n f))

  step : (v w j : ℕ) → HasPlain edges v w → Walk edges (place w) (place j) 0 → Walk edges (place v) (place j) 0
  step v w j h r =
      subst (λ n. Walk edges (place v) (place j) n) (ap (λ n. n + 0) h.plain.none)
      (subst (λ s. Walk edges s (place j) (h.edge.count + 0)) (h.plain.from ∙ ap place h.start)
      (steps h.edge h.listed (subst (λ s. Walk edges s (place j) 0) (sym (h.plain.to ∙ ap place h.end)) r)))

  reaches_walk : {v j : ℕ} → Reaches (HasPlain edges) v j → Walk edges (place v) (place j) 0
  reaches_walk there = stays
  reaches_walk (onward {a} {b} {c} h r) = step a b c h (reaches_walk r)

  under : (i j : ℕ) → i < length known → j < length known → Derivable order lines (Sub (at_number known i) (at_number known j)) ↔
      Reaches (HasPlain edges) i j
  under i j h k =
      let t = below.below_numbers order lines [] known edges table i j h k in
      (λ d. walk_reaches (t.0 d) refl refl, λ r. t.1 (reaches_walk r))

-- numbers of what edges of count nought lead between both ways are those of variables that lie below each other
pub equals_whole : (lines : List Line) (known : List Dtv) (edges : List Edge) (pairs : List (ℕ × ℕ)) (count : ℕ)
    (numbers : List ℕ) → IsTableOf lines [] known edges → ArePlainPairs edges pairs → count ≡ length known →
    AreTogetherBy (HasPair pairs) count numbers → AreEquals lines known numbers
equals_whole lines known edges pairs count numbers table plain e are = record {
  each = are.each ∙ e;
  equal = λ order i j h k existential. (
      let t = are.equal i j (subst (λ n. i < n) (sym e) h) (subst (λ n. j < n) (sym e) k) in
      let u = under order lines known edges table i j h k in
      let v = under order lines known edges table j i k h in (
        λ f. (let p = t.0 f in (
          u.1 (reaches_by (HasPair pairs) (HasPlain edges) plain.only p.0),
          v.1 (reaches_by (HasPair pairs) (HasPlain edges) plain.only p.1),
        )),
        λ d. t.1 (
          reaches_by (HasPlain edges) (HasPair pairs) plain.all (u.0 d.0),
          reaches_by (HasPlain edges) (HasPair pairs) plain.all (v.0 d.1),
        ),
      )
      );
}
