-- What states that are made denote.
use Rattle.std.proofs.Common.{◌≡◌, ℕ, ◌<◌, Bool, true, false, Option, Some, None, IsSome, List, [], Contains, length, refl, sym, ap, subst, ◌∙◌}
use Rattle.std.specs.Prelude.{MatchOption, slice_get, slice_index_or}
use Rattle.std.proofs.lemmas.Option.{get_or_from_slice_get, slice_get_within}
use Rattle.rt_lines.specs.declared.label.Label.{Label}
use Rattle.rt_lines.specs.declared.label.Variance.{Variance}
use Rattle.rt_lines.specs.declared.label.Variance.TheVariants.{Co, Contra}
use Rattle.rt_lines.specs.Words.{label_variance}
use Rattle.rt_lines.specs.declared.variable.Base.{Base}
use Rattle.rt_lines.specs.declared.variable.Dtv.{Dtv}
use Rattle.rt_lines.specs.declared.line.Line.{Line}
use Rattle.rt_lines.specs.declared.line.Line.TheVariants.{Var}
use Rattle.rt_lines.specs.Orders.{Below}
use Rattle.rt_rules.specs.Rules.{longer, Derivable}
use Rattle.rt_rules.specs.Rules.Derivable.{same_back}
use Rattle.rt_named.specs.Naming.{named as all_named}
use Rattle.rt_named.specs.Origins.{no_variable}
use Rattle.rt_loose.specs.Kinds.{flexible, IsPointer, Flips}
use Rattle.rt_loose.specs.Sets.{AreLed, IsNext}
use Rattle.rt_loose.specs.Laws.{IsExchange}
use Rattle.rt_loose.specs.Ways.{Way, Every}
use Rattle.rt_loose.proofs.Lawful.{start_law, step_law}
use Rattle.rt_shape.specs.Graphs.{bare, node_of, step_of, IsReadWrite}
use Rattle.rt_shape.proofs.ReadWrite.{read_write_lem}
use Rattle.rt_shape.proofs.Walks.{node_of-longer}
use Rattle.rt_ways.specs.Arcs.{IsInRow}
use Rattle.rt_ways.specs.Nets.{Net, class_at}
use Rattle.rt_ways.specs.Pushes.{variable_at}
use Rattle.rt_ways.proofs.Knowing.{at_named}
use Rattle.rt_sketch.specs.declared.machine.Machine.{Machine}
use Rattle.rt_sketch.specs.declared.state.State.{State}
use Rattle.rt_sketch.specs.Growths.{HasNextRows}
use Rattle.rt_sketch.specs.Inside.Letters.{HasNext}
use Rattle.rt_sketch.specs.Inside.Rows.{AreRows}
use Rattle.rt_sketch.specs.States.{AreNumbers, AreSetsOf, Denotes, IsMachineOf, members, sets_of}
use Rattle.rt_sketch.specs.Inside.Steps.{AreAll, IsBehindOf, IsFor, IsLed, hub_in, next_class}
use Rattle.rt_sketch.proofs.Leading.{flips_over, led_co, led_contra, led_hub, led_none, led_nowhere, led_start, way_same}
use Rattle.rt_sketch.proofs.Members.{variable_has}

not_true : false ≡ true → ⊥
not_true e = cc

numbers_led : (net : Net) (rows : List (List ℕ)) (numbers all : List ℕ) (l : Label) → ((m i : ℕ) → IsInRow rows m i → i < length net.named) → AreAll (IsLed net rows numbers l) all → AreNumbers net all
numbers_led net rows numbers all l within are n c = let led : IsLed net rows numbers l n = (are n).0 c in within led.1 n led.4

numbers_row : (net : Net) (rows : List (List ℕ)) (m : ℕ) (all : List ℕ) → ((m i : ℕ) → IsInRow rows m i → i < length net.named) → AreAll (IsInRow rows m) all → AreNumbers net all
numbers_row net rows m all within are n c = within m n ((are n).0 c)

numbers_none : (net : Net) (all : List ℕ) → AreAll (λ w. ⊥) all → AreNumbers net all
numbers_none net all are n c = absurd ((are n).0 c)

module _ (lines : List Line) (machine : Machine) (is : IsMachineOf lines machine) where
  abbrev net : Net
  net = machine.ways

  there : (x : Dtv) (node : ℕ) → node_of machine.shape x ≡ Some node → (order : Below) → Derivable order lines (Var x)
  there x node e order = (is.shape.there order x).0 (subst IsSome (sym e) refl)

  module _ (state : State) (x : Dtv) (d : Denotes lines machine state x) (l : Label) (node : ℕ) (e : node_of machine.shape (longer x l) ≡ Some node) where
    flips_x : IsReadWrite machine.shape state.node → (order : Below) → Flips order lines x
    flips_x rw order = (read_write_lem lines machine.shape order x state.node is.shape d.node).0 rw

    flips_members : IsReadWrite machine.shape state.node → (order : Below) (q : ℕ) → Contains (members net state.class) q → Flips order lines (variable_at net.named q)
    flips_members rw order q c =
        let w : Way order lines Every (variable_at net.named q) x flexible = (((d.sets.sets order).class (variable_at net.named q)).0 (variable_has net (members net state.class) q c)).1 in
        flips_over order lines x (variable_at net.named q) (same_back (way_same order lines Every w)) (flips_x rw order)

    exchange_yes : IsPointer l → IsReadWrite machine.shape state.node → (order : Below) → IsExchange order lines x l true
    exchange_yes p rw order = (λ t. (p, flips_x rw order), λ f. refl)

    exchange_no : (IsPointer l × IsReadWrite machine.shape state.node → ⊥) → (order : Below) → IsExchange order lines x l false
    exchange_no not order = (λ t. absurd (not_true t), λ f. absurd (not (f.0, (read_write_lem lines machine.shape order x state.node is.shape d.node).1 f.1)))

    stepped : (exchanged : Bool) (class : Option ℕ) (below above : List ℕ) → ((order : Below) → IsExchange order lines x l exchanged) →
        ((order : Below) → AreLed order lines (all_named lines []) (IsNext (all_named lines []) exchanged l (sets_of net state.class state.below.items state.above.items)) (sets_of net class below above)) →
        AreNumbers net below → AreNumbers net above → AreSetsOf lines net class below above (longer x l)
    stepped exchanged class below above ex led b a = record {
      below_in = b;
      above_in = a;
      sets = λ order. step_law order lines x l exchanged (sets_of net state.class state.below.items state.above.items) (sets_of net class below above) (there (longer x l) node e order) (ex order) (d.sets.sets order) (led order);
    }

    pub exchanged : (number : Option ℕ) (next : State) → IsPointer l → IsReadWrite machine.shape state.node → hub_in net state.class ≡ number → IsFor net node number next → Denotes lines machine next (longer x l)
    exchanged None next p rw f for = record {
      node = e ∙ ap Some (sym for.node);
      sets = subst (λ c. AreSetsOf lines net c next.below.items next.above.items (longer x l)) (sym for.class)
          (stepped true None next.below.items next.above.items (exchange_yes p rw)
          (λ order. led_nowhere lines net is.ways order state.class (flips_members rw order) next.below.items next.above.items state.below.items state.above.items l f for.below for.above)
          (numbers_none net next.below.items for.below) (numbers_none net next.above.items for.above));
    }
    exchanged (Some n) next p rw f for = record {
      node = e ∙ ap Some (sym for.node);
      sets = subst (λ c. AreSetsOf lines net c next.below.items next.above.items (longer x l)) (sym for.class)
          (stepped true (Some (class_at net n)) next.below.items next.above.items (exchange_yes p rw)
          (λ order. led_hub lines net is.ways order state.class (flips_members rw order) n next.below.items next.above.items state.below.items state.above.items l f for.below for.above)
          (numbers_row net net.below n next.below.items is.ways.below_within for.below) (numbers_row net net.above n next.above.items is.ways.above_within for.above));
    }

    pub kept_co : (next : State) → (IsPointer l × IsReadWrite machine.shape state.node → ⊥) → label_variance l ≡ Co →
        IsBehindOf net node (next_class net state.class l) l state.below.items state.above.items next → Denotes lines machine next (longer x l)
    kept_co next not v b = record {
      node = e ∙ ap Some (sym b.node);
      sets = subst (λ c. AreSetsOf lines net c next.below.items next.above.items (longer x l)) (sym b.class)
          (stepped false (next_class net state.class l) next.below.items next.above.items (exchange_no not)
          (λ order. led_co lines net is.ways order state.class state.below.items state.above.items next.below.items next.above.items l v d.sets.below_in d.sets.above_in b.below b.above)
          (numbers_led net net.below state.below.items next.below.items l is.ways.below_within b.below) (numbers_led net net.above state.above.items next.above.items l is.ways.above_within b.above));
    }

    pub kept_contra : (next : State) → (IsPointer l × IsReadWrite machine.shape state.node → ⊥) → label_variance l ≡ Contra →
        IsBehindOf net node (next_class net state.class l) l state.above.items state.below.items next → Denotes lines machine next (longer x l)
    kept_contra next not v b = record {
      node = e ∙ ap Some (sym b.node);
      sets = subst (λ c. AreSetsOf lines net c next.below.items next.above.items (longer x l)) (sym b.class)
          (stepped false (next_class net state.class l) next.below.items next.above.items (exchange_no not)
          (λ order. led_contra lines net is.ways order state.class state.below.items state.above.items next.below.items next.above.items l v d.sets.below_in d.sets.above_in b.below b.above)
          (numbers_led net net.below state.above.items next.below.items l is.ways.below_within b.below) (numbers_led net net.above state.below.items next.above.items l is.ways.above_within b.above));
    }

    pub kept : (next : State) → (IsPointer l × IsReadWrite machine.shape state.node → ⊥) →
        (label_variance l ≡ Co → IsBehindOf net node (next_class net state.class l) l state.below.items state.above.items next) →
        (label_variance l ≡ Contra → IsBehindOf net node (next_class net state.class l) l state.above.items state.below.items next) → Denotes lines machine next (longer x l)
    kept next not co contra = by (label_variance l) refl
      where
        by : (v : Variance) → label_variance l ≡ v → Denotes lines machine next (longer x l)
        by Co v = kept_co next not v (co v)
        by Contra v = kept_contra next not v (contra v)

  -- a base alone
  module _ (b : Base) (node : ℕ) (e : node_of machine.shape (bare b) ≡ Some node) where
    pub started : (number : Option ℕ) (first : State) → MatchOption number (Contains net.named (bare b) → ⊥) (λ n. slice_get net.named n ≡ Some (bare b)) → IsFor net node number first →
        Denotes lines machine first (bare b)
    started None first not for = record {
      node = e ∙ ap Some (sym for.node);
      sets = subst (λ c. AreSetsOf lines net c first.below.items first.above.items (bare b)) (sym for.class) (record {
        below_in = numbers_none net first.below.items for.below;
        above_in = numbers_none net first.above.items for.above;
        sets = λ order. start_law order lines b (sets_of net None first.below.items first.above.items)
            (led_none lines net is.ways order (λ n. Contains (all_named lines []) n × (bare b ≡ n)) first.below.items first.above.items
            (λ y p. not (subst (λ ys. Contains ys (bare b)) (sym is.ways.named) (subst (Contains (all_named lines [])) (sym p.1) p.0))) for.below for.above);
      });
    }
    started (Some n) first found for =
        let h : n < length net.named = slice_get_within net.named n (bare b) found in
        let here : variable_at net.named n ≡ bare b = get_or_from_slice_get net.named n (bare b) no_variable found in record {
          node = e ∙ ap Some (sym for.node);
          sets = subst (λ c. AreSetsOf lines net c first.below.items first.above.items (bare b)) (sym for.class) (record {
            below_in = numbers_row net net.below n first.below.items is.ways.below_within for.below;
            above_in = numbers_row net net.above n first.above.items is.ways.above_within for.above;
            sets = λ order. start_law order lines b (sets_of net (Some (class_at net n)) first.below.items first.above.items)
                (led_start lines net is.ways order (bare b) (λ m. Contains (all_named lines []) m × (bare b ≡ m)) n first.below.items first.above.items h
                (begins n h here) (λ y p. sym p.1 ∙ sym here) for.below for.above);
          });
        }
      where
        begins : (n : ℕ) → n < length net.named → variable_at net.named n ≡ bare b → Contains (all_named lines []) (variable_at net.named n) × (bare b ≡ variable_at net.named n)
        begins n h here = (subst (λ ys. Contains ys (variable_at net.named n)) is.ways.named (at_named net.named n h), sym here)

-- nothing is behind a letter where the shape has no step
pub no_step : (lines : List Line) (machine : Machine) (state : State) (l : Label) → IsMachineOf lines machine → (x : Dtv) → Denotes lines machine state x → node_of machine.shape (longer x l) ≡ None →
    (order : Below) → Derivable order lines (Var (longer x l)) → ⊥
no_step lines machine state l is x d e order v = (let h : false ≡ true = subst IsSome e ((is.shape.there order (longer x l)).1 v) in cc)

-- what is behind a state is behind a letter of its node
pub next_rows : (lines : List Line) (machine : Machine) (letters : List Label) (rows : List (List Label)) → IsMachineOf lines machine → HasNext lines letters → AreRows machine.shape letters rows →
    HasNextRows lines machine rows
next_rows lines machine letters rows is next are order s x l d v = by (step_of machine.shape s.node l) refl
  where
    by : (o : Option ℕ) → step_of machine.shape s.node l ≡ o → Contains (slice_index_or rows s.node []) l
    by None e = absurd (no_step lines machine s l is x d (node_of-longer machine.shape x l s.node d.node ∙ e) order v)
    by (Some m) e = are.all s.node l m e (next order x l v)

-- nor is a base there that has no node
pub no_start : (lines : List Line) (machine : Machine) (b : Base) → IsMachineOf lines machine → node_of machine.shape (bare b) ≡ None → (order : Below) → Derivable order lines (Var (bare b)) → ⊥
no_start lines machine b is e order v = (let h : false ≡ true = subst IsSome e ((is.shape.there order (bare b)).1 v) in cc)
