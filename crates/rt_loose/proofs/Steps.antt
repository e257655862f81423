-- The sets of a base, and of a variable with a letter more.
use Rattle.std.proofs.Common.{◌≡◌, ◌↔◌, ◌⊎◌, inl, inr, List, [], Bool, true, false, Contains, refl, sym, subst}
use Rattle.std.specs.Prelude.{IsTrue}
use Rattle.rt_lines.specs.declared.label.Label.{Label}
use Rattle.rt_lines.specs.declared.label.Label.TheVariants.{In, Out, Load, Store, Field}
use Rattle.rt_lines.specs.declared.label.Variance.TheVariants.{Co, Contra}
use Rattle.rt_lines.specs.declared.variable.Base.{Base}
use Rattle.rt_lines.specs.declared.variable.Dtv.{Dtv}
use Rattle.rt_lines.specs.declared.line.Line.{Line}
use Rattle.rt_lines.specs.declared.line.Line.TheVariants.{Var as VarLine, Same}
use Rattle.rt_lines.specs.Orders.{Below}
use Rattle.rt_rules.specs.Rules.{longer, Derivable}
use Rattle.rt_rules.specs.Rules.Derivable.{prefix, same_letter, same_back}
use Rattle.rt_rules.proofs.Carry.{are_there}
use Rattle.rt_named.specs.Naming.{named}
use Rattle.rt_bridge.specs.Growing.{dv, vd}
use Rattle.rt_bridge.proofs.Growing.{dv-vd, vd-longer}
use Rattle.rt_bridge.proofs.Bridges.{Every as EveryVar}
use Rattle.rt_loose.specs.Kinds.{Kind, flexible, signed, before, opposite, IsPointer, Flips, Push, half, kept}
use Rattle.rt_loose.specs.Ways.{Way, Every}
use Rattle.rt_loose.specs.Ways.Way.{here, join, push}
use Rattle.rt_loose.specs.Sets.{Sets, set_for, AreThose, AreSets, IsBehind, IsNext, AreLed}
use Rattle.rt_loose.specs.Laws.{IsStart, IsExchange}
use Rattle.rt_loose.proofs.Paths.{Path, Seen, path, way, way_back, path_same, exchanged, turned}
use Rattle.rt_loose.proofs.Eliminating.{reduced}
use Rattle.rt_loose.proofs.Entering.{Near, Entry, entered}
use Rattle.rt_loose.proofs.Known.{Known, known_front, known_there, known_base, L, N, has_or, one_var, dec, parent, root, sides}

-- a list of those of one property has those of another that says the same of named variables
pub those : (known : List Dtv) (Has Other : Dtv → Type 0) (list : List Dtv) → ((n : Dtv) → Contains known n → Has n ↔ Other n) →
    AreThose known Has list → AreThose known Other list
those known Has Other list same are n = (
  λ c. let r : Contains known n × Has n = (are n).0 c in (r.0, (same n r.0).0 r.1),
  λ r. (are n).1 (r.0, (same n r.0).1 r.1),
)

module _ (order : Below) (lines : List Line) where
  -- ways the other way round, and of exchangeable letters
  module _ (M : Dtv → Type 0) where
    pub way_turned : {x y : Dtv} {k : Kind} → Way order lines M x y k → Way order lines M y x (opposite k)
    way_turned {x} {y} {k} w =
        way_back (L order lines) M (Seen (L order lines) M) (λ v p. p) y x (opposite k)
        (turned (L order lines) (Seen (L order lines) M) (path (L order lines) M w))

    pub way_exchanged : {x y : Dtv} {k : Kind} → Way order lines M x y k → Way order lines M x y flexible
    way_exchanged {x} {y} {k} w =
        way_back (L order lines) M (Seen (L order lines) M) (λ v p. p) x y flexible
        (exchanged (L order lines) (Seen (L order lines) M) (path (L order lines) M w))

    -- a way is one over all variables
    pub way_wide : {x y : Dtv} {k : Kind} → Way order lines M x y k → Way order lines Every x y k
    way_wide {x} {y} {k} w =
        way_back (L order lines) Every (Seen (L order lines) M) (λ v p. tt) x y k (path (L order lines) M w)

    pub way_same : {x y : Dtv} {k : Kind} → Way order lines M x y k → Derivable order lines (Same x y)
    way_same {x} {y} {k} w =
        subst (λ z. Derivable order lines (Same z y)) (dv-vd x)
        (subst (λ z. Derivable order lines (Same (dv (vd x)) z)) (dv-vd y)
        (path_same (L order lines) (Seen (L order lines) M) (path (L order lines) M w)).derives)

  -- between named variables ways go over these alone
  pub way_named : {x y : Dtv} {k : Kind} → Known order lines x → Known order lines y → Way order lines Every x y k →
      Way order lines (Known order lines) x y k
  way_named {x} {y} {k} p q w =
      way_back (L order lines) (Known order lines) (N order lines) (λ v c. c) x y k
      (reduced (L order lines) (N order lines) (dec order lines) (parent order lines) (root order lines) (sides order lines)
      (subst (Known order lines) (sym (dv-vd x)) p) (subst (Known order lines) (sym (dv-vd y)) q) (path (L order lines) Every w))

  -- ways to and from one variable
  from_above : (M : Dtv → Type 0) (x y : Dtv) → Way order lines M x y (signed Co) ↔ Way order lines M y x (signed Contra)
  from_above M x y = (way_turned M, way_turned M)

  -- the set for each kind
  module _ (x : Dtv) (sets : Sets) (are : AreSets order lines (named lines []) x sets) where
    pub in_set : (k : Kind) → AreThose (named lines []) (λ n. Way order lines Every n x k) (set_for k sets)
    in_set flexible = are.class
    in_set (signed Co) = are.below
    in_set (signed Contra) =
        those (named lines []) (λ n. Way order lines Every x n (signed Co)) (λ n. Way order lines Every n x (signed Contra)) sets.above
        (λ n c. from_above Every x n) are.above

  -- what ways lead to from the beginnings
  module _ (Begins : Kind → Dtv → Type 0) (x : Dtv)
      (meets : (k : Kind) (n : Dtv) → Known order lines n →
      ((q : Dtv) × Begins k q × Way order lines (Known order lines) n q k) ↔ Way order lines Every n x k) where
    above_too : (n : Dtv) → Known order lines n →
        ((q : Dtv) × Begins (signed Contra) q × Way order lines (Known order lines) q n (signed Co)) ↔ Way order lines Every x n (signed Co)
    above_too n c = (
      λ r. (from_above Every x n).1 ((meets (signed Contra) n c).0 (r.0, r.1, (from_above (Known order lines) r.0 n).0 r.2)),
      λ w.
          let r : (q : Dtv) × Begins (signed Contra) q × Way order lines (Known order lines) n q (signed Contra) =
          (meets (signed Contra) n c).1 ((from_above Every x n).0 w) in
          (r.0, r.1, (from_above (Known order lines) r.0 n).1 r.2),
    )

    pub led_sets : (sets : Sets) → AreLed order lines (named lines []) Begins sets → AreSets order lines (named lines []) x sets
    led_sets sets led = record {
      class = those (named lines []) _ (λ n. Way order lines Every n x flexible) sets.class (meets flexible) led.class;
      below = those (named lines []) _ (λ n. Way order lines Every n x (signed Co)) sets.below (meets (signed Co)) led.below;
      above = those (named lines []) _ (λ n. Way order lines Every x n (signed Co)) sets.above above_too led.above;
    }

  -- the start
  module _ (b : Base) where
    abbrev bare : Dtv
    bare = record { base = b; word = [] }

    start_meets : (k : Kind) (n : Dtv) → Known order lines n →
        ((q : Dtv) × IsStart (named lines []) b k q × Way order lines (Known order lines) n q k) ↔ Way order lines Every n bare k
    start_meets k n c = (
      λ r. subst (λ q. Way order lines Every n q k) (sym r.1.1) (way_wide (Known order lines) r.2),
      λ w.
          let v : Derivable order lines (VarLine n) × Derivable order lines (VarLine bare) = are_there order lines (way_same Every w) in
          let p : Known order lines bare = known_base order lines b v.1 in
          (bare, (p, refl), way_named c p w),
    )

    pub start_sets : (sets : Sets) → AreLed order lines (named lines []) (IsStart (named lines []) b) sets →
        AreSets order lines (named lines []) bare sets
    start_sets sets led = led_sets (IsStart (named lines []) b) bare start_meets sets led

  -- a step
  module _ (x : Dtv) (l : Label) (exchange : Bool) (there : Derivable order lines (VarLine (longer x l)))
      (is : IsExchange order lines x l exchange) (sets : Sets) (are : AreSets order lines (named lines []) x sets) where
    -- from what is behind a letter of a set there is a way
    behind_way : (d : Kind) (m : Label) (k : Kind) (n : Dtv) → ((q : Dtv) → Way order lines Every q x d → Push order lines q m l d k) →
        IsBehind (named lines []) (set_for d sets) m n → Way order lines Every n (longer x l) k
    behind_way d m k n pushes (c, q, among, e) =
        let w : Way order lines Every q x d = ((in_set x sets are d q).0 among).1 in
        subst (λ z. Way order lines Every z (longer x l) k) e
        (push tt tt (known_there order lines (longer q m) (subst (Known order lines) (sym e) c)) there w (pushes q w))

    flips_back : (q : Dtv) (k : Kind) → Way order lines Every q x k → Flips order lines x → Flips order lines q
    flips_back q k w f = (same_letter Load (same_back (way_same Every w)) f.0, same_letter Store (same_back (way_same Every w)) f.1)

    flips_on : (q : Dtv) (k : Kind) → Way order lines Every q x k → Flips order lines q → Flips order lines x
    flips_on q k w f = (same_letter Load (way_same Every w) f.0, same_letter Store (way_same Every w) f.1)

    next_way : (e : Bool) → exchange ≡ e → (k : Kind) (n : Dtv) → IsNext (named lines []) e l sets k n →
        Way order lines Every n (longer x l) k
    next_way true e k n (inl b) =
        let f : IsPointer l × Flips order lines x = is.0 e in
        behind_way flexible Load k n (λ q w. half tt f.0 (flips_back q flexible w f.1)) b
    next_way true e k n (inr b) =
        let f : IsPointer l × Flips order lines x = is.0 e in
        behind_way flexible Store k n (λ q w. half tt f.0 (flips_back q flexible w f.1)) b
    next_way false e k n b = behind_way (before l k) l k n (λ q w. kept) b

    either : (m : Label) (n : Dtv) → IsPointer m → IsBehind (named lines []) sets.class m n →
        IsBehind (named lines []) sets.class Load n ⊎ IsBehind (named lines []) sets.class Store n
    either Load n p b = inl b
    either Store n p b = inr b
    either (In a) n p b = absurd p
    either (Out r) n p b = absurd p
    either (Field w o) n p b = absurd p

    -- and what a way enters last is behind a letter of its set
    next_from : (e : Bool) → exchange ≡ e → (k d : Kind) (q : Dtv) (m : Label) → Known order lines (longer q m) →
        Way order lines Every q x d → Push order lines q m l d k → IsNext (named lines []) e l sets k (longer q m)
    next_from true e k d q m c w (half i j f) =
        either m (longer q m) i (c, q, (are.class q).1 (known_front order lines q m c, w), refl)
    next_from true e k d q m c w kept =
        either m (longer q m) (is.0 e).0 (c, q, (are.class q).1 (known_front order lines q m c, way_exchanged Every w), refl)
    next_from false e k d q m c w (half i j f) = let t : IsTrue exchange = is.1 (j, flips_on q d w f) in cc
    next_from false e k d q m c w kept = (c, q, (in_set x sets are d q).1 (known_front order lines q m c, w), refl)

    abbrev Led : Kind → Dtv → Type 0
    Led k n = (q : Dtv) × IsNext (named lines []) exchange l sets k q × Way order lines (Known order lines) n q k

    from_entry : (k : Kind) (n : Dtv) → Entry (L order lines) (N order lines) (vd n) (vd x) l k → Led k n
    from_entry k n e =
        let beside : Way order lines Every (dv e.head) (dv (vd x)) e.kind =
        way (L order lines) Every (Near (N order lines) (vd x)) (λ v c. tt) e.beside in
        let arrives : Way order lines (Known order lines) (dv (vd n)) (longer (dv e.head) e.last) k =
        way (L order lines) (Known order lines) (N order lines) (λ v c. c) e.arrives in (
          longer (dv e.head) e.last,
          next_from exchange refl k e.kind (dv e.head) e.last e.is_named
              (subst (λ z. Way order lines Every (dv e.head) z e.kind) (dv-vd x) beside) e.pushes,
          subst (λ z. Way order lines (Known order lines) z (longer (dv e.head) e.last) k) (dv-vd n) arrives,
        )

    entry_of : (k : Kind) (n : Dtv) → Known order lines n → (Known order lines (longer x l) → ⊥) → Way order lines Every n (longer x l) k →
        Entry (L order lines) (N order lines) (vd n) (vd x) l k
    entry_of k n c none w =
        entered (L order lines) (N order lines) one_var (dec order lines) (parent order lines) (root order lines) (sides order lines)
        (vd x) l (λ h. none (subst (λ z. Known order lines (longer z l)) (dv-vd x) h)) (vd n) k
        (subst (Known order lines) (sym (dv-vd n)) c)
        (subst (λ z. Path (L order lines) EveryVar (vd n) z k) (vd-longer x l) (path (L order lines) Every w))

    led_by : (k : Kind) (n : Dtv) → Known order lines n → Way order lines Every n (longer x l) k →
        Known order lines (longer x l) ⊎ (Known order lines (longer x l) → ⊥) → Led k n
    led_by k n c w (inl known) = (
      longer x l,
      next_from exchange refl k (before l k) x l known (here (before l k) tt (prefix l there)) kept,
      way_named c known w,
    )
    led_by k n c w (inr none) = from_entry k n (entry_of k n c none w)

    step_meets : (k : Kind) (n : Dtv) → Known order lines n → Led k n ↔ Way order lines Every n (longer x l) k
    step_meets k n c = (
      λ r. join (way_wide (Known order lines) r.2) (next_way exchange refl k r.0 r.1),
      λ w. led_by k n c w (has_or (named lines []) (longer x l)),
    )

    pub step_sets : (next : Sets) → AreLed order lines (named lines []) (IsNext (named lines []) exchange l sets) next →
        AreSets order lines (named lines []) (longer x l) next
    step_sets next led = led_sets (IsNext (named lines []) exchange l sets) (longer x l) step_meets next led
