-- What closed arcs between numbers say of variables.
use Rattle.std.proofs.Common.{◌≡◌, ℕ, ◌<◌, inl, inr, List, [], Contains, length, get_or, refl, sym, ap, subst, ◌∙◌}
use Rattle.std.specs.Prelude.{◌↔◌}
use Rattle.rt_lines.specs.declared.label.Label.{Label}
use Rattle.rt_lines.specs.declared.label.Variance.{Variance}
use Rattle.rt_lines.specs.declared.label.Variance.TheVariants.{Co, Contra}
use Rattle.rt_lines.specs.Words.{label_variance, times}
use Rattle.rt_lines.specs.declared.variable.Dtv.{Dtv}
use Rattle.rt_lines.specs.declared.line.Line.{Line}
use Rattle.rt_lines.specs.declared.line.Line.TheVariants.{Var, Same, Sub}
use Rattle.rt_lines.specs.Orders.{Below}
use Rattle.rt_rules.specs.Rules.{longer, Derivable}
use Rattle.rt_named.specs.Naming.{named as all_named}
use Rattle.rt_components.specs.Groups.{Reaches}
use Rattle.rt_components.specs.Groups.Reaches.{there, onward}
use Rattle.rt_loose.specs.Kinds.{Kind, flexible, signed, before, Flips, Push}
use Rattle.rt_loose.specs.Kinds.Push.{half, kept}
use Rattle.rt_loose.specs.Ways.{Way}
use Rattle.rt_loose.specs.Ways.Way.{here, up, down, flexible_up, flexible_down, join, push}
use Rattle.rt_loose.specs.Laws.{FlexibleLaw, TurnedLaw, flat_lines}
use Rattle.rt_shape.specs.Graphs.{IsReadWrite}
use Rattle.rt_shape.proofs.ReadWrite.{read_write_lem}
use Rattle.rt_ways.specs.declared.frame.Frame.{Frame}
use Rattle.rt_ways.specs.Arcs.{IsInRow}
use Rattle.rt_ways.specs.Inside.Frames.{AreExchanged, AreFirst, IsFrameOf, IsPointee}
use Rattle.rt_ways.specs.Pushes.{Closure, IsMade, variable_at}
use Rattle.rt_ways.specs.Pushes.Closure.{arc, stay, chain, co, contra}
use Rattle.rt_ways.proofs.Hubs.{class_node}
use Rattle.rt_ways.proofs.Knowing.{at_named, named_derives, named_prefix, number_in, sides_named}

module _ (lines : List Line) (frame : Frame) (arcs : List (List ℕ)) (is : IsFrameOf lines frame) (first : AreFirst lines frame arcs)
    (flexible_law : FlexibleLaw) (turned_law : TurnedLaw) (order : Below) where
  abbrev xs : List Dtv
  xs = frame.named

  abbrev Ways : Dtv → Dtv → Kind → Type 0
  Ways = Way order lines (Contains xs)

  abbrev at : ℕ → Dtv
  at n = variable_at xs n

  abbrev class : ℕ → ℕ
  class n = get_or frame.classes.items n 0

  abbrev node : ℕ → ℕ
  node n = get_or frame.nodes.items n 0

  there_at : (n : ℕ) → n < length xs → Contains (all_named lines []) (at n)
  there_at n h = subst (λ ys. Contains ys (at n)) is.named (at_named xs n h)

  derives : (x : Dtv) → Contains xs x → Derivable order lines (Var x)
  derives x c = named_derives order lines x (subst (λ ys. Contains ys x) is.named c)

  one_at : (i j : ℕ) → i < length xs → j < length xs → (class i ≡ class j) ↔ Derivable order (flat_lines lines) (Same (at i) (at j))
  one_at i j h k = is.classes.shape.one order (at i) (at j) (class i) (class j) (is.classes.nodes.node i h) (is.classes.nodes.node j k)

  -- classes
  pub flex : (i j : ℕ) → i < length xs → j < length xs → (class i ≡ class j) ↔ Ways (at i) (at j) flexible
  flex i j h k = (
    λ e. subst (λ ys. Way order lines (Contains ys) (at i) (at j) flexible) (sym is.named) ((flexible_law order lines (at i) (at j) (there_at i h) (there_at j k)).1 ((one_at i j h k).0 e)),
    λ w. (one_at i j h k).1 ((flexible_law order lines (at i) (at j) (there_at i h) (there_at j k)).0 (subst (λ ys. Way order lines (Contains ys) (at i) (at j) flexible) is.named w)),
  )

  turn : (x y : Dtv) → Ways x y (signed Co) → Ways y x (signed Contra)
  turn x y w = (turned_law order lines xs x y (signed Co) w).back

  flips_at : (n : ℕ) → n < length xs → IsReadWrite frame.shape (node n) ↔ Flips order lines (at n)
  flips_at n h = read_write_lem lines frame.shape order (at n) (node n) is.shape (is.nodes.node n h)

  -- what is behind letters, by ways between what they are behind
  longer_way : (v w p q : ℕ) (l m : Label) (d k : Kind) → IsMade xs v p l → IsMade xs w q m → Ways (at p) (at q) d → Push order lines (at p) l m d k → Ways (at v) (at w) k
  longer_way v w p q l m d k x y b s =
      let c : Contains xs (longer (at p) l) = subst (Contains xs) x.is (at_named xs v x.within) in
      let e : Contains xs (longer (at q) m) = subst (Contains xs) y.is (at_named xs w y.within) in
      subst (λ a. Ways a (at w) k) (sym x.is) (subst (λ a. Ways (longer (at p) l) a k) (sym y.is)
      (push c e (derives (longer (at p) l) c) (derives (longer (at q) m) e) b s))

  exchanged_way : (v w : ℕ) → AreExchanged frame v w → Ways (at v) (at w) (signed Co)
  exchanged_way v w x =
      longer_way v w x.1.parent x.2.parent x.1.letter x.2.letter flexible (signed Co) x.1.made x.2.made
      ((flex x.1.parent x.2.parent x.1.made.parent x.2.made.parent).0 (x.1.of_class ∙ sym x.2.of_class))
      (half x.1.pointer x.2.pointer ((flips_at x.1.parent x.1.made.parent).0 x.1.flips))

  kept_as : (x : Dtv) (l : Label) (s : Variance) → label_variance l ≡ s → Push order lines x l l (signed (times s Co)) (signed Co)
  kept_as x l s e = subst (λ t. Push order lines x l l (signed (times t Co)) (signed Co)) e kept

  arc_way : (v w : ℕ) → IsInRow arcs v w → Ways (at v) (at w) (signed Co)
  arc_way v w e = elim (first.only v w e) [ inl l ↦ up l.line | inr x ↦ exchanged_way v w x ]

  arc_right : (v w : ℕ) → IsInRow arcs v w → w < length xs
  arc_right v w e = subst (λ n. w < n) first.each (first.within v w e)

  pub closure_right : {v w : ℕ} → v < length xs → Closure xs (IsInRow arcs) v w → w < length xs
  closure_right {v} {w} h (arc e) = arc_right v w e
  closure_right h stay = h
  closure_right h (chain c d) = closure_right (closure_right h c) d
  closure_right h (co s x y c) = y.within
  closure_right h (contra s x y c) = y.within

  pub to_way : {v w : ℕ} → v < length xs → Closure xs (IsInRow arcs) v w → Ways (at v) (at w) (signed Co)
  to_way {v} {w} h (arc e) = arc_way v w e
  to_way {v} h stay = here (signed Co) (at_named xs v h) (derives (at v) (at_named xs v h))
  to_way h (chain c d) = join (to_way h c) (to_way (closure_right h c) d)
  to_way {v} {w} h (co {p} {q} {l} s x y c) = longer_way v w p q l l (signed Co) (signed Co) x y (to_way x.parent c) (kept_as (at p) l Co s)
  to_way {v} {w} h (contra {p} {q} {l} s x y c) =
      longer_way v w p q l l (signed Contra) (signed Co) x y (turn (at q) (at p) (to_way y.parent c)) (kept_as (at p) l Contra s)

  side : (x y : Dtv) → Contains lines (Sub x y) → Contains xs x × Contains xs y
  side x y c = (
    subst (λ ys. Contains ys x) (sym is.named) (sides_named lines (Sub x y) x c (inl refl)),
    subst (λ ys. Contains ys y) (sym is.named) (sides_named lines (Sub x y) y c (inr refl)),
  )

  -- ends of ways are named
  ends : {x y : Dtv} {k : Kind} → Ways x y k → Contains xs x × Contains xs y
  ends (here k m v) = (m, m)
  ends {x} {y} (up c) = side x y c
  ends {x} {y} (down c) = (let r = side y x c in (r.1, r.0))
  ends {x} {y} (flexible_up c) = side x y c
  ends {x} {y} (flexible_down c) = (let r = side y x c in (r.1, r.0))
  ends (join p q) = ((ends p).0, (ends q).1)
  ends (push m n v w b s) = (m, n)

  -- what a way of a kind says of numbers
  abbrev Case : Kind → ℕ → ℕ → Type 0
  Case flexible i j = Unit {0}
  Case (signed Co) i j = Closure xs (IsInRow arcs) i j
  Case (signed Contra) i j = Closure xs (IsInRow arcs) j i

  both : (k : Kind) (i j : ℕ) → Closure xs (IsInRow arcs) i j → Closure xs (IsInRow arcs) j i → Case k i j
  both flexible i j c d = tt
  both (signed Co) i j c d = c
  both (signed Contra) i j c d = d

  case_chain : (k : Kind) (i j n : ℕ) → Case k i j → Case k j n → Case k i n
  case_chain flexible i j n c d = tt
  case_chain (signed Co) i j n c d = chain c d
  case_chain (signed Contra) i j n c d = chain d c

  reaches_closure : {v w : ℕ} → Reaches (IsInRow arcs) v w → Closure xs (IsInRow arcs) v w
  reaches_closure there = stay
  reaches_closure (onward e r) = chain (arc e) (reaches_closure r)

  -- the kind before a letter of a variance
  abbrev signed_before : Variance → Kind → Kind
  signed_before s flexible = flexible
  signed_before s (signed a) = signed (times s a)

  case_kept : (k : Kind) (i j p q : ℕ) (l : Label) (s : Variance) → label_variance l ≡ s → IsMade xs i p l → IsMade xs j q l → Case (signed_before s k) p q → Case k i j
  case_kept flexible i j p q l s e x y c = tt
  case_kept (signed Co) i j p q l Co e x y c = co e x y c
  case_kept (signed Co) i j p q l Contra e x y c = contra e x y c
  case_kept (signed Contra) i j p q l Co e x y c = co e y x c
  case_kept (signed Contra) i j p q l Contra e x y c = contra e y x c

  before_is : (l : Label) (k : Kind) → before l k ≡ signed_before (label_variance l) k
  before_is l flexible = refl
  before_is l (signed a) = refl

  case_push : {x y : Dtv} {l m : Label} {d k : Kind} (i j p q : ℕ) → IsMade xs i p l → IsMade xs j q m → at p ≡ x → at q ≡ y → Ways x y d → Case d p q → Push order lines x l m d k → Case k i j
  case_push {x} {y} {k} i j p q a b e f w c (half u v flips) =
      both k i j (reaches_closure (first.exchanged i j (class p, left, right))) (reaches_closure (first.exchanged j i (class p, right, left)))
    where
      same : class q ≡ class p
      same = sym ((flex p q a.parent b.parent).1 (subst (λ z. Ways z (at q) flexible) (sym e) (subst (λ z. Ways x z flexible) (sym f) w)))

      here_flips : IsReadWrite frame.shape (node p)
      here_flips = (flips_at p a.parent).1 (subst (Flips order lines) (sym e) flips)

      left : IsPointee frame (class p) i
      left = record { parent = p; letter = _; made = a; pointer = u; of_class = refl; flips = here_flips }

      right : IsPointee frame (class p) j
      right = record { parent = q; letter = _; made = b; pointer = v; of_class = same; flips = subst (IsReadWrite frame.shape) (class_node lines frame p q is a.parent b.parent (sym same)) here_flips }
  case_push {l} {k} i j p q a b e f w c kept = case_kept k i j p q l (label_variance l) refl a b (subst (λ d. Case d p q) (before_is l k) c)

  made_of : (n : ℕ) (x : Dtv) (l : Label) → n < length xs → at n ≡ longer x l → Contains xs (longer x l) → (p : ℕ) × IsMade xs n p l × (at p ≡ x)
  made_of n x l h e c =
      let r : (p : ℕ) × (p < length xs) × (at p ≡ x) = number_in xs x (subst (λ ys. Contains ys x) (sym is.named) (named_prefix lines x l (subst (λ ys. Contains ys (longer x l)) is.named c))) in
      (r.0, record { within = h; parent = r.1; is = e ∙ ap (λ z. longer z l) (sym r.2) }, r.2)

  of_line : (i j : ℕ) (x y : Dtv) → i < length xs → j < length xs → at i ≡ x → at j ≡ y → Contains lines (Sub x y) → Closure xs (IsInRow arcs) i j
  of_line i j x y h k e f c = arc (first.lines_in i j (record { left = h; right = k; line = subst (Contains lines) (ap (λ z. Sub z y) (sym e) ∙ ap (Sub (at i)) (sym f)) c }))

  pub from_way : {x y : Dtv} {k : Kind} → Ways x y k → (i j : ℕ) → i < length xs → j < length xs → at i ≡ x → at j ≡ y → Case k i j
  from_way (here k m v) i j h n e f = (let s : i ≡ j = is.distinct i j h n (e ∙ sym f) in both k i j (subst (Closure xs (IsInRow arcs) i) s stay) (subst (λ z. Closure xs (IsInRow arcs) z i) s stay))
  from_way {x} {y} (up c) i j h n e f = of_line i j x y h n e f c
  from_way {x} {y} (down c) i j h n e f = of_line j i y x n h f e c
  from_way (flexible_up c) i j h n e f = tt
  from_way (flexible_down c) i j h n e f = tt
  from_way {k} (join {y} p q) i j h n e f =
      let r : (m : ℕ) × (m < length xs) × (at m ≡ y) = number_in xs y (ends p).1 in
      case_chain k i r.0 j (from_way p i r.0 h r.1 e r.2) (from_way q r.0 j r.1 n r.2 f)
  from_way (push {x} {y} {l} {m} a b v w c s) i j h n e f =
      let p : (p : ℕ) × IsMade xs i p l × (at p ≡ x) = made_of i x l h e a in
      let q : (q : ℕ) × IsMade xs j q m × (at q ≡ y) = made_of j y m n f b in
      case_push i j p.0 q.0 p.1 q.1 p.2 q.2 c (from_way c p.0 q.0 p.1.parent q.1.parent p.2 q.2) s

  pub meaning : (i j : ℕ) → i < length xs → j < length xs → Closure xs (IsInRow arcs) i j ↔ Ways (at i) (at j) (signed Co)
  meaning i j h k = (λ c. to_way h c, λ w. from_way w i j h k refl refl)
