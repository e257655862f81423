-- Ways between variables built at the right end: families whose indices are constructors, so that they can be matched.
use Rattle.std.proofs.Common.{◌≡◌, Contains, refl, sym, subst}
use Rattle.rt_lines.specs.declared.label.Label.{Label}
use Rattle.rt_lines.specs.declared.label.Label.TheVariants.{Load, Store}
use Rattle.rt_lines.specs.declared.label.Variance.TheVariants.{Co, Contra}
use Rattle.rt_lines.specs.declared.variable.Dtv.{Dtv}
use Rattle.rt_lines.specs.declared.line.Line.TheVariants.{Var as VarLine, Sub}
use Rattle.rt_lines.specs.Words.{label_variance}
use Rattle.rt_rules.specs.Rules.{longer, Derivable}
use Rattle.rt_bridge.specs.Growing.{Var, dot, dv, vd, Given, V, E, Der, HasSub}
use Rattle.rt_bridge.specs.Counted.{Flip}
use Rattle.rt_bridge.proofs.Growing.{der, e4, q1, q2, q3, q4, q5, s1, dv-vd, vd-longer}
use Rattle.rt_bridge.proofs.Bridges.{pointer_same}
use Rattle.rt_bridge.proofs.Eliminating.{times-turn}
use Rattle.rt_loose.specs.Kinds.{Kind, flexible, signed, before, opposite, Flips, Push, half, kept}
use Rattle.rt_loose.specs.Ways.{Way}
use Rattle.rt_loose.specs.Ways.Way.{here as way_here, up as way_up, down as way_down, flexible_up as way_flexible_up, flexible_down as way_flexible_down, join as way_join, push as way_push}

-- what may be pushed from a variable
abbrev pub Pushes : Given → Var → Label → Label → Kind → Kind → Type 0
Pushes L x l m d k = Push L.order L.lines (dv x) l m d k

pub data Path (L : Given) (M : Var → Type 0) : Var → Var → Kind → Type 0 where
  here : {x : Var} (k : Kind) → M x → Der L (V x) → Path L M x x k
  up : {x y : Var} → HasSub L x y → Path L M x y (signed Co)
  down : {x y : Var} → HasSub L x y → Path L M y x (signed Contra)
  flexible_up : {x y : Var} → HasSub L x y → Path L M x y flexible
  flexible_down : {x y : Var} → HasSub L x y → Path L M y x flexible
  join : {x y z : Var} {k : Kind} → Path L M x y k → Path L M y z k → Path L M x z k
  push : {x y : Var} {l m : Label} {d k : Kind} → M (dot x l) → M (dot y m) → Der L (V (dot x l)) → Der L (V (dot y m)) →
      Path L M x y d → Pushes L x l m d k → Path L M (dot x l) (dot y m) k

module _ (L : Given) where
  pub seen : (x : Dtv) → Derivable L.order L.lines (VarLine x) → Der L (V (vd x))
  seen x d = der L (V (vd x)) (subst (λ y. Derivable L.order L.lines (VarLine y)) (sym (dv-vd x)) d)

  pub seen_longer : (x : Dtv) (l : Label) → Derivable L.order L.lines (VarLine (longer x l)) → Der L (V (dot (vd x) l))
  seen_longer x l d = subst (λ y. Der L (V y)) (vd-longer x l) (seen (longer x l) d)

  seen_line : (x y : Dtv) → Contains L.lines (Sub x y) → HasSub L (vd x) (vd y)
  seen_line x y c = rw (dv-vd x, dv-vd y) c

  -- each way is a path
  module _ (M : Dtv → Type 0) where
    abbrev pub Seen : Var → Type 0
    Seen v = M (dv v)

    seen_push : (x y : Dtv) (l m : Label) (d k : Kind) → M (longer x l) → M (longer y m) →
        Derivable L.order L.lines (VarLine (longer x l)) → Derivable L.order L.lines (VarLine (longer y m)) →
        Path L Seen (vd x) (vd y) d → Push L.order L.lines x l m d k → Path L Seen (dot (vd x) l) (dot (vd y) m) k
    seen_push x y l m d k p q v w b s =
        push (subst (λ z. M (longer z l)) (sym (dv-vd x)) p) (subst (λ z. M (longer z m)) (sym (dv-vd y)) q)
        (seen_longer x l v) (seen_longer y m w) b (subst (λ z. Push L.order L.lines z l m d k) (sym (dv-vd x)) s)

    pub path : {x y : Dtv} {k : Kind} → Way L.order L.lines M x y k → Path L Seen (vd x) (vd y) k
    path (way_here {x} k p v) = here k (subst M (sym (dv-vd x)) p) (seen x v)
    path (way_up {x} {y} c) = up (seen_line x y c)
    path (way_down {x} {y} c) = down (seen_line x y c)
    path (way_flexible_up {x} {y} c) = flexible_up (seen_line x y c)
    path (way_flexible_down {x} {y} c) = flexible_down (seen_line x y c)
    path (way_join b c) = join (path b) (path c)
    path (way_push {x} {y} {l} {m} {d} {k} p q v w b s) =
        rw (vd-longer x l, vd-longer y m) (seen_push x y l m d k p q v w (path b) s)

    -- and each path is a way
    pub way : (P : Var → Type 0) → ((v : Var) → P v → M (dv v)) → {x y : Var} {k : Kind} → Path L P x y k →
        Way L.order L.lines M (dv x) (dv y) k
    way P f (here {x} k p v) = way_here k (f x p) v.derives
    way P f (up c) = way_up c
    way P f (down c) = way_down c
    way P f (flexible_up c) = way_flexible_up c
    way P f (flexible_down c) = way_flexible_down c
    way P f (join b c) = way_join (way P f b) (way P f c)
    way P f (push {x} {y} {l} {m} p q v w b s) = way_push (f (dot x l) p) (f (dot y m) q) v.derives w.derives (way P f b) s

    pub way_back : (P : Var → Type 0) → ((v : Var) → P v → M (dv v)) → (x y : Dtv) (k : Kind) → Path L P (vd x) (vd y) k →
        Way L.order L.lines M x y k
    way_back P f x y k b =
        subst (λ z. Way L.order L.lines M z y k) (dv-vd x)
        (subst (λ z. Way L.order L.lines M (dv (vd x)) z k) (dv-vd y) (way P f b))

  pub flip_of : (x : Var) → Flips L.order L.lines (dv x) → Flip L x
  flip_of x f = (der L (V (dot x Load)) f.0, der L (V (dot x Store)) f.1)

  pub flips_to : {x y : Var} → Der L (E x y) → Flips L.order L.lines (dv x) → Flips L.order L.lines (dv y)
  flips_to {x} {y} e f = let g : Flip L x = flip_of x f in ((e4 Load e g.0).derives, (e4 Store e g.1).derives)

  module _ (M : Var → Type 0) where
    push_ends : (x y : Var) (l m : Label) {d k : Kind} → Der L (E x y) → Der L (V (dot x l)) → Pushes L x l m d k →
        Der L (E (dot x l) (dot y m))
    push_ends x y l m e v (half p q f) =
        let g : Flip L y = flip_of y (flips_to e f) in q4 (q5 l e v) (pointer_same L y l m p q g.0 g.1)
    push_ends x y l m e v kept = q5 l e v

    -- the ends of a path have one shape
    pub path_same : {x y : Var} {k : Kind} → Path L M x y k → Der L (E x y)
    path_same (here k m v) = q2 v
    path_same (up m) = q1 (s1 m)
    path_same (down m) = q3 (q1 (s1 m))
    path_same (flexible_up m) = q1 (s1 m)
    path_same (flexible_down m) = q3 (q1 (s1 m))
    path_same (join p q) = q4 (path_same p) (path_same q)
    path_same (push {x} {y} {l} {m} p q v w b s) = push_ends x y l m (path_same b) v s

    -- whatever holds for a variance holds for letters that can be exchanged
    pub exchanged : {x y : Var} {k : Kind} → Path L M x y k → Path L M x y flexible
    exchanged (here k m v) = here flexible m v
    exchanged (up m) = flexible_up m
    exchanged (down m) = flexible_down m
    exchanged (flexible_up m) = flexible_up m
    exchanged (flexible_down m) = flexible_down m
    exchanged (join p q) = join (exchanged p) (exchanged q)
    exchanged (push p q v w b (half i j f)) = push p q v w b (half i j f)
    exchanged (push p q v w b kept) = push p q v w (exchanged b) kept

    before-opposite : (l : Label) (k : Kind) → opposite (before l k) ≡ before l (opposite k)
    before-opposite l flexible = refl
    before-opposite l (signed a) = rw (times-turn (label_variance l) a) refl

    -- and the other way round it is of the opposite kind
    pub turned : {x y : Var} {k : Kind} → Path L M x y k → Path L M y x (opposite k)
    turned (here k m v) = here (opposite k) m v
    turned (up m) = down m
    turned (down m) = up m
    turned (flexible_up m) = flexible_down m
    turned (flexible_down m) = flexible_up m
    turned (join p q) = join (turned q) (turned p)
    turned (push p q v w b (half i j f)) = push q p w v (turned b) (half j i (flips_to (path_same b) f))
    turned (push {x} {y} {l} {k = k} p q v w b kept) =
        push q p w v (subst (λ d. Path L M y x d) (before-opposite l k) (turned b)) kept

    -- the composition of two pushes over one middle
    pub record Composed (x z : Var) (l o : Label) (k : Kind) : Type 0 where
      pub between : Kind
      pub way : Path L M x z between
      pub pushes : Pushes L x l o between k

    pub compose : {x y z : Var} {l m o : Label} {d e k : Kind} → Path L M x y d → Pushes L x l m d k → Path L M y z e →
        Pushes L y m o e k → Composed x z l o k
    compose b (half p q f) c (half p' q' f') = record { between = flexible; way = join b c; pushes = half p q' f }
    compose b (half p q f) c kept = record { between = flexible; way = join b (exchanged c); pushes = half p q f }
    compose b kept c (half p' q' f') =
        record { between = flexible; way = join (exchanged b) c; pushes = half p' q' (flips_to (q3 (path_same b)) f') }
    compose {l} {k} b kept c kept = record { between = before l k; way = join b c; pushes = kept }

  pub more : (P Q : Var → Type 0) → ((x : Var) → P x → Q x) → {x y : Var} {k : Kind} → Path L P x y k → Path L Q x y k
  more P Q f (here k p v) = here k (f _ p) v
  more P Q f (up m) = up m
  more P Q f (down m) = down m
  more P Q f (flexible_up m) = flexible_up m
  more P Q f (flexible_down m) = flexible_down m
  more P Q f (join b c) = join (more P Q f b) (more P Q f c)
  more P Q f (push p q v w b s) = push (f _ p) (f _ q) v w (more P Q f b) s
