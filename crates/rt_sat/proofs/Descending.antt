-- A judgement below a probe is counted between the variables above it.
use Rattle.std.proofs.Common.{◌≡◌, ℕ, ℤ, ◌+◌, ◌≤◌, inl, inr, Bool, true, false, List, [], ◌∷◌, Contains, refl, sym, subst, ◌∙◌, arith}
use Rattle.rt_lines.specs.declared.label.Label.{Label}
use Rattle.rt_lines.specs.declared.label.Label.TheVariants.{In, Out, Load, Store, Field}
use Rattle.rt_lines.specs.declared.label.Variance.{Variance}
use Rattle.rt_lines.specs.declared.label.Variance.TheVariants.{Co, Contra}
use Rattle.rt_lines.specs.declared.variable.Base.{Base}
use Rattle.rt_lines.specs.declared.variable.Dtv.{Dtv}
use Rattle.rt_lines.specs.declared.line.Line.{Line}
use Rattle.rt_lines.specs.declared.line.Line.TheVariants.{Sub}
use Rattle.rt_lines.specs.Equality.{label_eq}
use Rattle.rt_lines.specs.Words.{label_variance, times, variance_of_word}
use Rattle.rt_rules.specs.Rules.{HasSide}
use Rattle.rt_bridge.specs.Growing.{Var, at, dot, dv, rest, vd, Given, V, E, S, Der, HasSub}
use Rattle.rt_bridge.specs.Counted.{bit, State, st, IsPointer, Push, half, kept, Bridge, here, turn, up, down, join, push}
use Rattle.rt_bridge.specs.Laws.{Named, AreNamed}
use Rattle.rt_bridge.proofs.Growing.{e2, vd-dv}
use Rattle.rt_bridge.proofs.Bridges.{bridge_same, push_same, bridge_even, even_join, even_here, even_turn, push_join, bits_keep}
use Rattle.rt_bridge.proofs.Eliminating.{times-turn, complete}
use Rattle.rt_bridge.proofs.Exact.{Level, bare, level}
use Rattle.rt_bridge.proofs.Trees.{V as Is, E as One, Tree, tree}
use Rattle.rt_chain.specs.Numbers.{number_of}
use Rattle.rt_sat.specs.Probe.{all_flip}
use Rattle.rt_sat.proofs.Probes.{Part, above, below, outside, after, top_after, ArePointers, part, top, top-above, part-probe, top-probe, top-rest, Alike, Has, B, old_line, line_there, fresh}
use Rattle.rt_bridge.proofs.Lawful.{decide}

abbrev pub number : List Label → ℕ
number w = number_of w (all_flip w)

pub number-more : (l : Label) (w : List Label) → number (l ∷ w) ≡ bit (times (label_variance l) (variance_of_word w)) + (number w + number w)
number-more l w = omega arith

-- where no subtype line reaches, a judgement is one of the parents pushed
module _ (L : Given) (M : Var → Type 0) (parent : (x : Var) (l : Label) → M (dot x l) → M x) (Z : Var → Type 0) (closed : (x y : Var) → Der L (E x y) → Z x → Z y)
    (free : (x y : Var) → HasSub L x y → (Z x → ⊥) × (Z y → ⊥)) where
  level_here : (x : Var) (a : Variance) → M x → Der L (V x) → Level L M (st x a) (st x a) 0
  level_here (at b) a q v = bare (even_here a)
  level_here (dot x l) a q v = level v (here (times (label_variance l) a) (parent x l q) (e2 l v)) kept

  level_turn : (x : Var) (a : Variance) → M x → Der L (V x) → Level L M (st x a) (st x (times Contra a)) 1
  level_turn (at b) a q v = bare (even_turn a)
  level_turn (dot x l) a q v =
      let b : Bridge L M (st x (times (label_variance l) a)) (st x (times Contra (times (label_variance l) a))) 1 = turn (times (label_variance l) a) (parent x l q) (e2 l v) in
      level v (subst (λ s. Bridge L M (st x (times (label_variance l) a)) (st x s) 1) (times-turn (label_variance l) a) b) kept

  level_join : {x y z : State} {j k : ℕ} → Level L M x y j → Level L M y z k → Level L M x z (j + k)
  level_join (bare {a} {c} {k = j} e) (bare {c = d} {k} f) = bare (even_join a c d j k e f)
  level_join (level v b s) (level v' b' s') = level v (join b b') (push_join L (bridge_same L M b) (bridge_even L M b) (bridge_even L M b') s s')

  pub zone : {x y : State} {k : ℕ} → Bridge L M x y k → Z x.var → Level L M x y k
  zone (here {x} a q v) z = level_here x a q v
  zone (turn {x} a q v) z = level_turn x a q v
  zone (up {x} {y} h) z = absurd ((free x y h).0 z)
  zone (down {x} {y} h) z = absurd ((free x y h).1 z)
  zone (join {x} {y} b c) z = level_join (zone b z) (zone c (closed x.var y.var (bridge_same L M b) z))
  zone (push q r v w c s) z = level v c s

-- below the variable with the letter, with so much of the word still to come
pub data Reach (x : Var) (c : Label) (r : List Label) : Var → List Label → Type 0 where
  begun : Reach x c r (dot x c) r
  gone : {u : Var} {l : Label} {w : List Label} → IsPointer l → Reach x c r u (l ∷ w) → Reach x c r (dot u l) w

pub reach : (x : Var) (c : Label) (r w : List Label) (u : Var) → ArePointers w → Reach x c r u w → Reach x c r (rest u w) []
reach x c r [] u p q = q
reach x c r (l ∷ w) u p q = reach x c r w (dot u l) p.1 (gone p.0 q)

above_back : (p : Part) (b : Bool) (l : Label) → after p b l ≡ above → p ≡ above
above_back above b l e = refl
above_back (below n) b Load e = absurd (cc)
above_back (below n) b Store e = absurd (cc)
above_back (below n) b (Field w j) e = absurd (cc)
above_back (below n) b (In a) e = absurd (cc)
above_back (below n) b (Out j) e = absurd (cc)
above_back outside b l e = e

kept_rises : (a b : Variance) (d i j : ℕ) → d + bit a ≤ (d + d) + bit b → i + d ≤ j → (bit a + (i + i)) + d ≤ bit b + (j + j)
kept_rises a b d i j h k = omega (arith, h, k)

push_kept : {L : Given} {x : Var} {l o : Label} {d n : ℕ} {a b : Variance} → Push L x l o d a b n → (IsPointer l × IsPointer o → ⊥) → (l ≡ o) × (d ≡ n)
push_kept (half p q f g i j) unless = absurd (unless (p, q))
push_kept kept unless = (refl, refl)

half_rises : (p q d n i j : ℕ) → d + p ≤ (n + n) + q → i + n ≤ j → (p + (i + i)) + d ≤ q + (j + j)
half_rises p q d n i j h k = omega (arith, h, k)

module _ (k : ℤ) (A : Given) (X : Var) (m : ℕ) (free : (l : Line) (x : Dtv) → Contains A.lines l → HasSide l x → Contains x.word (Field 8 k) → ⊥)
    (exists : Der A (V X)) (plain : part k X ≡ above) where
  abbrev pub P : Given
  P = B k A X m free exists plain

  pub shown_there : (x : Var) → Der P (V x) → Has k A X m free exists plain (part k x) (top k x)
  shown_there x d = fresh k A X m free exists plain (subst (λ y. Tree P.order P.lines (Is y)) (vd-dv x) (tree P.order P.lines d.derives))

  pub shown_one : (x y : Var) → Der P (E x y) → Alike k A X m free exists plain x y
  shown_one x y d = fresh k A X m free exists plain (subst (λ z. Tree P.order P.lines (One z y)) (vd-dv x) (subst (λ z. Tree P.order P.lines (One (vd (dv x)) z)) (vd-dv y) (tree P.order P.lines d.derives)))

  pub old_sub : (x y : Var) → HasSub P x y → HasSub A x y
  old_sub x y c = old_line k A X m free exists plain (Sub (dv x) (dv y)) (λ v. v) c

  sub_above : (x y : Var) → HasSub P x y → (part k x ≡ above) × (part k y ≡ above)
  sub_above x y c = (
    line_there k A X m free exists plain (Sub (dv x) (dv y)) x (old_sub x y c) (inl refl),
    line_there k A X m free exists plain (Sub (dv x) (dv y)) y (old_sub x y c) (inr refl),
  )

  module _ (named : Var → Bool) (are : AreNamed A named) where
    -- what is named above the probe
    abbrev pub wide : Var → Bool
    wide x = named (top k x)

    parent_by : (p : Part) (b : Bool) (x t : Var) (l : Label) → (p ≡ above → t ≡ x) → Named named (top_after (after p b l) (dot x l) t) → Named named t
    parent_by above true x t l is h = h
    parent_by above false x t l is h = subst (Named named) (sym (is refl)) (are.parents x l h)
    parent_by (below n) b x t Load is h = h
    parent_by (below n) b x t Store is h = h
    parent_by (below n) b x t (Field w j) is h = h
    parent_by (below n) b x t (In a) is h = h
    parent_by (below n) b x t (Out j) is h = h
    parent_by outside b x t l is h = h

    parent : (x : Var) (l : Label) → Named wide (dot x l) → Named wide x
    parent x l h = parent_by (part k x) (label_eq l (Field 8 k)) x (top k x) l (top-above k x) h

    root : (b : Base) → Der P (V (at b)) → Named wide (at b)
    root b d = are.bases b (shown_there (at b) d)

    sides : (x y : Var) → HasSub P x y → Named wide x × Named wide y
    sides x y c =
        let n : Named named x × Named named y = are.sides x y (old_sub x y c) in (
          subst (Named named) (sym (top-above k x (sub_above x y c).0)) n.0,
          subst (Named named) (sym (top-above k y (sub_above x y c).1)) n.1,
        )

    old_there : (x : Var) → part k x ≡ above → Der P (V x) → Der A (V x)
    old_there x e d = subst (λ t. Der A (V t)) (top-above k x e) (subst (λ p. Has k A X m free exists plain p (top k x)) e (shown_there x d))

    old_named : (x : Var) → part k x ≡ above → Named wide x → Named named x
    old_named x e h = subst (Named named) (top-above k x e) h

    pointer_above : (x : Var) (l : Label) → IsPointer l → part k x ≡ above → part k (dot x l) ≡ above
    pointer_above x Load p e = rw e refl
    pointer_above x Store p e = rw e refl
    pointer_above x (Field w j) p e = absurd p
    pointer_above x (In a) p e = absurd p
    pointer_above x (Out j) p e = absurd p

    old_push : {x : Var} {l o : Label} {d n : ℕ} {a b : Variance} → part k x ≡ above → Push P x l o d a b n → Push A x l o d a b n
    old_push {x} e (half p q f g h i) = half p q (old_there (dot x Load) (pointer_above x Load tt e) f) (old_there (dot x Store) (pointer_above x Store tt e) g) h i
    old_push e kept = kept

    -- above the probe what counts with it counts without it
    pub old_bridge : {x y : State} {n : ℕ} → Bridge P (Named wide) x y n → part k x.var ≡ above → Bridge A (Named named) x y n
    old_bridge (here {x} a h v) e = here a (old_named x e h) (old_there x e v)
    old_bridge (turn {x} a h v) e = turn a (old_named x e h) (old_there x e v)
    old_bridge (up {x} {y} c) e = up (old_sub x y c)
    old_bridge (down {x} {y} c) e = down (old_sub x y c)
    old_bridge (join {x} {y} b c) e = join (old_bridge b e) (old_bridge c (sym (shown_one x.var y.var (bridge_same P (Named wide) b)).parts ∙ e))
    old_bridge (push {x} {y} {l} {m = o} h g v w c s) e =
        let f : part k x ≡ above = above_back (part k x) (label_eq l (Field 8 k)) l e in
        let i : part k (dot y o) ≡ above = sym (shown_one (dot x l) (dot y o) (push_same P (bridge_same P (Named wide) c) v s)).parts ∙ e in
        push (old_named (dot x l) e h) (old_named (dot y o) i g) (old_there (dot x l) e v) (old_there (dot y o) i w) (old_bridge c f) (old_push f s)

    abbrev Under : Var → Type 0
    Under x = part k x ≡ above → ⊥

    under_level : {x y : State} {n : ℕ} → Bridge P (Named wide) x y n → Under x.var → Level P (Named wide) x y n
    under_level b z = zone P (Named wide) parent Under (λ x y e n f. n ((shown_one x y e).parts ∙ f)) (λ x y c. (λ n. n (sub_above x y c).0, λ n. n (sub_above x y c).1)) b z

    reach_under : {r w : List Label} {u : Var} → Reach X (Field 8 k) r u w → Under u
    reach_under begun e = (let f : above ≡ below 0 = sym e ∙ part-probe k X plain in absurd (cc))
    reach_under (gone {u} {l} p q) e = reach_under q (above_back (part k u) (label_eq l (Field 8 k)) l e)

    pub record Descended (Y : Var) (r s : List Label) : Type 0 where
      pub count : ℕ
      pub bridge : Bridge P (Named wide) (st X (variance_of_word r)) (st Y (variance_of_word s)) count
      pub rises : number r + count ≤ number s

    descend : {Y : Var} {r s v z : List Label} {u w : Var} {n : ℕ} → Reach X (Field 8 k) r u v → Reach Y (Field 8 k) s w z → Level P (Named wide) (st u (variance_of_word v)) (st w (variance_of_word z)) n →
        number v + n ≤ number z → Descended Y r s
    descend {r} {s} begun begun (level {d} {k = n} v b p) h = record { count = d; bridge = b; rises = subst (λ i. number r + i ≤ number s) (sym (push_kept p (λ q. q.0)).1) h }
    descend begun (gone o y) (level v b p) h = absurd (subst IsPointer (sym (push_kept p (λ q. q.0)).0) o)
    descend (gone o x) begun (level v b p) h = absurd (subst IsPointer (push_kept p (λ q. q.1)).0 o)
    descend (gone {l} {w = v} o x) (gone {l = l'} {w = z} o' y) (level {d} {k = n} c b (half p q f g i j)) h =
        descend x y (under_level b (reach_under x)) (rw (number-more l v, number-more l' z) (half_rises (bit (times (label_variance l) (variance_of_word v))) (bit (times (label_variance l') (variance_of_word z))) d n (number v) (number z) i h))
    descend (gone {l} {w = v} o x) (gone {w = z} o' y) (level {d} c b kept) h =
        descend x y (under_level b (reach_under x)) (rw (number-more l v, number-more l z) (kept_rises (times (label_variance l) (variance_of_word v)) (times (label_variance l) (variance_of_word z)) d (number v) (number z)
        (bits_keep (times (label_variance l) (variance_of_word v)) (times (label_variance l) (variance_of_word z)) d (bridge_even P (Named wide) b)) h))

    pub record Counted (Y : Var) (r s : List Label) : Type 0 where
      pub count : ℕ
      pub bridge : Bridge A (Named named) (st X (variance_of_word r)) (st Y (variance_of_word s)) count
      pub rises : number r + count ≤ number s

    end_named : (Y : Var) (s : List Label) → ArePointers s → part k Y ≡ above → Named named Y → Named wide (rest (dot Y (Field 8 k)) s)
    end_named Y s p e h = subst (Named named) (sym (top-rest k s (dot Y (Field 8 k)) 0 p (part-probe k Y e) ∙ top-probe k Y e)) h

    -- what is derivable below the probe counts above it
    pub counted : (Y : Var) (r s : List Label) → ArePointers r → ArePointers s → part k Y ≡ above → Named named X → Named named Y → Der P (S (rest (dot X (Field 8 k)) r) (rest (dot Y (Field 8 k)) s)) → Counted Y r s
    counted Y r s p q e hx hy d =
        let b : Bridge P (Named wide) (st (rest (dot X (Field 8 k)) r) Co) (st (rest (dot Y (Field 8 k)) s) Co) 0 =
        complete P (Named wide) (λ x. decide (wide x)) parent root sides (end_named X r p plain hx) (end_named Y s q e hy) d in
        let x : Reach X (Field 8 k) r (rest (dot X (Field 8 k)) r) [] = reach X (Field 8 k) r r (dot X (Field 8 k)) p begun in
        let y : Reach Y (Field 8 k) s (rest (dot Y (Field 8 k)) s) [] = reach Y (Field 8 k) s s (dot Y (Field 8 k)) q begun in
        let o : Descended Y r s = descend x y (under_level b (reach_under x)) (omega arith) in
        record { count = o.count; bridge = old_bridge o.bridge plain; rises = o.rises }
