-- The first arcs, entered one by one.
use Rattle.std.proofs.Common.{◌≡◌, ℕ, ◌+◌, ◌<◌, ◌≤◌, ◌⊎◌, inl, inr, Option, Some, None, IsSome, List, [], ◌∷◌, ◌++◌, Contains, length, get_or, take, refl, sym, ap, subst, ◌∙◌, arith}
use Rattle.std.specs.Prelude.{slice_get, MatchOption}
use Rattle.std.proofs.lemmas.Bool.{cases_eq}
use Rattle.std.proofs.lemmas.List.{take_all, take_more}
use Rattle.std.proofs.lemmas.List.Elements.{Contains-append_left, Contains-push, Contains-push_cases}
use Rattle.std.proofs.lemmas.Option.{get_or_from_slice_get, slice_get_within}
use Rattle.rt_base.proofs.Lists.{Contains-none, Contains-here}
use Rattle.rt_lines.specs.declared.label.Label.{Label}
use Rattle.rt_lines.specs.declared.label.Label.TheVariants.{In, Out, Load, Store, Field}
use Rattle.rt_lines.specs.declared.variable.Base.{Base}
use Rattle.rt_lines.specs.declared.variable.Dtv.{Dtv}
use Rattle.rt_lines.specs.declared.line.Line.{Line}
use Rattle.rt_lines.specs.declared.line.Line.TheVariants.{Sub}
use Rattle.rt_named.specs.Origins.{no_variable}
use Rattle.rt_components.specs.Groups.{Reaches}
use Rattle.rt_components.specs.Groups.Reaches.{there, onward}
use Rattle.rt_loose.specs.Kinds.{IsPointer}
use Rattle.rt_shape.specs.Graphs.{IsReadWrite}
use Rattle.rt_ways.specs.declared.frame.Frame.{Frame}
use Rattle.rt_ways.specs.Arcs.{AreMore, IsAdded, IsInRow}
use Rattle.rt_ways.specs.Inside.Frames.{AreExchanged, AreFirst, IsAtHub, IsForHub, IsFrameOf, IsOfLine, IsPointee, IsReady, IsToHub, hub_of, or_else}
use Rattle.rt_ways.specs.Pushes.{AreDistinct, IsMade, step_of, variable_at}
use Rattle.rt_ways.proofs.Entering.{more_none, one_line}
use Rattle.rt_ways.proofs.Knowing.{flat_derives, no_order}
use Rattle.rt_ways.proofs.Pushing.{made_one}
use Rattle.rt_base.proofs.Options.{some_of, not_some}
use Rattle.rt_named.proofs.Making.{no_base}

-- one arc
pub more_arc : (P : ℕ → ℕ → Type 0) (v w : ℕ) (old new : List (List ℕ)) → P v w → ((a b : ℕ) → P a b → (a ≡ v) × (b ≡ w)) → IsAdded v w old new → AreMore P old new
more_arc P v w old new p one n = record {
  each = n.each;
  kept = n.kept;
  all = λ a b q. (let e : (a ≡ v) × (b ≡ w) = one a b q in subst (λ u. IsInRow new u b) (sym e.0) (subst (λ z. IsInRow new v z) (sym e.1) n.added));
  only = λ a b c. (elim (n.only a b c) [ inl d ↦ inl d | inr e ↦ inr (subst (λ u. P u b) (sym e.0) (subst (λ z. P v z) (sym e.1) p)) ]);
}

-- one after the other
pub more_join : (P Q R : ℕ → ℕ → Type 0) (old mid new : List (List ℕ)) → ((v w : ℕ) → R v w → P v w ⊎ Q v w) → ((v w : ℕ) → P v w → R v w) → ((v w : ℕ) → Q v w → R v w) →
    AreMore P old mid → AreMore Q mid new → AreMore R old new
more_join P Q R old mid new cases left right m n = record {
  each = n.each ∙ m.each;
  kept = λ v w c. n.kept v w (m.kept v w c);
  all = λ v w r. (elim (cases v w r) [ inl p ↦ n.kept v w (m.all v w p) | inr q ↦ n.all v w q ]);
  only = λ v w c. (elim (n.only v w c) [
    | inl d ↦ (elim (m.only v w d) [ inl e ↦ inl e | inr p ↦ inr (left v w p) ])
    | inr q ↦ inr (right v w q)
  ]);
}

-- arcs of lines
pub line_arc : (named : List Dtv) (x y : Dtv) (v w : ℕ) (old new : List (List ℕ)) → AreDistinct named → slice_get named v ≡ Some x → slice_get named w ≡ Some y → IsAdded v w old new →
    AreMore (IsOfLine named (Sub x y ∷ [])) old new
line_arc named x y v w old new distinct e f added = more_arc (IsOfLine named (Sub x y ∷ [])) v w old new here one added
  where
    left : v < length named
    left = slice_get_within named v x e

    right : w < length named
    right = slice_get_within named w y f

    is_left : variable_at named v ≡ x
    is_left = get_or_from_slice_get named v x no_variable e

    is_right : variable_at named w ≡ y
    is_right = get_or_from_slice_get named w y no_variable f

    here : IsOfLine named (Sub x y ∷ []) v w
    here = record { left = left; right = right; line = subst (Contains (Sub x y ∷ [])) (ap (λ z. Sub z y) (sym is_left) ∙ ap (Sub (variable_at named v)) (sym is_right)) (Contains-here (Sub x y) []) }

    one : (a b : ℕ) → IsOfLine named (Sub x y ∷ []) a b → (a ≡ v) × (b ≡ w)
    one a b is =
        let g : Sub x y ≡ Sub (variable_at named a) (variable_at named b) = one_line (Sub x y) (Sub (variable_at named a) (variable_at named b)) is.line in
        let p : x ≡ variable_at named a = cc in
        let q : y ≡ variable_at named b = cc in
        (distinct a v is.left left (sym p ∙ sym is_left), distinct b w is.right right (sym q ∙ sym is_right))

pub line_none : (named : List Dtv) (l : Line) (arcs : List (List ℕ)) → ((x y : Dtv) → l ≡ Sub x y → ⊥) → AreMore (IsOfLine named (l ∷ [])) arcs arcs
line_none named l arcs not = more_none (IsOfLine named (l ∷ [])) arcs (λ v w is. not (variable_at named v) (variable_at named w) (one_line l (Sub (variable_at named v) (variable_at named w)) is.line))

pub lines_first : (named : List Dtv) (lines : List Line) (arcs : List (List ℕ)) → AreMore (IsOfLine named (take 0 lines)) arcs arcs
lines_first named lines arcs = more_none (IsOfLine named []) arcs (λ v w is. Contains-none (Sub (variable_at named v) (variable_at named w)) is.line)

pub lines_next : (named : List Dtv) (lines : List Line) (i : ℕ) (d l : Line) (old mid new : List (List ℕ)) → i < length lines → l ≡ get_or lines i d → AreMore (IsOfLine named (take i lines)) old mid →
    AreMore (IsOfLine named (l ∷ [])) mid new → AreMore (IsOfLine named (take (i + 1) lines)) old new
lines_next named lines i d l old mid new h e m n =
    subst (λ xs. AreMore (IsOfLine named xs) old new) (sym (take_more lines i d h ∙ ap (λ k. take i lines ++ k ∷ []) (sym e)))
    (more_join (IsOfLine named (take i lines)) (IsOfLine named (l ∷ [])) (IsOfLine named (take i lines ++ l ∷ [])) old mid new
    (λ v w is. (elim (Contains-push_cases (take i lines) l (Sub (variable_at named v) (variable_at named w)) is.line) [
      | inl c ↦ inl (record { left = is.left; right = is.right; line = c })
      | inr f ↦ inr (record { left = is.left; right = is.right; line = subst (Contains (l ∷ [])) f (Contains-here l []) })
    ]))
    (λ v w is. record { left = is.left; right = is.right; line = Contains-append_left (take i lines) (l ∷ []) (Sub (variable_at named v) (variable_at named w)) is.line })
    (λ v w is. record { left = is.left; right = is.right; line = subst (Contains (take i lines ++ l ∷ [])) (one_line l (Sub (variable_at named v) (variable_at named w)) is.line) (Contains-push (take i lines) l) })
    m n)

pub lines_whole : (named : List Dtv) (lines : List Line) (i : ℕ) (old new : List (List ℕ)) → length lines ≤ i → AreMore (IsOfLine named (take i lines)) old new → AreMore (IsOfLine named lines) old new
lines_whole named lines i old new h m = subst (λ xs. AreMore (IsOfLine named xs) old new) (take_all i lines h) m

-- hubs
hub_cases : (behind : List ((ℕ × Label) × ℕ)) (class f : ℕ) → hub_of behind class ≡ Some f → (step_of behind class Load ≡ Some f) ⊎ (step_of behind class Store ≡ Some f)
hub_cases behind class f e = by (step_of behind class Load) refl e
  where
    by : (o : Option ℕ) → step_of behind class Load ≡ o → or_else o (step_of behind class Store) ≡ Some f → (step_of behind class Load ≡ Some f) ⊎ (step_of behind class Store ≡ Some f)
    by None g h = inr h
    by (Some n) g h = inl (g ∙ h)

hub_some : (behind : List ((ℕ × Label) × ℕ)) (class : ℕ) (l : Label) → IsPointer l → IsSome (step_of behind class l) → IsSome (hub_of behind class)
hub_some behind class l p s = by (step_of behind class Load) refl l p s
  where
    by : (o : Option ℕ) → step_of behind class Load ≡ o → (l : Label) → IsPointer l → IsSome (step_of behind class l) → IsSome (or_else o (step_of behind class Store))
    by (Some n) e l p s = refl
    by None e Load p s = absurd (not_some (subst IsSome e s))
    by None e Store p s = s
    by None e (In k) p s = absurd p
    by None e (Out k) p s = absurd p
    by None e (Field k m) p s = absurd p

pub class_one : (frame : Frame) (c d n : ℕ) → AreDistinct frame.named → IsPointee frame c n → IsPointee frame d n → c ≡ d
class_one frame c d n distinct p q =
    let s : (p.parent ≡ q.parent) × (p.letter ≡ q.letter) = made_one frame.named n p.parent q.parent p.letter q.letter distinct p.made q.made in
    sym p.of_class ∙ ap (λ k. get_or frame.classes.items k 0) s.0 ∙ q.of_class

hub_one : (frame : Frame) (n h k : ℕ) → AreDistinct frame.named → IsForHub frame n h → IsForHub frame n k → h ≡ k
hub_one frame n h k distinct p q =
    let s : p.0 ≡ q.0 = class_one frame p.0 q.0 n distinct p.1 q.1 in
    let e : Some h ≡ Some k = sym p.2 ∙ ap (hub_of frame.behind.entries) s ∙ q.2 in
    cc

-- what a class tells of the hub of a number
pub for_hub : (frame : Frame) (n c : ℕ) (o : Option ℕ) → AreDistinct frame.named → IsPointee frame c n → hub_of frame.behind.entries c ≡ o →
    MatchOption o ((hub : ℕ) → IsForHub frame n hub → ⊥) (λ hub. IsForHub frame n hub)
for_hub frame n c None distinct p e = λ hub f. (let s : f.0 ≡ c = class_one frame f.0 c n distinct f.1 p in
    absurd (let g : None ≡ Some hub = sym e ∙ ap (hub_of frame.behind.entries) (sym s) ∙ f.2 in cc))
for_hub frame n c (Some hub) distinct p e = (c, p, e)

-- of a base alone, and of a number whose letter or parent doesn't serve
pub bare_none : (frame : Frame) (n : ℕ) (b : Base) → variable_at frame.named n ≡ record { base = b; word = [] } → (class : ℕ) → IsPointee frame class n → ⊥
bare_none frame n b e class p = no_base (variable_at frame.named p.parent) p.letter b (sym p.made.is ∙ e)

pub made_none : (frame : Frame) (n q : ℕ) (l : Label) → AreDistinct frame.named → IsMade frame.named n q l → (IsPointer l × IsReadWrite frame.shape (get_or frame.nodes.items q 0) → ⊥) →
    (class : ℕ) → IsPointee frame class n → ⊥
made_none frame n q l distinct made not class p =
    let s : (p.parent ≡ q) × (p.letter ≡ l) = made_one frame.named n p.parent q p.letter l distinct p.made made in
    not (subst IsPointer s.1 p.pointer, subst (λ k. IsReadWrite frame.shape (get_or frame.nodes.items k 0)) s.0 p.flips)

-- what is told of a number by what is told of its letter and parent
pub pointed_by : (frame : Frame) (n q : ℕ) (l : Label) (o : Option ℕ) → AreDistinct frame.named → IsMade frame.named n q l →
    MatchOption o (IsPointer l × IsReadWrite frame.shape (get_or frame.nodes.items q 0) → ⊥)
    (λ class. IsPointer l × IsReadWrite frame.shape (get_or frame.nodes.items q 0) × (class ≡ get_or frame.classes.items q 0)) →
    MatchOption o ((class : ℕ) → IsPointee frame class n → ⊥) (λ class. IsPointee frame class n)
pointed_by frame n q l None distinct made not = made_none frame n q l distinct made not
pointed_by frame n q l (Some class) distinct made is = record { parent = q; letter = l; made = made; pointer = is.0; of_class = sym is.2; flips = is.1 }

-- arcs to and from the hub
pub hub_arcs : (frame : Frame) (n hub : ℕ) (old mid new : List (List ℕ)) → AreDistinct frame.named → IsForHub frame n hub → IsAdded n hub old mid → IsAdded hub n mid new → AreMore (IsAtHub frame n) old new
hub_arcs frame n hub old mid new distinct is m k =
    more_join (λ v w. (v ≡ n) × IsForHub frame n w) (λ v w. (w ≡ n) × IsForHub frame n v) (IsAtHub frame n) old mid new (λ v w c. c) (λ v w c. inl c) (λ v w c. inr c)
    (more_arc (λ v w. (v ≡ n) × IsForHub frame n w) n hub old mid (refl, is) (λ a b p. (p.0, hub_one frame n b hub distinct p.1 is)) m)
    (more_arc (λ v w. (w ≡ n) × IsForHub frame n v) hub n mid new (refl, is) (λ a b p. (hub_one frame n a hub distinct p.1 is, p.0)) k)

pub hub_none : (frame : Frame) (n : ℕ) (arcs : List (List ℕ)) → ((hub : ℕ) → IsForHub frame n hub → ⊥) → AreMore (IsAtHub frame n) arcs arcs
hub_none frame n arcs not = more_none (IsAtHub frame n) arcs (λ v w c. (elim c [ inl p ↦ not w p.1 | inr p ↦ not v p.1 ]))

pub hubs_first : (frame : Frame) (arcs : List (List ℕ)) → AreMore (IsToHub frame 0) arcs arcs
hubs_first frame arcs = more_none (IsToHub frame 0) arcs (λ v w p. (let h : p.0 < 0 = p.1 in omega (arith, h)))

pub hubs_next : (frame : Frame) (i : ℕ) (old mid new : List (List ℕ)) → AreMore (IsToHub frame i) old mid → AreMore (IsAtHub frame i) mid new → AreMore (IsToHub frame (i + 1)) old new
hubs_next frame i old mid new m n =
    more_join (IsToHub frame i) (IsAtHub frame i) (IsToHub frame (i + 1)) old mid new
    (λ v w p. at v w p (cases_eq p.0 i))
    (λ v w p. (let h : p.0 < i = p.1 in (p.0, omega (arith, h), p.2))) (λ v w p. (i, omega arith, p)) m n
  where
    at : (v w : ℕ) (p : IsToHub frame (i + 1) v w) → (p.0 ≡ i) ⊎ (p.0 ≡ i → ⊥) → IsToHub frame i v w ⊎ IsAtHub frame i v w
    at v w p (inl e) = inr (subst (λ n. IsAtHub frame n v w) e p.2)
    at v w p (inr d) = inl (let h : p.0 < i + 1 = p.1 in (p.0, omega (arith, h, d), p.2))

-- numbers of one class have one node
pub class_node : (lines : List Line) (frame : Frame) (p q : ℕ) → IsFrameOf lines frame → p < length frame.named → q < length frame.named →
    get_or frame.classes.items p 0 ≡ get_or frame.classes.items q 0 → get_or frame.nodes.items p 0 ≡ get_or frame.nodes.items q 0
class_node lines frame p q is h k e =
    (is.shape.one no_order (variable_at frame.named p) (variable_at frame.named q) (get_or frame.nodes.items p 0) (get_or frame.nodes.items q 0) (is.nodes.node p h) (is.nodes.node q k)).1
    (flat_derives no_order lines
    ((is.classes.shape.one no_order (variable_at frame.named p) (variable_at frame.named q) (get_or frame.classes.items p 0) (get_or frame.classes.items q 0) (is.classes.nodes.node p h) (is.classes.nodes.node q k)).0 e))

pub hub_within : (lines : List Line) (frame : Frame) (class n : ℕ) → IsFrameOf lines frame → hub_of frame.behind.entries class ≡ Some n → n < length frame.named
hub_within lines frame class n is e = elim (hub_cases frame.behind.entries class n e) [
  | inl f ↦ (let r = is.behind.found class n Load f in r.1.within)
  | inr f ↦ (let r = is.behind.found class n Store f in r.1.within)
]

pub ready : (lines : List Line) (frame : Frame) → IsFrameOf lines frame → IsReady frame
ready lines frame is = record { distinct = is.distinct; nodes = is.nodes.each; classes = is.classes.nodes.each; within = λ class n e. hub_within lines frame class n is e }

module _ (lines : List Line) (frame : Frame) (is : IsFrameOf lines frame) where
  hub_pointee : (class n f : ℕ) → IsPointee frame class n → hub_of frame.behind.entries class ≡ Some f → IsPointee frame class f
  hub_pointee class n f p e = elim (hub_cases frame.behind.entries class f e) [ inl g ↦ by Load tt g | inr g ↦ by Store tt g ]
    where
      by : (l : Label) → IsPointer l → step_of frame.behind.entries class l ≡ Some f → IsPointee frame class f
      by l ptr g =
          let r : (q : ℕ) × IsMade frame.named f q l × (get_or frame.classes.items q 0 ≡ class) = is.behind.found class f l g in record {
            parent = r.0;
            letter = l;
            made = r.1;
            pointer = ptr;
            of_class = r.2;
            flips = subst (IsReadWrite frame.shape) (class_node lines frame p.parent r.0 is p.made.parent r.1.parent (p.of_class ∙ sym r.2)) p.flips;
          }

  hub_there : (class n : ℕ) → IsPointee frame class n → (f : ℕ) × (hub_of frame.behind.entries class ≡ Some f)
  hub_there class n p =
      some_of (hub_of frame.behind.entries class) (hub_some frame.behind.entries class p.letter p.pointer
      (subst (λ k. IsSome (step_of frame.behind.entries k p.letter)) p.of_class (is.behind.all n p.parent p.letter p.made.within p.made)))

  pub first_arcs : (empty mid arcs : List (List ℕ)) → length empty ≡ length frame.named → ((v : ℕ) → get_or empty v [] ≡ []) → AreMore (IsOfLine frame.named lines) empty mid →
      AreMore (IsToHub frame (length frame.named)) mid arcs → AreFirst lines frame arcs
  first_arcs empty mid arcs e none m n = record {
    each = n.each ∙ m.each ∙ e;
    within = λ v w c. subst (λ k. w < k) (sym (n.each ∙ m.each ∙ e)) (elim (only v w c) [ inl l ↦ l.right | inr x ↦ x.2.made.within ]);
    lines_in = λ v w l. n.kept v w (m.all v w l);
    exchanged = λ v w x. exchanged v w x (hub_there x.0 v x.1);
    only = only;
  }
    where
      only : (v w : ℕ) → IsInRow arcs v w → IsOfLine frame.named lines v w ⊎ AreExchanged frame v w
      only v w c = elim (n.only v w c) [
        | inl d ↦ (elim (m.only v w d) [ inl z ↦ absurd (Contains-none w (subst (λ xs. Contains xs w) (none v) z)) | inr l ↦ inl l ])
        | inr p ↦ inr (elim p.2 [
          | inl a ↦ (a.1.0, subst (IsPointee frame a.1.0) (sym a.0) a.1.1, hub_pointee a.1.0 p.0 w a.1.1 a.1.2)
          | inr a ↦ (a.1.0, hub_pointee a.1.0 p.0 v a.1.1 a.1.2, subst (IsPointee frame a.1.0) (sym a.0) a.1.1)
        ])
      ]

      exchanged : (v w : ℕ) (x : AreExchanged frame v w) → ((f : ℕ) × (hub_of frame.behind.entries x.0 ≡ Some f)) → Reaches (IsInRow arcs) v w
      exchanged v w x f =
          onward (n.all v f.0 (v, x.1.made.within, inl (refl, (x.0, x.1, f.1))))
          (onward (n.all f.0 w (w, x.2.made.within, inr (refl, (x.0, x.2, f.1)))) there)

pub hubs_whole : (frame : Frame) (i : ℕ) (old new : List (List ℕ)) → length frame.named ≤ i → AreMore (IsToHub frame i) old new → AreMore (IsToHub frame (length frame.named)) old new
hubs_whole frame i old new h m = record {
  each = m.each;
  kept = m.kept;
  all = λ v w p. (let k : p.0 < length frame.named = p.1 in m.all v w (p.0, omega (arith, h, k), p.2));
  only = λ v w c. (elim (m.only v w c) [ inl d ↦ inl d | inr p ↦ inr (p.0, named_of v w p.0 p.2, p.2) ]);
}
  where
    named_of : (v w n : ℕ) → IsAtHub frame n v w → n < length frame.named
    named_of v w n (inl a) = a.1.1.made.within
    named_of v w n (inr a) = a.1.1.made.within
