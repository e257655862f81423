-- Arcs with more, pushed from ways of the others.
use Rattle.std.proofs.Common.{◌≡◌, ℕ, ◌<◌, inl, inr, Bool, true, List, Contains, Option, Some, None, length, sym, subst, ap, ◌∙◌, ◌+◌, ◌≤◌, arith}
use Rattle.std.proofs.lemmas.Option.{slice_get_within}
use borrow.Author.Count.{below_more}
use Rattle.rt_lines.specs.declared.label.Label.TheVariants.{Load, Store}
use Rattle.rt_outline.specs.Inside.Sweeps.{IsDoneAt}
use Rattle.rt_outline.proofs.Pushing.{done_closed}
use Rattle.rt_components.specs.Groups.{Reaches}
use Rattle.rt_components.specs.Groups.Reaches.{there, onward}
use Rattle.rt_lines.specs.declared.label.Label.{Label}
use Rattle.rt_outline.specs.declared.arc.Arc.{Arc}
use Rattle.rt_outline.specs.Arcs.{HasArc, Leads, IsAdded}
use Rattle.rt_outline.specs.Frames.{Origins, IsMade, IsPushed, IsFrame, IsClosed, IsPushedMore, IsPointerPair, HavePointersAt, AreMore, AreKept, Ways}
use Rattle.rt_outline.specs.Frames.IsPushed.{co, contra}
use Rattle.rt_outline.specs.Frames.Ways.{arc, stay, chain, co as way_co, contra as way_contra}

module _ (origins : Origins) where
  ways_of : (E F : ℕ → ℕ → Type 0) → ((v w : ℕ) → E v w → Ways origins F v w) → {v w : ℕ} → Ways origins E v w → Ways origins F v w
  ways_of E F more (arc {v} {w} e) = more v w e
  ways_of E F more stay = stay
  ways_of E F more (chain a b) = chain (ways_of E F more a) (ways_of E F more b)
  ways_of E F more (way_co s m n a) = way_co s m n (ways_of E F more a)
  ways_of E F more (way_contra s m n a) = way_contra s m n (ways_of E F more a)

  ways_reach : (E : ℕ → ℕ → Type 0) → {v w : ℕ} → Reaches E v w → Ways origins E v w
  ways_reach E there = stay
  ways_reach E (onward e r) = chain (arc e) (ways_reach E r)

  ways_push : (E : ℕ → ℕ → Type 0) {v w : ℕ} → IsPushed origins E v w → Ways origins E v w
  ways_push E (co s m n r) = way_co s m n (ways_reach E r)
  ways_push E (contra s m n r) = way_contra s m n (ways_reach E r)

  pub more_same : (stands : List Bool) (arcs : List (List Arc)) → IsPushedMore origins stands arcs arcs
  more_same stands arcs = record { kept = λ v w line c. c; lines = λ v w i c. c; ways = λ v w e. arc e }

  pub more_more : (stands : List Bool) (old mid new : List (List Arc)) → IsPushedMore origins stands old mid → IsPushedMore origins stands mid new → IsPushedMore origins stands old new
  more_more stands old mid new m n = record {
    kept = λ v w line c. n.kept v w line (m.kept v w line c);
    lines = λ v w i c. m.lines v w i (n.lines v w i c);
    ways = λ v w e. ways_of (Leads mid stands true) (Leads old stands true) m.ways (n.ways v w e);
  }

  -- arcs to what a node is pushed to
  pub more_pushed : (stands : List Bool) (old new : List (List Arc)) (node : ℕ) (fresh : List ℕ) → ((w : ℕ) → Contains fresh w → IsPushed origins (Leads old stands true) node w) → AreKept old new →
      AreMore (λ (v w : ℕ). (v ≡ node) × Contains fresh w) old new → IsPushedMore origins stands old new
  more_pushed stands old new node fresh pushed kept more = record {
    kept = kept;
    lines = λ v w i c. (elim (more v w (Some i) c) [ inl d ↦ d | inr e ↦ absurd (let f : Some i ≡ None = e.0 in cc) ]);
    ways = λ v w e. (elim (more v w e.0 e.1) [
      | inl d ↦ arc (e.0, d, e.2)
      | inr f ↦ subst (λ u. Ways origins (Leads old stands true) u w) (sym f.1.0) (ways_push (Leads old stands true) (pushed w f.1.1))
    ]);
  }

-- an arc more, and the same the other way
pub joined_frame : (origins : Origins) (steps : List ((ℕ × Label) × ℕ)) (arcs back new next : List (List Arc)) (from to : ℕ) (line : Option ℕ) → to < length origins → IsFrame origins steps arcs back →
    IsAdded from (record { to = to; line = line }) arcs new → IsAdded to (record { to = from; line = line }) back next → IsFrame origins steps new next
joined_frame origins steps arcs back new next from to line small frame m n = record {
  few = frame.few;
  each = m.each ∙ frame.each;
  each_back = n.each ∙ frame.each_back;
  made = frame.made;
  only = frame.only;
  below = frame.below;
  within = λ v w k c. (elim (m.only v w k c) [ inl d ↦ frame.within v w k d | inr e ↦ subst (λ u. u < length origins) (sym e.1) small ]);
  turned = λ v w k. (forth v w k, back_again v w k);
}
  where
    forth : (v w : ℕ) (k : Option ℕ) → HasArc new v w k → HasArc next w v k
    forth v w k c = elim (m.only v w k c) [
      | inl d ↦ n.kept w v k ((frame.turned v w k).0 d)
      | inr e ↦ subst (λ a. HasArc next w a k) (sym e.0) (subst (λ b. HasArc next b from k) (sym e.1) (subst (λ j. HasArc next to from j) (sym e.2) n.added))
    ]

    back_again : (v w : ℕ) (k : Option ℕ) → HasArc next w v k → HasArc new v w k
    back_again v w k c = elim (n.only w v k c) [
      | inl d ↦ m.kept v w k ((frame.turned v w k).1 d)
      | inr e ↦ subst (λ a. HasArc new a w k) (sym e.1) (subst (λ b. HasArc new from b k) (sym e.0) (subst (λ j. HasArc new from to j) (sym e.2) m.added))
    ]

-- pushed arcs from a node, entered one by one
pub entered_more : (node : ℕ) (fresh : List ℕ) (w : ℕ) (old now new : List (List Arc)) → Contains fresh w → IsAdded node (record { to = w; line = None }) now new → AreMore (λ (a b : ℕ). (a ≡ node) × Contains fresh b) old now →
    AreMore (λ (a b : ℕ). (a ≡ node) × Contains fresh b) old new
entered_more node fresh w old now new here n more a b line c = elim (n.only a b line c) [
  | inl d ↦ more a b line d
  | inr e ↦ inr (e.2, (e.0, subst (Contains fresh) (sym e.1) here))
]

-- what is pushed is pushed to nodes
pub pushed_within : (origins : Origins) (E : ℕ → ℕ → Type 0) (v w : ℕ) → IsPushed origins E v w → w < length origins
pushed_within origins E v w (co {q = q} {l = l} s m n r) = slice_get_within origins w (Some (q, l)) n
pushed_within origins E v w (contra {q = q} {l = l} s m n r) = slice_get_within origins w (Some (q, l)) n

-- one node after another
pub pass_next : (origins others : Origins) (steps some : List ((ℕ × Label) × ℕ)) (arcs now new : List (List Arc)) (stands : List Bool) (node : ℕ) → others ≡ origins → some ≡ steps →
    (now ≡ arcs) × ((v : ℕ) → v < node → IsDoneAt origins steps arcs stands v) → (new ≡ now) × IsDoneAt others some now stands node → (new ≡ arcs) × ((v : ℕ) → v < node + 1 → IsDoneAt origins steps arcs stands v)
pass_next origins others steps some arcs now new stands node e f before here = (here.0 ∙ before.0, below_more (λ v. IsDoneAt origins steps arcs stands v) node before.1 done)
  where
    done : IsDoneAt origins steps arcs stands node
    done = subst (λ os. IsDoneAt os steps arcs stands node) e (subst (λ xs. IsDoneAt others xs arcs stands node) f (subst (λ ys. IsDoneAt others some ys stands node) before.0 here.1))

pub pass_whole : (origins others : Origins) (steps some : List ((ℕ × Label) × ℕ)) (arcs now back : List (List Arc)) (stands : List Bool) (node : ℕ) → others ≡ origins → some ≡ steps → length origins ≤ node → IsFrame others some now back →
    (now ≡ arcs) × ((v : ℕ) → v < node → IsDoneAt origins steps arcs stands v) → IsClosed others now stands
pass_whole origins others steps some arcs now back stands node e f h frame before =
    done_closed others some now back stands frame (λ v p l m. (let small : v < length others = slice_get_within others v (Some (p, l)) m in
    subst (λ os. IsDoneAt os some now stands v) (sym e) (subst (λ xs. IsDoneAt origins xs now stands v) (sym f) (subst (λ ys. IsDoneAt origins steps ys stands v) (sym before.0)
    (before.1 v (omega (arith, h, small, ap length e)))))))

-- stores and loads, one node after another
pub pointers_next : (origins others : Origins) (now new : List (List Arc)) (node : ℕ) → others ≡ origins → AreKept now new → ((p : ℕ) → p < node → HavePointersAt origins now p) → HavePointersAt others new node → (p : ℕ) → p < node + 1 → HavePointersAt others new p
pointers_next origins others now new node e kept before here =
    below_more (λ p. HavePointersAt others new p) node (λ p h v w m n. kept v w None (before p h v w (subst (λ os. IsMade os v p Store) e m) (subst (λ os. IsMade os w p Load) e n))) here

pub only_next : (origins others : Origins) (old now new : List (List Arc)) → others ≡ origins → AreMore (IsPointerPair origins) old now → AreMore (IsPointerPair others) now new → AreMore (IsPointerPair origins) old new
only_next origins others old now new e more next v w line c = elim (next v w line c) [
  | inl d ↦ more v w line d
  | inr p ↦ inr (p.0, subst (λ os. IsPointerPair os v w) e p.1)
]
