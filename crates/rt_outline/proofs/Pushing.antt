-- Ways of pushed arcs, where searches end at the nearest nodes alone.
use Rattle.std.proofs.Common.{◌≡◌, ℕ, ◌⊎◌, inl, inr, Bool, true, false, List, [], Contains, Option, Some, None, cond, refl, sym, subst, ap, ◌∙◌}
use Rattle.std.specs.Prelude.{nat_eq}
use Rattle.rt_lines.specs.declared.label.Label.{Label}
use Rattle.rt_lines.specs.declared.label.Variance.{Variance}
use Rattle.rt_lines.specs.declared.label.Variance.TheVariants.{Co, Contra}
use Rattle.rt_lines.specs.Words.{label_variance}
use Rattle.rt_components.specs.Groups.{Reaches}
use Rattle.rt_components.specs.Groups.Reaches.{there, onward}
use Rattle.rt_outline.specs.declared.arc.Arc.{Arc}
use Rattle.rt_outline.specs.Arcs.{Leads}
use Rattle.rt_outline.specs.Frames.{Origins, AreKept, IsMade, IsPushed, IsFrame, IsClosed, step_of}
use Rattle.rt_outline.specs.Frames.IsPushed.{co, contra}
use Rattle.rt_outline.specs.Inside.Sweeps.{AreFollowed, IsNotedFrom, IsSwept, IsDoneAt, IsEnd, end_of, toward, side_of}
use Rattle.rt_base.proofs.Lists.{Contains-none}
use Rattle.rt_base.proofs.Numbers.{nat_same, nat_itself}
use Rattle.rt_components.proofs.Reaching.{reaches_by}

pub reaches_end : (E : ℕ → ℕ → Type 0) → {u v w : ℕ} → Reaches E u v → E v w → Reaches E u w
reaches_end E there e = onward e there
reaches_end E (onward f r) e = onward f (reaches_end E r e)

pub reaches_join : (E : ℕ → ℕ → Type 0) → {u v w : ℕ} → Reaches E u v → Reaches E v w → Reaches E u w
reaches_join E there s = s
reaches_join E (onward e r) s = onward e (reaches_join E r s)

-- a way the other way
pub reaches_turn : (E : ℕ → ℕ → Type 0) → {v w : ℕ} → Reaches E v w → Reaches (λ a b. E b a) w v
reaches_turn E there = there
reaches_turn E (onward {a} {b} e r) = reaches_end (λ c d. E d c) (reaches_turn E r) e

pub same_parent : (origins : Origins) (v a p : ℕ) (m l : Label) → IsMade origins v a m → IsMade origins v p l → (a ≡ p) × (m ≡ l)
same_parent origins v a p m l x y = let e : Some (Some (a, m)) ≡ Some (Some (p, l)) = sym x ∙ y in
    let f : (a, m) ≡ (p, l) = cc in (ap (λ (q : ℕ × Label). q.0) f, ap (λ (q : ℕ × Label). q.1) f)

-- where a search doesn't end it is at its beginning, or there is nothing behind the letter
end_none : (steps : List ((ℕ × Label) × ℕ)) (p : ℕ) (l : Label) (q : ℕ) → end_of steps p l q ≡ None → (q ≡ p) ⊎ (step_of steps q l ≡ None)
end_none steps p l q e = by (nat_eq q p) refl
  where
    by : (b : Bool) → nat_eq q p ≡ b → (q ≡ p) ⊎ (step_of steps q l ≡ None)
    by true f = inl (nat_same q p f)
    by false f = inr (sym (ap (λ (b : Bool). cond b None (step_of steps q l)) f) ∙ e)

pub end_some : (steps : List ((ℕ × Label) × ℕ)) (p : ℕ) (l : Label) (q w : ℕ) → end_of steps p l q ≡ Some w → step_of steps q l ≡ Some w
end_some steps p l q w e = by (nat_eq q p) refl
  where
    by : (b : Bool) → nat_eq q p ≡ b → step_of steps q l ≡ Some w
    by true f = absurd (let g : None ≡ Some w = sym (ap (λ (b : Bool). cond b None (step_of steps q l)) f) ∙ e in cc)
    by false f = sym (ap (λ (b : Bool). cond b None (step_of steps q l)) f) ∙ e

-- searches from all that is made by one letter, which follow one relation and have arcs to their ends
module _ (origins : Origins) (steps : List ((ℕ × Label) × ℕ)) (E Arcs : ℕ → ℕ → Type 0) (l : Label)
    (made : (n p : ℕ) → IsMade origins n p l → step_of steps p l ≡ Some n) (only : (n p : ℕ) → step_of steps p l ≡ Some n → IsMade origins n p l)
    (done : (v p : ℕ) → IsMade origins v p l → (found : List ℕ) × IsSwept E (end_of steps p l) (λ w. Reaches Arcs v w) p found) where
  abbrev Swept : ℕ → ℕ → List ℕ → Type 0
  Swept v p found = IsSwept E (end_of steps p l) (λ w. Reaches Arcs v w) p found

  begins : (b : ℕ) → end_of steps b l b ≡ None
  begins b = ap (λ (t : Bool). cond t None (step_of steps b l)) (nat_itself b)

  -- ways go on from what was found where the search doesn't end
  goes : {x q : ℕ} → Reaches E x q → (v p : ℕ) (found : List ℕ) → IsMade origins v p l → Swept v p found → Contains found x → end_of steps p l x ≡ None → (w : ℕ) → IsMade origins w q l → Reaches Arcs v w
  goes {x} there v p found m s c e w n = elim (end_none steps p l x e) [
    | inl f ↦ (let g : Some v ≡ Some w = sym (made v p m) ∙ ap (λ u. step_of steps u l) (sym f) ∙ made w x n in let h : v ≡ w = cc in subst (Reaches Arcs v) h there)
    | inr f ↦ absurd (let g : None ≡ Some w = sym f ∙ made w x n in cc)
  ]
  goes {x} (onward {b} e r) v p found m s c f w n = by (end_of steps p l b) refl (λ v p found m s c f. goes r v p found m s c f w n)
    where
      by : (end : Option ℕ) → end_of steps p l b ≡ end →
          ((v p : ℕ) (found : List ℕ) → IsMade origins v p l → Swept v p found → Contains found b → end_of steps p l b ≡ None → Reaches Arcs v w) → Reaches Arcs v w
      by None g rest = rest v p found m s (s.onward x b c f e) g
      by (Some u) g rest =
          let k : IsMade origins u b l = only u b (end_some steps p l b u g) in
          let d : (other : List ℕ) × IsSwept E (end_of steps b l) (λ w. Reaches Arcs u w) b other = done u b k in
          reaches_join Arcs (s.ended b u (s.onward x b c f e) g) (rest u b d.0 k d.1 d.1.start (begins b))

  pub pushed_far : (v p q w : ℕ) → IsMade origins v p l → IsMade origins w q l → Reaches E p q → Reaches Arcs v w
  pushed_far v p q w m n r = let d : (found : List ℕ) × Swept v p found = done v p m in goes r v p d.0 m d.1 d.1.start (begins p) w n

-- where all searches are done arcs are closed
pub done_closed : (origins : Origins) (steps : List ((ℕ × Label) × ℕ)) (arcs back : List (List Arc)) (stands : List Bool) → IsFrame origins steps arcs back →
    ((v p : ℕ) (l : Label) → IsMade origins v p l → IsDoneAt origins steps arcs stands v) → IsClosed origins arcs stands
done_closed origins steps arcs back stands frame done v w pushed = by pushed
  where
    by : IsPushed origins (Leads arcs stands true) v w → Reaches (Leads arcs [] true) v w
    by (co {p} {q} {l} s m n r) = (pushed_far origins steps (toward (label_variance l) (Leads arcs stands true)) (Leads arcs [] true) l
        (λ a b. frame.made a b l) (λ a b. frame.only a b l) (λ a b k. done a b l k b l k) v p q w m n
        (subst (λ t. Reaches (toward t (Leads arcs stands true)) p q) (sym s) (reaches_by (Leads arcs stands true) (toward Co (Leads arcs stands true)) (λ a b e. e) r)))
    by (contra {p} {q} {l} s m n r) = (pushed_far origins steps (toward (label_variance l) (Leads arcs stands true)) (Leads arcs [] true) l
        (λ a b. frame.made a b l) (λ a b. frame.only a b l) (λ a b k. done a b l k b l k) v p q w m n
        (subst (λ t. Reaches (toward t (Leads arcs stands true)) p q) (sym s) (reaches_turn (Leads arcs stands true) r)))

-- arcs of a side are arcs by its sign
pub side_toward : (origins : Origins) (steps : List ((ℕ × Label) × ℕ)) (arcs back : List (List Arc)) (stands : List Bool) → IsFrame origins steps arcs back → (s : Variance) (v w : ℕ) →
    (Leads (side_of s arcs back) stands true v w → toward s (Leads arcs stands true) v w) × (toward s (Leads arcs stands true) v w → Leads (side_of s arcs back) stands true v w)
side_toward origins steps arcs back stands frame Co v w = (λ e. e, λ e. e)
side_toward origins steps arcs back stands frame Contra v w = (λ e. (e.0, (frame.turned w v e.0).1 e.1, e.2), λ e. (e.0, (frame.turned w v e.0).0 e.1, e.2))

-- what a search of a side found, to whose ends pushed arcs lead
pub swept_done : (origins : Origins) (steps : List ((ℕ × Label) × ℕ)) (arcs back : List (List Arc)) (stands : List Bool) (v p : ℕ) (l : Label) (noted found : List ℕ) → IsFrame origins steps arcs back → IsMade origins v p l →
    ((w : ℕ) → Contains noted w → Reaches (Leads arcs [] true) v w) →
    IsSwept (Leads (side_of (label_variance l) arcs back) stands true) (end_of steps p l) (Contains noted) p found → IsDoneAt origins steps arcs stands v
swept_done origins steps arcs back stands v p l noted found frame made is s a m made_by =
    let same : (a ≡ p) × (m ≡ l) = same_parent origins v a p m l made_by made in (
      found,
      subst (λ b. IsSwept (toward (label_variance m) (Leads arcs stands true)) (end_of steps b m) (λ w. Reaches (Leads arcs [] true) v w) b found) (sym same.0)
          (subst (λ k. IsSwept (toward (label_variance k) (Leads arcs stands true)) (end_of steps p k) (λ w. Reaches (Leads arcs [] true) v w) p found) (sym same.1) swept),
    )
  where
    swept : IsSwept (toward (label_variance l) (Leads arcs stands true)) (end_of steps p l) (λ w. Reaches (Leads arcs [] true) v w) p found
    swept = record {
      start = s.start;
      onward = λ q w c e t. s.onward q w c e ((side_toward origins steps arcs back stands frame (label_variance l) q w).1 t);
      ended = λ q w c e. is w (s.ended q w c e);
    }

-- an end is pushed to
pub end_pushed : (origins : Origins) (steps : List ((ℕ × Label) × ℕ)) (arcs back : List (List Arc)) (stands : List Bool) (v p : ℕ) (l : Label) (w : ℕ) → IsFrame origins steps arcs back → IsMade origins v p l →
    IsEnd (Leads (side_of (label_variance l) arcs back) stands true) steps p l w → IsPushed origins (Leads arcs stands true) v w
end_pushed origins steps arcs back stands v p l w frame made (q, r, e) = by (label_variance l) refl
  where
    by : (s : Variance) → label_variance l ≡ s → IsPushed origins (Leads arcs stands true) v w
    by Co f = co f made (frame.only w q l e) (reaches_by (Leads (side_of Co arcs back) stands true) (Leads arcs stands true) (λ a b h. h)
        (subst (λ t. Reaches (Leads (side_of t arcs back) stands true) p q) f r))
    by Contra f = contra f made (frame.only w q l e) (reaches_turn (λ a b. Leads arcs stands true b a)
        (reaches_by (Leads (side_of Contra arcs back) stands true) (λ a b. Leads arcs stands true b a) (λ a b. (side_toward origins steps arcs back stands frame Contra a b).0)
        (subst (λ t. Reaches (Leads (side_of t arcs back) stands true) p q) f r)))

-- what was noted stays reached when arcs are added
pub followed_kept : (reached : List (List ℕ)) (old new : List (List Arc)) → AreKept old new → AreFollowed reached old → AreFollowed reached new
followed_kept reached old new kept f = λ v w c. reaches_by (Leads old [] true) (Leads new [] true) (λ a b e. (e.0, kept a b e.0 e.1, e.2)) (f v w c)

-- what is noted of one node more
pub followed_noted : (old new : List (List ℕ)) (arcs : List (List Arc)) (node : ℕ) (numbers : List ℕ) → IsNotedFrom node numbers old new →
    ((w : ℕ) → Contains numbers w → Reaches (Leads arcs [] true) node w) → AreFollowed old arcs → AreFollowed new arcs
followed_noted old new arcs node numbers noted is f = λ v w c. elim (noted v) [
  | inl e ↦ f v w (subst (λ xs. Contains xs w) e c)
  | inr e ↦ subst (λ u. Reaches (Leads arcs [] true) u w) (sym e.0) (is w (subst (λ xs. Contains xs w) e.1 c))
]

-- nothing is noted yet
pub followed_none : (arcs : List (List Arc)) → AreFollowed [] arcs
followed_none arcs = λ v w c. absurd (Contains-none w c)
