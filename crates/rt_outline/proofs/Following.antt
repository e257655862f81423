-- What is found by following arcs.
use Rattle.std.proofs.Common.{◌≡◌, ℕ, ◌+◌, ◌<◌, ◌≤◌, ◌⊎◌, inl, inr, Bool, true, List, [], ◌∷◌, ◌++◌, Contains, length, get_or, take, refl, sym, ap, subst, ◌∙◌, arith}
use Rattle.std.proofs.lemmas.Bool.{cases_eq}
use Rattle.std.proofs.lemmas.List.{get_or_append_left, get_or_default, take_all, take_more}
use Rattle.std.proofs.lemmas.List.Elements.{Contains-append_left, Contains-push, Contains-push_cases}
use Rattle.rt_base.proofs.Lists.{Contains-none}
use Rattle.rt_components.specs.Groups.{Reaches}
use Rattle.rt_components.specs.Groups.Reaches.{there, onward}
use Rattle.rt_named.specs.Numbers.{IsLeft}
use Rattle.rt_named.proofs.Noting.{left_none, left_as, left_kept, left_more}
use Rattle.rt_outline.specs.declared.arc.Arc.{Arc}
use Rattle.rt_outline.specs.Arcs.{Leads, allows, IsSpread}

-- one of these arcs, which may be followed, leads to a number
abbrev pub LeadsOf : List Bool → Bool → List Arc → ℕ → Type 0
LeadsOf stands pushed arcs w = (arc : Arc) × Contains arcs arc × (arc.to ≡ w) × (allows stands pushed arc.line ≡ true)

module _ (stands : List Bool) (pushed : Bool) where
  pub arcs_first : (arcs : List Arc) (keys : List ℕ) → IsLeft (LeadsOf stands pushed (take 0 arcs)) keys keys
  arcs_first arcs keys = left_none (LeadsOf stands pushed []) keys keys refl (λ w p. absurd (Contains-none p.0 p.1))

  pub arcs_next : (arcs : List Arc) (i : ℕ) (d : Arc) (old mid new : List ℕ) → i < length arcs → IsLeft (LeadsOf stands pushed (take i arcs)) old mid →
      IsLeft (λ w. ((get_or arcs i d).to ≡ w) × (allows stands pushed (get_or arcs i d).line ≡ true)) mid new → IsLeft (LeadsOf stands pushed (take (i + 1) arcs)) old new
  arcs_next arcs i d old mid new h m n =
      subst (λ xs. IsLeft (LeadsOf stands pushed xs) old new) (sym (take_more arcs i d h))
      (left_more (LeadsOf stands pushed (take i arcs)) (λ w. ((get_or arcs i d).to ≡ w) × (allows stands pushed (get_or arcs i d).line ≡ true)) (LeadsOf stands pushed (take i arcs ++ get_or arcs i d ∷ [])) old mid new
      (λ w r. (elim (Contains-push_cases (take i arcs) (get_or arcs i d) r.0 r.1) [
        | inl c ↦ inl (r.0, c, r.2, r.3)
        | inr e ↦ inr (ap (λ (a : Arc). a.to) e ∙ r.2, ap (λ (a : Arc). allows stands pushed a.line) e ∙ r.3)
      ]))
      (λ w p. (p.0, Contains-append_left (take i arcs) (get_or arcs i d ∷ []) p.0 p.1, p.2, p.3)) (λ w q. (get_or arcs i d, Contains-push (take i arcs) (get_or arcs i d), q.0, q.1)) m n)

  pub arcs_whole : (arcs : List (List Arc)) (from : ℕ) (leaving : List Arc) (i : ℕ) (old new : List ℕ) → leaving ≡ get_or arcs from [] → length leaving ≤ i → IsLeft (LeadsOf stands pushed (take i leaving)) old new → IsLeft (Leads arcs stands pushed from) old new
  arcs_whole arcs from leaving i old new e h n =
      left_as (LeadsOf stands pushed leaving) (Leads arcs stands pushed from) old new
      (λ w p. (p.0.line, subst (λ xs. Contains xs (record { to = w; line = p.0.line })) e (subst (λ v. Contains leaving (record { to = v; line = p.0.line })) p.2 p.1), p.3))
      (λ w q. (record { to = w; line = q.0 }, subst (λ xs. Contains xs (record { to = w; line = q.0 })) (sym e) q.1, refl, q.2))
      (subst (λ xs. IsLeft (LeadsOf stands pushed xs) old new) (take_all i leaving h) n)

module _ (Edge : ℕ → ℕ → Type 0) where
  -- from those before an index all arcs were followed
  pub record IsSpreading (old now : List ℕ) (i : ℕ) : Type 0 where
    pub stay : (v : ℕ) → Contains old v → Contains now v
    pub done : (j : ℕ) → j < i → j < length now → (w : ℕ) → Edge (get_or now j 0) w → Contains now w
    pub only : (w : ℕ) → Contains now w → (v : ℕ) × Contains old v × Reaches Edge v w

  pub spreading_first : (old : List ℕ) → IsSpreading old old 0
  spreading_first old = record { stay = λ v c. c; done = λ j h k w e. absurd (omega (arith, h)); only = λ w c. (w, c, there) }

  further : {u v w : ℕ} → Reaches Edge u v → Edge v w → Reaches Edge u w
  further there e = onward e there
  further (onward f r) e = onward f (further r e)

  pub spreading_next : (old now new : List ℕ) (i : ℕ) → i < length now → IsLeft (Edge (get_or now i 0)) now new → IsSpreading old now i → IsSpreading old new (i + 1)
  spreading_next old now new i h n are = record {
    stay = λ v c. left_kept (Edge (get_or now i 0)) now new n v (are.stay v c);
    done = λ j less k w e. (let small : j < length now = omega (arith, less, h) in
        done j less small w (subst (λ u. Edge u w) (ap (λ xs. get_or xs j 0) n.kept ∙ get_or_append_left now n.more 0 j small) e) (cases_eq j i));
    only = λ w c. (elim (n.only w c) [
      | inl d ↦ are.only w d
      | inr e ↦ (let r : (v : ℕ) × Contains old v × Reaches Edge v (get_or now i 0) = are.only (get_or now i 0) (i, h, get_or_default now i (get_or now i 0) 0 h) in (r.0, r.1, further r.2 e))
    ]);
  }
    where
      done : (j : ℕ) → j < i + 1 → j < length now → (w : ℕ) → Edge (get_or now j 0) w → (j ≡ i) ⊎ (j ≡ i → ⊥) → Contains new w
      done j less small w e (inl f) = n.all w (subst (λ k. Edge (get_or now k 0) w) f e)
      done j less small w e (inr m) = left_kept (Edge (get_or now i 0)) now new n w (are.done j (omega (arith, less, m)) small w e)

  pub spreading_whole : (old now : List ℕ) (i : ℕ) → length now ≤ i → IsSpreading old now i → IsSpread Edge old now
  spreading_whole old now i h are = record { all = λ v w c r. all (are.stay v c) r; only = are.only }
    where
      all : {v w : ℕ} → Contains now v → Reaches Edge v w → Contains now w
      all c there = c
      all {v} {w} c (onward {b} e r) = all (are.done c.0 (omega (arith, h, c.1)) c.1 b (subst (λ u. Edge u b) (sym (get_or_default now c.0 0 v c.1 ∙ c.2)) e)) r

-- numbers that one after another are followed or added
module _ (P : ℕ → ℕ → Type 0) where
  abbrev pub OfSome : List ℕ → ℕ → Type 0
  OfSome sources w = (s : ℕ) × Contains sources s × P s w

  pub some_first : (sources keys : List ℕ) → keys ≡ [] → IsLeft (OfSome (take 0 sources)) [] keys
  some_first sources keys e = left_none (OfSome []) [] keys e (λ w p. absurd (Contains-none p.0 p.1))

  pub some_next : (sources : List ℕ) (i : ℕ) (old mid new : List ℕ) → i < length sources → IsLeft (OfSome (take i sources)) old mid → IsLeft (P (get_or sources i 0)) mid new → IsLeft (OfSome (take (i + 1) sources)) old new
  some_next sources i old mid new h m n =
      subst (λ xs. IsLeft (OfSome xs) old new) (sym (take_more sources i 0 h))
      (left_more (OfSome (take i sources)) (P (get_or sources i 0)) (OfSome (take i sources ++ get_or sources i 0 ∷ [])) old mid new
      (λ w r. (elim (Contains-push_cases (take i sources) (get_or sources i 0) r.0 r.1) [ inl c ↦ inl (r.0, c, r.2) | inr e ↦ inr (subst (λ s. P s w) (sym e) r.2) ]))
      (λ w p. (p.0, Contains-append_left (take i sources) (get_or sources i 0 ∷ []) p.0 p.1, p.2)) (λ w q. (get_or sources i 0, Contains-push (take i sources) (get_or sources i 0), q)) m n)

  pub some_in : (sources : List ℕ) (i : ℕ) (new : List ℕ) → length sources ≤ i → IsLeft (OfSome (take i sources)) [] new → (s w : ℕ) → Contains sources s → P s w → Contains new w
  some_in sources i new h n s w c p = n.all w (s, subst (λ xs. Contains xs s) (sym (take_all i sources h)) c, p)

  pub some_only : (sources : List ℕ) (i : ℕ) (new : List ℕ) → length sources ≤ i → IsLeft (OfSome (take i sources)) [] new → (w : ℕ) → Contains new w → OfSome sources w
  some_only sources i new h n w c = elim (n.only w c) [ inl d ↦ absurd (Contains-none w d) | inr p ↦ subst (λ xs. OfSome xs w) (take_all i sources h) p ]

-- none of the first targets is found
pub none_next : (keys targets : List ℕ) (i : ℕ) → ((j : ℕ) → j < i → Contains keys (get_or targets j 0) → ⊥) → (Contains keys (get_or targets i 0) → ⊥) → (j : ℕ) → j < i + 1 → Contains keys (get_or targets j 0) → ⊥
none_next keys targets i before here j less c = elim (cases_eq j i) [ inl e ↦ here (subst (λ k. Contains keys (get_or targets k 0)) e c) | inr n ↦ before j (omega (arith, less, n)) c ]

pub none_whole : (keys targets : List ℕ) (i : ℕ) → length targets ≤ i → ((j : ℕ) → j < i → Contains keys (get_or targets j 0) → ⊥) → (t : ℕ) → Contains targets t → Contains keys t → ⊥
none_whole keys targets i h none t c d = none c.0 (omega (arith, h, c.1)) (subst (Contains keys) (sym (get_or_default targets c.0 0 t c.1 ∙ c.2)) d)
