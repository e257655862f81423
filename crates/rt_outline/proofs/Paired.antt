-- Pairs of nodes that arcs lead between, one by one.
use Rattle.std.proofs.Common.{◌≡◌, ℕ, ◌+◌, ◌<◌, ◌≤◌, ◌⊎◌, inl, inr, Bool, true, List, [], ◌∷◌, ◌++◌, Contains, Option, length, get_or, refl, sym, ap, subst, ◌∙◌, arith}
use Rattle.std.proofs.lemmas.Bool.{cases_eq}
use Rattle.std.proofs.lemmas.List.{get_or_past}
use Rattle.std.proofs.lemmas.List.Elements.{Contains-append_left, Contains-push, Contains-push_cases}
use Rattle.rt_base.proofs.Lists.{Contains-none}
use Rattle.rt_components.proofs.Reaching.{reaches_by}
use Rattle.rt_components.specs.Groups.{AreTogether, Reaches}
use Rattle.rt_outline.specs.declared.arc.Arc.{Arc}
use Rattle.rt_outline.specs.Arcs.{HasArc, Leads, allows}
use Rattle.rt_outline.specs.Together.{ArePairsBelow, AreTogetherBy, HasMorePairs, HasPair, IsOpenTo}

-- no pair is added
pub pairs_same : (node : ℕ) (P : ℕ → Type 0) (old : List (ℕ × ℕ)) → ((w : ℕ) → P w → ⊥) → HasMorePairs node P old old
pairs_same node P old none = record { kept = λ v w c. c; all = λ w p. absurd (none w p); only = λ v w c. inl c }

-- one is
pub pair_added : (node to : ℕ) (P : ℕ → Type 0) (old : List (ℕ × ℕ)) → P to → ((w : ℕ) → P w → to ≡ w) →
    HasMorePairs node P old (old ++ (node, to) ∷ [])
pair_added node to P old own only = record {
  kept = λ v w c. Contains-append_left old ((node, to) ∷ []) (v, w) c;
  all = λ w p. subst (λ n. Contains (old ++ (node, to) ∷ []) (node, n)) (only w p) (Contains-push old (node, to));
  only = λ v w c. (elim (Contains-push_cases old (node, to) (v, w) c) [
    | inl d ↦ inl d
    | inr e ↦ inr (sym (ap (λ (q : ℕ × ℕ). q.0) e), subst P (ap (λ (q : ℕ × ℕ). q.1) e) own)
  ]);
}

-- one arc more is gone through
pub pairs_next : (node : ℕ) (stands : List Bool) (seen : List Arc) (arc : Arc) (old mid new : List (ℕ × ℕ)) →
    HasMorePairs node (IsOpenTo stands seen) old mid →
    HasMorePairs node (λ w. (arc.to ≡ w) × (allows stands true arc.line ≡ true)) mid new →
    HasMorePairs node (IsOpenTo stands (seen ++ arc ∷ [])) old new
pairs_next node stands seen arc old mid new before last = record {
  kept = λ v w c. last.kept v w (before.kept v w c);
  all = λ w p. (elim (Contains-push_cases seen arc p.arc p.listed) [
    | inl c ↦ last.kept node w (before.all w (record { arc = p.arc; listed = c; to = p.to; is_open = p.is_open }))
    | inr e ↦ last.all w (ap (λ (a : Arc). a.to) e ∙ p.to, ap (λ (a : Arc). allows stands true a.line) e ∙ p.is_open)
  ]);
  only = λ v w c. (elim (last.only v w c) [
    | inl d ↦ (elim (before.only v w d) [
      | inl e ↦ inl e
      | inr q ↦ inr (
        q.0,
        record {
          arc = q.1.arc;
          listed = Contains-append_left seen (arc ∷ []) q.1.arc q.1.listed;
          to = q.1.to;
          is_open = q.1.is_open;
        },
      )
    ])
    | inr q ↦ inr (q.0, record { arc = arc; listed = Contains-push seen arc; to = q.1.0; is_open = q.1.1 })
  ]);
}

pub pairs_begun : (node : ℕ) (stands : List Bool) (old : List (ℕ × ℕ)) → HasMorePairs node (IsOpenTo stands []) old old
pairs_begun node stands old = pairs_same node (IsOpenTo stands []) old (λ w p. Contains-none p.arc p.listed)

-- an open arc of a node leads
open_leads : (arcs : List (List Arc)) (stands : List Bool) (node : ℕ) (leaving : List Arc) (w : ℕ) → leaving ≡ get_or arcs node [] →
    IsOpenTo stands leaving w → Leads arcs stands true node w
open_leads arcs stands node leaving w e p = (
  p.arc.line,
  subst (λ n. Contains (get_or arcs node []) (record { to = n; line = p.arc.line })) p.to
      (subst (λ (xs : List Arc). Contains xs p.arc) e p.listed),
  p.is_open,
)

-- the pairs of one node more
pub below_next : (arcs : List (List Arc)) (stands : List Bool) (node : ℕ) (leaving : List Arc) (old new : List (ℕ × ℕ)) →
    leaving ≡ get_or arcs node [] → HasMorePairs node (IsOpenTo stands leaving) old new →
    ArePairsBelow (Leads arcs stands true) node old → ArePairsBelow (Leads arcs stands true) (node + 1) new
below_next arcs stands node leaving old new e more are = record {
  all = λ v w h l. all v w h l (cases_eq v node);
  only = λ v w c. (elim (more.only v w c) [
    | inl d ↦ are.only v w d
    | inr p ↦ subst (λ n. Leads arcs stands true n w) (sym p.0) (open_leads arcs stands node leaving w e p.1)
  ]);
}
  where
    all : (v w : ℕ) → v < node + 1 → Leads arcs stands true v w → (v ≡ node) ⊎ (v ≡ node → ⊥) → Contains new (v, w)
    all v w h (line, c, o) (inl f) =
        subst (λ n. Contains new (n, w)) (sym f)
        (more.all w (record {
          arc = record { to = w; line = line };
          listed = subst (λ (xs : List Arc). Contains xs (record { to = w; line = line })) (sym e)
              (subst (λ n. Contains (get_or arcs n []) (record { to = w; line = line })) f c);
          to = refl;
          is_open = o;
        }))
    all v w h l (inr n) = more.kept v w (are.all v w (omega (arith, h, n)) l)

pub below_none : (arcs : List (List Arc)) (stands : List Bool) (pairs : List (ℕ × ℕ)) → pairs ≡ [] →
    ArePairsBelow (Leads arcs stands true) 0 pairs
below_none arcs stands pairs e = record {
  all = λ v w h l. absurd (omega (arith, h));
  only = λ v w c. absurd (Contains-none (v, w) (subst (λ ps. Contains ps (v, w)) e c));
}

-- only nodes have arcs
few_nodes : (arcs : List (List Arc)) (stands : List Bool) (v w : ℕ) → Leads arcs stands true v w → v < length arcs
few_nodes arcs stands v w (line, c, o) = elim (below v (length arcs)) [
  | inl h ↦ h
  | inr h ↦ absurd (Contains-none (record { to = w; line = line })
      (subst (λ (xs : List Arc). Contains xs (record { to = w; line = line })) (get_or_past arcs v [] h) c))
]
  where
    below : (i n : ℕ) → (i < n) ⊎ (n ≤ i)
    below i n = grind arith

-- classes by pairs are those by arcs
pub classes_of : (arcs : List (List Arc)) (stands : List Bool) (pairs : List (ℕ × ℕ)) (numbers : List ℕ) →
    ArePairsBelow (Leads arcs stands true) (length arcs) pairs → AreTogetherBy (HasPair pairs) (length arcs) numbers →
    AreTogetherBy (Leads arcs stands true) (length arcs) numbers
classes_of arcs stands pairs numbers are of = record {
  each = of.each;
  equal = λ i j h k. (let t = of.equal i j h k in (
    λ e. (let p : AreTogether (HasPair pairs) i j = t.0 e in (forth p.0, forth p.1)),
    λ p. t.1 (back p.0, back p.1),
  ));
}
  where
    forth : {u w : ℕ} → Reaches (HasPair pairs) u w → Reaches (Leads arcs stands true) u w
    forth r = reaches_by (HasPair pairs) (Leads arcs stands true) are.only r

    back : {u w : ℕ} → Reaches (Leads arcs stands true) u w → Reaches (HasPair pairs) u w
    back r = reaches_by (Leads arcs stands true) (HasPair pairs) (λ u w l. are.all u w (few_nodes arcs stands u w l) l) r

-- each pair is within the nodes
pub pairs_within : (arcs : List (List Arc)) (stands : List Bool) (pairs : List (ℕ × ℕ)) →
    ((v w : ℕ) (line : Option ℕ) → HasArc arcs v w line → w < length arcs) →
    ArePairsBelow (Leads arcs stands true) (length arcs) pairs → (v w : ℕ) → Contains pairs (v, w) → (v < length arcs) × (w < length arcs)
pairs_within arcs stands pairs within are v w c =
    let l : Leads arcs stands true v w = are.only v w c in (few_nodes arcs stands v w l, within v w l.0 l.1)
