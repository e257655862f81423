-- Marks are those of the lines: what lies loosely below has a way, and bounds of lines go along ways.
use Rattle.std.proofs.Common.{◌≡◌, ℕ, ◌⊎◌, ◌++◌, ◌<◌, inl, inr, List, [], All, Contains, refl, sym, subst}
use Rattle.std.proofs.lemmas.List.Elements.{All-append, Contains-append_cases}
use Rattle.rt_base.proofs.Lists.{All-from_contains}
use Rattle.rt_lines.specs.declared.label.Label.{Label}
use Rattle.rt_lines.specs.declared.label.Label.TheVariants.{Load, Store}
use Rattle.rt_lines.specs.declared.label.Variance.TheVariants.{Co, Contra}
use Rattle.rt_lines.specs.declared.variable.Dtv.{Dtv}
use Rattle.rt_lines.specs.declared.line.Line.{Line}
use Rattle.rt_lines.specs.declared.line.Line.TheVariants.{Var as VarLine, Sub, Low, Up}
use Rattle.rt_lines.specs.Lines.{HasConstantsBelow}
use Rattle.rt_lines.specs.Orders.{Below}
use Rattle.rt_lines.specs.OrderFacts.{IsOrder}
use Rattle.rt_lines.specs.Words.{label_variance}
use Rattle.rt_rules.specs.Rules.{longer, extended, Derivable}
use Rattle.rt_rules.specs.Rules.Derivable.{prefix, same_letter, same_back}
use Rattle.rt_named.specs.Naming.{named}
use Rattle.rt_bridge.specs.Bounds.{HasLow, HasUp}
use Rattle.rt_bridge.proofs.Bounds.{low_of, up_of}
use Rattle.rt_bridge.specs.Growing.{dot, dv, vd, rest, V}
use Rattle.rt_bridge.proofs.Growing.{der, dv-vd, dv-rest, both}
use Rattle.rt_bridge.specs.Counted.{Flip}
use Rattle.rt_loose.specs.Loose.{IsPointerLine, IsLoose, Loosely}
use Rattle.rt_loose.specs.Loose.Loosely.{right_side, sub_line, sub_self, sub_chain, sub_co, sub_contra, sub_pointer, loose_pointer, low_line, up_line, low_sub, up_sub}
use Rattle.rt_loose.specs.Kinds.{signed, before, IsPointer, Flips, half, kept}
use Rattle.rt_loose.specs.Ways.{Way, Every}
use Rattle.rt_loose.specs.Ways.Way.{here, up, join, push}
use Rattle.rt_loose.specs.Sets.{Sets, AreSets}
use Rattle.rt_loose.specs.Laws.{HasLowIn, HasUpIn, IsOneEnd}
use Rattle.rt_loose.proofs.Loosely.{loosely, added, strict_of}
use Rattle.rt_loose.proofs.Paths.{path, path_same, Seen, seen_longer}
use Rattle.rt_loose.proofs.Known.{known_side, L}
use Rattle.rt_loose.proofs.Steps.{way_turned}
use Rattle.rt_loose.proofs.Sound.{Beneath, Mutual, sound, either_pointer, mutual_behind}

module _ (order : Below) (lines : List Line) where
  by_co : (l : Label) (x y : Dtv) → label_variance l ≡ Co → Derivable order lines (VarLine (longer x l)) →
      Derivable order lines (VarLine (longer y l)) → Way order lines Every x y (signed Co) →
      Way order lines Every (longer x l) (longer y l) (signed Co)
  by_co l x y e v w b =
      let c : Way order lines Every x y (before l (signed Co)) = rw e b in push tt tt v w c kept

  by_contra : (l : Label) (x y : Dtv) → label_variance l ≡ Contra → Derivable order lines (VarLine (longer x l)) →
      Derivable order lines (VarLine (longer y l)) → Way order lines Every x y (signed Contra) →
      Way order lines Every (longer x l) (longer y l) (signed Co)
  by_contra l x y e v w b =
      let c : Way order lines Every x y (before l (signed Co)) = rw e b in push tt tt v w c kept

  -- what lies loosely below has a way
  pub complete : {x y : Dtv} → Loosely order lines (Sub x y) → Way order lines Every x y (signed Co)
  complete (sub_line c) = up c
  complete (sub_self d) = here (signed Co) tt (strict_of order lines d)
  complete (sub_chain d e) = join (complete d) (complete e)
  complete (sub_co {x = x} {y = y} l d v e) =
      let w : Derivable order lines (VarLine (longer y l)) = strict_of order lines v in
      by_co l x y e (same_letter l (same_back (strict_of order lines d)) w) w (complete d)
  complete (sub_contra {x = x} {y = y} l d v e) =
      let w : Derivable order lines (VarLine (longer y l)) = strict_of order lines v in
      by_contra l y x e w (same_letter l (same_back (strict_of order lines d)) w) (way_turned order lines Every (complete d))
  complete (sub_pointer x d e) =
      let v : Derivable order lines (VarLine (longer x Load)) = strict_of order lines d in
      let w : Derivable order lines (VarLine (longer x Store)) = strict_of order lines e in
      push tt tt w v (here _ tt (prefix Load v)) (half tt tt (v, w))
  complete (loose_pointer x d e) =
      let v : Derivable order lines (VarLine (longer x Load)) = strict_of order lines d in
      let w : Derivable order lines (VarLine (longer x Store)) = strict_of order lines e in
      push tt tt v w (here _ tt (prefix Load v)) (half tt tt (v, w))

  -- and the other way round
  pub beneath_way : {x y : Dtv} → Way order lines Every x y (signed Co) → Loosely order lines (Sub x y)
  beneath_way {x} {y} w =
      let b : Beneath (L order lines) (vd x) (vd y) =
      sound (L order lines) (Seen (L order lines) Every) (path (L order lines) Every w) []
      (both (L order lines) (path_same (L order lines) (Seen (L order lines) Every) (path (L order lines) Every w))).0 refl in
      subst (λ z. Loosely order lines (Sub z y)) (dv-vd x)
      (subst (λ z. Loosely order lines (Sub (dv (vd x)) z)) (dv-vd y) b.derives)

  -- lines with pointer lines
  module _ (few : All (HasConstantsBelow order.count) lines) (j : Line) (h : IsLoose order lines j) where
    constants_in : (l : Line) → IsPointerLine order lines l → HasConstantsBelow order.count l
    constants_in l p = subst (HasConstantsBelow order.count) (sym p.is) tt

    few_more : All (HasConstantsBelow order.count) (lines ++ h.added)
    few_more =
        All-append (HasConstantsBelow order.count) lines h.added few
        (All-from_contains (HasConstantsBelow order.count) h.added (λ l c. constants_in l (h.each l c)))

    own_low : (k : ℕ) (x : Dtv) → Contains lines (Low k x) ⊎ Contains h.added (Low k x) → Contains lines (Low k x)
    own_low k x (inl c) = c
    own_low k x (inr c) = let p : IsPointerLine order lines (Low k x) = h.each (Low k x) c in let e = p.is in cc

    own_up : (k : ℕ) (x : Dtv) → Contains lines (Up x k) ⊎ Contains h.added (Up x k) → Contains lines (Up x k)
    own_up k x (inl c) = c
    own_up k x (inr c) = let p : IsPointerLine order lines (Up x k) = h.each (Up x k) c in let e = p.is in cc

    beneath : (x y : Dtv) → Derivable order (lines ++ h.added) (Sub x y) → Way order lines Every x y (signed Co)
    beneath x y d = complete (loosely order lines (Sub x y) (record { added = h.added; each = h.each; derivable = d }))

  module _ (x : Dtv) (sets : Sets) (are : AreSets order lines (named lines []) x sets) (k : ℕ) where
    pub low_marks : IsOrder order → All (HasConstantsBelow order.count) lines → IsLoose order lines (Low k x) →
        HasLowIn order lines k sets.below
    low_marks is few h =
        let r : HasLow order (lines ++ h.added) k x = (low_of order (lines ++ h.added) is (few_more few (Low k x) h) h.derivable).1 in
        let c : Contains lines (Low r.bound r.variable) =
        own_low few (Low k x) h r.bound r.variable (Contains-append_cases lines h.added (Low r.bound r.variable) r.stands) in
        record {
          bound = r.bound;
          variable = r.variable;
          stands = c;
          at = r.at;
          among = (are.below r.variable).1
              (known_side order lines (Low r.bound r.variable) r.variable c refl, beneath few (Low k x) h r.variable x r.below);
        }

    pub low_from : HasLowIn order lines k sets.below → IsLoose order lines (Low k x)
    low_from r =
        added order lines (low_sub (low_line r.stands) (beneath_way ((are.below r.variable).0 r.among).1) r.at)

    pub up_marks : IsOrder order → All (HasConstantsBelow order.count) lines → k < order.count → IsLoose order lines (Up x k) →
        HasUpIn order lines k sets.above
    up_marks is few less h =
        let r : HasUp order (lines ++ h.added) x k = up_of order (lines ++ h.added) is (few_more few (Up x k) h) h.derivable less in
        let c : Contains lines (Up r.variable r.bound) =
        own_up few (Up x k) h r.bound r.variable (Contains-append_cases lines h.added (Up r.variable r.bound) r.stands) in
        record {
          bound = r.bound;
          variable = r.variable;
          stands = c;
          at = r.at;
          among = (are.above r.variable).1
              (known_side order lines (Up r.variable r.bound) r.variable c refl, beneath few (Up x k) h x r.variable r.above);
        }

    pub up_from : HasUpIn order lines k sets.above → IsLoose order lines (Up x k)
    up_from r =
        added order lines (up_sub (beneath_way ((are.above r.variable).0 r.among).1) (up_line r.stands) r.at)

  -- load and store of one variable have one end
  module _ (x : Dtv) (flips : Flips order lines x) (z : List Label) where
    place_of : (l : Label) → dv (rest (dot (vd x) l) z) ≡ extended (longer x l) z
    place_of l = subst (λ y. dv (rest (dot (vd x) l) z) ≡ extended (longer y l) z) (dv-vd x) (dv-rest z (dot (vd x) l))

    flip_here : Flip (L order lines) (vd x)
    flip_here = (seen_longer (L order lines) x Load flips.0, seen_longer (L order lines) x Store flips.1)

    moved : (l m : Label) → IsPointer l → IsPointer m → Derivable order lines (VarLine (extended (longer x l) z)) →
        Mutual (L order lines) (rest (dot (vd x) l) z) (rest (dot (vd x) m) z)
    moved l m p q d =
        mutual_behind (L order lines) z (dot (vd x) l) (dot (vd x) m) (either_pointer (L order lines) (vd x) l m p q flip_here)
        (der (L order lines) (V (rest (dot (vd x) l) z)) (subst (λ y. Derivable order lines (VarLine y)) (sym (place_of l)) d))

    lies : (l m : Label) → Beneath (L order lines) (rest (dot (vd x) l) z) (rest (dot (vd x) m) z) →
        Loosely order lines (Sub (extended (longer x l) z) (extended (longer x m) z))
    lies l m b =
        subst (λ y. Loosely order lines (Sub y (extended (longer x m) z))) (place_of l)
        (subst (λ y. Loosely order lines (Sub (dv (rest (dot (vd x) l) z)) y)) (place_of m) b.derives)

    word_to : (l m : Label) → IsPointer l → IsPointer m → Derivable order lines (VarLine (extended (longer x l) z)) →
        Derivable order lines (VarLine (extended (longer x m) z))
    word_to l m p q d = strict_of order lines (right_side (lies l m (moved l m p q d).0))

    low_to : (l m : Label) → IsPointer l → IsPointer m → (k : ℕ) → IsLoose order lines (Low k (extended (longer x l) z)) →
        IsLoose order lines (Low k (extended (longer x m) z))
    low_to l m p q k h =
        let d : Loosely order lines (Low k (extended (longer x l) z)) = loosely order lines _ h in
        added order lines (low_sub d (lies l m (moved l m p q (strict_of order lines d)).0) (inl refl))

    up_to : (l m : Label) → IsPointer l → IsPointer m → (k : ℕ) → IsLoose order lines (Up (extended (longer x l) z) k) →
        IsLoose order lines (Up (extended (longer x m) z) k)
    up_to l m p q k h =
        let d : Loosely order lines (Up (extended (longer x l) z) k) = loosely order lines _ h in
        added order lines (up_sub (lies m l (moved l m p q (strict_of order lines d)).1) d (inl refl))

    pub one_end : IsOneEnd order lines (extended (longer x Load) z) (extended (longer x Store) z)
    one_end = record {
      words = (word_to Load Store tt tt, word_to Store Load tt tt);
      low = λ k. (low_to Load Store tt tt k, low_to Store Load tt tt k);
      up = λ k. (up_to Load Store tt tt k, up_to Store Load tt tt k);
    }
