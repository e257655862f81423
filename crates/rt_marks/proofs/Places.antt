-- What the split lines derive loosely of the outside, the lines derive: a field may take the place of its own existential again.
use Rattle.std.proofs.Common.{◌≡◌, ℕ, ℤ, ◌⊎◌, inl, inr, List, [], ◌∷◌, map, Contains, Bool, true, false, nat_eq, Option, Some, None}
use Rattle.std.proofs.Common.{refl, ap, sym, ◌∙◌, subst, true≢false}
use Rattle.std.specs.Map.{lookup}
use Rattle.std.proofs.lemmas.List.Elements.{Contains-append_cases}
use Rattle.rt_base.proofs.Lists.{Contains-here, Contains-there, Contains-map_source}
use Rattle.rt_lines.specs.declared.label.Label.{Label}
use Rattle.rt_lines.specs.declared.label.Label.TheVariants.{Load, Store, Field}
use Rattle.rt_lines.specs.declared.label.Variance.{Variance}
use Rattle.rt_lines.specs.declared.label.Variance.TheVariants.{Co, Contra}
use Rattle.rt_lines.specs.declared.variable.Base.{Base}
use Rattle.rt_lines.specs.declared.variable.Base.TheVariants.{Exist}
use Rattle.rt_lines.specs.declared.variable.Dtv.{Dtv}
use Rattle.rt_lines.specs.declared.line.Line.{Line}
use Rattle.rt_lines.specs.declared.line.Line.TheVariants.{Var, Same, Sub, Low, Up}
use Rattle.rt_lines.specs.Words.{times, variance_of_word}
use Rattle.rt_lines.specs.Orders.{Below}
use Rattle.rt_rules.specs.Rules.{HasSide}
use Rattle.rt_loose.specs.Loose.{Loosely}
use Rattle.rt_loose.specs.Loose.Loosely.{named, prefix, same_line, same_sub, sub_line, sub_chain, sub_co}
use Rattle.rt_loose.specs.Loose.Loosely.{sub_pointer, low_line, up_line, low_sub, up_sub}
use Rattle.rt_rules.specs.Alike.{map_line}
use Rattle.rt_marks.specs.Outsides.{LooselyCovers}
use Rattle.rt_rules.specs.Put.{exist, put_found, put_each}
use Rattle.rt_rules.specs.Laws.{NamesBase}
use Rattle.rt_marks.proofs.Carrying.{side}
use Rattle.rt_marks.proofs.Covering.{covers_by, front}
use Rattle.rt_rules.proofs.Putting.{put_each-longer, put_each-none}
use Rattle.rt_marks.proofs.Turned.{IsTurned, sub_word, same_word, turned_self, same_turned}
use Rattle.rt_record.specs.Records.{is_access, IsField, part, IsHeld, moved, moved_line, moves, shape_line, split}
use Rattle.rt_record.specs.Laws.{AreParts}
use Rattle.rt_record.proofs.Moving.{access_cases, flow_side, lookup_source, lookup_has, Moves, Stays, moving}
use Rattle.rt_record.proofs.Moving.{IsFlowSide, moves_source, moves_has}

module _ (order : Below) (lines : List Line) where
  turned_back : (v : Variance) (x y : Dtv) → IsTurned order lines v x y → IsTurned order lines (times Contra v) y x
  turned_back Co x y d = d
  turned_back Contra x y d = d

  -- what is stored in a field lies below what is loaded from it
  pub stored_below : (n w : ℕ) (k : ℤ) →
      Loosely order lines (Var (part n Load (Field w k) [])) → Loosely order lines (Var (part n Store (Field w k) [])) →
      Loosely order lines (Sub (part n Store (Field w k) []) (part n Load (Field w k) []))
  stored_below n w k d e =
      sub_co {x = record { base = Exist n; word = Store ∷ [] }} {y = record { base = Exist n; word = Load ∷ [] }} (Field w k)
      (sub_pointer (exist n) (prefix {x = record { base = Exist n; word = Load ∷ [] }} (Field w k) d)
      (prefix {x = record { base = Exist n; word = Store ∷ [] }} (Field w k) e)) d refl

  -- one access in the place of another: a part lies on the side of it on which its sign says
  abbrev pub Turns : ℕ → Label → Label → Label → List Label → Type 0
  Turns n a b f u = IsTurned order lines (variance_of_word (a ∷ f ∷ u)) (part n b f u) (part n a f u)

  pub turned_access : (n : ℕ) (a b f : Label) (u : List Label) → is_access a ≡ true → is_access b ≡ true → IsField f →
      Loosely order lines (Var (part n b f [])) → Loosely order lines (Var (part n a f u)) → Turns n a b f u
  turned_access n a b f u ea eb (w, k, g) d e =
      subst (λ i. Turns n a b i u) (sym g) (by a b (access_cases a ea) (access_cases b eb)
      (subst (λ i. Loosely order lines (Var (part n b i []))) g d) (subst (λ i. Loosely order lines (Var (part n a i u))) g e))
    where
      own : (a : Label) → Loosely order lines (Var (part n a (Field w k) u)) → Turns n a a (Field w k) u
      own a e = turned_self order lines (variance_of_word (a ∷ Field w k ∷ u)) (part n a (Field w k) u) e

      loaded : Loosely order lines (Var (part n Store (Field w k) [])) → Loosely order lines (Var (part n Load (Field w k) u)) →
          Turns n Load Store (Field w k) u
      loaded d e = sub_word order lines (part n Store (Field w k) []) (part n Load (Field w k) []) u
          (stored_below n w k (front order lines (part n Load (Field w k) []) u e) d) e

      stored : Loosely order lines (Var (part n Load (Field w k) [])) → Loosely order lines (Var (part n Store (Field w k) u)) →
          Turns n Store Load (Field w k) u
      stored d e =
          let s : Loosely order lines (Sub (part n Store (Field w k) []) (part n Load (Field w k) [])) =
          stored_below n w k d (front order lines (part n Store (Field w k) []) u e) in
          let t : Loosely order lines (Same (part n Store (Field w k) u) (part n Load (Field w k) u)) =
          same_word order lines (part n Store (Field w k) []) (part n Load (Field w k) []) u (same_sub s) e in
          turned_back (variance_of_word u) (part n Store (Field w k) u) (part n Load (Field w k) u)
          (sub_word order lines (part n Store (Field w k) []) (part n Load (Field w k) []) u s
          (side order lines (Same (part n Store (Field w k) u) (part n Load (Field w k) u)) (part n Load (Field w k) u) t (inr refl)))

      by : (a b : Label) → (a ≡ Load) ⊎ (a ≡ Store) → (b ≡ Load) ⊎ (b ≡ Store) → Loosely order lines (Var (part n b (Field w k) [])) →
          Loosely order lines (Var (part n a (Field w k) u)) → Turns n a b (Field w k) u
      by a b (inl p) (inl q) d e = subst (λ c. Turns n a c (Field w k) u) (p ∙ sym q) (own a e)
      by a b (inr p) (inr q) d e = subst (λ c. Turns n a c (Field w k) u) (p ∙ sym q) (own a e)
      by a b (inl p) (inr q) d e = rw (p, q) (loaded (rw q at d) (rw p at e))
      by a b (inr p) (inl q) d e = rw (p, q) (stored (rw q at d) (rw p at e))

  pub access_same : (n : ℕ) (a b f : Label) → is_access a ≡ true → is_access b ≡ true → IsField f →
      Loosely order lines (Var (part n b f [])) → Loosely order lines (Var (part n a f [])) →
      Loosely order lines (Same (part n b f []) (part n a f []))
  access_same n a b f ea eb g d e =
      same_turned order lines (variance_of_word (a ∷ f ∷ [])) (part n b f []) (part n a f []) (turned_access n a b f [] ea eb g d e)

module _ (order : Below) (inside : Base → Bool) (lines : List Line) (holds : ℕ → Bool) (parts : ℕ → Label → Option ℕ)
    (inner : (n : ℕ) → inside (Exist n) ≡ true) (are : AreParts lines holds parts) where
  abbrev D : Line → Type 0
  D j = Loosely order lines j

  -- a field of those that go to the existential
  abbrev place : ℕ → Option Dtv
  place m = lookup (nat_eq m) (moves parts lines)

  abbrev back : Dtv → Dtv
  back x = put_each place x

  not_named : (m : ℕ) (z : Dtv) → place m ≡ Some z → NamesBase lines (Exist m) → ⊥
  not_named m z e named_here =
      let s : (x : Dtv) × (s : Moves parts x m) × IsFlowSide lines x × (z ≡ part s.holder s.access s.field []) =
      moves_source parts lines m z (lookup_source m (moves parts lines) z e) in
      are.fresh s.1.holder s.1.field m s.1.number named_here

  no_place : (m : ℕ) → NamesBase lines (Exist m) → place m ≡ None
  no_place m h = by (place m) refl
    where
      by : (o : Option Dtv) → place m ≡ o → place m ≡ None
      by None e = e
      by (Some z) e = absurd (not_named m z e h)

  -- what the lines name stays
  named_stays : (x : Dtv) → NamesBase lines x.base → back x ≡ x
  named_stays x h = put_each-none place x (λ n e. no_place n (subst (NamesBase lines) e h))

  side_stays : (l : Line) (x : Dtv) → Contains lines l → HasSide l x → back x ≡ x
  side_stays l x c h = named_stays x (l, x, c, h, refl)

  side_there : (l : Line) (x : Dtv) → Contains lines l → HasSide l x → D (Var x)
  side_there l x c h = named l c h

  -- the place of the existential that a part goes to is its field, loaded or stored
  pub record Returns (x : Dtv) (m : ℕ) (s : Moves parts x m) : Type 0 where
    pub access : Label
    pub is_access : is_access access ≡ true
    pub there : D (Var (part s.holder access s.field []))
    pub found : place m ≡ Some (part s.holder access s.field [])

  returns : (x : Dtv) (m : ℕ) (s : Moves parts x m) → IsFlowSide lines x → Returns x m s
  returns x m s h =
      let f : (z : Dtv) × (place m ≡ Some z) =
      lookup_has m (moves parts lines) (part s.holder s.access s.field []) (moves_has parts lines x m h s) in
      let t : (y : Dtv) × (t : Moves parts y m) × IsFlowSide lines y × (f.0 ≡ part t.holder t.access t.field []) =
      moves_source parts lines m f.0 (lookup_source m (moves parts lines) f.0 f.1) in
      let one : (t.1.holder ≡ s.holder) × (t.1.field ≡ s.field) =
      are.one_to_one t.1.holder s.holder t.1.field s.field m t.1.number s.number in
      let y_there : D (Var (part t.1.holder t.1.access t.1.field t.1.more)) =
      subst (λ v. D (Var v)) t.1.same (side_there t.2.0 t.0 t.2.1 (flow_side t.2.0 t.0 t.2.2)) in
      record {
        access = t.1.access;
        is_access = t.1.is_access;
        there = subst (λ n. D (Var (part n t.1.access s.field []))) one.0 (subst (λ g. D (Var (part t.1.holder t.1.access g []))) one.1
            (front order lines (part t.1.holder t.1.access t.1.field []) t.1.more y_there));
        found = f.1 ∙ ap Some (t.3 ∙ λ i. part (one.0 i) t.1.access (one.1 i) []);
      }

  -- a variable of a `<=` line or bound that is held at its sign lies on the side of that sign of what it comes back to
  turned_at : (v : Variance) (x : Dtv) → IsFlowSide lines x → ((n : ℕ) → holds n ≡ true → IsHeld n v x) →
      IsTurned order lines v (back (moved parts x)) x
  turned_at v x h held = by (moving parts x)
    where
      there : D (Var x)
      there = side_there h.0 x h.1 (flow_side h.0 x h.2)

      by : Stays parts x ⊎ ((m : ℕ) × Moves parts x m) → IsTurned order lines v (back (moved parts x)) x
      by (inl p) = subst (λ y. IsTurned order lines v y x) (sym (ap back p.0 ∙ side_stays h.0 x h.1 (flow_side h.0 x h.2)))
          (turned_self order lines v x there)
      by (inr (m, s)) =
          let r : Returns x m s = returns x m s h in
          let sign : variance_of_word x.word ≡ v =
          (held s.holder (are.of_records s.holder s.field m s.number) (ap (λ y. y.base) s.same)).1 in
          let comes : back (moved parts x) ≡ part s.holder r.access s.field s.more =
          ap back s.goes ∙ ap (λ o. put_found o (Exist m) s.more) r.found in
          let t : Turns order lines s.holder s.access r.access s.field s.more =
          turned_access order lines s.holder s.access r.access s.field s.more s.is_access r.is_access
          (are.fields s.holder s.field m s.number) r.there
          (subst (λ y. D (Var y)) s.same there) in
          let e : variance_of_word (s.access ∷ s.field ∷ s.more) ≡ v = ap (λ y. variance_of_word y.word) (sym s.same) ∙ sign in
          subst (λ y. IsTurned order lines v y x) (sym comes)
          (subst (λ y. IsTurned order lines v (part s.holder r.access s.field s.more) y) (sym s.same)
          (subst (λ i. IsTurned order lines i (part s.holder r.access s.field s.more) (part s.holder s.access s.field s.more)) e t))

  -- each moved line comes back to a line that is derivable
  comes_back : (l : Line) → Contains lines l → D (map_line back (moved_line parts l))
  comes_back (Var x) c = rw (side_stays (Var x) x c refl) (named (Var x) c refl)
  comes_back (Same x y) c = rw (side_stays (Same x y) x c (inl refl), side_stays (Same x y) y c (inr refl)) (same_line c)
  comes_back (Sub x y) c = sub_chain
      (turned_at Co x (Sub x y, c, Contains-here x (y ∷ [])) (λ n h. (are.records n h (Sub x y) c).0))
      (sub_chain (sub_line c) (turned_at Contra y (Sub x y, c, Contains-there x (y ∷ []) y (Contains-here y []))
      (λ n h. (are.records n h (Sub x y) c).1)))
  comes_back (Low k x) c =
      low_sub (low_line c) (turned_at Contra x (Low k x, c, Contains-here x []) (λ n h. are.records n h (Low k x) c)) (inl refl)
  comes_back (Up x k) c =
      up_sub (turned_at Co x (Up x k, c, Contains-here x []) (λ n h. are.records n h (Up x k) c)) (up_line c) (inl refl)

  shape_back : (l : Line) → (e : ℕ × Dtv) × Contains (moves parts lines) e × (shape_line e ≡ l) → D (map_line back l)
  shape_back l ((m, z), c, e) = subst (λ k. D (map_line back k)) e (by (moves_source parts lines m z c))
    where
      by : (x : Dtv) × (s : Moves parts x m) × IsFlowSide lines x × (z ≡ part s.holder s.access s.field []) →
          D (Same (back (exist m)) (back z))
      by (x, s, h, f) =
          let r : Returns x m s = returns x m s h in
          let n : ℕ = s.holder in
          let there : D (Var (part n s.access s.field s.more)) =
          subst (λ v. D (Var v)) s.same (side_there h.0 x h.1 (flow_side h.0 x h.2)) in
          let named_here : NamesBase lines (Exist n) = (h.0, x, h.1, flow_side h.0 x h.2, ap (λ y. y.base) s.same) in
          let comes : back (exist m) ≡ part n r.access s.field [] = ap (λ o. put_found o (Exist m) []) r.found in
          let stays : back z ≡ part n s.access s.field [] = ap back f ∙ named_stays (part n s.access s.field []) named_here in
          let d : D (Same (part n r.access s.field []) (part n s.access s.field [])) =
          access_same order lines n s.access r.access s.field s.is_access r.is_access (are.fields n s.field m s.number) r.there
          (front order lines (part n s.access s.field []) s.more there) in
          rw (comes, stays) d

  split_back : (l : Line) → Contains (split parts lines) l → D (map_line back l)
  split_back l c = by (Contains-append_cases (map (moved_line parts) lines) (map shape_line (moves parts lines)) l c)
    where
      moved_back : (k : Line) × Contains lines k × (moved_line parts k ≡ l) → D (map_line back l)
      moved_back (k, d, e) = subst (λ i. D (map_line back i)) e (comes_back k d)

      by : Contains (map (moved_line parts) lines) l ⊎ Contains (map shape_line (moves parts lines)) l → D (map_line back l)
      by (inl d) = moved_back (Contains-map_source (moved_line parts) lines l d)
      by (inr d) = shape_back l (Contains-map_source shape_line (moves parts lines) l d)

  back_fixes : (x : Dtv) → inside x.base ≡ false → back x ≡ x
  back_fixes x out = put_each-none place x (λ n e. absurd (true≢false (sym (inner n) ∙ (ap inside (sym e) ∙ out))))

  -- what the split lines derive of the outside, the lines derive
  pub joined : LooselyCovers order inside (split parts lines) lines
  joined = covers_by order inside (split parts lines) lines back (put_each-longer place) back_fixes split_back
