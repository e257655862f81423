-- What the lines derive loosely of the outside, the split lines derive; so both say the same to the outside.
use Rattle.std.proofs.Common.{◌≡◌, ℕ, ◌⊎◌, inl, inr, List, [], ◌∷◌, ◌++◌, map, All, Contains, Bool, true, false}
use Rattle.std.proofs.Common.{cond, nat_eq, Option, Some, None, refl, ap, sym, ◌∙◌, subst, true≢false}
use Rattle.std.specs.Map.{lookup}
use Rattle.std.proofs.lemmas.List.Elements.{Contains-append_cases, Contains-append_left, Contains-append_right, All-contains}
use Rattle.rt_base.proofs.Lists.{Contains-here, Contains-there, Contains-map}
use Rattle.rt_lines.specs.declared.label.Label.{Label}
use Rattle.rt_lines.specs.declared.variable.Base.{Base}
use Rattle.rt_lines.specs.declared.variable.Base.TheVariants.{Proc, Global, Exist, Outer}
use Rattle.rt_lines.specs.declared.variable.Dtv.{Dtv}
use Rattle.rt_lines.specs.declared.line.Line.{Line}
use Rattle.rt_lines.specs.declared.line.Line.TheVariants.{Var, Same, Sub, Low, Up}
use Rattle.rt_lines.specs.Orders.{Below}
use Rattle.rt_rules.specs.Rules.{line_of}
use Rattle.rt_loose.specs.Loose.{Loosely}
use Rattle.rt_rules.specs.Alike.{IsOutside}
use Rattle.rt_rules.specs.Put.{exist}
use Rattle.rt_marks.proofs.Carrying.{given, are_there}
use Rattle.rt_marks.proofs.Turned.{same_word}
use Rattle.rt_record.specs.Records.{is_access, IsField, part, IsPart, number_of, moved_to, moved_at, moved}
use Rattle.rt_record.specs.Records.{moved_line, moves, shape_line, split}
use Rattle.rt_record.specs.Laws.{AreParts}
use Rattle.rt_marks.specs.Laws.{SplitsAlikeLaw}
use Rattle.rt_record.proofs.Moving.{flow_side, lookup_source, lookup_has, Moves, Stays, part_moves, moving}
use Rattle.rt_record.proofs.Moving.{IsFlowSide, moves_source, moves_has}
use Rattle.rt_marks.proofs.Places.{joined}
use Rattle.rt_record.proofs.Splitting.{outer_stays, flow_part}
use Rattle.rt_marks.proofs.Moved.{Stub, beyond, stub, part_far, other_far, Says, line_says, said}

-- the numbers of those fields alone that stand in a `<=` line or bound
module _ (lines : List Line) (parts : ℕ → Label → Option ℕ) where
  abbrev place : ℕ → Option Dtv
  place m = lookup (nat_eq m) (moves parts lines)

  abbrev taken : Option Dtv → ℕ → Option ℕ
  taken (Some z) m = Some m
  taken None m = None

  abbrev kept : Option ℕ → Option ℕ
  kept (Some m) = taken (place m) m
  kept None = None

  abbrev live : ℕ → Label → Option ℕ
  live n f = kept (parts n f)

  abbrev IsLive : ℕ → Label → ℕ → Type 0
  IsLive n f m = (parts n f ≡ Some m) × ((z : Dtv) × (place m ≡ Some z))

  live_source : (n : ℕ) (f : Label) (m : ℕ) → live n f ≡ Some m → IsLive n f m
  live_source n f m e = by (parts n f) refl e
    where
      found : (k : ℕ) → parts n f ≡ Some k → (p : Option Dtv) → place k ≡ p → taken p k ≡ Some m → IsLive n f m
      found k g None h i = cc
      found k g (Some z) h i =
          let j : k ≡ m = cc in
          (g ∙ ap Some j, (z, subst (λ i. place i ≡ Some z) j h))

      by : (o : Option ℕ) → parts n f ≡ o → kept o ≡ Some m → IsLive n f m
      by None g h = cc
      by (Some k) g h = found k g (place k) refl h

  number_live : (n : ℕ) (a f : Label) (u : List Label) → IsFlowSide lines (part n a f u) → number_of live n a f ≡ number_of parts n a f
  number_live n a f u h = by (is_access a) refl
    where
      number : is_access a ≡ true → (o : Option ℕ) → parts n f ≡ o → kept o ≡ o
      number g None i = refl
      number g (Some m) i =
          ap (λ p. taken p m) (lookup_has m (moves parts lines) (part n a f [])
          (moves_has parts lines (part n a f u) m h (part_moves parts n a f u m g i))).1

      by : (b : Bool) → is_access a ≡ b → cond b (live n f) None ≡ cond b (parts n f) None
      by true g = number g (parts n f) refl
      by false g = refl

  moved_at_live : (b : Base) (w : List Label) → IsFlowSide lines (record { base = b; word = w }) → moved_at live b w ≡ moved_at parts b w
  moved_at_live (Proc n) w h = refl
  moved_at_live (Global n) w h = refl
  moved_at_live (Outer n) w h = refl
  moved_at_live (Exist n) [] h = refl
  moved_at_live (Exist n) (a ∷ []) h = refl
  moved_at_live (Exist n) (a ∷ f ∷ u) h = ap (λ o. moved_to o u (part n a f u)) (number_live n a f u h)

  moved_live : (x : Dtv) → IsFlowSide lines x → moved live x ≡ moved parts x
  moved_live x h = moved_at_live x.base x.word h

  line_live : (l : Line) → Contains lines l → moved_line live l ≡ moved_line parts l
  line_live (Var x) c = refl
  line_live (Same x y) c = refl
  line_live (Sub x y) c =
      let first : moved live x ≡ moved parts x = moved_live x (Sub x y, c, Contains-here x (y ∷ [])) in
      let second : moved live y ≡ moved parts y = moved_live y (Sub x y, c, Contains-there x (y ∷ []) y (Contains-here y [])) in
      rw (first, second) refl
  line_live (Low k x) c = rw (moved_live x (Low k x, c, Contains-here x [])) refl
  line_live (Up x k) c = rw (moved_live x (Up x k, c, Contains-here x [])) refl

module _ (order : Below) (inside : Base → Bool) (lines : List Line) (holds : ℕ → Bool) (parts : ℕ → Label → Option ℕ)
    (inner : (n : ℕ) → inside (Exist n) ≡ true) (are : AreParts lines holds parts) where
  abbrev moving_parts : ℕ → Label → Option ℕ
  moving_parts = live lines parts

  of_records : (n : ℕ) (f : Label) (m : ℕ) → moving_parts n f ≡ Some m → holds n ≡ true
  of_records n f m e = are.of_records n f m (live_source lines parts n f m e).0

  fields : (n : ℕ) (f : Label) (m : ℕ) → moving_parts n f ≡ Some m → IsField f
  fields n f m e = are.fields n f m (live_source lines parts n f m e).0

  not_inner : (b : Base) → inside b ≡ false → (n : ℕ) → b ≡ Exist n → ⊥
  not_inner b out n e = true≢false (sym (inner n) ∙ (ap inside (sym e) ∙ out))

  outside_stays : (x : Dtv) → inside x.base ≡ false → moved moving_parts x ≡ x
  outside_stays x out = outer_stays moving_parts x.base x.word (not_inner x.base out)

  outside_line : (l : Line) → IsOutside inside l → moved_line moving_parts l ≡ l
  outside_line (Var x) out = refl
  outside_line (Same x y) out = refl
  outside_line (Sub x y) out = rw (outside_stays x (out x (inl refl)), outside_stays y (out y (inr refl))) refl
  outside_line (Low k x) out = rw (outside_stays x (out x refl)) refl
  outside_line (Up x k) out = rw (outside_stays x (out x refl)) refl

  abbrev far_of : Dtv → Stub
  far_of x = stub holds moving_parts of_records fields x

  side_far : (x : Dtv) → IsFlowSide lines x → far_of x ≡ beyond
  side_far x (l, c, d) = by x.base refl
    where
      other : ((n : ℕ) → x.base ≡ Exist n → holds n ≡ false) → far_of x ≡ beyond
      other none = other_far holds moving_parts of_records fields x none

      part_is : (n : ℕ) → IsPart n x → far_of x ≡ beyond
      part_is n p = ap far_of p.same ∙ part_far holds moving_parts of_records fields n p.access p.field p.more

      own : (n : ℕ) → x.base ≡ Exist n → (h : Bool) → holds n ≡ h → far_of x ≡ beyond
      own n e true h = part_is n (flow_part n l x (are.records n h l c) d e)
      own n e false h = other (λ k f. let g : n ≡ k = cc in subst (λ i. holds i ≡ false) g h)

      by : (b : Base) → x.base ≡ b → far_of x ≡ beyond
      by (Proc n) e = other (λ k f. absurd (let g : Proc n ≡ Exist k = sym e ∙ f in cc))
      by (Global n) e = other (λ k f. absurd (let g : Global n ≡ Exist k = sym e ∙ f in cc))
      by (Outer n) e = other (λ k f. absurd (let g : Outer n ≡ Exist k = sym e ∙ f in cc))
      by (Exist n) e = own n e (holds n) refl

  module _ (added : List Line) (out : All (IsOutside inside) added) where
    abbrev others : List Line
    others = split parts lines ++ added

    abbrev D : Line → Type 0
    D j = Loosely order others j

    stands : (l : Line) → Contains (split parts lines) l → D l
    stands l c = given order others l (Contains-append_left (split parts lines) added l c)

    shape_stands : (m : ℕ) (z : Dtv) → Contains (moves parts lines) (m, z) → D (Same (exist m) z)
    shape_stands m z c = stands (Same (exist m) z)
        (Contains-append_right (map (moved_line parts) lines) (map shape_line (moves parts lines)) (Same (exist m) z)
        (Contains-map shape_line (moves parts lines) (m, z) c))

    shaped : (n : ℕ) (f : Label) (m : ℕ) → moving_parts n f ≡ Some m →
        (a : Label) × (is_access a ≡ true) × D (Same (exist m) (part n a f []))
    shaped n f m e =
        let p : IsLive lines parts n f m = live_source lines parts n f m e in
        let c : Contains (moves parts lines) (m, p.1.0) = lookup_source m (moves parts lines) p.1.0 p.1.1 in
        let s : (x : Dtv) × (s : Moves parts x m) × IsFlowSide lines x × (p.1.0 ≡ part s.holder s.access s.field []) =
        moves_source parts lines m p.1.0 c in
        let one : (s.1.holder ≡ n) × (s.1.field ≡ f) = are.one_to_one s.1.holder n s.1.field f m s.1.number p.0 in (
          s.1.access,
          s.1.is_access,
          subst (λ z. D (Same (exist m) z)) (s.3 ∙ λ i. part (one.0 i) s.1.access (one.1 i) []) (shape_stands m p.1.0 c),
        )

    abbrev Said : Line → Type 0
    Said l = Says holds moving_parts of_records fields order others shaped l

    side_there : (x : Dtv) → IsFlowSide lines x → D (Var (moved moving_parts x)) → D (Var x)
    side_there x h d = by (moving moving_parts x)
      where
        by : Stays moving_parts x ⊎ ((m : ℕ) × Moves moving_parts x m) → D (Var x)
        by (inl p) = subst (λ v. D (Var v)) p.0 d
        by (inr (m, s)) =
            let z : Dtv = part s.holder s.access s.field s.more in
            let e : parts s.holder s.field ≡ Some m = (live_source lines parts s.holder s.field m s.number).0 in
            let c : Contains (moves parts lines) (m, part s.holder s.access s.field []) =
            moves_has parts lines (part s.holder s.access s.field s.more) m (subst (IsFlowSide lines) s.same h)
            (part_moves parts s.holder s.access s.field s.more m s.is_access e) in
            let t : D (Same (record { base = Exist m; word = s.more }) (part s.holder s.access s.field s.more)) =
            same_word order others (exist m) (part s.holder s.access s.field []) s.more
            (shape_stands m (part s.holder s.access s.field []) c)
            (subst (λ v. D (Var v)) s.goes d) in
            subst (λ v. D (Var v)) (sym s.same) (are_there order others t).1

    gives : (l : Line) → Contains lines l ⊎ Contains added l → Said l
    gives l (inl c) =
        line_says holds moving_parts of_records fields order others shaped l (λ x d. side_far x (l, c, d)) (λ x d. side_there x (l, c, d))
        (subst D (sym (line_live lines parts l c)) (stands (moved_line parts l)
        (Contains-append_left (map (moved_line parts) lines) (map shape_line (moves parts lines)) (moved_line parts l)
        (Contains-map (moved_line parts) lines l c))))
    gives l (inr c) =
        let apart : IsOutside inside l = All-contains (IsOutside inside) added l out c in
        line_says holds moving_parts of_records fields order others shaped l
        (λ x d. other_far holds moving_parts of_records fields x (λ n e. absurd (not_inner x.base (apart x (flow_side l x d)) n e)))
        (λ x d e. subst (λ v. D (Var v)) (outside_stays x (apart x (flow_side l x d))) e)
        (subst D (sym (outside_line l apart)) (given order others l (Contains-append_right (split parts lines) added l c)))

    outside_says : (l : Line) → IsOutside inside l → Said l → D l
    outside_says (Var x) apart s = s
    outside_says (Same x y) apart s = s
    outside_says (Sub x y) apart s = subst D (outside_line (Sub x y) apart) s.2
    outside_says (Low k x) apart s = subst D (outside_line (Low k x) apart) s.1
    outside_says (Up x k) apart s = subst D (outside_line (Up x k) apart) s.1

    parted : (j : Line) → IsOutside inside j → Loosely order (lines ++ added) j → D j
    parted j apart d = outside_says j apart
        (said holds moving_parts of_records fields order others shaped (lines ++ added)
        (λ l c. gives l (Contains-append_cases lines added l c)) d)

pub splits_alike_lem : SplitsAlikeLaw
splits_alike_lem order inside lines holds parts inner are = (
  λ added j out apart d. parted order inside lines holds parts inner are added out (line_of j) apart d,
  joined order inside lines holds parts inner are,
)
