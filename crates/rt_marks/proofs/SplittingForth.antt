-- What lines derive loosely, split lines derive of the split variables.
use Rattle.std.proofs.Common.{◌≡◌, ℕ, ◌⊎◌, inl, inr, Bool, true, false, cond, IsTrue, List, [], ◌∷◌, ◌++◌, map, All, Contains, refl, sym, subst, ◌∙◌}
use Rattle.std.proofs.lemmas.List.Elements.{Contains-append_cases, All-contains}
use Rattle.rt_base.proofs.Lists.{Contains-map}
use Rattle.rt_lines.specs.declared.label.Label.{Label}
use Rattle.rt_lines.specs.declared.label.Label.TheVariants.{In, Out, Load, Store, Field}
use Rattle.rt_lines.specs.declared.variable.Base.{Base}
use Rattle.rt_lines.specs.declared.variable.Base.TheVariants.{Proc, Global, Exist, Outer}
use Rattle.rt_lines.specs.declared.variable.Dtv.{Dtv}
use Rattle.rt_lines.specs.declared.line.Line.{Line}
use Rattle.rt_lines.specs.declared.line.Line.TheVariants.{Var, Same, Sub, Low, Up}
use Rattle.rt_lines.specs.Orders.{Below}
use Rattle.rt_rules.specs.Rules.{longer, HasSide, line_of}
use Rattle.rt_loose.specs.Loose.{Loosely}
use Rattle.rt_loose.specs.Loose.Loosely.{named, prefix, left_side, right_side, same_letter, same_line, same_sub, same_self, same_back, same_chain, same_longer, sub_line, sub_self, sub_chain, sub_co, sub_contra, sub_pointer, low_line, up_line, low_sub, up_sub, loose_pointer}
use Rattle.rt_rules.specs.Alike.{IsOutside}
use Rattle.rt_marks.specs.Outsides.{LooselyCovers}
use Rattle.rt_rules.proofs.Carry.{HasSide-map}
use Rattle.rt_marks.proofs.Carrying.{given, side}
use Rattle.rt_rules.proofs.Covering.{map_line-fixed}
use Rattle.rt_marks.proofs.Covering.{derives_left, derives_right}
use Rattle.rt_scheme.specs.Schemes.{is_interface}
use Rattle.rt_scheme.specs.declared.interface.Interface.{Interface}
use Rattle.rt_scheme.specs.Splitting.{split_side, split_variable, split_line}
use Rattle.rt_marks.proofs.SplitParts.{pointer_back, Parts, begun, parts_at, parts, grow, parts-longer, Has, Joined, Lower, IsLow, IsUp, joined_of, back, has_left, has_right, chain, lower_chain, itself, lower_itself, shorter, joined_longer, lower_co, lower_contra, pointer, low_lower, up_lower}
use Rattle.rt_marks.proofs.SplitParts.Parts.{bare, moved}

-- the first letter says it
is_interface-first : (l : Label) (w : List Label) → is_interface (l ∷ w) ≡ is_interface (l ∷ [])
is_interface-first (In k) w = refl
is_interface-first (Out n) w = refl
is_interface-first Load w = refl
is_interface-first Store w = refl
is_interface-first (Field b k) w = refl

module _ (is_split : ℕ → Bool) (place : Interface → ℕ) where
  -- what is said of the parts of a judgement's sides
  module _ (order : Below) (others : List Line) where
    abbrev Holds : Line → Type 0
    Holds (Var x) = Has is_split place order others (parts is_split place x)
    Holds (Same x y) = Joined is_split place order others (parts is_split place x) (parts is_split place y)
    Holds (Sub x y) = Lower is_split place order others (parts is_split place x) (parts is_split place y)
    Holds (Low k x) = IsLow is_split place order others k (parts is_split place x)
    Holds (Up x k) = IsUp is_split place order others (parts is_split place x) k

    -- where each side of each line has become a variable, and the others derive what has become of the line
    module _ (lines : List Line)
        (clean : (l : Line) (x : Dtv) → Contains lines l → HasSide l x → parts is_split place x ≡ moved (split_variable is_split place x))
        (gives : (l : Line) → Contains lines l → Loosely order others (split_line is_split place l)) where
      at_letter : (x : Dtv) (l : Label) → Has is_split place order others (parts is_split place (longer x l)) → Has is_split place order others (grow is_split place (parts is_split place x) l)
      at_letter x l h = subst (Has is_split place order others) (parts-longer is_split place x l) h

      of_letter : (x : Dtv) (l : Label) → Has is_split place order others (grow is_split place (parts is_split place x) l) → Has is_split place order others (parts is_split place (longer x l))
      of_letter x l h = subst (Has is_split place order others) (sym (parts-longer is_split place x l)) h

      of_two : (P : Parts → Parts → Type 0) (x y : Dtv) (l m : Label) → P (grow is_split place (parts is_split place x) l) (grow is_split place (parts is_split place y) m) → P (parts is_split place (longer x l)) (parts is_split place (longer y m))
      of_two P x y l m h =
          subst (λ i. P i (parts is_split place (longer y m))) (sym (parts-longer is_split place x l))
          (subst (λ j. P (grow is_split place (parts is_split place x) l) j) (sym (parts-longer is_split place y m)) h)

      of_sides : (P : Parts → Parts → Type 0) (l : Line) (x y : Dtv) → Contains lines l → HasSide l x → HasSide l y → P (moved (split_variable is_split place x)) (moved (split_variable is_split place y)) → P (parts is_split place x) (parts is_split place y)
      of_sides P l x y c h k d =
          subst (λ i. P i (parts is_split place y)) (sym (clean l x c h)) (subst (λ j. P (moved (split_variable is_split place x)) j) (sym (clean l y c k)) d)

      pub holds : {j : Line} → Loosely order lines j → Holds j
      holds (named l {x = x} c h) =
          subst (Has is_split place order others) (sym (clean l x c h))
          (side order others (split_line is_split place l) (split_variable is_split place x) (gives l c) (HasSide-map (split_variable is_split place) l x h))
      holds (prefix {x = x} l d) = shorter is_split place order others (parts is_split place x) l (at_letter x l (holds d))
      holds (left_side {x = x} {y = y} d) =
          has_left is_split place order others (parts is_split place x) (parts is_split place y) (joined_of is_split place order others (parts is_split place x) (parts is_split place y) (holds d))
      holds (right_side {x = x} {y = y} d) =
          has_right is_split place order others (parts is_split place x) (parts is_split place y) (joined_of is_split place order others (parts is_split place x) (parts is_split place y) (holds d))
      holds (same_letter {x = x} {y = y} l d e) =
          of_letter y l
          (has_right is_split place order others (grow is_split place (parts is_split place x) l) (grow is_split place (parts is_split place y) l)
          (joined_longer is_split place order others (parts is_split place x) (parts is_split place y) l (holds d) (at_letter x l (holds e))))
      holds (same_line {x = x} {y = y} c) = of_sides (Joined is_split place order others) (Same x y) x y c (inl refl) (inr refl) (gives (Same x y) c)
      holds (same_sub {x = x} {y = y} d) = joined_of is_split place order others (parts is_split place x) (parts is_split place y) (holds d)
      holds (same_self {x = x} d) = itself is_split place order others (parts is_split place x) (holds d)
      holds (same_back {x = x} {y = y} d) = back is_split place order others (parts is_split place x) (parts is_split place y) (holds d)
      holds (same_chain {x = x} {y = y} {z = z} d e) = chain is_split place order others (parts is_split place x) (parts is_split place y) (parts is_split place z) (holds d) (holds e)
      holds (same_longer {x = x} {y = y} l d e) =
          of_two (Joined is_split place order others) x y l l
          (joined_longer is_split place order others (parts is_split place x) (parts is_split place y) l (holds d) (at_letter x l (holds e)))
      holds (sub_line {x = x} {y = y} c) = of_sides (Lower is_split place order others) (Sub x y) x y c (inl refl) (inr refl) (gives (Sub x y) c)
      holds (sub_self {x = x} d) = lower_itself is_split place order others (parts is_split place x) (holds d)
      holds (sub_chain {x = x} {y = y} {z = z} d e) = lower_chain is_split place order others (parts is_split place x) (parts is_split place y) (parts is_split place z) (holds d) (holds e)
      holds (sub_co {x = x} {y = y} l d e s) =
          of_two (Lower is_split place order others) x y l l
          (lower_co is_split place order others (parts is_split place x) (parts is_split place y) l (holds d) (at_letter y l (holds e)) s)
      holds (sub_contra {x = x} {y = y} l d e s) =
          of_two (Lower is_split place order others) y x l l
          (lower_contra is_split place order others (parts is_split place x) (parts is_split place y) l (holds d) (at_letter y l (holds e)) s)
      holds (sub_pointer x d e) =
          of_two (Lower is_split place order others) x x Store Load
          (pointer is_split place order others (parts is_split place x) (at_letter x Load (holds d)) (at_letter x Store (holds e)))
      holds (loose_pointer x d e) =
          of_two (Lower is_split place order others) x x Load Store
          (pointer_back is_split place order others (parts is_split place x) (at_letter x Load (holds d)) (at_letter x Store (holds e)))
      holds (low_line {k = k} {x = x} c) = subst (IsLow is_split place order others k) (sym (clean (Low k x) x c refl)) (gives (Low k x) c)
      holds (up_line {k = k} {x = x} c) = subst (λ i. IsUp is_split place order others i k) (sym (clean (Up x k) x c refl)) (gives (Up x k) c)
      holds (low_sub {j = j} {k = k} {x = x} {y = y} d e a) = low_lower is_split place order others j k (parts is_split place x) (parts is_split place y) (holds d) (holds e) a
      holds (up_sub {j = j} {k = k} {x = x} {y = y} d e a) = up_lower is_split place order others j k (parts is_split place x) (parts is_split place y) (holds d) (holds e) a

    -- of variables that stay it is said as before
    told : (l : Line) → ((x : Dtv) → HasSide l x → parts is_split place x ≡ moved x) → Holds l → Loosely order others l
    told (Var x) stays h = subst (Has is_split place order others) (stays x refl) h
    told (Same x y) stays h = subst (λ j. Joined is_split place order others (moved x) j) (stays y (inr refl)) (subst (λ i. Joined is_split place order others i (parts is_split place y)) (stays x (inl refl)) h)
    told (Sub x y) stays h = subst (λ j. Lower is_split place order others (moved x) j) (stays y (inr refl)) (subst (λ i. Lower is_split place order others i (parts is_split place y)) (stays x (inl refl)) h)
    told (Low k x) stays h = subst (IsLow is_split place order others k) (stays x refl) h
    told (Up x k) stays h = subst (λ i. IsUp is_split place order others i k) (stays x refl) h

  -- the procedures that are split are inside
  module _ (inside : Base → Bool) (inner : (q : ℕ) → is_split q ≡ true → inside (Proc q) ≡ true) where
    not_split : (q : ℕ) → inside (Proc q) ≡ false → is_split q ≡ false
    not_split q out = by (is_split q) (inner q)
      where
        by : (s : Bool) → (s ≡ true → inside (Proc q) ≡ true) → s ≡ false
        by true h = let t : inside (Proc q) ≡ true = h refl in cc
        by false h = refl

    parts_stay_at : (b : Base) (w : List Label) → inside b ≡ false → parts_at is_split place b w ≡ moved (record { base = b; word = w })
    parts_stay_at (Proc q) [] out = rw (not_split q out) refl
    parts_stay_at (Proc q) (l ∷ w) out = rw (not_split q out) refl
    parts_stay_at (Global n) w out = refl
    parts_stay_at (Exist n) w out = refl
    parts_stay_at (Outer n) w out = refl

    parts_stay : (x : Dtv) → inside x.base ≡ false → parts is_split place x ≡ moved x
    parts_stay x out = parts_stay_at x.base x.word out

    split_stays_at : (b : Base) (w : List Label) → inside b ≡ false → split_side is_split place b w ≡ record { base = b; word = w }
    split_stays_at (Proc q) [] out = refl
    split_stays_at (Proc q) (l ∷ w) out = rw (not_split q out) refl
    split_stays_at (Global n) w out = refl
    split_stays_at (Exist n) w out = refl
    split_stays_at (Outer n) w out = refl

    pub split_stays : (x : Dtv) → inside x.base ≡ false → split_variable is_split place x ≡ x
    split_stays x out = split_stays_at x.base x.word out

    begun-moved : (s fits : Bool) (q : ℕ) (l : Label) (w : List Label) → (s ≡ true → IsTrue fits) →
        cond s (begun is_split place fits q l w) (moved (record { base = Proc q; word = l ∷ w })) ≡
        moved (cond s (record { base = Exist (place (record { procedure = q; label = l })); word = w }) (record { base = Proc q; word = l ∷ w }))
    begun-moved true true q l w h = refl
    begun-moved true false q l w h = let e : false ≡ true = h refl in cc
    begun-moved false fits q l w h = refl

    -- an argument or a result of a split procedure has become a variable
    parts_move_at : (b : Base) (w : List Label) → ((q : ℕ) → b ≡ Proc q → is_split q ≡ true → IsTrue (is_interface w)) → parts_at is_split place b w ≡ moved (split_side is_split place b w)
    parts_move_at (Proc q) [] h = by (is_split q) (h q refl)
      where
        by : (s : Bool) → (s ≡ true → false ≡ true) → cond s (bare q) (moved (record { base = Proc q; word = [] })) ≡ moved (record { base = Proc q; word = [] })
        by true g = let e : false ≡ true = g refl in cc
        by false g = refl
    parts_move_at (Proc q) (l ∷ w) h = begun-moved (is_split q) (is_interface (l ∷ [])) q l w (λ e. subst IsTrue (is_interface-first l w) (h q refl e))
    parts_move_at (Global n) w h = refl
    parts_move_at (Exist n) w h = refl
    parts_move_at (Outer n) w h = refl

    module _ (lines : List Line) (interface : (l : Line) (x : Dtv) (q : ℕ) → Contains lines l → HasSide l x → x.base ≡ Proc q → is_split q ≡ true → IsTrue (is_interface x.word)) where
      abbrev split_lines : List Line
      split_lines = map (split_line is_split place) lines

      stays : (l : Line) → IsOutside inside l → split_line is_split place l ≡ l
      stays l out = map_line-fixed (split_variable is_split place) l (λ x h. split_stays x (out x h))

      module _ (order : Below) (added : List Line) (outer : All (IsOutside inside) added) where
        clean_of : (l : Line) (x : Dtv) → Contains lines l ⊎ Contains added l → HasSide l x → parts is_split place x ≡ moved (split_variable is_split place x)
        clean_of l x (inl c) h = parts_move_at x.base x.word (λ q. interface l x q c h)
        clean_of l x (inr c) h =
            let out : inside x.base ≡ false = All-contains (IsOutside inside) added l outer c x h in
            parts_stay x out ∙ (λ i. moved (sym (split_stays x out) i))

        gives_of : (l : Line) → Contains lines l ⊎ Contains added l → Loosely order (split_lines ++ added) (split_line is_split place l)
        gives_of l (inl c) = derives_left order split_lines added (given order split_lines (split_line is_split place l) (Contains-map (split_line is_split place) lines l c))
        gives_of l (inr c) =
            subst (Loosely order (split_lines ++ added)) (sym (stays l (All-contains (IsOutside inside) added l outer c)))
            (derives_right order split_lines added (given order added l c))

      pub there : (order : Below) → LooselyCovers order inside lines split_lines
      there order added j outer out d =
          told order (split_lines ++ added) (line_of j) (λ x h. parts_stay x (out x h))
          (holds order (split_lines ++ added) (lines ++ added) (λ l x c h. clean_of order added outer l x (Contains-append_cases lines added l c) h)
          (λ l c. gives_of order added outer l (Contains-append_cases lines added l c)) d)
