-- Numbers of variables, equal exactly for those that lie below each other.
use Rattle.std.proofs.Common.{◌≡◌, ℕ, nat_eq, eq-eqb, ◌+◌, ◌<◌, ◌⊎◌, inl, inr, List, [], ◌∷◌, ◌++◌, Contains, length, get_or, take}
use Rattle.std.proofs.Common.{refl, sym, ap, subst, ◌∙◌, append-nil, arith}
use Rattle.std.specs.Prelude.{◌↔◌, IsTrue}
use Rattle.std.specs.List.{flat_map}
use Rattle.std.proofs.lemmas.Bool.{cases_eq, eqb-true}
use Rattle.std.proofs.lemmas.List.{get_or_append_left, get_or_default, get_or_push, length_push}
use Rattle.std.proofs.lemmas.Option.{get_or_from_slice_get, slice_get_within}
use Rattle.rt_base.proofs.Lists.{Contains-flat_map_source, take-next}
use Rattle.rt_lines.specs.declared.variable.Base.{Base}
use Rattle.rt_lines.specs.declared.variable.Base.TheVariants.{Exist}
use Rattle.rt_lines.specs.declared.variable.Dtv.{Dtv}
use Rattle.rt_lines.specs.declared.line.Line.{Line}
use Rattle.rt_lines.specs.declared.line.Line.TheVariants.{Sub}
use Rattle.rt_lines.specs.Orders.{Below}
use Rattle.rt_lines.specs.Sides.{sides}
use Rattle.rt_rules.specs.Rules.{Derivable}
use Rattle.rt_rules.specs.Laws.{NamesBase}
use Rattle.rt_rules.specs.Put.{exist}
use Rattle.rt_rules.proofs.LineSides.{HasSide-in_sides}
use Rattle.rt_named.specs.Naming.{named}
use Rattle.rt_named.specs.Origins.{no_variable}
use Rattle.rt_named.proofs.Contents.{contents_law}
use Rattle.rt_sat.specs.Numbered.{at_number}
use Rattle.rt_equals.specs.Comparing.{AreEquals}
use Rattle.rt_reduction.specs.Merges.{HasEqual, IsMerge}
use Rattle.rt_reduction.proofs.Naming.{base_named}
use Rattle.rt_reduce.specs.declared.bases.Bases.{Bases}
use Rattle.rt_reduce.specs.declared.bases.Bases.TheVariants.{Several}
use Rattle.rt_reduce.specs.Inside.Alike.{AreAlikeAt, AreNumbered, HasNumber, IsAlike, no_side}
use Rattle.rt_reduce.specs.Inside.Bases.{AreNoted, IsAloneAt, Notes}
use Rattle.rt_reduce.specs.Inside.Merging.{IsNamedPair}
use Rattle.rt_reduce.proofs.Firsts.{side_of}

-- equal numbers are those of variables that lie below each other
pub same_number : (order : Below) (lines : List Line) (known : List Dtv) (equals : List ℕ) (x y : Dtv) (k m : ℕ) →
    AreEquals lines known equals → (n : ℕ) → x ≡ exist n → HasNumber known equals x k → HasNumber known equals y m →
    (k ≡ m) ↔ (Derivable order lines (Sub x y) × Derivable order lines (Sub y x))
same_number order lines known equals x y k m are n is (i, e, f) (j, g, h) =
    let u : at_number known i ≡ x = get_or_from_slice_get known i x no_variable e in
    let v : at_number known j ≡ y = get_or_from_slice_get known j y no_variable g in
    let t = are.equal order i j (slice_get_within known i x e) (slice_get_within known j y g) (n, u ∙ is) in (
      λ q. (let p = t.0 (f ∙ q ∙ sym h) in (
        subst (λ z. Derivable order lines (Sub z y)) u (subst (λ z. Derivable order lines (Sub (at_number known i) z)) v p.0),
        subst (λ z. Derivable order lines (Sub y z)) u (subst (λ z. Derivable order lines (Sub z (at_number known i))) v p.1),
      )),
      λ d. sym f
          ∙ t.1 (
            subst (λ z. Derivable order lines (Sub z (at_number known j))) (sym u)
                (subst (λ z. Derivable order lines (Sub x z)) (sym v) d.0),
            subst (λ z. Derivable order lines (Sub (at_number known j) z)) (sym u)
                (subst (λ z. Derivable order lines (Sub z x)) (sym v) d.1),
          )
          ∙ h,
    )

pub alike_at : (order : Below) (lines : List Line) (known : List Dtv) (equals : List ℕ) (all : List Dtv) (numbers : List ℕ) (n own : ℕ) →
    AreEquals lines known equals → AreNumbered known equals all numbers → HasNumber known equals (exist n) own →
    AreAlikeAt order lines n all numbers own
alike_at order lines known equals all numbers n own are numbered has i h =
    let r = same_number order lines known equals (exist n) (get_or all i no_side) own (get_or numbers i 0) are n refl has (numbered.number i h) in
    (λ e. r.0 (sym e), λ d. sym (r.1 d))

-- the bases of named variables are named
pub own_in : (lines : List Line) (known : List Dtv) (n : ℕ) → known ≡ named lines [] → NamesBase lines (Exist n) → Contains known (exist n)
own_in lines known n e (l, x, c, h, b) =
    subst (λ xs. Contains xs (exist n)) (sym e)
    ((contents_law lines [] (exist n)).1 (x, inl (l, c, h), (x.word, ap (λ (a : Base). record { base = a; word = x.word }) (sym b))))

pub side_in : (lines : List Line) (known all : List Dtv) → known ≡ named lines [] → all ≡ flat_map sides lines → (x : Dtv) →
    Contains all x → Contains known x
side_in lines known all e f x c =
    let s : (l : Line) × Contains lines l × Contains (sides l) x =
    Contains-flat_map_source sides lines x (subst (λ xs. Contains xs x) f c) in
    subst (λ xs. Contains xs x) (sym e)
    ((contents_law lines [] x).1
    (x, inl (s.0, s.1, HasSide-in_sides s.0 x s.2), ([], (λ i. record { base = x.base; word = append-nil x.word i }))))

-- an existential that isn't named has no equal
pub none_named : (order : Below) (lines : List Line) (known : List Dtv) (n : ℕ) → known ≡ named lines [] → (Contains known (exist n) → ⊥) →
    HasEqual order lines n → ⊥
none_named order lines known n e none (z, equal) =
    none (own_in lines known n e (base_named order lines (Sub (exist n) z) equal.above (exist n) (inl refl)))

-- nor has one whose number no variable of another base has
pub alone_none : (lines : List Line) (known : List Dtv) (equals : List ℕ) (all : List Dtv) (numbers : List ℕ) (bases : List Bases) (n : ℕ) →
    AreEquals lines known equals → AreNumbered known equals all numbers → all ≡ flat_map sides lines → AreNoted all numbers bases →
    IsAloneAt known equals bases n → (order : Below) → HasEqual order lines n → ⊥
alone_none lines known equals all numbers bases n are numbered e noted (k, has, only) order (z, equal) =
    let c : Contains all z = subst (λ xs. Contains xs z) (sym e) (side_of order lines n z equal) in
    let f : get_or all c.0 no_side ≡ z = get_or_default all c.0 no_side z c.1 ∙ c.2 in
    let g : get_or numbers c.0 0 ≡ k =
    (alike_at order lines known equals all numbers n k are numbered has c.0 c.1).1
    (subst (IsAlike order lines n) (sym f) (equal.above, equal.below)) in
    equal.other_base (only z.base (subst (λ m. Notes (get_or bases m Several) z.base) g
    (subst (λ x. Notes (get_or bases (get_or numbers c.0 0) Several) x.base) f (noted c.0 c.1))))

-- what a merge says of names
pub pair_of : (order : Below) (lines : List Line) (n : ℕ) (z : Dtv) → IsMerge order lines n z → IsNamedPair lines n z
pair_of order lines n z merge = record {
  other_base = merge.equal.other_base;
  own = base_named order lines (Sub (exist n) z) merge.equal.above (exist n) (inl refl);
  side = (merge.equal.line, merge.equal.stands, merge.equal.is_side);
}

-- numbers of sides, one by one
pub numbered_none : (known : List Dtv) (equals : List ℕ) (numbers : List ℕ) → numbers ≡ [] → AreNumbered known equals [] numbers
numbered_none known equals numbers e = record { each = ap length e; number = λ i h. absurd (omega (arith, h)) }

numbered_push : (known : List Dtv) (equals : List ℕ) (seen : List Dtv) (numbers : List ℕ) (x : Dtv) (number : ℕ) →
    HasNumber known equals x number → AreNumbered known equals seen numbers →
    AreNumbered known equals (seen ++ x ∷ []) (numbers ++ number ∷ [])
numbered_push known equals seen numbers x number has are = record {
  each = length_push numbers number ∙ ap (λ n. n + 1) are.each ∙ sym (length_push seen x);
  number = λ i h. at i h (cases_eq i (length seen));
}
  where
    at : (i : ℕ) → i < length (seen ++ x ∷ []) → (i ≡ length seen) ⊎ (i ≡ length seen → ⊥) →
        HasNumber known equals (get_or (seen ++ x ∷ []) i no_side) (get_or (numbers ++ number ∷ []) i 0)
    at i h (inl e) =
        subst (λ z. HasNumber known equals z (get_or (numbers ++ number ∷ []) i 0)) (sym (get_or_push seen x no_side i (sym e)))
        (subst (HasNumber known equals x) (sym (get_or_push numbers number 0 i (are.each ∙ sym e))) has)
    at i h (inr n) =
        let less : i < length seen = omega (arith, length_push seen x, h, n) in
        subst (λ z. HasNumber known equals z (get_or (numbers ++ number ∷ []) i 0)) (sym (get_or_append_left seen (x ∷ []) no_side i less))
        (subst (HasNumber known equals (get_or seen i no_side))
        (sym (get_or_append_left numbers (number ∷ []) 0 i (subst (λ m. i < m) (sym are.each) less))) (are.number i less))

pub numbered_next : (known : List Dtv) (equals : List ℕ) (all : List Dtv) (i : ℕ) (x : Dtv) (numbers new : List ℕ) (number : ℕ) →
    i < length all → x ≡ get_or all i x → new ≡ numbers ++ number ∷ [] → HasNumber known equals x number →
    AreNumbered known equals (take i all) numbers → AreNumbered known equals (take (i + 1) all) new
numbered_next known equals all i x numbers new number h e f has are =
    subst (AreNumbered known equals (take (i + 1) all)) (sym f)
    (subst (λ xs. AreNumbered known equals xs (numbers ++ number ∷ [])) (sym (take-next all i x h e))
    (numbered_push known equals (take i all) numbers x number has are))

-- whether a side has the existential's number
pub equal_iff : (order : Below) (lines : List Line) (n : ℕ) (all : List Dtv) (numbers : List ℕ) (own i : ℕ) (x : Dtv) → i < length all →
    x ≡ get_or all i x → AreAlikeAt order lines n all numbers own → IsTrue (nat_eq (get_or numbers i 0) own) ↔ IsAlike order lines n x
equal_iff order lines n all numbers own i x h e alike = (
  λ t. subst (IsAlike order lines n) (sym here) ((alike i h).0 (eqb-true (get_or numbers i 0) own t)),
  λ l. eq-eqb (get_or numbers i 0) own ((alike i h).1 (subst (IsAlike order lines n) here l)),
)
  where
    here : x ≡ get_or all i no_side
    here = e ∙ get_or_default all i x no_side h
