-- Lines with nothing to spare have nothing to spare when their existentials are numbered.
use Rattle.std.proofs.Common.{◌≡◌, ◌≢◌, ℕ, ◌⊎◌, inl, inr, List, [], ◌∷◌, ◌++◌, map, get_or, nat_eq, eq-eqb, All, Contains, refl, sym}
use Rattle.std.proofs.Common.{ap, subst, ◌∙◌, arith}
use Rattle.std.specs.List.{flat_map}
use Rattle.std.proofs.lemmas.Bool.{eqb-true}
use Rattle.std.proofs.lemmas.List.{map-append}
use Rattle.std.proofs.lemmas.List.Elements.{All-contains}
use Rattle.rt_base.proofs.Lists.{Contains-map, Contains-map_source, Contains-flat_map, All-from_contains, get_or-position_or_len, Contains-middle, Contains-wider}
use Rattle.rt_lines.specs.declared.label.Variance.{Variance}
use Rattle.rt_lines.specs.declared.label.Variance.TheVariants.{Co, Contra}
use Rattle.rt_lines.specs.declared.variable.Base.{Base}
use Rattle.rt_lines.specs.declared.variable.Base.TheVariants.{Proc, Global, Exist, Outer}
use Rattle.rt_lines.specs.declared.variable.Dtv.{Dtv}
use Rattle.rt_lines.specs.declared.line.Line.{Line}
use Rattle.rt_lines.specs.declared.line.Line.TheVariants.{Var, Same, Sub, Low, Up}
use Rattle.rt_lines.specs.Numbering.{existential_of, existentials_of, existentials, placed, numbered}
use Rattle.rt_lines.specs.Orders.{Below}
use Rattle.rt_lines.specs.Sides.{sides}
use Rattle.rt_lines.proofs.Distinct.{inserted-has}
use Rattle.rt_lines.proofs.LineSides.{map_line-twice}
use Rattle.rt_rules.specs.Rules.{HasSide, Derivable}
use Rattle.rt_rules.specs.Alike.{map_line}
use Rattle.rt_rules.specs.Laws.{NamesBase, renamed}
use Rattle.rt_rules.specs.Put.{exist, HasUse, use_of}
use Rattle.rt_rules.specs.Reduced.{Joins, IsJoined, IsAnchor, IsReduced}
use Rattle.rt_rules.specs.Reduced.IsJoined.{joined_self, joined_line}
use Rattle.rt_rules.proofs.Carry.{given, carry}
use Rattle.rt_rules.proofs.Covering.{map_line-fixed}
use Rattle.rt_rules.proofs.LineSides.{Contains-sides, HasSide-map_line_source}
use Rattle.rt_reduction.specs.Laws.{NumberedReducedLaw}
use Rattle.rt_reduction.proofs.Naming.{base_named}

-- a cut of a mapped list comes from a cut of the list
record IsCut {X Y : Type 0} (f : X → Y) (xs : List X) (before : List Y) (y : Y) (after : List Y) : Type 0 where
  front : List X
  element : X
  back : List X
  cut : xs ≡ front ++ element ∷ back
  before_is : map f front ≡ before
  element_is : f element ≡ y
  after_is : map f back ≡ after

map_cut : {X Y : Type 0} (f : X → Y) (xs : List X) (before : List Y) (y : Y) (after : List Y) → map f xs ≡ before ++ y ∷ after →
    IsCut f xs before y after
map_cut f [] [] y after e = absurd (cc)
map_cut f [] (b ∷ before) y after e = absurd (cc)
map_cut f (x ∷ xs) [] y after e =
    let g : f x ≡ y = cc in
    let h : map f xs ≡ after = cc in
    record { front = []; element = x; back = xs; cut = refl; before_is = refl; element_is = g; after_is = h }
map_cut f (x ∷ xs) (b ∷ before) y after e =
    let g : f x ≡ b = cc in
    let h : map f xs ≡ before ++ y ∷ after = cc in
    let c : IsCut f xs before y after = map_cut f xs before y after h in
    record {
      front = x ∷ c.front;
      element = c.element;
      back = c.back;
      cut = λ i. x ∷ c.cut i;
      before_is = λ i. g i ∷ c.before_is i;
      element_is = c.element_is;
      after_is = c.after_is;
    }

module _ (lines : List Line) where
  abbrev order_of : List ℕ
  order_of = existentials lines

  abbrev to : Base → Base
  to b = placed order_of b

  -- the existential at the place
  abbrev from : Base → Base
  from (Proc n) = Proc n
  from (Global n) = Global n
  from (Exist n) = Exist (get_or order_of n 0)
  from (Outer n) = Outer n

  has_place : (n : ℕ) → NamesBase lines (Exist n) → Contains order_of n
  has_place n (l, x, c, h, e) =
      inserted-has nat_eq eqb-true (flat_map existentials_of lines) [] n
      (Contains-flat_map existentials_of lines l n c
      (Contains-flat_map (λ y. existential_of y.base) (sides l) x n (Contains-sides l x h)
      (subst (λ b. Contains (existential_of b) n) (sym e) (0, omega arith, refl))))

  from_to : (b : Base) → NamesBase lines b → from (to b) ≡ b
  from_to (Proc n) h = refl
  from_to (Global n) h = refl
  from_to (Outer n) h = refl
  from_to (Exist n) h = ap Exist (get_or-position_or_len nat_eq eqb-true (λ k. eq-eqb k k refl) order_of n 0 (has_place n h))

  abbrev there : Line → Line
  there l = map_line (renamed to) l

  abbrev back_line : Line → Line
  back_line l = map_line (renamed from) l

  side_back : (l : Line) (x : Dtv) → Contains lines l → HasSide l x → renamed from (renamed to x) ≡ x
  side_back l x c h = let e : from (to x.base) ≡ x.base = from_to x.base (l, x, c, h, refl) in λ i. record { base = e i; word = x.word }

  there_back : (l : Line) → Contains lines l → back_line (there l) ≡ l
  there_back l c = map_line-twice (renamed from) (renamed to) l ∙
      map_line-fixed (λ x. renamed from (renamed to x)) l (λ x h. side_back l x c h)

  -- an existential's number is that of an existential
  to_exist : (b : Base) (n : ℕ) → to b ≡ Exist n → (m : ℕ) × (b ≡ Exist m)
  to_exist (Proc m) n e = absurd (cc)
  to_exist (Global m) n e = absurd (cc)
  to_exist (Exist m) n e = (m, refl)
  to_exist (Outer m) n e = absurd (cc)

  use_there : (sign : Variance) (m n : ℕ) (l : Line) → to (Exist m) ≡ Exist n → HasUse sign m l → HasUse sign n (there l)
  use_there sign m n (Var x) t h = absurd h
  use_there sign m n (Same x y) t h = absurd h
  use_there sign m n (Sub x y) t (inl (e, f)) = inl (ap to e ∙ t, f)
  use_there sign m n (Sub x y) t (inr (e, f)) = inr (ap to e ∙ t, f)
  use_there sign m n (Low k x) t (e, f) = (ap to e ∙ t, f)
  use_there sign m n (Up x k) t (e, f) = (ap to e ∙ t, f)

  record IsUse (sign : Variance) (n : ℕ) (z : Dtv) (l : Line) : Type 0 where
    number : ℕ
    variable : Dtv
    is : l ≡ use_of sign number variable
    number_is : to (Exist number) ≡ Exist n
    variable_is : renamed to variable ≡ z

  alone_exist : (y : Dtv) (n : ℕ) → renamed to y ≡ exist n → (m : ℕ) × (y ≡ exist m) × (to (Exist m) ≡ Exist n)
  alone_exist y n e =
      let b : to y.base ≡ Exist n = ap (λ x. x.base) e in
      let w : y.word ≡ [] = ap (λ x. x.word) e in
      let s : (m : ℕ) × (y.base ≡ Exist m) = to_exist y.base n b in
      (s.0, λ i. record { base = s.1 i; word = w i }, ap to (sym s.1) ∙ b)

  use_back : (sign : Variance) (n : ℕ) (z : Dtv) (l : Line) → there l ≡ use_of sign n z → IsUse sign n z l
  use_back Co n z (Sub x y) e =
      let f : renamed to x ≡ z = cc in
      let g : renamed to y ≡ exist n = cc in
      let s : (m : ℕ) × (y ≡ exist m) × (to (Exist m) ≡ Exist n) = alone_exist y n g in
      record { number = s.0; variable = x; is = ap (Sub x) s.1; number_is = s.2; variable_is = f }
  use_back Contra n z (Sub x y) e =
      let f : renamed to x ≡ exist n = cc in
      let g : renamed to y ≡ z = cc in
      let s : (m : ℕ) × (x ≡ exist m) × (to (Exist m) ≡ Exist n) = alone_exist x n f in
      record { number = s.0; variable = y; is = ap (λ u. Sub u y) s.1; number_is = s.2; variable_is = g }
  use_back Co n z (Var x) e = absurd (cc)
  use_back Co n z (Same x y) e = absurd (cc)
  use_back Co n z (Low k x) e = absurd (cc)
  use_back Co n z (Up x k) e = absurd (cc)
  use_back Contra n z (Var x) e = absurd (cc)
  use_back Contra n z (Same x y) e = absurd (cc)
  use_back Contra n z (Low k x) e = absurd (cc)
  use_back Contra n z (Up x k) e = absurd (cc)

  -- a base that the numbered lines name comes from one that the lines name
  named_source : (b : Base) → NamesBase (numbered lines) b → (a : Base) × NamesBase lines a × (to a ≡ b)
  named_source b (k, x, c, h, e) =
      let s : (l : Line) × Contains lines l × (there l ≡ k) = Contains-map_source there lines k c in
      let t : (y : Dtv) × HasSide s.0 y × (renamed to y ≡ x) =
      HasSide-map_line_source (renamed to) s.0 x (subst (λ m. HasSide m x) (sym s.2) h) in
      (t.0.base, (s.0, t.0, s.1, t.1, refl), ap (λ z. z.base) t.2 ∙ e)

  exist_source : (n : ℕ) → NamesBase (numbered lines) (Exist n) → (m : ℕ) × NamesBase lines (Exist m) × (to (Exist m) ≡ Exist n)
  exist_source n names =
      let s : (a : Base) × NamesBase lines a × (to a ≡ Exist n) = named_source (Exist n) names in
      let t : (m : ℕ) × (s.0 ≡ Exist m) = to_exist s.0 n s.2 in
      (t.0, subst (NamesBase lines) t.1 s.1, ap to (sym t.1) ∙ s.2)

  joins_there : (l : Line) (a b : Base) → Joins l a b → Joins (there l) (to a) (to b)
  joins_there (Var x) a b j = j
  joins_there (Same x y) a b (inl (e, f)) = inl (ap to e, ap to f)
  joins_there (Same x y) a b (inr (e, f)) = inr (ap to e, ap to f)
  joins_there (Sub x y) a b (inl (e, f)) = inl (ap to e, ap to f)
  joins_there (Sub x y) a b (inr (e, f)) = inr (ap to e, ap to f)
  joins_there (Low k x) a b j = j
  joins_there (Up x k) a b j = j

  joined_there : {a b : Base} → IsJoined lines a b → IsJoined (numbered lines) (to a) (to b)
  joined_there joined_self = joined_self
  joined_there (joined_line {a = a} {b = m} l c j rest) = joined_line (there l) (Contains-map there lines l c) (joins_there l a m j)
      (joined_there rest)

  module _ (order : Below) where
    -- what some numbered lines derive, the lines derive with the old numbers
    derives_back : (some : List Line) → ((l : Line) → Contains some l → Contains lines l) → {j : Line} →
        Derivable order (map there some) j → Derivable order some (back_line j)
    derives_back some among d = carry order (map there some) some (renamed from) (λ x l. refl)
        (λ k c. by k (Contains-map_source there some k c)) d
      where
        by : (k : Line) → (l : Line) × Contains some l × (there l ≡ k) → Derivable order some (back_line k)
        by k (l, c, e) = subst (λ m. Derivable order some (back_line m)) e
            (subst (Derivable order some) (sym (there_back l (among l c))) (given order some l c))

    module _ (own : ℕ) (re : IsReduced order (Proc own) lines) where
      used : (n : ℕ) → NamesBase (numbered lines) (Exist n) → (l : Line) × Contains (numbered lines) l × (HasUse Co n l ⊎ HasUse Contra n l)
      used n names = let s : (m : ℕ) × NamesBase lines (Exist m) × (to (Exist m) ≡ Exist n) = exist_source n names in
          by s.0 s.2 (re.used s.0 s.1)
        where
          by : (m : ℕ) → to (Exist m) ≡ Exist n → (l : Line) × Contains lines l × (HasUse Co m l ⊎ HasUse Contra m l) →
              (l : Line) × Contains (numbered lines) l × (HasUse Co n l ⊎ HasUse Contra n l)
          by m t (l, c, inl u) = (there l, Contains-map there lines l c, inl (use_there Co m n l t u))
          by m t (l, c, inr u) = (there l, Contains-map there lines l c, inr (use_there Contra m n l t u))

      -- the others of a numbered line are the numbered others of a line
      others : (before after : List Line) (k : Line) (c : IsCut there lines before k after) →
          map there (c.front ++ c.back) ≡ before ++ after
      others before after k c = map-append there c.front c.back ∙ (λ i. c.before_is i ++ c.after_is i)

      among : (before after : List Line) (k : Line) (c : IsCut there lines before k after) → (l : Line) → Contains (c.front ++ c.back) l →
          Contains lines l
      among before after k c l d = subst (λ ls. Contains ls l) (sym c.cut) (Contains-wider c.front c.element c.back l d)

      stands : (before after : List Line) (k : Line) (c : IsCut there lines before k after) → Contains lines c.element
      stands before after k c = subst (λ ls. Contains ls c.element) (sym c.cut) (Contains-middle c.front c.element c.back)

      needed : (before after : List Line) (k : Line) → numbered lines ≡ before ++ k ∷ after → Derivable order (before ++ after) k → ⊥
      needed before after k e d =
          let c : IsCut there lines before k after = map_cut there lines before k after e in
          let b : Derivable order (c.front ++ c.back) (back_line k) =
          derives_back (c.front ++ c.back) (among before after k c) (subst (λ ls. Derivable order ls k) (sym (others before after k c)) d)
          in
          re.needed c.front c.back c.element c.cut
          (subst (Derivable order (c.front ++ c.back)) (ap back_line (sym c.element_is) ∙ there_back c.element (stands before after k c)) b)

      no_single_use : (sign : Variance) (n : ℕ) (z : Dtv) (before after : List Line) → z.base ≢ Exist n →
          numbered lines ≡ before ++ use_of sign n z ∷ after →
          All (λ l. HasUse sign n l → ⊥) (before ++ after) → ⊥
      no_single_use sign n z before after apart e alone =
          let c : IsCut there lines before (use_of sign n z) after = map_cut there lines before (use_of sign n z) after e in
          let u : IsUse sign n z c.element = use_back sign n z c.element c.element_is in
          re.no_single_use sign u.number u.variable c.front c.back
          (λ f. apart (ap (λ x. x.base) (sym u.variable_is) ∙ ap to f ∙ u.number_is))
          (subst (λ l. lines ≡ c.front ++ l ∷ c.back) u.is c.cut)
          (All-from_contains (λ l. HasUse sign u.number l → ⊥) (c.front ++ c.back)
          (λ l d h. All-contains (λ m. HasUse sign n m → ⊥) (before ++ after) (there l) alone
          (subst (λ ls. Contains ls (there l)) (others before after (use_of sign n z) c) (Contains-map there (c.front ++ c.back) l d))
          (use_there sign u.number n l u.number_is h)))

      no_equal : (n : ℕ) (z : Dtv) (k : Line) → Contains (numbered lines) k → HasSide k z → z.base ≢ Exist n →
          Derivable order (numbered lines) (Sub (exist n) z) → Derivable order (numbered lines) (Sub z (exist n)) → ⊥
      no_equal n z k c h apart above below =
          let s : (l : Line) × Contains lines l × (there l ≡ k) = Contains-map_source there lines k c in
          let t : (y : Dtv) × HasSide s.0 y × (renamed to y ≡ z) =
          HasSide-map_line_source (renamed to) s.0 z (subst (λ m. HasSide m z) (sym s.2) h) in
          let names : NamesBase (numbered lines) (Exist n) =
          base_named order (numbered lines) (Sub (exist n) z) above (exist n) (inl refl) in
          let m : (m : ℕ) × NamesBase lines (Exist m) × (to (Exist m) ≡ Exist n) = exist_source n names in
          let y_is : renamed from z ≡ t.0 = ap (renamed from) (sym t.2) ∙ side_back s.0 t.0 s.1 t.1 in
          let m_is : renamed from (exist n) ≡ exist m.0 = let e : from (Exist n) ≡ Exist m.0 = ap from (sym m.2) ∙
          from_to (Exist m.0) m.1 in λ i. record { base = e i; word = [] } in
          re.no_equal m.0 t.0 s.0 s.1 t.1 (λ f. apart (ap (λ x. x.base) (sym t.2) ∙ ap to f ∙ m.2))
          (subst (λ v. Derivable order lines (Sub v t.0)) m_is
          (subst (λ v. Derivable order lines (Sub (renamed from (exist n)) v)) y_is (derives_back lines (λ l d. d) above)))
          (subst (λ v. Derivable order lines (Sub t.0 v)) m_is
          (subst (λ v. Derivable order lines (Sub v (renamed from (exist n)))) y_is (derives_back lines (λ l d. d) below)))

      joined : (n : ℕ) → NamesBase (numbered lines) (Exist n) → (b : Base) × IsAnchor (Proc own) b × IsJoined (numbered lines) (Exist n) b
      joined n names = let s : (m : ℕ) × NamesBase lines (Exist m) × (to (Exist m) ≡ Exist n) = exist_source n names in
          by s.0 s.2 (re.joined s.0 s.1)
        where
          anchor : (b : Base) → IsAnchor (Proc own) b → IsAnchor (Proc own) (to b)
          anchor (Global m) a = tt
          anchor (Proc m) a = a
          anchor (Exist m) a = absurd (cc)
          anchor (Outer m) a = a

          by : (m : ℕ) → to (Exist m) ≡ Exist n → (b : Base) × IsAnchor (Proc own) b × IsJoined lines (Exist m) b →
              (b : Base) × IsAnchor (Proc own) b × IsJoined (numbered lines) (Exist n) b
          by m t (b, a, j) = (to b, anchor b a, subst (λ c. IsJoined (numbered lines) c (to b)) t (joined_there j))

      -- sides that become one were one
      one_side : (l : Line) (x y z : Dtv) → Contains lines l → HasSide l x → HasSide l y → renamed to x ≡ z → renamed to y ≡ z → x ≡ y
      one_side l x y z c h k e f = sym (side_back l x c h) ∙ ap (renamed from) (e ∙ sym f) ∙ side_back l y c k

      no_sub : (z : Dtv) (l : Line) → Contains lines l → there l ≡ Sub z z → ⊥
      no_sub z (Sub x y) c e =
          let f : renamed to x ≡ z = cc in
          let g : renamed to y ≡ z = cc in
          re.no_self_sub x (subst (λ v. Contains lines (Sub x v)) (sym (one_side (Sub x y) x y z c (inl refl) (inr refl) f g)) c)
      no_sub z (Var x) c e = cc
      no_sub z (Same x y) c e = cc
      no_sub z (Low k x) c e = cc
      no_sub z (Up x k) c e = cc

      no_same : (z : Dtv) (l : Line) → Contains lines l → there l ≡ Same z z → ⊥
      no_same z (Same x y) c e =
          let f : renamed to x ≡ z = cc in
          let g : renamed to y ≡ z = cc in
          re.no_self_same x (subst (λ v. Contains lines (Same x v)) (sym (one_side (Same x y) x y z c (inl refl) (inr refl) f g)) c)
      no_same z (Var x) c e = cc
      no_same z (Sub x y) c e = cc
      no_same z (Low k x) c e = cc
      no_same z (Up x k) c e = cc

      numbered_reduced : IsReduced order (Proc own) (numbered lines)
      numbered_reduced = record {
        used = used;
        needed = needed;
        no_single_use = no_single_use;
        no_equal = no_equal;
        joined = joined;
        no_self_sub = λ z c. let s : (l : Line) × Contains lines l × (there l ≡ Sub z z) = Contains-map_source there lines (Sub z z) c in
            no_sub z s.0 s.1 s.2;
        no_self_same = λ z c. let s : (l : Line) × Contains lines l × (there l ≡ Same z z) =
            Contains-map_source there lines (Same z z) c in no_same z s.0 s.1 s.2;
      }

pub numbered_reduced_lem : NumberedReducedLaw
numbered_reduced_lem order own lines re = numbered_reduced lines order own re
