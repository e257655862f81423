-- What is left by the coarsest twinning has no twinning that makes two existentials one: with the coarsest it would make a coarser one.
use Rattle.std.proofs.Common.{◌≡◌, ◌≤◌, ℕ, ◌⊎◌, inl, inr, List, Contains, Bool, true, false, refl, ap, sym, subst, ◌∙◌, arith}
use Rattle.rt_base.proofs.Lists.{Contains-map, Contains-map_source}
use Rattle.rt_lines.specs.declared.label.Label.{Label}
use Rattle.rt_lines.specs.declared.label.Variance.{Variance}
use Rattle.rt_lines.specs.declared.label.Variance.TheVariants.{Co, Contra}
use Rattle.rt_lines.specs.declared.variable.Base.{Base}
use Rattle.rt_lines.specs.declared.variable.Base.TheVariants.{Proc, Global, Exist, Outer}
use Rattle.rt_lines.specs.declared.variable.Dtv.{Dtv}
use Rattle.rt_lines.specs.declared.line.Line.{Line}
use Rattle.rt_lines.specs.declared.line.Line.TheVariants.{Sub, Low, Up}
use Rattle.rt_lines.specs.Words.{variance_of_word}
use Rattle.rt_rules.specs.Alike.{map_line}
use Rattle.rt_rules.specs.Put.{exist, use_of}
use Rattle.rt_refine.specs.Refinements.{of_exist, moved, move, refined}
use Rattle.rt_refine.proofs.Sources.{sub_source, low_source, up_source}
use Rattle.rt_twins.specs.Twinnings.{IsLeftUse, IsRightUse, AreOne, AreMatched, IsEnd, LeadsOut, IsTwinning}
use Rattle.rt_twins.specs.Twinnings.LeadsOut.{ends, goes_on}
use Rattle.rt_twins.specs.Laws.{TwinnedRestLaw}
use Rattle.rt_twins.specs.Inside.Parts.{leads}
use Rattle.rt_twins.proofs.Forms.{leads_left, leads_right, not_both, not_both_back}
use Rattle.rt_twins.proofs.Matching.{same_one, match_above, match_beneath, match_both, match_low, match_up, match_bare}
use Rattle.rt_twins.proofs.OneTwinning.{leads_named, left_own}

-- one move after another
move-twice : (class other : ℕ → ℕ) (x : Dtv) → move other (move class x) ≡ move (λ n. other (class n)) x
move-twice class other x = λ i. record { base = at x.base i; word = x.word }
  where
    at : (b : Base) → moved other (moved class b) ≡ moved (λ n. other (class n)) b
    at (Proc n) = refl
    at (Global n) = refl
    at (Exist n) = refl
    at (Outer n) = refl

-- what becomes an existential is one
exist_source : (class : ℕ → ℕ) (b : Base) (n : ℕ) → moved class b ≡ Exist n → (k : ℕ) × (b ≡ Exist k) × (class k ≡ n)
exist_source class (Exist k) n e = let f : class k ≡ n = cc in (k, refl, f)
exist_source class (Proc k) n e = absurd (cc)
exist_source class (Global k) n e = absurd (cc)
exist_source class (Outer k) n e = absurd (cc)

-- what becomes an existential without a letter is one
bare_source : (class : ℕ → ℕ) (x : Dtv) (n : ℕ) → move class x ≡ exist n → (k : ℕ) × (x ≡ exist k) × (class k ≡ n)
bare_source class x n e =
    let s : (k : ℕ) × (x.base ≡ Exist k) × (class k ≡ n) = exist_source class x.base n (ap (λ z. z.base) e) in
    (s.0, λ i. record { base = s.1 i; word = (e i).word }, s.2)

-- a use without a letter that is left comes from one
abbrev UseSource : Variance → List Line → (ℕ → ℕ) → ℕ → Dtv → Type 0
UseSource sign lines class n z = (k : ℕ) × (y : Dtv) × Contains lines (use_of sign k y) × (class k ≡ n) × (move class y ≡ z)

use_source : (sign : Variance) (lines : List Line) (class : ℕ → ℕ) (n : ℕ) (z : Dtv) → Contains (refined class lines) (use_of sign n z) →
    UseSource sign lines class n z
use_source Co lines class n z c =
    let s : (l : Line) × Contains lines l × (map_line (move class) l ≡ Sub z (exist n)) =
    Contains-map_source (map_line (move class)) lines (Sub z (exist n)) c in
    let t : (x : Dtv) × (y : Dtv) × (s.0 ≡ Sub x y) × (move class x ≡ z) × (move class y ≡ exist n) =
    sub_source (move class) s.0 z (exist n) s.2 in
    let u : (k : ℕ) × (t.1 ≡ exist k) × (class k ≡ n) = bare_source class t.1 n t.4 in
    (u.0, t.0, subst (λ x. Contains lines (Sub t.0 x)) u.1 (subst (Contains lines) t.2 s.1), u.2, t.3)
use_source Contra lines class n z c =
    let s : (l : Line) × Contains lines l × (map_line (move class) l ≡ Sub (exist n) z) =
    Contains-map_source (map_line (move class)) lines (Sub (exist n) z) c in
    let t : (x : Dtv) × (y : Dtv) × (s.0 ≡ Sub x y) × (move class x ≡ exist n) × (move class y ≡ z) =
    sub_source (move class) s.0 (exist n) z s.2 in
    let u : (k : ℕ) × (t.0 ≡ exist k) × (class k ≡ n) = bare_source class t.0 n t.3 in
    (u.0, t.1, subst (λ x. Contains lines (Sub x t.1)) u.1 (subst (Contains lines) t.2 s.1), u.2, t.4)

use_moved : (sign : Variance) (lines : List Line) (class : ℕ → ℕ) (n : ℕ) (z : Dtv) → Contains lines (use_of sign n z) →
    Contains (refined class lines) (use_of sign (class n) (move class z))
use_moved Co lines class n z c = Contains-map (map_line (move class)) lines (Sub z (exist n)) c
use_moved Contra lines class n z c = Contains-map (map_line (move class)) lines (Sub (exist n) z) c

module _ (sign : Variance) (lines : List Line) (class : ℕ → ℕ) (is : IsTwinning sign lines class) where
  abbrev left : List Line
  left = refined class lines

  -- what stands beside a name in what is left stands beside each of its class, but for classes
  abbrev Beside : ℕ → Dtv → Type 0
  Beside v z = (y : Dtv) × Contains lines (use_of sign v y) × (move class y ≡ z)

  beside : (n v : ℕ) (z : Dtv) → Contains left (use_of sign n z) → class v ≡ n → Beside v z
  beside n v z c e =
      let s : UseSource sign lines class n z = use_source sign lines class n z c in
      let t : (y : Dtv) × Contains lines (use_of sign v y) × AreOne class (variance_of_word s.1.word ≡ Contra) y s.1 =
      match_bare sign lines class is s.0 v s.1 (s.3 ∙ sym e) s.2 in
      (t.0, t.1, t.2.but_for ∙ s.4)

  -- an end of what is left was one
  end_back : (y z : Dtv) → move class y ≡ z → IsEnd sign left z.base → IsEnd sign lines y.base
  end_back y z e end n x f c = end (class n) (move class x) (sym (ap (λ v. v.base) e) ∙ ap (moved class) f) (use_moved sign lines class n x c)

  -- each of the class of a name that leads out leads out
  lead_back : (n : ℕ) → LeadsOut sign left n → (v : ℕ) → class v ≡ n → LeadsOut sign lines v
  lead_back n (ends z c end) v e =
      let s : Beside v z = beside n v z c e in
      ends s.0 s.1 (end_back s.0 z s.2 end)
  lead_back n (goes_on z m c f rest) v e =
      let s : Beside v z = beside n v z c e in
      let t : (k : ℕ) × (s.0.base ≡ Exist k) × (class k ≡ m) = exist_source class s.0.base m (ap (λ x. x.base) s.2 ∙ f) in
      goes_on s.0 t.0 s.1 t.1 (lead_back m rest t.0 t.2)

  -- where a moved line is left, each variable that becomes its side has such a line
  left_above : (a b : Dtv) → IsLeftUse sign a.word → Contains left (Sub (move class a) b) →
      (z : Dtv) × Contains lines (Sub a z) × (move class z ≡ b)
  left_above a b u c = by (Contains-map_source (map_line (move class)) lines (Sub (move class a) b) c)
    where
      by : (k : Line) × Contains lines k × (map_line (move class) k ≡ Sub (move class a) b) →
          (z : Dtv) × Contains lines (Sub a z) × (move class z ≡ b)
      by (k, d, e) =
          let s : (x : Dtv) × (y : Dtv) × (k ≡ Sub x y) × (move class x ≡ move class a) × (move class y ≡ b) =
          sub_source (move class) k (move class a) b e in
          let words : s.0.word ≡ a.word = ap (λ x. x.word) s.3 in
          let t : (z : Dtv) × Contains lines (Sub a z) × AreOne class (IsRightUse sign s.1.word) z s.1 =
          match_above sign lines class is s.0 s.1 a (subst (IsLeftUse sign) (sym words) u) (subst (Contains lines) s.2 d) (sym s.3) in
          (t.0, t.1, t.2.but_for ∙ s.4)

  left_beneath : (a b : Dtv) → IsRightUse sign b.word → Contains left (Sub a (move class b)) →
      (z : Dtv) × Contains lines (Sub z b) × (move class z ≡ a)
  left_beneath a b u c = by (Contains-map_source (map_line (move class)) lines (Sub a (move class b)) c)
    where
      by : (k : Line) × Contains lines k × (map_line (move class) k ≡ Sub a (move class b)) →
          (z : Dtv) × Contains lines (Sub z b) × (move class z ≡ a)
      by (k, d, e) =
          let s : (x : Dtv) × (y : Dtv) × (k ≡ Sub x y) × (move class x ≡ a) × (move class y ≡ move class b) =
          sub_source (move class) k a (move class b) e in
          let words : s.1.word ≡ b.word = ap (λ x. x.word) s.4 in
          let t : (z : Dtv) × Contains lines (Sub z b) × AreOne class (IsLeftUse sign s.0.word) z s.0 =
          match_beneath sign lines class is s.0 s.1 b (subst (IsRightUse sign) (sym words) u) (subst (Contains lines) s.2 d) (sym s.4) in
          (t.0, t.1, t.2.but_for ∙ s.3)

  left_both : (a b : Dtv) → IsLeftUse sign a.word → IsRightUse sign b.word → Contains left (Sub (move class a) (move class b)) →
      Contains lines (Sub a b)
  left_both a b u v c = by (Contains-map_source (map_line (move class)) lines (Sub (move class a) (move class b)) c)
    where
      by : (k : Line) × Contains lines k × (map_line (move class) k ≡ Sub (move class a) (move class b)) → Contains lines (Sub a b)
      by (k, d, e) =
          let s : (x : Dtv) × (y : Dtv) × (k ≡ Sub x y) × (move class x ≡ move class a) × (move class y ≡ move class b) =
          sub_source (move class) k (move class a) (move class b) e in
          let first : s.0.word ≡ a.word = ap (λ x. x.word) s.3 in
          let second : s.1.word ≡ b.word = ap (λ x. x.word) s.4 in
          match_both sign lines class is s.0 s.1 a b (subst (IsLeftUse sign) (sym first) u) (subst (IsRightUse sign) (sym second) v)
          (subst (Contains lines) s.2 d) (sym s.3) (sym s.4)

  left_low : (n : ℕ) (a : Dtv) → IsRightUse sign a.word → Contains left (Low n (move class a)) → Contains lines (Low n a)
  left_low n a u c = by (Contains-map_source (map_line (move class)) lines (Low n (move class a)) c)
    where
      by : (k : Line) × Contains lines k × (map_line (move class) k ≡ Low n (move class a)) → Contains lines (Low n a)
      by (k, d, e) =
          let s : (x : Dtv) × (k ≡ Low n x) × (move class x ≡ move class a) = low_source (move class) k n (move class a) e in
          let words : s.0.word ≡ a.word = ap (λ x. x.word) s.2 in
          match_low sign lines class is n s.0 a (subst (IsRightUse sign) (sym words) u) (subst (Contains lines) s.1 d) (sym s.2)

  left_up : (a : Dtv) (n : ℕ) → IsLeftUse sign a.word → Contains left (Up (move class a) n) → Contains lines (Up a n)
  left_up a n u c = by (Contains-map_source (map_line (move class)) lines (Up (move class a) n) c)
    where
      by : (k : Line) × Contains lines k × (map_line (move class) k ≡ Up (move class a) n) → Contains lines (Up a n)
      by (k, d, e) =
          let s : (x : Dtv) × (k ≡ Up x n) × (move class x ≡ move class a) = up_source (move class) k (move class a) n e in
          let words : s.0.word ≡ a.word = ap (λ x. x.word) s.2 in
          match_up sign lines class is s.0 n a (subst (IsLeftUse sign) (sym words) u) (subst (Contains lines) s.1 d) (sym s.2)

  module _ (other : ℕ → ℕ) (r : IsTwinning sign left other) where
    abbrev through : ℕ → ℕ
    through n = other (class n)

    -- the name of a name's class is a name
    stays_name : (n : ℕ) → class n ≡ n → class (other n) ≡ other n
    stays_name n e = by (r.leads (other n) n (r.own n))
      where
        by : (other n ≡ n) ⊎ LeadsOut sign left (other n) → class (other n) ≡ other n
        by (inl f) = subst (λ k. class k ≡ k) (sym f) e
        by (inr l) = left_own lines class (other n) is.own (leads_named sign left (other n) l)

    through_least : (v : ℕ) → through v ≤ v
    through_least v = let a : other (class v) ≤ class v = r.least (class v) in let b : class v ≤ v = is.least v in omega arith

    through_own : (v : ℕ) → through (through v) ≡ through v
    through_own v = ap other (stays_name (class v) (is.own v)) ∙ r.own (class v)

    through_leads : (v w : ℕ) → through v ≡ through w → (v ≡ w) ⊎ LeadsOut sign lines v
    through_leads v w e = by (r.leads (class v) (class w) e)
      where
        by : (class v ≡ class w) ⊎ LeadsOut sign left (class v) → (v ≡ w) ⊎ LeadsOut sign lines v
        by (inl f) = is.leads v w f
        by (inr l) = inr (lead_back (class v) l v refl)

    moved_through : (x y z : Dtv) → move class z ≡ x → move other x ≡ move other (move class y) → move through z ≡ move through y
    moved_through x y z e f = sym (move-twice class other z) ∙ ap (move other) e ∙ f ∙ move-twice class other y

    module _ (v w : ℕ) (h : AreMatched sign left other (class v) (class w)) where
      abbrev Lefts : List Label → Dtv → Type 0
      Lefts u y = (z : Dtv) × Contains lines (Sub (of_exist w u) z) × AreOne through (IsRightUse sign y.word) z y

      lefts : (u : List Label) (y : Dtv) → IsLeftUse sign u → Contains lines (Sub (of_exist v u) y) → (p : Bool) → leads sign y ≡ p → Lefts u y
      lefts u y fits c p f = by p f
          (h.left u (move class y) fits (Contains-map (map_line (move class)) lines (Sub (of_exist v u) y) c))
        where
          by : (p : Bool) → leads sign y ≡ p →
              (z : Dtv) × Contains left (Sub (of_exist (class w) u) z) × AreOne other (IsRightUse sign y.word) z (move class y) → Lefts u y
          by true g (z, d, one) =
              let t : (x : Dtv) × Contains lines (Sub (of_exist w u) x) × (move class x ≡ z) = left_above (of_exist w u) z fits d in (
                t.0,
                t.1,
                record {
                  but_for = moved_through z y t.0 t.2 one.but_for;
                  exact = λ k. absurd (not_both sign y g k);
                },
              )
          by false g (z, d, one) = (
            y,
            left_both (of_exist w u) y fits (leads_right sign y g)
                (subst (λ x. Contains left (Sub (of_exist (class w) u) x)) (one.exact (leads_right sign y g)) d),
            same_one through (IsRightUse sign y.word) y,
          )

      abbrev Rights : Dtv → List Label → Type 0
      Rights x u = (z : Dtv) × Contains lines (Sub z (of_exist w u)) × AreOne through (IsLeftUse sign x.word) z x

      rights : (x : Dtv) (u : List Label) → IsRightUse sign u → Contains lines (Sub x (of_exist v u)) → (p : Bool) → leads sign x ≡ p → Rights x u
      rights x u fits c p f = by p f
          (h.right (move class x) u fits (Contains-map (map_line (move class)) lines (Sub x (of_exist v u)) c))
        where
          by : (p : Bool) → leads sign x ≡ p →
              (z : Dtv) × Contains left (Sub z (of_exist (class w) u)) × AreOne other (IsLeftUse sign x.word) z (move class x) → Rights x u
          by true g (z, d, one) = (
            x,
            left_both x (of_exist w u) (leads_left sign x g) fits
                (subst (λ y. Contains left (Sub y (of_exist (class w) u))) (one.exact (leads_left sign x g)) d),
            same_one through (IsLeftUse sign x.word) x,
          )
          by false g (z, d, one) =
              let t : (y : Dtv) × Contains lines (Sub y (of_exist w u)) × (move class y ≡ z) = left_beneath z (of_exist w u) fits d in (
                t.0,
                t.1,
                record {
                  but_for = moved_through z x t.0 t.2 one.but_for;
                  exact = λ k. absurd (not_both_back sign x g k);
                },
              )

      matched_through : AreMatched sign lines through v w
      matched_through = record {
        left = λ u y fits c. lefts u y fits c (leads sign y) refl;
        right = λ x u fits c. rights x u fits c (leads sign x) refl;
        low = λ k u fits c. left_low k (of_exist w u) fits
            (h.low k u fits (Contains-map (map_line (move class)) lines (Low k (of_exist v u)) c));
        up = λ u k fits c. left_up (of_exist w u) k fits
            (h.up u k fits (Contains-map (map_line (move class)) lines (Up (of_exist v u) k) c));
      }

    pub through_twins : IsTwinning sign lines through
    through_twins = record {
      least = through_least;
      own = through_own;
      leads = through_leads;
      matched = λ v w e. matched_through v w (r.matched (class v) (class w) e);
    }

    -- so no name is another's, where no twinning is coarser
    name_alone : (n : ℕ) → class n ≡ n → ((v w : ℕ) → through v ≡ through w → class v ≡ class w) → other n ≡ n
    name_alone n e widest =
        let f : class (other n) ≡ other n = stays_name n e in
        let g : through (other n) ≡ through n = ap other f ∙ r.own n ∙ sym (ap other e) in
        sym f ∙ widest (other n) n g ∙ e

pub twinned_rest_lem : TwinnedRestLaw
twinned_rest_lem sign lines class other c r n = by (r.leads n (other n) (sym (r.own n)))
  where
    by : (n ≡ other n) ⊎ LeadsOut sign (refined class lines) n → other n ≡ n
    by (inl e) = sym e
    by (inr l) = name_alone sign lines class c.twins other r n (left_own lines class n c.twins.own (leads_named sign (refined class lines) n l))
        (c.widest (λ k. other (class k)) (through_twins sign lines class c.twins other r))
