-- What becomes of lines, said one by one.
use Rattle.std.proofs.Common.{◌≡◌, ◌≢◌, ◌⊎◌, ◌↔◌, ℕ, zero, suc, ◌+◌, ◌<◌, ◌≤◌, inl, inr, List, [], ◌∷◌, ◌++◌, Contains, Bool, true, false}
use Rattle.std.proofs.Common.{Some, length, get_or, refl, sym, ap, subst, ◌∙◌, arith}
use Rattle.std.specs.Prelude.{slice_get}
use Rattle.std.proofs.lemmas.List.{get_or_past, length-append}
use Rattle.std.proofs.lemmas.List.Elements.{Contains-append_cases, Contains-push_cases}
use Rattle.std.proofs.lemmas.Option.{get_or_from_slice_get, slice_get-get_or}
use Rattle.rt_lines.specs.declared.line.Line.{Line}
use Rattle.rt_lines.specs.Orders.{Below}
use Rattle.rt_rules.specs.Rules.{Derivable}
use Rattle.rt_base.proofs.Lists.{Contains-none, Contains-here, Contains-cons_cases}
use Rattle.rt_rules.proofs.Carry.{given}
use Rattle.rt_rules.proofs.Covering.{derives_more}
use Rattle.rt_sat.specs.declared.increments.GrowingTable.{GrowingTable as Growing}
use Rattle.rt_sat.specs.declared.increments.Snapshot.{Snapshot}
use Rattle.rt_sat.specs.Increments.{IsAdded, Tells, Told}
use Rattle.rt_sure.specs.declared.fate.Fate.{Fate}
use Rattle.rt_sure.specs.declared.fate.Fate.TheVariants.{Stays, Goes, Open}
use Rattle.rt_sure.specs.Fates.{fate_at, flag_at, AreGoing, AreSure, DerivesAll, DoStay, HasBefore}
use Rattle.rt_sure.specs.Grounds.{HasFlagged, IsGround}
use Rattle.rt_sure.specs.Inside.Grounds.{AreGroundTo, AreToldTo, IsTold}
use Rattle.rt_sure.specs.Inside.Shapes.{AreJoined, AreShaped, IsShapeIn, IsSubtype, IsSureIn}
use Rattle.rt_sure.specs.Shapes.{shape_of}
use Rattle.rt_sure.proofs.Shaping.{shape_without}

-- a fate that is put behind others
abbrev pub IsPushed : List Fate → Fate → ℕ → Type 0
IsPushed fates f j =
    ((j ≢ length fates) × (fate_at (fates ++ f ∷ []) j ≡ fate_at fates j)) ⊎ ((j ≡ length fates) × (fate_at (fates ++ f ∷ []) j ≡ f))

pub pushed : (fates : List Fate) (f : Fate) (j : ℕ) → IsPushed fates f j
pushed [] f zero = inr (refl, refl)
pushed [] f (suc j) = inl (λ e. omega arith, refl)
pushed (g ∷ fates) f zero = inl (λ e. omega arith, refl)
pushed (g ∷ fates) f (suc j) = by (pushed fates f j)
  where
    by : IsPushed fates f j → IsPushed (g ∷ fates) f (suc j)
    by (inl p) = inl (λ e. p.0 (omega arith), p.1)
    by (inr p) = inr (ap suc p.0, p.1)

past : (fates : List Fate) (j : ℕ) → length fates ≤ j → fate_at fates j ≡ Open
past fates j h = get_or_past fates j Open h

cases : (a b : ℕ) → (a < b) ⊎ (b ≤ a)
cases a b = grind arith

-- the fates so far, where it is known which of them stay
abbrev pub DoStayTo : List Bool → List Fate → ℕ → Type 0
DoStayTo stays fates count = (j : ℕ) → j < count → fate_at fates j ≡ Stays ↔ flag_at stays j ≡ true

module _ (lines : List Line) (stays : List Bool) where
  -- such lines derive the line, and a list that has those that are flagged and those before it derives its shape
  pub record IsGone (i : ℕ) (l : Line) : Type 0 where
    pub subtype : IsSubtype l
    pub shape : (order : Below) (left : List Line) → ((m : Line) → IsSureIn lines stays m → Contains left m) → HasBefore lines i left →
        Derivable order left (shape_of l)
    pub derived : (order : Below) → (told : List Line) × AreToldTo lines stays i told × Derivable order told l

  -- those that go so far
  abbrev pub DoGo : List Fate → Type 0
  DoGo fates = (i : ℕ) (l : Line) → slice_get lines i ≡ Some l → fate_at fates i ≡ Goes → IsGone i l

  pub none_go : (fates : List Fate) → fates ≡ [] → DoGo fates
  none_go fates e i l at f = let g : Open ≡ Goes = sym (ap (λ fs. fate_at fs i) e) ∙ f in absurd (cc)

  -- what the table tells of, before the first step
  pub told_first : (shaped short : List Line) (growing : Growing) → AreShaped lines stays shaped →
      ((order : Below) → DerivesAll order shaped short) → Tells short growing → IsTold lines stays 0 growing
  told_first shaped short growing are derived tells = (short, λ order m c. (shaped, λ k d. by k (are k d), derived order m c), tells)
    where
      by : (m : Line) → IsSureIn lines stays m ⊎ IsShapeIn lines m →
          IsSureIn lines stays m ⊎ IsShapeIn lines m ⊎ ((j : ℕ) × (j < 0) × (slice_get lines j ≡ Some m))
      by m (inl s) = inl s
      by m (inr s) = inr (inl s)

  module _ (i : ℕ) (line : Line) (here : slice_get lines i ≡ Some line) where
    ground_more : (ground : List Line) → AreGroundTo lines stays i ground → AreGroundTo lines stays (i + 1) ground
    ground_more ground are m c = by (are m c)
      where
        by : IsSureIn lines stays m ⊎ IsShapeIn lines m ⊎ ((j : ℕ) × (j < i) × (slice_get lines j ≡ Some m)) →
            IsSureIn lines stays m ⊎ IsShapeIn lines m ⊎ ((j : ℕ) × (j < i + 1) × (slice_get lines j ≡ Some m))
        by (inl s) = inl s
        by (inr (inl s)) = inr (inl s)
        by (inr (inr (j, h, at))) = inr (inr (j, omega (arith, h), at))

    ground_here : AreGroundTo lines stays (i + 1) (line ∷ [])
    ground_here m c = elim (Contains-cons_cases line [] m c) [
      | inl e ↦ inr (inr (i, omega arith, here ∙ ap Some e))
      | inr n ↦ absurd (Contains-none m n)
    ]

    told_more : (told : List Line) → AreToldTo lines stays i told → AreToldTo lines stays (i + 1) told
    told_more told are order m c =
        let r : (ground : List Line) × AreGroundTo lines stays i ground × Derivable order ground m = are order m c in
        (r.0, ground_more r.0 r.1, r.2)

    told_added : (told : List Line) → AreToldTo lines stays i told → AreToldTo lines stays (i + 1) (told ++ line ∷ [])
    told_added told are order m c = by (Contains-push_cases told line m c)
      where
        by : Contains told m ⊎ (line ≡ m) → (ground : List Line) × AreGroundTo lines stays (i + 1) ground × Derivable order ground m
        by (inl d) = told_more told are order m d
        by (inr e) = (line ∷ [], ground_here, subst (Derivable order (line ∷ [])) e (given order (line ∷ []) line (Contains-here line [])))

    -- a step
    pub told_next : (growing new : Growing) → IsTold lines stays i growing →
        ((told : List Line) → Tells told growing → IsAdded told line new) → IsTold lines stays (i + 1) new
    told_next growing new (told, are, tells) added = by (added told tells)
      where
        by : IsAdded told line new → IsTold lines stays (i + 1) new
        by (inl t) = (told, told_more told are, t)
        by (inr t) = (told ++ line ∷ [], told_added told are, t)

    pub gone_here : (growing : Growing) (joined : List Bool) → IsTold lines stays i growing → AreJoined lines stays joined →
        get_or joined i false ≡ true → IsSubtype line →
        ((order : Below) (told : List Line) → Tells told growing → Derivable order told line) → IsGone i line
    gone_here growing joined (told, are, tells) joined_are flag subtype derived = record {
      subtype = subtype;
      shape = λ order left has before. joined_are order i line here subtype flag left has before;
      derived = λ order. (told, are, derived order told tells);
    }

    pub more_go : (fates new : List Fate) (f : Fate) → new ≡ fates ++ f ∷ [] → length fates ≡ i → (f ≡ Goes → IsGone i line) →
        DoGo fates → DoGo new
    more_go fates new f is long goes are j l at e = by (pushed fates f j) (ap (λ xs. fate_at xs j) (sym is) ∙ e)
      where
        by : IsPushed fates f j → fate_at (fates ++ f ∷ []) j ≡ Goes → IsGone j l
        by (inl p) g = are j l at (sym p.1 ∙ g)
        by (inr p) g =
            let same : j ≡ i = p.0 ∙ long in
            let again : slice_get lines i ≡ Some l = subst (λ n. slice_get lines n ≡ Some l) same at in
            let one : line ≡ l = cc in
            subst (λ n. IsGone n l) (sym same) (subst (IsGone i) one (goes (sym p.1 ∙ g)))

pub more_same : (stays : List Bool) (fates new : List Fate) (i : ℕ) (f : Fate) (d : Bool) → new ≡ fates ++ f ∷ [] →
    length fates ≡ i → i < length stays → f ≡ Stays ↔ get_or stays i d ≡ true → DoStayTo stays fates i → DoStayTo stays new (i + 1)
more_same stays fates new i f d is long within now are j h =
    subst (λ xs. fate_at xs j ≡ Stays ↔ flag_at stays j ≡ true) (sym is) (by (pushed fates f j))
  where
    by : IsPushed fates f j → fate_at (fates ++ f ∷ []) j ≡ Stays ↔ flag_at stays j ≡ true
    by (inl p) =
        let before : j ≢ i = λ e. p.0 (e ∙ sym long) in
        let r : fate_at fates j ≡ Stays ↔ flag_at stays j ≡ true = are j (omega (arith, h)) in
        ((λ e. r.0 (sym p.1 ∙ e)), (λ e. p.1 ∙ r.1 e))
    by (inr p) =
        let same : j ≡ i = p.0 ∙ long in
        let there : flag_at stays j ≡ get_or stays i d =
        ap (flag_at stays) same ∙ get_or_from_slice_get stays i (get_or stays i d) false (slice_get-get_or stays i d within) in
        ((λ e. there ∙ now.0 (sym p.1 ∙ e)), (λ e. p.1 ∙ now.1 (sym there ∙ e)))

pub whole_same : (stays : List Bool) (fates : List Fate) → length fates ≡ length stays → DoStayTo stays fates (length stays) →
    DoStay stays fates
whole_same stays fates long are j = by (cases j (length stays))
  where
    by : (j < length stays) ⊎ (length stays ≤ j) → fate_at fates j ≡ Stays ↔ flag_at stays j ≡ true
    by (inl h) = are j h
    by (inr h) =
        let e : fate_at fates j ≡ Open = past fates j (omega (arith, h, long)) in
        let f : flag_at stays j ≡ false = get_or_past stays j false h in
        ((λ g. absurd (cc)), (λ g. absurd (cc)))

-- what is told is derived by a list that has those that are flagged and those before a line, if it derives the shape of this and,
-- with it, derives all
derives_told : (order : Below) (lines : List Line) (stays : List Bool) (i count : ℕ) (l : Line) (told left : List Line) → count ≤ i →
    IsSubtype l → Derivable order left (shape_of l) → ((m : Line) → IsSureIn lines stays m → Contains left m) →
    HasBefore lines i left → DerivesAll order (l ∷ left) lines → AreToldTo lines stays count told → DerivesAll order left told
derives_told order lines stays i count l told left small subtype shape sure before all are m c =
    let (ground, those, d) = are order m c in
    derives_more order ground left (λ k h. by k (those k h)) d
  where
    by : (m : Line) → IsSureIn lines stays m ⊎ IsShapeIn lines m ⊎ ((j : ℕ) × (j < count) × (slice_get lines j ≡ Some m)) →
        Derivable order left m
    by m (inl s) = given order left m (sure m s)
    by m (inr (inl (k, h, s, f))) = subst (Derivable order left) f (shape_without order left l k subtype shape (all k h) s)
    by m (inr (inr (j, h, f))) = given order left m (before j m (omega (arith, h, small)) f)

-- a list that has each line that stays, and those before one that goes, derives it if with it it derives all
pub all_go : (order : Below) (lines : List Line) (stays : List Bool) (fates : List Fate) → DoStay stays fates →
    DoGo lines stays fates → AreGoing order lines fates
all_go order lines stays fates same go i l at e left has before all =
    derives_more order told left
    (derives_told order lines stays i i l told left (omega arith) gone.subtype (gone.shape order left sure before) sure before all
    (gone.derived order).1) (gone.derived order).2
  where
    sure : (m : Line) → IsSureIn lines stays m → Contains left m
    sure m (j, f, s) = has j m f ((same j).1 s)

    gone : IsGone lines stays i l
    gone = go i l at e

    told : List Line
    told = (gone.derived order).0

-- what is told at first is a ground, whatever is added
pub is_ground : (lines : List Line) (stays joined : List Bool) (base : Snapshot) (growing new : Growing) → IsTold lines stays 0 growing →
    AreJoined lines stays joined → ((told : List Line) → Tells told growing → Told told base growing) →
    ((told : List Line) → Told told base growing → Told told base new) → IsGround lines stays joined base new
is_ground lines stays joined base growing new (told, are, tells) joined_are taken then = record {
  told = told;
  tells = then told (taken told tells);
  derived = λ order i l at subtype flag left has before all.
      let sure : (m : Line) → IsSureIn lines stays m → Contains left m = λ m s. has s.0 m s.1 s.2 in
      derives_told order lines stays i 0 l told left (omega arith) subtype (joined_are order i l at subtype flag left sure before) sure
      before all are;
}

-- what is derived with lines that stand
pub ground_derives : (order : Below) (lines : List Line) (stays joined stands : List Bool) (base : Snapshot) (growing : Growing)
    (is : IsGround lines stays joined base growing) (more : List Line) (i : ℕ) (l : Line) (left : List Line) →
    AreSure lines stands more → slice_get lines i ≡ Some l → IsSubtype l → flag_at joined i ≡ true →
    Derivable order (is.told ++ more) l → HasFlagged lines stays left → HasBefore lines i left → HasFlagged lines stands left →
    DerivesAll order (l ∷ left) lines → Derivable order left l
ground_derives order lines stays joined stands base growing is more i l left are at subtype flag d has before stand all =
    derives_more order (is.told ++ more) left gives d
  where
    told : DerivesAll order left is.told
    told = is.derived order i l at subtype flag left has before all

    gives : (m : Line) → Contains (is.told ++ more) m → Derivable order left m
    gives m c = elim (Contains-append_cases is.told more m c) [
      | inl h ↦ told m h
      | inr h ↦ (let (j, f, s) = are m h in given order left m (stand j m f s))
    ]

pub more_long : (fates new : List Fate) (i : ℕ) (f : Fate) → new ≡ fates ++ f ∷ [] → length fates ≡ i → length new ≡ i + 1
more_long fates new i f is long = ap length is ∙ length-append fates (f ∷ []) ∙ ap (λ n. n + 1) long

-- none that goes
pub none_more : (fates new : List Fate) (f : Fate) → new ≡ fates ++ f ∷ [] → (f ≡ Goes → ⊥) →
    ((j : ℕ) → fate_at fates j ≡ Goes → ⊥) → (j : ℕ) → fate_at new j ≡ Goes → ⊥
none_more fates new f is not none j e = by (pushed fates f j) (ap (λ fs. fate_at fs j) (sym is) ∙ e)
  where
    by : IsPushed fates f j → fate_at (fates ++ f ∷ []) j ≡ Goes → ⊥
    by (inl p) g = none j (sym p.1 ∙ g)
    by (inr p) g = not (sym p.1 ∙ g)
