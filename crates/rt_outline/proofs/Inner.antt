-- Inner arcs: all are derivable.
use Rattle.std.proofs.Common.{◌≡◌, ℕ, ◌<◌, ◌⊎◌, inl, inr, Bool, true, List, [], ◌∷◌, Contains, Option, Some, None, length, sym, subst, arith}
use Rattle.std.specs.Prelude.{AllPairs, ◌≢◌}
use Rattle.std.proofs.lemmas.Bool.{cases_eq}
use Rattle.std.proofs.lemmas.List.{get_or_default}
use Rattle.std.proofs.lemmas.Option.{get_or_from_slice_get, slice_get_within}
use Rattle.rt_base.proofs.Lists.{Contains-none, Contains-cons_cases}
use Rattle.rt_lines.specs.declared.label.Label.TheVariants.{Load, Store}
use Rattle.rt_lines.specs.declared.variable.Dtv.{Dtv}
use Rattle.rt_lines.specs.declared.line.Line.{Line}
use Rattle.rt_lines.specs.declared.line.Line.TheVariants.{Var, Sub}
use Rattle.rt_lines.specs.Orders.{Below}
use Rattle.rt_rules.specs.Rules.{longer, HasSide, Derivable}
use Rattle.rt_rules.specs.Rules.Derivable.{named as side_there, sub_line, sub_chain, sub_self, sub_pointer}
use Rattle.rt_rules.proofs.Covering.{front, extended-nil}
use Rattle.rt_components.specs.Groups.{Reaches}
use Rattle.rt_components.specs.Groups.Reaches.{there, onward}
use Rattle.rt_named.specs.Origins.{no_variable}
use Rattle.rt_named.specs.Naming.{named as named_by}
use Rattle.rt_named.specs.Laws.{IsPrefix, IsGiven}
use Rattle.rt_named.proofs.Contents.{contents_law, once_law}
use Rattle.rt_outline.specs.declared.arc.Arc.{Arc}
use Rattle.rt_outline.specs.Arcs.{HasArc, Leads, MayLead}
use Rattle.rt_outline.specs.Frames.{Origins, AreOriginsOf, AreDistinct, AreMore, IsPointerPair, IsPushedMore, Ways, variable_at}
use Rattle.rt_outline.specs.Lines.{IsNumber, AreNumbers, IsLineArc, AreLineArcs, HasBelow, Lined}
use Rattle.rt_outline.specs.Enclosing.{AreThere, IsInner}
use Rattle.rt_outline.proofs.Lowering.{ways_below, ways_within}

-- variables that lines and others name are there, each once, with all sides
module _ (lines : List Line) (extra known : List Dtv) (is : known ≡ named_by lines extra) where
  pub distinct : AreDistinct known
  distinct i j h k e = by (cases_eq i j)
    where
      apart : AllPairs (λ (x y : Dtv). x ≢ y) known
      apart = subst (λ xs. AllPairs (λ (x y : Dtv). x ≢ y) xs) (sym is) (once_law lines extra)

      ordered : (i j : ℕ) → (i ≡ j → ⊥) → (i < j) ⊎ (j < i)
      ordered i j n = grind arith

      by : (i ≡ j) ⊎ (i ≡ j → ⊥) → i ≡ j
      by (inl f) = f
      by (inr n) = elim (ordered i j n) [
        | inl less ↦ absurd (apart i j no_variable less k e)
        | inr less ↦ absurd (apart j i no_variable less h (sym e))
      ]

  pub sides : (l : Line) (x : Dtv) → Contains lines l → HasSide l x → Contains known x
  sides l x c h = subst (λ xs. Contains xs x) (sym is) ((contents_law lines extra x).1 (x, inl (l, c, h), ([], extended-nil x)))

  pub all_there : (order : Below) → ((x : Dtv) → Contains extra x → Derivable order lines (Var x)) → (n : ℕ) → n < length known → Derivable order lines (Var (variable_at known n))
  all_there order exist n h =
      let x : Dtv = variable_at known n in
      let c : Contains known x = (n, h, get_or_default known n x no_variable h) in
      let s : (y : Dtv) × IsGiven lines extra y × IsPrefix x y = (contents_law lines extra x).0 (subst (λ xs. Contains xs x) is c) in
      let d : Derivable order lines (Var s.0) = (elim s.1 [
        | inl c ↦ side_there c.0 c.1 c.2
        | inr c ↦ exist s.0 c
      ]) in
      front order lines x s.2.0 (subst (λ z. Derivable order lines (Var z)) (sym s.2.1) d)

module _ (order : Below) (lines : List Line) (named : List Dtv) (origins : Origins) (are : AreOriginsOf named origins) (there_all : (n : ℕ) → n < length named → Derivable order lines (Var (variable_at named n)))
    (first mid new : List (List Arc)) (stands : List Bool) (entered : AreLineArcs lines (length lines) named first) (none : (v w : ℕ) → HasArc first v w None → ⊥)
    (more : AreMore (IsPointerPair origins) first mid) (within : (v w : ℕ) (line : Option ℕ) → HasArc mid v w line → w < length origins) (pushed : IsPushedMore origins stands mid new) where
  number_is : (n : ℕ) (x : Dtv) → IsNumber named n x → variable_at named n ≡ x
  number_is n x e = get_or_from_slice_get named n x no_variable e

  of_line : (v w i : ℕ) → HasArc first v w (Some i) → Derivable order lines (Sub (variable_at named v) (variable_at named w))
  of_line v w i c =
      let a : IsLineArc lines named v w i = entered.only v w i c in
      let l : Contains lines (Sub a.left a.right) = (i, slice_get_within lines i (Sub a.left a.right) a.line, get_or_from_slice_get lines i (Sub a.left a.right) (Sub a.left a.right) a.line) in
      subst (λ x. Derivable order lines (Sub x (variable_at named w))) (sym (number_is v a.left a.from)) (subst (λ y. Derivable order lines (Sub a.left y)) (sym (number_is w a.right a.to)) (sub_line l))

  of_pointer : (v w : ℕ) → IsPointerPair origins v w → Derivable order lines (Sub (variable_at named v) (variable_at named w))
  of_pointer v w (p, m, n) =
      let e : variable_at named v ≡ longer (variable_at named p) Store = (are.only v p Store m).1 in
      let f : variable_at named w ≡ longer (variable_at named p) Load = (are.only w p Load n).1 in
      let small : v < length origins = slice_get_within origins v (Some (p, Store)) m in
      let few : w < length origins = slice_get_within origins w (Some (p, Load)) n in
      subst (λ x. Derivable order lines (Sub x (variable_at named w))) (sym e) (subst (λ y. Derivable order lines (Sub (longer (variable_at named p) Store) y)) (sym f)
      (sub_pointer (variable_at named p) (subst (λ x. Derivable order lines (Var x)) f (there_all w (omega (arith, few, are.each)))) (subst (λ x. Derivable order lines (Var x)) e (there_all v (omega (arith, small, are.each))))))

  sound : (v w : ℕ) → Leads mid stands true v w → Derivable order lines (Sub (variable_at named v) (variable_at named w))
  sound v w (line, c, e) = elim (more v w line c) [
    | inl d ↦ by line d
    | inr p ↦ of_pointer v w p.1
  ]
    where
      by : (line : Option ℕ) → HasArc first v w line → Derivable order lines (Sub (variable_at named v) (variable_at named w))
      by None d = absurd (none v w d)
      by (Some i) d = of_line v w i d

  inside : (v w : ℕ) → Leads mid stands true v w → w < length named
  inside v w (line, c, e) = let h : w < length origins = within v w line c in omega (arith, h, are.each)

  pub inner_reach : {v w : ℕ} → v < length named → Reaches (Leads new stands true) v w → Derivable order lines (Sub (variable_at named v) (variable_at named w))
  inner_reach {v} h there = sub_self (there_all v h)
  inner_reach {v} {w} h (onward {b} e r) =
      let way : Ways origins (Leads mid stands true) v b = pushed.ways v b e in
      sub_chain (ways_below order lines named origins are there_all (Leads mid stands true) inside sound way h)
      (inner_reach (ways_within order lines named origins are there_all (Leads mid stands true) inside sound way h) r)

-- and so they are inner arcs
pub inner_of : (lines : List Line) (extra named : List Dtv) (origins : Origins) (first mid new : List (List Arc)) (stands : List Bool) → named ≡ named_by lines extra → AreThere lines extra → AreOriginsOf named origins →
    AreLineArcs lines (length lines) named first → ((v w : ℕ) → HasArc first v w None → ⊥) → AreMore (IsPointerPair origins) first mid → ((v w : ℕ) (line : Option ℕ) → HasArc mid v w line → w < length origins) →
    IsPushedMore origins stands mid new → IsInner lines named new stands
inner_of lines extra named origins first mid new stands is there_extra are entered none more within pushed order v w h k r =
    inner_reach order lines named origins are (all_there lines extra named is order (there_extra order)) first mid new stands entered none more within pushed h r

-- what inner arcs say of variables by their numbers
pub inner_below : (lines : List Line) (named : List Dtv) (arcs : List (List Arc)) (stands : List Bool) (from to : List Dtv) (sources targets : List ℕ) (view : Lined) → IsInner lines named arcs stands → record { lines = lines; named = named } ≡ view →
    AreNumbers named from sources → AreNumbers named to targets → MayLead (Leads arcs stands true) sources targets → (order : Below) → HasBelow order view.lines from to
inner_below lines named arcs stands from to sources targets view inner e left right (s, t, c, r, d) order =
    let x : (x : Dtv) × Contains from x × IsNumber named s x = left.only s c in
    let y : (y : Dtv) × Contains to y × IsNumber named t y = right.only t d in
    let g : Derivable order lines (Sub (variable_at named s) (variable_at named t)) = inner order s t (slice_get_within named s x.0 x.2) (slice_get_within named t y.0 y.2) r in
    subst (λ (v : Lined). HasBelow order v.lines from to) e
    (x.0, y.0, x.1, y.1, subst (λ z. Derivable order lines (Sub z y.0)) (get_or_from_slice_get named s x.0 no_variable x.2) (subst (λ z. Derivable order lines (Sub (variable_at named s) z)) (get_or_from_slice_get named t y.0 no_variable y.2) g))

pub lead_as : (arcs some : List (List Arc)) (stands flags : List Bool) (sources froms targets tos : List ℕ) → some ≡ arcs → flags ≡ stands → froms ≡ sources → tos ≡ targets → MayLead (Leads some flags true) froms tos → MayLead (Leads arcs stands true) sources targets
lead_as arcs some stands flags sources froms targets tos e f g h may =
    subst (λ xs. MayLead (Leads xs stands true) sources targets) e (subst (λ fs. MayLead (Leads some fs true) sources targets) f (subst (λ xs. MayLead (Leads some flags true) xs targets) g (subst (λ xs. MayLead (Leads some flags true) froms xs) h may)))

-- what inner arcs say of two variables by their numbers
pub inner_numbers : (lines : List Line) (named : List Dtv) (arcs : List (List Arc)) (stands : List Bool) (from to : ℕ) (sources targets : List ℕ) (view : Lined) → IsInner lines named arcs stands → record { lines = lines; named = named } ≡ view →
    from < length view.named → to < length view.named → sources ≡ from ∷ [] → targets ≡ to ∷ [] → MayLead (Leads arcs stands true) sources targets → (order : Below) → Derivable order view.lines (Sub (variable_at view.named from) (variable_at view.named to))
inner_numbers lines named arcs stands from to sources targets view inner e h k f g (s, t, c, r, d) order =
    subst (λ (v : Lined). Derivable order v.lines (Sub (variable_at v.named from) (variable_at v.named to))) e
    (inner order from to (subst (λ (v : Lined). from < length v.named) (sym e) h) (subst (λ (v : Lined). to < length v.named) (sym e) k)
    (subst (λ n. Reaches (Leads arcs stands true) n to) (one from s (subst (λ xs. Contains xs s) f c)) (subst (Reaches (Leads arcs stands true) s) (one to t (subst (λ xs. Contains xs t) g d)) r)))
  where
    one : (n m : ℕ) → Contains (n ∷ []) m → m ≡ n
    one n m c = elim (Contains-cons_cases n [] m c) [ inl e ↦ sym e | inr d ↦ absurd (Contains-none m d) ]
