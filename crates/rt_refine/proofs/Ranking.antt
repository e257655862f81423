-- Ranks tell what has them apart.
use Rattle.std.proofs.Common.{◌≡◌, ℕ, ◌<◌, pos, List, [], ◌∷◌, ◌++◌, map, refl, sym, ap, arith, nat_cmp}
use Rattle.std.specs.Cmp.{IsTotalOrder, nat_cmp_total, int_cmp_total, then_total, on_total, ranked, int_ranked}
use Rattle.std.specs.Ordering.{ordering_then, int_cmp}
use Rattle.std.specs.declared.cmp.Ordering.TheVariants.{Equal}
use Rattle.rt_lines.specs.declared.label.Loc.TheVariants.{Arg, Stack}
use Rattle.rt_lines.specs.declared.label.Label.{Label}
use Rattle.rt_lines.specs.declared.label.Label.TheVariants.{In, Out, Load, Store, Field}
use Rattle.rt_lines.specs.declared.variable.Base.{Base}
use Rattle.rt_lines.specs.declared.variable.Base.TheVariants.{Proc, Global, Exist, Outer}
use Rattle.rt_lines.specs.declared.variable.Dtv.{Dtv}
use Rattle.rt_refine.specs.Ranks.{Rank, base_rank, label_rank, rank_cmp, use_ranks}
use Rattle.rt_refine.specs.Uses.{Use, Variable, Constant}
use Rattle.rt_base.proofs.Numbers.{then-equal}

-- a label has its rank alone, and a base too
pub label_rank-one : (a b : Label) → label_rank a ≡ label_rank b → a ≡ b
label_rank-one (In (Arg m)) (In (Arg n)) e = ap (λ (r : Rank). In (Arg r.1)) e
label_rank-one (In (Arg m)) (In (Stack n)) e = let f = ap (λ (r : Rank). r.0) e in absurd (omega arith)
label_rank-one (In (Arg m)) (Out n) e = let f = ap (λ (r : Rank). r.0) e in absurd (omega arith)
label_rank-one (In (Arg m)) Load e = let f = ap (λ (r : Rank). r.0) e in absurd (omega arith)
label_rank-one (In (Arg m)) Store e = let f = ap (λ (r : Rank). r.0) e in absurd (omega arith)
label_rank-one (In (Arg m)) (Field n k) e = let f = ap (λ (r : Rank). r.0) e in absurd (omega arith)
label_rank-one (In (Stack m)) (In (Arg n)) e = let f = ap (λ (r : Rank). r.0) e in absurd (omega arith)
label_rank-one (In (Stack m)) (In (Stack n)) e = ap (λ (r : Rank). In (Stack r.1)) e
label_rank-one (In (Stack m)) (Out n) e = let f = ap (λ (r : Rank). r.0) e in absurd (omega arith)
label_rank-one (In (Stack m)) Load e = let f = ap (λ (r : Rank). r.0) e in absurd (omega arith)
label_rank-one (In (Stack m)) Store e = let f = ap (λ (r : Rank). r.0) e in absurd (omega arith)
label_rank-one (In (Stack m)) (Field n k) e = let f = ap (λ (r : Rank). r.0) e in absurd (omega arith)
label_rank-one (Out m) (In (Arg n)) e = let f = ap (λ (r : Rank). r.0) e in absurd (omega arith)
label_rank-one (Out m) (In (Stack n)) e = let f = ap (λ (r : Rank). r.0) e in absurd (omega arith)
label_rank-one (Out m) (Out n) e = ap (λ (r : Rank). Out r.1) e
label_rank-one (Out m) Load e = let f = ap (λ (r : Rank). r.0) e in absurd (omega arith)
label_rank-one (Out m) Store e = let f = ap (λ (r : Rank). r.0) e in absurd (omega arith)
label_rank-one (Out m) (Field n k) e = let f = ap (λ (r : Rank). r.0) e in absurd (omega arith)
label_rank-one Load (In (Arg n)) e = let f = ap (λ (r : Rank). r.0) e in absurd (omega arith)
label_rank-one Load (In (Stack n)) e = let f = ap (λ (r : Rank). r.0) e in absurd (omega arith)
label_rank-one Load (Out n) e = let f = ap (λ (r : Rank). r.0) e in absurd (omega arith)
label_rank-one Load Load e = refl
label_rank-one Load Store e = let f = ap (λ (r : Rank). r.0) e in absurd (omega arith)
label_rank-one Load (Field n k) e = let f = ap (λ (r : Rank). r.0) e in absurd (omega arith)
label_rank-one Store (In (Arg n)) e = let f = ap (λ (r : Rank). r.0) e in absurd (omega arith)
label_rank-one Store (In (Stack n)) e = let f = ap (λ (r : Rank). r.0) e in absurd (omega arith)
label_rank-one Store (Out n) e = let f = ap (λ (r : Rank). r.0) e in absurd (omega arith)
label_rank-one Store Load e = let f = ap (λ (r : Rank). r.0) e in absurd (omega arith)
label_rank-one Store Store e = refl
label_rank-one Store (Field n k) e = let f = ap (λ (r : Rank). r.0) e in absurd (omega arith)
label_rank-one (Field m j) (In (Arg n)) e = let f = ap (λ (r : Rank). r.0) e in absurd (omega arith)
label_rank-one (Field m j) (In (Stack n)) e = let f = ap (λ (r : Rank). r.0) e in absurd (omega arith)
label_rank-one (Field m j) (Out n) e = let f = ap (λ (r : Rank). r.0) e in absurd (omega arith)
label_rank-one (Field m j) Load e = let f = ap (λ (r : Rank). r.0) e in absurd (omega arith)
label_rank-one (Field m j) Store e = let f = ap (λ (r : Rank). r.0) e in absurd (omega arith)
label_rank-one (Field m j) (Field n k) e = ap (λ (r : Rank). Field r.1 r.2) e

pub base_rank-one : (a b : Base) → base_rank a ≡ base_rank b → a ≡ b
base_rank-one (Proc m) (Proc n) e = ap (λ (r : Rank). Proc r.1) e
base_rank-one (Proc m) (Global n) e = let f = ap (λ (r : Rank). r.0) e in absurd (omega arith)
base_rank-one (Proc m) (Exist n) e = let f = ap (λ (r : Rank). r.0) e in absurd (omega arith)
base_rank-one (Proc m) (Outer n) e = let f = ap (λ (r : Rank). r.0) e in absurd (omega arith)
base_rank-one (Global m) (Proc n) e = let f = ap (λ (r : Rank). r.0) e in absurd (omega arith)
base_rank-one (Global m) (Global n) e = ap (λ (r : Rank). Global r.1) e
base_rank-one (Global m) (Exist n) e = let f = ap (λ (r : Rank). r.0) e in absurd (omega arith)
base_rank-one (Global m) (Outer n) e = let f = ap (λ (r : Rank). r.0) e in absurd (omega arith)
base_rank-one (Exist m) (Proc n) e = let f = ap (λ (r : Rank). r.0) e in absurd (omega arith)
base_rank-one (Exist m) (Global n) e = let f = ap (λ (r : Rank). r.0) e in absurd (omega arith)
base_rank-one (Exist m) (Exist n) e = ap (λ (r : Rank). Exist r.1) e
base_rank-one (Exist m) (Outer n) e = let f = ap (λ (r : Rank). r.0) e in absurd (omega arith)
base_rank-one (Outer m) (Proc n) e = let f = ap (λ (r : Rank). r.0) e in absurd (omega arith)
base_rank-one (Outer m) (Global n) e = let f = ap (λ (r : Rank). r.0) e in absurd (omega arith)
base_rank-one (Outer m) (Exist n) e = let f = ap (λ (r : Rank). r.0) e in absurd (omega arith)
base_rank-one (Outer m) (Outer n) e = ap (λ (r : Rank). Outer r.1) e

pub rank_total : IsTotalOrder rank_cmp
rank_total = then_total (then_total (on_total (λ (t : Rank). t.0) nat_cmp_total) (on_total (λ (t : Rank). t.1) nat_cmp_total))
    (on_total (λ (t : Rank). t.2) int_cmp_total)

-- ranks that compare equal are equal
pub rank_equal : (a b : Rank) → rank_cmp a b ≡ Equal → a ≡ b
rank_equal a b e =
    let parts = then-equal (ordering_then (nat_cmp a.0 b.0) (nat_cmp a.1 b.1)) (int_cmp a.2 b.2) e in
    let kinds = then-equal (nat_cmp a.0 b.0) (nat_cmp a.1 b.1) parts.0 in
    let f : a.0 ≡ b.0 = ranked a.0 b.0 Equal (sym kinds.0) in
    let g : a.1 ≡ b.1 = ranked a.1 b.1 Equal (sym kinds.1) in
    let h : a.2 ≡ b.2 = int_ranked a.2 b.2 Equal (sym parts.1) in
    λ i. (f i, g i, h i)

word-one : (u w : List Label) → map label_rank u ≡ map label_rank w → u ≡ w
word-one [] [] e = refl
word-one [] (l ∷ w) e = absurd (cc)
word-one (k ∷ u) [] e = absurd (cc)
word-one (k ∷ u) (l ∷ w) e =
    let f : label_rank k ≡ label_rank l = cc in
    let g : map label_rank u ≡ map label_rank w = cc in
    let h : k ≡ l = label_rank-one k l f in
    let i : u ≡ w = word-one u w g in
    cc

-- a letter has a lesser kind than what follows the word
letter_kind : (l : Label) → (label_rank l).0 < 6
letter_kind (In (Arg n)) = omega arith
letter_kind (In (Stack k)) = omega arith
letter_kind (Out n) = omega arith
letter_kind Load = omega arith
letter_kind Store = omega arith
letter_kind (Field w k) = omega arith

base_kind : (b : Base) → 5 < (base_rank b).0
base_kind (Proc n) = omega arith
base_kind (Global n) = omega arith
base_kind (Exist n) = omega arith
base_kind (Outer n) = omega arith

no_letter : (l : Label) (r : Rank) → 5 < r.0 → label_rank l ≡ r → ⊥
no_letter l r lt e =
    let f : (label_rank l).0 ≡ r.0 = ap (λ (s : Rank). s.0) e in
    let less : (label_rank l).0 < 6 = letter_kind l in
    omega (arith, lt, f, less)

-- so the word ends there
ends_one : (u w : List Label) (r s : Rank) (rs ss : List Rank) → 5 < r.0 → 5 < s.0 →
    map label_rank u ++ r ∷ rs ≡ map label_rank w ++ s ∷ ss → (u ≡ w) × (r ≡ s) × (rs ≡ ss)
ends_one [] [] r s rs ss lt le e = let f : r ≡ s = cc in let g : rs ≡ ss = cc in (refl, f, g)
ends_one [] (l ∷ w) r s rs ss lt le e = let f : label_rank l ≡ r = cc in absurd (no_letter l r lt f)
ends_one (k ∷ u) [] r s rs ss lt le e = let f : label_rank k ≡ s = cc in absurd (no_letter k s le f)
ends_one (k ∷ u) (l ∷ w) r s rs ss lt le e =
    let f : label_rank k ≡ label_rank l = cc in
    let g : map label_rank u ++ r ∷ rs ≡ map label_rank w ++ s ∷ ss = cc in
    let h : k ≡ l = label_rank-one k l f in
    let i = ends_one u w r s rs ss lt le g in
    let j : u ≡ w = i.0 in
    (cc, i.1, i.2)

ranks-one : (x y : Dtv) → base_rank x.base ≡ base_rank y.base → map label_rank x.word ≡ map label_rank y.word → x ≡ y
ranks-one x y f g =
    let h : x.base ≡ y.base = base_rank-one x.base y.base f in
    let j : x.word ≡ y.word = word-one x.word y.word g in
    λ i. record { base = h i; word = j i }

-- a base has another kind than a constant
no_constant : (b : Base) (k : ℕ) → base_rank b ≡ (10, k, pos 0) → ⊥
no_constant (Proc n) k e = let f = ap (λ (r : Rank). r.0) e in omega arith
no_constant (Global n) k e = let f = ap (λ (r : Rank). r.0) e in omega arith
no_constant (Exist n) k e = let f = ap (λ (r : Rank). r.0) e in omega arith
no_constant (Outer n) k e = let f = ap (λ (r : Rank). r.0) e in omega arith

-- a use has its ranks alone
pub use_ranks-one : (u w : Use) → use_ranks u ≡ use_ranks w → u ≡ w
use_ranks-one (u, Variable y) (w, Variable z) e =
    let i = ends_one u w (base_rank y.base) (base_rank z.base) (map label_rank y.word) (map label_rank z.word) (base_kind y.base)
    (base_kind z.base) e in
    let j : u ≡ w = i.0 in
    let k : y ≡ z = ranks-one y z i.1 i.2 in
    λ t. (j t, Variable (k t))
use_ranks-one (u, Variable y) (w, Constant k) e =
    let i = ends_one u w (base_rank y.base) (10, k, pos 0) (map label_rank y.word) [] (base_kind y.base) (omega arith) e in
    absurd (no_constant y.base k i.1)
use_ranks-one (u, Constant j) (w, Variable z) e =
    let i = ends_one u w (10, j, pos 0) (base_rank z.base) [] (map label_rank z.word) (omega arith) (base_kind z.base) e in
    absurd (no_constant z.base j (sym i.1))
use_ranks-one (u, Constant j) (w, Constant k) e =
    let i = ends_one u w (10, j, pos 0) (10, k, pos 0) [] [] (omega arith) (omega arith) e in
    let f : u ≡ w = i.0 in
    let g : j ≡ k = ap (λ (r : Rank). r.1) i.1 in
    λ t. (f t, Constant (g t))
