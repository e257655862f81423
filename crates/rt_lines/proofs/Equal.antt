-- What `==` finds equal is equal.
use Rattle.std.proofs.Common.{◌≡◌, true, List, [], ◌∷◌, nat_eq, refl, ap, arith}
use Rattle.std.specs.Ordering.{int_eq}
use Rattle.std.specs.Cmp.Lexicographic.{pointwise}
use Rattle.std.proofs.lemmas.Grind.{common_steps}
use Rattle.std.proofs.lemmas.Bool.{eqb-true, and_parts}
use Rattle.std.proofs.lemmas.Bool.Decides.{Decides-int_eq}
use Rattle.rt_lines.specs.declared.label.Loc.{Loc}
use Rattle.rt_lines.specs.declared.label.Loc.TheVariants.{Arg, Stack}
use Rattle.rt_lines.specs.declared.label.Label.{Label}
use Rattle.rt_lines.specs.declared.label.Label.TheVariants.{In, Out, Load, Store, Field}
use Rattle.rt_lines.specs.declared.variable.Base.{Base}
use Rattle.rt_lines.specs.declared.variable.Base.TheVariants.{Proc, Global, Exist, Outer}
use Rattle.rt_lines.specs.declared.variable.Dtv.{Dtv}
use Rattle.rt_lines.specs.declared.line.Line.{Line}
use Rattle.rt_lines.specs.declared.line.Line.TheVariants.{Var, Same, Sub, Low, Up}
use Rattle.rt_lines.specs.Equality.{loc_eq, label_eq, base_eq, variable_eq, line_eq}

pub loc_equal : (a b : Loc) → loc_eq a b ≡ true → a ≡ b
loc_equal (Arg m) (Arg n) e = grind (arith, common_steps)
loc_equal (Arg m) (Stack n) e = cc
loc_equal (Stack m) (Arg n) e = cc
loc_equal (Stack m) (Stack n) e = grind (arith, common_steps)

pub label_equal : (a b : Label) → label_eq a b ≡ true → a ≡ b
label_equal (In a) (In b) e = ap In (loc_equal a b e)
label_equal (Out m) (Out n) e = grind (arith, common_steps)
label_equal Load Load e = refl
label_equal Store Store e = refl
label_equal (Field w k) (Field v j) e =
    let parts : (nat_eq w v ≡ true) × (int_eq k j ≡ true) = and_parts (nat_eq w v) (int_eq k j) e in
    let widths : w ≡ v = eqb-true w v parts.0 in
    let offsets : k ≡ j = (Decides-int_eq k j).0 parts.1 in
    rw (widths, offsets) refl
label_equal (In a) (Out n) e = cc
label_equal (In a) Load e = cc
label_equal (In a) Store e = cc
label_equal (In a) (Field w k) e = cc
label_equal (Out n) (In b) e = cc
label_equal (Out n) Load e = cc
label_equal (Out n) Store e = cc
label_equal (Out n) (Field w k) e = cc
label_equal Load (In b) e = cc
label_equal Load (Out n) e = cc
label_equal Load Store e = cc
label_equal Load (Field w k) e = cc
label_equal Store (In b) e = cc
label_equal Store (Out n) e = cc
label_equal Store Load e = cc
label_equal Store (Field w k) e = cc
label_equal (Field w k) (In b) e = cc
label_equal (Field w k) (Out n) e = cc
label_equal (Field w k) Load e = cc
label_equal (Field w k) Store e = cc

pub word_equal : (u w : List Label) → pointwise label_eq u w ≡ true → u ≡ w
word_equal [] [] e = refl
word_equal [] (l ∷ w) e = cc
word_equal (l ∷ u) [] e = cc
word_equal (l ∷ u) (m ∷ w) e =
    let parts : (label_eq l m ≡ true) × (pointwise label_eq u w ≡ true) = and_parts (label_eq l m) (pointwise label_eq u w) e in
    rw (label_equal l m parts.0, word_equal u w parts.1) refl

pub base_equal : (a b : Base) → base_eq a b ≡ true → a ≡ b
base_equal (Proc m) (Proc n) e = ap Proc (eqb-true m n e)
base_equal (Global m) (Global n) e = ap Global (eqb-true m n e)
base_equal (Exist m) (Exist n) e = ap Exist (eqb-true m n e)
base_equal (Outer m) (Outer n) e = ap Outer (eqb-true m n e)
base_equal (Proc a) (Global p) e = cc
base_equal (Proc a) (Exist p) e = cc
base_equal (Proc a) (Outer p) e = cc
base_equal (Global a) (Proc p) e = cc
base_equal (Global a) (Exist p) e = cc
base_equal (Global a) (Outer p) e = cc
base_equal (Exist a) (Proc p) e = cc
base_equal (Exist a) (Global p) e = cc
base_equal (Exist a) (Outer p) e = cc
base_equal (Outer a) (Proc p) e = cc
base_equal (Outer a) (Global p) e = cc
base_equal (Outer a) (Exist p) e = cc

pub variable_equal : (x y : Dtv) → variable_eq x y ≡ true → x ≡ y
variable_equal x y e =
    let parts : (base_eq x.base y.base ≡ true) × (pointwise label_eq x.word y.word ≡ true) = and_parts (base_eq x.base y.base) (pointwise label_eq x.word y.word) e in
    let bases : x.base ≡ y.base = base_equal x.base y.base parts.0 in
    let words : x.word ≡ y.word = word_equal x.word y.word parts.1 in
    λ i. record { base = bases i; word = words i }

pub line_equal : (a b : Line) → line_eq a b ≡ true → a ≡ b
line_equal (Var x) (Var y) e = ap Var (variable_equal x y e)
line_equal (Same x y) (Same p q) e =
    let parts : (variable_eq x p ≡ true) × (variable_eq y q ≡ true) = and_parts (variable_eq x p) (variable_eq y q) e in
    rw (variable_equal x p parts.0, variable_equal y q parts.1) refl
line_equal (Sub x y) (Sub p q) e =
    let parts : (variable_eq x p ≡ true) × (variable_eq y q ≡ true) = and_parts (variable_eq x p) (variable_eq y q) e in
    rw (variable_equal x p parts.0, variable_equal y q parts.1) refl
line_equal (Low k x) (Low j y) e =
    let parts : (nat_eq k j ≡ true) × (variable_eq x y ≡ true) = and_parts (nat_eq k j) (variable_eq x y) e in
    rw (eqb-true k j parts.0, variable_equal x y parts.1) refl
line_equal (Up x k) (Up y j) e =
    let parts : (variable_eq x y ≡ true) × (nat_eq k j ≡ true) = and_parts (variable_eq x y) (nat_eq k j) e in
    rw (variable_equal x y parts.0, eqb-true k j parts.1) refl
line_equal (Var a) (Same p q) e = cc
line_equal (Var a) (Sub p q) e = cc
line_equal (Var a) (Low p q) e = cc
line_equal (Var a) (Up p q) e = cc
line_equal (Same a b) (Var p) e = cc
line_equal (Same a b) (Sub p q) e = cc
line_equal (Same a b) (Low p q) e = cc
line_equal (Same a b) (Up p q) e = cc
line_equal (Sub a b) (Var p) e = cc
line_equal (Sub a b) (Same p q) e = cc
line_equal (Sub a b) (Low p q) e = cc
line_equal (Sub a b) (Up p q) e = cc
line_equal (Low a b) (Var p) e = cc
line_equal (Low a b) (Same p q) e = cc
line_equal (Low a b) (Sub p q) e = cc
line_equal (Low a b) (Up p q) e = cc
line_equal (Up a b) (Var p) e = cc
line_equal (Up a b) (Same p q) e = cc
line_equal (Up a b) (Sub p q) e = cc
line_equal (Up a b) (Low p q) e = cc
