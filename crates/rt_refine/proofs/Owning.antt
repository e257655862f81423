-- Lines and the existentials on their sides.
use Rattle.std.proofs.Common.{◌≡◌, ℕ, List, Option, Some, None, MatchOption, ap}
use Rattle.rt_lines.specs.declared.label.Label.{Label}
use Rattle.rt_lines.specs.declared.variable.Base.TheVariants.{Exist}
use Rattle.rt_lines.specs.declared.variable.Dtv.{Dtv}
use Rattle.rt_lines.specs.declared.line.Line.{Line}
use Rattle.rt_lines.specs.declared.line.Line.TheVariants.{Var, Same, Sub, Low, Up}
use Rattle.rt_refine.specs.Refinements.{of_exist}
use Rattle.rt_refine.specs.declared.uses.Side.{Side}
use Rattle.rt_refine.specs.declared.uses.Side.TheVariants.{Left, Right}
use Rattle.rt_refine.specs.Uses.{Use, Variable, Constant, use_line}

exist_one : (m n : ℕ) (u w : List Label) → of_exist m u ≡ of_exist n w → (m ≡ n) × (u ≡ w)
exist_one m n u w e =
    let f : Exist m ≡ Exist n = ap (λ (x : Dtv). x.base) e in
    let g : m ≡ n = cc in
    (g, ap (λ (x : Dtv). x.word) e)

variable_one : (m n : ℕ) (u w : List Label) (y z : Dtv) → of_exist m u ≡ of_exist n w → y ≡ z →
    (m ≡ n) × ◌≡◌ {A = Use} (u, Variable y) (w, Variable z)
variable_one m n u w y z e f = let g = exist_one m n u w e in let h : u ≡ w = g.1 in (g.0, λ i. (h i, Variable (f i)))

constant_one : (m n : ℕ) (u w : List Label) (j k : ℕ) → of_exist m u ≡ of_exist n w → j ≡ k →
    (m ≡ n) × ◌≡◌ {A = Use} (u, Constant j) (w, Constant k)
constant_one m n u w j k e f = let g = exist_one m n u w e in let h : u ≡ w = g.1 in (g.0, λ i. (h i, Constant (f i)))

-- the line says which existential stands on the side, and with which use
pub use_parts : (side : Side) (m n : ℕ) (p q : Use) → use_line side m p ≡ use_line side n q → (m ≡ n) × (p ≡ q)
use_parts Left m n (u, Variable y) (w, Variable z) e =
    let f : of_exist m u ≡ of_exist n w = cc in let g : y ≡ z = cc in variable_one m n u w y z f g
use_parts Left m n (u, Variable y) (w, Constant k) e = absurd (cc)
use_parts Left m n (u, Constant j) (w, Variable z) e = absurd (cc)
use_parts Left m n (u, Constant j) (w, Constant k) e =
    let f : of_exist m u ≡ of_exist n w = cc in let g : j ≡ k = cc in constant_one m n u w j k f g
use_parts Right m n (u, Variable y) (w, Variable z) e =
    let f : of_exist m u ≡ of_exist n w = cc in let g : y ≡ z = cc in variable_one m n u w y z f g
use_parts Right m n (u, Variable y) (w, Constant k) e = absurd (cc)
use_parts Right m n (u, Constant j) (w, Variable z) e = absurd (cc)
use_parts Right m n (u, Constant j) (w, Constant k) e =
    let f : of_exist m u ≡ of_exist n w = cc in let g : j ≡ k = cc in constant_one m n u w j k f g

-- the variable's base is the existential, or none
abbrev IsOf : Option ℕ → Dtv → Type 0
IsOf found x = MatchOption found ((n : ℕ) → x.base ≡ Exist n → ⊥) (λ n. x.base ≡ Exist n)

-- the existential stands on the side, or none does
abbrev IsOwner : Option ℕ → Side → Line → Type 0
IsOwner found side l = MatchOption found ((n : ℕ) (u : Use) → l ≡ use_line side n u → ⊥) (λ n. (u : Use) × (l ≡ use_line side n u))

is_exist : (x : Dtv) (n : ℕ) → x.base ≡ Exist n → x ≡ of_exist n x.word
is_exist x n e = λ i. record { base = e i; word = x.word }

base_of : (x : Dtv) (n : ℕ) (w : List Label) → x ≡ of_exist n w → x.base ≡ Exist n
base_of x n w e = ap (λ (y : Dtv). y.base) e

pub owns_left : (found : Option ℕ) (x y : Dtv) → IsOf found x → IsOwner found Left (Sub x y)
owns_left None x y none = by
  where
    by : (n : ℕ) (u : Use) → Sub x y ≡ use_line Left n u → ⊥
    by n (w, Variable z) e = let f : x ≡ of_exist n w = cc in none n (base_of x n w f)
    by n (w, Constant k) e = cc
owns_left (Some n) x y e = ((x.word, Variable y), ap (λ v. Sub v y) (is_exist x n e))

pub owns_up : (found : Option ℕ) (x : Dtv) (k : ℕ) → IsOf found x → IsOwner found Left (Up x k)
owns_up None x k none = by
  where
    by : (n : ℕ) (u : Use) → Up x k ≡ use_line Left n u → ⊥
    by n (w, Variable z) e = cc
    by n (w, Constant j) e = let f : x ≡ of_exist n w = cc in none n (base_of x n w f)
owns_up (Some n) x k e = ((x.word, Constant k), ap (λ v. Up v k) (is_exist x n e))

pub owns_right : (found : Option ℕ) (x y : Dtv) → IsOf found y → IsOwner found Right (Sub x y)
owns_right None x y none = by
  where
    by : (n : ℕ) (u : Use) → Sub x y ≡ use_line Right n u → ⊥
    by n (w, Variable z) e = let f : y ≡ of_exist n w = cc in none n (base_of y n w f)
    by n (w, Constant k) e = cc
owns_right (Some n) x y e = ((y.word, Variable x), ap (λ v. Sub x v) (is_exist y n e))

pub owns_low : (found : Option ℕ) (k : ℕ) (y : Dtv) → IsOf found y → IsOwner found Right (Low k y)
owns_low None k y none = by
  where
    by : (n : ℕ) (u : Use) → Low k y ≡ use_line Right n u → ⊥
    by n (w, Variable z) e = cc
    by n (w, Constant j) e = let f : y ≡ of_exist n w = cc in none n (base_of y n w f)
owns_low (Some n) k y e = ((y.word, Constant k), ap (λ v. Low k v) (is_exist y n e))

-- lines of no side
pub no_owner_var : (side : Side) (x : Dtv) (n : ℕ) (u : Use) → Var x ≡ use_line side n u → ⊥
no_owner_var Left x n (w, Variable z) e = cc
no_owner_var Left x n (w, Constant k) e = cc
no_owner_var Right x n (w, Variable z) e = cc
no_owner_var Right x n (w, Constant k) e = cc

pub no_owner_same : (side : Side) (x y : Dtv) (n : ℕ) (u : Use) → Same x y ≡ use_line side n u → ⊥
no_owner_same Left x y n (w, Variable z) e = cc
no_owner_same Left x y n (w, Constant k) e = cc
no_owner_same Right x y n (w, Variable z) e = cc
no_owner_same Right x y n (w, Constant k) e = cc
