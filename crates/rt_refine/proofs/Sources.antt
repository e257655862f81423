-- A line that a map makes comes from one of its kind.
use Rattle.std.proofs.Common.{◌≡◌, ℕ, refl, ap}
use Rattle.rt_lines.specs.declared.variable.Dtv.{Dtv}
use Rattle.rt_lines.specs.declared.line.Line.{Line}
use Rattle.rt_lines.specs.declared.line.Line.TheVariants.{Var, Same, Sub, Low, Up}
use Rattle.rt_rules.specs.Alike.{map_line}

pub sub_source : (f : Dtv → Dtv) (k : Line) (a b : Dtv) → map_line f k ≡ Sub a b → (x : Dtv) × (y : Dtv) × (k ≡ Sub x y) × (f x ≡ a) × (f y ≡ b)
sub_source f (Sub x y) a b e = let g : f x ≡ a = cc in let h : f y ≡ b = cc in (x, y, refl, g, h)
sub_source f (Var x) a b e = absurd (cc)
sub_source f (Same x y) a b e = absurd (cc)
sub_source f (Low k x) a b e = absurd (cc)
sub_source f (Up x k) a b e = absurd (cc)

pub low_source : (f : Dtv → Dtv) (k : Line) (n : ℕ) (a : Dtv) → map_line f k ≡ Low n a → (x : Dtv) × (k ≡ Low n x) × (f x ≡ a)
low_source f (Low k x) n a e = let g : k ≡ n = cc in let h : f x ≡ a = cc in (x, ap (λ j. Low j x) g, h)
low_source f (Var x) n a e = absurd (cc)
low_source f (Same x y) n a e = absurd (cc)
low_source f (Sub x y) n a e = absurd (cc)
low_source f (Up x k) n a e = absurd (cc)

pub up_source : (f : Dtv → Dtv) (k : Line) (a : Dtv) (n : ℕ) → map_line f k ≡ Up a n → (x : Dtv) × (k ≡ Up x n) × (f x ≡ a)
up_source f (Up x k) a n e = let g : k ≡ n = cc in let h : f x ≡ a = cc in (x, ap (Up x) g, h)
up_source f (Var x) a n e = absurd (cc)
up_source f (Same x y) a n e = absurd (cc)
up_source f (Sub x y) a n e = absurd (cc)
up_source f (Low k x) a n e = absurd (cc)
