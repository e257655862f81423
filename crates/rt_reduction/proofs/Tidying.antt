-- What is tidied already.
use Rattle.std.proofs.Common.{◌≡◌, ◌≢◌, List, map, AllPairs, Contains, Bool, true, false, cond, refl, sym, subst}
use Rattle.rt_base.proofs.Lists.{All-from_contains}
use Rattle.rt_lines.specs.declared.variable.Dtv.{Dtv}
use Rattle.rt_lines.specs.declared.line.Line.{Line}
use Rattle.rt_lines.specs.declared.line.Line.TheVariants.{Var, Same, Sub, Low, Up}
use Rattle.rt_lines.specs.Equality.{variable_eq}
use Rattle.rt_lines.proofs.Deduplicating.{deduplicated-distinct}
use Rattle.rt_lines.proofs.Equal.{variable_equal}
use Rattle.rt_polar.specs.Tidied.{tidied, without_self}
use Rattle.rt_polar.proofs.Moved.{staying_lem}
use Rattle.rt_reduction.specs.Laws.{HasNoSelf}
use Rattle.rt_reduction.proofs.Merging.{tidied_no_self}

-- where no line puts a variable beside itself, none changes
plain_lines : (lines : List Line) → HasNoSelf lines → (l : Line) → Contains lines l → without_self l ≡ l
plain_lines lines none (Var x) c = refl
plain_lines lines none (Same x y) c = by (variable_eq x y) refl
  where
    by : (t : Bool) → variable_eq x y ≡ t → cond t (Var x) (Same x y) ≡ Same x y
    by true e = absurd ((none x).1 (subst (λ (z : Dtv). Contains lines (Same x z)) (sym (variable_equal x y e)) c))
    by false e = refl
plain_lines lines none (Sub x y) c = by (variable_eq x y) refl
  where
    by : (t : Bool) → variable_eq x y ≡ t → cond t (Var x) (Sub x y) ≡ Sub x y
    by true e = absurd ((none x).0 (subst (λ (z : Dtv). Contains lines (Sub x z)) (sym (variable_equal x y e)) c))
    by false e = refl
plain_lines lines none (Low k x) c = refl
plain_lines lines none (Up x k) c = refl

pub stays : (lines : List Line) → AllPairs (λ a b. a ≢ b) lines → HasNoSelf lines → tidied lines ≡ lines
stays lines once none = staying_lem lines once (All-from_contains (λ l. without_self l ≡ l) lines (plain_lines lines none))

-- tidied lines stay as they are
pub tidied_twice : (lines : List Line) → tidied (tidied lines) ≡ tidied lines
tidied_twice lines = stays (tidied lines) (deduplicated-distinct (map without_self lines)) (tidied_no_self lines)
