use Rattle.std.proofs.Common.{◌≡◌, ℕ, ◌+◌, ◌<◌, min, max, List, length, map, take, drop, ◌++◌, get_or, set, sym, ap, ◌∙◌, arith}
use Rattle.std.proofs.lemmas.List.{get_or_default}
use Rattle.std.proofs.lemmas.List.Edits.{map_over_more}
use Rattle.std.proofs.lemmas.Bool.Decides.{nat_tests}
use Rattle.rt_shape.specs.Inside.Classes.{renamed_class}
use Rattle.rt_shape.proofs.closing.rename.Goals as goal
use Rattle.rt_shape.proofs.closing.rename.Goals.{then-c-greater, else-c-greater}

is_renamed : (a b c : ℕ) → c ≡ max a b → renamed_class a b c ≡ min a b
is_renamed a b c e = grind (arith, nat_tests)

is_kept : (a b c : ℕ) → (c ≡ max a b → ⊥) → renamed_class a b c ≡ c
is_kept a b c ne = grind (arith, nat_tests)

wrote : (f : ℕ → ℕ) (old cur : List ℕ) (i y : ℕ) → i < length old → i < length cur → cur ≡ map f (take i old) ++ drop i old → f (get_or cur i 0) ≡ y → set cur i y ≡ map f (take (i + 1) old) ++ drop (i + 1) old
wrote f old cur i y less within going e = ap (set cur i) (sym e) ∙ map_over_more f old cur i (get_or cur i 0) less going (get_or_default cur i 0 (get_or cur i 0) within)

pub loop-c-preserved : goal.loop-c-preserved
loop-c-preserved c =
    let old = c.args.class.now in
    let cur = c.loop-c.class in
    let k = c.loop-c.c-index in
    let a = get_or old c.args.i 0 in
    let b = get_or old c.args.j 0 in
    let f = renamed_class a b in
    let less : k < length old = omega arith in
    let within : k < length cur = omega arith in
    elim c.if-c-greater.branch [
      | then-c-greater w ↦
          let now : f (get_or cur k 0) ≡ c.min-lesser.result = is_renamed a b (get_or cur k 0) (w.if-c-greater.true ∙ c.max-greater.ensures) ∙ sym c.min-lesser.ensures in
          w.class-is ∙ wrote f old cur k c.min-lesser.result less within c.loop-c.invariant now
      | else-c-greater w ↦
          let now : f (get_or cur k 0) ≡ get_or cur k 0 = is_kept a b (get_or cur k 0) (λ e. w.if-c-greater.false (e ∙ sym c.max-greater.ensures)) in
          w.class-is ∙ wrote f old cur k (get_or cur k 0) less within c.loop-c.invariant now
    ]
