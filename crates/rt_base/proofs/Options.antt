-- Optional values, and the first of a row of choices.
use Rattle.std.proofs.Common.{◌≡◌, ℕ, Bool, true, false, Option, Some, None, refl, sym, ◌∙◌, cond, IsSome}
use Rattle.std.specs.Option.{option_or}
use Rattle.std.proofs.lemmas.Option.{same_Some}

pub option_or-none : {X : Type 0} (o : Option X) → option_or o None ≡ o
option_or-none None = refl
option_or-none (Some x) = refl

pub past_back : (b : Bool) (i : ℕ) (o : Option ℕ) (j : ℕ) → b ≡ false → o ≡ Some j → cond b (Some i) o ≡ Some j
past_back true i o j e f = cc
past_back false i o j e f = f

pub here_back : (b : Bool) (i : ℕ) (o : Option ℕ) → b ≡ true → cond b (Some i) o ≡ Some i
here_back true i o e = refl
here_back false i o e = cc

pub skipped : (b : Bool) (n : ℕ) (o : Option ℕ) → cond b (Some n) o ≡ None → o ≡ None
skipped true n o e = cc
skipped false n o e = e

pub passed : (b : Bool) (n : ℕ) (o : Option ℕ) → b ≡ false → cond b (Some n) o ≡ o
passed true n o e = cc
passed false n o e = refl

pub some_of : (o : Option ℕ) → IsSome o → (n : ℕ) × (o ≡ Some n)
some_of None h = absurd cc
some_of (Some n) h = (n, refl)

pub is_some_of : (o : Option ℕ) (n : ℕ) → o ≡ Some n → IsSome o
is_some_of None n e = absurd (none_some e)
  where
    none_some : None ≡ Some n → ⊥
    none_some f = cc
is_some_of (Some m) n e = refl

pub not_some : IsSome {T = ℕ} None → ⊥
not_some e = cc

pub none_is : (o : Option ℕ) → o ≡ None → IsSome o → ⊥
none_is None e s = absurd (cc)
none_is (Some n) e s = absurd (cc)

pub one_some : {X : Type 0} (o : Option X) (x y : X) → o ≡ Some x → o ≡ Some y → x ≡ y
one_some o x y e f = same_Some x y (sym e ∙ f)
