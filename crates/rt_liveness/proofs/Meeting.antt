-- Tests over lists, and conditions that are met by what was found.
use Rattle.std.proofs.Common.{◌≡◌, ℕ, ◌⊎◌, ◌↔◌, inl, inr, Bool, true, false, ◌==◌, ◌||◌, ◌&&◌, List, [], ◌∷◌, Contains, refl, sym, ap, subst, ◌∙◌}
use Rattle.std.specs.List.{list_any}
use Rattle.std.proofs.lemmas.Bool.{true≢false}
use Rattle.std.proofs.lemmas.Bool.Decides.{Decides-eqb}
use Rattle.std.proofs.lemmas.Map.Views.{list_any-from_Contains, Contains-from_any}
use Rattle.rt_rules.proofs.Lists.{Contains-none, Contains-here, Contains-there, Contains-cons_cases}
use Rattle.rt_liveness.specs.contracts.rule.PortEq.TheImpl.Laws as port_laws
use Rattle.rt_proc.specs.declared.site.Kind.{Kind}
use Rattle.rt_proc.specs.declared.site.Kind.TheVariants as kind
use Rattle.rt_liveness.specs.declared.rule.Port.{Port}
use Rattle.rt_liveness.specs.declared.rule.When.{When}
use Rattle.rt_liveness.specs.declared.rule.When.TheVariants.{Never, Always, If}
use Rattle.rt_liveness.specs.Inside.Closures.{port_eq, is_met}
use Rattle.rt_liveness.specs.Inside.Conditions.{is_among, is_return, when_true}
use Rattle.rt_liveness.proofs.Following.{one_port}

module _ {X : Type 0} (p : X → Bool) where
  any_first : (x : X) (xs : List X) (b : Bool) → p x ≡ b → list_any p (x ∷ xs) ≡ true → (list_any p xs ≡ true → (y : X) × Contains xs y × (p y ≡ true)) → (y : X) × Contains (x ∷ xs) y × (p y ≡ true)
  any_first x xs true h e later = (x, Contains-here x xs, h)
  any_first x xs false h e later = let rest = later (sym (ap (λ (c : Bool). c || list_any p xs) h) ∙ e) in (rest.0, Contains-there x xs rest.0 rest.1, rest.2)

  -- a test that finds an item
  pub any_some : (xs : List X) → list_any p xs ≡ true → (x : X) × Contains xs x × (p x ≡ true)
  any_some [] e = absurd (true≢false (sym e))
  any_some (x ∷ xs) e = any_first x xs (p x) refl e (any_some xs)

  or_true : (b c : Bool) → c ≡ true → (b || c) ≡ true
  or_true true c e = refl
  or_true false c e = e

  pub some_any : (xs : List X) (x : X) → Contains xs x → p x ≡ true → list_any p xs ≡ true
  some_any [] x h e = absurd (Contains-none x h)
  some_any (y ∷ ys) x h e = elim (Contains-cons_cases y ys x h) [
    | inl same ↦ ap (λ (c : Bool). c || list_any p ys) (ap p same ∙ e)
    | inr there ↦ or_true (p y) (list_any p ys) (some_any ys x there e)
  ]

-- a register among some
pub among : (registers : List ℕ) (register : ℕ) → (is_among registers register ≡ true) ↔ Contains registers register
among registers register = (
  (λ e. let found = any_some (λ (r : ℕ). r == register) registers e in subst (Contains registers) ((Decides-eqb found.0 register).0 found.2) found.1),
  λ h. some_any (λ (r : ℕ). r == register) registers register h ((Decides-eqb register register).1 refl),
)

-- a condition holds, by what holds of ports
abbrev pub Holds : (Port → Type 0) → When → Type 0
Holds P Never = ⊥
Holds P Always = Unit {0}
Holds P (If port) = P port

pub holds_of : (P Q : Port → Type 0) → ((port : Port) → P port → Q port) → (when : When) → Holds P when → Holds Q when
holds_of P Q to Never h = absurd h
holds_of P Q to Always h = tt
holds_of P Q to (If port) h = to port h

-- a condition that is met
pub met : (found : List Port) (when : When) → (is_met found when ≡ true) ↔ Holds (Contains found) when
met found Never = ((λ e. true≢false (sym e)), λ h. absurd h)
met found Always = ((λ e. tt), λ h. refl)
met found (If port) = (Contains-from_any one_port port found, list_any-from_Contains port_laws.laws-law port found)

-- a condition that a test decides
pub holds_true : (P : Port → Type 0) (b : Bool) → Holds P (when_true b) → b ≡ true
holds_true P true h = refl
holds_true P false h = absurd h

pub true_holds : (P : Port → Type 0) (b : Bool) → b ≡ true → Holds P (when_true b)
true_holds P true e = tt
true_holds P false e = absurd (true≢false (sym e))

pub return_kind : (k : Kind) → is_return k ≡ true → k ≡ kind.Return
return_kind (kind.Plain insn) e = absurd (true≢false (sym e))
return_kind (kind.Call one link) e = absurd (true≢false (sym e))
return_kind kind.Return e = refl
return_kind kind.Stop e = absurd (true≢false (sym e))
