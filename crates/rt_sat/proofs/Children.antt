-- Children of variables, entered one by one.
use Rattle.std.proofs.Common.{◌≡◌, ℕ, ◌+◌, ◌<◌, ◌≤◌, ◌⊎◌, inl, inr, List, [], ◌∷◌, ◌++◌, Contains, length, get_or, set, sym, ap, subst, ◌∙◌, arith, get_or-set_same, get_or-set_other}
use Rattle.std.proofs.Math.ListN.{length-set}
use Rattle.std.proofs.lemmas.Bool.{cases_eq}
use Rattle.std.proofs.lemmas.List.Elements.{Contains-append_left, Contains-push, Contains-push_cases}
use Rattle.rt_lines.specs.declared.label.Label.{Label}
use Rattle.rt_lines.specs.declared.variable.Base.{Base}
use Rattle.rt_lines.specs.declared.variable.Dtv.{Dtv}
use Rattle.rt_rules.proofs.Lists.{Contains-none}
use Rattle.rt_rules.specs.Rules.{longer}
use Rattle.rt_sat.specs.Numbered.{at_number, AreDistinct}
use Rattle.rt_sat.specs.Pushes.{AreChildren}
use Rattle.rt_sat.proofs.Numbered.{number_one}
use Rattle.rt_named.proofs.Making.{no_base, last_letter}

-- the children below a number are entered
pub record AreChildrenTo (known : List Dtv) (number : ℕ) (children : List (List ℕ)) : Type 0 where
  pub size : length children ≡ length known
  pub within : (v j : ℕ) → Contains (get_or children v []) j → j < number
  pub all : (v j : ℕ) (l : Label) → v < length known → j < number → at_number known j ≡ longer (at_number known v) l → Contains (get_or children v []) j

pub children_none : (known : List Dtv) (children : List (List ℕ)) → length children ≡ length known → ((v : ℕ) → get_or children v [] ≡ []) → AreChildrenTo known 0 children
children_none known children e none = record {
  size = e;
  within = λ v j c. absurd (Contains-none j (subst (λ xs. Contains xs j) (none v) c));
  all = λ v j l h k f. absurd (omega (arith, k));
}

pub children_whole : (known : List Dtv) (number : ℕ) (children : List (List ℕ)) → length known ≤ number → number ≤ length known → AreChildrenTo known number children → AreChildren known children
children_whole known number children h k are = record {
  within = λ v j c. (let less : j < number = are.within v j c in omega arith);
  all = λ v j l i m e. are.all v j l i (omega (arith, m, h)) e;
}

-- a variable without a letter
pub children_bare : (known : List Dtv) (number : ℕ) (b : Base) (children : List (List ℕ)) → at_number known number ≡ record { base = b; word = [] } → AreChildrenTo known number children → AreChildrenTo known (number + 1) children
children_bare known number b children e are = record {
  size = are.size;
  within = λ v j c. (let less : j < number = are.within v j c in omega arith);
  all = λ v j l h k f. by v j l h k f (cases_eq j number);
}
  where
    by : (v j : ℕ) (l : Label) → v < length known → j < number + 1 → at_number known j ≡ longer (at_number known v) l → (j ≡ number) ⊎ (j ≡ number → ⊥) → Contains (get_or children v []) j
    by v j l h k f (inl g) = absurd (no_base (at_number known v) l b (sym f ∙ ap (at_number known) g ∙ e))
    by v j l h k f (inr n) = are.all v j l h (omega arith) f

-- a variable with a letter more
pub children_more : (known : List Dtv) → AreDistinct known → (number parent : ℕ) (m : Label) (children : List (List ℕ)) (now : List ℕ) → number < length known → parent < number → at_number known number ≡ longer (at_number known parent) m →
    now ≡ get_or children parent [] ++ number ∷ [] → AreChildrenTo known number children → AreChildrenTo known (number + 1) (set children parent now)
children_more known apart number parent m children now h less e grown are = record {
  size = simp length-set are.size;
  within = λ v j c. within v j c (cases_eq v parent);
  all = λ v j l i k f. all v j l i k f (cases_eq j number) (cases_eq v parent);
}
  where
    room : parent < length children
    room = omega (arith, are.size)

    here : get_or (set children parent now) parent [] ≡ get_or children parent [] ++ number ∷ []
    here = get_or-set_same children parent now [] room ∙ grown

    there : (v : ℕ) → (v ≡ parent → ⊥) → get_or (set children parent now) v [] ≡ get_or children v []
    there v n = get_or-set_other children parent v now [] n

    within : (v j : ℕ) → Contains (get_or (set children parent now) v []) j → (v ≡ parent) ⊎ (v ≡ parent → ⊥) → j < number + 1
    within v j c (inl g) =
        elim (Contains-push_cases (get_or children parent []) number j (subst (λ xs. Contains xs j) (ap (λ u. get_or (set children parent now) u []) g ∙ here) c)) [
          | inl d ↦ (let k : j < number = are.within parent j d in omega arith)
          | inr f ↦ omega arith
        ]
    within v j c (inr n) = let k : j < number = are.within v j (subst (λ xs. Contains xs j) (there v n) c) in omega arith

    all : (v j : ℕ) (l : Label) → v < length known → j < number + 1 → at_number known j ≡ longer (at_number known v) l → (j ≡ number) ⊎ (j ≡ number → ⊥) → (v ≡ parent) ⊎ (v ≡ parent → ⊥) → Contains (get_or (set children parent now) v []) j
    all v j l i k f (inl g) (inl u) =
        subst (λ xs. Contains xs j) (sym (ap (λ w. get_or (set children parent now) w []) u ∙ here)) (subst (Contains (get_or children parent [] ++ number ∷ [])) (sym g) (Contains-push (get_or children parent []) number))
    all v j l i k f (inl g) (inr n) =
        let p : (at_number known parent ≡ at_number known v) × (m ≡ l) = last_letter (at_number known parent) (at_number known v) m l (sym e ∙ sym (ap (at_number known) g) ∙ f) in
        absurd (n (sym (number_one known apart parent v (omega (arith, less, h)) i p.0)))
    all v j l i k f (inr n) (inl u) =
        let d : Contains (get_or children v []) j = are.all v j l i (omega arith) f in
        subst (λ xs. Contains xs j) (sym (ap (λ w. get_or (set children parent now) w []) u ∙ here))
        (Contains-append_left (get_or children parent []) (number ∷ []) j (subst (λ w. Contains (get_or children w []) j) u d))
    all v j l i k f (inr n) (inr o) = subst (λ xs. Contains xs j) (sym (there v o)) (are.all v j l i (omega arith) f)
