use Rattle.std.proofs.Common.{◌≡◌, ℕ, Bool, true, false, cond, refl, sym, ap, subst, ◌∙◌}
use Rattle.std.specs.Ordering.{is_eq, nat_cmp, ordering_then}
use Rattle.rt_lines.specs.declared.variable.Base.{Base}
use Rattle.rt_lines.specs.declared.variable.Base.TheVariants.{Exist}
use Rattle.rt_polar.specs.Index.{has, IsBaseForgotten}
use Rattle.rt_polar.proofs.Pairs.{pair_equal, pair_self}
use Rattle.rt_polar.proofs.index.forget_base.Goals as goal

forgotten : (base : Base) (v slot : ℕ) (old new : ℕ → ℕ → Bool) → base ≡ Exist v → ((n i : ℕ) → new n i ≡ cond (is_eq (ordering_then (nat_cmp v n) (nat_cmp slot i))) false (old n i)) → IsBaseForgotten base slot old new
forgotten base v slot old new is updates = record {
  gone = λ n e h. let f : Exist v ≡ Exist n = sym is ∙ e in let g : v ≡ n = cc in let k : new v slot ≡ true = subst (λ m. new m slot ≡ true) (sym g) h in let no : new v slot ≡ false = updates v slot ∙ rw pair_self refl in cc;
  kept = λ n i h apart. updates n i ∙ by n i (is_eq (ordering_then (nat_cmp v n) (nat_cmp slot i))) refl h apart;
  source = λ n i h. was (is_eq (ordering_then (nat_cmp v n) (nat_cmp slot i))) (old n i) (sym (updates n i) ∙ h);
}
  where
    was : (t b : Bool) → cond t false b ≡ true → b ≡ true
    was true b h = cc
    was false b h = h

    by : (n i : ℕ) (t : Bool) → is_eq (ordering_then (nat_cmp v n) (nat_cmp slot i)) ≡ t → old n i ≡ true → (i ≡ slot → base ≡ Exist n → ⊥) → cond t false (old n i) ≡ true
    by n i true e h apart = let p = pair_equal v slot n i e in absurd (apart (sym p.1) (is ∙ ap Exist p.0))
    by n i false e h apart = h

pub returns-in-Exist : goal.returns-in-Exist
returns-in-Exist c = forgotten c.args.base c.in-Exist.v c.args.slot (has c.args.index.now) (has c.remove.new.self) c.in-Exist.is (λ n i. c.remove.ensures.updates.0 (n, i))
