use Rattle.std.proofs.Common.{◌≡◌, ◌⊎◌, inl, inr, ℕ, Bool, true, false, cond, refl, sym, subst, ◌∙◌}
use Rattle.std.specs.Ordering.{is_eq, nat_cmp, ordering_then}
use Rattle.rt_lines.specs.declared.variable.Base.{Base}
use Rattle.rt_lines.specs.declared.variable.Base.TheVariants.{Exist}
use Rattle.rt_lines.specs.declared.line.Line.{Line}
use Rattle.rt_polar.specs.declared.index.Kind.{Kind}
use Rattle.rt_polar.specs.Index.{has, IsBaseNoted, IsOfKind}
use Rattle.rt_polar.proofs.Pairs.{pair_equal, pair_self}
use Rattle.rt_polar.proofs.index.note_base.Goals as goal

noted : (kind : Kind) (l : Line) (base : Base) (v slot : ℕ) (old new : ℕ → ℕ → Bool) → base ≡ Exist v → IsOfKind kind v l →
    ((n i : ℕ) → new n i ≡ cond (is_eq (ordering_then (nat_cmp v n) (nat_cmp slot i))) true (old n i)) → IsBaseNoted kind l base slot old new
noted kind l base v slot old new is of updates = record {
  added = λ n e h. let f : Exist v ≡ Exist n = sym is ∙ e in let g : v ≡ n = cc in subst (λ m. new m slot ≡ true) g (updates v slot ∙ rw pair_self refl);
  kept = λ n i h. updates n i ∙ stays (is_eq (ordering_then (nat_cmp v n) (nat_cmp slot i))) (old n i) h;
  source = λ n i h. by n i (is_eq (ordering_then (nat_cmp v n) (nat_cmp slot i))) refl (sym (updates n i) ∙ h);
}
  where
    stays : (t b : Bool) → b ≡ true → cond t true b ≡ true
    stays true b h = refl
    stays false b h = h

    by : (n i : ℕ) (t : Bool) → is_eq (ordering_then (nat_cmp v n) (nat_cmp slot i)) ≡ t → cond t true (old n i) ≡ true → (old n i ≡ true) ⊎ ((i ≡ slot) × IsOfKind kind n l)
    by n i true e h = let p = pair_equal v slot n i e in inr (sym p.1, subst (λ m. IsOfKind kind m l) p.0 of)
    by n i false e h = inl h

pub returns-in_ok-insert : goal.returns-in_ok-insert
returns-in_ok-insert c =
    noted c.args.kind c.args.row.now c.args.base c.in-Exist.v c.args.slot (has c.args.index.now) (has c.insert.new.self) c.in-Exist.is (c.is_of_kind.ensures.0 c.if-is_of_kind.true)
    (λ n i. c.in_ok-insert.ensures.updates.0 (n, i))
