-- The classes that begin with the existentials that lead out.
use Rattle.std.proofs.Common.{◌≡◌, ℕ, ◌⊎◌, inl, inr, List, Bool, true, false, refl, sym, ap, ◌∙◌}
use Rattle.rt_lines.specs.declared.label.Variance.{Variance}
use Rattle.rt_lines.specs.declared.variable.Base.TheVariants.{Exist}
use Rattle.rt_lines.specs.declared.line.Line.{Line}
use Rattle.rt_rules.specs.Laws.{NamesBase}
use Rattle.rt_refine.specs.Groups.{IsGrouped, IsNamed}
use Rattle.rt_refine.proofs.Shaping.{key_one}
use Rattle.rt_twins.specs.Inside.Leading.{lead_key, DoLead}
use Rattle.rt_twins.specs.Inside.Splits.{AreClasses}
use Rattle.rt_twins.specs.Twinnings.{LeadsOut}
use Rattle.rt_twins.proofs.OneTwinning.{leads_named}

module _ (sign : Variance) (lines : List Line) where
  -- the classes of those that lead out, all in one, and of the others alone
  module _ (out : ℕ → Bool) (known : DoLead sign lines out) (class : ℕ → ℕ)
      (is : IsGrouped (λ n. lead_key (out n) n) (IsNamed lines) class) where
    is_named : (n : ℕ) → LeadsOut sign lines n → IsNamed lines n
    is_named n l = let h : NamesBase lines (Exist n) = leads_named sign lines n l in (h.0, h.2, (h.1, h.3, h.4))

    one_key : (v w : ℕ) (a b : Bool) → out v ≡ a → out w ≡ b → lead_key a v ≡ lead_key b w → (v ≡ w) ⊎ LeadsOut sign lines v
    one_key v w true b e f g = inr ((known v).0 e)
    one_key v w false true e f g = absurd (cc)
    one_key v w false false e f g = let h : v ≡ w = cc in inl h

    pub leading_classes : AreClasses sign lines class
    leading_classes = record {
      least = is.least;
      own = is.own;
      alone = is.alone;
      leads = λ v w e. leads v w (key_one (λ n. lead_key (out n) n) (IsNamed lines) class is v w e);
      widest = λ other o v w e. widest v w (o.leads v w e) (o.leads w v (sym e));
    }
      where
        leads : (v w : ℕ) → (v ≡ w) ⊎ (lead_key (out v) v ≡ lead_key (out w) w) → (v ≡ w) ⊎ LeadsOut sign lines v
        leads v w (inl e) = inl e
        leads v w (inr e) = one_key v w (out v) (out w) refl refl e

        widest : (v w : ℕ) → (v ≡ w) ⊎ LeadsOut sign lines v → (w ≡ v) ⊎ LeadsOut sign lines w → class v ≡ class w
        widest v w (inl e) b = ap class e
        widest v w (inr a) (inl e) = ap class (sym e)
        widest v w (inr a) (inr b) = is.one v w (is_named v a) (is_named w b)
            (ap (λ t. lead_key t v) ((known v).1 a) ∙ sym (ap (λ t. lead_key t w) ((known w).1 b)))
