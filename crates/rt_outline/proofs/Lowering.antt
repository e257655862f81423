-- Ways of derivable arcs, with what is pushed from them, are derivable.
use Rattle.std.proofs.Common.{ℕ, ◌<◌, List, Some, length, sym, subst, arith}
use Rattle.std.proofs.lemmas.Option.{slice_get_within}
use Rattle.rt_lines.specs.declared.label.Label.{Label}
use Rattle.rt_lines.specs.declared.variable.Dtv.{Dtv}
use Rattle.rt_lines.specs.declared.line.Line.{Line}
use Rattle.rt_lines.specs.declared.line.Line.TheVariants.{Var, Sub}
use Rattle.rt_lines.specs.Orders.{Below}
use Rattle.rt_rules.specs.Rules.{longer, Derivable}
use Rattle.rt_rules.specs.Rules.Derivable.{sub_self, sub_chain, sub_co, sub_contra}
use Rattle.rt_outline.specs.Frames.{Origins, IsMade, AreOriginsOf, Ways, variable_at}
use Rattle.rt_outline.specs.Frames.Ways.{arc, stay, chain, co, contra}

module _ (order : Below) (lines : List Line) (named : List Dtv) (origins : Origins) (are : AreOriginsOf named origins)
    (there : (n : ℕ) → n < length named → Derivable order lines (Var (variable_at named n))) (Edge : ℕ → ℕ → Type 0)
    (within : (v w : ℕ) → Edge v w → w < length named)
    (sound : (v w : ℕ) → Edge v w → Derivable order lines (Sub (variable_at named v) (variable_at named w))) where
  made_within : (n p : ℕ) (l : Label) → IsMade origins n p l → n < length named
  made_within n p l m = let h : n < length origins = slice_get_within origins n (Some (p, l)) m in omega (arith, h, are.each)

  parent_within : (n p : ℕ) (l : Label) → IsMade origins n p l → p < length named
  parent_within n p l m = let h : p < n = (are.only n p l m).0 in let k : n < length named = made_within n p l m in omega (arith, h, k)

  pub ways_within : {v w : ℕ} → Ways origins Edge v w → v < length named → w < length named
  ways_within {v} {w} (arc e) h = within v w e
  ways_within stay h = h
  ways_within (chain a b) h = ways_within b (ways_within a h)
  ways_within {v} {w} (co {p = p} {q = q} {l = l} s m n a) h = made_within w q l n
  ways_within {v} {w} (contra {p = p} {q = q} {l = l} s m n a) h = made_within w q l n

  pub ways_below : {v w : ℕ} → Ways origins Edge v w → v < length named → Derivable order lines (Sub (variable_at named v) (variable_at named w))
  ways_below {v} {w} (arc e) h = sound v w e
  ways_below {v} stay h = sub_self (there v h)
  ways_below (chain a b) h = sub_chain (ways_below a h) (ways_below b (ways_within a h))
  ways_below {v} {w} (co {p = p} {q = q} {l = l} s m n a) h =
      subst (λ x. Derivable order lines (Sub x (variable_at named w))) (sym (are.only v p l m).1)
      (subst (λ y. Derivable order lines (Sub (longer (variable_at named p) l) y)) (sym (are.only w q l n).1)
      (sub_co l (ways_below a (parent_within v p l m)) (subst (λ x. Derivable order lines (Var x)) (are.only w q l n).1 (there w (made_within w q l n))) s))
  ways_below {v} {w} (contra {p = p} {q = q} {l = l} s m n a) h =
      subst (λ x. Derivable order lines (Sub x (variable_at named w))) (sym (are.only v p l m).1)
      (subst (λ y. Derivable order lines (Sub (longer (variable_at named p) l) y)) (sym (are.only w q l n).1)
      (sub_contra l (ways_below a (parent_within w q l n)) (subst (λ x. Derivable order lines (Var x)) (are.only v p l m).1 (there v h)) s))
