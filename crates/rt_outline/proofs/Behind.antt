-- Loads and stores behind variables, one after the other.
use Rattle.std.proofs.Common.{◌≡◌, ℕ, inl, inr, true, List, [], ◌∷◌, ◌++◌, Option, Some, None, refl, sym, ap, subst, ◌∙◌, append_assoc}
use Rattle.std.specs.Prelude.{is_some}
use Rattle.std.proofs.lemmas.List.{append-nil}
use Rattle.std.proofs.lemmas.List.Elements.{Contains-append_cases}
use Rattle.rt_base.proofs.Lists.{Contains-none, Contains-cons_cases}
use Rattle.rt_lines.specs.declared.label.Label.TheVariants.{Load, Store}
use Rattle.rt_lines.specs.declared.variable.Dtv.{Dtv}
use Rattle.rt_lines.specs.declared.line.Line.{Line}
use Rattle.rt_lines.specs.declared.line.Line.TheVariants.{Var}
use Rattle.rt_lines.specs.Orders.{Below}
use Rattle.rt_rules.specs.Rules.{longer, Derivable}
use Rattle.rt_shape.specs.Graphs.{Graph, node_of, step_of}
use Rattle.rt_shape.specs.Shapes.{IsShapeOf}
use Rattle.rt_shape.proofs.ReadWrite.{read_write_lem}
use Rattle.rt_outline.specs.Accesses.{AreAdded, AreThereBehind}
use Rattle.rt_named.specs.Nodes.{flips_at}
use Rattle.std.proofs.lemmas.Bool.{and_parts}

pub added_none : (graph : Graph) (old new : List Dtv) → new ≡ old → AreAdded graph old new
added_none graph old new e = record {
  more = [];
  behind = e ∙ sym (append-nil old);
  there = λ lines shape order x c. absurd (Contains-none x c);
}

pub added_then : (graph : Graph) (old mid new : List Dtv) → AreAdded graph old mid → AreAdded graph mid new → AreAdded graph old new
added_then graph old mid new a b = record {
  more = a.more ++ b.more;
  behind = b.behind ∙ ap (λ (xs : List Dtv). xs ++ b.more) a.behind ∙ append_assoc old a.more b.more;
  there = λ lines shape order x c. (elim (Contains-append_cases a.more b.more x c) [
    | inl d ↦ a.there lines shape order x d
    | inr d ↦ b.there lines shape order x d
  ]);
}

accesses_there : (lines : List Line) (graph : Graph) (order : Below) (x : Dtv) → IsShapeOf lines graph → (o : Option ℕ) → node_of graph x ≡ o →
    flips_at graph o ≡ true → Derivable order lines (Var (longer x Load)) × Derivable order lines (Var (longer x Store))
accesses_there lines graph order x shape None e f = absurd (cc)
accesses_there lines graph order x shape (Some n) e f =
    let p : (is_some (step_of graph n Load) ≡ true) × (is_some (step_of graph n Store) ≡ true) =
    and_parts (is_some (step_of graph n Load)) (is_some (step_of graph n Store)) f in
    (read_write_lem lines graph order x n shape e).0 (p.0, p.1)

-- the load and the store of what can be read and written through
pub added_accesses : (graph : Graph) (x load store : Dtv) (old mid new : List Dtv) → flips_at graph (node_of graph x) ≡ true →
    load ≡ longer x Load → store ≡ longer x Store → mid ≡ old ++ load ∷ [] → new ≡ mid ++ store ∷ [] → AreAdded graph old new
added_accesses graph x load store old mid new f is_load is_store first second = record {
  more = load ∷ store ∷ [];
  behind = second ∙ ap (λ (xs : List Dtv). xs ++ store ∷ []) first ∙ append_assoc old (load ∷ []) (store ∷ []);
  there = λ lines shape order y c. (
      let d = accesses_there lines graph order x shape (node_of graph x) refl f in
      elim (Contains-cons_cases load (store ∷ []) y c) [
        | inl e ↦ subst (λ z. Derivable order lines (Var z)) (sym is_load ∙ e) d.0
        | inr r ↦ (elim (Contains-cons_cases store [] y r) [
          | inl e ↦ subst (λ z. Derivable order lines (Var z)) (sym is_store ∙ e) d.1
          | inr s ↦ absurd (Contains-none y s)
        ])
      ]
      );
}

-- by the lines of the shape
pub there_behind : (lines : List Line) (graph : Graph) (old new : List Dtv) → IsShapeOf lines graph → AreAdded graph old new → AreThereBehind lines old new
there_behind lines graph old new shape a = record { more = a.more; behind = a.behind; there = a.there lines shape }
