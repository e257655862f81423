use Rattle.std.proofs.Common.{◌≡◌, ℕ, ◌<◌, inl, inr, List, [], ◌∷◌, ◌++◌, Ok, Err, Result, sym, subst}
use Rattle.std.specs.Prelude.{OnOk}
use Rattle.rt_lines.specs.declared.label.Loc.{Loc}
use Rattle.rt_lines.specs.declared.label.Label.{Label}
use Rattle.rt_lines.specs.declared.label.Label.TheVariants.{In, Out, Load, Store, Field}
use Rattle.rt_lines.specs.Words.{IsLabel, IsLoc}
use Rattle.rt_header.specs.Inside.Ports.{AreArguments, IsNoted, index_of}
use Rattle.rt_header.proofs.Porting.{arguments_next, arguments_other}
use Rattle.rt_header.proofs.ports.note_edge.Goals as goal

on_ok : {P Q E : Type 0} (r : Result (Unit {0}) E) → (P → Q) → OnOk r P → OnOk r Q
on_ok (Ok t) f p = f p
on_ok (Err e) f p = tt

pub returns-in-In : goal.returns-in-In
returns-in-In c =
    let loc = c.in-In.loc in
    let is_loc : IsLoc loc = subst IsLabel c.in-In.is c.requires in
    on_ok c.note.result
    (λ noted edges are. subst (λ (l : Label). AreArguments (edges ++ (l, c.args.node) ∷ []) c.note.new.nodes.items) (sym c.in-In.is)
    (arguments_next edges c.args.node loc c.args.nodes.now.items c.note.new.nodes.items is_loc
    (subst (λ n. n < 16392) c.index.ensures.index c.index.ensures.within) are
    (subst (λ n. IsNoted c.args.nodes.now.items c.note.new.nodes.items n c.args.node) c.index.ensures.index noted)))
    c.note.ensures

no_out : (l : Label) (x : ℕ) (loc : Loc) → l ≡ Out x → l ≡ In loc → ⊥
no_out l x loc e f = cc

no_load : (l : Label) (loc : Loc) → l ≡ Load → l ≡ In loc → ⊥
no_load l loc e f = cc

no_store : (l : Label) (loc : Loc) → l ≡ Store → l ≡ In loc → ⊥
no_store l loc e f = cc

pub returns-in-Out : goal.returns-in-Out
returns-in-Out c = λ edges. arguments_other edges c.args.node c.args.label c.args.nodes.now.items (λ loc e. elim c.in-Out.is [
  | inl (x, f) ↦ no_out c.args.label x loc f e
  | inr p ↦ elim p [
    | inl f ↦ no_load c.args.label loc f e
    | inr q ↦ elim q [
      | inl f ↦ no_store c.args.label loc f e
      | inr f ↦ cc
    ]
  ]
])
