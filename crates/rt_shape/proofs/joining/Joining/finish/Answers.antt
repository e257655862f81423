use Rattle.std.proofs.Common.{◌≡◌, ℕ, ◌<◌, List, [], ◌∷◌, ◌++◌, Contains, sym, subst, ◌∙◌, append-nil}
use Rattle.std.proofs.lemmas.List.Elements.{Contains-append_left, Contains-push}
use Rattle.rt_lines.specs.declared.label.Label.{Label}
use Rattle.rt_shape.specs.Graphs.{Graph}
use Rattle.rt_shape.specs.Inside.Classes.{Joined}
use Rattle.rt_shape.specs.Inside.Joins.{AreSound}
use Rattle.rt_shape.proofs.Sound.{sound-todo}
use Rattle.rt_shape.proofs.joining.Joining.finish.Goals as goal

-- a pair taken off the end
popped : (graph : Graph) (pairs : List (ℕ × ℕ)) (class : List ℕ) (members : List (List ℕ)) (letters : List (List (Label × ℕ))) (first : List ((ℕ × Label) × ℕ)) (todo rest : List (ℕ × ℕ)) (i j : ℕ) →
    AreSound graph pairs class members letters first todo → todo ≡ rest ++ (i, j) ∷ [] → AreSound graph pairs class members letters first rest × (i < graph.count) × (j < graph.count) × Joined graph pairs i j
popped graph pairs class members letters first todo rest i j sound e =
    let last = sound.todo_joined i j (subst (λ ps. Contains ps (i, j)) (sym e) (Contains-push rest (i, j))) in
    (sound-todo graph pairs class members letters first todo sound rest (λ m n h. sound.todo_joined m n (subst (λ ps. Contains ps (m, n)) (sym e) (Contains-append_left rest ((i, j) ∷ []) (m, n) h))), last.0, last.1, last.2)

pub join-requires : goal.join-requires
join-requires c =
    let r = c.requires in
    let s = c.loop-i.self in
    let p = popped r.0 r.1 s.class.items s.members.items s.letters.items s.first.entries s.todo.items c.pop.new.self.items c.in-Some.i c.in-Some.j (c.loop-i.invariant r.0 r.1 r.2) c.in-Some.ensures.items in
    (r.0, r.1, p.0, p.1, p.2, p.3)

pub loop-i-preserved : goal.loop-i-preserved
loop-i-preserved c = λ graph pairs sound.
    let s = c.loop-i.self in
    let p = popped graph pairs s.class.items s.members.items s.letters.items s.first.entries s.todo.items c.pop.new.self.items c.in-Some.i c.in-Some.j (c.loop-i.invariant graph pairs sound) c.in-Some.ensures.items in
    c.in_ok-join.ensures.sound graph pairs p.0 p.3

pub returns : goal.returns
returns c = λ graph pairs sound.
    let s = c.loop-i.self in
    subst (AreSound graph pairs s.class.items s.members.items s.letters.items s.first.entries) (c.in_default.ensures.items ∙ append-nil c.pop.new.self.items) (c.loop-i.invariant graph pairs sound)
