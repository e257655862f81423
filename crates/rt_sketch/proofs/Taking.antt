-- Steps of a node by letter after letter.
use Rattle.std.proofs.Common.{◌≡◌, ℕ, zero, suc, ◌⊎◌, inl, inr, ◌+◌, ◌<◌, ◌≤◌, Bool, true, false, Option, Some, None, MatchOption, List, [], ◌∷◌, ◌++◌, Contains, length, get_or, take, refl, sym, ap, subst, ◌∙◌, arith}
use Rattle.std.specs.List.{slice_get, IsDistinct, AllByRecursion}
use Rattle.std.proofs.lemmas.List.{take_more}
use Rattle.std.proofs.lemmas.List.Elements.{Contains-push, Contains-push_cases, Contains-append_left}
use Rattle.std.proofs.lemmas.Option.{slice_get_cases}
use Rattle.std.proofs.lemmas.Map.Keys.{IsDistinct-head, IsDistinct-tail}
use Rattle.rt_base.proofs.Lists.{Contains-none, Contains-here, Contains-there, Contains-cons_cases}
use Rattle.rt_lines.specs.declared.label.Label.{Label}
use Rattle.rt_lines.specs.declared.variable.Dtv.{Dtv}
use Rattle.rt_lines.specs.declared.line.Line.{Line}
use Rattle.rt_lines.specs.declared.line.Line.TheVariants.{Var}
use Rattle.rt_lines.specs.Equality.{label_eq}
use Rattle.rt_lines.specs.Orders.{Below}
use Rattle.rt_lines.proofs.Equal.{label_equal}
use Rattle.rt_rules.specs.Rules.{longer, Derivable}
use Rattle.rt_tree.specs.Trees.{Nodes, step_of}
use Rattle.rt_sketch.specs.declared.machine.Machine.{Machine}
use Rattle.rt_sketch.specs.declared.state.State.{State}
use Rattle.rt_sketch.specs.Growths.{HasMarks, HasNextAt, HasTaken, IsGrown, IsGrowing, IsMore, IsOnWay, IsStep, IsTaken}
use Rattle.rt_sketch.specs.States.{Denotes}
use Rattle.rt_lines.proofs.Same.{label_self}

-- letters that are distinct don't come back
first_apart : (l : Label) (letters : List Label) (i : ℕ) (d : Label) → i < length letters → AllByRecursion (λ k. label_eq l k ≡ false) letters → l ≡ get_or letters i d → ⊥
first_apart l [] i d h all e = omega arith
first_apart l (k ∷ letters) zero d h all e =
    let f : label_eq l k ≡ false = all.0 in
    let g : label_eq l l ≡ label_eq l k = ap (label_eq l) e in
    let u : label_eq l l ≡ true = label_self l in
    cc
first_apart l (k ∷ letters) (suc i) d h all e = first_apart l letters i d (omega arith) all.1 e

pub fresh : (letters : List Label) (i : ℕ) (d : Label) → i < length letters → IsDistinct label_eq letters → Contains (take i letters) (get_or letters i d) → ⊥
fresh [] i d h distinct c = omega arith
fresh (k ∷ letters) zero d h distinct c = Contains-none k c
fresh (k ∷ letters) (suc i) d h distinct c = elim (Contains-cons_cases k (take i letters) (get_or letters i d) c) [
  | inl e ↦ first_apart k letters i d (omega arith) (IsDistinct-head label_eq k letters distinct) e
  | inr g ↦ fresh letters i d (omega arith) (IsDistinct-tail label_eq k letters distinct) g
]

-- a letter is one of these or not
contained : (letters : List Label) (l : Label) → Contains letters l ⊎ (Contains letters l → ⊥)
contained [] l = inr (λ c. Contains-none l c)
contained (k ∷ letters) l = by (label_eq k l) refl (contained letters l)
  where
    unlike : label_eq k l ≡ false → k ≡ l → ⊥
    unlike e f =
        let g : label_eq k k ≡ label_eq k l = ap (label_eq k) f in
        let u : label_eq k k ≡ true = label_self k in
        cc

    by : (b : Bool) → label_eq k l ≡ b → Contains letters l ⊎ (Contains letters l → ⊥) → Contains (k ∷ letters) l ⊎ (Contains (k ∷ letters) l → ⊥)
    by true e rest = inl (subst (Contains (k ∷ letters)) (label_equal k l e) (Contains-here k letters))
    by false e (inl c) = inl (Contains-there k letters l c)
    by false e (inr n) = inr (λ c. elim (Contains-cons_cases k letters l c) [ inl f ↦ unlike e f | inr d ↦ n d ])

module _ (number : ℕ) (gone : List Label) (l : Label) (states : List State) (tree : Nodes) (after : List State) (new : Nodes)
    (taken : HasTaken number gone states tree) (more : IsMore number l states tree after new) where
  still : (n : ℕ) (k : Label) → IsTaken number gone n k → IsTaken number (gone ++ l ∷ []) n k
  still n k (inl less) = inl less
  still n k (inr h) = inr (h.0, Contains-append_left gone (l ∷ []) k h.1)

  pub taken_next : HasTaken number (gone ++ l ∷ []) after new
  taken_next = record {
    each = more.each;
    rest = λ n k free. more.others n k (λ h. free (inr (h.0, subst (Contains (gone ++ l ∷ [])) (sym h.1) (Contains-push gone l)))) ∙ taken.rest n k (λ h. free (still n k h));
  }

  module _ (order : Below) (lines : List Line) (machine : Machine) (inside : number < length tree) (missing : Contains gone l → ⊥) where
    found : (x : Dtv) (k : Label) (o : Option ℕ) → MatchOption o ((order : Below) → Derivable order lines (Var (longer x k)) → ⊥) (λ m. (t : State) × (slice_get states m ≡ Some t) × Denotes lines machine t (longer x k)) →
        MatchOption o ((order : Below) → Derivable order lines (Var (longer x k)) → ⊥) (λ m. (t : State) × (slice_get after m ≡ Some t) × Denotes lines machine t (longer x k))
    found x k None h = h
    found x k (Some m) h = (h.0, more.kept m h.0 h.1, h.2)

    earlier : (n : ℕ) (k : Label) → n < length tree → ((n ≡ number) × (k ≡ l) → ⊥) → IsStep lines machine states tree n k → IsStep lines machine after new n k
    earlier n k less apart was s x e d =
        let each : length tree ≡ length states = taken.each in
        elim (slice_get_cases states n).1 [
          | inl r ↦ (let same : Some r.0 ≡ Some s = sym (more.kept n r.0 r.2) ∙ e in
              let is : slice_get states n ≡ Some s = r.2 ∙ same in
              subst (λ o. MatchOption o ((order : Below) → Derivable order lines (Var (longer x k)) → ⊥) (λ m. (t : State) × (slice_get after m ≡ Some t) × Denotes lines machine t (longer x k))) (sym (more.others n k apart))
              (found x k (step_of tree n k) (was s x is d)))
          | inr r ↦ absurd (let past = r.0 in omega arith)
        ]

    pub way_next : IsOnWay order lines machine number gone states tree → HasMarks order lines machine after new → IsStep lines machine after new number l → IsOnWay order lines machine number (gone ++ l ∷ []) after new
    way_next way marks step = record { marks = marks; steps = steps }
      where
        last : (k : Label) → Contains gone k ⊎ (l ≡ k) → IsStep lines machine after new number k
        last k (inl c) = earlier number k inside (λ h. missing (subst (Contains gone) h.1 c)) (way.steps number k (inr (refl, c)))
        last k (inr e) = subst (IsStep lines machine after new number) e step

        steps : (n : ℕ) (k : Label) → IsTaken number (gone ++ l ∷ []) n k → IsStep lines machine after new n k
        steps n k (inl less) = earlier n k (omega arith) (λ h. let e = h.0 in omega arith) (way.steps n k (inl less))
        steps n k (inr h) = subst (λ i. IsStep lines machine after new i k) (sym h.0) (last k (Contains-push_cases gone l k h.1))

-- all letters are gone
pub taken_all : (number : ℕ) (letters : List Label) (states : List State) (tree : Nodes) → HasTaken number letters states tree → HasTaken (number + 1) [] states tree
taken_all number letters states tree taken = record { each = taken.each; rest = λ n l free. taken.rest n l (λ h. free (inl (wider n l h))) }
  where
    wider : (n : ℕ) (l : Label) → IsTaken number letters n l → n < number + 1
    wider n l (inl less) = omega arith
    wider n l (inr h) = let e = h.0 in omega arith

module _ (order : Below) (lines : List Line) (machine : Machine) (number : ℕ) (letters : List Label) (states : List State) (tree : Nodes)
    (taken : HasTaken number letters states tree) (next : HasNextAt lines machine states number letters) (way : IsOnWay order lines machine number letters states tree) where
  last_step : (l : Label) → Contains letters l ⊎ (Contains letters l → ⊥) → IsStep lines machine states tree number l
  last_step l (inl c) s x e d = way.steps number l (inr (refl, c)) s x e d
  last_step l (inr not) s x e d =
      let none : step_of tree number l ≡ None = taken.rest number l untaken in
      subst (λ o. MatchOption o ((order : Below) → Derivable order lines (Var (longer x l)) → ⊥) (λ m. (t : State) × (slice_get states m ≡ Some t) × Denotes lines machine t (longer x l))) (sym none)
      (λ other h. not (next other s x l e d h))
    where
      untaken : IsTaken number letters number l → ⊥
      untaken (inl less) = omega arith
      untaken (inr h) = not h.1

  pub way_all : IsOnWay order lines machine (number + 1) [] states tree
  way_all = record { marks = way.marks; steps = steps }
    where
      split : (n : ℕ) → n < number + 1 → (n < number) ⊎ (n ≡ number)
      split n h = grind (arith, h)

      steps : (n : ℕ) (l : Label) → IsTaken (number + 1) [] n l → IsStep lines machine states tree n l
      steps n l (inr h) = absurd (Contains-none l h.1)
      steps n l (inl less) = elim (split n less) [
        | inl h ↦ way.steps n l (inl h)
        | inr e ↦ subst (λ i. IsStep lines machine states tree i l) (sym e) (last_step l (contained letters l))
      ]

-- states stay, and so does what is behind one of them
pub next_later : (lines : List Line) (machine : Machine) (old states : List State) (number : ℕ) (letters : List Label) → number < length old →
    ((n : ℕ) (s : State) → slice_get old n ≡ Some s → slice_get states n ≡ Some s) → HasNextAt lines machine old number letters → HasNextAt lines machine states number letters
next_later lines machine old states number letters less kept next order s x l e d v =
    elim (slice_get_cases old number).1 [
      | inl r ↦ (let same : Some r.0 ≡ Some s = sym (kept number r.0 r.2) ∙ e in
          let is : slice_get old number ≡ Some s = r.2 ∙ same in
          next order s x l is d v)
      | inr r ↦ absurd (let past = r.0 in omega arith)
    ]

-- what is kept while letters are gone through
pub record IsExpanding (number : ℕ) (gone : List Label) (states : List State) (after : List State) (new : Nodes) : Type 0 where
  pub taken : HasTaken number gone after new
  pub inside : number < length new
  pub kept : (n : ℕ) (s : State) → slice_get states n ≡ Some s → slice_get after n ≡ Some s

pub expanding_next : (number : ℕ) (items : List Label) (i : ℕ) (d : Label) (first states : List State) (tree : Nodes) (after : List State) (new : Nodes) → i < length items →
    IsExpanding number (take i items) first states tree → IsMore number (get_or items i d) states tree after new → IsExpanding number (take (i + 1) items) first after new
expanding_next number items i d first states tree after new less was more = record {
  taken = subst (λ gone. HasTaken number gone after new) (sym (take_more items i d less)) (taken_next number (take i items) (get_or items i d) states tree after new was.taken more);
  inside = let a = was.inside in let b = more.long in omega arith;
  kept = λ n s e. more.kept n s (was.kept n s e);
}

pub free_next : (number : ℕ) (letters items : List Label) (i : ℕ) (d : Label) (states : List State) (tree : Nodes) → items ≡ letters → i < length items → IsDistinct label_eq letters → HasTaken number (take i items) states tree →
    step_of tree number (get_or items i d) ≡ None
free_next number letters items i d states tree same less distinct taken = taken.rest number (get_or items i d) untaken
  where
    untaken : IsTaken number (take i items) number (get_or items i d) → ⊥
    untaken (inl h) = omega arith
    untaken (inr h) = fresh items i d less (subst (IsDistinct label_eq) (sym same) distinct) h.1

pub way_expanded : (order : Below) (lines : List Line) (machine : Machine) (number : ℕ) (letters items : List Label) (i : ℕ) (d : Label) (states : List State) (tree : Nodes) (after : List State) (new : Nodes) →
    items ≡ letters → i < length items → IsDistinct label_eq letters → HasTaken number (take i items) states tree → number < length tree → IsMore number (get_or items i d) states tree after new →
    IsOnWay order lines machine number (take i items) states tree → HasMarks order lines machine after new → IsStep lines machine after new number (get_or items i d) → IsOnWay order lines machine number (take (i + 1) items) after new
way_expanded order lines machine number letters items i d states tree after new same less distinct taken inside more way marks step =
    subst (λ gone. IsOnWay order lines machine number gone after new) (sym (take_more items i d less))
    (way_next number (take i items) (get_or items i d) states tree after new taken more order lines machine inside (fresh items i d less (subst (IsDistinct label_eq) (sym same) distinct)) way marks step)

-- all nodes are gone through
pub grown_at : (order : Below) (lines : List Line) (machine : Machine) (first : State) (number : ℕ) (states : List State) (tree : Nodes) → number ≡ length tree → HasTaken number [] states tree → slice_get states 0 ≡ Some first →
    IsOnWay order lines machine number [] states tree → IsGrown order lines machine first tree
grown_at order lines machine first number states tree e taken begins way =
    record { states = states; begins = begins; growing = subst (IsGrowing order lines machine states tree) (e ∙ taken.each) growing }
  where
    untaken : (n : ℕ) (l : Label) → number ≤ n → IsTaken number [] n l → ⊥
    untaken n l h (inl less) = omega arith
    untaken n l h (inr c) = Contains-none l c.1

    growing : IsGrowing order lines machine states tree number
    growing = record { each = taken.each; marks = way.marks; steps = λ n l less. way.steps n l (inl less); rest = λ n l h. taken.rest n l (untaken n l h) }
