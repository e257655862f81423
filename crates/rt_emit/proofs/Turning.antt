-- A turn of writing the shape keeps what is known in between.
use Rattle.std.proofs.Common.{◌≡◌, ◌↔◌, ℕ, ◌⊎◌, inl, inr, Option, Some, None, IsSome, List, [], ◌∷◌, ◌++◌, Contains, Bool, true, false}
use Rattle.std.proofs.Common.{cond, nat_eq, refl, sym, ap, subst, ◌∙◌}
use Rattle.std.specs.Ordering.{nat_cmp}
use Rattle.std.specs.BTreeMap.{BTreeMap, get, is_at}
use Rattle.std.specs.Map.{lookup}
use Rattle.std.proofs.lemmas.List.Elements.{Contains-append_cases, Contains-append_left, Contains-append_right}
use Rattle.std.proofs.lemmas.Bool.{eqb-true, eq-eqb}
use Rattle.rt_base.proofs.Lists.{Contains-none, Contains-here, Contains-there, Contains-cons_cases, Contains-push_cases}
use Rattle.rt_lines.specs.declared.label.Label.{Label}
use Rattle.rt_lines.specs.declared.variable.Dtv.{Dtv}
use Rattle.rt_lines.specs.declared.line.Line.{Line}
use Rattle.rt_lines.specs.declared.line.Line.TheVariants.{Var, Same}
use Rattle.rt_lines.specs.Orders.{Below}
use Rattle.rt_lines.specs.contracts.variable.DtvEq.TheImpl.Laws as variable_laws
use Rattle.rt_rules.specs.Rules.{longer, Derivable}
use Rattle.rt_rules.specs.Rules.Derivable.{same_self}
use Rattle.rt_shape.specs.Graphs.{Graph, node_of, step_of, Has}
use Rattle.rt_shape.specs.Shapes.{IsShapeOf}
use Rattle.rt_shape.proofs.Walks.{node_of-longer}
use Rattle.rt_reduction.specs.Before.{comes_before}
use Rattle.rt_reduction.specs.Emits.{IsOfKept, IsWord, IsWritten, of_letter, IsShapeLine, first_side, AreShapeLines}
use Rattle.rt_reduction.proofs.Before.{before_chain}
use Rattle.rt_emit.specs.Inside.Bases.{AreFirst}
use Rattle.rt_emit.specs.Inside.Letters.{letters_at, AreLettersOf, IsReached}
use Rattle.rt_emit.specs.Inside.Queues.{IsPopped}
use Rattle.rt_emit.specs.Inside.Writing.{IsNext, line_by, IsTurn}
use Rattle.rt_emit.specs.Inside.Writing.IsTurn.{repeats, begins}
use Rattle.rt_emit.proofs.Ascending.{Rises, rises_behind}
use Rattle.rt_emit.proofs.Longer.{longer_after}
use Rattle.rt_emit.proofs.Wordings.{IsBefore, Said, IsWriting, first_line_by, first_word, of_written, node_there, there_of, one_shape}
use Rattle.rt_emit.proofs.Wordings.{is_some_of, are_shape_lines, begun}
use Rattle.rt_base.proofs.Options.{some_of}

itself : (x : Dtv) → line_by x x ≡ Var x
itself x = ap (λ t. cond t (Var x) (Same x x)) ((variable_laws.laws-law).refl x)

at_end : {X : Type 0} (xs : List X) (x : X) → Contains (xs ++ x ∷ []) x
at_end xs x = Contains-append_right xs (x ∷ []) x (Contains-here x [])

module _ (order : Below) (lines : List Line) (graph : Graph) (is_shape : IsShapeOf lines graph)
    (letters : ℕ → List Label) (words : ℕ → Option Dtv) (x : Dtv) (queue : List Dtv) (shape : List Line)
    (is : IsWriting order lines graph is_shape letters words (x ∷ queue) shape)
    (first : (y : Dtv) → Contains queue y → comes_before x y ≡ true) where
  abbrev L : Line → Type 0
  L j = Derivable order lines j

  abbrev SaidIn : (ℕ → Option Dtv) → List Line → Dtv → Type 0
  SaidIn = Said order lines graph is_shape

  is_written : IsWritten order lines x
  is_written = is.written x (Contains-here x queue)

  is_of : IsOfKept order lines x
  is_of = of_written order lines graph is_shape x is_written

  later : (y : Dtv) → Contains queue y → comes_before x y ≡ true
  later y c = first y c

  behind_first : (l : Line) → Contains shape l → comes_before (first_side l) x ≡ true
  behind_first l c = is.behind l x c (Contains-here x queue)

  -- the turn's variable is said, and what was in the queue or said stays so
  module _ (words' : ℕ → Option Dtv) (queue' : List Dtv) (l : Line) (said : SaidIn words' (shape ++ l ∷ []) x)
      (in_queue : (y : Dtv) → Contains queue y → Contains queue' y)
      (in_words : (n : ℕ) (w : Dtv) → words n ≡ Some w → words' n ≡ Some w) where
    stays : (y : Dtv) → Contains (x ∷ queue) y ⊎ SaidIn words shape y → Contains queue' y ⊎ SaidIn words' (shape ++ l ∷ []) y
    stays y (inl c) = by (Contains-cons_cases x queue y c)
      where
        by : (x ≡ y) ⊎ Contains queue y → Contains queue' y ⊎ SaidIn words' (shape ++ l ∷ []) y
        by (inl e) = inr (subst (SaidIn words' (shape ++ l ∷ [])) e said)
        by (inr d) = inl (in_queue y d)
    stays y (inr s) = inr (record {
      node = s.node;
      word = s.word;
      here = s.here;
      is_word = in_words s.node s.word s.is_word;
      line = Contains-append_left shape (l ∷ []) (line_by y s.word) s.line;
    })

  rises_on : (l : Line) → first_side l ≡ x → Rises IsBefore (shape ++ l ∷ [])
  rises_on l e = rises_behind IsBefore shape l is.rises (λ k c. subst (λ y. comes_before (first_side k) y ≡ true) (sym e) (behind_first k
      c))

  behind_on : (l k : Line) (y : Dtv) → first_side l ≡ x → comes_before x y ≡ true → Contains (shape ++ l ∷ []) k →
      comes_before (first_side k) y ≡ true
  behind_on l k y e less c = by (Contains-push_cases shape l k c)
    where
      by : Contains shape k ⊎ (l ≡ k) → comes_before (first_side k) y ≡ true
      by (inl d) = before_chain (first_side k) x y (behind_first k d) less
      by (inr f) = subst (λ m. comes_before (first_side m) y ≡ true) f (subst (λ z. comes_before z y ≡ true) (sym e) less)

  each_on : (l k : Line) → IsShapeLine order lines l → Contains (shape ++ l ∷ []) k → IsShapeLine order lines k
  each_on l k h c = by (Contains-push_cases shape l k c)
    where
      by : Contains shape k ⊎ (l ≡ k) → IsShapeLine order lines k
      by (inl d) = is.each k d
      by (inr f) = subst (IsShapeLine order lines) f h

  -- the variable's node has a word
  module _ (n : ℕ) (word : Dtv) (here : node_of graph x ≡ Some n) (is_word : words n ≡ Some word) where
    line : Line
    line = line_by x word

    worded : IsWord order lines word × (node_of graph word ≡ Some n)
    worded = is.worded n word is_word

    shape_line_by : IsShapeLine order lines (line_by x word)
    shape_line_by = record {
      variable = x;
      word = word;
      written = is_written;
      is_word = worded.0;
      one_shape = one_shape order lines graph is_shape x word n here worded.1;
      line = refl;
    }

    repeated : IsWriting order lines graph is_shape letters words queue (shape ++ line_by x word ∷ [])
    repeated = record {
      worded = is.worded;
      written = λ y c. is.written y (Contains-there x queue y c);
      whole = is.whole;
      only = is.only;
      bases = λ y h e. stays words queue (line_by x word) said (λ z c. c) (λ m w e. e) y (is.bases y h e);
      nexts = λ m y l e d. stays words queue (line_by x word) said (λ z c. c) (λ m w e. e) (longer y l) (is.nexts m y l e d);
      each = λ k c. each_on (line_by x word) k shape_line_by c;
      rises = rises_on (line_by x word) (first_line_by x word);
      behind = λ k y c d. behind_on (line_by x word) k y (first_line_by x word) (later y d) c;
    }
      where
        said : SaidIn words (shape ++ line_by x word ∷ []) x
        said = record { node = n; word = word; here = here; is_word = is_word; line = at_end shape (line_by x word) }

  -- the variable is the word of its node
  module _ (n : ℕ) (letters' : ℕ → List Label) (words' : ℕ → Option Dtv) (queue' : List Dtv)
      (here : node_of graph x ≡ Some n) (no_word : words n ≡ None)
      (word : (m : ℕ) → words' m ≡ cond (nat_eq n m) (Some x) (words m))
      (rest : (m : ℕ) → letters' m ≡ cond (nat_eq n m) [] (letters m))
      (next : (y : Dtv) → Contains queue' y ↔ (Contains queue y ⊎ IsNext x (letters n) y)) where
    none_some : (w : Dtv) → None ≡ Some w → ⊥
    none_some w f = cc

    some_one : (v w : Dtv) → Some v ≡ Some w → v ≡ w
    some_one v w f = cc

    here_word : words' n ≡ Some x
    here_word = word n ∙ ap (λ t. cond t (Some x) (words n)) (eq-eqb n n refl)

    kept_word : (m : ℕ) (w : Dtv) → words m ≡ Some w → words' m ≡ Some w
    kept_word m w e = word m ∙ by (nat_eq n m) refl
      where
        by : (t : Bool) → nat_eq n m ≡ t → cond t (Some x) (words m) ≡ Some w
        by true f = absurd (none_some w (sym no_word ∙ subst (λ k. words k ≡ Some w) (sym (eqb-true n m f)) e))
        by false f = e

    word_cases : (m : ℕ) (w : Dtv) → words' m ≡ Some w → ((n ≡ m) × (x ≡ w)) ⊎ (words m ≡ Some w)
    word_cases m w e = by (nat_eq n m) refl (sym (word m) ∙ e)
      where
        by : (t : Bool) → nat_eq n m ≡ t → cond t (Some x) (words m) ≡ Some w → ((n ≡ m) × (x ≡ w)) ⊎ (words m ≡ Some w)
        by true f g = inl (eqb-true n m f, some_one x w g)
        by false f g = inr g

    first_here : (y : Dtv) → Contains (x ∷ queue) y → (x ≡ y) ⊎ (comes_before x y ≡ true)
    first_here y c = by (Contains-cons_cases x queue y c)
      where
        by : (x ≡ y) ⊎ Contains queue y → (x ≡ y) ⊎ (comes_before x y ≡ true)
        by (inl e) = inl e
        by (inr d) = inr (later y d)

    is_word : IsWord order lines x
    is_word = first_word order lines graph is_shape letters words (x ∷ queue) shape is x n is_of here no_word first_here

    said : SaidIn words' (shape ++ Var x ∷ []) x
    said = record {
      node = n;
      word = x;
      here = here;
      is_word = here_word;
      line = subst (Contains (shape ++ Var x ∷ [])) (sym (itself x)) (at_end shape (Var x));
    }

    in_queue : (y : Dtv) → Contains queue y → Contains queue' y
    in_queue y c = (next y).1 (inl c)

    stay : (y : Dtv) → Contains (x ∷ queue) y ⊎ SaidIn words shape y → Contains queue' y ⊎ SaidIn words' (shape ++ Var x ∷ []) y
    stay = stays words' queue' (Var x) said in_queue kept_word

    next_there : (l : Label) → Contains (letters n) l → L (Var (longer x l))
    next_there l c =
        let s : (m : ℕ) × (step_of graph n l ≡ Some m) = some_of (step_of graph n l) (is.only n l (x, here) c) in
        there_of order lines graph is_shape (longer x l) s.0 (node_of-longer graph x l n here ∙ s.1)

    written_on : (y : Dtv) → Contains queue y ⊎ IsNext x (letters n) y → IsWritten order lines y
    written_on y (inl c) = is.written y (Contains-there x queue y c)
    written_on y (inr (l, c, e)) = subst (IsWritten order lines) (sym e) (of_letter x l is_word (next_there l c))

    later_on : (y : Dtv) → Contains queue y ⊎ IsNext x (letters n) y → comes_before x y ≡ true
    later_on y (inl c) = later y c
    later_on y (inr (l, c, e)) = subst (λ z. comes_before x z ≡ true) (sym e) (longer_after x l is_of.no_procedure)

    none_here : (m : ℕ) → words' m ≡ None → (nat_eq n m ≡ false) × (words m ≡ None)
    none_here m e = by (nat_eq n m) refl (sym (word m) ∙ e)
      where
        some_none : (w : Dtv) → Some w ≡ None → ⊥
        some_none w f = cc

        by : (t : Bool) → nat_eq n m ≡ t → cond t (Some x) (words m) ≡ None → (nat_eq n m ≡ false) × (words m ≡ None)
        by true f g = absurd (some_none x g)
        by false f g = (f, g)

    rest_at : (m : ℕ) → nat_eq n m ≡ false → letters' m ≡ letters m
    rest_at m e = rest m ∙ ap (λ t. cond t [] (letters m)) e

    whole_on : (m : ℕ) (l : Label) → IsReached graph m → words' m ≡ None → IsSome (step_of graph m l) → Contains (letters' m) l
    whole_on m l y e h =
        let p : (nat_eq n m ≡ false) × (words m ≡ None) = none_here m e in
        subst (λ ls. Contains ls l) (sym (rest_at m p.0)) (is.whole m l y p.1 h)

    only_on : (m : ℕ) (l : Label) → IsReached graph m → Contains (letters' m) l → IsSome (step_of graph m l)
    only_on m l y c = by (nat_eq n m) (subst (λ ls. Contains ls l) (rest m) c)
      where
        by : (t : Bool) → Contains (cond t [] (letters m)) l → IsSome (step_of graph m l)
        by true d = absurd (Contains-none l d)
        by false d = is.only m l y d

    next_in : (l : Label) → L (Var (longer x l)) → Contains queue' (longer x l)
    next_in l d =
        let h : Has graph (longer x l) = node_there order lines graph is_shape (longer x l) d in
        let step : step_of graph n l ≡ Some h.0 = sym (node_of-longer graph x l n here) ∙ h.1 in
        (next (longer x l)).1 (inr (l, is.whole n l (x, here) no_word (is_some_of (step_of graph n l) h.0 step), refl))

    nexts_on : (m : ℕ) (y : Dtv) (l : Label) → words' m ≡ Some y → L (Var (longer y l)) →
        Contains queue' (longer y l) ⊎ SaidIn words' (shape ++ Var x ∷ []) (longer y l)
    nexts_on m y l e d = by (word_cases m y e)
      where
        by : ((n ≡ m) × (x ≡ y)) ⊎ (words m ≡ Some y) → Contains queue' (longer y l) ⊎ SaidIn words' (shape ++ Var x ∷ []) (longer y l)
        by (inl (f, g)) = inl (subst (λ z. Contains queue' (longer z l)) g (next_in l (subst (λ z. L (Var (longer z l))) (sym g) d)))
        by (inr f) = stay (longer y l) (is.nexts m y l f d)

    worded_on : (m : ℕ) (y : Dtv) → words' m ≡ Some y → IsWord order lines y × (node_of graph y ≡ Some m)
    worded_on m y e = by (word_cases m y e)
      where
        by : ((n ≡ m) × (x ≡ y)) ⊎ (words m ≡ Some y) → IsWord order lines y × (node_of graph y ≡ Some m)
        by (inl (f, g)) = subst (λ z. IsWord order lines z × (node_of graph z ≡ Some m)) g (is_word, here ∙ ap Some f)
        by (inr f) = is.worded m y f

    shape_line_itself : IsShapeLine order lines (Var x)
    shape_line_itself = record {
      variable = x;
      word = x;
      written = is_written;
      is_word = is_word;
      one_shape = same_self is_of.there;
      line = sym (itself x);
    }

    begun_turn : IsWriting order lines graph is_shape letters' words' queue' (shape ++ Var x ∷ [])
    begun_turn = record {
      worded = worded_on;
      written = λ y c. written_on y ((next y).0 c);
      whole = whole_on;
      only = only_on;
      bases = λ y h e. stay y (is.bases y h e);
      nexts = nexts_on;
      each = λ k c. each_on (Var x) k shape_line_itself c;
      rises = rises_on (Var x) refl;
      behind = λ k y c d. behind_on (Var x) k y refl (later_on y ((next y).0 d)) c;
    }

-- what is known, of what a program holds
abbrev pub IsWritingOf : Below → (lines : List Line) (graph : Graph) → IsShapeOf lines graph → BTreeMap ℕ (List Label) →
    BTreeMap ℕ Dtv → List Dtv → List Line → Type 0
IsWritingOf order lines graph is_shape letters words queue shape =
    IsWriting order lines graph is_shape (letters_at letters) (get nat_cmp words) queue shape

pub turned : (order : Below) (lines : List Line) (graph : Graph) (is_shape : IsShapeOf lines graph) (x : Dtv) (letters letters' :
    BTreeMap ℕ (List Label))
    (words words' : BTreeMap ℕ Dtv) (before queue queue' : List Dtv) (shape shape' : List Line) →
    IsWritingOf order lines graph is_shape letters words before shape → IsPopped before queue x →
    IsTurn graph x letters letters' words words' queue queue' shape shape' →
    IsWritingOf order lines graph is_shape letters' words' queue' shape'
turned order lines graph is_shape x letters letters' words words' before queue queue' shape shape' is popped
    (repeats n word here is_word same_letters same_words same_queue written) =
    let is' : IsWritingOf order lines graph is_shape letters words (x ∷ queue) shape =
    subst (λ q. IsWritingOf order lines graph is_shape letters words q shape) popped.taken is in
    let r : IsWritingOf order lines graph is_shape letters words queue (shape ++ line_by x word ∷ []) =
    repeated order lines graph is_shape (letters_at letters) (get nat_cmp words) x queue shape is' popped.first n word here is_word in
    subst (λ s. IsWritingOf order lines graph is_shape letters' words' queue' s) (sym written)
    (subst (λ q. IsWritingOf order lines graph is_shape letters' words' q (shape ++ line_by x word ∷ [])) (sym same_queue)
    (subst (λ w. IsWritingOf order lines graph is_shape letters' w queue (shape ++ line_by x word ∷ [])) (sym same_words)
    (subst (λ l. IsWritingOf order lines graph is_shape l words queue (shape ++ line_by x word ∷ [])) (sym same_letters) r)))
turned order lines graph is_shape x letters letters' words words' before queue queue' shape shape' is popped
    (begins n here no_word word rest next written) =
    let is' : IsWritingOf order lines graph is_shape letters words (x ∷ queue) shape =
    subst (λ q. IsWritingOf order lines graph is_shape letters words q shape) popped.taken is in
    subst (λ s. IsWritingOf order lines graph is_shape letters' words' queue' s) (sym written)
    (begun_turn order lines graph is_shape (letters_at letters) (get nat_cmp words) x queue shape is' popped.first n (letters_at letters')
    (get nat_cmp words') queue' here no_word word rest next)

-- what comes out of the queue is there
pub popped_has : (order : Below) (lines : List Line) (graph : Graph) (is_shape : IsShapeOf lines graph) (x : Dtv) (letters : BTreeMap ℕ
    (List Label))
    (words : BTreeMap ℕ Dtv) (before queue : List Dtv) (shape : List Line) →
    IsWritingOf order lines graph is_shape letters words before shape → IsPopped before queue x → Has graph x
popped_has order lines graph is_shape x letters words before queue shape is popped =
    let c : Contains before x = subst (λ q. Contains q x) (sym popped.taken) (Contains-here x queue) in
    node_there order lines graph is_shape x (of_written order lines graph is_shape x (is.written x c)).there

-- where none is left in the queue, the lines are those of the shape
pub all_written : (order : Below) (lines : List Line) (graph : Graph) (is_shape : IsShapeOf lines graph) (letters : BTreeMap ℕ (List Label))
    (words : BTreeMap ℕ Dtv) (queue : List Dtv) (shape : List Line) →
    IsWritingOf order lines graph is_shape letters words queue shape → queue ≡ [] → AreShapeLines order lines shape
all_written order lines graph is_shape letters words queue shape is e =
    are_shape_lines order lines graph is_shape (letters_at letters) (get nat_cmp words) shape
    (subst (λ q. IsWritingOf order lines graph is_shape letters words q shape) e is)

-- at first none has a word, and nothing is written
pub writing_begun : (order : Below) (lines : List Line) (graph : Graph) (is_shape : IsShapeOf lines graph) (letters : BTreeMap ℕ (List
    Label))
    (words : BTreeMap ℕ Dtv) (queue : List Dtv) (shape : List Line) → words.entries ≡ [] → shape ≡ [] → AreLettersOf graph letters →
    AreFirst lines queue →
    IsWritingOf order lines graph is_shape letters words queue shape
writing_begun order lines graph is_shape letters words queue shape e f are first =
    subst (λ s. IsWritingOf order lines graph is_shape letters words queue s) (sym f)
    (subst (λ w. IsWriting order lines graph is_shape (letters_at letters) w queue []) (λ i n. lookup (is_at (nat_cmp n)) (sym e i))
    (begun order lines graph is_shape letters queue are first))
