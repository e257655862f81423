-- The shape written anew, variable by variable: what is known in between, and that each turn keeps it.
use Rattle.std.proofs.Common.{◌≡◌, ◌≢◌, ℕ, ◌⊎◌, inl, inr, Option, Some, None, IsSome, List, [], ◌∷◌, ◌++◌, Contains, Bool, true, false}
use Rattle.std.proofs.Common.{cond, refl, sym, ap, subst, ◌∙◌}
use Rattle.std.specs.BTreeMap.{BTreeMap}
use Rattle.rt_base.proofs.Lists.{Contains-none}
use Rattle.rt_lines.specs.declared.label.Label.{Label}
use Rattle.rt_lines.specs.declared.variable.Base.{Base}
use Rattle.rt_lines.specs.declared.variable.Base.TheVariants.{Proc, Global, Exist, Outer}
use Rattle.rt_lines.specs.declared.variable.Dtv.{Dtv}
use Rattle.rt_lines.specs.declared.line.Line.{Line}
use Rattle.rt_lines.specs.declared.line.Line.TheVariants.{Var, Same}
use Rattle.rt_lines.specs.Equality.{variable_eq}
use Rattle.rt_lines.specs.Orders.{Below}
use Rattle.rt_rules.specs.Rules.{longer, Derivable}
use Rattle.rt_rules.specs.Rules.Derivable.{prefix, same_letter, same_back, same_chain, same_longer}
use Rattle.rt_rules.proofs.Carry.{are_there}
use Rattle.rt_shape.specs.Graphs.{Graph, bare, node_of, step_of, Has}
use Rattle.rt_shape.specs.Shapes.{IsShapeOf}
use Rattle.rt_shape.proofs.Walks.{Walks, walks, one_node}
use Rattle.rt_shape.proofs.Walks.Walks.{at_base, at_letter}
use Rattle.rt_reduction.specs.Before.{level, comes_before}
use Rattle.rt_reduction.specs.Emits.{IsKept, IsOfKept, IsWord, IsWritten, of_base, of_letter, IsShapeLine, first_side, AreShapeLines}
use Rattle.rt_reduction.proofs.Before.{one_first, not_before_self, before_chain}
use Rattle.rt_emit.specs.Inside.Letters.{letters_at, AreLettersOf, IsReached as ReachedNode}
use Rattle.rt_emit.specs.Inside.Bases.{AreFirst}
use Rattle.rt_emit.specs.Inside.Writing.{line_by}
use Rattle.rt_emit.proofs.Ascending.{Rises, less_next}
use Rattle.rt_emit.proofs.Ascending.Rises.{none}
use Rattle.rt_emit.proofs.Longer.{IsLettered, longer_after, before-longer}
use Rattle.rt_base.proofs.Options.{some_of}
use Rattle.rt_reduction.proofs.Worded.{not_empty, level_none}
use Rattle.std.proofs.lemmas.Bool.{false_from_ne_true}

pub is_some_of : {X : Type 0} (o : Option X) (x : X) → o ≡ Some x → IsSome o
is_some_of None x e = absurd (none_some x e)
  where
    none_some : {X : Type 0} (x : X) → None ≡ Some x → ⊥
    none_some x f = cc
is_some_of (Some y) x e = refl

true_false : (t : Bool) → t ≡ true → t ≡ false → ⊥
true_false t e f = cc

-- a variable is a procedure itself, or isn't
lettered_cases : (b : Base) (w : List Label) → ((n : ℕ) × (b ≡ Proc n) × (w ≡ [])) ⊎ ((n : ℕ) → b ≡ Proc n → w ≢ [])
lettered_cases (Proc n) [] = inl (n, refl, refl)
lettered_cases (Proc n) (l ∷ w) = inr (λ m e f. absurd cc)
lettered_cases (Global n) w = inr (λ m e f. absurd cc)
lettered_cases (Exist n) w = inr (λ m e f. absurd cc)
lettered_cases (Outer n) w = inr (λ m e f. absurd cc)

level-proc : (n : ℕ) (l : Label) → level (Proc n) (l ∷ []) ≡ 0
level-proc n l = refl

pub first_line_by : (x word : Dtv) → first_side (line_by x word) ≡ x
first_line_by x word = by (variable_eq x word)
  where
    by : (t : Bool) → first_side (cond t (Var x) (Same x word)) ≡ x
    by true = refl
    by false = refl

abbrev pub IsBefore : Line → Line → Type 0
IsBefore a b = comes_before (first_side a) (first_side b) ≡ true

-- what stands in the order of x stands so before what comes after x
not_before_chain : (x y z : Dtv) → comes_before y x ≡ true → comes_before y z ≡ false → comes_before x z ≡ false
not_before_chain x y z e f = false_from_ne_true (comes_before x z) (λ g. true_false (comes_before y z) (before_chain y x z e g) f)

module _ (order : Below) (lines : List Line) (graph : Graph) (is_shape : IsShapeOf lines graph) where
  abbrev L : Line → Type 0
  L j = Derivable order lines j

  pub one_shape : (x y : Dtv) (n : ℕ) → node_of graph x ≡ Some n → node_of graph y ≡ Some n → L (Same x y)
  one_shape x y n e f = (is_shape.one order x y n n e f).0 refl

  pub node_there : (x : Dtv) → L (Var x) → Has graph x
  node_there x d = some_of (node_of graph x) ((is_shape.there order x).1 d)

  pub there_of : (x : Dtv) (n : ℕ) → node_of graph x ≡ Some n → L (Var x)
  there_of x n e = (is_shape.there order x).0 (is_some_of (node_of graph x) n e)

  same_node : (x y : Dtv) (n : ℕ) → node_of graph x ≡ Some n → L (Same x y) → node_of graph y ≡ Some n
  same_node x y n e d =
      let h : Has graph y = node_there y (are_there order lines d).1 in
      h.1 ∙ ap Some (sym ((is_shape.one order x y n h.0 e h.1).1 d))

  of_next : (x : Dtv) (l : Label) → IsKept order lines x.base → L (Var (longer x l)) → IsOfKept order lines (longer x l)
  of_next x l kept there = record { kept = kept; there = there; no_procedure = λ n e. not_empty x.word l }

  pub of_written : (x : Dtv) → IsWritten order lines x → IsOfKept order lines x
  of_written x (of_base _ is_of e) = is_of
  of_written _ (of_letter x l is_word there) = of_next x l is_word.is_of.kept there

  -- the variable's line is written
  pub record Said (words : ℕ → Option Dtv) (shape : List Line) (x : Dtv) : Type 0 where
    pub node : ℕ
    pub word : Dtv
    pub here : node_of graph x ≡ Some node
    pub is_word : words node ≡ Some word
    pub line : Contains shape (line_by x word)

  -- what is known of the words that nodes have, of the variables whose turn is to come, and of what is written
  pub record IsWriting (letters : ℕ → List Label) (words : ℕ → Option Dtv) (queue : List Dtv) (shape : List Line) : Type 0 where
    pub worded : (n : ℕ) (x : Dtv) → words n ≡ Some x → IsWord order lines x × (node_of graph x ≡ Some n)
    pub written : (x : Dtv) → Contains queue x → IsWritten order lines x
    pub whole : (n : ℕ) (l : Label) → ReachedNode graph n → words n ≡ None → IsSome (step_of graph n l) → Contains (letters n) l
    pub only : (n : ℕ) (l : Label) → ReachedNode graph n → Contains (letters n) l → IsSome (step_of graph n l)
    pub bases : (x : Dtv) → IsOfKept order lines x → level x.base x.word ≡ 0 → Contains queue x ⊎ Said words shape x
    pub nexts : (n : ℕ) (x : Dtv) (l : Label) → words n ≡ Some x → L (Var (longer x l)) →
        Contains queue (longer x l) ⊎ Said words shape (longer x l)
    pub each : (l : Line) → Contains shape l → IsShapeLine order lines l
    pub rises : Rises IsBefore shape
    pub behind : (l : Line) (y : Dtv) → Contains shape l → Contains queue y → comes_before (first_side l) y ≡ true

  module _ (letters : ℕ → List Label) (words : ℕ →
      Option Dtv) (queue : List Dtv) (shape : List Line) (is : IsWriting letters words queue shape) where
    -- the variable's node has a word that doesn't come after it
    record IsReached (x : Dtv) : Type 0 where
      node : ℕ
      word : Dtv
      here : node_of graph x ≡ Some node
      is_word : words node ≡ Some word
      not_after : comes_before x word ≡ false

    -- or a variable that doesn't come after it is in the queue
    abbrev Waits : Dtv → Type 0
    Waits x = IsReached x ⊎ ((z : Dtv) × Contains queue z × (comes_before x z ≡ false))

    not_self : (x : Dtv) → comes_before x x ≡ false
    not_self x = false_from_ne_true (comes_before x x) (not_before_self x)

    reached : (x : Dtv) (node : ℕ) (word : Dtv) → IsOfKept order lines x → node_of graph x ≡ Some node → words node ≡ Some word →
        IsReached x
    reached x node word is_of here is_word =
        let w : IsWord order lines word × (node_of graph word ≡ Some node) = is.worded node word is_word in
        record {
          node = node;
          word = word;
          here = here;
          is_word = is_word;
          not_after = w.0.first x is_of (one_shape word x node w.1 here);
        }

    base_waits : (x : Dtv) → IsOfKept order lines x → level x.base x.word ≡ 0 → Waits x
    base_waits x is_of e = by (is.bases x is_of e)
      where
        by : Contains queue x ⊎ Said words shape x → Waits x
        by (inl c) = inr (x, c, not_self x)
        by (inr s) = inl (reached x s.node s.word is_of s.here s.is_word)

    module _ (x : Dtv) (l : Label) (before : IsOfKept order lines x) (is_of : IsOfKept order lines (longer x l)) (r : IsReached x) where
      word_is : IsWord order lines r.word × (node_of graph r.word ≡ Some r.node)
      word_is = is.worded r.node r.word r.is_word

      shape_one : L (Same x r.word)
      shape_one = one_shape x r.word r.node r.here word_is.1

      next_there : L (Var (longer r.word l))
      next_there = same_letter l shape_one is_of.there

      next_same : L (Same (longer r.word l) (longer x l))
      next_same = same_back (same_longer l shape_one is_of.there)

      next_not_after : comes_before (longer x l) (longer r.word l) ≡ false
      next_not_after = before-longer x r.word l before.no_procedure word_is.0.is_of.no_procedure ∙ r.not_after

      next_by : Contains queue (longer r.word l) ⊎ Said words shape (longer r.word l) → Waits (longer x l)
      next_by (inl c) = inr (longer r.word l, c, next_not_after)
      next_by (inr s) = inl (reached (longer x l) s.node s.word is_of (same_node (longer r.word l) (longer x l) s.node s.here next_same)
          s.is_word)

      reached_next : Waits (longer x l)
      reached_next = next_by (is.nexts r.node r.word l r.is_word next_there)

    next_waits : (x : Dtv) (l : Label) → IsOfKept order lines x → IsOfKept order lines (longer x l) → Waits x → Waits (longer x l)
    next_waits x l before is_of (inr (z, c, e)) = inr (z, c, not_before_chain (longer x l) x z (longer_after x l before.no_procedure) e)
    next_waits x l before is_of (inl r) = reached_next x l before is_of r

    kept_before : (x : Dtv) (l : Label) → IsLettered x → IsOfKept order lines (longer x l) → IsOfKept order lines x
    kept_before x l lettered is_of = record { kept = is_of.kept; there = prefix l is_of.there; no_procedure = lettered }

    walk_waits : (x : Dtv) (n : ℕ) → Walks graph x n → IsOfKept order lines x → Waits x
    walk_waits _ n (at_base b e) is_of = base_waits (bare b) is_of (level_none b)
    walk_waits _ n (at_letter {x = x} l w e) is_of = by (lettered_cases x.base x.word) (λ before. walk_waits x _ w before)
      where
        by : ((k : ℕ) × (x.base ≡ Proc k) × (x.word ≡ [])) ⊎ IsLettered x → (IsOfKept order lines x → Waits x) → Waits (longer x l)
        by (inl (k, f, g)) rest = base_waits (longer x l) is_of ((λ i. level (f i) (g i ++ l ∷ [])) ∙ level-proc k l)
        by (inr lettered) rest =
            let before : IsOfKept order lines x = kept_before x l lettered is_of in
            next_waits x l before is_of (rest before)

    -- each variable of a kept base that is no procedure itself has a word, or one that doesn't come after it waits
    waits : (x : Dtv) → IsOfKept order lines x → Waits x
    waits x is_of = let h : Has graph x = node_there x is_of.there in walk_waits x h.0 (walks graph x h.0 h.1) is_of

    -- a variable whose node has no word is the first of those of its node, if none waits that comes before it
    pub first_word : (x : Dtv) (n : ℕ) → IsOfKept order lines x → node_of graph x ≡ Some n → words n ≡ None →
        ((y : Dtv) → Contains queue y → (x ≡ y) ⊎ (comes_before x y ≡ true)) → IsWord order lines x
    first_word x n is_of here no_word least = record { is_of = is_of; first = λ y is_of_y d. by y d (waits y is_of_y) }
      where
        none_some : (w : Dtv) → None ≡ Some w → ⊥
        none_some w f = cc

        after : (y z : Dtv) → comes_before y z ≡ false → (x ≡ z) ⊎ (comes_before x z ≡ true) → comes_before y x ≡ false
        after y z e (inl f) = subst (λ u. comes_before y u ≡ false) (sym f) e
        after y z e (inr f) = false_from_ne_true (comes_before y x) (λ g. true_false (comes_before y z) (before_chain y x z g f) e)

        by : (y : Dtv) → L (Same x y) → Waits y → comes_before y x ≡ false
        by y d (inl r) =
            let e : node_of graph y ≡ Some n = same_node x y n here d in
            let same : r.node ≡ n = one_node graph y r.node n r.here e in
            absurd (none_some r.word (sym no_word ∙ subst (λ k. words k ≡ Some r.word) same r.is_word))
        by y d (inr (z, c, e)) = after y z e (least z c)

  -- where none waits, the lines are those of the shape
  module _ (letters : ℕ → List Label) (words : ℕ → Option Dtv) (shape : List Line) (is : IsWriting letters words [] shape) where
    ended : (x : Dtv) → IsOfKept order lines x → IsReached letters words [] shape is x
    ended x is_of = by (waits letters words [] shape is x is_of)
      where
        by : IsReached letters words [] shape is x ⊎ ((z : Dtv) × Contains [] z × (comes_before x z ≡ false)) →
            IsReached letters words [] shape is x
        by (inl r) = r
        by (inr (z, c, e)) = absurd (Contains-none z c)

    one_word : (u w : Dtv) → IsWord order lines u → IsWord order lines w → L (Same u w) → u ≡ w
    one_word u w a b d = one_first u w (b.first u a.is_of (same_back d)) (a.first w b.is_of d)

    said_in : (x : Dtv) → Contains [] x ⊎ Said words shape x → Said words shape x
    said_in x (inl c) = absurd (Contains-none x c)
    said_in x (inr s) = s

    said : (x : Dtv) → IsWritten order lines x → Said words shape x
    said x (of_base _ is_of e) = said_in x (is.bases x is_of e)
    said _ (of_letter x l is_word there) =
        let r : IsReached letters words [] shape is x = ended x is_word.is_of in
        let w : IsWord order lines r.word × (node_of graph r.word ≡ Some r.node) = is.worded r.node r.word r.is_word in
        let same : r.word ≡ x = one_word r.word x w.0 is_word (one_shape r.word x r.node w.1 r.here) in
        said_in (longer x l) (is.nexts r.node x l (r.is_word ∙ ap Some same) there)

    line_in : (l : Line) → IsShapeLine order lines l → Contains shape l
    line_in l i =
        let s : Said words shape i.variable = said i.variable i.written in
        let w : IsWord order lines s.word × (node_of graph s.word ≡ Some s.node) = is.worded s.node s.word s.is_word in
        let same : s.word ≡ i.word =
        one_word s.word i.word w.0 i.is_word (same_chain (one_shape s.word i.variable s.node w.1 s.here) i.one_shape) in
        subst (Contains shape) ((λ j. line_by i.variable (same j)) ∙ sym i.line) s.line

    word_of : (x : Dtv) → IsOfKept order lines x → (word : Dtv) × IsWord order lines word × L (Same x word)
    word_of x is_of =
        let r : IsReached letters words [] shape is x = ended x is_of in
        let w : IsWord order lines r.word × (node_of graph r.word ≡ Some r.node) = is.worded r.node r.word r.is_word in
        (r.word, w.0, one_shape x r.word r.node r.here w.1)

    pub are_shape_lines : AreShapeLines order lines shape
    are_shape_lines = record {
      worded = word_of;
      each = λ l. (is.each l, line_in l);
      ascending = λ before after a b e. less_next IsBefore before a b after shape is.rises e;
    }

  -- at first no node has a word
  pub begun : (letters : BTreeMap ℕ (List Label)) (queue : List Dtv) → AreLettersOf graph letters → AreFirst lines queue →
      IsWriting (letters_at letters) (λ n. None) queue []
  begun letters queue are first = record {
    worded = λ n x e. absurd (none_some x e);
    written = λ x c. let f : IsOfKept order lines x × (level x.base x.word ≡ 0) = (first order x).0 c in of_base x f.0 f.1;
    whole = λ n l x e h. (are n l x).1 h;
    only = λ n l x c. (are n l x).0 c;
    bases = λ x is_of e. inl ((first order x).1 (is_of, e));
    nexts = λ n x l e d. absurd (none_some x e);
    each = λ l c. absurd (Contains-none l c);
    rises = none;
    behind = λ l y c d. absurd (Contains-none l c);
  }
    where
      none_some : (x : Dtv) → None ≡ Some x → ⊥
      none_some x f = cc
