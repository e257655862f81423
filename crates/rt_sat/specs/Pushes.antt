-- What is pushed from ways between parents to edges between children, by numbers.
use Rattle.std.specs.Prelude.{◌≡◌, ℕ, ◌+◌, ◌<◌, ◌≤◌, ◌⊎◌, ◌↔◌, ◌++◌, List, [], Contains, Bool, true, false, Option, Some, None, length, drop}
use Rattle.std.specs.Prelude.{slice_index_or}
use Rattle.rt_lines.specs.declared.label.Label.{Label}
use Rattle.rt_lines.specs.declared.label.Label.TheVariants.{Load, Store}
use Rattle.rt_lines.specs.declared.label.Variance.{Variance}
use Rattle.rt_lines.specs.declared.variable.Dtv.{Dtv}
use Rattle.rt_lines.specs.Words.{label_variance, times}
use Rattle.rt_rules.specs.Rules.{longer}
use Rattle.rt_bridge.specs.Growing.{Var, Given, V, Der, HasSub, vd}
use Rattle.rt_bridge.specs.Counted.{bit, differ, IsEven, IsPointer, Bridge, Flip}
use Rattle.rt_bridge.specs.Laws.{Named}
use Rattle.rt_sat.specs.declared.state.State.{State}
use Rattle.rt_sat.specs.declared.state.Edge.{Edge}
use Rattle.rt_sat.specs.declared.layers.Layers.{Layers}
use Rattle.rt_sat.specs.Deciding.{is_among}
use Rattle.rt_sat.specs.Numbered.{sign_of, at_number, state_of, AreWithin}
use Rattle.rt_sat.specs.Searches.{Walk, Allows, IsIndexed, IsKnown, IsWithin}

-- the child's variable is the parent's with the letter, and its sign with the letter's is the parent's
pub record IsChildOf (known : List Dtv) (child parent : State) (l : Label) : Type 0 where
  pub within : child.variable < length known
  pub above : parent.variable < length known
  pub is : at_number known child.variable ≡ longer (at_number known parent.variable) l
  pub sign : times (label_variance l) (sign_of child.contra) ≡ sign_of parent.contra

-- the children of variables, by their numbers
pub record AreChildren (known : List Dtv) (children : List (List ℕ)) : Type 0 where
  pub within : (v j : ℕ) → Contains (slice_index_or children v []) j → j < length known
  pub all : (v j : ℕ) (l : Label) → v < length known → j < length known → at_number known j ≡ longer (at_number known v) l →
      Contains (slice_index_or children v []) j

-- a half push, where the parent can be read and written through
pub record IsHalf (flip : Bool) (l m : Label) (d : ℕ) (a b : Variance) (k : ℕ) : Type 0 where
  pub flips : flip ≡ true
  pub left : IsPointer l
  pub right : IsPointer m
  pub enough : d + bit (times (label_variance l) a) ≤ (k + k) + bit (times (label_variance m) b)
  pub parity : IsEven (k + differ a b)

-- the count between children with these letters and signs that a count between their parents gives: half of it, or the same under one
-- letter
abbrev pub PushBy : Bool → Label → Label → ℕ → Variance → Variance → ℕ → Type 0
PushBy flip l m d a b k = IsHalf flip l m d a b k ⊎ ((l ≡ m) × (d ≡ k))

-- whether a number's variable can be read and written through
abbrev pub flip_at : List Bool → ℕ → Bool
flip_at flips n = slice_index_or flips n false

-- an edge that is pushed from a way
pub record IsPushed (known : List Dtv) (flips : List Bool) (edges : List Edge) (e : Edge) : Type 0 where
  pub parent : State
  pub other : State
  pub first : Label
  pub second : Label
  pub count : ℕ
  pub left : IsChildOf known e.from parent first
  pub right : IsChildOf known e.to other second
  pub walk : Walk edges parent other count
  pub push : PushBy (flip_at flips parent.variable) first second count (sign_of e.from.contra) (sign_of e.to.contra) e.count

-- a walk of at most a count
abbrev pub HasWalk : List Edge → State → State → ℕ → Type 0
HasWalk edges s t k = (n : ℕ) × Walk edges s t n × (n ≤ k)

-- which counts of a child are asked for: all where counts matter at it, and nought alone elsewhere
abbrev pub asked_of : Bool → Option ℕ
asked_of true = None
asked_of false = Some 0

-- whether counts above nought matter at a number's variable
abbrev pub matter_at : List Bool → ℕ → Bool
matter_at matters n = slice_index_or matters n false

-- the bound of the counts from which those that are asked for of a child are pushed: half pushes give nought from one
abbrev pub needed_of : Bool → Bool → Label → Option ℕ
needed_of true flip l = None
needed_of false false l = Some 0
needed_of false true Load = Some 1
needed_of false true Store = Some 1
needed_of false true l = Some 0

-- the variable of the second number is that of the first with the letter, and needs the bound
pub record IsNeeding (known : List Dtv) (flips matters : List Bool) (bound : Option ℕ) (parent child : ℕ) (l : Label) :
    Type 0 where
  pub within : child < length known
  pub above : parent < length known
  pub is : at_number known child ≡ longer (at_number known parent) l
  pub bounded : needed_of (matter_at matters child) (flip_at flips parent) l ≡ bound

-- whatever is pushed from ways of a child's parent, at counts that are asked for, has a walk along the pushed edges
abbrev pub IsClosedFrom : List Dtv → List Bool → List Bool → List Edge → List Edge → State → State → Label → Type 0
IsClosedFrom known flips matters edges pushed child parent l =
    (end other : State) (m : Label) (d k : ℕ) → IsChildOf known end other m → Walk edges parent other d →
    PushBy (flip_at flips parent.variable) l m d (sign_of child.contra) (sign_of end.contra) k →
    Allows (asked_of (matter_at matters child.variable)) k → HasWalk pushed child end k

-- whatever is pushed from ways along edges, at counts that are asked for, has a walk along the pushed ones
abbrev pub IsClosedBy : List Dtv → List Bool → List Bool → List Edge → List Edge → Type 0
IsClosedBy known flips matters edges pushed = (child parent : State) (l : Label) → IsChildOf known child parent l →
    IsClosedFrom known flips matters edges pushed child parent l

-- the pushed edges
abbrev pub pushed_of : Layers → List Edge
pushed_of layers = drop layers.lines layers.edges.items

-- the indices are those of all edges, and of the pushed ones
pub record AreIndexed (layers : Layers) : Type 0 where
  pub few : layers.lines ≤ length layers.edges.items
  pub all : IsIndexed layers.edges.items layers.out.items
  pub pushed : IsIndexed (pushed_of layers) layers.out_pushed.items

-- what is pushed from a child's parent has a walk along the pushed edges
abbrev pub IsClosedIn : List Dtv → List Bool → List Bool → Layers → State → State → Label → Type 0
IsClosedIn known flips matters layers child parent l =
    IsClosedFrom known flips matters layers.edges.items (pushed_of layers) child parent l

-- the flag of a number, false past the end
abbrev pub is_done : List Bool → ℕ → Bool
is_done done n = slice_index_or done n false

-- whatever is pushed from ways of a flagged number along edges, at counts that are asked for, has a walk along the pushed ones
abbrev pub AreDone : List Dtv → List Bool → List Bool → List Edge → List Edge → List Bool → Type 0
AreDone known flips matters edges pushed done = (child parent : State) (l : Label) → is_done done parent.variable ≡ true →
    IsChildOf known child parent l → IsClosedFrom known flips matters edges pushed child parent l

-- flags are only taken
abbrev pub AreTaken : List Bool → List Bool → Type 0
AreTaken old new = (n : ℕ) → is_done new n ≡ true → is_done old n ≡ true

-- if it leaves a flagged number, the edge at an index is one of the first ones, and leads to a flagged number
abbrev pub IsApartAt : List Edge → ℕ → List Bool → ℕ → Type 0
IsApartAt edges first done i = (e : Edge) → i < length edges → is_done done (slice_index_or edges i e).from.variable ≡ true →
    (i < first) × (is_done done (slice_index_or edges i e).to.variable ≡ true)

-- no way leads from flagged numbers to an edge behind the first ones
abbrev pub AreApart : List Edge → ℕ → List Bool → Type 0
AreApart edges first done = (i : ℕ) → IsApartAt edges first done i

-- no edge more
abbrev pub IsStill : Layers → Layers → Type 0
IsStill old new = new.edges.items ≡ old.edges.items

-- pushed edges more, of each of which something holds
pub record IsGrown (P : Edge → Type 0) (old new : Layers) : Type 0 where
  pub fresh : List Edge
  pub is : new.edges.items ≡ old.edges.items ++ fresh
  pub only : (e : Edge) → Contains fresh e → P e
  pub lines : new.lines ≡ old.lines
  pub indexed : AreIndexed old → AreIndexed new

-- pushed edges more, and where there are none, what is known stays
pub record IsNoted (P : Edge → Type 0) (old new : Layers) (before after : List (State × ℕ)) : Type 0 where
  pub grown : IsGrown P old new
  pub kept : IsStill old new → after ≡ before

-- edges more, each pushed from ways along edges before it
pub data Grows (known : List Dtv) (flips : List Bool) (old : List Edge) : List Edge → Type 0 where
  same : Grows known flips old old
  more : {edges : List Edge} → Grows known flips old edges → (fresh : List Edge) →
      ((e : Edge) → Contains fresh e → IsPushed known flips edges e) → Grows known flips old (edges ++ fresh)

-- pushed edges more, each from ways along edges before it
pub record AreGrown (known : List Dtv) (flips : List Bool) (old new : Layers) : Type 0 where
  pub grows : Grows known flips old.edges.items new.edges.items
  pub lines : new.lines ≡ old.lines
  pub indexed : AreIndexed old → AreIndexed new

-- the variables exist, and it is known which can be read and written through
pub record IsFrame (L : Given) (known : List Dtv) (flips : List Bool) : Type 0 where
  pub there : (n : ℕ) → n < length known → Der L (V (vd (at_number known n)))
  pub flip : (n : ℕ) → n < length known → (flip_at flips n ≡ true) ↔ Flip L (vd (at_number known n))

-- the variables exist, and those can be read and written through of which the flags say so
pub record IsInFrame (L : Given) (known : List Dtv) (flips : List Bool) : Type 0 where
  pub there : (n : ℕ) → n < length known → Der L (V (vd (at_number known n)))
  pub flip : (n : ℕ) → n < length known → flip_at flips n ≡ true → Flip L (vd (at_number known n))

-- the edges are counted judgements
abbrev pub AreSound : Given → List Dtv → List Edge → Type 0
AreSound L known edges = (e : Edge) → Contains edges e →
    Bridge L (Named (is_among known)) (state_of known e.from) (state_of known e.to) e.count

-- the sides of subtype lines are named
abbrev pub AreSidesNamed : Given → List Dtv → Type 0
AreSidesNamed L known = (x y : Var) → HasSub L x y → Named (is_among known) x × Named (is_among known) y

-- edges that begin with those of lines, and are counted judgements wherever these are
pub record IsBuilt (known : List Dtv) (flips : List Bool) (lines edges : List Edge) : Type 0 where
  pub fresh : List Edge
  pub is : edges ≡ lines ++ fresh
  pub within : AreWithin known lines → AreWithin known edges
  pub sound : (L : Given) → IsFrame L known flips → AreSidesNamed L known → AreSound L known lines → AreSound L known edges

-- an end and its count are pushed from a count to its parent
abbrev pub IsPushedTo : List Dtv → Bool → Label → State → ℕ → Variance → State → ℕ → Type 0
IsPushedTo known flip first other count a end k = (m : Label) × IsChildOf known end other m ×
    PushBy flip first m count a (sign_of end.contra) k

-- what is pushed from a count to a parent, to a child of a number, is known to be no farther, where it is asked for
abbrev pub IsDoneAt : List Dtv → Bool → Label → State → ℕ → Variance → Option ℕ → List (State × ℕ) → ℕ → Type 0
IsDoneAt known flip first other count a most found number =
    (end : State) (m : Label) (k : ℕ) → end.variable ≡ number → IsChildOf known end other m →
    PushBy flip first m count a (sign_of end.contra) k → Allows most k → IsWithin found end k

-- what is pushed from a count to a parent is known to be no farther
abbrev pub IsDoneTo : List Dtv → Bool → Label → State → ℕ → Variance → Option ℕ → List (State × ℕ) → Type 0
IsDoneTo known flip first other count a most found = (end : State) (m : Label) (k : ℕ) → IsChildOf known end other m →
    PushBy flip first m count a (sign_of end.contra) k → Allows most k → IsWithin found end k

-- an end and its count are pushed from one of the known counts
abbrev pub IsPushedOn : List Dtv → Bool → Label → Variance → List (State × ℕ) → State → ℕ → Type 0
IsPushedOn known flip first a reached end k = (other : State) × (count : ℕ) × IsKnown reached other count ×
    IsPushedTo known flip first other count a end k

-- what is pushed from the known counts is known to be no farther
abbrev pub IsDoneOn : List Dtv → Bool → Label → Variance → List (State × ℕ) → Option ℕ → List (State × ℕ) → Type 0
IsDoneOn known flip first a reached most found = (other : State) (count : ℕ) → IsKnown reached other count →
    IsDoneTo known flip first other count a most found

-- edges, and behind them what is pushed from their ways: nought wherever it comes out, and all counts where they matter
pub record IsClosing (known : List Dtv) (flips matters : List Bool) (lines edges : List Edge) : Type 0 where
  pub lines_stay : (e : Edge) → Contains lines e → Contains edges e
  pub pushed_in : (e : Edge) → Contains (drop (length lines) edges) e → Contains edges e
  pub closed : IsClosedBy known flips matters edges (drop (length lines) edges)
  pub within : AreWithin known lines → AreWithin known edges
  pub sound : (L : Given) → IsFrame L known flips → AreSidesNamed L known → AreSound L known lines → AreSound L known edges
