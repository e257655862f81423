-- Arguments as they are read, and as they are gone over.
use Rattle.std.proofs.Common.{◌≡◌, ◌≢◌, ℕ, zero, suc, ◌+◌, ◌-◌, ◌*◌, ◌<◌, ◌≤◌, ◌↔◌, List, [], ◌∷◌, ◌++◌, Bool, true, false, if◌then◌else◌, nat_lt, IsTrue, All, length, take, drop, get_or, refl, ap, sym, subst, ◌∙◌, arith, codes, decimal, append_assoc, add-one, drop-cons}
use Rattle.std.proofs.lemmas.Grind.{common_steps}
use Rattle.std.proofs.lemmas.List.{append_cancel_left}
use Rattle.std.proofs.lemmas.List.Elements.{All-head}
use Rattle.rt_base.proofs.Lists.{All-back}
use Rattle.rt_lines.specs.declared.label.Loc.{Loc}
use Rattle.rt_lines.specs.declared.label.Loc.TheVariants.{Arg, Stack}
use Rattle.rt_texts.specs.Goods.{IsNumber}
use Rattle.rt_cdecl.specs.declared.declarations.CType.{CType}
use Rattle.rt_cdecl.specs.Types.{IsType, IsPresent}
use Rattle.rt_cdecl.specs.Rows.{type_text, loc_text, arg_text, more_args_text, args_text}
use Rattle.rt_cdecl.specs.GoodDecls.{place_of, ArePlaced, IsArgument, IsLastPresent, arg_types, AreArgs}
use Rattle.rt_cdecl.specs.Inside.Guesses.{AreDigits, StopsDigits}
use Rattle.rt_cdecl.proofs.Clear.{AreDigits-decimal}
use Rattle.rt_cdecl.proofs.PartTexts.{rest_of}
use Rattle.rt_cdecl.proofs.OneRow.{no_void}

-- the name of a place: a letter and a number
record IsPlaceText (i : ℕ) : Type 0 where
  letter : ℕ
  number : ℕ
  small : IsNumber number
  is : loc_text (place_of i) ≡ letter ∷ decimal number

place_text : (i : ℕ) → i ≤ 16392 → IsPlaceText i
place_text i few = by (nat_lt i 8) refl
  where
    by : (t : Bool) → nat_lt i 8 ≡ t → IsPlaceText i
    by true e = record { letter = 97; number = i; small = omega arith; is = ap (λ t. loc_text (if t then Arg i else Stack (4 * (i - 8)))) e }
    by false e = record { letter = 107; number = 4 * (i - 8); small = omega arith; is = ap (λ t. loc_text (if t then Arg i else Stack (4 * (i - 8)))) e }

pub after_place_is : (i : ℕ) (rest text result : List ℕ) → i ≤ 16392 → StopsDigits rest → loc_text (place_of i) ++ rest ≡ text → ((digits more : List ℕ) → AreDigits digits → StopsDigits more → digits ++ more ≡ take (length text - 1) (drop 1 text) → result ≡ more) → result ≡ rest
after_place_is i rest text result few stops same reads =
    let place = place_text i few in
    let whole : place.letter ∷ (decimal place.number ++ rest) ≡ text = ap (λ s. s ++ rest) (sym place.is) ∙ same in
    reads (decimal place.number) rest (AreDigits-decimal place.number place.small) stops (sym (rest_of place.letter (decimal place.number ++ rest) text whole))

pub no_place : (i : ℕ) (rest text : List ℕ) → i ≤ 16392 → loc_text (place_of i) ++ rest ≡ text → text ≡ [] → ⊥
no_place i rest text few same none =
    let place = place_text i few in
    let whole : place.letter ∷ (decimal place.number ++ rest) ≡ [] = ap (λ s. s ++ rest) (sym place.is) ∙ (same ∙ none) in
    cc

-- places, one after another
pub placed_more : (args : List (Loc × CType)) (i : ℕ) (d : Loc × CType) → i < length args → ArePlaced 0 args ↔ ArePlaced i (drop i args) → (get_or args i d).0 ≡ place_of i → ArePlaced 0 args ↔ ArePlaced (i + 1) (drop (i + 1) args)
placed_more args i d h both here =
    let e : drop i args ≡ get_or args i d ∷ drop (i + 1) args = rw (add-one i) (drop-cons args i d h) in
    (λ p. (subst (ArePlaced i) e (both.0 p)).1, λ q. both.1 (subst (ArePlaced i) (sym e) (here, q)))

pub placed_not : (args : List (Loc × CType)) (i : ℕ) (d : Loc × CType) → i < length args → ArePlaced 0 args ↔ ArePlaced i (drop i args) → ((get_or args i d).0 ≡ place_of i → ⊥) → ArePlaced 0 args → ⊥
placed_not args i d h both off p =
    let e : drop i args ≡ get_or args i d ∷ drop (i + 1) args = rw (add-one i) (drop-cons args i d h) in
    off (subst (ArePlaced i) e (both.0 p)).0

drop_all : {X : Type 0} (xs : List X) (i : ℕ) → length xs ≤ i → drop i xs ≡ []
drop_all xs i h = grind (arith, common_steps)

pub placed_all : (args : List (Loc × CType)) (i : ℕ) → length args ≤ i → ArePlaced 0 args ↔ ArePlaced i (drop i args) → ArePlaced 0 args
placed_all args i h both = both.1 (subst (ArePlaced i) (sym (drop_all args i h)) tt)

-- the last argument
last_at : (args : List (Loc × CType)) (k : ℕ) (d : Loc × CType) → length args ≡ suc k → IsLastPresent (arg_types args) ↔ IsPresent (get_or args k d).1
last_at [] k d e = absurd (omega arith)
last_at (x ∷ []) zero d e = (λ h. h, λ h. h)
last_at (x ∷ []) (suc k) d e = absurd (omega arith)
last_at (x ∷ y ∷ args) zero d e = absurd (omega arith)
last_at (x ∷ y ∷ args) (suc k) d e = last_at (y ∷ args) k d (omega arith)

pub last_is : (args : List (Loc × CType)) (k : ℕ) (r : Loc × CType) (b : Bool) → length args ≡ suc k → IsTrue b ↔ IsPresent (get_or args k r).1 → IsTrue b ↔ IsLastPresent (arg_types args)
last_is args k r b long tells =
    let both = last_at args k r long in
    (λ h. both.1 (tells.0 h), λ h. tells.1 (both.0 h))

-- arguments that were read, and the one that comes
pub record AreTaken (args : List (Loc × CType)) (i : ℕ) (done : List (Loc × CType)) (rest : List ℕ) : Type 0 where
  pub next : Loc × CType
  pub todo : List (Loc × CType)
  pub parts : done ++ next ∷ todo ≡ args
  pub counted : length done ≡ i
  pub follows : args_text (next ∷ todo) ++ codes ");" ≡ rest

-- the arguments of the text, as far as they were read
abbrev pub AllTaken : List ℕ → ℕ → List (Loc × CType) → List ℕ → Type 0
AllTaken text i done rest = (arg : Loc × CType) (args : List (Loc × CType)) → AreArgs (arg ∷ args) → args_text (arg ∷ args) ++ codes ");" ≡ text → AreTaken (arg ∷ args) i done rest

pub taken_start : (text : List ℕ) → AllTaken text 0 [] text
taken_start text arg args good same = record { next = arg; todo = args; parts = refl; counted = refl; follows = same }

placed_at : (i : ℕ) (done : List (Loc × CType)) (next : Loc × CType) (todo : List (Loc × CType)) → ArePlaced i (done ++ next ∷ todo) → next.0 ≡ place_of (i + length done)
placed_at i [] next todo placed = placed.0 ∙ ap place_of (omega arith)
placed_at i (x ∷ done) next todo placed = placed_at (i + 1) done next todo placed.1 ∙ ap place_of (omega arith)

-- what is known of the one that comes
pub record IsNextArg (text : List ℕ) (i : ℕ) (done : List (Loc × CType)) (rest : List ℕ) (args : List (Loc × CType)) : Type 0 where
  pub taken : AreTaken args i done rest
  pub good : IsArgument taken.next
  pub placed : taken.next.0 ≡ place_of i
  pub text_is : type_text taken.next.1 ++ (loc_text (place_of i) ++ (more_args_text taken.todo ++ codes ");")) ≡ rest

next_of : (text : List ℕ) (i : ℕ) (done : List (Loc × CType)) (rest : List ℕ) (args : List (Loc × CType)) → AreArgs args → AreTaken args i done rest → IsNextArg text i done rest args
next_of text i done rest args good taken =
    let place : taken.next.0 ≡ place_of (0 + length done) = placed_at 0 done taken.next taken.todo (subst (ArePlaced 0) (sym taken.parts) good.places) in
    let placed : taken.next.0 ≡ place_of i = place ∙ ap place_of (let c = taken.counted in omega arith) in
    let last = append_assoc (type_text taken.next.1 ++ loc_text taken.next.0) (more_args_text taken.todo) (codes ");") in
    let first = append_assoc (type_text taken.next.1) (loc_text taken.next.0) (more_args_text taken.todo ++ codes ");") in
    record {
      taken = taken;
      good = All-head IsArgument taken.next taken.todo (All-back IsArgument done (taken.next ∷ taken.todo) (subst (All IsArgument) (sym taken.parts) good.types));
      placed = placed;
      text_is = ap (λ l. type_text taken.next.1 ++ (loc_text l ++ (more_args_text taken.todo ++ codes ");"))) (sym placed) ∙ (sym first ∙ (sym last ∙ taken.follows));
    }

stops_more : (todo : List (Loc × CType)) → StopsDigits (more_args_text todo ++ codes ");")
stops_more [] = refl
stops_more (x ∷ todo) = refl

-- what the parts that were read of a text tell
abbrev pub TypeTaken : List ℕ → CType → List ℕ → Type 0
TypeTaken text kind more = (t : CType) (rest : List ℕ) → IsType t → type_text t ++ rest ≡ text → (kind ≡ t) × (more ≡ rest)

abbrev pub PlaceTaken : List ℕ → List ℕ → Type 0
PlaceTaken text after = (i : ℕ) (rest : List ℕ) → i ≤ 16392 → StopsDigits rest → loc_text (place_of i) ++ rest ≡ text → after ≡ rest

pub arg_is : (text : List ℕ) (i : ℕ) (done : List (Loc × CType)) (rest more after : List ℕ) (kind : CType) (args : List (Loc × CType)) → i ≤ 16392 → (n : IsNextArg text i done rest args) → TypeTaken rest kind more → PlaceTaken more after → ((place_of i, kind) ≡ n.taken.next) × (after ≡ more_args_text n.taken.todo ++ codes ");")
arg_is text i done rest more after kind args few n typed placed =
    let t = typed n.taken.next.1 (loc_text (place_of i) ++ (more_args_text n.taken.todo ++ codes ");")) n.good.0 n.text_is in
    let a = placed i (more_args_text n.taken.todo ++ codes ");") few (stops_more n.taken.todo) (sym t.1) in
    ((λ j. (sym n.placed j, t.0 j)), a)

pub no_type_fault : {X : Type 0} (text : List ℕ) (i : ℕ) (done : List (Loc × CType)) (rest : List ℕ) (args : List (Loc × CType)) → IsNextArg text i done rest args → ((t : CType) (more : List ℕ) → IsType t → type_text t ++ more ≡ rest → X) → X
no_type_fault text i done rest args n fault = fault n.taken.next.1 (loc_text (place_of i) ++ (more_args_text n.taken.todo ++ codes ");")) n.good.0 n.text_is

-- one argument more
more_taken : (args done todo : List (Loc × CType)) (i : ℕ) (next arg : Loc × CType) (after rest : List ℕ) → done ++ next ∷ todo ≡ args → length done ≡ i → arg ≡ next → after ≡ more_args_text todo ++ codes ");" → after ≡ codes ", " ++ rest → AreTaken args (i + 1) (done ++ arg ∷ []) rest
more_taken args done [] i next arg after rest parts counted is goes begins = let e : ◌≡◌ {A = ℕ} 41 44 = ap (λ s. get_or s 0 0) (sym goes ∙ begins) in absurd (omega arith)
more_taken args done (x ∷ todo) i next arg after rest parts counted is goes begins =
    record {
      next = x;
      todo = todo;
      parts = ap (λ a. (done ++ a ∷ []) ++ x ∷ todo) is ∙ (append_assoc done (next ∷ []) (x ∷ todo) ∙ parts);
      counted = length_push done arg ∙ ap (λ n. n + 1) counted;
      follows = sym (append_cancel_left (codes ", ") rest (args_text (x ∷ todo) ++ codes ");") (sym begins ∙ (goes ∙ refl)));
    }
  where
    length_push : (xs : List (Loc × CType)) (x : Loc × CType) → length (xs ++ x ∷ []) ≡ length xs + 1
    length_push xs x = grind (arith, common_steps)

pub taken_more : (text : List ℕ) (i : ℕ) (done : List (Loc × CType)) (rest more after next : List ℕ) (kind : CType) → i < 16392 → AllTaken text i done rest → TypeTaken rest kind more → PlaceTaken more after → after ≡ codes ", " ++ next → AllTaken text (i + 1) (done ++ (place_of i, kind) ∷ []) next
taken_more text i done rest more after next kind few all typed placed begins arg args good same =
    let taken = all arg args good same in
    let n = next_of text i done rest (arg ∷ args) good taken in
    let is = arg_is text i done rest more after kind (arg ∷ args) (omega arith) n typed placed in
    more_taken (arg ∷ args) done n.taken.todo i n.taken.next (place_of i, kind) after next n.taken.parts n.taken.counted is.0 is.1 begins

-- the last argument
last_taken : (args done todo : List (Loc × CType)) (next arg : Loc × CType) (after : List ℕ) → done ++ next ∷ todo ≡ args → arg ≡ next → after ≡ more_args_text todo ++ codes ");" → ((rest : List ℕ) → after ≢ codes ", " ++ rest) → done ++ arg ∷ [] ≡ args
last_taken args done [] next arg after parts is goes ends = ap (λ a. done ++ a ∷ []) is ∙ parts
last_taken args done (x ∷ todo) next arg after parts is goes ends = absurd (ends ((arg_text x ++ more_args_text todo) ++ codes ");") goes)

pub taken_last : (text : List ℕ) (i : ℕ) (done : List (Loc × CType)) (rest more after : List ℕ) (kind : CType) → i < 16392 → AllTaken text i done rest → TypeTaken rest kind more → PlaceTaken more after → ((next : List ℕ) → after ≢ codes ", " ++ next) → (arg : Loc × CType) (args : List (Loc × CType)) → AreArgs (arg ∷ args) → args_text (arg ∷ args) ++ codes ");" ≡ text → done ++ (place_of i, kind) ∷ [] ≡ arg ∷ args
taken_last text i done rest more after kind few all typed placed ends arg args good same =
    let taken = all arg args good same in
    let n = next_of text i done rest (arg ∷ args) good taken in
    let is = arg_is text i done rest more after kind (arg ∷ args) (omega arith) n typed placed in
    last_taken (arg ∷ args) done n.taken.todo n.taken.next (place_of i, kind) after n.taken.parts is.0 is.1 ends

pub taken_fault : {X : Type 0} (text : List ℕ) (i : ℕ) (done : List (Loc × CType)) (rest : List ℕ) → AllTaken text i done rest → ((t : CType) (more : List ℕ) → IsType t → type_text t ++ more ≡ rest → X) → (arg : Loc × CType) (args : List (Loc × CType)) → AreArgs (arg ∷ args) → args_text (arg ∷ args) ++ codes ");" ≡ text → X
taken_fault text i done rest all fault arg args good same = no_type_fault text i done rest (arg ∷ args) (next_of text i done rest (arg ∷ args) good (all arg args good same)) fault

-- there are not so many
pub taken_full : (text : List ℕ) (done : List (Loc × CType)) (rest : List ℕ) (i : ℕ) → 16392 ≤ i → AllTaken text i done rest → (arg : Loc × CType) (args : List (Loc × CType)) → AreArgs (arg ∷ args) → args_text (arg ∷ args) ++ codes ");" ≡ text → ⊥
taken_full text done rest i full all arg args good same =
    let taken = all arg args good same in
    let long : length (done ++ taken.next ∷ taken.todo) ≡ length (arg ∷ args) = ap length taken.parts in
    let sum : length done + (length taken.todo + 1) ≡ length (done ++ taken.next ∷ taken.todo) = lengths done taken.next taken.todo in
    let few : length (arg ∷ args) ≤ 16392 = good.few in
    let counted : length done ≡ i = taken.counted in
    absurd (omega arith)
  where
    lengths : (xs : List (Loc × CType)) (x : Loc × CType) (ys : List (Loc × CType)) → length xs + (length ys + 1) ≡ length (xs ++ x ∷ ys)
    lengths xs x ys = grind (arith, common_steps)

-- no arguments, or some
pub none_is : (args : List (Loc × CType)) (text : List ℕ) → text ≡ codes "void);" → args_text args ++ codes ");" ≡ text → [] ≡ args
none_is [] text is same = refl
none_is ((l, t) ∷ args) text is same = absurd (no_void l t args (codes ");") (codes ");") (sym is ∙ sym same))

pub some_are : (R : List (Loc × CType) → Type 0) (args : List (Loc × CType)) (text : List ℕ) → (text ≡ codes "void);" → ⊥) → ((arg : Loc × CType) (more : List (Loc × CType)) → AreArgs (arg ∷ more) → args_text (arg ∷ more) ++ codes ");" ≡ text → R (arg ∷ more)) → AreArgs args → args_text args ++ codes ");" ≡ text → R args
some_are R [] text off reads good same = absurd (off (sym same))
some_are R (arg ∷ args) text off reads good same = reads arg args good same
