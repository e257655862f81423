-- Derivable from added lines, and derivable by one more rule: the same.
use Rattle.std.proofs.Common.{◌≡◌, ◌⊎◌, ◌++◌, inl, inr, List, [], ◌∷◌, Contains, refl, subst, sym}
use Rattle.std.proofs.lemmas.List.Elements.{Contains-append_left, Contains-append_right, Contains-append_cases}
use Rattle.rt_lines.specs.declared.label.Label.TheVariants.{Load, Store}
use Rattle.rt_lines.specs.declared.variable.Dtv.{Dtv}
use Rattle.rt_lines.specs.declared.line.Line.{Line}
use Rattle.rt_lines.specs.declared.line.Line.TheVariants.{Var, Same, Sub, Low, Up}
use Rattle.rt_lines.specs.Orders.{Below}
use Rattle.rt_rules.specs.Rules.{longer, HasSide, Derivable}
use Rattle.rt_rules.specs.Rules.Derivable.{named, prefix, left_side, right_side, same_letter, same_line, same_sub, same_self, same_back, same_chain, same_longer, sub_line, sub_self, sub_chain, sub_co, sub_contra, sub_pointer, low_line, up_line, low_sub, up_sub}
use Rattle.rt_rules.proofs.Lists.{Contains-none, Contains-here, Contains-cons_cases}
use Rattle.rt_rules.proofs.Carry.{given, are_there}
use Rattle.rt_rules.proofs.Covering.{derives_more, derives_left}
use Rattle.rt_loose.specs.Loose.{IsPointerLine, IsLoose, Loosely}
use Rattle.rt_loose.specs.Loose.Loosely.{named as loose_named, prefix as loose_prefix, left_side as loose_left_side, right_side as loose_right_side, same_letter as loose_same_letter, same_line as loose_same_line, same_sub as loose_same_sub, same_self as loose_same_self, same_back as loose_same_back, same_chain as loose_same_chain, same_longer as loose_same_longer, sub_line as loose_sub_line, sub_self as loose_sub_self, sub_chain as loose_sub_chain, sub_co as loose_sub_co, sub_contra as loose_sub_contra, sub_pointer as loose_sub_pointer, low_line as loose_low_line, up_line as loose_up_line, low_sub as loose_low_sub, up_sub as loose_up_sub, loose_pointer}

-- what lines derive whose facts are loosely derivable is so too
module _ (order : Below) (lines others : List Line) (each : (l : Line) → Contains others l → Loosely order lines l)
    (side : (l : Line) (x : Dtv) → Contains others l → HasSide l x → Loosely order lines (Var x)) where
  carried : {j : Line} → Derivable order others j → Loosely order lines j
  carried (named l {x = x} c h) = side l x c h
  carried (same_line c) = each _ c
  carried (sub_line c) = each _ c
  carried (low_line c) = each _ c
  carried (up_line c) = each _ c
  carried (prefix l d) = loose_prefix l (carried d)
  carried (left_side d) = loose_left_side (carried d)
  carried (right_side d) = loose_right_side (carried d)
  carried (same_letter l d e) = loose_same_letter l (carried d) (carried e)
  carried (same_sub d) = loose_same_sub (carried d)
  carried (same_self d) = loose_same_self (carried d)
  carried (same_back d) = loose_same_back (carried d)
  carried (same_chain d e) = loose_same_chain (carried d) (carried e)
  carried (same_longer l d e) = loose_same_longer l (carried d) (carried e)
  carried (sub_self d) = loose_sub_self (carried d)
  carried (sub_chain d e) = loose_sub_chain (carried d) (carried e)
  carried (sub_co l d e s) = loose_sub_co l (carried d) (carried e) s
  carried (sub_contra l d e s) = loose_sub_contra l (carried d) (carried e) s
  carried (sub_pointer x d e) = loose_sub_pointer x (carried d) (carried e)
  carried (low_sub d e a) = loose_low_sub (carried d) (carried e) a
  carried (up_sub d e a) = loose_up_sub (carried d) (carried e) a

module _ (order : Below) (lines : List Line) where
  own_line : (l : Line) → Contains lines l → Loosely order lines l
  own_line (Var x) c = loose_named (Var x) c refl
  own_line (Same x y) c = loose_same_line c
  own_line (Sub x y) c = loose_sub_line c
  own_line (Low k x) c = loose_low_line c
  own_line (Up x k) c = loose_up_line c

  -- what is derivable is so loosely
  pub embed : {j : Line} → Derivable order lines j → Loosely order lines j
  embed d = carried order lines lines own_line (λ l x c h. loose_named l c h) d

  -- the sides of an added line exist without it
  side_by : (p x : Dtv) → Derivable order lines (Var (longer p Load)) → Derivable order lines (Var (longer p Store)) →
      (longer p Load ≡ x) ⊎ (longer p Store ≡ x) → Derivable order lines (Var x)
  side_by p x d e (inl same) = subst (λ v. Derivable order lines (Var v)) same d
  side_by p x d e (inr same) = subst (λ v. Derivable order lines (Var v)) same e

  pointer_side : (l : Line) (x : Dtv) → IsPointerLine order lines l → HasSide l x → Derivable order lines (Var x)
  pointer_side l x p h = side_by p.pointer x p.loads p.stores (subst (λ k. HasSide k x) p.is h)

  -- an added line is loosely derivable
  pointer_line : (l : Line) → IsPointerLine order lines l → Loosely order lines l
  pointer_line l p = subst (λ k. Loosely order lines k) (sym p.is) (loose_pointer p.pointer (embed p.loads) (embed p.stores))

  module _ (added : List Line) (each : (l : Line) → Contains added l → IsPointerLine order lines l) where
    line_in : (l : Line) → Contains lines l ⊎ Contains added l → Loosely order lines l
    line_in l (inl c) = own_line l c
    line_in l (inr c) = pointer_line l (each l c)

    side_in : (l : Line) (x : Dtv) → HasSide l x → Contains lines l ⊎ Contains added l → Loosely order lines (Var x)
    side_in l x h (inl c) = loose_named l c h
    side_in l x h (inr c) = embed (pointer_side l x (each l c) h)

    from_added : {j : Line} → Derivable order (lines ++ added) j → Loosely order lines j
    from_added d = carried order lines (lines ++ added) (λ l c. line_in l (Contains-append_cases lines added l c))
        (λ l x c h. side_in l x h (Contains-append_cases lines added l c)) d

  -- what the added lines derive is loosely derivable
  pub loosely : (j : Line) → IsLoose order lines j → Loosely order lines j
  loosely j h = from_added h.added h.each h.derivable

  -- what is loosely derivable of shapes is derivable
  abbrev pub IsStrict : Line → Type 0
  IsStrict (Var x) = Derivable order lines (Var x)
  IsStrict (Same x y) = Derivable order lines (Same x y)
  IsStrict (Sub x y) = Derivable order lines (Same x y)
  IsStrict (Low k x) = Derivable order lines (Var x)
  IsStrict (Up x k) = Derivable order lines (Var x)

  pub both_there : {x y : Dtv} → Derivable order lines (Same x y) → Derivable order lines (Var x) × Derivable order lines (Var y)
  both_there d = are_there order lines d

  pub strict_of : {j : Line} → Loosely order lines j → IsStrict j
  strict_of (loose_named l c h) = named l c h
  strict_of (loose_prefix l d) = prefix l (strict_of d)
  strict_of (loose_left_side d) = (both_there (strict_of d)).0
  strict_of (loose_right_side d) = (both_there (strict_of d)).1
  strict_of (loose_same_letter l d e) = same_letter l (strict_of d) (strict_of e)
  strict_of (loose_same_line c) = same_line c
  strict_of (loose_same_sub d) = strict_of d
  strict_of (loose_same_self d) = same_self (strict_of d)
  strict_of (loose_same_back d) = same_back (strict_of d)
  strict_of (loose_same_chain d e) = same_chain (strict_of d) (strict_of e)
  strict_of (loose_same_longer l d e) = same_longer l (strict_of d) (strict_of e)
  strict_of (loose_sub_line c) = same_sub (sub_line c)
  strict_of (loose_sub_self d) = same_self (strict_of d)
  strict_of (loose_sub_chain d e) = same_chain (strict_of d) (strict_of e)
  strict_of (loose_sub_co l d e s) = same_longer l (strict_of d) (same_letter l (same_back (strict_of d)) (strict_of e))
  strict_of (loose_sub_contra l d e s) = same_longer l (same_back (strict_of d)) (strict_of e)
  strict_of (loose_sub_pointer x d e) = same_sub (sub_pointer x (strict_of d) (strict_of e))
  strict_of (loose_pointer x d e) = same_back (same_sub (sub_pointer x (strict_of d) (strict_of e)))
  strict_of (loose_low_line {k = k} {x = x} c) = named (Low k x) c refl
  strict_of (loose_up_line {k = k} {x = x} c) = named (Up x k) c refl
  strict_of (loose_low_sub d e a) = (both_there (strict_of e)).1
  strict_of (loose_up_sub d e a) = (both_there (strict_of d)).0

  no_added : {j : Line} → Derivable order lines j → IsLoose order lines j
  no_added d = record { added = []; each = λ l c. absurd (Contains-none l c); derivable = derives_left order lines [] d }

  pub lift : {j k : Line} → ((more : List Line) → Derivable order more j → Derivable order more k) → IsLoose order lines j →
      IsLoose order lines k
  lift f h = record { added = h.added; each = h.each; derivable = f (lines ++ h.added) h.derivable }

  each_by : {j k : Line} (g : IsLoose order lines j) (h : IsLoose order lines k) (l : Line) → Contains g.added l ⊎ Contains h.added l →
      IsPointerLine order lines l
  each_by g h l (inl c) = g.each l c
  each_by g h l (inr c) = h.each l c

  first_in : (a b : List Line) (l : Line) → Contains lines l ⊎ Contains a l → Contains (lines ++ (a ++ b)) l
  first_in a b l (inl c) = Contains-append_left lines (a ++ b) l c
  first_in a b l (inr c) = Contains-append_right lines (a ++ b) l (Contains-append_left a b l c)

  second_in : (a b : List Line) (l : Line) → Contains lines l ⊎ Contains b l → Contains (lines ++ (a ++ b)) l
  second_in a b l (inl c) = Contains-append_left lines (a ++ b) l c
  second_in a b l (inr c) = Contains-append_right lines (a ++ b) l (Contains-append_right a b l c)

  first_of_both : (a b : List Line) {j : Line} → Derivable order (lines ++ a) j → Derivable order (lines ++ (a ++ b)) j
  first_of_both a b d = derives_more order (lines ++ a) (lines ++ (a ++ b))
      (λ l c. given order (lines ++ (a ++ b)) l (first_in a b l (Contains-append_cases lines a l c))) d

  second_of_both : (a b : List Line) {j : Line} → Derivable order (lines ++ b) j → Derivable order (lines ++ (a ++ b)) j
  second_of_both a b d = derives_more order (lines ++ b) (lines ++ (a ++ b))
      (λ l c. given order (lines ++ (a ++ b)) l (second_in a b l (Contains-append_cases lines b l c))) d

  pub lift_both : {j k m : Line} → ((more : List Line) → Derivable order more j → Derivable order more k → Derivable order more m) →
      IsLoose order lines j → IsLoose order lines k → IsLoose order lines m
  lift_both f g h = record {
    added = g.added ++ h.added;
    each = λ l c. each_by g h l (Contains-append_cases g.added h.added l c);
    derivable = f (lines ++ (g.added ++ h.added)) (first_of_both g.added h.added g.derivable) (second_of_both g.added h.added h.derivable);
  }

  only_one : (k l : Line) → (k ≡ l) ⊎ Contains [] l → k ≡ l
  only_one k l (inl e) = e
  only_one k l (inr c) = absurd (Contains-none l c)

  pointer_only : (x : Dtv) → Derivable order lines (Var (longer x Load)) → Derivable order lines (Var (longer x Store)) →
      IsLoose order lines (Sub (longer x Load) (longer x Store))
  pointer_only x d e = record {
    added = Sub (longer x Load) (longer x Store) ∷ [];
    each = λ l c. subst (λ k. IsPointerLine order lines k) (only_one _ l (Contains-cons_cases _ [] l c))
        (record { pointer = x; loads = d; stores = e; is = refl });
    derivable = sub_line (Contains-append_right lines (Sub (longer x Load) (longer x Store) ∷ []) _ (Contains-here _ []));
  }

  -- what is loosely derivable is derivable from some added lines
  pub added : {j : Line} → Loosely order lines j → IsLoose order lines j
  added (loose_named l c h) = no_added (named l c h)
  added (loose_same_line c) = no_added (same_line c)
  added (loose_sub_line c) = no_added (sub_line c)
  added (loose_low_line c) = no_added (low_line c)
  added (loose_up_line c) = no_added (up_line c)
  added (loose_pointer x d e) = pointer_only x (strict_of d) (strict_of e)
  added (loose_prefix l d) = lift (λ more h. prefix l h) (added d)
  added (loose_left_side d) = lift (λ more h. left_side h) (added d)
  added (loose_right_side d) = lift (λ more h. right_side h) (added d)
  added (loose_same_sub d) = lift (λ more h. same_sub h) (added d)
  added (loose_same_self d) = lift (λ more h. same_self h) (added d)
  added (loose_same_back d) = lift (λ more h. same_back h) (added d)
  added (loose_sub_self d) = lift (λ more h. sub_self h) (added d)
  added (loose_same_letter l d e) = lift_both (λ more g h. same_letter l g h) (added d) (added e)
  added (loose_same_chain d e) = lift_both (λ more g h. same_chain g h) (added d) (added e)
  added (loose_same_longer l d e) = lift_both (λ more g h. same_longer l g h) (added d) (added e)
  added (loose_sub_chain d e) = lift_both (λ more g h. sub_chain g h) (added d) (added e)
  added (loose_sub_co l d e s) = lift_both (λ more g h. sub_co l g h s) (added d) (added e)
  added (loose_sub_contra l d e s) = lift_both (λ more g h. sub_contra l g h s) (added d) (added e)
  added (loose_sub_pointer x d e) = lift_both (λ more g h. sub_pointer x g h) (added d) (added e)
  added (loose_low_sub d e a) = lift_both (λ more g h. low_sub g h a) (added d) (added e)
  added (loose_up_sub d e a) = lift_both (λ more g h. up_sub g h a) (added d) (added e)
