-- Ways of exchangeable letters are shapes by the subtype lines alone.
use Rattle.std.proofs.Common.{◌≡◌, ◌⊎◌, inl, inr, List, [], ◌∷◌, Bool, true, false, map, Contains, refl, sym, subst}
use Rattle.std.specs.List.{filter}
use Rattle.std.proofs.lemmas.List.Elements.{Contains-append_left, Contains-append_right, Contains-append_cases}
use Rattle.rt_base.proofs.Lists.{Contains-none, Contains-here, Contains-there, Contains-cons_cases, Contains-map, Contains-map_source, filter-has, filter-source}
use Rattle.rt_lines.specs.declared.label.Label.{Label}
use Rattle.rt_lines.specs.declared.label.Label.TheVariants.{In, Out, Load, Store, Field}
use Rattle.rt_lines.specs.declared.variable.Dtv.{Dtv}
use Rattle.rt_lines.specs.declared.line.Line.{Line}
use Rattle.rt_lines.specs.declared.line.Line.TheVariants.{Var, Same, Sub, Low, Up}
use Rattle.rt_lines.specs.Orders.{Below}
use Rattle.rt_rules.specs.Rules.{longer, Derivable}
use Rattle.rt_rules.specs.Rules.Derivable.{named as side_named, prefix, left_side, right_side, same_letter, same_line, same_sub, same_self, same_back, same_chain, same_longer, sub_line, sub_self, sub_chain, sub_co, sub_contra, sub_pointer, low_line, up_line, low_sub, up_sub}
use Rattle.rt_rules.proofs.Carry.{given}
use Rattle.rt_rules.proofs.Covering.{derives_more}
use Rattle.rt_named.specs.Naming.{named}
use Rattle.rt_loose.specs.Kinds.{Kind, flexible, IsPointer, half, kept}
use Rattle.rt_loose.specs.Ways.{Way, Every}
use Rattle.rt_loose.specs.Ways.Way.{here, up, down, flexible_up, flexible_down, join, push}
use Rattle.rt_loose.specs.Laws.{is_sub, flat_lines}
use Rattle.rt_loose.proofs.Known.{Known, known_there}
use Rattle.rt_loose.proofs.Steps.{way_turned, way_named}

module _ (order : Below) (lines : List Line) where
  abbrev flat : List Line
  flat = flat_lines lines

  abbrev as_line : Dtv → Line
  as_line x = Var x

  -- the subtype lines stand there, and each named variable
  sub_in : (x y : Dtv) → Contains lines (Sub x y) → Contains flat (Sub x y)
  sub_in x y c =
      Contains-append_left (filter is_sub lines) (map as_line (named lines [])) (Sub x y) (filter-has is_sub lines (Sub x y) c refl)

  var_in : (x : Dtv) → Known order lines x → Derivable order flat (Var x)
  var_in x c = side_named (Var x)
      (Contains-append_right (filter is_sub lines) (map as_line (named lines [])) (Var x) (Contains-map as_line (named lines []) x c)) refl

  pointers_same : (x y : Dtv) (l m : Label) → IsPointer l → IsPointer m → Derivable order flat (Same x y) →
      Derivable order flat (Var (longer x l)) → Derivable order flat (Var (longer y m)) →
      Derivable order flat (Same (longer x l) (longer y m))
  pointers_same x y Load Load p q e v w = same_longer Load e v
  pointers_same x y Store Store p q e v w = same_longer Store e v
  pointers_same x y Load Store p q e v w =
      same_chain (same_longer Load e v) (same_back (same_sub (sub_pointer y (same_letter Load e v) w)))
  pointers_same x y Store Load p q e v w =
      same_chain (same_longer Store e v) (same_sub (sub_pointer y w (same_letter Store e v)))
  pointers_same x y (Field wide off) m p q e v w = absurd p
  pointers_same x y (In loc) m p q e v w = absurd p
  pointers_same x y (Out n) m p q e v w = absurd p
  pointers_same x y Load (Field wide off) p q e v w = absurd q
  pointers_same x y Load (In loc) p q e v w = absurd q
  pointers_same x y Load (Out n) p q e v w = absurd q
  pointers_same x y Store (Field wide off) p q e v w = absurd q
  pointers_same x y Store (In loc) p q e v w = absurd q
  pointers_same x y Store (Out n) p q e v w = absurd q

  pub flat_same : {x y : Dtv} {k : Kind} → Way order lines (Known order lines) x y k → Derivable order flat (Same x y)
  flat_same (here {x} k c v) = same_self (var_in x c)
  flat_same (up {x} {y} c) = same_sub (sub_line (sub_in x y c))
  flat_same (down {x} {y} c) = same_back (same_sub (sub_line (sub_in x y c)))
  flat_same (flexible_up {x} {y} c) = same_sub (sub_line (sub_in x y c))
  flat_same (flexible_down {x} {y} c) = same_back (same_sub (sub_line (sub_in x y c)))
  flat_same (join b c) = same_chain (flat_same b) (flat_same c)
  flat_same (push {x} {y} {l} {m} p q v w b (half i j f)) =
      pointers_same x y l m i j (flat_same b) (var_in (longer x l) p) (var_in (longer y m) q)
  flat_same (push {x} {y} {l} p q v w b kept) = same_longer l (flat_same b) (var_in (longer x l) p)

  -- and nothing else stands there
  data IsFlat : Line → Type 0 where
    flat_sub : {l : Line} → Contains lines l → is_sub l ≡ true → IsFlat l
    flat_var : {x : Dtv} → Known order lines x → IsFlat (Var x)

  flat_by : (l : Line) → Contains (filter is_sub lines) l ⊎ Contains (map as_line (named lines [])) l → IsFlat l
  flat_by l (inl c) = let r : Contains lines l × (is_sub l ≡ true) = filter-source is_sub lines l c in flat_sub r.0 r.1
  flat_by l (inr c) =
      let r : (x : Dtv) × Known order lines x × (Var x ≡ l) = Contains-map_source as_line (named lines []) l c in
      subst IsFlat r.2 (flat_var r.1)

  flat_of : (l : Line) → Contains flat l → IsFlat l
  flat_of l c = flat_by l (Contains-append_cases (filter is_sub lines) (map as_line (named lines [])) l c)

  flat_given : (l : Line) → IsFlat l → Derivable order lines l
  flat_given l (flat_sub c e) = given order lines l c
  flat_given l (flat_var {x} c) = known_there order lines x c

  holds : {j : Line} → Derivable order flat j → Derivable order lines j
  holds d = derives_more order flat lines (λ l c. flat_given l (flat_of l c)) d

  flat_pair : (x y : Dtv) → IsFlat (Sub x y) → Contains lines (Sub x y)
  flat_pair x y (flat_sub c e) = c

  no_same : (x y : Dtv) → IsFlat (Same x y) → ⊥
  no_same x y (flat_sub c e) = cc

  -- what has one shape by them has a way of exchangeable letters
  abbrev IsJoined : Line → Type 0
  IsJoined (Same x y) = Way order lines Every x y flexible
  IsJoined (Sub x y) = Way order lines Every x y flexible
  IsJoined (Var x) = Unit {0}
  IsJoined (Low k x) = Unit {0}
  IsJoined (Up x k) = Unit {0}

  joined : {j : Line} → Derivable order flat j → IsJoined j
  joined (side_named l c h) = tt
  joined (prefix l d) = tt
  joined (left_side d) = tt
  joined (right_side d) = tt
  joined (same_letter l d e) = tt
  joined (same_line {x = x} {y = y} c) = absurd (no_same x y (flat_of (Same x y) c))
  joined (same_sub d) = joined d
  joined (same_self d) = here flexible tt (holds d)
  joined (same_back d) = way_turned order lines Every (joined d)
  joined (same_chain d e) = join (joined d) (joined e)
  joined (same_longer l d e) = push tt tt (holds e) (holds (same_letter l d e)) (joined d) kept
  joined (sub_line {x = x} {y = y} c) = flexible_up (flat_pair x y (flat_of (Sub x y) c))
  joined (sub_self d) = here flexible tt (holds d)
  joined (sub_chain d e) = join (joined d) (joined e)
  joined (sub_co l d e h) = push tt tt (holds (same_letter l (same_back (same_sub d)) e)) (holds e) (joined d) kept
  joined (sub_contra l d e h) =
      push tt tt (holds e) (holds (same_letter l (same_back (same_sub d)) e)) (way_turned order lines Every (joined d)) kept
  joined (sub_pointer x d e) = push tt tt (holds e) (holds d) (here flexible tt (holds (prefix Load d))) (half tt tt (holds d, holds e))
  joined (low_line c) = tt
  joined (up_line c) = tt
  joined (low_sub d e a) = tt
  joined (up_sub d e a) = tt

  pub flat_way : {x y : Dtv} → Known order lines x → Known order lines y → Derivable order flat (Same x y) →
      Way order lines (Known order lines) x y flexible
  flat_way p q d = way_named order lines p q (joined d)
