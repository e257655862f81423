-- Lists alike for a procedure stay alike for whoever names all but their existentials, when these are renamed.
use Rattle.std.proofs.Common.{◌≡◌, ℕ, ◌+◌, ◌*◌, ◌%◌, ◌/◌, ◌⊎◌, ◌||◌, inl, inr, List, ◌++◌, map, All, Contains, Bool, true, false, cond}
use Rattle.std.proofs.Common.{nat_eq, refl, ap, sym, ◌∙◌, subst, arith}
use Rattle.std.proofs.lemmas.Bool.{eq-eqb}
use Rattle.rt_lines.specs.declared.line.Judge.{Judge}
use Rattle.rt_lines.specs.declared.line.Judge.TheVariants.{Var as JudgeVar, Sub as JudgeSub, Low as JudgeLow, Up as JudgeUp}
use Rattle.std.proofs.lemmas.List.Elements.{Contains-append_cases, Contains-append_left, Contains-append_right, All-contains}
use Rattle.rt_lines.specs.declared.variable.Base.{Base}
use Rattle.rt_lines.specs.declared.variable.Base.TheVariants.{Proc, Global, Exist, Outer}
use Rattle.rt_lines.specs.declared.variable.Dtv.{Dtv}
use Rattle.rt_lines.specs.declared.line.Line.{Line}
use Rattle.rt_lines.specs.declared.line.Line.TheVariants.{Var, Same, Sub, Low, Up}
use Rattle.rt_lines.specs.Orders.{Below}
use Rattle.rt_rules.specs.Rules.{HasSide, Derivable, line_of}
use Rattle.rt_rules.specs.Alike.{IsOutside, Covers, map_line, is_inside_for}
use Rattle.rt_rules.specs.Laws.{renamed}
use Rattle.rt_rules.proofs.Lists.{Contains-map, Contains-map_source, All-from_contains}
use Rattle.rt_lines.proofs.LineSides.{map_line-twice}
use Rattle.rt_rules.proofs.Carry.{given, carry}
use Rattle.rt_rules.proofs.Covering.{map_line-fixed}

-- a base of the outside that no list names, for each base
abbrev code : Base → ℕ
code (Exist n) = 3 * n
code (Proc n) = 3 * n + 1
code (Outer n) = 3 * n + 2
code (Global n) = 0

abbrev decoded : ℕ → Bool → Bool → Base
decoded n true b = Exist n
decoded n false true = Proc n
decoded n false false = Outer n

abbrev decode : ℕ → Base
decode c = decoded (c / 3) (nat_eq (c % 3) 0) (nat_eq (c % 3) 1)

decode-exist : (n : ℕ) → decode (3 * n) ≡ Exist n
decode-exist n =
    let a : 3 * n / 3 ≡ n = omega arith in
    let b : 3 * n % 3 ≡ 0 = omega arith in
    rw (a, b) refl

decode-proc : (n : ℕ) → decode (3 * n + 1) ≡ Proc n
decode-proc n =
    let a : (3 * n + 1) / 3 ≡ n = omega arith in
    let b : (3 * n + 1) % 3 ≡ 1 = omega arith in
    rw (a, b) refl

decode-outer : (n : ℕ) → decode (3 * n + 2) ≡ Outer n
decode-outer n =
    let a : (3 * n + 2) / 3 ≡ n = omega arith in
    let b : (3 * n + 2) % 3 ≡ 2 = omega arith in
    rw (a, b) refl

-- a map there and a map back leave a line where they leave its sides
there_and_back : (f g : Dtv → Dtv) (l : Line) → ((x : Dtv) → HasSide l x → g (f x) ≡ x) → map_line g (map_line f l) ≡ l
there_and_back f g l h = map_line-twice g f l ∙ map_line-fixed (λ x. g (f x)) l h

-- the base is the procedure's own, a global or an existential
abbrev pub IsOwnBase : ℕ → Base → Type 0
IsOwnBase q (Proc n) = n ≡ q
IsOwnBase q (Global n) = Unit {0}
IsOwnBase q (Exist n) = Unit {0}
IsOwnBase q (Outer n) = ⊥

abbrev pub AreOwnLines : ℕ → List Line → Type 0
AreOwnLines q lines = (l : Line) (x : Dtv) → Contains lines l → HasSide l x → IsOwnBase q x.base

-- the existentials of a list are renamed to new ones, and back
pub record IsFresh (lines : List Line) (is_new : ℕ → Bool) (forth back : ℕ → ℕ) : Type 0 where
  pub new : (l : Line) (x : Dtv) (n : ℕ) → Contains lines l → HasSide l x → x.base ≡ Exist n → is_new (forth n) ≡ true
  pub returns : (l : Line) (x : Dtv) (n : ℕ) → Contains lines l → HasSide l x → x.base ≡ Exist n → back (forth n) ≡ n

abbrev pub fresh : (ℕ → ℕ) → Base → Base
fresh forth (Proc n) = Proc n
fresh forth (Global n) = Global n
fresh forth (Exist n) = Exist (forth n)
fresh forth (Outer n) = Outer n

abbrev pub is_new_base : (ℕ → Bool) → (ℕ → Bool) → Base → Bool
is_new_base one two (Proc n) = false
is_new_base one two (Global n) = false
is_new_base one two (Exist n) = one n || two n
is_new_base one two (Outer n) = false

module _ (order : Below) (q : ℕ) (first second : List Line) (one two : ℕ → Bool) (forth back onward : ℕ → ℕ)
    (own_first : AreOwnLines q first) (own_second : AreOwnLines q second) (fresh_first : IsFresh first one forth back)
    (covers : Covers order (is_inside_for q) first second) where
  -- all but the own base, globals and the new existentials become bases of the outside
  abbrev out_of : Base → Base
  out_of (Proc n) = cond (nat_eq n q) (Proc n) (Outer (3 * n + 1))
  out_of (Global n) = Global n
  out_of (Exist n) = cond (one n) (Exist (back n)) (Outer (3 * n))
  out_of (Outer n) = Outer (3 * n + 2)

  abbrev into : Base → Base
  into (Proc n) = Proc n
  into (Global n) = Global n
  into (Exist n) = Exist (onward n)
  into (Outer n) = decode n

  out_exist : (n : ℕ) (b : Bool) → one n ≡ b → b || two n ≡ false → out_of (Exist n) ≡ Outer (3 * n)
  out_exist n true e h = absurd (cc)
  out_exist n false e h = rw e refl

  into_proc : (n : ℕ) (b : Bool) → nat_eq n q ≡ b → into (out_of (Proc n)) ≡ Proc n
  into_proc n true e = rw e refl
  into_proc n false e = rw e (decode-proc n)

  -- a base of the outside comes back
  returns : (b : Base) → is_new_base one two b ≡ false → into (out_of b) ≡ b
  returns (Proc n) e = into_proc n (nat_eq n q) refl
  returns (Global n) e = refl
  returns (Exist n) e = ap into (out_exist n (one n) refl e) ∙ decode-exist n
  returns (Outer n) e = decode-outer n

  outside_proc : (n : ℕ) (b : Bool) → nat_eq n q ≡ b → is_inside_for q (out_of (Proc n)) ≡ false
  outside_proc n true e = rw e (rw e refl)
  outside_proc n false e = rw e refl

  -- and is of the outside of the procedure meanwhile
  outside : (b : Base) → is_new_base one two b ≡ false → is_inside_for q (out_of b) ≡ false
  outside (Proc n) e = outside_proc n (nat_eq n q) refl
  outside (Global n) e = refl
  outside (Exist n) e = ap (is_inside_for q) (out_exist n (one n) refl e)
  outside (Outer n) e = refl

  outside_sides : (l : Line) → IsOutside (is_new_base one two) l → IsOutside (is_inside_for q) (map_line (renamed out_of) l)
  outside_sides (Var x) h y e = subst (λ z. is_inside_for q z.base ≡ false) e (outside x.base (h x refl))
  outside_sides (Same x y) h z (inl e) = subst (λ v. is_inside_for q v.base ≡ false) e (outside x.base (h x (inl refl)))
  outside_sides (Same x y) h z (inr e) = subst (λ v. is_inside_for q v.base ≡ false) e (outside y.base (h y (inr refl)))
  outside_sides (Sub x y) h z (inl e) = subst (λ v. is_inside_for q v.base ≡ false) e (outside x.base (h x (inl refl)))
  outside_sides (Sub x y) h z (inr e) = subst (λ v. is_inside_for q v.base ≡ false) e (outside y.base (h y (inr refl)))
  outside_sides (Low k x) h y e = subst (λ z. is_inside_for q z.base ≡ false) e (outside x.base (h x refl))
  outside_sides (Up x k) h y e = subst (λ z. is_inside_for q z.base ≡ false) e (outside x.base (h x refl))

  own_back : (b : Base) → IsOwnBase q b → ((n : ℕ) → b ≡ Exist n → (one (forth n) ≡ true) × (back (forth n) ≡ n))
      → out_of (fresh forth b) ≡ b
  own_back (Proc n) e h = rw (eq-eqb n q e) refl
  own_back (Global n) e h = refl
  own_back (Exist n) e h = rw ((h n refl).0, (h n refl).1) refl
  own_back (Outer n) e h = absurd e

  own_onward : (b : Base) → IsOwnBase q b → into b ≡ fresh onward b
  own_onward (Proc n) e = refl
  own_onward (Global n) e = refl
  own_onward (Exist n) e = refl
  own_onward (Outer n) e = absurd e

  first_back : (l : Line) → Contains first l → map_line (renamed out_of) (map_line (renamed (fresh forth)) l) ≡ l
  first_back l c = there_and_back (renamed (fresh forth)) (renamed out_of) l
      (λ x h. λ i. record {
        base = own_back x.base (own_first l x c h)
            (λ n e. (fresh_first.new l x n c h e, fresh_first.returns l x n c h e)) i;
        word = x.word;
      })

  added_back : (l : Line) → IsOutside (is_new_base one two) l → map_line (renamed into) (map_line (renamed out_of) l) ≡ l
  added_back l out = there_and_back (renamed out_of) (renamed into) l (λ x h. λ i. record
      { base = returns x.base (out x h) i; word = x.word })

  mapped : (f g : Dtv → Dtv) (l : Line) → ((x : Dtv) → HasSide l x → f x ≡ g x) → map_line f l ≡ map_line g l
  mapped f g (Var x) h = ap Var (h x refl)
  mapped f g (Same x y) h = rw (h x (inl refl), h y (inr refl)) refl
  mapped f g (Sub x y) h = rw (h x (inl refl), h y (inr refl)) refl
  mapped f g (Low k x) h = rw (h x refl) refl
  mapped f g (Up x k) h = rw (h x refl) refl

  second_onward : (l : Line) → Contains second l → map_line (renamed into) l ≡ map_line (renamed (fresh onward)) l
  second_onward l c = mapped (renamed into) (renamed
      (fresh onward)) l (λ x h. λ i. record { base = own_onward x.base (own_second l x c h) i; word = x.word })

  abbrev judge_out : Judge → Judge
  judge_out (JudgeVar x) = JudgeVar (renamed out_of x)
  judge_out (JudgeSub x y) = JudgeSub (renamed out_of x) (renamed out_of y)
  judge_out (JudgeLow k x) = JudgeLow k (renamed out_of x)
  judge_out (JudgeUp x k) = JudgeUp (renamed out_of x) k

  judged : (j : Judge) → line_of (judge_out j) ≡ map_line (renamed out_of) (line_of j)
  judged (JudgeVar x) = refl
  judged (JudgeSub x y) = refl
  judged (JudgeLow k x) = refl
  judged (JudgeUp x k) = refl

  abbrev inst_first : List Line
  inst_first = map (map_line (renamed (fresh forth))) first

  abbrev inst_second : List Line
  inst_second = map (map_line (renamed (fresh onward))) second

  module _ (added : List Line) (out : All (IsOutside (is_new_base one two)) added) where
    abbrev sent : List Line
    sent = map (map_line (renamed out_of)) added

    sent_outside : (l : Line) → Contains sent l → IsOutside (is_inside_for q) l
    sent_outside l c = let s : (k : Line) × Contains added k × (map_line (renamed out_of) k ≡ l) =
        Contains-map_source (map_line (renamed out_of)) added l c in
        subst (IsOutside (is_inside_for q)) s.2 (outside_sides s.0 (All-contains (IsOutside (is_new_base one two)) added s.0 out s.1))

    gives_out : (l : Line) → Contains inst_first l ⊎ Contains added l → Derivable order (first ++ sent) (map_line (renamed out_of) l)
    gives_out l (inl c) = let s : (k : Line) × Contains first k × (map_line (renamed (fresh forth)) k ≡ l) =
        Contains-map_source (map_line (renamed (fresh forth))) first l c in
        subst (λ m. Derivable order (first ++ sent) (map_line (renamed out_of) m)) s.2
        (subst (Derivable order (first ++ sent)) (sym (first_back s.0 s.1))
        (given order (first ++ sent) s.0 (Contains-append_left first sent s.0 s.1)))
    gives_out l (inr c) = given order (first ++ sent) (map_line (renamed out_of) l)
        (Contains-append_right first sent (map_line (renamed out_of) l) (Contains-map (map_line (renamed out_of)) added l c))

    gives_into : (l : Line) → Contains second l ⊎ Contains sent l → Derivable order (inst_second ++ added) (map_line (renamed into) l)
    gives_into l (inl c) = subst (Derivable order (inst_second ++ added)) (sym (second_onward l c))
        (given order (inst_second ++ added) (map_line (renamed (fresh onward)) l)
        (Contains-append_left inst_second added (map_line (renamed (fresh onward)) l)
        (Contains-map (map_line (renamed (fresh onward))) second l c)))
    gives_into l (inr c) = let s : (k : Line) × Contains added k × (map_line (renamed out_of) k ≡ l) =
        Contains-map_source (map_line (renamed out_of)) added l c in
        subst (λ m. Derivable order (inst_second ++ added) (map_line (renamed into) m)) s.2
        (subst (Derivable order (inst_second ++ added))
        (sym (added_back s.0 (All-contains (IsOutside (is_new_base one two)) added s.0 out s.1)))
        (given order (inst_second ++ added) s.0 (Contains-append_right inst_second added s.0 s.1)))

    widened_at : (j : Judge) → IsOutside (is_new_base one two) (line_of j) → Derivable order (inst_first ++ added) (line_of j)
        → Derivable order (inst_second ++ added) (line_of j)
    widened_at j out_j d =
        let a : Derivable order (first ++ sent) (map_line (renamed out_of) (line_of j)) =
        carry order (inst_first ++ added) (first ++ sent) (renamed out_of) (λ x l. refl)
        (λ l c. gives_out l (Contains-append_cases inst_first added l c)) d in
        let b : Derivable order (second ++ sent) (line_of (judge_out j)) =
        covers sent (judge_out j) (All-from_contains (IsOutside (is_inside_for q)) sent sent_outside)
        (subst (IsOutside (is_inside_for q)) (sym (judged j)) (outside_sides (line_of j) out_j))
        (subst (Derivable order (first ++ sent)) (sym (judged j)) a) in
        let c : Derivable order (inst_second ++ added) (map_line (renamed into) (line_of (judge_out j))) =
        carry order (second ++ sent) (inst_second ++ added) (renamed into) (λ x l. refl)
        (λ l c. gives_into l (Contains-append_cases second sent l c)) b in
        subst (Derivable order (inst_second ++ added)) (ap (map_line (renamed into)) (judged j) ∙ added_back (line_of j) out_j) c

  -- whatever lines are added that name none of the new existentials, what one instance derives the other one does
  pub widened : Covers order (is_new_base one two) inst_first inst_second
  widened added j out out_j d = widened_at added out j out_j d
