-- Where lines have, directly after a procedure, only letters that may follow it, and never the procedure itself, so has what they derive,
-- but for procedures themselves; and lines have where the rows do of which they are made.
use Rattle.std.proofs.Common.{◌≡◌, ℕ, ◌⊎◌, inl, inr, List, [], ◌∷◌, ◌++◌, flat_map, Contains, refl, sym, ap, subst, ◌∙◌}
use Rattle.rt_base.proofs.Lists.{Contains-flat_map_source, Contains-map_source}
use Rattle.rt_lines.specs.declared.label.Label.{Label}
use Rattle.rt_lines.specs.declared.label.Label.TheVariants.{Load, Store}
use Rattle.rt_lines.specs.declared.variable.Base.{Base}
use Rattle.rt_lines.specs.declared.variable.Base.TheVariants.{Proc}
use Rattle.rt_lines.specs.declared.variable.Dtv.{Dtv}
use Rattle.rt_lines.specs.declared.line.Line.{Line}
use Rattle.rt_lines.specs.declared.line.Line.TheVariants.{Var, Same, Sub, Low, Up}
use Rattle.rt_lines.specs.Numbering.{deduplicated}
use Rattle.rt_lines.specs.Orders.{Below}
use Rattle.rt_lines.proofs.Deduplicating.{deduplicated-source}
use Rattle.rt_rules.specs.Rules.{longer, HasSide, Derivable}
use Rattle.rt_rules.specs.Rules.Derivable.{
  named,
  prefix,
  left_side,
  right_side,
  same_letter,
  same_line,
  same_sub,
  same_self,
  same_back,
  same_chain,
  same_longer,
  sub_line,
  sub_self,
  sub_chain,
  sub_co,
  sub_contra,
  sub_pointer,
  low_line,
  up_line,
  low_sub,
  up_sub,
}
use Rattle.rt_rows.specs.declared.name.Name.{Name}
use Rattle.rt_rows.specs.declared.row.Root.{Root}
use Rattle.rt_rows.specs.declared.row.Root.TheVariants as root
use Rattle.rt_rows.specs.declared.row.Row.{Row}
use Rattle.rt_rows.specs.declared.row.Row.TheVariants as row
use Rattle.rt_rows.specs.declared.row.Term.{Term}
use Rattle.rt_rows.specs.Terms.{group_lines, line_of, lines_by, names_of, root_base, variable_of}

-- the word has a first letter, which may follow the procedure of a number
abbrev pub Begins : (ℕ → Label → Type 0) → ℕ → List Label → Type 0
Begins A n [] = ⊥
Begins A n (l ∷ w) = A n l

not_empty : (w : List Label) (l : Label) → w ++ l ∷ [] ≡ [] → ⊥
not_empty [] l e = cc
not_empty (k ∷ w) l e = cc

module _ (A : ℕ → Label → Type 0) where
  -- where the base is a procedure, a letter comes first that may
  abbrev pub IsLettered : Dtv → Type 0
  IsLettered x = (n : ℕ) → x.base ≡ Proc n → Begins A n x.word

  -- or it is a base itself
  abbrev IsFitting : Dtv → Type 0
  IsFitting x = (x.word ≡ []) ⊎ IsLettered x

  -- one variable, or two of which none is a procedure itself
  abbrev AreFitting : Dtv → Dtv → Type 0
  AreFitting x y = ((x ≡ y) × IsFitting x) ⊎ (IsLettered x × IsLettered y)

  abbrev Fits : Line → Type 0
  Fits (Var x) = IsFitting x
  Fits (Same x y) = AreFitting x y
  Fits (Sub x y) = AreFitting x y
  Fits (Low k x) = IsFitting x
  Fits (Up x k) = IsFitting x

  pub begins-longer : (n : ℕ) (w v : List Label) → Begins A n w → Begins A n (w ++ v)
  begins-longer n [] v h = absurd h
  begins-longer n (l ∷ w) v h = h

  -- with a letter more
  more_of : (x : Dtv) (l : Label) → IsLettered x → IsLettered (longer x l)
  more_of x l h n e = begins-longer n x.word (l ∷ []) (h n e)

  -- with a letter fewer
  fewer_at : (b : Base) (w : List Label) (l : Label) → ((n : ℕ) → b ≡ Proc n → Begins A n (w ++ l ∷ []))
      → (w ≡ []) ⊎ ((n : ℕ) → b ≡ Proc n → Begins A n w)
  fewer_at b [] l h = inl refl
  fewer_at b (k ∷ w) l h = inr h

  fewer : (x : Dtv) (l : Label) → IsFitting (longer x l) → IsFitting x
  fewer x l (inl e) = absurd (not_empty x.word l e)
  fewer x l (inr h) = fewer_at x.base x.word l h

  -- of two
  left_of : (x y : Dtv) → AreFitting x y → IsFitting x
  left_of x y (inl (e, h)) = h
  left_of x y (inr (h, g)) = inr h

  right_of : (x y : Dtv) → AreFitting x y → IsFitting y
  right_of x y (inl (e, h)) = subst IsFitting e h
  right_of x y (inr (h, g)) = inr g

  back_of : (x y : Dtv) → AreFitting x y → AreFitting y x
  back_of x y (inl (e, h)) = inl (sym e, subst IsFitting e h)
  back_of x y (inr (h, g)) = inr (g, h)

  chain_of : (x y z : Dtv) → AreFitting x y → AreFitting y z → AreFitting x z
  chain_of x y z (inl (e, h)) (inl (f, g)) = inl (e ∙ f, h)
  chain_of x y z (inl (e, h)) (inr (g, k)) = inr (subst IsLettered (sym e) g, k)
  chain_of x y z (inr (h, g)) (inl (f, k)) = inr (h, subst IsLettered f g)
  chain_of x y z (inr (h, g)) (inr (k, m)) = inr (h, m)

  more_two : (x y : Dtv) (l : Label) → AreFitting x y → IsFitting (longer x l) → AreFitting (longer x l) (longer y l)
  more_two x y l (inl (e, h)) fits = inl (ap (λ z. longer z l) e, fits)
  more_two x y l (inr (h, g)) fits = inr (more_of x l h, more_of y l g)

  -- two letters after one variable
  two_letters : (x : Dtv) (l m : Label) → IsFitting (longer x l) → IsFitting (longer x m) → AreFitting (longer x l) (longer x m)
  two_letters x l m (inl e) g = absurd (not_empty x.word l e)
  two_letters x l m (inr h) (inl e) = absurd (not_empty x.word m e)
  two_letters x l m (inr h) (inr g) = inr (h, g)

  module _ (order : Below) (lines : List Line) (fit : (l : Line) (x : Dtv) → Contains lines l → HasSide l x → IsLettered x) where
    derived_fits : {j : Line} → Derivable order lines j → Fits j
    derived_fits (named l {x = x} c h) = inr (fit l x c h)
    derived_fits (prefix {x = x} l d) = fewer x l (derived_fits d)
    derived_fits (left_side {x = x} {y = y} d) = left_of x y (derived_fits d)
    derived_fits (right_side {x = x} {y = y} d) = right_of x y (derived_fits d)
    derived_fits (same_letter {x = x} {y = y} l d e) =
        right_of (longer x l) (longer y l) (more_two x y l (derived_fits d) (derived_fits e))
    derived_fits (same_line {x = x} {y = y} c) = inr (fit (Same x y) x c (inl refl), fit (Same x y) y c (inr refl))
    derived_fits (same_sub d) = derived_fits d
    derived_fits (same_self d) = inl (refl, derived_fits d)
    derived_fits (same_back {x = x} {y = y} d) = back_of x y (derived_fits d)
    derived_fits (same_chain {x = x} {y = y} {z = z} d e) = chain_of x y z (derived_fits d) (derived_fits e)
    derived_fits (same_longer {x = x} {y = y} l d e) = more_two x y l (derived_fits d) (derived_fits e)
    derived_fits (sub_line {x = x} {y = y} c) = inr (fit (Sub x y) x c (inl refl), fit (Sub x y) y c (inr refl))
    derived_fits (sub_self d) = inl (refl, derived_fits d)
    derived_fits (sub_chain {x = x} {y = y} {z = z} d e) = chain_of x y z (derived_fits d) (derived_fits e)
    derived_fits (sub_co {x = x} {y = y} l d e s) =
        back_of (longer y l) (longer x l) (more_two y x l (back_of x y (derived_fits d)) (derived_fits e))
    derived_fits (sub_contra {x = x} {y = y} l d e s) = more_two y x l (back_of x y (derived_fits d)) (derived_fits e)
    derived_fits (sub_pointer x d e) = two_letters x Store Load (derived_fits e) (derived_fits d)
    derived_fits (low_line {k = k} {x = x} c) = inr (fit (Low k x) x c refl)
    derived_fits (up_line {k = k} {x = x} c) = inr (fit (Up x k) x c refl)
    derived_fits (low_sub {x = x} {y = y} d e a) = right_of x y (derived_fits e)
    derived_fits (up_sub {x = x} {y = y} d e a) = left_of x y (derived_fits d)

    first_of : (x : Dtv) (n : ℕ) (l : Label) (w : List Label) → IsFitting x → x.base ≡ Proc n → x.word ≡ l ∷ w → A n l
    first_of x n l w (inl e) b at = cc
    first_of x n l w (inr h) b at = subst (Begins A n) at (h n b)

    -- where a variable is derivable, the letter directly after a procedure may follow it
    pub first-letter : (x : Dtv) (n : ℕ) (l : Label) (w : List Label) → Derivable order lines (Var x) → x.base ≡ Proc n → x.word ≡ l ∷ w → A n l
    first-letter x n l w d = first_of x n l w (derived_fits d)

-- Rows and their lines.

-- where the root of a term is a procedure, a letter comes first that may
abbrev pub IsLetteredTerm : (ℕ → Label → Type 0) → Term → Type 0
IsLetteredTerm A x = (n : ℕ) → x.root ≡ root.Proc n → Begins A n x.word

-- so it is for each term of a row
abbrev pub IsLetteredRow : (ℕ → Label → Type 0) → Row → Type 0
IsLetteredRow A (row.Var x) = IsLetteredTerm A x
IsLetteredRow A (row.Same x y) = IsLetteredTerm A x × IsLetteredTerm A y
IsLetteredRow A (row.Sub x y) = IsLetteredTerm A x × IsLetteredTerm A y
IsLetteredRow A (row.Low k x) = IsLetteredTerm A x
IsLetteredRow A (row.Up x k) = IsLetteredTerm A x

module _ (A : ℕ → Label → Type 0) where
  root_of : (names : List Name) (r : Root) (n : ℕ) → root_base names r ≡ Proc n → r ≡ root.Proc n
  root_of names (root.Proc p) n e = let same : p ≡ n = cc in ap root.Proc same
  root_of names (root.Global g) n e = cc
  root_of names (root.Outer k) n e = cc
  root_of names (root.Named x) n e = cc

  term_lettered : (names : List Name) (x : Term) (y : Dtv) → IsLetteredTerm A x → variable_of names x ≡ y → IsLettered A y
  term_lettered names x y h e = subst (IsLettered A) e (λ n is. h n (root_of names x.root n is))

  side_lettered : (names : List Name) (r : Row) (y : Dtv) → IsLetteredRow A r → HasSide (line_of names r) y → IsLettered A y
  side_lettered names (row.Var x) y h e = term_lettered names x y h e
  side_lettered names (row.Same x z) y h (inl e) = term_lettered names x y h.0 e
  side_lettered names (row.Same x z) y h (inr e) = term_lettered names z y h.1 e
  side_lettered names (row.Sub x z) y h (inl e) = term_lettered names x y h.0 e
  side_lettered names (row.Sub x z) y h (inr e) = term_lettered names z y h.1 e
  side_lettered names (row.Low k x) y h e = term_lettered names x y h e
  side_lettered names (row.Up x k) y h e = term_lettered names x y h e

  -- the lines of rows of such terms are of such variables
  pub lines-lettered : (lists : List (List Row)) → ((rows : List Row) (r : Row) → Contains lists rows → Contains rows r → IsLetteredRow A r)
      → (l : Line) (y : Dtv) → Contains (flat_map (λ (lines : List Line). lines) (group_lines lists)) l → HasSide l y → IsLettered A y
  lines-lettered lists h l y c s =
      let names : List Name = names_of (flat_map (λ (rows : List Row). rows) lists) in
      let of_rows : List Row → List Line = λ rows. deduplicated (lines_by names rows) in
      let (lines, among, in_lines) = Contains-flat_map_source (λ (lines : List Line). lines) (group_lines lists) l c in
      let (rows, of_group, same) = Contains-map_source of_rows lists lines among in
      let in_rows : Contains (of_rows rows) l = subst (λ (ls : List Line). Contains ls l) (sym same) in_lines in
      let (r, there, is) = Contains-map_source (line_of names) rows l (deduplicated-source (lines_by names rows) l in_rows) in
      side_lettered names r y (h rows r of_group there) (subst (λ (k : Line). HasSide k y) (sym is) s)
