-- No text is that of two lines of reports, and no line end stands in one.
use Rattle.std.proofs.Common.{◌≡◌, ◌≢◌, ℕ, ◌+◌, ◌<◌, ◌≤◌, ◌^◌, ◌%◌, List, [], ◌∷◌, ◌++◌, get_or, refl, ap, sym, ◌∙◌, arith, codes, decimal, length, append_assoc}
use Rattle.std.proofs.lemmas.Fmt.{decimal_by_steps, decimal_injective}
use Rattle.std.proofs.lemmas.List.{append_cancel_left}
use Rattle.rt_lines.specs.declared.variable.Base.{Base}
use Rattle.rt_lines.specs.declared.variable.Base.TheVariants.{Proc, Global, Exist, Outer}
use Rattle.rt_lines.specs.declared.line.Line.{Line}
use Rattle.rt_lines.specs.declared.line.Line.TheVariants.{Var, Same, Sub, Low, Up}
use Rattle.rt_lines.specs.Names.{AreNames}
use Rattle.rt_texts.specs.Goods.{IsNumber, IsBase, IsLine}
use Rattle.rt_texts.specs.Texts.{base_text, line_text, word_text}
use Rattle.rt_texts.specs.Readings.{HasNo}
use Rattle.rt_texts.proofs.Cuts.{one_cut}
use Rattle.rt_texts.proofs.OneText.{one_line}
use Rattle.rt_scheme.specs.declared.report.Place2.{Place2}
use Rattle.rt_scheme.specs.NameTexts.{name_text}
use Rattle.rt_scheme.proofs.NamesRead.{one_name}
use Rattle.rt_reports.specs.GoodReports.{IsGlobal}
use Rattle.rt_reports.specs.Inside.Rows.{listed_text, begun_text, row_text, IsBegun, IsRow}
use Rattle.rt_reports.specs.declared.row.Row.{Row}
use Rattle.rt_reports.specs.declared.row.Row.TheVariants.{Listed, Heading, Stated, End}
use Rattle.rt_texts.proofs.Clear.{AreAbove, AreAbove-append, HasNo-above}
use Rattle.rt_scheme.proofs.Clear.{AreAbove-fixed, AreAbove-numbered, AreAbove-decimal, AreAbove-line, AreAbove-name}

-- a number, a space and a word are read in one way
pub one_numbered : (n m : ℕ) (word a b : List ℕ) → IsNumber n → IsNumber m → decimal n ++ 32 ∷ (word ++ a) ≡ decimal m ++ 32 ∷ (word ++ b) → (n ≡ m) × (a ≡ b)
one_numbered n m word a b hn hm same =
    let clear_n : HasNo 32 (decimal n) = HasNo-above 32 47 (decimal n) (omega arith) (AreAbove-decimal n (omega arith)) in
    let clear_m : HasNo 32 (decimal m) = HasNo-above 32 47 (decimal m) (omega arith) (AreAbove-decimal m (omega arith)) in
    let cut = one_cut 32 (decimal n) (32 ∷ (word ++ a)) (decimal m) (32 ∷ (word ++ b)) same clear_n refl clear_m refl in
    let number : n ≡ m = decimal_injective n m (omega arith) (omega arith) cut.0 in
    (number, append_cancel_left (32 ∷ word) a b cut.1)

pub one_listed : (a b : ℕ × List ℕ) → IsGlobal a → IsGlobal b → listed_text a ≡ listed_text b → a ≡ b
one_listed (n, name) (m, other) g h same =
    let parts = one_numbered n m (codes "name ") (name_text name) (name_text other) g.0 h.0 same in
    let number : n ≡ m = parts.0 in
    let named : name ≡ other = one_name name other g.1 h.1 parts.1 in
    λ i. (number i, named i)

pub one_begun : (a b : ℕ × Place2 × List ℕ) → IsBegun a → IsBegun b → begun_text a ≡ begun_text b → a ≡ b
one_begun (n, place, name) (m, at, other) g h same =
    let first = one_numbered n m (codes "section ") (decimal place.section ++ (codes " offset " ++ (decimal place.offset ++ (codes " name " ++ name_text name)))) (decimal at.section ++ (codes " offset " ++ (decimal at.offset ++ (codes " name " ++ name_text other)))) g.0 h.0 same in
    let second = one_numbered place.section at.section (codes "offset ") (decimal place.offset ++ (codes " name " ++ name_text name)) (decimal at.offset ++ (codes " name " ++ name_text other)) (omega arith) (omega arith) first.1 in
    let third = one_numbered place.offset at.offset (codes "name ") (name_text name) (name_text other) (omega arith) (omega arith) second.1 in
    let number : n ≡ m = first.0 in
    let section : place.section ≡ at.section = second.0 in
    let offset : place.offset ≡ at.offset = third.0 in
    let named : name ≡ other = one_name name other g.2 h.2 third.1 in
    λ i. (number i, record { section = section i; offset = offset i }, named i)

-- a number's first byte is a digit
abbrev BeginsWithDigit : List ℕ → Type 0
BeginsWithDigit ds = (rest : List ℕ) → (48 ≤ get_or (ds ++ rest) 0 0) × (get_or (ds ++ rest) 0 0 ≤ 57)

digits_more : (ds : List ℕ) (d : ℕ) → BeginsWithDigit ds → 48 ≤ d → d ≤ 57 → BeginsWithDigit (ds ++ d ∷ [])
digits_more [] d h low high = λ rest. (low, high)
digits_more (x ∷ ds) d h low high = λ rest. h rest

decimal_begins : (n : ℕ) → n < 2 ^ 64 → BeginsWithDigit (decimal n)
decimal_begins n h =
    decimal_by_steps (λ n ds. BeginsWithDigit ds)
    (λ n small rest. (omega arith, omega arith))
    (λ n ds big begins. digits_more ds (48 + n % 10) begins (omega arith) (omega arith))
    n h

-- what a line of an entry begins with: a byte, and after the letter of a global a digit
abbrev IsLineFront : ℕ → ℕ → Type 0
IsLineFront first second = (first ≢ 112) × (first ≢ 101) × (first ≡ 103 → second ≤ 57)

base_front : (b : Base) (w s r : List ℕ) → IsBase b → IsLineFront (get_or (((base_text b ++ w) ++ s) ++ r) 0 0) (get_or (((base_text b ++ w) ++ s) ++ r) 1 0)
base_front (Proc n) w s r good = (λ e. absurd (omega arith), λ e. absurd (omega arith), λ e. absurd (omega arith))
base_front (Exist n) w s r good = (λ e. absurd (omega arith), λ e. absurd (omega arith), λ e. absurd (omega arith))
base_front (Outer n) w s r good = (λ e. absurd (omega arith), λ e. absurd (omega arith), λ e. absurd (omega arith))
base_front (Global n) w s r good =
    let begins : get_or (decimal n ++ (w ++ (s ++ r))) 0 0 ≤ 57 = (decimal_begins n (omega arith) (w ++ (s ++ r))).1 in
    let text : ((decimal n ++ w) ++ s) ++ r ≡ decimal n ++ (w ++ (s ++ r)) = simp append_assoc in
    let small : get_or (((decimal n ++ w) ++ s) ++ r) 0 0 ≤ 57 = rw text begins in
    (λ e. absurd (omega arith), λ e. absurd (omega arith), λ e. small)

line_front : (names : List (List ℕ)) (line : Line) → IsLine (length names) line → IsLineFront (get_or (line_text names line) 0 0) (get_or (line_text names line) 1 0)
line_front names (Var x) good = (λ e. absurd (omega arith), λ e. absurd (omega arith), λ e. absurd (omega arith))
line_front names (Same x y) good = (λ e. absurd (omega arith), λ e. absurd (omega arith), λ e. absurd (omega arith))
line_front names (Low k x) good = (λ e. absurd (omega arith), λ e. absurd (omega arith), λ e. absurd (omega arith))
line_front names (Sub x y) good = base_front x.base (word_text x.word) (codes " <= ") _ good.0.0
line_front names (Up x k) good = base_front x.base (word_text x.word) (codes " <= ") _ good.0.0

-- such a line is none of a global's, no first line of an entry and no end
pub no_listed_line : (names : List (List ℕ)) (line : Line) (rest : List ℕ) → IsLine (length names) line → line_text names line ≡ codes "global g" ++ rest → ⊥
no_listed_line names line rest good same =
    let front = line_front names line good in
    let first : get_or (line_text names line) 0 0 ≡ 103 = ap (λ s. get_or s 0 0) same in
    let second : get_or (line_text names line) 1 0 ≡ 108 = ap (λ s. get_or s 1 0) same in
    let small : get_or (line_text names line) 1 0 ≤ 57 = front.2 first in
    absurd (omega arith)

pub no_begun_line : (names : List (List ℕ)) (line : Line) (rest : List ℕ) → IsLine (length names) line → line_text names line ≡ codes "proc f" ++ rest → ⊥
no_begun_line names line rest good same =
    let front = line_front names line good in
    front.0 (ap (λ s. get_or s 0 0) same)

pub no_end_line : (names : List (List ℕ)) (line : Line) → IsLine (length names) line → line_text names line ≡ codes "end" → ⊥
no_end_line names line good same =
    let front = line_front names line good in
    front.1 (ap (λ s. get_or s 0 0) same)

pub first_bytes : (a b : List ℕ) (x y : ℕ) → a ≡ b → get_or a 0 0 ≡ x → get_or b 0 0 ≡ y → x ≡ y
first_bytes a b x y same here there = sym here ∙ (ap (λ s. get_or s 0 0) same ∙ there)

-- one text, one line
pub one_row : (names : List (List ℕ)) (a b : Row) → AreNames names → IsRow (length names) a → IsRow (length names) b → row_text names a ≡ row_text names b → a ≡ b
one_row names (Listed n name) (Listed m other) fine g h same =
    let both : ◌≡◌ {A = ℕ × List ℕ} (n, name) (m, other) = one_listed (n, name) (m, other) g h (append_cancel_left (codes "global g") _ _ same) in
    λ i. Listed (both i).0 (both i).1
one_row names (Heading n place name) (Heading m at other) fine g h same =
    let all : ◌≡◌ {A = ℕ × Place2 × List ℕ} (n, place, name) (m, at, other) = one_begun (n, place, name) (m, at, other) g h (append_cancel_left (codes "proc f") _ _ same) in
    λ i. Heading (all i).0 (all i).1 (all i).2
one_row names (Stated x) (Stated y) fine g h same = let e : x ≡ y = one_line names x y fine g h same in λ i. Stated (e i)
one_row names End End fine g h same = refl
one_row names (Listed n name) (Heading m at other) fine g h same = let e : ◌≡◌ {A = ℕ} 103 112 = first_bytes _ _ 103 112 same refl refl in absurd (omega arith)
one_row names (Listed n name) End fine g h same = let e : ◌≡◌ {A = ℕ} 103 101 = first_bytes _ _ 103 101 same refl refl in absurd (omega arith)
one_row names (Heading n place name) (Listed m other) fine g h same = let e : ◌≡◌ {A = ℕ} 112 103 = first_bytes _ _ 112 103 same refl refl in absurd (omega arith)
one_row names (Heading n place name) End fine g h same = let e : ◌≡◌ {A = ℕ} 112 101 = first_bytes _ _ 112 101 same refl refl in absurd (omega arith)
one_row names End (Listed m other) fine g h same = let e : ◌≡◌ {A = ℕ} 101 103 = first_bytes _ _ 101 103 same refl refl in absurd (omega arith)
one_row names End (Heading m at other) fine g h same = let e : ◌≡◌ {A = ℕ} 101 112 = first_bytes _ _ 101 112 same refl refl in absurd (omega arith)
one_row names (Stated x) (Listed m other) fine g h same = absurd (no_listed_line names x (listed_text (m, other)) g same)
one_row names (Listed m other) (Stated x) fine g h same = absurd (no_listed_line names x (listed_text (m, other)) h (sym same))
one_row names (Stated x) (Heading m at other) fine g h same = absurd (no_begun_line names x (begun_text (m, at, other)) g same)
one_row names (Heading m at other) (Stated x) fine g h same = absurd (no_begun_line names x (begun_text (m, at, other)) h (sym same))
one_row names (Stated x) End fine g h same = absurd (no_end_line names x g same)
one_row names End (Stated x) fine g h same = absurd (no_end_line names x h (sym same))

-- no line end stands in a line
row_above : (names : List (List ℕ)) (row : Row) → AreNames names → IsRow (length names) row → AreAbove 31 (row_text names row)
row_above names (Listed n name) fine good =
    AreAbove-numbered (codes "global g") n (codes " name " ++ name_text name) refl (omega arith) (AreAbove-append 31 (codes " name ") (name_text name) (AreAbove-fixed (codes " name ") refl) (AreAbove-name name))
row_above names (Heading n place name) fine good =
    let named : AreAbove 31 (codes " name " ++ name_text name) = AreAbove-append 31 (codes " name ") (name_text name) (AreAbove-fixed (codes " name ") refl) (AreAbove-name name) in
    let offset = AreAbove-numbered (codes " offset ") place.offset (codes " name " ++ name_text name) refl (omega arith) named in
    let section = AreAbove-numbered (codes " section ") place.section (codes " offset " ++ (decimal place.offset ++ (codes " name " ++ name_text name))) refl (omega arith) offset in
    AreAbove-numbered (codes "proc f") n (codes " section " ++ (decimal place.section ++ (codes " offset " ++ (decimal place.offset ++ (codes " name " ++ name_text name))))) refl (omega arith) section
row_above names (Stated line) fine good = AreAbove-line names line fine good
row_above names End fine good = AreAbove-fixed (codes "end") refl

pub row_clear : (names : List (List ℕ)) (row : Row) → AreNames names → IsRow (length names) row → HasNo 10 (row_text names row)
row_clear names row fine good = HasNo-above 10 31 (row_text names row) (omega arith) (row_above names row fine good)
