-- Lines of reports, read part by part.
use Rattle.std.proofs.Common.{◌≡◌, ◌≢◌, ℕ, ◌<◌, List, [], ◌∷◌, ◌++◌, length, slice_index, codes, decimal, refl, sym, ◌∙◌, arith}
use Rattle.std.proofs.lemmas.List.{append_cancel_left}
use Rattle.rt_texts.specs.Goods.{IsNumber}
use Rattle.rt_texts.specs.Readings.{IsNoText, HasNo, StopsAt, IsCut}
use Rattle.rt_texts.proofs.Cuts.{one_cut}
use Rattle.rt_scheme.specs.declared.report.Place2.{Place2}
use Rattle.rt_scheme.specs.NameTexts.{name_text}
use Rattle.rt_scheme.specs.NameReadings.{AreBytes}
use Rattle.rt_reports.specs.GoodReports.{IsGlobal}
use Rattle.rt_reports.specs.Inside.Rows.{listed_text, begun_text, row_text, IsBegun, IsRow}
use Rattle.rt_reports.specs.declared.row.Row.TheVariants.{Listed, Heading, Stated, End}
use Rattle.rt_texts.proofs.Clear.{HasNo-above}
use Rattle.rt_scheme.proofs.Clear.{AreAbove-decimal}
use Rattle.rt_reports.proofs.RowTexts.{one_numbered, no_listed_line, no_begun_line, first_bytes}

-- a number and a word stand in a text as it is cut at its first space
stops_word : (word rest : List ℕ) → slice_index word 0 ≡ 32 → StopsAt 32 (word ++ rest)
stops_word [] rest h = absurd (omega arith)
stops_word (b ∷ word) rest h = h

pub numbered_cut : (n : ℕ) (word rest text front back : List ℕ) → slice_index word 0 ≡ 32 → IsCut 32 text front back → IsNumber n → decimal n ++ (word ++ rest) ≡ text → (decimal n ≡ front) × (word ++ rest ≡ back)
numbered_cut n word rest text front back space cut small same =
    let clear : HasNo 32 (decimal n) = HasNo-above 32 47 (decimal n) (omega arith) (AreAbove-decimal n (omega arith)) in
    one_cut 32 (decimal n) (word ++ rest) front back (same ∙ cut.joined) clear (stops_word word rest space) cut.clear cut.stops

-- a global's line whose name is none
pub no_listed_name : (n : ℕ) (text escaped : List ℕ) → IsNumber n × (decimal n ++ (codes " name " ++ escaped) ≡ text) → IsNoText AreBytes name_text escaped → IsNoText IsGlobal listed_text text
no_listed_name n text escaped (small, is) none (m, name) good same =
    none name good.1 (one_numbered m n (codes "name ") (name_text name) escaped good.0 small (same ∙ sym is)).1

-- what stands in an entry's first line after its number, and after its section
abbrev place_text : ℕ × Place2 × List ℕ → List ℕ
place_text (n, place, name) = decimal place.section ++ (codes " offset " ++ (decimal place.offset ++ (codes " name " ++ name_text name)))

abbrev offset_text : ℕ × Place2 × List ℕ → List ℕ
offset_text (n, place, name) = decimal place.offset ++ (codes " name " ++ name_text name)

after_number : (n : ℕ) (text more : List ℕ) → IsNumber n × (decimal n ++ (codes " section " ++ more) ≡ text) → IsNoText IsBegun place_text more → IsNoText IsBegun begun_text text
after_number n text more (small, is) none (m, place, name) good same =
    none (m, place, name) good (one_numbered m n (codes "section ") (place_text (m, place, name)) more good.0 small (same ∙ sym is)).1

after_section : (n : ℕ) (text more : List ℕ) → IsNumber n × (decimal n ++ (codes " offset " ++ more) ≡ text) → IsNoText IsBegun offset_text more → IsNoText IsBegun place_text text
after_section n text more (small, is) none (m, place, name) good same =
    none (m, place, name) good (one_numbered place.section n (codes "offset ") (offset_text (m, place, name)) more (omega arith) small (same ∙ sym is)).1

after_offset : (n : ℕ) (text escaped : List ℕ) → IsNumber n × (decimal n ++ (codes " name " ++ escaped) ≡ text) → IsNoText AreBytes name_text escaped → IsNoText IsBegun offset_text text
after_offset n text escaped (small, is) none (m, place, name) good same =
    none name good.2 (one_numbered place.offset n (codes "name ") (name_text name) escaped good.1.1 small (same ∙ sym is)).1

pub no_section : (n : ℕ) (text more : List ℕ) → IsNumber n × (decimal n ++ (codes " section " ++ more) ≡ text) → ((m : ℕ) (rest : List ℕ) → IsNumber m → decimal m ++ (codes " offset " ++ rest) ≢ more) → IsNoText IsBegun begun_text text
no_section n text more number none =
    after_number n text more number (λ (b : ℕ × Place2 × List ℕ) good same. none b.1.section (offset_text b) (omega arith) same)

pub no_offset : (n s : ℕ) (text more rest : List ℕ) → IsNumber n × (decimal n ++ (codes " section " ++ more) ≡ text) → IsNumber s × (decimal s ++ (codes " offset " ++ rest) ≡ more) → ((m : ℕ) (last : List ℕ) → IsNumber m → decimal m ++ (codes " name " ++ last) ≢ rest) → IsNoText IsBegun begun_text text
no_offset n s text more rest number section none =
    after_number n text more number (after_section s more rest section (λ (b : ℕ × Place2 × List ℕ) good same. none b.1.offset (name_text b.2) good.1.1 same))

pub large_section : (n s : ℕ) (text more rest : List ℕ) → IsNumber n × (decimal n ++ (codes " section " ++ more) ≡ text) → IsNumber s × (decimal s ++ (codes " offset " ++ rest) ≡ more) → 65535 < s → IsNoText IsBegun begun_text text
large_section n s text more rest number (small, is) large =
    after_number n text more number (λ (b : ℕ × Place2 × List ℕ) good same.
    let e : b.1.section ≡ s = (one_numbered b.1.section s (codes "offset ") (offset_text b) rest (omega arith) small (same ∙ sym is)).0 in
    absurd (omega arith))

pub no_begun_name : (n s o : ℕ) (text more rest escaped : List ℕ) → IsNumber n × (decimal n ++ (codes " section " ++ more) ≡ text) → IsNumber s × (decimal s ++ (codes " offset " ++ rest) ≡ more) → IsNumber o × (decimal o ++ (codes " name " ++ escaped) ≡ rest) → IsNoText AreBytes name_text escaped → IsNoText IsBegun begun_text text
no_begun_name n s o text more rest escaped number section offset none = after_number n text more number (after_section s more rest section (after_offset o rest escaped offset none))

-- a line that begins as a global's does is one, if any
pub no_listed_row : (names : List (List ℕ)) (text rest : List ℕ) → text ≡ codes "global g" ++ rest → IsNoText IsGlobal listed_text rest → IsNoText (IsRow (length names)) (row_text names) text
no_listed_row names text rest is none (Listed n name) good same = none (n, name) good (append_cancel_left (codes "global g") (listed_text (n, name)) rest (same ∙ is))
no_listed_row names text rest is none (Heading n place name) good same = let e : ◌≡◌ {A = ℕ} 112 103 = first_bytes _ _ 112 103 (same ∙ is) refl refl in absurd (omega arith)
no_listed_row names text rest is none (Stated line) good same = no_listed_line names line rest good (same ∙ is)
no_listed_row names text rest is none End good same = let e : ◌≡◌ {A = ℕ} 101 103 = first_bytes _ _ 101 103 (same ∙ is) refl refl in absurd (omega arith)

-- and so is one that begins as an entry's first line does
pub no_begun_row : (names : List (List ℕ)) (text rest : List ℕ) → text ≡ codes "proc f" ++ rest → IsNoText IsBegun begun_text rest → IsNoText (IsRow (length names)) (row_text names) text
no_begun_row names text rest is none (Listed n name) good same = let e : ◌≡◌ {A = ℕ} 103 112 = first_bytes _ _ 103 112 (same ∙ is) refl refl in absurd (omega arith)
no_begun_row names text rest is none (Heading n place name) good same = none (n, place, name) good (append_cancel_left (codes "proc f") (begun_text (n, place, name)) rest (same ∙ is))
no_begun_row names text rest is none (Stated line) good same = no_begun_line names line rest good (same ∙ is)
no_begun_row names text rest is none End good same = let e : ◌≡◌ {A = ℕ} 101 112 = first_bytes _ _ 101 112 (same ∙ is) refl refl in absurd (omega arith)
