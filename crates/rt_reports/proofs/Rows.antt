-- Reports as lists of their lines.
use Rattle.std.proofs.Common.{◌≡◌, ℕ, List, [], ◌∷◌, ◌++◌, All, map, length, codes, refl, ap, sym, subst, ◌∙◌, append_assoc}
use Rattle.std.specs.List.{flat_map}
use Rattle.std.proofs.lemmas.Grind.{flat_map-append}
use Rattle.std.proofs.lemmas.List.{append_cancel_left}
use Rattle.std.proofs.lemmas.List.Elements.{All-head, All-tail, All-nil, All-append, All-map, All-cons}
use Rattle.rt_lines.specs.declared.line.Line.{Line}
use Rattle.rt_lines.specs.Names.{AreNames}
use Rattle.rt_texts.specs.Goods.{IsLine}
use Rattle.rt_texts.specs.Texts.{line_text, lines_text}
use Rattle.rt_texts.specs.Readings.{HasNo}
use Rattle.rt_texts.proofs.Cuts.{one_cut}
use Rattle.rt_scheme.specs.declared.report.Place2.{Place2}
use Rattle.rt_scheme.specs.declared.report.Entry.{Entry}
use Rattle.rt_scheme.specs.declared.report.Report.{Report}
use Rattle.rt_scheme.specs.Reports.{global_text, heading_text, entry_text, report_text}
use Rattle.rt_reports.specs.GoodReports.{IsGlobal, IsEntry, IsReport}
use Rattle.rt_reports.specs.Inside.Rows.{row_text, IsRow}
use Rattle.rt_reports.specs.Inside.Reads.{entry_rows, heading_row, listed_rows, report_rows, rows_text}
use Rattle.rt_reports.specs.declared.row.Row.{Row}
use Rattle.rt_reports.specs.declared.row.Row.TheVariants.{Listed, Heading, Stated, End}
use Rattle.rt_reports.proofs.RowTexts.{one_row, row_clear}

-- their texts
listed_row-text : (names : List (List ℕ)) (n : ℕ) (name : List ℕ) → row_text names (Listed n name) ++ 10 ∷ [] ≡ global_text (n, name)
listed_row-text names n name = simp append_assoc

heading_row-text : (names : List (List ℕ)) (n : ℕ) (place : Place2) (name : List ℕ) → row_text names (Heading n place name) ++ 10 ∷ [] ≡ heading_text n place name
heading_row-text names n place name = simp append_assoc

listed_rows-text : (names : List (List ℕ)) (globals : List (ℕ × List ℕ)) → rows_text names (listed_rows globals) ≡ flat_map global_text globals
listed_rows-text names [] = refl
listed_rows-text names ((n, name) ∷ globals) =
    ap (λ s. s ++ rows_text names (listed_rows globals)) (listed_row-text names n name) ∙ ap (λ s. global_text (n, name) ++ s) (listed_rows-text names globals)

stated_rows-text : (names : List (List ℕ)) (lines : List Line) → rows_text names (map Stated lines) ≡ lines_text names lines
stated_rows-text names [] = refl
stated_rows-text names (line ∷ lines) = ap (λ s. (line_text names line ++ 10 ∷ []) ++ s) (stated_rows-text names lines)

entry_rows-text : (names : List (List ℕ)) (entry : Entry) → rows_text names (entry_rows entry) ≡ entry_text names entry
entry_rows-text names entry =
    let front : row_text names (heading_row entry) ++ 10 ∷ [] ≡ heading_text entry.number entry.place entry.name = heading_row-text names entry.number entry.place entry.name in
    let parts : rows_text names (map Stated entry.lines ++ End ∷ []) ≡ rows_text names (map Stated entry.lines) ++ codes "end\n" = flat_map-append (λ (row : Row). row_text names row ++ 10 ∷ []) (map Stated entry.lines) (End ∷ []) in
    let body : rows_text names (map Stated entry.lines ++ End ∷ []) ≡ lines_text names entry.lines ++ codes "end\n" = parts ∙ ap (λ s. s ++ codes "end\n") (stated_rows-text names entry.lines) in
    ap (λ s. s ++ rows_text names (map Stated entry.lines ++ End ∷ [])) front ∙ (ap (λ s. heading_text entry.number entry.place entry.name ++ s) body ∙ sym (append_assoc (heading_text entry.number entry.place entry.name) (lines_text names entry.lines) (codes "end\n")))

entries_rows-text : (names : List (List ℕ)) (entries : List Entry) → rows_text names (flat_map entry_rows entries) ≡ flat_map (entry_text names) entries
entries_rows-text names [] = refl
entries_rows-text names (entry ∷ entries) =
    flat_map-append (λ (row : Row). row_text names row ++ 10 ∷ []) (entry_rows entry) (flat_map entry_rows entries)
    ∙ (ap (λ s. s ++ rows_text names (flat_map entry_rows entries)) (entry_rows-text names entry) ∙ ap (λ s. entry_text names entry ++ s) (entries_rows-text names entries))

pub report_rows-text : (names : List (List ℕ)) (report : Report) → rows_text names (report_rows report) ≡ report_text names report
report_rows-text names report =
    flat_map-append (λ (row : Row). row_text names row ++ 10 ∷ []) (listed_rows report.globals) (flat_map entry_rows report.entries)
    ∙ (ap (λ s. s ++ rows_text names (flat_map entry_rows report.entries)) (listed_rows-text names report.globals) ∙ ap (λ s. flat_map global_text report.globals ++ s) (entries_rows-text names report.entries))

-- they are good
pub listed_rows-good : (count : ℕ) (globals : List (ℕ × List ℕ)) → All IsGlobal globals → All (IsRow count) (listed_rows globals)
listed_rows-good count globals good = All-map (IsRow count) (λ (g : ℕ × List ℕ). Listed g.0 g.1) globals good

pub stated_rows-good : (count : ℕ) (lines : List Line) → All (IsLine count) lines → All (IsRow count) (map Stated lines)
stated_rows-good count lines good = All-map (IsRow count) Stated lines good

entry_rows-good : (count : ℕ) (entry : Entry) → IsEntry count entry → All (IsRow count) (entry_rows entry)
entry_rows-good count entry good =
    All-cons (IsRow count) (heading_row entry) (map Stated entry.lines ++ End ∷ []) (good.number, good.place, good.name)
    (All-append (IsRow count) (map Stated entry.lines) (End ∷ []) (stated_rows-good count entry.lines good.lines) (All-cons (IsRow count) End [] tt (All-nil (IsRow count))))

pub entries_rows-good : (count : ℕ) (entries : List Entry) → All (IsEntry count) entries → All (IsRow count) (flat_map entry_rows entries)
entries_rows-good count [] good = All-nil (IsRow count)
entries_rows-good count (entry ∷ entries) good =
    All-append (IsRow count) (entry_rows entry) (flat_map entry_rows entries) (entry_rows-good count entry (All-head (IsEntry count) entry entries good)) (entries_rows-good count entries (All-tail (IsEntry count) entry entries good))

pub report_rows-good : (count : ℕ) (report : Report) → IsReport count report → All (IsRow count) (report_rows report)
report_rows-good count report good =
    All-append (IsRow count) (listed_rows report.globals) (flat_map entry_rows report.entries) (listed_rows-good count report.globals good.globals) (entries_rows-good count report.entries good.entries)

-- a text of lines that begins with lines goes on with a line
pub record IsNext (names : List (List ℕ)) (first rows : List Row) (line : List ℕ) : Type 0 where
  pub row : Row
  pub more : List Row
  pub good : IsRow (length names) row
  pub is : row_text names row ≡ line
  pub whole : rows ≡ first ++ row ∷ more

no_empty : (a b : List ℕ) → a ++ 10 ∷ b ≡ [] → ⊥
no_empty [] b same = cc
no_empty (x ∷ a) b same = cc

no_end_in : (a b : List ℕ) → HasNo 10 (a ++ 10 ∷ b) → ⊥
no_end_in [] b clear = clear.0 refl
no_end_in (x ∷ a) b clear = no_end_in a b clear.1

rows_text-cons : (names : List (List ℕ)) (row : Row) (rows : List Row) (rest : List ℕ) → rows_text names (row ∷ rows) ++ rest ≡ row_text names row ++ 10 ∷ (rows_text names rows ++ rest)
rows_text-cons names row rows rest =
    append_assoc (row_text names row ++ 10 ∷ []) (rows_text names rows) rest ∙ append_assoc (row_text names row) (10 ∷ []) (rows_text names rows ++ rest)

one_first : (names : List (List ℕ)) (q r : Row) (a b : List ℕ) → AreNames names → IsRow (length names) q → IsRow (length names) r → row_text names q ++ 10 ∷ a ≡ row_text names r ++ 10 ∷ b → (q ≡ r) × (a ≡ b)
one_first names q r a b fine g h same =
    let cut = one_cut 10 (row_text names q) (10 ∷ a) (row_text names r) (10 ∷ b) same (row_clear names q fine g) refl (row_clear names r fine h) refl in
    (one_row names q r fine g h cut.0, append_cancel_left (10 ∷ []) a b cut.1)

pub next_row : (names : List (List ℕ)) (first rows : List Row) (line rest : List ℕ) → AreNames names → All (IsRow (length names)) first → All (IsRow (length names)) rows → HasNo 10 line → rows_text names first ++ (line ++ 10 ∷ rest) ≡ rows_text names rows → IsNext names first rows line
next_row names [] [] line rest fine g h clear same = absurd (no_empty line rest same)
next_row names [] (r ∷ rows) line rest fine g h clear same =
    let good : IsRow (length names) r = All-head (IsRow (length names)) r rows h in
    let whole : line ++ 10 ∷ rest ≡ row_text names r ++ 10 ∷ rows_text names rows = same ∙ append_assoc (row_text names r) (10 ∷ []) (rows_text names rows) in
    let cut = one_cut 10 line (10 ∷ rest) (row_text names r) (10 ∷ rows_text names rows) whole clear refl (row_clear names r fine good) refl in
    record { row = r; more = rows; good = good; is = sym cut.0; whole = refl }
next_row names (q ∷ first) [] line rest fine g h clear same =
    absurd (no_empty (row_text names q) (rows_text names first ++ (line ++ 10 ∷ rest)) (sym (rows_text-cons names q first (line ++ 10 ∷ rest)) ∙ same))
next_row names (q ∷ first) (r ∷ rows) line rest fine g h clear same =
    let whole : row_text names q ++ 10 ∷ (rows_text names first ++ (line ++ 10 ∷ rest)) ≡ row_text names r ++ 10 ∷ rows_text names rows = sym (rows_text-cons names q first (line ++ 10 ∷ rest)) ∙ (same ∙ append_assoc (row_text names r) (10 ∷ []) (rows_text names rows)) in
    let one = one_first names q r (rows_text names first ++ (line ++ 10 ∷ rest)) (rows_text names rows) fine (All-head (IsRow (length names)) q first g) (All-head (IsRow (length names)) r rows h) whole in
    let next = next_row names first rows line rest fine (All-tail (IsRow (length names)) q first g) (All-tail (IsRow (length names)) r rows h) clear one.1 in
    let both : r ∷ rows ≡ q ∷ (first ++ next.row ∷ next.more) = λ i. sym one.0 i ∷ next.whole i in
    record { row = next.row; more = next.more; good = next.good; is = next.is; whole = both }

-- a text of lines that begins with lines and goes on without a line end has just these lines
pub same_rows : (names : List (List ℕ)) (first rows : List Row) (rest : List ℕ) → AreNames names → All (IsRow (length names)) first → All (IsRow (length names)) rows → HasNo 10 rest → rows_text names first ++ rest ≡ rows_text names rows → (rest ≡ []) × (rows ≡ first)
same_rows names [] [] rest fine g h clear same = (same, refl)
same_rows names [] (r ∷ rows) rest fine g h clear same =
    absurd (no_end_in (row_text names r) (rows_text names rows) (subst (HasNo 10) (same ∙ append_assoc (row_text names r) (10 ∷ []) (rows_text names rows)) clear))
same_rows names (q ∷ first) [] rest fine g h clear same =
    absurd (no_empty (row_text names q) (rows_text names first ++ rest) (sym (rows_text-cons names q first rest) ∙ same))
same_rows names (q ∷ first) (r ∷ rows) rest fine g h clear same =
    let whole : row_text names q ++ 10 ∷ (rows_text names first ++ rest) ≡ row_text names r ++ 10 ∷ rows_text names rows = sym (rows_text-cons names q first rest) ∙ (same ∙ append_assoc (row_text names r) (10 ∷ []) (rows_text names rows)) in
    let one = one_first names q r (rows_text names first ++ rest) (rows_text names rows) fine (All-head (IsRow (length names)) q first g) (All-head (IsRow (length names)) r rows h) whole in
    let tails = same_rows names first rows rest fine (All-tail (IsRow (length names)) q first g) (All-tail (IsRow (length names)) r rows h) clear one.1 in
    let both : r ∷ rows ≡ q ∷ first = λ i. sym one.0 i ∷ tails.1 i in
    (tails.0, both)
