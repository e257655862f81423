-- What was read of a report is the front of some well formed report.
use Rattle.std.proofs.Common.{◌≡◌, ℕ, ◌<◌, ◌^◌, inl, inr, List, [], ◌∷◌, ◌++◌, Option, Some, None, All, Contains, map, length, refl, ap, sym, subst, ◌∙◌, arith, append_assoc, append-nil}
use Rattle.std.specs.List.{flat_map}
use Rattle.std.proofs.lemmas.Bool.{cases_order}
use Rattle.std.proofs.lemmas.Grind.{flat_map-append}
use Rattle.std.proofs.lemmas.List.{map-append}
use Rattle.std.proofs.lemmas.List.Elements.{All-cons, All-head, All-tail, All-nil, All-push, All-append, All-contains, All-contains_itself, Contains-append_right}
use Rattle.rt_base.proofs.Lists.{All-front, All-back, All-from_contains}
use Rattle.rt_lines.specs.declared.variable.Base.TheVariants.{Global}
use Rattle.rt_lines.specs.declared.line.Line.{Line}
use Rattle.rt_lines.specs.declared.line.Line.TheVariants.{Var}
use Rattle.rt_lines.specs.Words.{IsLabel}
use Rattle.rt_texts.specs.Goods.{IsLine}
use Rattle.rt_scheme.specs.declared.report.Entry.{Entry}
use Rattle.rt_scheme.specs.declared.report.Report.{Report}
use Rattle.rt_reports.specs.Globals.{lines_globals, entries_globals}
use Rattle.rt_reports.specs.GoodReports.{IsGlobal, IsEntry, IsReport, numbers_of, entry_numbers}
use Rattle.rt_reports.specs.ReportReadings.{IsFront}
use Rattle.rt_reports.specs.Inside.Rows.{row_text}
use Rattle.rt_reports.specs.Inside.Drafts.{Parts, least_after, AllNamed}
use Rattle.rt_reports.specs.Inside.Reads.{IsGood, RisesFrom, entry_rows, heading_row, listed_rows, parts_rows, report_rows, rows_text}
use Rattle.rt_reports.specs.declared.row.Row.{Row}
use Rattle.rt_reports.specs.declared.row.Row.TheVariants.{Heading, Stated, End}
use Rattle.rt_reports.proofs.Ascending.{RisesFrom-increasing}
use Rattle.rt_reports.proofs.Rows.{report_rows-text}
use Rattle.rt_reports.proofs.Drafts.{made, entries_globals-push, entry_numbers-push, good_with, rows_with}

-- good parts with no entry whose end is to come, each of whose globals is named, are a report
pub whole_report : (count : ℕ) (globals : List (ℕ × List ℕ)) (entries : List Entry) → IsGood count (made globals entries None) → AllNamed (made globals entries None) → IsReport count (record { globals = globals; entries = entries })
whole_report count globals entries good named =
    record {
      globals = good.globals;
      entries = good.entries;
      globals_rise = RisesFrom-increasing 0 (numbers_of globals) good.globals_rise;
      entries_rise = RisesFrom-increasing 0 (entry_numbers entries) good.entries_rise;
      exact = λ n. (All-contains (Contains (entries_globals entries)) (numbers_of globals) n named, All-contains (Contains (numbers_of globals)) (entries_globals entries) n good.listed);
    }

-- lines that begin a report's lines are the front of its text
pub front_of_rows : (names : List (List ℕ)) (report : Report) (rows more : List Row) → IsReport (length names) report → report_rows report ≡ rows ++ more → IsFront names (rows_text names rows)
front_of_rows names report rows more good whole =
    record {
      report = report;
      good = good;
      rest = rows_text names more;
      joined = sym (flat_map-append (λ (row : Row). row_text names row ++ 10 ∷ []) rows more) ∙ (ap (rows_text names) (sym whole) ∙ report_rows-text names report);
    }

front_less : (names : List (List ℕ)) (rows more : List Row) → IsFront names (rows_text names (rows ++ more)) → IsFront names (rows_text names rows)
front_less names rows more front =
    let parts : rows_text names (rows ++ more) ≡ rows_text names rows ++ rows_text names more = flat_map-append (λ (row : Row). row_text names row ++ 10 ∷ []) rows more in
    record {
      report = front.report;
      good = front.good;
      rest = rows_text names more ++ front.rest;
      joined = sym (append_assoc (rows_text names rows) (rows_text names more) front.rest) ∙ (ap (λ s. s ++ front.rest) (sym parts) ∙ front.joined);
    }

-- a line for each global
abbrev naming_line : ℕ × List ℕ → Line
naming_line g = Var (record { base = Global g.0; word = [] })

abbrev naming_lines : List (ℕ × List ℕ) → List Line
naming_lines globals = map naming_line globals

naming_lines-good : (count : ℕ) (globals : List (ℕ × List ℕ)) → All IsGlobal globals → All (IsLine count) (naming_lines globals)
naming_lines-good count [] good = All-nil (IsLine count)
naming_lines-good count ((n, name) ∷ globals) good =
    let here : IsGlobal (n, name) = All-head IsGlobal (n, name) globals good in
    All-cons (IsLine count) (naming_line (n, name)) (naming_lines globals) (here.0, All-nil IsLabel) (naming_lines-good count globals (All-tail IsGlobal (n, name) globals good))

naming_lines-globals : (globals : List (ℕ × List ℕ)) → lines_globals (naming_lines globals) ≡ numbers_of globals
naming_lines-globals [] = refl
naming_lines-globals ((n, name) ∷ globals) = ap (λ s. n ∷ s) (naming_lines-globals globals)

-- an entry with more lines
abbrev with_lines : Entry → List Line → Entry
with_lines entry lines = record { number = entry.number; place = entry.place; name = entry.name; lines = entry.lines ++ lines }

with_lines-globals : (globals : List (ℕ × List ℕ)) (entries : List Entry) (entry : Entry) → entries_globals (entries ++ with_lines entry (naming_lines globals) ∷ []) ≡ entries_globals (entries ++ entry ∷ []) ++ numbers_of globals
with_lines-globals globals entries entry =
    let inner : lines_globals (entry.lines ++ naming_lines globals) ≡ lines_globals entry.lines ++ numbers_of globals = flat_map-append _ entry.lines (naming_lines globals) ∙ ap (λ s. lines_globals entry.lines ++ s) (naming_lines-globals globals) in
    entries_globals-push entries (with_lines entry (naming_lines globals))
    ∙ (ap (λ s. entries_globals entries ++ s) inner ∙ (sym (append_assoc (entries_globals entries) (lines_globals entry.lines) (numbers_of globals)) ∙ ap (λ s. s ++ numbers_of globals) (sym (entries_globals-push entries entry))))

-- the report whose last entry names each global
good_named : (count : ℕ) (globals : List (ℕ × List ℕ)) (entries : List Entry) (entry : Entry) → IsGood count (made globals entries (Some entry)) → IsReport count (record { globals = globals; entries = entries ++ with_lines entry (naming_lines globals) ∷ [] })
good_named count globals entries entry good =
    let before : All (IsEntry count) entries = All-front (IsEntry count) entries (entry ∷ []) good.entries in
    let one : IsEntry count entry = All-head (IsEntry count) entry [] (All-back (IsEntry count) entries (entry ∷ []) good.entries) in
    let lines : All (IsLine count) (entry.lines ++ naming_lines globals) = All-append (IsLine count) entry.lines (naming_lines globals) one.lines (naming_lines-good count globals good.globals) in
    let more : IsEntry count (with_lines entry (naming_lines globals)) = record { number = one.number; place = one.place; name = one.name; lines = lines } in
    let numbers : entry_numbers (entries ++ with_lines entry (naming_lines globals) ∷ []) ≡ entry_numbers (entries ++ entry ∷ []) = entry_numbers-push entries (with_lines entry (naming_lines globals)) ∙ sym (entry_numbers-push entries entry) in
    let names : entries_globals (entries ++ with_lines entry (naming_lines globals) ∷ []) ≡ entries_globals (entries ++ entry ∷ []) ++ numbers_of globals = with_lines-globals globals entries entry in
    let listed : All (Contains (numbers_of globals)) (entries_globals (entries ++ with_lines entry (naming_lines globals) ∷ [])) =
    subst (All (Contains (numbers_of globals))) (sym names) (All-append (Contains (numbers_of globals)) (entries_globals (entries ++ entry ∷ [])) (numbers_of globals) good.listed (All-contains_itself (numbers_of globals))) in
    let named : All (Contains (entries_globals (entries ++ with_lines entry (naming_lines globals) ∷ []))) (numbers_of globals) =
    subst (λ s. All (Contains s) (numbers_of globals)) (sym names) (All-from_contains (Contains (entries_globals (entries ++ entry ∷ []) ++ numbers_of globals)) (numbers_of globals) (λ n. Contains-append_right (entries_globals (entries ++ entry ∷ [])) (numbers_of globals) n)) in
    let whole : IsGood count (made globals (entries ++ with_lines entry (naming_lines globals) ∷ []) None) = record {
      globals = good.globals;
      entries = All-push (IsEntry count) entries (with_lines entry (naming_lines globals)) before more;
      globals_rise = good.globals_rise;
      entries_rise = subst (RisesFrom 0) (sym numbers) good.entries_rise;
      listed = listed;
      full = λ none low. named;
    } in
    whole_report count globals (entries ++ with_lines entry (naming_lines globals) ∷ []) whole named

-- an entry's end is still to come
complete_some : (names : List (List ℕ)) (globals : List (ℕ × List ℕ)) (entries : List Entry) (entry : Entry) → IsGood (length names) (made globals entries (Some entry)) → IsFront names (rows_text names (parts_rows (made globals entries (Some entry))))
complete_some names globals entries entry good =
    let more : List Row = map Stated (naming_lines globals) ++ End ∷ [] in
    let body : map Stated (entry.lines ++ naming_lines globals) ++ End ∷ [] ≡ map Stated entry.lines ++ more = ap (λ s. s ++ End ∷ []) (map-append Stated entry.lines (naming_lines globals)) ∙ append_assoc (map Stated entry.lines) (map Stated (naming_lines globals)) (End ∷ []) in
    let last : flat_map entry_rows (entries ++ with_lines entry (naming_lines globals) ∷ []) ≡ flat_map entry_rows entries ++ ((heading_row entry ∷ map Stated entry.lines) ++ more) =
    flat_map-append entry_rows entries (with_lines entry (naming_lines globals) ∷ []) ∙ ap (λ s. flat_map entry_rows entries ++ s) (append-nil (entry_rows (with_lines entry (naming_lines globals))) ∙ ap (λ s. heading_row entry ∷ s) body) in
    let whole : listed_rows globals ++ flat_map entry_rows (entries ++ with_lines entry (naming_lines globals) ∷ []) ≡ parts_rows (made globals entries (Some entry)) ++ more =
    ap (λ s. listed_rows globals ++ s) (last ∙ sym (append_assoc (flat_map entry_rows entries) (heading_row entry ∷ map Stated entry.lines) more)) ∙ sym (append_assoc (listed_rows globals) (flat_map entry_rows entries ++ (heading_row entry ∷ map Stated entry.lines)) more) in
    front_of_rows names (record { globals = globals; entries = entries ++ with_lines entry (naming_lines globals) ∷ [] }) (parts_rows (made globals entries (Some entry))) more (good_named (length names) globals entries entry good) whole

-- none is, and a number is left
complete_left : (names : List (List ℕ)) (globals : List (ℕ × List ℕ)) (entries : List Entry) → IsGood (length names) (made globals entries None) → least_after 0 (entry_numbers entries) < 2 ^ 32 → IsFront names (rows_text names (parts_rows (made globals entries None)))
complete_left names globals entries good left =
    let number : ℕ = least_after 0 (entry_numbers entries) in
    let row : Row = Heading (least_after 0 (entry_numbers entries)) (record { section = 0; offset = 0 }) [] in
    let next : Entry = record { number = least_after 0 (entry_numbers entries); place = record { section = 0; offset = 0 }; name = []; lines = [] } in
    let more : IsGood (length names) (made globals entries (Some next)) = good_with (length names) (made globals entries None) row good (left, (omega arith, omega arith), All-nil (λ (b : ℕ). b < 256)) (refl, omega arith) in
    let rows : parts_rows (made globals entries (Some next)) ≡ parts_rows (made globals entries None) ++ row ∷ [] = rows_with (made globals entries None) row (refl, omega arith) in
    front_less names (parts_rows (made globals entries None)) (row ∷ []) (subst (λ s. IsFront names (rows_text names s)) rows (complete_some names globals entries next more))

-- none is, and no number is left
complete_full : (names : List (List ℕ)) (globals : List (ℕ × List ℕ)) (entries : List Entry) → IsGood (length names) (made globals entries None) → AllNamed (made globals entries None) → IsFront names (rows_text names (parts_rows (made globals entries None)))
complete_full names globals entries good named =
    let rows : report_rows (record { globals = globals; entries = entries }) ≡ parts_rows (made globals entries None) ++ [] = ap (λ s. listed_rows globals ++ s) (sym (append-nil (flat_map entry_rows entries))) ∙ sym (append-nil _) in
    front_of_rows names (record { globals = globals; entries = entries }) (parts_rows (made globals entries None)) [] (whole_report (length names) globals entries good named) rows

complete_made : (names : List (List ℕ)) (globals : List (ℕ × List ℕ)) (entries : List Entry) (unfinished : Option Entry) → IsGood (length names) (made globals entries unfinished) → IsFront names (rows_text names (parts_rows (made globals entries unfinished)))
complete_made names globals entries (Some entry) good = complete_some names globals entries entry good
complete_made names globals entries None good =
    elim (cases_order (least_after 0 (entry_numbers entries)) (2 ^ 32)) [
      | inl e ↦ complete_full names globals entries good (good.full refl (omega arith))
      | inr r ↦ elim r [ inl less ↦ complete_left names globals entries good less | inr more ↦ complete_full names globals entries good (good.full refl (omega arith)) ]
    ]

pub complete : (names : List (List ℕ)) (parts : Parts) → IsGood (length names) parts → IsFront names (rows_text names (parts_rows parts))
complete names parts good = complete_made names parts.globals parts.entries parts.unfinished good
