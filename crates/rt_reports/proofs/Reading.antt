-- Texts that are read line by line.
use Rattle.std.proofs.Common.{Ok, Err, MatchResult, ◌≡◌, ◌≢◌, ℕ, true, false, ◌+◌, ◌⊎◌, inl, inr, List, [], ◌∷◌, ◌++◌, Option, Some, None, All, map, fold, length, refl, ap, sym, subst, ◌∙◌, arith, append_assoc, append-nil, length-append, Contains}
use Rattle.std.specs.List.{flat_map}
use Rattle.std.specs.declared.result.Result.{Result}
use Rattle.std.specs.Bool.{◌==◌}
use Rattle.std.proofs.lemmas.Bool.Decides.{nat_tests}
use Rattle.std.proofs.lemmas.Grind.{flat_map-append}
use Rattle.std.proofs.lemmas.List.{length-map}
use Rattle.std.proofs.lemmas.List.Folds.{flat_map-map}
use Rattle.std.proofs.lemmas.List.Elements.{All-nil, All-append, All-cons, All-head, All-map}
use Rattle.rt_base.proofs.Lists.{All-front, All-back, All-from_contains}
use Rattle.rt_lines.specs.Names.{AreNames}
use Rattle.rt_texts.specs.declared.fault.TextFault.{TextFault}
use Rattle.rt_texts.specs.declared.fault.TextFault.TheVariants.{BadText, Memory}
use Rattle.rt_texts.specs.Readings.{IsNoText, HasNo, IsCut}
use Rattle.rt_scheme.specs.declared.report.Entry.{Entry}
use Rattle.rt_scheme.specs.declared.report.Report.{Report}
use Rattle.rt_scheme.specs.Reports.{report_text}
use Rattle.rt_reports.specs.Globals.{entries_globals}
use Rattle.rt_reports.specs.GoodReports.{IsEntry, IsReport, numbers_of}
use Rattle.rt_reports.specs.ReportReadings.{with_ends, IsFront, IsNoReport, IsBadLine, IsFault}
use Rattle.rt_reports.specs.Inside.Rows.{row_text, IsRow}
use Rattle.rt_reports.specs.Inside.Drafts.{Parts, no_parts, all_entries, AllNamed, with_row, Allows, Follows, IsKept, IsWhole, parts_of, report_of}
use Rattle.rt_reports.specs.declared.draft.Draft.{Draft}
use Rattle.rt_reports.specs.Inside.Reads.{IsAllowed, IsGood, IsLineFault, IsRead, Takes, placed, entry_rows, heading_row, listed_rows, parts_rows, report_rows, rows_text, unfinished_rows}
use Rattle.rt_reports.specs.declared.row.Row.{Row}
use Rattle.rt_reports.specs.declared.row.Row.TheVariants.{Stated}
use Rattle.rt_reports.proofs.RowTexts.{one_row, row_clear}
use Rattle.rt_reports.proofs.Rows.{report_rows-text, report_rows-good, listed_rows-good, stated_rows-good, entries_rows-good, next_row, same_rows}
use Rattle.rt_reports.proofs.Runs.{Accepts, Accepts-row, Accepts-last, accept_report, ended}
use Rattle.rt_reports.proofs.Drafts.{made, no_parts-good, good_with, rows_with, again-more}
use Rattle.rt_reports.proofs.Completing.{complete, whole_report}

-- where reading begins
pub read_start : (names : List (List ℕ)) (text : List ℕ) → IsRead names text no_parts text 1
read_start names text = record { good = no_parts-good (length names); again = refl; joined = refl; counted = omega arith }

-- the lines that were read, and one more
rows_text-push : (names : List (List ℕ)) (rows : List Row) (row : Row) (rest : List ℕ) → rows_text names (rows ++ row ∷ []) ++ rest ≡ rows_text names rows ++ (row_text names row ++ 10 ∷ rest)
rows_text-push names rows row rest =
    ap (λ s. s ++ rest) (flat_map-append (λ (r : Row). row_text names r ++ 10 ∷ []) rows (row ∷ []) ∙ ap (λ s. rows_text names rows ++ s) (append-nil (row_text names row ++ 10 ∷ [])))
    ∙ (append_assoc (rows_text names rows) (row_text names row ++ 10 ∷ []) rest ∙ ap (λ s. rows_text names rows ++ s) (append_assoc (row_text names row) (10 ∷ []) rest))

pub read_more : (names : List (List ℕ)) (text : List ℕ) (parts : Parts) (rest : List ℕ) (number : ℕ) (row : Row) (line more : List ℕ) → IsRead names text parts rest number → IsCut 10 rest line (10 ∷ more) → IsRow (length names) row → row_text names row ≡ line → Allows parts row → IsRead names text (with_row parts row) more (number + 1)
read_more names text parts rest number row line more read cut good is allowed =
    let rows : parts_rows (with_row parts row) ≡ parts_rows parts ++ row ∷ [] = rows_with parts row allowed in
    let here : row_text names row ++ 10 ∷ more ≡ rest = ap (λ s. s ++ 10 ∷ more) is ∙ sym cut.joined in
    let long : length (parts_rows (with_row parts row)) ≡ length (parts_rows parts) + 1 = ap length rows ∙ length-append (parts_rows parts) (row ∷ []) in
    record {
      good = good_with (length names) parts row read.good good allowed;
      again = again-more parts row allowed read.again;
      joined = ap (λ s. rows_text names s ++ more) rows ∙ (rows_text-push names (parts_rows parts) row more ∙ (ap (λ s. rows_text names (parts_rows parts) ++ s) here ∙ read.joined));
      counted = omega (arith, long, read.counted);
    }

-- the lines that were read are good
unfinished_rows-good : (count : ℕ) (entries : List Entry) (unfinished : Option Entry) → All (IsEntry count) (all_entries entries unfinished) → All (IsRow count) (flat_map entry_rows entries ++ unfinished_rows unfinished)
unfinished_rows-good count entries None good = All-append (IsRow count) (flat_map entry_rows entries) [] (entries_rows-good count entries good) (All-nil (IsRow count))
unfinished_rows-good count entries (Some entry) good =
    let one : IsEntry count entry = All-head (IsEntry count) entry [] (All-back (IsEntry count) entries (entry ∷ []) good) in
    All-append (IsRow count) (flat_map entry_rows entries) (heading_row entry ∷ map Stated entry.lines) (entries_rows-good count entries (All-front (IsEntry count) entries (entry ∷ []) good))
    (All-cons (IsRow count) (heading_row entry) (map Stated entry.lines) (one.number, one.place, one.name) (stated_rows-good count entry.lines one.lines))

parts_rows-good : (count : ℕ) (parts : Parts) → IsGood count parts → All (IsRow count) (parts_rows parts)
parts_rows-good count parts good =
    All-append (IsRow count) (listed_rows parts.globals) (flat_map entry_rows parts.entries ++ unfinished_rows parts.unfinished) (listed_rows-good count parts.globals good.globals) (unfinished_rows-good count parts.entries parts.unfinished good.entries)

before_text : (names : List (List ℕ)) (rows : List Row) → with_ends (map (row_text names) rows) ≡ rows_text names rows
before_text names rows = flat_map-map (λ (line : List ℕ). line ++ 10 ∷ []) (row_text names) rows

with_ends-push : (lines : List (List ℕ)) (line rest : List ℕ) → with_ends (lines ++ line ∷ []) ++ rest ≡ with_ends lines ++ (line ++ 10 ∷ rest)
with_ends-push lines line rest =
    ap (λ s. s ++ rest) (flat_map-append (λ (l : List ℕ). l ++ 10 ∷ []) lines (line ∷ []) ∙ ap (λ s. with_ends lines ++ s) (append-nil (line ++ 10 ∷ [])))
    ∙ (append_assoc (with_ends lines) (line ++ 10 ∷ []) rest ∙ ap (λ s. with_ends lines ++ s) (append_assoc line (10 ∷ []) rest))

front_allowed : (names : List (List ℕ)) (text : List ℕ) (parts : Parts) (rest : List ℕ) (number : ℕ) (line : List ℕ) → AreNames names → IsRead names text parts rest number → HasNo 10 line → IsFront names (with_ends (map (row_text names) (parts_rows parts) ++ line ∷ [])) → IsAllowed names parts line
front_allowed names text parts rest number line fine read clear front =
    let whole : rows_text names (parts_rows parts) ++ (line ++ 10 ∷ front.rest) ≡ rows_text names (report_rows front.report) =
    ap (λ s. s ++ (line ++ 10 ∷ front.rest)) (sym (before_text names (parts_rows parts))) ∙ (sym (with_ends-push (map (row_text names) (parts_rows parts)) line front.rest) ∙ (front.joined ∙ sym (report_rows-text names front.report))) in
    let next = next_row names (parts_rows parts) (report_rows front.report) line front.rest fine (parts_rows-good (length names) parts read.good) (report_rows-good (length names) front.report front.good) clear whole in
    let all = subst (λ rows. Accepts no_parts rows (ended front.report)) next.whole (accept_report (length names) front.report front.good) in
    let allowed : Allows (fold with_row no_parts (parts_rows parts)) next.row = Accepts-row no_parts (parts_rows parts) next.row next.more (ended front.report) all in
    record { row = next.row; good = next.good; is = next.is; allowed = subst (λ p. Allows p next.row) read.again allowed }

-- a line that is bad
bad_line : (names : List (List ℕ)) (text : List ℕ) (parts : Parts) (rest : List ℕ) (number : ℕ) (line more : List ℕ) → AreNames names → IsRead names text parts rest number → IsCut 10 rest line (10 ∷ more) → (IsAllowed names parts line → ⊥) → IsBadLine names text number
bad_line names text parts rest number line more fine read cut bad =
    let rows : All (IsRow (length names)) (parts_rows parts) = parts_rows-good (length names) parts read.good in
    record {
      before = map (row_text names) (parts_rows parts);
      rest = rest;
      each = All-map (HasNo 10) (row_text names) (parts_rows parts) (λ k d lt. row_clear names _ fine (rows k d lt));
      joined = ap (λ s. s ++ rest) (before_text names (parts_rows parts)) ∙ read.joined;
      counted = ap (λ n. n + 1) (length-map (parts_rows parts) (row_text names)) ∙ read.counted;
      goes_on = subst (IsFront names) (sym (before_text names (parts_rows parts))) (complete names parts read.good);
      bad = inr (line, more, cut, λ front. bad (front_allowed names text parts rest number line fine read cut.clear front));
    }

-- a line that is read
pub read_taken : (names : List (List ℕ)) (text : List ℕ) (parts after : Parts) (rest : List ℕ) (number next : ℕ) (line more : List ℕ) → IsRead names text parts rest number → IsCut 10 rest line (10 ∷ more) → Takes names parts line after → next ≡ number + 1 → IsRead names text after more next
read_taken names text parts after rest number next line more read cut takes same =
    subst (λ n. IsRead names text after more n) (sym same)
    (subst (λ p. IsRead names text p more (number + 1)) (sym takes.after_is)
    (read_more names text parts rest number takes.allows.row line more read cut takes.allows.good takes.allows.is takes.allows.allowed))

-- why a line is not read
pub unread_line : (names : List (List ℕ)) (parts : Parts) (line : List ℕ) (fault : TextFault) → (fault ≡ Memory) ⊎ ((fault ≡ BadText 0) × IsNoText (IsRow (length names)) (row_text names) line) → IsLineFault names parts line fault
unread_line names parts line fault (inl memory) = inl memory
unread_line names parts line fault (inr told) = inr (told.0, λ (a : IsAllowed names parts line). told.1 a.row a.good a.is)

pub row_taken : (names : List (List ℕ)) (line : List ℕ) (row : Row) (before after : Draft) (r : Result (Unit {0}) TextFault) → AreNames names → IsRow (length names) row → row_text names row ≡ line → Follows before row r after → MatchResult r (λ done. IsKept after × Takes names (parts_of before) line (parts_of after)) (IsLineFault names (parts_of before) line)
row_taken names line row before after (Ok done) fine good is follows =
    (follows.2, record { allows = record { row = row; good = good; is = is; allowed = follows.0 }; after_is = follows.1 })
row_taken names line row before after (Err e) fine good is (inl memory) = inl memory
row_taken names line row before after (Err e) fine good is (inr told) =
    inr (told.0, λ (a : IsAllowed names (parts_of before) line). told.1 (subst (Allows (parts_of before)) (one_row names a.row row fine a.good good (a.is ∙ sym is)) a.allowed))

pub fault_of_line : (names : List (List ℕ)) (text : List ℕ) (parts : Parts) (rest : List ℕ) (number : ℕ) (line more : List ℕ) (fault given : TextFault) → AreNames names → IsRead names text parts rest number → IsCut 10 rest line (10 ∷ more) → IsLineFault names parts line fault → given ≡ placed number fault → IsFault names text given
fault_of_line names text parts rest number line more fault given fine read cut (inl memory) is = subst (IsFault names text) (sym (is ∙ ap (placed number) memory)) tt
fault_of_line names text parts rest number line more fault given fine read cut (inr told) is =
    subst (IsFault names text) (sym (is ∙ ap (placed number) told.0)) (bad_line names text parts rest number line more fine read cut told.1)

-- a text whose end is bad
ends_whole : (names : List (List ℕ)) (text : List ℕ) (parts : Parts) (rest : List ℕ) (number : ℕ) (report : Report) → AreNames names → IsRead names text parts rest number → HasNo 10 rest → IsReport (length names) report → report_text names report ≡ text → (rest ≡ []) × IsWhole parts
ends_whole names text parts rest number report fine read clear good is =
    let whole : rows_text names (parts_rows parts) ++ rest ≡ rows_text names (report_rows report) = read.joined ∙ (sym is ∙ sym (report_rows-text names report)) in
    let same = same_rows names (parts_rows parts) (report_rows report) rest fine (parts_rows-good (length names) parts read.good) (report_rows-good (length names) report good) clear whole in
    let last : fold with_row no_parts (report_rows report) ≡ ended report = Accepts-last no_parts (report_rows report) (ended report) (accept_report (length names) report good) in
    let are : ended report ≡ parts = sym last ∙ (ap (fold with_row no_parts) same.1 ∙ read.again) in
    let named : AllNamed (ended report) = All-from_contains (Contains (entries_globals report.entries)) (numbers_of report.globals) (λ n. (good.exact n).0) in
    (same.0, subst IsWhole are (refl, named))

bad_end : (names : List (List ℕ)) (text : List ℕ) (parts : Parts) (rest : List ℕ) (number : ℕ) → AreNames names → IsRead names text parts rest number → HasNo 10 rest → ((rest ≡ []) × IsWhole parts → ⊥) → IsBadLine names text number
bad_end names text parts rest number fine read clear bad =
    let rows : All (IsRow (length names)) (parts_rows parts) = parts_rows-good (length names) parts read.good in
    record {
      before = map (row_text names) (parts_rows parts);
      rest = rest;
      each = All-map (HasNo 10) (row_text names) (parts_rows parts) (λ k d lt. row_clear names _ fine (rows k d lt));
      joined = ap (λ s. s ++ rest) (before_text names (parts_rows parts)) ∙ read.joined;
      counted = ap (λ n. n + 1) (length-map (parts_rows parts) (row_text names)) ∙ read.counted;
      goes_on = subst (IsFront names) (sym (before_text names (parts_rows parts))) (complete names parts read.good);
      bad = inl (clear, λ report good is. bad (ends_whole names text parts rest number report fine read clear good is));
    }

pub cut_line : (names : List (List ℕ)) (text : List ℕ) (parts : Parts) (rest : List ℕ) (number : ℕ) → AreNames names → IsRead names text parts rest number → HasNo 10 rest → rest ≢ [] → IsBadLine names text number
cut_line names text parts rest number fine read clear some = bad_end names text parts rest number fine read clear (λ (w : (rest ≡ []) × IsWhole parts). some w.0)

pub unfinished_text : (names : List (List ℕ)) (text : List ℕ) (parts : Parts) (rest : List ℕ) (number : ℕ) → AreNames names → IsRead names text parts rest number → HasNo 10 rest → (IsWhole parts → ⊥) → IsBadLine names text number
unfinished_text names text parts rest number fine read clear part = bad_end names text parts rest number fine read clear (λ (w : (rest ≡ []) × IsWhole parts). part w.1)

-- a text that was read to its end
whole_made : (names : List (List ℕ)) (text : List ℕ) (globals : List (ℕ × List ℕ)) (entries : List Entry) (unfinished : Option Entry) (number : ℕ) → IsRead names text (made globals entries unfinished) [] number → IsWhole (made globals entries unfinished) → IsReport (length names) (record { globals = globals; entries = entries }) × (report_text names (record { globals = globals; entries = entries }) ≡ text)
whole_made names text globals entries (Some e) number read whole = let some : ◌≡◌ {A = Option Entry} (Some e) None = whole.0 in cc
whole_made names text globals entries None number read whole =
    let rows : report_rows (record { globals = globals; entries = entries }) ≡ parts_rows (made globals entries None) = ap (λ s. listed_rows globals ++ s) (sym (append-nil (flat_map entry_rows entries))) in
    (whole_report (length names) globals entries read.good whole.1, sym (report_rows-text names (record { globals = globals; entries = entries })) ∙ (ap (rows_text names) rows ∙ (sym (append-nil _) ∙ read.joined)))

pub whole_text : (names : List (List ℕ)) (text : List ℕ) (parts : Parts) (rest : List ℕ) (number : ℕ) → IsRead names text parts rest number → rest ≡ [] → IsWhole parts → IsReport (length names) (report_of parts) × (report_text names (report_of parts) ≡ text)
whole_text names text parts rest number read none whole =
    whole_made names text parts.globals parts.entries parts.unfinished number (subst (λ r. IsRead names text parts r number) none read) whole

-- a text with a bad line is that of no report
pub no_report : (names : List (List ℕ)) (text : List ℕ) (number : ℕ) → IsBadLine names text number → IsNoReport names text
no_report names text number bad = by bad.bad
  where
    by : (HasNo 10 bad.rest × IsNoReport names text) ⊎ ((line more : List ℕ) × IsCut 10 bad.rest line (10 ∷ more) × (IsFront names (with_ends (bad.before ++ line ∷ [])) → ⊥)) → IsNoReport names text
    by (inl end) = end.1
    by (inr (line, more, cut, off)) = λ report good is. off (record {
      report = report;
      good = good;
      rest = more;
      joined = with_ends-push bad.before line more ∙ (ap (λ s. with_ends bad.before ++ s) (sym cut.joined) ∙ (bad.joined ∙ sym is));
    })

pub refused_text : (names : List (List ℕ)) (text : List ℕ) (fault : TextFault) → IsFault names text fault → (fault ≡ Memory) ⊎ IsNoReport names text
refused_text names text (BadText number) bad = inr (no_report names text number bad)
refused_text names text Memory none = inl refl

-- a text's rest by the test of its length
some_length : (n : ℕ) → false ≡ (n == 0) → n ≡ 0 → ⊥
some_length n test zero_is = grind (arith, nat_tests)

no_length : (n : ℕ) → true ≡ (n == 0) → n ≡ 0
no_length n test = grind (arith, nat_tests)

pub some_rest : (rest : List ℕ) → false ≡ (length rest == 0) → rest ≢ []
some_rest rest test none = some_length (length rest) test (ap length none)

pub no_rest : (rest : List ℕ) → true ≡ (length rest == 0) → rest ≡ []
no_rest [] test = refl
no_rest (b ∷ rest) test = let none : length (b ∷ rest) ≡ 0 = no_length (length (b ∷ rest)) test in absurd (omega (arith, none))
