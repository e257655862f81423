-- What is known of a report that is read in part.
use Rattle.std.proofs.Common.{◌≡◌, ℕ, ◌≤◌, List, [], ◌∷◌, ◌++◌, Option, Some, None, All, Contains, map, fold, refl, ap, sym, subst, ◌∙◌, arith, append_assoc, append-nil}
use Rattle.std.specs.List.{flat_map}
use Rattle.std.proofs.lemmas.Grind.{flat_map-append}
use Rattle.std.proofs.lemmas.List.{map-append}
use Rattle.std.proofs.lemmas.List.Sums.{fold-append}
use Rattle.std.proofs.lemmas.List.Elements.{All-head, All-nil, All-push, All-append}
use Rattle.rt_base.proofs.Lists.{All-front, All-back}
use Rattle.rt_lines.specs.declared.line.Line.{Line}
use Rattle.rt_texts.specs.Goods.{IsLine}
use Rattle.rt_scheme.specs.declared.report.Entry.{Entry}
use Rattle.rt_reports.specs.Globals.{line_globals, lines_globals, entries_globals}
use Rattle.rt_reports.specs.GoodReports.{IsGlobal, IsEntry, numbers_of, entry_numbers}
use Rattle.rt_reports.specs.Inside.Rows.{IsRow}
use Rattle.rt_reports.specs.Inside.Drafts.{Parts, no_parts, least_after, with_line, with_row, Allows}
use Rattle.rt_reports.specs.Inside.Reads.{IsGood, RisesFrom, entry_rows, heading_row, listed_rows, parts_rows}
use Rattle.rt_reports.specs.declared.row.Row.{Row}
use Rattle.rt_reports.specs.declared.row.Row.TheVariants.{Listed, Heading, Stated, End}
use Rattle.rt_reports.proofs.Ascending.{RisesFrom-push}

-- the globals of entries, one more
pub entries_globals-push : (entries : List Entry) (entry : Entry) → entries_globals (entries ++ entry ∷ []) ≡ entries_globals entries ++ lines_globals entry.lines
entries_globals-push entries entry =
    flat_map-append (λ (e : Entry). lines_globals e.lines) entries (entry ∷ []) ∙ ap (λ s. entries_globals entries ++ s) (append-nil (lines_globals entry.lines))

pub lines_globals-push : (lines : List Line) (line : Line) → lines_globals (lines ++ line ∷ []) ≡ lines_globals lines ++ line_globals line
lines_globals-push lines line = flat_map-append line_globals lines (line ∷ []) ∙ ap (λ s. lines_globals lines ++ s) (append-nil (line_globals line))

pub entry_numbers-push : (entries : List Entry) (entry : Entry) → entry_numbers (entries ++ entry ∷ []) ≡ entry_numbers entries ++ entry.number ∷ []
entry_numbers-push entries entry = map-append (λ (e : Entry). e.number) entries (entry ∷ [])

pub numbers_of-push : (globals : List (ℕ × List ℕ)) (n : ℕ) (name : List ℕ) → numbers_of (globals ++ (n, name) ∷ []) ≡ numbers_of globals ++ n ∷ []
numbers_of-push globals n name = map-append (λ (g : ℕ × List ℕ). g.0) globals ((n, name) ∷ [])

-- what was read is good
pub no_parts-good : (count : ℕ) → IsGood count no_parts
no_parts-good count = record {
  globals = All-nil IsGlobal;
  entries = All-nil (IsEntry count);
  globals_rise = tt;
  entries_rise = tt;
  listed = All-nil (Contains []);
  full = λ none low. absurd (omega arith);
}

-- a line that may follow is one line more of what was read
rows-more : (globals : List (ℕ × List ℕ)) (entries : List Entry) (unfinished : Option Entry) (row : Row) → Allows (record { globals = globals; entries = entries; unfinished = unfinished }) row → parts_rows (with_row (record { globals = globals; entries = entries; unfinished = unfinished }) row) ≡ parts_rows (record { globals = globals; entries = entries; unfinished = unfinished }) ++ row ∷ []
rows-more globals [] None (Listed n name) allowed =
    ap (λ s. s ++ []) (map-append (λ (g : ℕ × List ℕ). Listed g.0 g.1) globals ((n, name) ∷ [])) ∙ (append-nil _ ∙ ap (λ s. s ++ Listed n name ∷ []) (sym (append-nil (listed_rows globals))))
rows-more globals (e ∷ entries) None (Listed n name) allowed = let some : ◌≡◌ {A = List Entry} (e ∷ entries) [] = allowed.1 in cc
rows-more globals entries (Some e) (Listed n name) allowed = let some : ◌≡◌ {A = Option Entry} (Some e) None = allowed.0 in cc
rows-more globals entries None (Heading n place name) allowed =
    let whole : listed_rows globals ++ (flat_map entry_rows entries ++ Heading n place name ∷ []) ≡ (listed_rows globals ++ (flat_map entry_rows entries ++ [])) ++ Heading n place name ∷ [] =
    sym (append_assoc (listed_rows globals) (flat_map entry_rows entries) (Heading n place name ∷ [])) ∙ ap (λ s. (listed_rows globals ++ s) ++ Heading n place name ∷ []) (sym (append-nil (flat_map entry_rows entries))) in
    whole
rows-more globals entries (Some e) (Heading n place name) allowed = let some : ◌≡◌ {A = Option Entry} (Some e) None = allowed.0 in cc
rows-more globals entries None (Stated line) allowed = absurd allowed.0
rows-more globals entries (Some e) (Stated line) allowed =
    let lines : map Stated (e.lines ++ line ∷ []) ≡ map Stated e.lines ++ Stated line ∷ [] = map-append Stated e.lines (line ∷ []) in
    ap (λ s. listed_rows globals ++ (flat_map entry_rows entries ++ (heading_row e ∷ s))) lines
    ∙ (ap (λ s. listed_rows globals ++ s) (sym (append_assoc (flat_map entry_rows entries) (heading_row e ∷ map Stated e.lines) (Stated line ∷ [])))
    ∙ sym (append_assoc (listed_rows globals) (flat_map entry_rows entries ++ (heading_row e ∷ map Stated e.lines)) (Stated line ∷ [])))
rows-more globals entries None End allowed = absurd allowed.0
rows-more globals entries (Some e) End allowed =
    let pushed : flat_map entry_rows (entries ++ e ∷ []) ≡ flat_map entry_rows entries ++ entry_rows e = flat_map-append entry_rows entries (e ∷ []) ∙ ap (λ s. flat_map entry_rows entries ++ s) (append-nil (entry_rows e)) in
    ap (λ s. listed_rows globals ++ s) (append-nil _ ∙ (pushed ∙ sym (append_assoc (flat_map entry_rows entries) (heading_row e ∷ map Stated e.lines) (End ∷ []))))
    ∙ sym (append_assoc (listed_rows globals) (flat_map entry_rows entries ++ (heading_row e ∷ map Stated e.lines)) (End ∷ []))

pub rows_with : (parts : Parts) (row : Row) → Allows parts row → parts_rows (with_row parts row) ≡ parts_rows parts ++ row ∷ []
rows_with parts row allowed = rows-more parts.globals parts.entries parts.unfinished row allowed

-- the lines that were read are read again to the same parts
pub again-more : (parts : Parts) (row : Row) → Allows parts row → fold with_row no_parts (parts_rows parts) ≡ parts → fold with_row no_parts (parts_rows (with_row parts row)) ≡ with_row parts row
again-more parts row allowed again =
    ap (fold with_row no_parts) (rows_with parts row allowed) ∙ (fold-append with_row no_parts (parts_rows parts) (row ∷ []) ∙ ap (λ p. with_row p row) again)

-- with a line that may follow the parts stay good
abbrev pub made : List (ℕ × List ℕ) → List Entry → Option Entry → Parts
made globals entries unfinished = record { globals = globals; entries = entries; unfinished = unfinished }

good_heading : (count : ℕ) (globals : List (ℕ × List ℕ)) (entries : List Entry) (entry : Entry) → IsGood count (made globals entries None) → IsEntry count entry → entry.lines ≡ [] → least_after 0 (entry_numbers entries) ≤ entry.number → IsGood count (made globals entries (Some entry))
good_heading count globals entries entry good fine empty low =
    let none : entries_globals (entries ++ entry ∷ []) ≡ entries_globals entries = entries_globals-push entries entry ∙ (ap (λ lines. entries_globals entries ++ lines_globals lines) empty ∙ append-nil (entries_globals entries)) in
    record {
      globals = good.globals;
      entries = All-push (IsEntry count) entries entry good.entries fine;
      globals_rise = good.globals_rise;
      entries_rise = subst (RisesFrom 0) (sym (entry_numbers-push entries entry)) (RisesFrom-push 0 (entry_numbers entries) entry.number good.entries_rise low);
      listed = subst (All (Contains (numbers_of globals))) (sym none) good.listed;
      full = λ some. cc;
    }

good_line : (count : ℕ) (globals : List (ℕ × List ℕ)) (entries : List Entry) (entry : Entry) (line : Line) → IsGood count (made globals entries (Some entry)) → IsLine count line → All (Contains (numbers_of globals)) (line_globals line) → IsGood count (made globals entries (Some (with_line entry line)))
good_line count globals entries entry line good fine listed =
    let before : All (IsEntry count) entries = All-front (IsEntry count) entries (entry ∷ []) good.entries in
    let one : IsEntry count entry = All-head (IsEntry count) entry [] (All-back (IsEntry count) entries (entry ∷ []) good.entries) in
    let more : IsEntry count (with_line entry line) = record { number = one.number; place = one.place; name = one.name; lines = All-push (IsLine count) entry.lines line one.lines fine } in
    let numbers : entry_numbers (entries ++ with_line entry line ∷ []) ≡ entry_numbers (entries ++ entry ∷ []) = entry_numbers-push entries (with_line entry line) ∙ sym (entry_numbers-push entries entry) in
    let names : entries_globals (entries ++ with_line entry line ∷ []) ≡ entries_globals (entries ++ entry ∷ []) ++ line_globals line =
    entries_globals-push entries (with_line entry line) ∙ (ap (λ s. entries_globals entries ++ s) (lines_globals-push entry.lines line) ∙ (sym (append_assoc (entries_globals entries) (lines_globals entry.lines) (line_globals line)) ∙ ap (λ s. s ++ line_globals line) (sym (entries_globals-push entries entry)))) in
    record {
      globals = good.globals;
      entries = All-push (IsEntry count) entries (with_line entry line) before more;
      globals_rise = good.globals_rise;
      entries_rise = subst (RisesFrom 0) (sym numbers) good.entries_rise;
      listed = subst (All (Contains (numbers_of globals))) (sym names) (All-append (Contains (numbers_of globals)) (entries_globals (entries ++ entry ∷ [])) (line_globals line) good.listed listed);
      full = λ some. cc;
    }

good_more : (count : ℕ) (globals : List (ℕ × List ℕ)) (entries : List Entry) (unfinished : Option Entry) (row : Row) → IsGood count (made globals entries unfinished) → IsRow count row → Allows (made globals entries unfinished) row → IsGood count (with_row (made globals entries unfinished) row)
good_more count globals [] None (Listed n name) good fine allowed =
    record {
      globals = All-push IsGlobal globals (n, name) good.globals fine;
      entries = good.entries;
      globals_rise = subst (RisesFrom 0) (sym (numbers_of-push globals n name)) (RisesFrom-push 0 (numbers_of globals) n good.globals_rise allowed.2);
      entries_rise = good.entries_rise;
      listed = All-nil (Contains (numbers_of (globals ++ (n, name) ∷ [])));
      full = λ none low. absurd (omega arith);
    }
good_more count globals (e ∷ entries) None (Listed n name) good fine allowed = let some : ◌≡◌ {A = List Entry} (e ∷ entries) [] = allowed.1 in cc
good_more count globals entries (Some e) (Listed n name) good fine allowed = let some : ◌≡◌ {A = Option Entry} (Some e) None = allowed.0 in cc
good_more count globals entries None (Heading n place name) good fine allowed =
    good_heading count globals entries (record { number = n; place = place; name = name; lines = [] }) good (record { number = fine.0; place = fine.1; name = fine.2; lines = All-nil (IsLine count) }) refl allowed.1
good_more count globals entries (Some e) (Heading n place name) good fine allowed = let some : ◌≡◌ {A = Option Entry} (Some e) None = allowed.0 in cc
good_more count globals entries None (Stated line) good fine allowed = absurd allowed.0
good_more count globals entries (Some e) (Stated line) good fine allowed = good_line count globals entries e line good fine allowed.1
good_more count globals entries None End good fine allowed = absurd allowed.0
good_more count globals entries (Some e) End good fine allowed =
    record { globals = good.globals; entries = good.entries; globals_rise = good.globals_rise; entries_rise = good.entries_rise; listed = good.listed; full = λ none. allowed.1 }

pub good_with : (count : ℕ) (parts : Parts) (row : Row) → IsGood count parts → IsRow count row → Allows parts row → IsGood count (with_row parts row)
good_with count parts row good fine allowed = good_more count parts.globals parts.entries parts.unfinished row good fine allowed
