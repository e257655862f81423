-- The lines of a well formed report may each follow those before them.
use Rattle.std.proofs.Common.{◌≡◌, ℕ, ◌+◌, ◌≤◌, ◌^◌, List, [], ◌∷◌, ◌++◌, Some, None, All, Contains, map, fold, refl, ap, sym, subst, ◌∙◌, arith, append_assoc, append-nil}
use Rattle.std.specs.List.{flat_map}
use Rattle.std.proofs.lemmas.List.{map-append}
use Rattle.std.proofs.lemmas.List.Elements.{All-head, All-tail}
use Rattle.rt_base.proofs.Lists.{All-front, All-back, All-from_contains}
use Rattle.rt_lines.specs.declared.line.Line.{Line}
use Rattle.rt_texts.specs.Goods.{IsNumber}
use Rattle.rt_scheme.specs.declared.report.Entry.{Entry}
use Rattle.rt_scheme.specs.declared.report.Report.{Report}
use Rattle.rt_reports.specs.Globals.{line_globals, lines_globals, entries_globals}
use Rattle.rt_reports.specs.GoodReports.{IsEntry, IsReport, numbers_of, entry_numbers}
use Rattle.rt_reports.specs.Inside.Drafts.{Parts, no_parts, least_after, with_row, Allows}
use Rattle.rt_reports.specs.Inside.Reads.{RisesFrom, entry_rows, listed_rows, report_rows}
use Rattle.rt_reports.specs.declared.row.Row.{Row}
use Rattle.rt_reports.specs.declared.row.Row.TheVariants.{Stated, End}
use Rattle.rt_reports.proofs.Ascending.{least_after-append, rises_all}

-- each of the lines may follow, and with all of them the parts are these
abbrev pub Accepts : Parts → List Row → Parts → Type 0
Accepts parts [] last = parts ≡ last
Accepts parts (row ∷ rows) last = Allows parts row × Accepts (with_row parts row) rows last

pub Accepts-row : (parts : Parts) (first : List Row) (row : Row) (more : List Row) (last : Parts) → Accepts parts (first ++ row ∷ more) last → Allows (fold with_row parts first) row
Accepts-row parts [] row more last all = all.0
Accepts-row parts (r ∷ first) row more last all = Accepts-row (with_row parts r) first row more last all.1

pub Accepts-last : (parts : Parts) (rows : List Row) (last : Parts) → Accepts parts rows last → fold with_row parts rows ≡ last
Accepts-last parts [] last all = all
Accepts-last parts (r ∷ rows) last all = Accepts-last (with_row parts r) rows last all.1

-- globals
abbrev only : List (ℕ × List ℕ) → Parts
only globals = record { globals = globals; entries = []; unfinished = None }

pub least-push_global : (done : List (ℕ × List ℕ)) (n : ℕ) (name : List ℕ) → least_after 0 (numbers_of (done ++ (n, name) ∷ [])) ≡ n + 1
least-push_global done n name =
    ap (least_after 0) (map-append (λ (g : ℕ × List ℕ). g.0) done ((n, name) ∷ [])) ∙ least_after-append 0 (numbers_of done) (n ∷ [])

accept_globals : (done todo : List (ℕ × List ℕ)) (rest : List Row) (last : Parts) → RisesFrom (least_after 0 (numbers_of done)) (numbers_of todo) → Accepts (only (done ++ todo)) rest last → Accepts (only done) (listed_rows todo ++ rest) last
accept_globals done [] rest last rise all = subst (λ d. Accepts (only d) rest last) (append-nil done) all
accept_globals done ((n, name) ∷ todo) rest last rise all =
    let least : least_after 0 (numbers_of (done ++ (n, name) ∷ [])) ≡ n + 1 = least-push_global done n name in
    let rises : RisesFrom (least_after 0 (numbers_of (done ++ (n, name) ∷ []))) (numbers_of todo) = subst (λ low. RisesFrom low (numbers_of todo)) (sym least) rise.1 in
    let whole : Accepts (only ((done ++ (n, name) ∷ []) ++ todo)) rest last = subst (λ d. Accepts (only d) rest last) (sym (append_assoc done ((n, name) ∷ []) todo)) all in
    ((refl, refl, rise.0), accept_globals (done ++ (n, name) ∷ []) todo rest last rises whole)

-- lines
abbrev within : List (ℕ × List ℕ) → List Entry → Entry → List Line → Parts
within globals entries entry lines = record { globals = globals; entries = entries; unfinished = Some (record { number = entry.number; place = entry.place; name = entry.name; lines = lines }) }

accept_lines : (globals : List (ℕ × List ℕ)) (entries : List Entry) (entry : Entry) (done todo : List Line) (rest : List Row) (last : Parts) → All (Contains (numbers_of globals)) (lines_globals todo) → Accepts (within globals entries entry (done ++ todo)) rest last → Accepts (within globals entries entry done) (map Stated todo ++ rest) last
accept_lines globals entries entry done [] rest last listed all = subst (λ d. Accepts (within globals entries entry d) rest last) (append-nil done) all
accept_lines globals entries entry done (line ∷ todo) rest last listed all =
    let here : All (Contains (numbers_of globals)) (line_globals line) = All-front (Contains (numbers_of globals)) (line_globals line) (lines_globals todo) listed in
    let others : All (Contains (numbers_of globals)) (lines_globals todo) = All-back (Contains (numbers_of globals)) (line_globals line) (lines_globals todo) listed in
    let whole : Accepts (within globals entries entry ((done ++ line ∷ []) ++ todo)) rest last = subst (λ d. Accepts (within globals entries entry d) rest last) (sym (append_assoc done (line ∷ []) todo)) all in
    ((tt, here), accept_lines globals entries entry (done ++ line ∷ []) todo rest last others whole)

-- entries
abbrev between : List (ℕ × List ℕ) → List Entry → Parts
between globals entries = record { globals = globals; entries = entries; unfinished = None }

pub least-push_entry : (done : List Entry) (entry : Entry) → least_after 0 (entry_numbers (done ++ entry ∷ [])) ≡ entry.number + 1
least-push_entry done entry =
    ap (least_after 0) (map-append (λ (e : Entry). e.number) done (entry ∷ [])) ∙ least_after-append 0 (entry_numbers done) (entry.number ∷ [])

-- after the greatest number no entry comes
last_named : (globals : List (ℕ × List ℕ)) (done : List Entry) (entry : Entry) (todo : List Entry) → RisesFrom (entry.number + 1) (entry_numbers todo) → All (λ (e : Entry). IsNumber e.number) todo → All (Contains (entries_globals (done ++ entry ∷ todo))) (numbers_of globals) → 2 ^ 32 ≤ entry.number + 1 → All (Contains (entries_globals (done ++ entry ∷ []))) (numbers_of globals)
last_named globals done entry [] rise small named full = named
last_named globals done entry (next ∷ todo) rise small named full =
    let low : entry.number + 1 ≤ next.number = rise.0 in
    let high : IsNumber next.number = All-head (λ (e : Entry). IsNumber e.number) next todo small in
    absurd (omega arith)

accept_entries : (globals : List (ℕ × List ℕ)) (done todo : List Entry) → RisesFrom (least_after 0 (entry_numbers done)) (entry_numbers todo) → All (λ (e : Entry). IsNumber e.number) todo → All (Contains (numbers_of globals)) (entries_globals todo) → All (Contains (entries_globals (done ++ todo))) (numbers_of globals) → Accepts (between globals done) (flat_map entry_rows todo) (between globals (done ++ todo))
accept_entries globals done [] rise small listed named = λ i. between globals (sym (append-nil done) i)
accept_entries globals done (entry ∷ todo) rise small listed named =
    let least : least_after 0 (entry_numbers (done ++ entry ∷ [])) ≡ entry.number + 1 = least-push_entry done entry in
    let here : All (Contains (numbers_of globals)) (lines_globals entry.lines) = All-front (Contains (numbers_of globals)) (lines_globals entry.lines) (entries_globals todo) listed in
    let others : All (Contains (numbers_of globals)) (entries_globals todo) = All-back (Contains (numbers_of globals)) (lines_globals entry.lines) (entries_globals todo) listed in
    let less : All (λ (e : Entry). IsNumber e.number) todo = All-tail (λ (e : Entry). IsNumber e.number) entry todo small in
    let same : (done ++ entry ∷ []) ++ todo ≡ done ++ entry ∷ todo = append_assoc done (entry ∷ []) todo in
    let rises : RisesFrom (least_after 0 (entry_numbers (done ++ entry ∷ []))) (entry_numbers todo) = subst (λ low. RisesFrom low (entry_numbers todo)) (sym least) rise.1 in
    let names : All (Contains (entries_globals ((done ++ entry ∷ []) ++ todo))) (numbers_of globals) = subst (λ es. All (Contains (entries_globals es)) (numbers_of globals)) (sym same) named in
    let rest : Accepts (between globals (done ++ entry ∷ [])) (flat_map entry_rows todo) (between globals (done ++ entry ∷ todo)) = subst (λ es. Accepts (between globals (done ++ entry ∷ [])) (flat_map entry_rows todo) (between globals es)) same (accept_entries globals (done ++ entry ∷ []) todo rises less others names) in
    let ends : 2 ^ 32 ≤ least_after 0 (entry_numbers (done ++ entry ∷ [])) → All (Contains (entries_globals (done ++ entry ∷ []))) (numbers_of globals) = λ full. last_named globals done entry todo rise.1 less named (omega arith) in
    let end : Accepts (within globals done entry entry.lines) (End ∷ flat_map entry_rows todo) (between globals (done ++ entry ∷ todo)) = ((tt, ends), rest) in
    let lines : Accepts (within globals done entry []) (map Stated entry.lines ++ (End ∷ flat_map entry_rows todo)) (between globals (done ++ entry ∷ todo)) = accept_lines globals done entry [] entry.lines (End ∷ flat_map entry_rows todo) (between globals (done ++ entry ∷ todo)) here end in
    ((refl, rise.0), subst (λ rows. Accepts (within globals done entry []) rows (between globals (done ++ entry ∷ todo))) (sym (append_assoc (map Stated entry.lines) (End ∷ []) (flat_map entry_rows todo))) lines)

-- the whole
abbrev pub ended : Report → Parts
ended report = record { globals = report.globals; entries = report.entries; unfinished = None }

numbers_small : (count : ℕ) (entries : List Entry) → All (IsEntry count) entries → All (λ (e : Entry). IsNumber e.number) entries
numbers_small count entries good k d lt = (good k d lt).number

pub accept_report : (count : ℕ) (report : Report) → IsReport count report → Accepts no_parts (report_rows report) (ended report)
accept_report count report good =
    let entries : Accepts (between report.globals []) (flat_map entry_rows report.entries) (ended report) = accept_entries report.globals [] report.entries (rises_all (entry_numbers report.entries) good.entries_rise) (numbers_small count report.entries good.entries) (All-from_contains (Contains (numbers_of report.globals)) (entries_globals report.entries) (λ n. (good.exact n).1)) (All-from_contains (Contains (entries_globals report.entries)) (numbers_of report.globals) (λ n. (good.exact n).0)) in
    accept_globals [] report.globals (flat_map entry_rows report.entries) (ended report) (rises_all (numbers_of report.globals) good.globals_rise) entries
