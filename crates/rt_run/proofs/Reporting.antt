-- Reports of procedures.
use Rattle.std.proofs.Common.{◌≡◌, ◌∙◌, ◌⊎◌, ℕ, ◌+◌, ◌<◌, ◌≤◌, List, [], ◌∷◌, ◌++◌, All, Option, Some, None, Ok, Err, Result, ap, arith, get_or, inl, inr, length, refl, set, subst, sym}
use Rattle.std.specs.Prelude.{IfOk}
use Rattle.std.proofs.lemmas.Bool.{cases_order}
use Rattle.std.proofs.lemmas.List.Elements.{All-append, All-cons, All-nil}
use Rattle.std.proofs.lemmas.List.{get_or_append_left, get_or_default, get_or_push, get_or-set_other, get_or-set_same, length-set}
use Rattle.rt_lines.specs.declared.line.Line.{Line}
use Rattle.rt_lines.specs.Lines.{HasConstantsBelow}
use Rattle.rt_lattice.specs.Lattices.{NamedOrder, size_of}
use Rattle.rt_elf.specs.Parts.{Parts as Object}
use Rattle.rt_proc.specs.declared.proc.Proc.{Proc}
use Rattle.rt_sigs.specs.Signatures.{Signature}
use Rattle.rt_table.specs.Lists.{HasGlobalsOf}
use Rattle.rt_scheme.specs.declared.scheme.Scheme.{Scheme}
use Rattle.rt_scheme.specs.declared.report.Entry.{Entry}
use Rattle.rt_scheme.specs.declared.report.Report.{Report}
use Rattle.rt_scheme.specs.Reports.{report_text}
use Rattle.rt_reports.specs.GoodReports.{IsGlobal, IsReport}
use Rattle.rt_run.specs.declared.analysis.Analysis.{Analysis}
use Rattle.rt_run.specs.declared.content.Told.{Told}
use Rattle.rt_run.specs.Inside.Analyses.{AreListsOf, AreToldOf, IsAnalysis, IsListed, object_in, procs_in}
use Rattle.rt_liveness.specs.Ends.{ends_of}
use Rattle.rt_run.specs.Objects.{IsInProfile}
use Rattle.rt_run.specs.Globals.{AreGlobals}
use Rattle.rt_run.specs.Inside.Goods.{HasGoodParts}
use Rattle.rt_run.proofs.Goodness.{good_report}
use Rattle.rt_run.specs.Reports.{AreEntries, IsEntryOf, IsReportOf, IsRightOf, IsTold}
use Rattle.rt_table.proofs.Framings.{element}

-- Lists.

-- the lines at a place are taken away
pub lists_taken : (told : Told) (analysis : Analysis) (lists lists' : List (Option (List Line))) (place : ℕ) → place < length lists → lists' ≡ set lists place None
    → AreListsOf told analysis lists → AreListsOf told analysis lists'
lists_taken told analysis lists lists' place within is before =
    λ number lines here. by number lines (subst (λ l. get_or l number None ≡ Some lines) is here) (cases_order number place)
  where
    no : (lines : List Line) → None ≡ Some lines → ⊥
    no lines e = cc

    by : (number : ℕ) (lines : List Line) → get_or (set lists place None) number None ≡ Some lines → (number ≡ place) ⊎ ((number < place) ⊎ (place < number))
        → AreToldOf told (object_in analysis) analysis.lattice.now analysis.sigs.now (procs_in analysis) analysis.schemes number lines
    by number lines here (inl same) = absurd (no lines (sym (get_or-set_same lists place None None within) ∙ subst (λ k. get_or (set lists place None) k None ≡ Some lines) same here))
    by number lines here (inr (inl below)) = before number lines (sym (get_or-set_other lists place number None None (λ e. omega (arith, e, below))) ∙ here)
    by number lines here (inr (inr above)) = before number lines (sym (get_or-set_other lists place number None None (λ e. omega (arith, e, above))) ∙ here)

-- Entries.

-- the entries of the first procedures, as many as there are entries, and the lists that are left
pub record AreBegun (told : Told) (analysis : Analysis) (n : ℕ) (entries : List Entry) (lists : List (Option (List Line))) : Type 0 where
  pub one_each : length entries ≡ n
  pub each : (number : ℕ) (proc : Proc) (entry : Entry) → number < n → IsEntryOf number (get_or (procs_in analysis) number proc) (get_or entries number entry)
  pub lines : (number : ℕ) (entry : Entry) → number < n
      → IsTold told (object_in analysis) analysis.lattice.now analysis.sigs.now (procs_in analysis) analysis.schemes number (get_or entries number entry).lines
  pub constants : All (λ entry. All (HasConstantsBelow (size_of analysis.lattice.now)) entry.lines) entries
  pub globals : All (λ entry. HasGlobalsOf (object_in analysis) entry.lines) entries
  pub long : length lists ≡ length (procs_in analysis)
  pub left : AreListsOf told analysis lists
  pub listed : (number : ℕ) → n ≤ number → number < length (procs_in analysis) → IsListed lists number

-- what holds of the entries at all numbers before one, and of a last entry at that number, holds up to it
upto : (P : ℕ → Entry → Type 0) (n : ℕ) (entries : List Entry) (entry : Entry) → length entries ≡ n
    → ((number : ℕ) (e : Entry) → number < n → P number (get_or entries number e)) → P n entry
    → (number : ℕ) (e : Entry) → number < n + 1 → P number (get_or (entries ++ entry ∷ []) number e)
upto P n entries entry one_each before last number e less = by (cases_order number n)
  where
    by : (number ≡ n) ⊎ ((number < n) ⊎ (n < number)) → P number (get_or (entries ++ entry ∷ []) number e)
    by (inl same) = subst (λ k. P k (get_or (entries ++ entry ∷ []) k e)) (sym same) (subst (P n) (sym (get_or_push entries entry e n one_each)) last)
    by (inr (inl earlier)) =
        subst (P number) (sym (get_or_append_left entries (entry ∷ []) e number (omega (arith, one_each, earlier)))) (before number e earlier)
    by (inr (inr later)) = absurd (omega (arith, less, later))

length_push : (xs : List Entry) (x : Entry) → length (xs ++ x ∷ []) ≡ length xs + 1
length_push [] x = refl
length_push (y ∷ ys) x = omega (arith, length_push ys x)

pub begun_none : (told : Told) (analysis : Analysis) (lists : List (Option (List Line))) → length lists ≡ length (procs_in analysis) → AreListsOf told analysis lists
    → ((number : ℕ) → number < length (procs_in analysis) → IsListed lists number) → AreBegun told analysis 0 [] lists
begun_none told analysis lists long left full = record {
  one_each = refl;
  each = λ number proc entry less. absurd (omega (arith, less));
  lines = λ number entry less. absurd (omega (arith, less));
  constants = All-nil (λ (entry : Entry). All (HasConstantsBelow (size_of analysis.lattice.now)) entry.lines);
  globals = All-nil (λ (entry : Entry). HasGlobalsOf (object_in analysis) entry.lines);
  long = long;
  left = left;
  listed = λ number from within. full number within;
}

-- what is read of a list is so by any default
pub read_of : (procs : List Proc) (n : ℕ) (proc : Proc) → proc ≡ get_or procs n proc → n < length procs → (d : Proc) → get_or procs n d ≡ proc
read_of procs n proc is within d = get_or_default procs n d proc within ∙ sym is

pub begun_next : (told : Told) (analysis : Analysis) (n : ℕ) (proc : Proc) (lines : List Line) (entry : Entry) (entries : List Entry) (lists lists' : List (Option (List Line)))
    → AreBegun told analysis n entries lists → proc ≡ get_or (procs_in analysis) n proc → n < length (procs_in analysis) → IsEntryOf n proc entry → entry.lines ≡ lines
    → Some lines ≡ get_or lists n None → lists' ≡ set lists n None
    → AreBegun told analysis (n + 1) (entries ++ entry ∷ []) lists'
begun_next told analysis n proc lines entry entries lists lists' begun is within is_entry is_lines taken is_left =
    let few : Entry → Type 0 = λ e. All (HasConstantsBelow (size_of analysis.lattice.now)) e.lines in
    let named : Entry → Type 0 = λ e. HasGlobalsOf (object_in analysis) e.lines in
    let are_told = begun.left n lines (sym taken) in
    record {
      one_each = omega (arith, begun.one_each, length_push entries entry);
      each = λ number p. upto (λ k e. IsEntryOf k (get_or (procs_in analysis) k p) e) n entries entry begun.one_each (λ k e less. begun.each k p e less) (subst (λ q. IsEntryOf n q entry) (sym (read_of (procs_in analysis) n proc is within p)) is_entry) number;
      lines = upto (λ k e. IsTold told (object_in analysis) analysis.lattice.now analysis.sigs.now (procs_in analysis) analysis.schemes k e.lines) n entries entry begun.one_each begun.lines
          (subst (IsTold told (object_in analysis) analysis.lattice.now analysis.sigs.now (procs_in analysis) analysis.schemes n) (sym is_lines) are_told.are_told);
      constants = All-append few entries (entry ∷ []) begun.constants (All-cons few entry [] (subst (All (HasConstantsBelow (size_of analysis.lattice.now))) (sym is_lines) are_told.are_kept.constants) (All-nil few));
      globals = All-append named entries (entry ∷ []) begun.globals (All-cons named entry [] (subst (HasGlobalsOf (object_in analysis)) (sym is_lines) are_told.are_kept.globals) (All-nil named));
      long = ap length is_left ∙ (length-set lists n None ∙ begun.long);
      left = lists_taken told analysis lists lists' n (omega (arith, within, begun.long)) is_left begun.left;
      listed = λ number from less. subst (λ l. IsListed l number) (sym is_left)
          (rw (get_or-set_other lists n number None None (λ e. omega (arith, e, from))) (begun.listed number (omega (arith, from)) less));
    }

pub begun_whole : (told : Told) (analysis : Analysis) (n : ℕ) (entries : List Entry) (lists : List (Option (List Line))) → n ≡ length (procs_in analysis)
    → AreBegun told analysis n entries lists → AreEntries told (object_in analysis) analysis.lattice.now analysis.sigs.now (procs_in analysis) analysis.schemes entries
begun_whole told analysis n entries lists is begun = record {
  one_each = begun.one_each ∙ is;
  each = λ number proc entry less. begun.each number proc entry (omega (arith, less, is));
  lines = λ number entry less. begun.lines number entry (omega (arith, less, is));
}

-- Reports.

-- a report of an analysis is right
right : (told : Told) (object : Object) (procs : List Proc) (analysis : Analysis) (report : Report)
    → IsInProfile object (ends_of object analysis.sigs.now) procs → IsAnalysis analysis → object_in analysis ≡ object → procs_in analysis ≡ procs
    → AreEntries told (object_in analysis) analysis.lattice.now analysis.sigs.now (procs_in analysis) analysis.schemes report.entries → AreGlobals object report.entries report.globals
    → IsRightOf told analysis.lattice.now analysis.sigs.now object report
right told object procs analysis report in_profile is_analysis is_object are_procs entries globals =
    subst (λ o. IsRightOf told analysis.lattice.now analysis.sigs.now o report) is_object (record {
      procs = procs_in analysis;
      in_profile = subst (λ o. IsInProfile o (ends_of o analysis.sigs.now) (procs_in analysis)) (sym is_object)
          (subst (IsInProfile object (ends_of object analysis.sigs.now)) (sym are_procs) in_profile);
      schemes = analysis.schemes;
      are_schemes = record { groups = analysis.groups; are_groups = is_analysis.groups; are_solved = is_analysis.solved };
      entries = entries;
      globals = subst (λ o. AreGlobals o report.entries report.globals) (sym is_object) globals;
    })

numbered : (told : Told) (object : Object) (order : NamedOrder) (signatures : List Signature) (procs : List Proc) (schemes : List (Option Scheme)) (entries : List Entry)
    → AreEntries told object order signatures procs schemes entries → (k : ℕ) (entry : Entry) → k < length entries → (get_or entries k entry).number ≡ k
numbered told object order signatures procs schemes entries are k entry less =
    let within : k < length procs = omega (arith, less, are.one_each) in
    (are.each k (element procs k within) entry within).has_number

pub right_text : (told : Told) (object : Object) (procs : List Proc) (order : NamedOrder) (signatures : List Signature) (names : List (List ℕ)) (analysis : Analysis) (report : Report)
    {X E : Type 0} (items : X → List ℕ) (text : Result X E)
    → IsInProfile object (ends_of object signatures) procs → IsAnalysis analysis → object_in analysis ≡ object → procs_in analysis ≡ procs → analysis.sigs.now ≡ signatures → analysis.lattice.now ≡ order
    → AreEntries told (object_in analysis) analysis.lattice.now analysis.sigs.now (procs_in analysis) analysis.schemes report.entries → AreGlobals object report.entries report.globals
    → All IsGlobal report.globals → All (λ entry. All (HasConstantsBelow (size_of analysis.lattice.now)) entry.lines) report.entries → All HasGoodParts report.entries
    → names ≡ order.names → IfOk text (λ t. items t ≡ report_text names report)
    → IfOk text (λ t. IsReportOf told order signatures object (items t))
right_text told object procs order signatures names analysis report items (Ok t) in_profile is_analysis is_object are_procs are_signatures is_order entries globals good few parts named is = record {
  report = report;
  is_right = subst (λ s. IsRightOf told order s object report) are_signatures (subst (λ o. IsRightOf told o analysis.sigs.now object report) is_order
      (right told object procs analysis report (subst (λ s. IsInProfile object (ends_of object s) procs) (sym are_signatures) in_profile) is_analysis is_object are_procs entries globals));
  is_good = subst (λ (o : NamedOrder). IsReport (length o.names) report) is_order
      (good_report object (size_of analysis.lattice.now) report globals good few parts
      (numbered told (object_in analysis) analysis.lattice.now analysis.sigs.now (procs_in analysis) analysis.schemes report.entries entries));
  is_text = is ∙ ap (λ n. report_text n report) named;
}
right_text told object procs order signatures names analysis report items (Err e) in_profile is_analysis is_object are_procs are_signatures is_order entries globals good few parts named is = tt
