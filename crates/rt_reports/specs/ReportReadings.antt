-- Reports read from texts, and the first line at which no report's text goes on.
use Rattle.std.specs.Prelude.{◌≡◌, ℕ, ◌+◌, ◌⊎◌, List, [], ◌∷◌, ◌++◌, All, length}
use Rattle.std.specs.List.{flat_map}
use Rattle.rt_texts.specs.declared.fault.TextFault.{TextFault}
use Rattle.rt_texts.specs.declared.fault.TextFault.TheVariants.{BadText, Memory}
use Rattle.rt_lines.specs.Names.{AreNames}
use Rattle.rt_texts.specs.Readings.{IsNoText, HasNo, IsCut}
use Rattle.rt_scheme.specs.declared.report.Report.{Report}
use Rattle.rt_scheme.specs.Reports.{report_text}
use Rattle.rt_reports.specs.GoodReports.{IsReport}

-- lines, each with its line end
abbrev pub with_ends : List (List ℕ) → List ℕ
with_ends lines = flat_map (λ (line : List ℕ). line ++ 10 ∷ []) lines

-- the text of some well formed report begins so
pub record IsFront (names : List (List ℕ)) (front : List ℕ) : Type 0 where
  pub report : Report
  pub good : IsReport (length names) report
  pub rest : List ℕ
  pub joined : front ++ rest ≡ report_text names report

-- no well formed report has the text
abbrev pub IsNoReport : List (List ℕ) → List ℕ → Type 0
IsNoReport names text = IsNoText (IsReport (length names)) (report_text names) text

-- The lines before the one of this number are a prefix of a report's text, and with it they are no such prefix. Where the text
-- has no more whole lines than these, its end counts as a line: the text is that of no report.
pub record IsBadLine (names : List (List ℕ)) (text : List ℕ) (number : ℕ) : Type 0 where
  pub before : List (List ℕ)
  pub rest : List ℕ
  pub each : All (HasNo 10) before
  pub joined : with_ends before ++ rest ≡ text
  pub counted : length before + 1 ≡ number
  pub goes_on : IsFront names (with_ends before)
  pub bad : (HasNo 10 rest × IsNoReport names text) ⊎
      ((line more : List ℕ) × IsCut 10 rest line (10 ∷ more) × (IsFront names (with_ends (before ++ line ∷ [])) → ⊥))

-- why a text is that of no report; memory may run out
abbrev pub IsFault : List (List ℕ) → List ℕ → TextFault → Type 0
IsFault names text (BadText number) = IsBadLine names text number
IsFault names text Memory = Unit {0}

-- a text is that of one report alone
abbrev pub OneReport : Type 0
OneReport =
    (names : List (List ℕ)) (first second : Report) → AreNames names → IsReport (length names) first →
    IsReport (length names) second →
    report_text names first ≡ report_text names second → first ≡ second
