-- Reports are well formed.
use Rattle.std.proofs.Common.{◌≡◌, ◌∙◌, ℕ, zero, suc, ◌+◌, ◌<◌, List, [], ◌∷◌, All, ap, arith, get_or, length, map, refl, subst, sym, Contains}
use Rattle.std.specs.List.Sorted.{IsStrictlyIncreasing}
use Rattle.std.proofs.lemmas.List.{length-map}
use Rattle.rt_lines.specs.declared.line.Line.{Line}
use Rattle.rt_lines.specs.declared.line.Line.TheVariants.{Var, Same, Sub, Low, Up}
use Rattle.rt_lines.specs.Lines.{HasConstantsBelow}
use Rattle.rt_texts.specs.Goods.{IsLine}
use Rattle.rt_elf.specs.Parts.{Parts as Object}
use Rattle.rt_scheme.specs.declared.report.Entry.{Entry}
use Rattle.rt_scheme.specs.declared.report.Report.{Report}
use Rattle.rt_reports.specs.GoodReports.{IsEntry, IsGlobal, IsReport, entry_numbers, numbers_of}
use Rattle.rt_run.specs.Globals.{AreGlobals, global_of}
use Rattle.rt_run.specs.Inside.Goods.{HasGoodParts, HasGoodSides}
use Rattle.rt_run.proofs.Naming.{in_named, named_in}

good_line : (count : ℕ) (l : Line) → HasConstantsBelow count l → HasGoodSides l → IsLine count l
good_line count (Var x) few good = good
good_line count (Same x y) few good = good
good_line count (Sub x y) few good = good
good_line count (Low k x) few good = (few, good)
good_line count (Up x k) few good = (good, few)

good_entries : (count : ℕ) (entries : List Entry) → All (λ entry. All (HasConstantsBelow count) entry.lines) entries → All HasGoodParts entries → All (IsEntry count) entries
good_entries count entries few good = λ k d less. record {
  number = (good k d less).number;
  place = (good k d less).place;
  name = (good k d less).name;
  lines = λ i l below. good_line count (get_or (get_or entries k d).lines i l) (few k d less i l below) ((good k d less).lines i l below);
}

-- the numbers of globals are those that they were made from
same_numbers : (object : Object) (numbers : List ℕ) → numbers_of (map (global_of object) numbers) ≡ numbers
same_numbers object [] = refl
same_numbers object (n ∷ numbers) = ap (λ ns. n ∷ ns) (same_numbers object numbers)

-- the numbers of entries are those of their places
entry_number : (entries : List Entry) (n : ℕ) → ((k : ℕ) (entry : Entry) → k < length entries → (get_or entries k entry).number ≡ n + k)
    → (k : ℕ) → k < length entries → get_or (entry_numbers entries) k 0 ≡ n + k
entry_number [] n each k less = absurd (omega (arith, less))
entry_number (entry ∷ entries) n each zero less = each zero entry less
entry_number (entry ∷ entries) n each (suc k) less =
    let later : get_or (entry_numbers entries) k 0 ≡ suc n + k = entry_number entries (suc n) (λ j e below. each (suc j) e (omega (arith, below)) ∙ omega arith) k (omega (arith, less)) in
    later ∙ omega arith

entries_rise : (entries : List Entry) → ((k : ℕ) (entry : Entry) → k < length entries → (get_or entries k entry).number ≡ k) → IsStrictlyIncreasing (entry_numbers entries)
entries_rise entries each = λ k less.
    let within : k + 1 < length entries = subst (λ n. k + 1 < n) (length-map entries (λ (entry : Entry). entry.number)) less in
    let same : (j : ℕ) → j ≡ 0 + j = λ j. omega arith in
    let first : get_or (entry_numbers entries) k 0 ≡ 0 + k = entry_number entries 0 (λ j e below. each j e below ∙ same j) k (omega (arith, within)) in
    let second : get_or (entry_numbers entries) (k + 1) 0 ≡ 0 + (k + 1) = entry_number entries 0 (λ j e below. each j e below ∙ same j) (k + 1) within in
    omega (arith, first, second)

-- a report is well formed, where its globals are those of its entries and the parts of both are in range
pub good_report : (object : Object) (count : ℕ) (report : Report) → AreGlobals object report.entries report.globals → All IsGlobal report.globals
    → All (λ entry. All (HasConstantsBelow count) entry.lines) report.entries → All HasGoodParts report.entries
    → ((k : ℕ) (entry : Entry) → k < length report.entries → (get_or report.entries k entry).number ≡ k) → IsReport count report
good_report object count report are globals few parts numbered = record {
  globals = globals;
  entries = good_entries count report.entries few parts;
  globals_rise = subst IsStrictlyIncreasing (sym numbers) are.ascending;
  entries_rise = entries_rise report.entries numbered;
  exact = λ n. (
    (λ h. in_named report.entries n ((are.named n).0 (subst (λ ns. Contains ns n) numbers h))),
    (λ h. subst (λ ns. Contains ns n) (sym numbers) ((are.named n).1 (named_in report.entries n h))),
  );
}
  where
    numbers : numbers_of report.globals ≡ are.numbers
    numbers = ap numbers_of are.globals ∙ same_numbers object are.numbers
