use Rattle.std.proofs.Common.{◌<◌, All, map, sym, subst, ◌∙◌}
use Rattle.std.proofs.lemmas.Result.{IfOk-weaker}
use Rattle.rt_lines.specs.declared.variable.Base.TheVariants.{Global}
use Rattle.rt_lines.specs.Lines.{HasConstantsBelow}
use Rattle.rt_rules.specs.Alike.{Alike, is_inside_for}
use Rattle.rt_rules.specs.Laws.{NamesBase}
use Rattle.rt_scheme.specs.Schemes.{AreSchemeLines}
use Rattle.rt_scheme.specs.SplitExistentials.{is_other, existential_for}
use Rattle.rt_scheme.specs.Splitting.{split_line}
use Rattle.rt_scheme.proofs.SplittingKeeps.{split-alike, split-constants, split-globals, split-scheme}
use Rattle.rt_rules.proofs.FirstFree.{first_free-above}
use Rattle.rt_scheme.proofs.splitting.split.Goals as goal

pub returns-clause-alike : goal.returns-clause-alike
returns-clause-alike c =
    let lines = c.args.lines.now in
    let split = c.in_ok-split.split in
    let by = c.in_ok-split.ensures in
    IfOk-weaker c.split_lines.result _ _
    (λ made e order.
    subst (Alike order (is_inside_for c.args.own) lines)
    (sym (e ∙ (λ i. map (split_line (is_other (by.own i)) (existential_for split.first (by.found i))) lines)))
    (split-alike c.args.own split.first lines c.requires (λ n names. subst (λ first. n < first) (sym by.first) (first_free-above lines n names)) order)) c.split_lines.ensures

pub returns-clause-constants : goal.returns-clause-constants
returns-clause-constants c =
    let split = c.in_ok-split.split in
    IfOk-weaker c.split_lines.result _ _
    (λ made e count h. subst (All (HasConstantsBelow count)) (sym e) (split-constants (is_other split.own) (existential_for split.first split.found.keys) c.args.lines.now count h))
    c.split_lines.ensures

pub returns-clause-globals : goal.returns-clause-globals
returns-clause-globals c =
    let split = c.in_ok-split.split in
    IfOk-weaker c.split_lines.result _ _
    (λ made e n names. split-globals (is_other split.own) (existential_for split.first split.found.keys) c.args.lines.now n (subst (λ lines. NamesBase lines (Global n)) e names))
    c.split_lines.ensures

pub returns-clause-scheme : goal.returns-clause-scheme
returns-clause-scheme c =
    let split = c.in_ok-split.split in
    IfOk-weaker c.split_lines.result _ _
    (λ made e.
    subst (λ own. AreSchemeLines own made) c.in_ok-split.ensures.own
    (subst (AreSchemeLines split.own) (sym e) (split-scheme split.own (existential_for split.first split.found.keys) c.args.lines.now c.requires))) c.split_lines.ensures

pub returns-clause-exact : goal.returns-clause-exact
returns-clause-exact c =
    let lines = c.args.lines.now in
    let split = c.in_ok-split.split in
    let by = c.in_ok-split.ensures in
    IfOk-weaker c.split_lines.result _ _
    (λ made e. e ∙ (λ i. map (split_line (is_other (by.own i)) (existential_for (by.first i) (by.found i))) lines)) c.split_lines.ensures
