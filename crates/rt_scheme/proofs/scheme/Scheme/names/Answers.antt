use Rattle.std.proofs.Common.{◌≡◌, Bool, ap, sym, ◌∙◌}
use Rattle.std.specs.List.{list_any}
use Rattle.rt_scheme.specs.Ports.{line_names}
use Rattle.rt_scheme.proofs.PortLabels.{any_names-is, names_label-is}
use Rattle.rt_scheme.proofs.scheme.Scheme.names.Goals as goal

abbrev test : goal.After-any_names → Bool
test c = list_any (line_names c.args.self.now.base c.args.label) c.args.self.now.lines

result_is : (c : goal.After-any_names) → c.any_names.result ≡ test c
result_is c = c.any_names.ensures ∙ ap (list_any (line_names c.args.self.now.base c.args.label)) c.items.ensures

pub returns-clause-names : goal.returns-clause-names
returns-clause-names c =
    let is = any_names-is c.args.self.now.base c.args.label c.args.self.now.lines in
    (λ t. is.0 (sym (result_is c) ∙ t), λ h. result_is c ∙ is.1 h)

pub returns-clause-port : goal.returns-clause-port
returns-clause-port c = result_is c ∙ names_label-is c.args.self.now.base c.args.self.now.lines c.args.label
