use Rattle.std.proofs.Common.{subst, List}
use Rattle.std.proofs.lemmas.Result.{on_ok_weaker}
use Rattle.rt_lines.specs.declared.label.Loc.{Loc}
use Rattle.rt_cdecl.specs.declared.declarations.CType.{CType}
use Rattle.rt_cdecl.specs.Inside.Drafts.{line_types}
use Rattle.rt_cdecl.specs.Inside.Endings.{Drops}
use Rattle.rt_cdecl.proofs.Moved.{function_is}
use Rattle.rt_cdecl.proofs.draft.Draft.add_function.Goals as goal

pub returns : goal.returns
returns c =
    on_ok_weaker c.push.result
    (λ grown. (
      function_is c.args.self.now.typedefs c.args.self.now.named c.args.self.now.structs c.args.self.now.functions c.args.self.now.stage
          c.args.returns c.args.number c.args.args c.replace-stage.result c.function_of.result c.push.new.self _ c.replace-stage.ensures.value c.replace-stage.ensures.after c.function_of.ensures grown,
      subst (λ (given : List (Loc × CType)). Drops c.args.self.now.left (line_types c.args.returns given) c.use_function.new.left) c.items.ensures c.use_function.ensures,
    ))
    c.push.ensures
