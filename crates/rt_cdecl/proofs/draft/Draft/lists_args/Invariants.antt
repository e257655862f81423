use Rattle.std.proofs.Common.{All, take}
use Rattle.rt_lines.specs.declared.label.Loc.{Loc}
use Rattle.rt_cdecl.specs.declared.declarations.CType.{CType}
use Rattle.rt_cdecl.specs.Inside.Drafts.{IsListed}
use Rattle.rt_cdecl.specs.Inside.Steps.{parts_of}
use Rattle.rt_cdecl.proofs.draft.Draft.lists_args.Given as goal

abbrev pub invariant-loop-kind : goal.invariant-loop-kind
invariant-loop-kind l = All (λ (arg : Loc × CType). IsListed (parts_of l.self) arg.1) (take l.kind-index l.args)
