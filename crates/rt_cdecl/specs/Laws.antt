-- The law of texts.
use Rattle.std.specs.Prelude.{◌≡◌}
use Rattle.rt_cdecl.specs.declared.declarations.Decls.{Decls}
use Rattle.rt_cdecl.specs.Texts.{decls_text}
use Rattle.rt_cdecl.specs.GoodDecls.{IsGoodDecls}

-- a text is that of one list of declarations alone
abbrev pub OneHeader : Type 0
OneHeader = (first second : Decls) → IsGoodDecls first → IsGoodDecls second → decls_text first ≡ decls_text second →
    first ≡ second
