-- What is in range in a report by the types of its parts.
use Rattle.std.specs.Prelude.{All}
use Rattle.rt_lines.specs.declared.line.Line.{Line}
use Rattle.rt_lines.specs.declared.line.Line.TheVariants.{Var, Same, Sub, Low, Up}
use Rattle.rt_texts.specs.Goods.{IsDtv, IsNumber}
use Rattle.rt_scheme.specs.declared.report.Entry.{Entry}
use Rattle.rt_scheme.specs.NameReadings.{AreBytes}
use Rattle.rt_reports.specs.GoodReports.{IsPlace}

-- the line's variables are such as have texts
abbrev pub HasGoodSides : Line → Type 0
HasGoodSides (Var x) = IsDtv x
HasGoodSides (Same x y) = IsDtv x × IsDtv y
HasGoodSides (Sub x y) = IsDtv x × IsDtv y
HasGoodSides (Low k x) = IsDtv x
HasGoodSides (Up x k) = IsDtv x

-- an entry of a report, whatever the constants of its lines
pub record HasGoodParts (entry : Entry) : Type 0 where
  pub number : IsNumber entry.number
  pub place : IsPlace entry.place
  pub name : AreBytes entry.name
  pub lines : All HasGoodSides entry.lines
