-- Why there is no text to write.
use Rattle.rt_run.specs.declared.no_text.NoText.{NoText}
use Rattle.rt_run.specs.declared.no_text.NoText.TheVariants.{Refused, Memory}
use Rattle.rt_run.specs.declared.refusal.Refusal.{Refusal}

-- what it would be made of is refused so; memory may always run out
abbrev pub IsNoText : (Refusal → Type 0) → NoText → Type 0
IsNoText Refuses (Refused refusal) = Refuses refusal
IsNoText Refuses Memory = Unit {0}
