-- What is known of a variable with a word more.
use Rattle.std.proofs.Common.{◌≡◌, List, sym}
use Rattle.std.proofs.lemmas.Grind.{fold-append}
use Rattle.rt_lines.specs.declared.label.Label.{Label}
use Rattle.rt_lines.specs.declared.variable.Dtv.{Dtv}
use Rattle.rt_lines.proofs.Signs.{variance_of_word-append}
use Rattle.rt_rules.specs.Rules.{extended}
use Rattle.rt_polar.specs.Inside.Digests.{base_code, followed, summary, with_letter}

pub summary-followed : (z : Dtv) (w : List Label) → followed (summary z) w ≡ summary (extended z w)
summary-followed z w = (λ i. record { digest = sym (fold-append with_letter (base_code z.base) z.word w) i; variance = sym (variance_of_word-append z.word w) i })
