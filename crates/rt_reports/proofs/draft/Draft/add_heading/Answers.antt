use Rattle.std.proofs.Common.{Some, inr, refl, ap}
use Rattle.rt_reports.proofs.Drafts.{made}
use Rattle.rt_reports.proofs.Listings.{not_so, draft_begun}
use Rattle.rt_reports.proofs.draft.Draft.add_heading.Goals as goal

pub returns-then-not-may_begin : goal.returns-then-not-may_begin
returns-then-not-may_begin c = inr (refl, not_so (c.if-not-may_begin.ensures c.args.place c.args.name))

pub returns : goal.returns
returns c =
    let d = c.args.self.now in
    let allowed = (c.may_begin.ensures c.args.place c.args.name).0 c.if-not-may_begin.false in (
      allowed,
      ap (λ lines. made d.listed.globals d.entries (Some (record { number = c.args.number; place = c.args.place; name = c.args.name; lines = lines }))) c.new-lines.ensures,
      record {
        listing = c.requires.listing;
        drafted = draft_begun d.entries d.unfinished d.named d.least c.from.result (record { number = c.args.number; place = c.args.place; name = c.args.name; lines = c.new-lines.result }) allowed.0 c.requires.drafted
            c.new-lines.ensures c.from.ensures;
      },
    )
