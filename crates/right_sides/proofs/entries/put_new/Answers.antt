use Rattle.std.proofs.Common.{◌∙◌}
use Rattle.rule_terms.specs.Fill.{put_new}
use Rattle.right_sides.proofs.NewEntries.{put_stops, put_goes_on}
use Rattle.right_sides.proofs.entries.put_new.Goals as goal

pub returns-then-not-branch : goal.returns-then-not-branch
returns-then-not-branch c =
    put_stops (put_new c.into_vec-news.result.items c.into_vec-entries.result.items) c.loop-entry.news.items c.pop.new.self.items c.in-Some.entry c.loop-entry.entries.items c.put_entry.new.entries.items
    c.in_ok-put_entry.field-0 c.loop-entry.invariant c.in-Some.ensures.items c.in_ok-put_entry.ensures c.if-not-branch.true
    ∙ (λ k. put_new (c.into_vec-news.ensures k) (c.into_vec-entries.ensures k))

pub loop-entry-preserved : goal.loop-entry-preserved
loop-entry-preserved c =
    put_goes_on (put_new c.into_vec-news.result.items c.into_vec-entries.result.items) c.loop-entry.news.items c.pop.new.self.items c.in-Some.entry c.loop-entry.entries.items c.put_entry.new.entries.items
    c.in_ok-put_entry.field-0 c.loop-entry.invariant c.in-Some.ensures.items c.in_ok-put_entry.ensures c.if-not-branch.false
