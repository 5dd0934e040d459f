use Rattle.std.proofs.Common.{◌≡◌, ◌∙◌, subst, IfOk}
use Rattle.live_config.proofs.Trees.{root_is, plain_some, plain_none}
use Rattle.live_config.proofs.live.Live.plain.Goals as goal

pub returns-in-Some : goal.returns-in-Some
returns-in-Some c = record { ok = subst (λ t. IfOk c.tree.result (λ r. r ≡ t)) (plain_some c.args.self.now.now c.in-Some.root.0 (c.in-Some.ensures ∙ root_is c.args.self.now.now)) c.tree.ensures.ok }

pub returns-in-None : goal.returns-in-None
returns-in-None c = record { ok = c.no_cell.ensures ∙ plain_none c.args.self.now.now (c.in-None.ensures ∙ root_is c.args.self.now.now) }
