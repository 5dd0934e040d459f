use Rattle.std.proofs.Common.{subst, None}
use Rattle.std.specs.Prelude.{codes}
use Rattle.memchr.specs.Find.{FindsNeedle}
use Rattle.k_lexer.proofs.front.block_comment_size.Goals as goal

pub returns-in_default : goal.returns-in_default
returns-in_default c = (c.requires, subst (λ t. FindsNeedle t (codes "*/") 0 None) c.split_at.ensures.back c.in_default.ensures)
