use Rattle.k_terms.proofs.Words.{words_pushed}
use Rattle.k_terms.proofs.names.Names.add.Goals as goal

pub returns-clause-words : goal.returns-clause-words
returns-clause-words c = words_pushed _ _ _ _ _ c.self.view_is c.requires c.in_ok-owned.ensures.ok c.in_ok-insert.ensures.keys
