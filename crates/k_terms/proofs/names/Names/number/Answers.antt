use Rattle.std.proofs.Common.{◌≡◌, ap, subst, cond, is_some, ◌++◌, ◌∷◌, [], OnOk}
use Rattle.k_terms.proofs.Words.{numbered}
use Rattle.k_terms.proofs.names.Names.number.Goals as goal

pub returns-in-Some-clause-words : goal.returns-in-Some-clause-words
returns-in-Some-clause-words c = ap (λ o. cond (is_some o) c.args.self.now (c.args.self.now ++ c.args.word.now ∷ [])) c.in-Some.ensures

pub returns-in-None-clause-words : goal.returns-in-None-clause-words
returns-in-None-clause-words c =
    subst (λ words. OnOk c.add.result (c.add.new.self ≡ words)) (ap (λ o. cond (is_some o) c.args.self.now (c.args.self.now ++ c.args.word.now ∷ [])) c.in-None.ensures) c.add.ensures.words

pub returns-in-None-clause-number : goal.returns-in-None-clause-number
returns-in-None-clause-number c = numbered _ _ _ _ c.in-None.ensures c.add.ensures.words c.add.ensures.number
