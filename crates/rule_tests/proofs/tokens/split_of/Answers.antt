use Rattle.rule_tokens.proofs.Whole.{text_tokens}
use Rattle.rule_tests.proofs.tokens.split_of.Goals as goal

pub split_rule-requires-clause-stand : goal.split_rule-requires-clause-stand
split_rule-requires-clause-stand c = (text_tokens c.as_bytes-bytes.result.now c.in_ok-base.base.items c.deref.result.now c.in_ok-base.ensures.ok c.deref.ensures.value).0

pub split_rule-requires-clause-whole : goal.split_rule-requires-clause-whole
split_rule-requires-clause-whole c = (text_tokens c.as_bytes-bytes.result.now c.in_ok-base.base.items c.deref.result.now c.in_ok-base.ensures.ok c.deref.ensures.value).1
