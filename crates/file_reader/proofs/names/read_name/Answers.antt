use Rattle.std.proofs.Common.{◌≡◌, ℕ, ◌+◌, ◌<◌, append-nil, List, [], ◌∷◌, ◌++◌, sym, ap, subst, ◌∙◌, arith, drop, length}
use Rattle.production_reader.specs.Lexemes.{joined_word, joined_mark}
use Rattle.file_reader.specs.Heads.{Begins}
use Rattle.file_reader.proofs.Heads.{begins_within, no_true}
use Rattle.file_reader.proofs.Naming.{IsNaming, naming_first, naming_more, name_read, name_stops, no_first, text_of_name-more, ends_here}
use Rattle.file_reader.specs.Written.{signs_of_name}
use Rattle.file_reader.specs.Files.{IsName, EndsName}
use Rattle.production_reader.specs.Reading.{StopsAt}
use Rattle.file_reader.proofs.names.read_name.Goals as goal

pub returns-in_default-clause-read : goal.returns-in_default-clause-read
returns-in_default-clause-read c = no_first c.args.source.now c.args.from c.requires c.in_default.ensures

pub dashes-init : goal.dashes-init
dashes-init c = record {
  words = c.in-Some.first.now ∷ [];
  naming = subst (λ n. IsNaming c.args.source.now c.args.from (c.in-Some.first.now ∷ []) n) (sym c.past-at.ensures) (naming_first c.args.source.now c.args.from c.in-Some.first.now c.in-Some.ensures);
  text_is = c.in-Ok.ensures.items ∙ sym (append-nil c.in-Some.first.now);
}

pub returns-in_default-joined_word_at-clause-read : goal.returns-in_default-joined_word_at-clause-read
returns-in_default-joined_word_at-clause-read c =
    let none : (bytes : List ℕ) → Begins (joined_word bytes) (drop (c.dashes.at + 1) c.args.source.now) → ⊥ =
    λ bytes is. c.in_default-joined_word_at.ensures bytes (subst (λ n. Begins (joined_word bytes) (drop n c.args.source.now)) (sym c.past-after.ensures) is) in
    subst (λ n. StopsAt IsName signs_of_name EndsName c.args.source.now c.args.from n) (sym c.past-after.ensures)
    (name_stops c.args.source.now c.args.from c.dashes.invariant.words c.dashes.at c.dashes.invariant.naming (c.has_dash.ensures.0 c.dashes-test.true) none)

pub dashes-smaller : goal.dashes-smaller
dashes-smaller c =
    let below : c.dashes.at < length c.args.source.now = begins_within (joined_mark 45) c.args.source.now c.dashes.at (c.has_dash.ensures.0 c.dashes-test.true) in
    let after : c.past-after.result ≡ c.dashes.at + 1 = c.past-after.ensures in
    let next : c.past-at-in-dashes.result ≡ c.past-after.result + 1 = c.past-at-in-dashes.ensures in
    omega arith

pub dashes-preserved : goal.dashes-preserved
dashes-preserved c =
    let dash = c.has_dash.ensures.0 c.dashes-test.true in
    let is : Begins (joined_word c.in-Some-joined_word_at.next.now) (drop (c.dashes.at + 1) c.args.source.now) =
    subst (λ n. Begins (joined_word c.in-Some-joined_word_at.next.now) (drop n c.args.source.now)) c.past-after.ensures c.in-Some-joined_word_at.ensures in
    let next : c.past-at-in-dashes.result ≡ c.dashes.at + 2 = c.past-at-in-dashes.ensures ∙ ap (λ n. n + 1) c.past-after.ensures ∙ omega arith in
    record {
      words = c.dashes.invariant.words ++ c.in-Some-joined_word_at.next.now ∷ [];
      naming = subst (λ n. IsNaming c.args.source.now c.args.from (c.dashes.invariant.words ++ c.in-Some-joined_word_at.next.now ∷ []) n) (sym next)
          (naming_more c.args.source.now c.args.from c.dashes.invariant.words c.dashes.at c.in-Some-joined_word_at.next.now c.dashes.invariant.naming dash is);
      text_is = c.in-Ok-add_word.ensures
          ∙ ap (λ t. t ++ 45 ∷ c.in-Some-joined_word_at.next.now) c.dashes.invariant.text_is
          ∙ sym (text_of_name-more c.dashes.invariant.words c.in-Some-joined_word_at.next.now c.dashes.invariant.naming.named);
    }

pub returns-clause-read : goal.returns-clause-read
returns-clause-read c = record {
  written = c.dashes.invariant.words;
  read = name_read c.args.source.now c.args.from c.dashes.invariant.words c.dashes.at c.dashes.invariant.naming
      (λ is. no_true (sym c.dashes-test.false ∙ c.has_dash.ensures.1 is));
  means = c.from_vec.ensures ∙ c.dashes.invariant.text_is;
}

pub returns-clause-ended : goal.returns-clause-ended
returns-clause-ended c = ends_here (drop c.dashes.at c.args.source.now) (λ is. no_true (sym c.dashes-test.false ∙ c.has_dash.ensures.1 is))
