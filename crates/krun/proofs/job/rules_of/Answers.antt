use Rattle.std.proofs.Common.{arith, ◌≡◌, map, string_bytes, unwrap_or, [], ◌∙◌, sym, ap, length, codes}
use Rattle.std.proofs.lemmas.Grind.{common_steps}
use Rattle.std.proofs.lemmas.List.{length-map}
use Rattle.std.proofs.lemmas.Option.{slice_get-map, slice_get_read}
use Rattle.std.specs.Option.{option_map}
use Rattle.std.specs.Cmp.Lexicographic.{same_text}
use Rattle.krun.specs.Headline.{word_at}
use Rattle.krun.proofs.Asking.{not_asked}
use Rattle.krun.proofs.job.rules_of.Goals as goal

pub returns-then-eq-clause-job : goal.returns-then-eq-clause-job
returns-then-eq-clause-job c =
    let words = c.args.words.now in
    let three : length words ≡ 3 = grind (arith, common_steps) in
    let is : word_at (map string_bytes words) 1 ≡ c.as_str.result.now =
    ap (λ o. unwrap_or o []) (slice_get-map string_bytes words 1 ∙ ap (option_map string_bytes) (slice_get_read words 3 1 c.mode-item.result (sym three) (grind (arith, common_steps)) c.mode-item.is)) ∙ sym c.as_str.ensures.value in
    record {
      all = length-map words string_bytes ∙ three;
      mode_is = is ∙ same_text _ _ c.if-eq.ensures;
    }

pub returns-clause-none : goal.returns-clause-none
returns-clause-none c =
    let words = c.args.words.now in
    let three : length words ≡ 3 = grind (arith, common_steps) in
    let is : word_at (map string_bytes words) 1 ≡ c.as_str.result.now =
    ap (λ o. unwrap_or o []) (slice_get-map string_bytes words 1 ∙ ap (option_map string_bytes) (slice_get_read words 3 1 c.mode-item.result (sym three) (grind (arith, common_steps)) c.mode-item.is)) ∙ sym c.as_str.ensures.value in
    not_asked (map string_bytes words) (codes "rules") c.as_str.result.now 1 is c.if-eq.ensures
