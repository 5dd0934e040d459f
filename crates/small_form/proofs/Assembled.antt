-- A definition from its parts, as they are read one after another.
use Rattle.std.proofs.Common.{ℕ, List, [], ◌∷◌, ◌++◌, ◌<◌, ◌≤◌, length, map, sym, subst, append_assoc}
use Rattle.std.specs.Prelude.{IsTrue, codes}
use Rattle.std.specs.List.{list_all, AllByRecursion}
use Rattle.small_form.specs.declared.small.Production.{Production}
use Rattle.small_form.specs.declared.small.SmallRule.{SmallRule}
use Rattle.small_form.specs.Pieces.{is_blank, is_word, Reads}
use Rattle.small_form.specs.Small.{is_label, is_sort, separated, are_different, labels_of, head_pieces, production_pieces, configuration_pieces, rules_pieces, IsSmallRule, IsSmallText, definition_limit}
use Rattle.small_form.proofs.ReadsLemmas.{Reads-append}

pub small_text : (text name sort : List ℕ) (ps : List Production) (rs : List SmallRule) (b c d e : List ℕ)
    → length text ≤ definition_limit → IsTrue (is_word name) → IsTrue (is_sort sort) → 0 < length ps → IsTrue (list_all is_label (labels_of ps))
    → IsTrue (are_different (labels_of ps)) → AllByRecursion (IsSmallRule ps) rs
    → Reads (head_pieces name sort) text b → Reads (separated (codes "|") (map (production_pieces sort) ps)) b c
    → Reads (configuration_pieces sort) c d → Reads (rules_pieces (labels_of ps) sort rs ++ codes "endmodule" ∷ []) d e → IsTrue (list_all is_blank e)
    → IsSmallText text (record { name = name; sort = sort; productions = ps; rules = rs })
small_text text name sort ps rs b c d e short word is_a_sort some labels different small head productions configuration rules blanks =
    let front = head_pieces name sort ++ separated (codes "|") (map (production_pieces sort) ps) ++ configuration_pieces sort in
    let before : Reads front text d =
    Reads-append (head_pieces name sort ++ separated (codes "|") (map (production_pieces sort) ps)) (configuration_pieces sort) text c d
    (Reads-append (head_pieces name sort) (separated (codes "|") (map (production_pieces sort) ps)) text b c head productions) configuration in
    let all : Reads (front ++ (rules_pieces (labels_of ps) sort rs ++ codes "endmodule" ∷ [])) text e =
    Reads-append front (rules_pieces (labels_of ps) sort rs ++ codes "endmodule" ∷ []) text d e before rules in
    record {
      short = short;
      small = record { name = word; sort = is_a_sort; some = some; labels = labels; different = different; rules = small };
      spelled = (e, subst (λ pieces. Reads pieces text e) (sym (append_assoc front (rules_pieces (labels_of ps) sort rs) (codes "endmodule" ∷ []))) all, blanks);
    }
