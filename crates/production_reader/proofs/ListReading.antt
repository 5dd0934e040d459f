-- How list productions are read.
use Rattle.std.proofs.Common.{◌≡◌, ℕ, ◌+◌, ◌≤◌, Bool, true, false, IsTrue, inl, List, [], ◌∷◌, ◌++◌, length, drop, refl, sym, ap, ◌∙◌, subst, arith}
use Rattle.k_lexer.specs.declared.token.Kind.TheVariants.{Str}
use Rattle.production_reader.specs.Lexemes.{Lexeme, mark, quoted}
use Rattle.production_reader.specs.Written.{one_word}
use Rattle.production_reader.specs.Allowed.{IsSeparator, text_of_string, unescaped, escaped}
use Rattle.production_reader.specs.Heads.{heads, is_mark_of, is_text, Anything, Stands}
use Rattle.production_reader.specs.Items.{IsItemSort, IsList, signs_of_user_list, prod_of_list}
use Rattle.production_reader.specs.Meaning.{attrs_of}
use Rattle.production_reader.specs.Reading.{IsReadAs, StopsAt, Stops}
use Rattle.production_reader.specs.declared.prod.Item.{Item}
use Rattle.production_reader.specs.declared.prod.Item.TheVariants as item
use Rattle.production_reader.specs.declared.prod.Attrs.{Attrs}
use Rattle.production_reader.specs.declared.prod.Form.TheVariants as form
use Rattle.production_reader.specs.declared.stop.Stop.{Stop}
use Rattle.production_reader.specs.declared.stop.Stop.TheVariants.{Expected, Memory}
use Rattle.production_reader.proofs.Leading.{Leads, leads_all, leads_choose, leads_over, leads_stops_first}
use Rattle.production_reader.proofs.Fronts.{is_mark, stands_mark, sign_read, sign_none, sign_bad, text_there, one_sign, leads_sign, leads_no_sign, leads_closed, leads_not_closed}

-- `""` is a separator
empty_string : IsSeparator (text_of_string (34 ∷ 34 ∷ []))
unfolding unescaped escaped
empty_string = inl refl

abbrev pub IsBetween : List ℕ → Type 0
IsBetween string = IsSeparator (text_of_string string)

abbrev pub BetweenThen : List ℕ × Unit {0} → Type 0
BetweenThen p = IsBetween p.0 × Unit {0}

module _ (all : List Lexeme) (from : ℕ) (within : from ≤ length all) where
  list_all : Leads IsList signs_of_user_list (λ p. IsItemSort p.0 × IsBetween p.1) (λ p. one_word p.0 ++ (mark 44 ∷ quoted p.1 ∷ mark 125 ∷ [])) (λ p. p) Anything all from from from
  list_all = leads_all IsList signs_of_user_list Anything all from within

  pub list_no_sort : (stop : Stop) → Stops IsItemSort one_word Anything all from stop → Stops IsList signs_of_user_list Anything all from stop
  list_no_sort Memory stop = tt
  list_no_sort (Expected to) stop =
      leads_stops_first IsList signs_of_user_list IsItemSort one_word (λ s string. IsBetween string) (λ string. mark 44 ∷ quoted string ∷ mark 125 ∷ []) (λ p. p) Anything Anything
      all from from from to list_all stop.order stop (λ z allowed. (34 ∷ 34 ∷ [], empty_string)) (λ z w before after allowed reads ends. tt)

  module _ (sort : List ℕ) (mid : ℕ) (read : IsReadAs IsItemSort one_word Anything (λ s. s) all from sort mid) where
    after_sort : Leads IsList signs_of_user_list IsBetween (λ string. mark 44 ∷ quoted string ∷ mark 125 ∷ []) (λ string. (read.written, string)) Anything all from mid mid
    after_sort =
        leads_over IsList signs_of_user_list IsItemSort one_word (λ s string. IsBetween string) (λ string. mark 44 ∷ quoted string ∷ mark 125 ∷ []) (λ p. p) Anything Anything
        all from from from read.written mid list_all read.read.order read.read (λ z w before after allowed reads ends. tt)

    pub list_no_comma : heads (is_mark_of 44) (drop mid all) ≡ false → StopsAt IsList signs_of_user_list Anything all from mid
    list_no_comma none =
        leads_no_sign IsList signs_of_user_list IsBetween (λ string. mark 44 ∷ quoted string ∷ mark 125 ∷ []) (λ string. quoted string ∷ mark 125 ∷ []) (λ string. (read.written, string)) Anything
        all from mid mid after_sort (omega arith) (mark 44) (λ z allowed. refl) (34 ∷ 34 ∷ []) empty_string (is_mark_of 44) (is_mark 44) none

    module _ (comma : heads (is_mark_of 44) (drop mid all) ≡ true) where
      after_comma : Leads IsList signs_of_user_list BetweenThen (λ p. one_sign Str p.0 ++ mark 125 ∷ []) (λ p. (read.written, p.0)) Anything all from (mid + 1) mid
      after_comma =
          leads_choose IsList signs_of_user_list IsBetween (λ string. quoted string ∷ mark 125 ∷ []) (λ string. (read.written, string)) Anything all from (mid + 1) mid
          (leads_sign IsList signs_of_user_list IsBetween (λ string. mark 44 ∷ quoted string ∷ mark 125 ∷ []) (λ string. quoted string ∷ mark 125 ∷ []) (λ string. (read.written, string)) Anything
          all from mid mid after_sort (omega arith) (mark 44) (λ z allowed. refl) (stands_mark 44 all mid comma))
          BetweenThen (λ p. one_sign Str p.0 ++ mark 125 ∷ []) (λ p. p.0) mid (omega arith) (λ p allowed. (allowed.0, refl))
          (λ other z after alike allowed reads ends. record { left = (z, tt); is = refl; allowed = (allowed, tt); reads = reads })

      within_next : mid + 1 ≤ length all
      within_next = after_comma.within

      lift_stop : StopsAt IsBetween (one_sign Str) Anything all (mid + 1) (mid + 1) → StopsAt IsList signs_of_user_list Anything all from (mid + 1)
      lift_stop stop =
          leads_stops_first IsList signs_of_user_list IsBetween (one_sign Str) (λ z w. Unit {0}) (λ (w : Unit {0}). mark 125 ∷ []) (λ p. (read.written, p.0)) Anything Anything
          all from (mid + 1) mid (mid + 1) after_comma (omega arith) stop (λ z allowed. (tt, tt)) (λ z w before after allowed reads ends. tt)

      pub list_no_string : heads is_text (drop (mid + 1) all) ≡ false → StopsAt IsList signs_of_user_list Anything all from (mid + 1)
      list_no_string none = lift_stop (sign_none Str IsBetween Anything all (mid + 1) (34 ∷ 34 ∷ []) is_text empty_string within_next (λ y l allowed is. text_there y l is) none)

      module _ (string text : List ℕ) (test : Bool) (stands : Stands (quoted string) all (mid + 1)) (is : text ≡ text_of_string string)
          (tells : (IsTrue test → IsSeparator text) × (IsSeparator text → IsTrue test)) where
        pub list_no_separator : test ≡ false → StopsAt IsList signs_of_user_list Anything all from (mid + 1)
        list_no_separator none =
            lift_stop (sign_bad Str IsBetween Anything all (mid + 1) string (34 ∷ 34 ∷ []) empty_string within_next stands
            (λ allowed. let passed = tells.1 (subst IsSeparator (sym is) allowed) in cc))

        module _ (passed : test ≡ true) where
          after_string : Leads IsList signs_of_user_list (λ (w : Unit {0}). Unit {0}) (λ w. mark 125 ∷ []) (λ w. (read.written, string)) Anything all from (mid + 1 + 1) (mid + 1 + 1)
          after_string =
              leads_over IsList signs_of_user_list IsBetween (one_sign Str) (λ z w. Unit {0}) (λ (w : Unit {0}). mark 125 ∷ []) (λ p. (read.written, p.0)) Anything Anything
              all from (mid + 1) mid string (mid + 1 + 1) after_comma (omega arith) (sign_read Str IsBetween Anything all (mid + 1) string (subst IsSeparator is (tells.0 passed)) stands)
              (λ z w before after allowed reads ends. tt)

          pub list_no_brace : heads (is_mark_of 125) (drop (mid + 1 + 1) all) ≡ false → StopsAt IsList signs_of_user_list Anything all from (mid + 1 + 1)
          list_no_brace none =
              leads_not_closed IsList signs_of_user_list (λ w. (read.written, string)) Anything all from (mid + 1 + 1) (mid + 1 + 1) (mark 125) after_string (omega arith) (is_mark_of 125) (is_mark 125) none

          pub list_read : heads (is_mark_of 125) (drop (mid + 1 + 1) all) ≡ true → (items : List Item) → items ≡ item.Sort sort ∷ [] → (attrs : Attrs) → attrs ≡ attrs_of []
              → IsReadAs IsList signs_of_user_list Anything prod_of_list all from (record { items = items; attrs = attrs; form = form.UserList text }) (mid + 1 + 1 + 1)
          list_read closed items one attrs none = record {
            written = (read.written, string);
            read = leads_closed IsList signs_of_user_list (λ w. (read.written, string)) Anything all from (mid + 1 + 1) (mid + 1 + 1) (mark 125) after_string (omega arith)
                (stands_mark 125 all (mid + 1 + 1) closed);
            means = (λ i. record { items = (one ∙ ap (λ s. item.Sort s ∷ []) read.means) i; attrs = none i; form = form.UserList (is i) });
          }
