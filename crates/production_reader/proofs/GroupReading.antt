-- How the groups of productions are read.
use Rattle.std.proofs.Common.{◌≡◌, ℕ, ◌+◌, ◌≤◌, Bool, true, false, ◌||◌, not, List, [], ◌∷◌, ◌++◌, length, drop, map, Option, Some, None, refl, sym, ap, ◌∙◌, subst, arith}
use Rattle.std.specs.Prelude.{codes}
use Rattle.std.specs.List.{AllByRecursion}
use Rattle.std.proofs.Math.Bool.{or-true}
use Rattle.production_reader.specs.Lexemes.{Lexeme, Reads, mark}
use Rattle.production_reader.specs.Written.{Production, signs_of_production, signs_of_group, signs_of_groups}
use Rattle.production_reader.specs.Written.Part.{SortPart}
use Rattle.production_reader.specs.Written.Production.{Plain, Prefix, UserList}
use Rattle.production_reader.specs.Allowed.{AreProductions, AreGroups, EndsSentence, in_groups, is_empty, is_list, may_join, same_text, is_word_among, sentence_words}
use Rattle.production_reader.specs.Chains.{Chain, state}
use Rattle.production_reader.specs.Heads.{heads, is_mark_of, ends_group, ends_production, Begin}
use Rattle.production_reader.specs.Meaning.{prod_of, groups_of}
use Rattle.production_reader.specs.Next.{IsNext, IsGroup, AreSome, Goes, after_one, after_group, signs_of_some, is_closed, is_list_prod, had_after_prods}
use Rattle.production_reader.specs.Reading.{IsRead, IsReadAs, StopsAt, Stops}
use Rattle.production_reader.specs.declared.prod.Prod.{Prod}
use Rattle.production_reader.specs.declared.stop.Stop.{Stop}
use Rattle.production_reader.specs.declared.stop.Stop.TheVariants.{Expected, Memory}
use Rattle.production_reader.proofs.Leading.{Leads, Rest, leads_all, leads_choose, leads_read, leads_stops, leads_done}
use Rattle.production_reader.proofs.Fronts.{heads_alike, heads_apart, heads_more, reads_heads, is_mark, stands_mark, leads_sign, leads_no_sign, bar_apart, more_apart}
use Rattle.production_reader.proofs.Gathering.{Awaits, Gathered, gather_begins, gather_read, gather_stops, gather_mark, gather_ends, gather_closed}
use Rattle.production_reader.proofs.ProductionReading.{plain_joins}

-- ---- the productions of a group

list_prod : (x : Production) → is_list x ≡ is_list_prod (prod_of x)
list_prod (Plain ps w) = refl
list_prod (Prefix name sorts w) = refl
list_prod (UserList s string) = refl

after_is : (had : Option Bool) (xs : List Production) → had_after_prods had (map prod_of xs) ≡ state after_one had xs
after_is had [] = refl
after_is had (x ∷ xs) = ap (λ b. had_after_prods (Some b) (map prod_of xs)) (sym (list_prod x)) ∙ after_is (Some (is_list x)) xs

pub goes_on : Goes (Some false)
goes_on same = cc

pub open_goes : (had : Option Bool) → is_closed had ≡ false → Goes had
open_goes had none same = let e : is_closed had ≡ true = ap is_closed same in cc

pub closed_is : (had : Option Bool) → is_closed had ≡ true → had ≡ Some true
closed_is None closed = absurd (cc)
closed_is (Some b) closed = ap Some closed

bar_ends : (l : Lexeme) → is_mark_of 124 l ≡ true → ends_production l ≡ true
bar_ends l here = ap (λ t. t || ends_group l) here

group_ends : (l : Lexeme) → ends_group l ≡ true → ends_production l ≡ true
group_ends l here = ap (λ t. is_mark_of 124 l || t) here ∙ or-true (is_mark_of 124 l)

more_ends : (l : Lexeme) → is_mark_of 62 l ≡ true → ends_group l ≡ true
more_ends l here = ap (λ t. t || is_word_among sentence_words l) here

sentence_ends : (l : Lexeme) → is_word_among sentence_words l ≡ true → ends_group l ≡ true
sentence_ends l here = ap (λ t. is_mark_of 62 l || t) here ∙ or-true (is_mark_of 62 l)

module _ (sort : List ℕ) (had : Option Bool) (all : List Lexeme) (from : ℕ) where
  abbrev pub GroupAwaits : Option Bool → List Prod → ℕ → Type 0
  GroupAwaits now found at = Awaits (IsNext sort) after_one signs_of_production 124 ends_group (Begin ends_production) prod_of had all from now found at

  abbrev pub GroupRead : Option Bool → List Prod → ℕ → Type 0
  GroupRead now found at = Gathered (IsNext sort) after_one signs_of_production 124 ends_group (Begin ends_production) prod_of had all from now found at

  pub group_begins : (found : List Prod) → found ≡ [] → from ≤ length all → GroupAwaits had found from
  group_begins found none within =
      subst (λ t. GroupAwaits had t from) (sym none) (gather_begins (IsNext sort) after_one signs_of_production 124 ends_group (Begin ends_production) prod_of had all from within)

  no_bar : (ls : List Lexeme) → Begin ends_group ls → heads (is_mark_of 124) ls ≡ false
  no_bar ls ends = heads_apart ends_group (is_mark_of 124) ls bar_apart ends

  at_bar : (ls : List Lexeme) → heads (is_mark_of 124) ls ≡ true → Begin ends_production ls
  at_bar ls here = heads_more (is_mark_of 124) ends_production ls bar_ends here

  at_end : (ls : List Lexeme) → Begin ends_group ls → Begin ends_production ls
  at_end ls here = heads_more ends_group ends_production ls group_ends here

  module _ (now : Option Bool) (found : List Prod) (at : ℕ) (before : GroupAwaits now found at) where
    pub group_stops : (stop : Stop) → Stops (IsNext sort now) signs_of_production (Begin ends_production) all at stop → Stops (IsGroup sort had) signs_of_group (Begin ends_group) all from stop
    group_stops stop none =
        gather_stops (IsNext sort) after_one signs_of_production 124 ends_group (Begin ends_production) prod_of had all from no_bar at_bar at_end now found at before stop none

    module _ (v : Prod) (to : ℕ) (read : IsReadAs (IsNext sort now) signs_of_production (Begin ends_production) prod_of all at v to) (more : List Prod) (is : more ≡ found ++ v ∷ [])
        (last : Bool) (tells : last ≡ is_list_prod v) where
      gathered : GroupRead (Some last) more to
      gathered =
          subst (λ t. GroupRead (Some last) t to) (sym is)
          (gather_read (IsNext sort) after_one signs_of_production 124 ends_group (Begin ends_production) prod_of had all from no_bar at_bar at_end now (Some last) found at before v to read
          (λ x means. ap Some (tells ∙ ap is_list_prod means ∙ sym (list_prod x))))

      pub group_closed : last ≡ true → IsReadAs (IsGroup sort had) signs_of_group (Begin ends_group) (map prod_of) all from more to
      group_closed closed =
          gather_closed (IsNext sort) after_one signs_of_production 124 ends_group (Begin ends_production) prod_of had all from (Some true) more to
          (subst (λ b. GroupRead (Some b) more to) closed gathered) (λ x allowed. let e : false ≡ true = allowed.1 in cc)

      pub group_done : heads (is_mark_of 124) (drop to all) ≡ false → IsReadAs (IsGroup sort had) signs_of_group (Begin ends_group) (map prod_of) all from more to
      group_done none = gather_ends (IsNext sort) after_one signs_of_production 124 ends_group (Begin ends_production) prod_of had all from (Some last) more to gathered none

      pub group_goes : last ≡ false → heads (is_mark_of 124) (drop to all) ≡ true → GroupAwaits (Some last) more (to + 1) × Goes (Some last)
      group_goes other here = (
        gather_mark (IsNext sort) after_one signs_of_production 124 ends_group (Begin ends_production) prod_of had all from no_bar at_bar at_end (Some last) more to gathered here,
        subst (λ b. Goes (Some b)) (sym other) goes_on,
      )

-- ---- groups

module _ (sort : List ℕ) (had : Option Bool) (all : List Lexeme) (from : ℕ) where
  abbrev pub SomeAwait : Option Bool → List (List Prod) → ℕ → Type 0
  SomeAwait now found at = Awaits (IsGroup sort) after_group signs_of_group 62 (is_word_among sentence_words) (Begin ends_group) (map prod_of) had all from now found at

  abbrev pub SomeRead : Option Bool → List (List Prod) → ℕ → Type 0
  SomeRead now found at = Gathered (IsGroup sort) after_group signs_of_group 62 (is_word_among sentence_words) (Begin ends_group) (map prod_of) had all from now found at

  pub some_begin : (found : List (List Prod)) → found ≡ [] → from ≤ length all → SomeAwait had found from
  some_begin found none within =
      subst (λ t. SomeAwait had t from) (sym none)
      (gather_begins (IsGroup sort) after_group signs_of_group 62 (is_word_among sentence_words) (Begin ends_group) (map prod_of) had all from within)

  no_more : (ls : List Lexeme) → Begin (is_word_among sentence_words) ls → heads (is_mark_of 62) ls ≡ false
  no_more ls ends = heads_apart (is_word_among sentence_words) (is_mark_of 62) ls (more_apart 62) ends

  at_more : (ls : List Lexeme) → heads (is_mark_of 62) ls ≡ true → Begin ends_group ls
  at_more ls here = heads_more (is_mark_of 62) ends_group ls more_ends here

  at_sentence : (ls : List Lexeme) → Begin (is_word_among sentence_words) ls → Begin ends_group ls
  at_sentence ls here = heads_more (is_word_among sentence_words) ends_group ls sentence_ends here

  module _ (now : Option Bool) (found : List (List Prod)) (at : ℕ) (before : SomeAwait now found at) where
    pub some_stop : (stop : Stop) → Stops (IsGroup sort now) signs_of_group (Begin ends_group) all at stop → Stops (AreSome sort had) signs_of_some (Begin (is_word_among sentence_words)) all from stop
    some_stop stop none =
        gather_stops (IsGroup sort) after_group signs_of_group 62 (is_word_among sentence_words) (Begin ends_group) (map prod_of) had all from no_more at_more at_sentence now found at before stop none

    module _ (v : List Prod) (to : ℕ) (read : IsReadAs (IsGroup sort now) signs_of_group (Begin ends_group) (map prod_of) all at v to) (more : List (List Prod)) (is : more ≡ found ++ v ∷ [])
        (later : Option Bool) (tells : later ≡ had_after_prods now v) where
      gathered_some : SomeRead later more to
      gathered_some =
          subst (λ t. SomeRead later t to) (sym is)
          (gather_read (IsGroup sort) after_group signs_of_group 62 (is_word_among sentence_words) (Begin ends_group) (map prod_of) had all from no_more at_more at_sentence now later found at before v to read
          (λ x means. tells ∙ ap (λ t. had_after_prods now t) means ∙ after_is now x))

      none_next : (g : List Production) → IsGroup sort (Some true) g → ⊥
      none_next [] allowed = let e = allowed.0 in cc
      none_next (p ∷ ps) allowed = let e : false ≡ true = allowed.1.0.1 in cc

      pub some_closed : is_closed later ≡ true → IsReadAs (AreSome sort had) signs_of_some (Begin (is_word_among sentence_words)) groups_of all from more to
      some_closed closed =
          gather_closed (IsGroup sort) after_group signs_of_group 62 (is_word_among sentence_words) (Begin ends_group) (map prod_of) had all from (Some true) more to
          (subst (λ h. SomeRead h more to) (closed_is later closed) gathered_some) none_next

      pub some_done : heads (is_mark_of 62) (drop to all) ≡ false → IsReadAs (AreSome sort had) signs_of_some (Begin (is_word_among sentence_words)) groups_of all from more to
      some_done none = gather_ends (IsGroup sort) after_group signs_of_group 62 (is_word_among sentence_words) (Begin ends_group) (map prod_of) had all from later more to gathered_some none

      pub some_go : is_closed later ≡ false → heads (is_mark_of 62) (drop to all) ≡ true → SomeAwait later more (to + 1) × Goes later
      some_go other here = (
        gather_mark (IsGroup sort) after_group signs_of_group 62 (is_word_among sentence_words) (Begin ends_group) (map prod_of) had all from no_more at_more at_sentence later more to gathered_some here,
        open_goes later other,
      )

-- ---- the whole

module _ (sort : List ℕ) where
  split_group : (had : Option Bool) (g rest : List Production) → AreProductions sort had (g ++ rest) → Chain (IsNext sort) after_one had g × AreProductions sort (state after_one had g) rest
  split_group had [] rest allowed = (tt, allowed)
  split_group had (p ∷ g) rest allowed =
      let more = split_group (Some (is_list p)) g rest allowed.3 in (((allowed.0, allowed.1, allowed.2), more.0), more.1)

  join_group : (had : Option Bool) (g rest : List Production) → Chain (IsNext sort) after_one had g → AreProductions sort (state after_one had g) rest → AreProductions sort had (g ++ rest)
  join_group had [] rest chain allowed = allowed
  join_group had (p ∷ g) rest chain allowed = (chain.0.0, chain.0.1, chain.0.2, join_group (Some (is_list p)) g rest chain.1 allowed)

  to_chain : (had : Option Bool) (gs : List (List Production)) → AllByRecursion (λ g. is_empty g ≡ false) gs → AreProductions sort had (in_groups gs) → Chain (IsGroup sort) after_group had gs
  to_chain had [] each allowed = tt
  to_chain had (g ∷ gs) each allowed =
      let parts = split_group had g (in_groups gs) allowed in ((each.0, parts.0), to_chain (state after_one had g) gs each.1 parts.1)

  chain_each : (had : Option Bool) (gs : List (List Production)) → Chain (IsGroup sort) after_group had gs → AllByRecursion (λ g. is_empty g ≡ false) gs
  chain_each had [] chain = tt
  chain_each had (g ∷ gs) chain = (chain.0.0, chain_each (state after_one had g) gs chain.1)

  chain_all : (had : Option Bool) (gs : List (List Production)) → Chain (IsGroup sort) after_group had gs → AreProductions sort had (in_groups gs)
  chain_all had [] chain = tt
  chain_all had (g ∷ gs) chain = join_group had g (in_groups gs) chain.0.1 (chain_all (state after_one had g) gs chain.1)

sentence_begins : (ls : List Lexeme) → EndsSentence ls → Begin (is_word_among sentence_words) ls
sentence_begins [] ends = absurd ends
sentence_begins (l ∷ ls) ends = ends

module _ (sort : List ℕ) (had : Option Bool) (all : List Lexeme) (from : ℕ) (within : from ≤ length all) where
  groups_all : Leads (AreGroups sort had) signs_of_groups (AreGroups sort had) signs_of_groups (λ z. z) EndsSentence all from from from
  groups_all = leads_all (AreGroups sort had) signs_of_groups EndsSentence all from within

  closed_none : (w : List (List Production)) (before after : List Lexeme) → had ≡ Some true → AreGroups sort had w → Reads (signs_of_groups w) before after → (w ≡ []) × (after ≡ before)
  closed_none [] before after closed allowed reads = (refl, sym reads)
  closed_none ([] ∷ gs) before after closed allowed reads = absurd (let e = allowed.0.0 in cc)
  closed_none ((p ∷ ps) ∷ gs) before after closed allowed reads =
      let joins : may_join had p ≡ true = allowed.1.1 in
      let e : false ≡ true = subst (λ h. may_join h p ≡ true) closed joins in absurd (cc)

  -- a list production stands before
  pub closed_read : is_closed had ≡ true → IsRead (AreGroups sort had) signs_of_groups EndsSentence all from [] from
  closed_read closed =
      leads_done (AreGroups sort had) signs_of_groups (AreGroups sort had) signs_of_groups (λ z. z) EndsSentence all from from from groups_all [] (tt, tt) refl (omega arith)
      (λ other w after alike allowed reads ends. closed_none w (drop from other) after (closed_is had closed) allowed reads)

  colon_none : (w : List (List Production)) (before after : List Lexeme) → heads (is_mark_of 58) before ≡ false → Reads (signs_of_groups w) before after → (w ≡ []) × (after ≡ before)
  colon_none [] before after none reads = (refl, sym reads)
  colon_none (g ∷ gs) before after none reads =
      let there = reads_heads (is_mark_of 58) (mark 58) (mark 58 ∷ mark 61 ∷ signs_of_some (g ∷ gs)) before after (is_mark 58) reads in absurd (cc)

  -- there are none
  pub none_read : heads (is_mark_of 58) (drop from all) ≡ false → IsRead (AreGroups sort had) signs_of_groups EndsSentence all from [] from
  none_read none =
      leads_done (AreGroups sort had) signs_of_groups (AreGroups sort had) signs_of_groups (λ z. z) EndsSentence all from from from groups_all [] (tt, tt) refl (omega arith)
      (λ other w after alike allowed reads ends. colon_none w (drop from other) after (heads_alike (is_mark_of 58) from other all alike ∙ none) reads)

  module _ (goes : Goes had) (colon : heads (is_mark_of 58) (drop from all) ≡ true) where
    some_given : (w : List (List Production)) → AreSome sort had w → AreGroups sort had w × (signs_of_groups w ≡ mark 58 ∷ mark 58 ∷ mark 61 ∷ signs_of_some w)
    some_given [] allowed = absurd (let e = allowed.0 in cc)
    some_given (g ∷ gs) allowed = ((chain_each sort had (g ∷ gs) allowed.1, chain_all sort had (g ∷ gs) allowed.1), refl)

    some_taken : (w : List (List Production)) (before after : List Lexeme) → heads (is_mark_of 58) before ≡ true → AreGroups sort had w → Reads (signs_of_groups w) before after → EndsSentence after
        → Rest (AreSome sort had) (λ z. mark 58 ∷ mark 58 ∷ mark 61 ∷ signs_of_some z) (λ z. z) before w after
    some_taken [] before after here allowed reads ends =
        let none = heads_apart (is_word_among sentence_words) (is_mark_of 58) before (more_apart 58) (subst (λ t. Begin (is_word_among sentence_words) t) (sym reads) (sentence_begins after ends)) in absurd (cc)
    some_taken (g ∷ gs) before after here allowed reads ends =
        record { left = g ∷ gs; is = refl; allowed = (refl, to_chain sort had (g ∷ gs) allowed.0 allowed.1); reads = reads }

    colon_leads : Leads (AreGroups sort had) signs_of_groups (AreSome sort had) (λ z. mark 58 ∷ mark 61 ∷ signs_of_some z) (λ z. z) EndsSentence all from (from + 1) from
    colon_leads =
        leads_sign (AreGroups sort had) signs_of_groups (AreSome sort had) (λ z. mark 58 ∷ mark 58 ∷ mark 61 ∷ signs_of_some z) (λ z. mark 58 ∷ mark 61 ∷ signs_of_some z) (λ z. z) EndsSentence all from from from
        (leads_choose (AreGroups sort had) signs_of_groups (AreGroups sort had) signs_of_groups (λ z. z) EndsSentence all from from from groups_all
        (AreSome sort had) (λ z. mark 58 ∷ mark 58 ∷ mark 61 ∷ signs_of_some z) (λ z. z) from (omega arith) some_given
        (λ other w after alike allowed reads ends. some_taken w (drop from other) after (heads_alike (is_mark_of 58) from other all alike ∙ colon) allowed reads ends))
        (omega arith) (mark 58) (λ z allowed. refl) (stands_mark 58 all from colon)

    -- one group with one production
    least : AreSome sort had ((Plain (SortPart (65 ∷ []) ∷ []) [] ∷ []) ∷ [])
    least = (refl, ((refl, (((refl, (refl, tt), tt), plain_joins had goes (SortPart (65 ∷ []) ∷ []) [], or-true (not (same_text sort (codes "KResult")))), tt)), tt))

    pub no_second : heads (is_mark_of 58) (drop (from + 1) all) ≡ false → StopsAt (AreGroups sort had) signs_of_groups EndsSentence all from (from + 1)
    no_second none =
        leads_no_sign (AreGroups sort had) signs_of_groups (AreSome sort had) (λ z. mark 58 ∷ mark 61 ∷ signs_of_some z) (λ z. mark 61 ∷ signs_of_some z) (λ z. z) EndsSentence all from (from + 1) from
        colon_leads (omega arith) (mark 58) (λ z allowed. refl) ((Plain (SortPart (65 ∷ []) ∷ []) [] ∷ []) ∷ []) least (is_mark_of 58) (is_mark 58) none

    module _ (second : heads (is_mark_of 58) (drop (from + 1) all) ≡ true) where
      colons_lead : Leads (AreGroups sort had) signs_of_groups (AreSome sort had) (λ z. mark 61 ∷ signs_of_some z) (λ z. z) EndsSentence all from (from + 1 + 1) (from + 1)
      colons_lead =
          leads_sign (AreGroups sort had) signs_of_groups (AreSome sort had) (λ z. mark 58 ∷ mark 61 ∷ signs_of_some z) (λ z. mark 61 ∷ signs_of_some z) (λ z. z) EndsSentence all from (from + 1) from
          colon_leads (omega arith) (mark 58) (λ z allowed. refl) (stands_mark 58 all (from + 1) second)

      pub no_equals : heads (is_mark_of 61) (drop (from + 1 + 1) all) ≡ false → StopsAt (AreGroups sort had) signs_of_groups EndsSentence all from (from + 1 + 1)
      no_equals none =
          leads_no_sign (AreGroups sort had) signs_of_groups (AreSome sort had) (λ z. mark 61 ∷ signs_of_some z) signs_of_some (λ z. z) EndsSentence all from (from + 1 + 1) (from + 1)
          colons_lead (omega arith) (mark 61) (λ z allowed. refl) ((Plain (SortPart (65 ∷ []) ∷ []) [] ∷ []) ∷ []) least (is_mark_of 61) (is_mark 61) none

      module _ (equals : heads (is_mark_of 61) (drop (from + 1 + 1) all) ≡ true) where
        becomes_leads : Leads (AreGroups sort had) signs_of_groups (AreSome sort had) signs_of_some (λ z. z) EndsSentence all from (from + 1 + 1 + 1) (from + 1 + 1)
        becomes_leads =
            leads_sign (AreGroups sort had) signs_of_groups (AreSome sort had) (λ z. mark 61 ∷ signs_of_some z) signs_of_some (λ z. z) EndsSentence all from (from + 1 + 1) (from + 1)
            colons_lead (omega arith) (mark 61) (λ z allowed. refl) (stands_mark 61 all (from + 1 + 1) equals)

        pub groups_stop : (stop : Stop) → Stops (AreSome sort had) signs_of_some (Begin (is_word_among sentence_words)) all (from + 1 + 1 + 1) stop → Stops (AreGroups sort had) signs_of_groups EndsSentence all from stop
        groups_stop Memory stop = tt
        groups_stop (Expected to) stop =
            let later : from + 1 + 1 + 1 ≤ to = stop.order in
            leads_stops (AreGroups sort had) signs_of_groups (AreSome sort had) signs_of_some (λ z. z) EndsSentence all from (from + 1 + 1 + 1) (from + 1 + 1) becomes_leads to (omega arith) (record {
              order = stop.order;
              within = stop.within;
              none = λ other y after alike allowed reads ends. stop.none other y after alike allowed reads (sentence_begins after ends);
              begun = stop.begun;
              allowed = stop.allowed;
              done = stop.done;
              left = stop.left;
              parts = stop.parts;
              reads = stop.reads;
            })

        pub groups_read : (found : List (List Prod)) (to : ℕ) → IsReadAs (AreSome sort had) signs_of_some (Begin (is_word_among sentence_words)) groups_of all (from + 1 + 1 + 1) found to
            → IsReadAs (AreGroups sort had) signs_of_groups EndsSentence groups_of all from found to
        groups_read found to read =
            let later : from + 1 + 1 + 1 ≤ to = read.read.order in
            record {
              written = read.written;
              read = leads_read (AreGroups sort had) signs_of_groups (AreSome sort had) signs_of_some (λ z. z) EndsSentence all from (from + 1 + 1 + 1) (from + 1 + 1) becomes_leads read.written to (omega arith) (record {
                order = read.read.order;
                within = read.read.within;
                allowed = read.read.allowed;
                reads = read.read.reads;
                only = λ other y after alike allowed reads ends. read.read.only other y after alike allowed reads (sentence_begins after ends);
              });
              means = read.means;
            }
