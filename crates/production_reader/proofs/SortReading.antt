-- How sorts, and the arguments of a prefix production, are read.
use Rattle.std.proofs.Common.{◌≡◌, ℕ, ◌+◌, ◌≤◌, Bool, true, false, List, [], ◌∷◌, ◌++◌, length, drop, map, refl, sym, ap, ◌∙◌, subst, arith, append_assoc, append-nil}
use Rattle.std.specs.Prelude.{codes}
use Rattle.std.specs.List.{AllByRecursion}
use Rattle.k_lexer.specs.declared.token.Kind.TheVariants.{Word}
use Rattle.production_reader.specs.Lexemes.{Lexeme, Reads, mark, word}
use Rattle.production_reader.specs.Written.{Attribute, one_word, signs_of_attributes}
use Rattle.production_reader.specs.Allowed.{IsAttribute, is_item_sort, may_bracket}
use Rattle.production_reader.specs.Chains.{Chain}
use Rattle.production_reader.specs.Heads.{heads, is_any_word, is_mark_of, Anything, Begin, ends_production, Stands}
use Rattle.production_reader.specs.Items.{IsItemSort, AreSorts, signs_of_sorts, signs_of_arguments, arguments_after, sorts_of_items, IsCall, signs_of_call, prod_of_call}
use Rattle.production_reader.specs.Meaning.{argument_items, further_items, attrs_of}
use Rattle.production_reader.specs.Reading.{IsRead, IsReadAs, StopsAt, Stops}
use Rattle.production_reader.specs.declared.prod.Item.{Item}
use Rattle.production_reader.specs.declared.prod.Item.TheVariants as item
use Rattle.production_reader.specs.declared.prod.Attrs.{Attrs}
use Rattle.production_reader.specs.declared.prod.Form.TheVariants as form
use Rattle.production_reader.specs.declared.stop.Stop.{Stop}
use Rattle.production_reader.specs.declared.stop.Stop.TheVariants.{Expected, Memory}
use Rattle.production_reader.proofs.Leading.{Leads, Rest, leads_all, leads_choose, leads_read, leads_stops, leads_over, leads_stops_first}
use Rattle.production_reader.proofs.Fronts.{heads_alike, heads_apart, reads_heads, is_mark, is_word_by, mark_apart, mark_no_word, stands_mark, sign_read, sign_none, sign_bad, leads_closed, leads_not_closed}
use Rattle.production_reader.proofs.Gathering.{Awaits, Gathered, gather_begins, gather_read, gather_stops, gather_mark, gather_ends}

-- ---- one sort

pub no_word : (all : List Lexeme) (from : ℕ) → from ≤ length all → heads is_any_word (drop from all) ≡ false → StopsAt IsItemSort one_word Anything all from from
no_word all from within none = sign_none Word IsItemSort Anything all from (65 ∷ []) is_any_word refl within (λ y l allowed is. is_word_by (λ bytes. true) y l is) none

pub no_sort : (all : List Lexeme) (from : ℕ) (bytes : List ℕ) → from ≤ length all → Stands (word bytes) all from → is_item_sort bytes ≡ false → StopsAt IsItemSort one_word Anything all from from
no_sort all from bytes within stands none = sign_bad Word IsItemSort Anything all from bytes (65 ∷ []) refl within stands (λ allowed. cc)

pub some_sort : (all : List Lexeme) (from : ℕ) (bytes sort : List ℕ) → Stands (word bytes) all from → is_item_sort bytes ≡ true → sort ≡ bytes
    → IsReadAs IsItemSort one_word Anything (λ s. s) all from sort (from + 1)
some_sort all from bytes sort stands allowed is = record { written = bytes; read = sign_read Word IsItemSort Anything all from bytes allowed stands; means = is }

-- ---- several

-- the items of sorts of which a further one follows
pub pending_items : List (List ℕ) → List Item
pending_items [] = []
pending_items (s ∷ sorts) = item.Sort s ∷ item.Terminal (codes ",") ∷ pending_items sorts

further_more : (sorts : List (List ℕ)) (s : List ℕ) → item.Terminal (codes ",") ∷ (pending_items sorts ++ item.Sort s ∷ []) ≡ further_items (sorts ++ s ∷ [])
unfolding pending_items
further_more [] s = refl
further_more (t ∷ sorts) s = ap (λ x. item.Terminal (codes ",") ∷ item.Sort t ∷ x) (further_more sorts s)

arguments_more : (sorts : List (List ℕ)) (s : List ℕ) → pending_items sorts ++ item.Sort s ∷ [] ≡ argument_items (sorts ++ s ∷ [])
unfolding pending_items
arguments_more [] s = refl
arguments_more (t ∷ sorts) s = ap (λ x. item.Sort t ∷ x) (further_more sorts s)

pending_more : (sorts : List (List ℕ)) (s : List ℕ) → (pending_items sorts ++ item.Sort s ∷ []) ++ item.Terminal (codes ",") ∷ [] ≡ pending_items (sorts ++ s ∷ [])
unfolding pending_items
pending_more [] s = refl
pending_more (t ∷ sorts) s = ap (λ x. item.Sort t ∷ item.Terminal (codes ",") ∷ x) (pending_more sorts s)

pending_none : pending_items [] ≡ []
unfolding pending_items
pending_none = refl

-- sorts were read and put behind other items, and a further one must follow
pub record SortsAwait (all : List Lexeme) (from : ℕ) (before items : List Item) (at : ℕ) : Type 0 where
  pub found : List (List ℕ)
  pub is : items ≡ before ++ pending_items found
  pub awaits : Awaits (λ (s : ℕ) x. IsItemSort x) (λ s x. s) one_word 44 (is_mark_of 41) Anything (λ x. x) 0 all from 0 found at

no_comma : (ls : List Lexeme) → Begin (is_mark_of 41) ls → heads (is_mark_of 44) ls ≡ false
no_comma ls closes = heads_apart (is_mark_of 41) (is_mark_of 44) ls (mark_apart 41 44 refl) closes

map_id : (xs : List (List ℕ)) → map (λ y. y) xs ≡ xs
map_id [] = refl
map_id (x ∷ xs) = ap (λ t. x ∷ t) (map_id xs)

module _ (all : List Lexeme) (from : ℕ) (before : List Item) where
  pub sorts_begin : from ≤ length all → SortsAwait all from before before from
  sorts_begin within = record {
    found = [];
    is = sym (append-nil before) ∙ ap (λ t. before ++ t) (sym pending_none);
    awaits = gather_begins (λ (s : ℕ) x. IsItemSort x) (λ s x. s) one_word 44 (is_mark_of 41) Anything (λ x. x) 0 all from within;
  }

  module _ (items : List Item) (at : ℕ) (await : SortsAwait all from before items at) where
    pub sorts_stop : (stop : Stop) → Stops IsItemSort one_word Anything all at stop → Stops AreSorts signs_of_sorts (Begin (is_mark_of 41)) all from stop
    sorts_stop stop none =
        gather_stops (λ (s : ℕ) x. IsItemSort x) (λ s x. s) one_word 44 (is_mark_of 41) Anything (λ x. x) 0 all from no_comma (λ ls here. tt) (λ ls here. tt) 0 await.found at await.awaits stop none

    module _ (sort : List ℕ) (to : ℕ) (read : IsReadAs IsItemSort one_word Anything (λ s. s) all at sort to) (more : List Item) (is : more ≡ items ++ item.Sort sort ∷ []) where
      gathered : Gathered (λ (s : ℕ) x. IsItemSort x) (λ s x. s) one_word 44 (is_mark_of 41) Anything (λ x. x) 0 all from 0 (await.found ++ sort ∷ []) to
      gathered =
          gather_read (λ (s : ℕ) x. IsItemSort x) (λ s x. s) one_word 44 (is_mark_of 41) Anything (λ x. x) 0 all from no_comma (λ ls here. tt) (λ ls here. tt) 0 0 await.found at await.awaits
          sort to read (λ x means. refl)

      more_is : more ≡ before ++ (pending_items await.found ++ item.Sort sort ∷ [])
      more_is = is ∙ ap (λ t. t ++ item.Sort sort ∷ []) await.is ∙ append_assoc before (pending_items await.found) (item.Sort sort ∷ [])

      pub sorts_go : (pending : List Item) → pending ≡ more ++ item.Terminal (codes ",") ∷ [] → heads (is_mark_of 44) (drop to all) ≡ true → SortsAwait all from before pending (to + 1)
      sorts_go pending pends here = record {
        found = await.found ++ sort ∷ [];
        is = pends ∙ ap (λ t. t ++ item.Terminal (codes ",") ∷ []) more_is ∙ append_assoc before (pending_items await.found ++ item.Sort sort ∷ []) (item.Terminal (codes ",") ∷ [])
            ∙ ap (λ t. before ++ t) (pending_more await.found sort);
        awaits = gather_mark (λ (s : ℕ) x. IsItemSort x) (λ s x. s) one_word 44 (is_mark_of 41) Anything (λ x. x) 0 all from no_comma (λ ls here. tt) (λ ls here. tt) 0
            (await.found ++ sort ∷ []) to gathered here;
      }

      pub sorts_end : heads (is_mark_of 44) (drop to all) ≡ false → IsReadAs AreSorts signs_of_sorts (Begin (is_mark_of 41)) (arguments_after before) all from more to
      sorts_end none =
          let whole = gather_ends (λ (s : ℕ) x. IsItemSort x) (λ s x. s) one_word 44 (is_mark_of 41) Anything (λ x. x) 0 all from 0 (await.found ++ sort ∷ []) to gathered none in
          record {
            written = whole.written;
            read = whole.read;
            means = more_is ∙ ap (λ t. before ++ t) (arguments_more await.found sort ∙ ap argument_items (whole.means ∙ map_id whole.written));
          }

-- ---- and the parenthesis behind them

chain_all : (ys : List (List ℕ)) → Chain (λ (s : ℕ) y. IsItemSort y) (λ s y. s) 0 ys → AllByRecursion IsItemSort ys
chain_all [] each = tt
chain_all (y ∷ ys) each = (each.0, chain_all ys each.1)

all_chain : (ys : List (List ℕ)) → AllByRecursion IsItemSort ys → Chain (λ (s : ℕ) y. IsItemSort y) (λ s y. s) 0 ys
all_chain [] each = tt
all_chain (y ∷ ys) each = (each.0, all_chain ys each.1)

closing : (before after : List Lexeme) → Reads (mark 41 ∷ []) before after → Begin (is_mark_of 41) before
closing before after reads = reads_heads (is_mark_of 41) (mark 41) [] before after (is_mark 41) reads

module _ (all : List Lexeme) (from : ℕ) (within : from ≤ length all) where
  arguments_all : Leads (AllByRecursion IsItemSort) signs_of_arguments (AllByRecursion IsItemSort) signs_of_arguments (λ z. z) Anything all from from from
  arguments_all = leads_all (AllByRecursion IsItemSort) signs_of_arguments Anything all from within

  none_written : (z : List (List ℕ)) (before after : List Lexeme) → heads (is_mark_of 41) before ≡ true → Reads (signs_of_arguments z) before after
      → Rest (λ (u : Unit {0}). Unit {0}) (λ u. mark 41 ∷ []) (λ u. []) before z after
  none_written [] before after here reads = record { left = tt; is = refl; allowed = tt; reads = reads }
  none_written (s ∷ sorts) before after here reads =
      let there = reads_heads is_any_word (word s) _ before after (is_word_by (λ bytes. true) s) reads in
      let no = heads_apart (is_mark_of 41) is_any_word before (mark_no_word 41) here in
      absurd (cc)

  -- there are none
  pub no_arguments : heads (is_mark_of 41) (drop from all) ≡ true → IsRead (AllByRecursion IsItemSort) signs_of_arguments Anything all from [] (from + 1)
  no_arguments here =
      leads_closed (AllByRecursion IsItemSort) signs_of_arguments (λ u. []) Anything all from from from (mark 41)
      (leads_choose (AllByRecursion IsItemSort) signs_of_arguments (AllByRecursion IsItemSort) signs_of_arguments (λ z. z) Anything all from from from arguments_all
      (λ (u : Unit {0}). Unit {0}) (λ u. mark 41 ∷ []) (λ u. []) from (omega arith) (λ u allowed. (tt, refl))
      (λ other z after alike allowed reads ends. none_written z (drop from other) after (heads_alike (is_mark_of 41) from other all alike ∙ here) reads))
      (omega arith) (stands_mark 41 all from here)

  abbrev pub SortsThen : List (List ℕ) × Unit {0} → Type 0
  SortsThen p = AreSorts p.0 × Unit {0}

  some_written : (z : List (List ℕ)) (before after : List Lexeme) → heads (is_mark_of 41) before ≡ false → AllByRecursion IsItemSort z → Reads (signs_of_arguments z) before after
      → Rest SortsThen (λ p. signs_of_sorts p.0 ++ mark 41 ∷ []) (λ p. p.0) before z after
  some_written [] before after none allowed reads = let there = closing before after reads in absurd (cc)
  some_written (s ∷ sorts) before after none allowed reads = record { left = (s ∷ sorts, tt); is = refl; allowed = ((refl, all_chain (s ∷ sorts) allowed), tt); reads = reads }

  sorts_leads : heads (is_mark_of 41) (drop from all) ≡ false
      → Leads (AllByRecursion IsItemSort) signs_of_arguments SortsThen (λ p. signs_of_sorts p.0 ++ mark 41 ∷ []) (λ p. p.0) Anything all from from from
  sorts_leads none =
      leads_choose (AllByRecursion IsItemSort) signs_of_arguments (AllByRecursion IsItemSort) signs_of_arguments (λ z. z) Anything all from from from arguments_all
      SortsThen (λ p. signs_of_sorts p.0 ++ mark 41 ∷ []) (λ p. p.0) from (omega arith) (λ p allowed. (chain_all p.0 allowed.0.1, refl))
      (λ other z after alike allowed reads ends. some_written z (drop from other) after (heads_alike (is_mark_of 41) from other all alike ∙ none) allowed reads)

  pub arguments_stop : (stop : Stop) → heads (is_mark_of 41) (drop from all) ≡ false → Stops AreSorts signs_of_sorts (Begin (is_mark_of 41)) all from stop
      → Stops (AllByRecursion IsItemSort) signs_of_arguments Anything all from stop
  arguments_stop Memory none stop = tt
  arguments_stop (Expected at) none stop =
      leads_stops_first (AllByRecursion IsItemSort) signs_of_arguments AreSorts signs_of_sorts (λ z w. Unit {0}) (λ (w : Unit {0}). mark 41 ∷ []) (λ p. p.0) (Begin (is_mark_of 41)) Anything
      all from from from at (sorts_leads none) stop.order stop (λ z allowed. (tt, tt)) (λ z w before after allowed reads ends. closing before after reads)

  module _ (before items : List Item) (mid : ℕ) (none : heads (is_mark_of 41) (drop from all) ≡ false)
      (read : IsReadAs AreSorts signs_of_sorts (Begin (is_mark_of 41)) (arguments_after before) all from items mid) where
    ended_leads : Leads (AllByRecursion IsItemSort) signs_of_arguments (λ (w : Unit {0}). Unit {0}) (λ w. mark 41 ∷ []) (λ w. read.written) Anything all from mid mid
    ended_leads =
        leads_over (AllByRecursion IsItemSort) signs_of_arguments AreSorts signs_of_sorts (λ z w. Unit {0}) (λ (w : Unit {0}). mark 41 ∷ []) (λ p. p.0) (Begin (is_mark_of 41)) Anything
        all from from from read.written mid (sorts_leads none) read.read.order read.read (λ z w before after allowed reads ends. closing before after reads)

    pub arguments_open : heads (is_mark_of 41) (drop mid all) ≡ false → StopsAt (AllByRecursion IsItemSort) signs_of_arguments Anything all from mid
    arguments_open missing =
        leads_not_closed (AllByRecursion IsItemSort) signs_of_arguments (λ w. read.written) Anything all from mid mid (mark 41) ended_leads (omega arith) (is_mark_of 41) (is_mark 41) missing

    pub arguments_closed : heads (is_mark_of 41) (drop mid all) ≡ true → IsReadAs (AllByRecursion IsItemSort) signs_of_arguments Anything (arguments_after before) all from items (mid + 1)
    arguments_closed closed = record {
      written = read.written;
      read = leads_closed (AllByRecursion IsItemSort) signs_of_arguments (λ w. read.written) Anything all from mid mid (mark 41) ended_leads (omega arith) (stands_mark 41 all mid closed);
      means = read.means;
    }

-- ---- arguments and attributes

further_sorts : (sorts : List (List ℕ)) (text : List ℕ) → sorts_of_items (further_items sorts ++ item.Terminal text ∷ []) ≡ sorts
further_sorts [] text = refl
further_sorts (s ∷ sorts) text = ap (λ t. s ∷ t) (further_sorts sorts text)

pub argument_sorts : (sorts : List (List ℕ)) (text : List ℕ) → sorts_of_items (argument_items sorts ++ item.Terminal text ∷ []) ≡ sorts
argument_sorts [] text = refl
argument_sorts (s ∷ sorts) text = ap (λ t. s ∷ t) (further_sorts sorts text)

abbrev pub AreFor : List (List ℕ) → List Attribute → Type 0
AreFor sorts w = AllByRecursion (IsAttribute (may_bracket sorts)) w

abbrev pub head_items : List ℕ → List Item
head_items name = item.Terminal name ∷ item.Terminal (codes "(") ∷ []

module _ (all : List Lexeme) (from : ℕ) (within : from ≤ length all) where
  call_all : Leads IsCall signs_of_call (λ p. AllByRecursion IsItemSort p.0 × AreFor p.0 p.1) (λ p. signs_of_arguments p.0 ++ signs_of_attributes p.1) (λ p. p) (Begin ends_production) all from from from
  call_all = leads_all IsCall signs_of_call (Begin ends_production) all from within

  pub call_no_arguments : (stop : Stop) → Stops (AllByRecursion IsItemSort) signs_of_arguments Anything all from stop → Stops IsCall signs_of_call (Begin ends_production) all from stop
  call_no_arguments Memory stop = tt
  call_no_arguments (Expected to) stop =
      leads_stops_first IsCall signs_of_call (AllByRecursion IsItemSort) signs_of_arguments AreFor signs_of_attributes (λ p. p) Anything (Begin ends_production) all from from from to
      call_all stop.order stop (λ z allowed. ([], tt)) (λ z w before after allowed reads ends. tt)

  module _ (name : List ℕ) (before arguments : List Item) (mid : ℕ) (read : IsReadAs (AllByRecursion IsItemSort) signs_of_arguments Anything (arguments_after before) all from arguments mid)
      (is : before ≡ head_items name) (items : List Item) (made : items ≡ arguments ++ item.Terminal (codes ")") ∷ []) (b : Bool) (tells : b ≡ may_bracket (sorts_of_items items)) where
    items_are : items ≡ head_items name ++ argument_items read.written ++ item.Terminal (codes ")") ∷ []
    items_are = made ∙ ap (λ t. t ++ item.Terminal (codes ")") ∷ []) (read.means ∙ ap (λ t. t ++ argument_items read.written) is)

    for_these : b ≡ may_bracket read.written
    for_these = tells ∙ ap (λ t. may_bracket (sorts_of_items t)) items_are ∙ ap may_bracket (argument_sorts read.written (codes ")"))

    after_arguments : Leads IsCall signs_of_call (AreFor read.written) signs_of_attributes (λ w. (read.written, w)) (Begin ends_production) all from mid mid
    after_arguments =
        leads_over IsCall signs_of_call (AllByRecursion IsItemSort) signs_of_arguments AreFor signs_of_attributes (λ p. p) Anything (Begin ends_production) all from from from read.written mid
        call_all read.read.order read.read (λ z w before after allowed reads ends. tt)

    pub call_no_attributes : (stop : Stop) → Stops (AllByRecursion (IsAttribute b)) signs_of_attributes (Begin ends_production) all mid stop → Stops IsCall signs_of_call (Begin ends_production) all from stop
    call_no_attributes Memory stop = tt
    call_no_attributes (Expected to) stop =
        leads_stops IsCall signs_of_call (AreFor read.written) signs_of_attributes (λ w. (read.written, w)) (Begin ends_production) all from mid mid after_arguments to stop.order
        (subst (λ v. StopsAt (AllByRecursion (IsAttribute v)) signs_of_attributes (Begin ends_production) all mid to) for_these stop)

    pub call_read : (attrs : Attrs) (to : ℕ) (label : List ℕ) → label ≡ name → IsReadAs (AllByRecursion (IsAttribute b)) signs_of_attributes (Begin ends_production) attrs_of all mid attrs to
        → IsReadAs IsCall signs_of_call (Begin ends_production) (prod_of_call name) all from (record { items = items; attrs = attrs; form = form.Prefix label }) to
    call_read attrs to label same more = record {
      written = (read.written, more.written);
      read = leads_read IsCall signs_of_call (AreFor read.written) signs_of_attributes (λ w. (read.written, w)) (Begin ends_production) all from mid mid after_arguments more.written to more.read.order
          (subst (λ v. IsRead (AllByRecursion (IsAttribute v)) signs_of_attributes (Begin ends_production) all mid more.written to) for_these more.read);
      means = (λ i. record { items = items_are i; attrs = more.means i; form = form.Prefix (same i) });
    }
