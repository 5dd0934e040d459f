-- How one attribute is read.
use Rattle.std.proofs.Common.{◌≡◌, ℕ, ◌+◌, ◌≤◌, Bool, true, false, nat_eq, if◌then◌else◌, List, [], ◌∷◌, ◌++◌, length, drop, map, refl, sym, ap, ◌∙◌, subst, arith}
use Rattle.std.specs.Prelude.{codes}
use Rattle.std.specs.List.{AllByRecursion}
use Rattle.production_reader.specs.Lexemes.{Lexeme, Sign, Reads, AreAlike, word, mark}
use Rattle.production_reader.specs.Written.{Attribute, signs_of_attribute}
use Rattle.production_reader.specs.Written.Attribute.{Left, Right, NonAssoc, Bracket, SeqStrict, Strict, StrictAt}
use Rattle.production_reader.specs.Allowed.{IsPlace, IsAttribute, number_of, same_text}
use Rattle.production_reader.specs.Attributes.{ArePlaces, signs_of_places, NoParenthesis, key_word, key_of, tail_of, attr_of}
use Rattle.production_reader.specs.Chains.{Chain}
use Rattle.production_reader.specs.Heads.{heads, is_any_word, is_word_of, is_mark_of, Begin, Stands}
use Rattle.production_reader.specs.Reading.{IsRead, IsReadAs, StopsAt, Stops}
use Rattle.production_reader.specs.declared.attributes.Attr.TheVariants as attrs
use Rattle.production_reader.specs.declared.attributes.Key.{Key}
use Rattle.production_reader.specs.declared.attributes.Key.TheVariants as key
use Rattle.production_reader.specs.declared.stop.Stop.{Stop}
use Rattle.production_reader.specs.declared.stop.Stop.TheVariants.{Expected, Memory}
use Rattle.production_reader.proofs.Leading.{Leads, Rest, leads_all, leads_choose, leads_done, leads_none, leads_over, leads_stops_first}
use Rattle.production_reader.proofs.Fronts.{heads_alike, reads_heads, is_mark, is_word_by, stands_mark, stands_alike, stands_reads, leads_sign, leads_no_sign, leads_closed, leads_not_closed, same_bytes}

parts : (y : Attribute) → signs_of_attribute y ≡ word (key_word (key_of y)) ∷ tail_of y
parts Left = refl
parts Right = refl
parts NonAssoc = refl
parts Bracket = refl
parts SeqStrict = refl
parts Strict = refl
parts (StrictAt digits) = refl

by_length : ℕ → Key
by_length n =
    if nat_eq n 4 then key.Left else (if nat_eq n 5 then key.Right else (if nat_eq n 3 then key.Non else (if nat_eq n 7 then key.Bracket else (if nat_eq n 9 then key.SeqStrict else key.Strict))))

known : (k : Key) → by_length (length (key_word k)) ≡ k
unfolding by_length
known key.Left = refl
known key.Right = refl
known key.Non = refl
known key.Bracket = refl
known key.SeqStrict = refl
known key.Strict = refl

one_key : (j k : Key) → key_word j ≡ key_word k → j ≡ k
one_key j k same = sym (known j) ∙ ap (λ t. by_length (length t)) same ∙ known k

-- the attributes that are one word alone
abbrev pub plain_of : Key → Attribute
plain_of key.Left = Left
plain_of key.Right = Right
plain_of key.Non = NonAssoc
plain_of key.Bracket = Bracket
plain_of key.SeqStrict = SeqStrict
plain_of key.Strict = Strict

abbrev pub is_alone : Key → Bool
is_alone key.Non = false
is_alone key.Strict = false
is_alone _ = true

alone : (y : Attribute) → is_alone (key_of y) ≡ true → (y ≡ plain_of (key_of y)) × (tail_of y ≡ [])
alone Left is = (refl, refl)
alone Right is = (refl, refl)
alone NonAssoc is = absurd (cc)
alone Bracket is = (refl, refl)
alone SeqStrict is = (refl, refl)
alone Strict is = absurd (cc)
alone (StrictAt digits) is = absurd (cc)

plain_tail : (k : Key) → is_alone k ≡ true → tail_of (plain_of k) ≡ []
plain_tail key.Left is = refl
plain_tail key.Right is = refl
plain_tail key.Non is = absurd (cc)
plain_tail key.Bracket is = refl
plain_tail key.SeqStrict is = refl
plain_tail key.Strict is = absurd (cc)

plain_key : (k : Key) → key_of (plain_of k) ≡ k
plain_key key.Left = refl
plain_key key.Right = refl
plain_key key.Non = refl
plain_key key.Bracket = refl
plain_key key.SeqStrict = refl
plain_key key.Strict = refl

chain_all : (digits : List (List ℕ)) → Chain (λ (s : ℕ) x. IsPlace x) (λ s x. s) 0 digits → AllByRecursion IsPlace digits
chain_all [] all = tt
chain_all (d ∷ digits) all = (all.0, chain_all digits all.1)

all_chain : (digits : List (List ℕ)) → AllByRecursion IsPlace digits → Chain (λ (s : ℕ) x. IsPlace x) (λ s x. s) 0 digits
all_chain [] all = tt
all_chain (d ∷ digits) all = (all.0, all_chain digits all.1)

module _ (b : Bool) (all : List Lexeme) (from : ℕ) where
  -- where the word of a key stands, an attribute with this key is begun
  abbrev pub Keyed : Key → Attribute → Type 0
  Keyed k y = IsAttribute b y × (key_of y ≡ k)

  keyed : (k : Key) (other : List Lexeme) (z : Attribute) (after : List Lexeme) → Stands (word (key_word k)) all from → AreAlike from other all → IsAttribute b z
      → Reads (signs_of_attribute z) (drop from other) after → Rest (Keyed k) (λ y. word (key_word k) ∷ tail_of y) (λ y. y) (drop from other) z after
  keyed k other z after stands alike allowed reads =
      let reads2 = subst (λ s. Reads s (drop from other) after) (parts z) reads in
      let first = stands_reads (word (key_word k)) (word (key_word (key_of z))) (tail_of z) other from after (stands_alike (word (key_word k)) from other all alike stands) reads2 in
      let same : key_of z ≡ k = one_key (key_of z) k first.bytes in
      record { left = z; is = refl; allowed = (allowed, same); reads = subst (λ j. Reads (word (key_word j) ∷ tail_of z) (drop from other) after) same reads2 }

  pub key_leads : (k : Key) → from ≤ length all → Stands (word (key_word k)) all from
      → Leads (IsAttribute b) signs_of_attribute (Keyed k) tail_of (λ y. y) NoParenthesis all from (from + 1) from
  key_leads k within stands =
      leads_sign (IsAttribute b) signs_of_attribute (Keyed k) (λ y. word (key_word k) ∷ tail_of y) tail_of (λ y. y) NoParenthesis all from from from
      (leads_choose (IsAttribute b) signs_of_attribute (IsAttribute b) signs_of_attribute (λ y. y) NoParenthesis all from from from
      (leads_all (IsAttribute b) signs_of_attribute NoParenthesis all from within) (Keyed k) (λ y. word (key_word k) ∷ tail_of y) (λ y. y) from (omega arith)
      (λ y allowed. (allowed.0, parts y ∙ ap (λ j. word (key_word j) ∷ tail_of y) allowed.1))
      (λ other z after alike allowed reads ends. keyed k other z after stands alike allowed reads))
      (omega arith) (word (key_word k)) (λ y allowed. refl) stands

  pub no_attribute : from ≤ length all → heads is_any_word (drop from all) ≡ false → StopsAt (IsAttribute b) signs_of_attribute NoParenthesis all from from
  no_attribute within none =
      leads_none (IsAttribute b) signs_of_attribute (IsAttribute b) signs_of_attribute (λ y. y) NoParenthesis all from from from
      (leads_all (IsAttribute b) signs_of_attribute NoParenthesis all from within) Left tt (omega arith) (λ other y after alike allowed reads ends.
      let there = reads_heads is_any_word (word (key_word (key_of y))) (tail_of y) (drop from other) after (λ l is. is_word_by (λ bytes. true) (key_word (key_of y)) l is)
      (subst (λ s. Reads s (drop from other) after) (parts y) reads) in
      let same = heads_alike is_any_word from other all alike in
      absurd (cc))

  pub other_word : (bytes : List ℕ) → from ≤ length all → Stands (word bytes) all from → ((k : Key) → key_word k ≡ bytes → ⊥) → StopsAt (IsAttribute b) signs_of_attribute NoParenthesis all from from
  other_word bytes within stands none =
      leads_none (IsAttribute b) signs_of_attribute (IsAttribute b) signs_of_attribute (λ y. y) NoParenthesis all from from from
      (leads_all (IsAttribute b) signs_of_attribute NoParenthesis all from within) Left tt (omega arith) (λ other y after alike allowed reads ends.
      let first = stands_reads (word bytes) (word (key_word (key_of y))) (tail_of y) other from after (stands_alike (word bytes) from other all alike stands)
      (subst (λ s. Reads s (drop from other) after) (parts y) reads) in
      none (key_of y) first.bytes)

  refused : (y : Attribute) → IsAttribute false y → key_of y ≡ key.Bracket → ⊥
  refused Left allowed is = cc
  refused Right allowed is = cc
  refused NonAssoc allowed is = cc
  refused Bracket allowed is = cc
  refused SeqStrict allowed is = cc
  refused Strict allowed is = cc
  refused (StrictAt digits) allowed is = cc

  pub no_bracket : from ≤ length all → Stands (word (codes "bracket")) all from → b ≡ false → StopsAt (IsAttribute b) signs_of_attribute NoParenthesis all from from
  no_bracket within stands none =
      leads_none (IsAttribute b) signs_of_attribute (IsAttribute b) signs_of_attribute (λ y. y) NoParenthesis all from from from
      (leads_all (IsAttribute b) signs_of_attribute NoParenthesis all from within) Left tt (omega arith) (λ other y after alike allowed reads ends.
      let first = stands_reads (word (codes "bracket")) (word (key_word (key_of y))) (tail_of y) other from after (stands_alike (word (codes "bracket")) from other all alike stands)
      (subst (λ s. Reads s (drop from other) after) (parts y) reads) in
      refused y (subst (λ v. IsAttribute v y) none allowed) (one_key (key_of y) key.Bracket first.bytes))

  -- one word alone
  pub plain_read : (k : Key) → from ≤ length all → Stands (word (key_word k)) all from → is_alone k ≡ true → IsAttribute b (plain_of k)
      → IsRead (IsAttribute b) signs_of_attribute NoParenthesis all from (plain_of k) (from + 1)
  plain_read k within stands one allowed =
      leads_done (IsAttribute b) signs_of_attribute (Keyed k) tail_of (λ y. y) NoParenthesis all from (from + 1) from (key_leads k within stands) (plain_of k) (allowed, plain_key k) (plain_tail k one) (omega arith)
      (λ other w after alike allows reads ends.
      let known = alone w (ap is_alone allows.1 ∙ one) in
      (known.0 ∙ ap plain_of allows.1, sym (subst (λ s. Reads s (drop (from + 1) other) after) known.1 reads)))

  -- `non-assoc`
  non_only : (w : Attribute) → key_of w ≡ key.Non → w ≡ NonAssoc
  non_only Left is = absurd (cc)
  non_only Right is = absurd (cc)
  non_only NonAssoc is = refl
  non_only Bracket is = absurd (cc)
  non_only SeqStrict is = absurd (cc)
  non_only Strict is = absurd (cc)
  non_only (StrictAt digits) is = absurd (cc)

  abbrev pub Nothing : Unit {0} → Type 0
  Nothing u = Unit {0}

  non_leads : from ≤ length all → Stands (word (codes "non")) all from
      → Leads (IsAttribute b) signs_of_attribute Nothing (λ u. mark 45 ∷ word (codes "assoc") ∷ []) (λ u. NonAssoc) NoParenthesis all from (from + 1) from
  non_leads within stands =
      leads_choose (IsAttribute b) signs_of_attribute (Keyed key.Non) tail_of (λ y. y) NoParenthesis all from (from + 1) from (key_leads key.Non within stands)
      Nothing (λ u. mark 45 ∷ word (codes "assoc") ∷ []) (λ u. NonAssoc) from (omega arith) (λ u allowed. ((tt, refl), refl))
      (λ other z after alike allowed reads ends.
      let is = non_only z allowed.1 in
      record { left = tt; is = sym is; allowed = tt; reads = subst (λ y. Reads (tail_of y) (drop (from + 1) other) after) is reads })

  dash_leads : from ≤ length all → Stands (word (codes "non")) all from → heads (is_mark_of 45) (drop (from + 1) all) ≡ true
      → Leads (IsAttribute b) signs_of_attribute Nothing (λ u. word (codes "assoc") ∷ []) (λ u. NonAssoc) NoParenthesis all from (from + 1 + 1) (from + 1)
  dash_leads within stands here =
      leads_sign (IsAttribute b) signs_of_attribute Nothing (λ u. mark 45 ∷ word (codes "assoc") ∷ []) (λ u. word (codes "assoc") ∷ []) (λ u. NonAssoc) NoParenthesis all from (from + 1) from
      (non_leads within stands) (omega arith) (mark 45) (λ u allowed. refl) (stands_mark 45 all (from + 1) here)

  pub no_dash : from ≤ length all → Stands (word (codes "non")) all from → heads (is_mark_of 45) (drop (from + 1) all) ≡ false → StopsAt (IsAttribute b) signs_of_attribute NoParenthesis all from (from + 1)
  no_dash within stands none =
      leads_no_sign (IsAttribute b) signs_of_attribute Nothing (λ u. mark 45 ∷ word (codes "assoc") ∷ []) (λ u. word (codes "assoc") ∷ []) (λ u. NonAssoc) NoParenthesis all from (from + 1) from
      (non_leads within stands) (omega arith) (mark 45) (λ u allowed. refl) tt tt (is_mark_of 45) (is_mark 45) none

  pub no_assoc : from ≤ length all → Stands (word (codes "non")) all from → heads (is_mark_of 45) (drop (from + 1) all) ≡ true
      → heads (is_word_of (λ t. same_text t (codes "assoc"))) (drop (from + 1 + 1) all) ≡ false → StopsAt (IsAttribute b) signs_of_attribute NoParenthesis all from (from + 1 + 1)
  no_assoc within stands here none =
      leads_not_closed (IsAttribute b) signs_of_attribute (λ u. NonAssoc) NoParenthesis all from (from + 1 + 1) (from + 1) (word (codes "assoc")) (dash_leads within stands here) (omega arith)
      (is_word_of (λ t. same_text t (codes "assoc"))) (λ l is. is_word_by (λ t. same_text t (codes "assoc")) (codes "assoc") l is ∙ same_bytes (codes "assoc") (codes "assoc") refl) none

  pub assoc_read : from ≤ length all → Stands (word (codes "non")) all from → heads (is_mark_of 45) (drop (from + 1) all) ≡ true → Stands (word (codes "assoc")) all (from + 1 + 1)
      → IsRead (IsAttribute b) signs_of_attribute NoParenthesis all from NonAssoc (from + 1 + 1 + 1)
  assoc_read within stands here there =
      leads_closed (IsAttribute b) signs_of_attribute (λ u. NonAssoc) NoParenthesis all from (from + 1 + 1) (from + 1) (word (codes "assoc")) (dash_leads within stands here) (omega arith) there

  -- `strict`
  strict_only : (w : Attribute) (other after : List Lexeme) → key_of w ≡ key.Strict → heads (is_mark_of 40) (drop (from + 1) other) ≡ false → Reads (tail_of w) (drop (from + 1) other) after
      → (w ≡ Strict) × (after ≡ drop (from + 1) other)
  strict_only Left other after is none reads = absurd (cc)
  strict_only Right other after is none reads = absurd (cc)
  strict_only NonAssoc other after is none reads = absurd (cc)
  strict_only Bracket other after is none reads = absurd (cc)
  strict_only SeqStrict other after is none reads = absurd (cc)
  strict_only Strict other after is none reads = (refl, sym reads)
  strict_only (StrictAt digits) other after is none reads =
      let there = reads_heads (is_mark_of 40) (mark 40) (signs_of_places digits ++ mark 41 ∷ []) (drop (from + 1) other) after (is_mark 40) reads in absurd (cc)

  pub strict_read : from ≤ length all → Stands (word (codes "strict")) all from → heads (is_mark_of 40) (drop (from + 1) all) ≡ false
      → IsRead (IsAttribute b) signs_of_attribute NoParenthesis all from Strict (from + 1)
  strict_read within stands none =
      leads_done (IsAttribute b) signs_of_attribute (Keyed key.Strict) tail_of (λ y. y) NoParenthesis all from (from + 1) from (key_leads key.Strict within stands) Strict (tt, refl) refl (omega arith)
      (λ other w after alike allows reads ends. strict_only w other after allows.1 (heads_alike (is_mark_of 40) (from + 1) other all alike ∙ none) reads)

  abbrev pub PlacesThen : List (List ℕ) × Unit {0} → Type 0
  PlacesThen p = ArePlaces p.0 × Unit {0}

  abbrev pub places_then : List (List ℕ) × Unit {0} → List Sign
  places_then p = signs_of_places p.0 ++ mark 41 ∷ []

  strict_rest : (w : Attribute) (other after : List Lexeme) → IsAttribute b w → key_of w ≡ key.Strict → heads (is_mark_of 40) (drop (from + 1) other) ≡ true → Reads (tail_of w) (drop (from + 1) other) after
      → NoParenthesis after → Rest PlacesThen (λ p. mark 40 ∷ places_then p) (λ p. StrictAt p.0) (drop (from + 1) other) w after
  strict_rest Left other after allowed is here reads ends = absurd (cc)
  strict_rest Right other after allowed is here reads ends = absurd (cc)
  strict_rest NonAssoc other after allowed is here reads ends = absurd (cc)
  strict_rest Bracket other after allowed is here reads ends = absurd (cc)
  strict_rest SeqStrict other after allowed is here reads ends = absurd (cc)
  strict_rest Strict other after allowed is here reads ends =
      let no = subst (λ t. NoParenthesis t) (sym reads) ends in absurd (cc)
  strict_rest (StrictAt digits) other after allowed is here reads ends =
      record { left = (digits, tt); is = refl; allowed = ((allowed.0, all_chain digits allowed.1), tt); reads = reads }

  strict_leads : from ≤ length all → Stands (word (codes "strict")) all from → heads (is_mark_of 40) (drop (from + 1) all) ≡ true
      → Leads (IsAttribute b) signs_of_attribute PlacesThen places_then (λ p. StrictAt p.0) NoParenthesis all from (from + 1 + 1) (from + 1)
  strict_leads within stands here =
      leads_sign (IsAttribute b) signs_of_attribute PlacesThen (λ p. mark 40 ∷ places_then p) places_then (λ p. StrictAt p.0) NoParenthesis all from (from + 1) (from + 1)
      (leads_choose (IsAttribute b) signs_of_attribute (Keyed key.Strict) tail_of (λ y. y) NoParenthesis all from (from + 1) from (key_leads key.Strict within stands)
      PlacesThen (λ p. mark 40 ∷ places_then p) (λ p. StrictAt p.0) (from + 1) (omega arith) (λ p allowed. (((allowed.0.0, chain_all p.0 allowed.0.1), refl), refl))
      (λ other z after alike allowed reads ends. strict_rest z other after allowed.0 allowed.1 (heads_alike (is_mark_of 40) (from + 1) other all alike ∙ here) reads ends))
      (omega arith) (mark 40) (λ p allowed. refl) (stands_mark 40 all (from + 1) here)

  closing : (before after : List Lexeme) → Reads (mark 41 ∷ []) before after → Begin (is_mark_of 41) before
  closing before after reads = reads_heads (is_mark_of 41) (mark 41) [] before after (is_mark 41) reads

  pub places_stops : (stop : Stop) → from ≤ length all → Stands (word (codes "strict")) all from → heads (is_mark_of 40) (drop (from + 1) all) ≡ true
      → Stops ArePlaces signs_of_places (Begin (is_mark_of 41)) all (from + 1 + 1) stop → Stops (IsAttribute b) signs_of_attribute NoParenthesis all from stop
  places_stops Memory within stands here stop = tt
  places_stops (Expected at) within stands here stop =
      let later : from + 1 + 1 ≤ at = stop.order in
      leads_stops_first (IsAttribute b) signs_of_attribute ArePlaces signs_of_places (λ z w. Unit {0}) (λ (w : Unit {0}). mark 41 ∷ []) (λ p. StrictAt p.0) (Begin (is_mark_of 41)) NoParenthesis
      all from (from + 1 + 1) (from + 1) at (strict_leads within stands here) (omega arith) stop (λ z allowed. (tt, tt)) (λ z w before after allowed reads ends. closing before after reads)

  places_leads : (digits : List (List ℕ)) (mid : ℕ) → from ≤ length all → Stands (word (codes "strict")) all from → heads (is_mark_of 40) (drop (from + 1) all) ≡ true
      → IsRead ArePlaces signs_of_places (Begin (is_mark_of 41)) all (from + 1 + 1) digits mid
      → Leads (IsAttribute b) signs_of_attribute Nothing (λ w. mark 41 ∷ []) (λ w. StrictAt digits) NoParenthesis all from mid mid
  places_leads digits mid within stands here read =
      let later : from + 1 + 1 ≤ mid = read.order in
      leads_over (IsAttribute b) signs_of_attribute ArePlaces signs_of_places (λ z w. Unit {0}) (λ (w : Unit {0}). mark 41 ∷ []) (λ p. StrictAt p.0) (Begin (is_mark_of 41)) NoParenthesis
      all from (from + 1 + 1) (from + 1) digits mid (strict_leads within stands here) (omega arith) read (λ z w before after allowed reads ends. closing before after reads)

  pub places_open : (numbers : List ℕ) (mid : ℕ) → from ≤ length all → Stands (word (codes "strict")) all from → heads (is_mark_of 40) (drop (from + 1) all) ≡ true
      → IsReadAs ArePlaces signs_of_places (Begin (is_mark_of 41)) (map number_of) all (from + 1 + 1) numbers mid → heads (is_mark_of 41) (drop mid all) ≡ false
      → StopsAt (IsAttribute b) signs_of_attribute NoParenthesis all from mid
  places_open numbers mid within stands here read none =
      leads_not_closed (IsAttribute b) signs_of_attribute (λ w. StrictAt read.written) NoParenthesis all from mid mid (mark 41) (places_leads read.written mid within stands here read.read) (omega arith)
      (is_mark_of 41) (is_mark 41) none

  pub places_closed : (numbers : List ℕ) (mid : ℕ) → from ≤ length all → Stands (word (codes "strict")) all from → heads (is_mark_of 40) (drop (from + 1) all) ≡ true
      → IsReadAs ArePlaces signs_of_places (Begin (is_mark_of 41)) (map number_of) all (from + 1 + 1) numbers mid → heads (is_mark_of 41) (drop mid all) ≡ true
      → IsReadAs (IsAttribute b) signs_of_attribute NoParenthesis attr_of all from (attrs.StrictAt numbers) (mid + 1)
  places_closed numbers mid within stands here read there = record {
    written = StrictAt read.written;
    read = leads_closed (IsAttribute b) signs_of_attribute (λ w. StrictAt read.written) NoParenthesis all from mid mid (mark 41) (places_leads read.written mid within stands here read.read) (omega arith)
        (stands_mark 41 all mid there);
    means = ap attrs.StrictAt read.means;
  }

  pub key_stands : (j k : Key) (bytes : List ℕ) → key_word j ≡ bytes → j ≡ k → Stands (word bytes) all from → Stands (word (key_word k)) all from
  key_stands j k bytes is same stands = subst (λ t. Stands (word t) all from) (sym is ∙ ap key_word same) stands

  pub plain_read_as : (j k : Key) (bytes : List ℕ) → key_word j ≡ bytes → j ≡ k → from ≤ length all → Stands (word bytes) all from → is_alone k ≡ true → IsAttribute b (plain_of k)
      → IsReadAs (IsAttribute b) signs_of_attribute NoParenthesis attr_of all from (attr_of (plain_of k)) (from + 1)
  plain_read_as j k bytes is same within stands one allowed =
      record { written = plain_of k; read = plain_read k within (key_stands j k bytes is same stands) one allowed; means = refl }

  pub as_written : (y : Attribute) (to : ℕ) → IsRead (IsAttribute b) signs_of_attribute NoParenthesis all from y to → IsReadAs (IsAttribute b) signs_of_attribute NoParenthesis attr_of all from (attr_of y) to
  as_written y to read = record { written = y; read = read; means = refl }
