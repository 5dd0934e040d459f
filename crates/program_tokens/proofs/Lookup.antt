-- The terminals, looked up.
use Rattle.std.proofs.Common.{◌≡◌, ℕ, zero, suc, ◌+◌, ◌-◌, ◌<◌, ◌≤◌, Bool, true, false, ◌||◌, cond, List, [], ◌∷◌, ◌++◌, map, length, take, get_or, refl, slice_index, sym, ap, subst, ◌∙◌, arith, Bor, append_assoc, append-nil, ⊎_elim}
use Rattle.std.specs.Prelude.{min, if◌then◌else◌}
use Rattle.std.specs.List.{list_any, AllByRecursion, flat_map}
use Rattle.std.specs.Cmp.Lexicographic.{bytes_decides}
use Rattle.std.proofs.lemmas.Bool.{cases_lt}
use Rattle.std.proofs.lemmas.List.{map-append, take_more, length-take-le}
use Rattle.std.proofs.lemmas.List.Folds.{list_any-append}
use Rattle.std.proofs.lemmas.Grind.{flat_map-append}
use Rattle.k_lexer.specs.Characters.{is_mark}
use Rattle.production_reader.specs.Allowed.{same_text, is_among}
use Rattle.grammar_terms.specs.declared.production.Part.{Part}
use Rattle.grammar_terms.specs.declared.production.Part.TheVariants.{Terminal, Sort}
use Rattle.grammar_terms.specs.declared.production.Production.{Production}
use Rattle.program_tokens.specs.Terminals.{AreSame, IsBound, marks_size, terminals_in, terminals_of, longest}

abbrev now_of : Bor (List ℕ) → List ℕ
now_of key = key.now

any_map : (p : List ℕ → Bool) (keys : List (Bor (List ℕ))) → list_any p (map now_of keys) ≡ list_any (λ key. p key.now) keys
any_map p [] = refl
any_map p (key ∷ keys) = ap (λ b. p key.now || b) (any_map p keys)

or_false : (a : Bool) → a ≡ (a || (false || false))
or_false true = refl
or_false false = refl

-- ---- one text more

already : (texts : List (List ℕ)) (text t : List ℕ) → is_among texts text ≡ true → is_among texts t ≡ is_among (texts ++ text ∷ []) t
already texts text t some =
    elim (same_text t text) as (λ b. same_text t text ≡ b → is_among texts t ≡ is_among (texts ++ text ∷ []) t) [
      | true ↦ λ same.
          let here : is_among texts t ≡ true = ap (is_among texts) ((bytes_decides t text).0 same) ∙ some in
          here ∙ sym (list_any-append (same_text t) texts (text ∷ []) ∙ ap (λ b. b || (same_text t text || false)) here)
      | false ↦ λ other. or_false (is_among texts t) ∙ sym (list_any-append (same_text t) texts (text ∷ []) ∙ ap (λ b. is_among texts t || (b || false)) other)
    ] refl

pub found : (keys : List (Bor (List ℕ))) (texts : List (List ℕ)) (text : List ℕ) (result : Bool) → map (λ key. key.now) keys ≡ texts → result ≡ list_any (λ key. same_text text key.now) keys
    → result ≡ is_among texts text
found keys texts text result view is = is ∙ sym (any_map (same_text text) keys) ∙ ap (λ ts. is_among ts text) view

pub added : (keys new : List (Bor (List ℕ))) (texts : List (List ℕ)) (text : Bor (List ℕ)) → map (λ key. key.now) keys ≡ texts
    → new ≡ cond (list_any (λ key. same_text text.now key.now) keys) keys (keys ++ text ∷ []) → AreSame (map (λ key. key.now) new) (texts ++ text.now ∷ [])
added keys new texts text view is =
    elim (list_any (λ (key : Bor (List ℕ)). same_text text.now key.now) keys) as
    (λ b. list_any (λ (key : Bor (List ℕ)). same_text text.now key.now) keys ≡ b → new ≡ cond b keys (keys ++ text ∷ []) → AreSame (map now_of new) (texts ++ text.now ∷ [])) [
      | true ↦ λ some same t.
          ap (λ ks. is_among (map now_of ks) t) same ∙ ap (λ ts. is_among ts t) view
          ∙ already texts text.now t (sym (found keys texts text.now (list_any (λ (key : Bor (List ℕ)). same_text text.now key.now) keys) view refl) ∙ some)
      | false ↦ λ none more t. ap (λ ks. is_among (map now_of ks) t) more ∙ ap (λ ts. is_among ts t) (map-append now_of keys (text ∷ []) ∙ ap (λ ts. ts ++ text.now ∷ []) view)
    ] refl is

-- what is added to what was added
pub same_more : (new mid more old sofar : List (List ℕ)) → AreSame new (mid ++ more) → AreSame mid (old ++ sofar) → AreSame new (old ++ (sofar ++ more))
same_more new mid more old sofar f g t =
    f t ∙ list_any-append (same_text t) mid more ∙ ap (λ b. b || is_among more t) (g t) ∙ sym (list_any-append (same_text t) (old ++ sofar) more)
    ∙ ap (λ ts. is_among ts t) (append_assoc old sofar more)

terminals-append : (items more : List Part) → terminals_in (items ++ more) ≡ terminals_in items ++ terminals_in more
terminals-append [] more = refl
terminals-append (Terminal text ∷ items) more = ap (λ ts. text ∷ ts) (terminals-append items more)
terminals-append (Sort sort ∷ items) more = terminals-append items more

pub item_added : (new mid old : List (List ℕ)) (items : List Part) (i : ℕ) (item : Part) → i < length items → item ≡ get_or items i item → AreSame new (mid ++ terminals_in (item ∷ []))
    → AreSame mid (old ++ terminals_in (take i items)) → AreSame new (old ++ terminals_in (take (i + 1) items))
item_added new mid old items i item within is f g =
    let all : take (i + 1) items ≡ take i items ++ item ∷ [] = take_more items i item within ∙ ap (λ x. take i items ++ x ∷ []) (sym is) in
    subst (λ ts. AreSame new (old ++ ts)) (sym (ap terminals_in all ∙ terminals-append (take i items) (item ∷ []))) (same_more new mid (terminals_in (item ∷ [])) old (terminals_in (take i items)) f g)

-- ---- sizes

pub bounded : (keys : List (Bor (List ℕ))) (most : ℕ) (text : List ℕ) → AllByRecursion (λ key. marks_size key.now ≤ most) keys → is_among (map (λ key. key.now) keys) text ≡ true → marks_size text ≤ most
bounded [] most text all is = absurd (cc)
bounded (key ∷ keys) most text all is =
    elim (same_text text key.now) as (λ b. same_text text key.now ≡ b → (b || is_among (map now_of keys) text) ≡ true → marks_size text ≤ most) [
      | true ↦ λ same more. subst (λ t. marks_size t ≤ most) (sym ((bytes_decides text key.now).0 same)) all.0
      | false ↦ λ other more. bounded keys most text all.1 more
    ] refl is

marks_taken : (bytes : List ℕ) (n : ℕ) → is_mark (slice_index bytes 0) ≡ true → 0 < n → n ≤ length bytes → marks_size (take n bytes) ≡ n
marks_taken bytes zero begins some within = absurd (omega arith)
marks_taken [] (suc n) begins some within = absurd (omega arith)
marks_taken (b ∷ bytes) (suc n) begins some within = ap (λ c. if c then suc (length (take n bytes)) else 0) begins ∙ ap suc (length-take-le n bytes (omega arith))

module _ (texts : List (List ℕ)) (bytes : List ℕ) where
  pub longest_here : (size : ℕ) → 0 < size → is_among texts (take size bytes) ≡ true → longest texts bytes size ≡ size
  longest_here zero some is = absurd (omega arith)
  longest_here (suc n) some is = ap (λ b. if b then suc n else longest texts bytes n) is

  pub longest_less : (size : ℕ) → 0 < size → is_among texts (take size bytes) ≡ false → longest texts bytes size ≡ longest texts bytes (size - 1)
  longest_less zero some is = absurd (omega arith)
  longest_less (suc n) some is =
      let e : suc n - 1 ≡ n = omega arith in
      ap (λ b. if b then suc n else longest texts bytes n) is ∙ ap (longest texts bytes) (sym e)

  pub longest-le : (size : ℕ) → longest texts bytes size ≤ size
  longest-le zero = omega arith
  longest-le (suc n) = elim (is_among texts (take (suc n) bytes)) as (λ b. (if b then suc n else longest texts bytes n) ≤ suc n) [ true ↦ omega arith | false ↦ omega (arith, longest-le n) ]

  too_long : (most n : ℕ) → IsBound texts most → is_mark (slice_index bytes 0) ≡ true → n ≤ length bytes → most < n → (b : Bool) → is_among texts (take n bytes) ≡ b → b ≡ false
  too_long most n bound begins within past true is = absurd (let size = bound (take n bytes) is in omega (arith, size, marks_taken bytes n begins (omega arith) within))
  too_long most n bound begins within past false is = refl

  pub longest_bound : (most run : ℕ) → IsBound texts most → is_mark (slice_index bytes 0) ≡ true → run ≤ length bytes → longest texts bytes (min run most) ≡ longest texts bytes run
  longest_bound most zero bound begins within = let e : min zero most ≡ 0 = omega arith in ap (longest texts bytes) e
  longest_bound most (suc n) bound begins within =
      ⊎_elim
      (λ (past : most < suc n).
      (let less : min (suc n) most ≡ min n most = omega arith in
      ap (longest texts bytes) less ∙ longest_bound most n bound begins (omega arith)
      ∙ sym (ap (λ b. if b then suc n else longest texts bytes n) (too_long most (suc n) bound begins within past (is_among texts (take (suc n) bytes)) refl))))
      (λ (fits : suc n ≤ most). (let same : min (suc n) most ≡ suc n = omega arith in ap (longest texts bytes) same))
      (cases_lt most (suc n))

pub production_added : (new mid : List (List ℕ)) (prods : List Production) (i : ℕ) (production : Production) → i < length prods → production ≡ get_or prods i production
    → AreSame new (mid ++ terminals_of production) → AreSame mid (flat_map terminals_of (take i prods)) → AreSame new (flat_map terminals_of (take (i + 1) prods))
production_added new mid prods i production within is f g =
    let all : take (i + 1) prods ≡ take i prods ++ production ∷ [] = take_more prods i production within ∙ ap (λ x. take i prods ++ x ∷ []) (sym is) in
    let parts : flat_map terminals_of (take (i + 1) prods) ≡ flat_map terminals_of (take i prods) ++ terminals_of production =
    ap (flat_map terminals_of) all ∙ flat_map-append terminals_of (take i prods) (production ∷ []) ∙ ap (λ ts. flat_map terminals_of (take i prods) ++ ts) (append-nil (terminals_of production)) in
    subst (AreSame new) (sym parts) (same_more new mid (terminals_of production) [] (flat_map terminals_of (take i prods)) f g)
