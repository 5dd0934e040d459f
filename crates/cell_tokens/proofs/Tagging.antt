-- The attributes of a tag, one after the other.
use Rattle.std.proofs.Common.{◌≡◌, ℕ, ◌+◌, ◌<◌, ◌≤◌, Bool, true, false, ◌||◌, List, [], ◌∷◌, length, drop, get_or, Option, Some, None, refl, sym, ap, ◌∙◌, subst, arith, length-drop, drop_of_length-le}
use Rattle.std.specs.Prelude.{cond, option_map}
use Rattle.std.proofs.lemmas.List.{drop-drop}
use Rattle.k_lexer.specs.declared.token.Token.{Token}
use Rattle.k_lexer.specs.Before.{Stands, AllStand}
use Rattle.program_tokens.specs.Base.{bytes_of}
use Rattle.program_tokens.proofs.Reading.{drop_all}
use Rattle.cell_tokens.specs.Tags.{is_mark_at, is_multiplicity, is_attribute, three_first, with_attribute, attributes}
use Rattle.cell_tokens.proofs.Runs.{drop_here}

-- attributes behind others of so many base tokens
abbrev pub behind_others : Bool → ℕ → Bool × ℕ → Bool × ℕ
behind_others many at rest = (many || rest.0, at + rest.1)

or_assoc : (a b c : Bool) → (a || (b || c)) ≡ ((a || b) || c)
or_assoc true b c = refl
or_assoc false b c = refl

one_more : (many one : Bool) (at : ℕ) (o : Option (Bool × ℕ)) → option_map (behind_others many at) (option_map (with_attribute one) o) ≡ option_map (behind_others (many || one) (at + 3)) o
one_more many one at None = refl
one_more many one at (Some rest) =
    let e : at + (3 + rest.1) ≡ at + 3 + rest.1 = omega arith in
    (λ i. Some (or_assoc many one rest.0 i, e i))

same_rest : (o : Option (Bool × ℕ)) → o ≡ option_map (behind_others false 0) o
same_rest None = refl
same_rest (Some rest) = let e : rest.1 ≡ 0 + rest.1 = omega arith in (λ i. Some (rest.0, e i))

-- none are behind none
pub tag_starts : (text : List ℕ) (start : ℕ) (tokens : List Token) → attributes text start tokens ≡ option_map (behind_others false 0) (attributes text start (drop 0 tokens))
tag_starts text start tokens = same_rest (attributes text start tokens)

-- what three tokens and the others are
record Front (tokens : List Token) (name equals value : Token) : Type 0 where
  more : List Token
  is : tokens ≡ name ∷ equals ∷ value ∷ more

front_of : (tokens : List Token) (name equals value : Token) → three_first tokens ≡ Some (name, equals, value) → Front tokens name equals value
front_of [] name equals value is = absurd (cc)
front_of (a ∷ []) name equals value is = absurd (cc)
front_of (a ∷ b ∷ []) name equals value is = absurd (cc)
front_of (a ∷ b ∷ c ∷ more) name equals value is =
    let parts : ◌≡◌ {A = Token × Token × Token} (a, b, c) (name, equals, value) = cc in
    record { more = more; is = (λ i. (parts i).0 ∷ (parts i).1 ∷ (parts i).2 ∷ more) }

first_of : (tokens : List Token) (at : ℕ) (token : Token) → at < length tokens → token ≡ get_or tokens at token → drop at tokens ≡ token ∷ drop (at + 1) tokens
first_of tokens at token within is = drop_here tokens token at within ∙ ap (λ t. t ∷ drop (at + 1) tokens) (sym is)

closes_first : (text : List ℕ) (end : ℕ) (token : Token) (tokens : List Token) → is_mark_at text 62 end token ≡ true → attributes text end (token ∷ tokens) ≡ Some (false, 1)
unfolding attributes
closes_first text end token [] is = ap (λ b. cond b (Some (false, 1)) None) is
closes_first text end token (a ∷ []) is = ap (λ b. cond b (Some (false, 1)) None) is
closes_first text end token (a ∷ b ∷ tokens) is =
    ap (λ c. cond c (Some (false, 1)) (cond (is_attribute text end token a b) (option_map (with_attribute (is_multiplicity (bytes_of text token))) (attributes text b.end tokens)) None)) is

or_false : (a : Bool) → (a || false) ≡ a
or_false true = refl
or_false false = refl

module _ (text : List ℕ) (start : ℕ) (tokens : List Token) (many : Bool) (end at : ℕ) where
  abbrev pub SoFar : Type 0
  SoFar = attributes text start tokens ≡ option_map (behind_others many at) (attributes text end (drop at tokens))

  pub tag_closes : (token : Token) → SoFar → at < length tokens → token ≡ get_or tokens at token → is_mark_at text 62 end token ≡ true → Some (many, at + 1) ≡ attributes text start tokens
  tag_closes token sofar within is closes =
      sym (sofar ∙ ap (λ ts. option_map (behind_others many at) (attributes text end ts)) (first_of tokens at token within is)
      ∙ ap (option_map (behind_others many at)) (closes_first text end token (drop (at + 1) tokens) closes) ∙ (λ i. Some (or_false many i, at + 1)))

  pub tag_ends : SoFar → length tokens ≤ at → None ≡ attributes text start tokens
  unfolding attributes
  tag_ends sofar past = sym (sofar ∙ ap (λ ts. option_map (behind_others many at) (attributes text end ts)) (drop_of_length-le tokens past))

  short : (ts : List Token) (token : Token) (more : List Token) → ts ≡ token ∷ more → three_first ts ≡ None → is_mark_at text 62 end token ≡ false → attributes text end ts ≡ None
  unfolding attributes
  short ts token [] is none closes = ap (attributes text end) is ∙ ap (λ b. cond b (Some (false, 1)) None) closes
  short ts token (a ∷ []) is none closes = ap (attributes text end) is ∙ ap (λ b. cond b (Some (false, 1)) None) closes
  short ts token (a ∷ b ∷ more) is none closes = let no = sym (ap three_first is) ∙ none in absurd (cc)

  pub tag_short : (token : Token) (o : Option (Token × Token × Token)) → SoFar → at < length tokens → token ≡ get_or tokens at token → is_mark_at text 62 end token ≡ false → o ≡ three_first (drop at tokens) → o ≡ None
      → None ≡ attributes text start tokens
  tag_short token o sofar within is closes three none =
      sym (sofar ∙ ap (option_map (behind_others many at))
      (short (drop at tokens) token (drop (at + 1) tokens) (first_of tokens at token within is) (sym three ∙ none) closes))

  module _ (token name equals value : Token) (o : Option (Token × Token × Token)) (within : at < length tokens) (is : token ≡ get_or tokens at token) (closes : is_mark_at text 62 end token ≡ false)
      (three : o ≡ three_first (drop at tokens)) (some : o ≡ Some (name, equals, value)) where
    three_front : Front (drop at tokens) name equals value
    three_front = front_of (drop at tokens) name equals value (sym three ∙ some)

    same_name : token ≡ name
    same_name =
        let e : ◌≡◌ {A = List Token} (token ∷ drop (at + 1) tokens) (name ∷ equals ∷ value ∷ three_front.more) = sym (first_of tokens at token within is) ∙ three_front.is in
        ap (λ l. get_or l 0 token) e

    by_test : (b : Bool) → is_attribute text end name equals value ≡ b
        → attributes text end (drop at tokens) ≡ cond b (option_map (with_attribute (is_multiplicity (bytes_of text name))) (attributes text value.end three_front.more)) None
    unfolding attributes
    by_test b test =
        ap (attributes text end) three_front.is
        ∙ ap (λ c. cond c (Some (false, 1)) (cond (is_attribute text end name equals value) (option_map (with_attribute (is_multiplicity (bytes_of text name))) (attributes text value.end three_front.more)) None))
        (ap (is_mark_at text 62 end) (sym same_name) ∙ closes)
        ∙ ap (λ c. cond c (option_map (with_attribute (is_multiplicity (bytes_of text name))) (attributes text value.end three_front.more)) None) test

    pub no_attribute : SoFar → is_attribute text end name equals value ≡ false → None ≡ attributes text start tokens
    no_attribute sofar test = sym (sofar ∙ ap (option_map (behind_others many at)) (by_test false test))

    front_drop : three_front.more ≡ drop (at + 3) tokens
    front_drop = sym (ap (drop 3) three_front.is) ∙ drop-drop 3 at tokens

    pub next_attribute : SoFar → is_attribute text end name equals value ≡ true
        → attributes text start tokens ≡ option_map (behind_others (many || is_multiplicity (bytes_of text name)) (at + 3)) (attributes text value.end (drop (at + 3) tokens))
    next_attribute sofar test =
        sofar ∙ ap (option_map (behind_others many at)) (by_test true test)
        ∙ one_more many (is_multiplicity (bytes_of text name)) at (attributes text value.end three_front.more)
        ∙ ap (λ ts. option_map (behind_others (many || is_multiplicity (bytes_of text name)) (at + 3)) (attributes text value.end ts)) front_drop

    -- the three stand among the tokens
    pub three_within : at + 3 ≤ length tokens
    three_within =
        let size : length (drop at tokens) ≡ length (name ∷ equals ∷ value ∷ three_front.more) = ap length three_front.is in
        let least : 3 ≤ length (drop at tokens) = omega (arith, size) in
        let most = length-drop at tokens in
        omega (arith, least, most)

    pub three_stand : AllStand text tokens → Stands text name × Stands text equals × Stands text value
    three_stand stand =
        let all = subst (AllStand text) three_front.is (drop_all (Stands text) at tokens stand) in
        (all.0, all.1.0, all.1.1.0)
