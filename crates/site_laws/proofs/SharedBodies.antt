-- What a variable of a left cell stands for under two substitutions that give the cell one content and its entries the same keys.
use Rattle.std.proofs.Common.{arith, ◌≡◌, inl, inr, ℕ, ◌+◌, Bool, true, false, not, ◌&&◌, ◌||◌, List, [], ◌∷◌, ◌++◌, length, Option, Some, None, refl, sym, ap, subst, ◌∙◌}
use Rattle.std.specs.Option.{option_and_then}
use Rattle.std.specs.List.{list_all, list_any}
use Rattle.std.proofs.lemmas.List.{length-append}
use Rattle.std.proofs.lemmas.Bool.{eqb-true}
use Rattle.k_terms.specs.declared.value.Value.{Value}
use Rattle.k_terms.specs.declared.value.Content.{Content}
use Rattle.k_terms.specs.declared.value.Content.TheVariants.{Seq as SeqContent, Map as MapContent, List as ListContent, One as OneContent}
use Rattle.k_terms.specs.Operators.{as_entries, as_members}
use Rattle.rule_terms.specs.declared.pattern.Pattern.{Pattern}
use Rattle.rule_terms.specs.declared.pattern.Body.{Body, Cells', Seq, Map, List as Listed, One, Made}
use Rattle.rule_terms.specs.Options.{joined}
use Rattle.rule_terms.specs.Substitution.{Subst, rest_of, as_sequence}
use Rattle.rule_terms.specs.Eval.{eval, eval_all, eval_entries}
use Rattle.rule_terms.specs.Fill.{put_new, content_of}
use Rattle.rule_terms.specs.Patterns.{mentions, is_rest}
use Rattle.rule_terms.specs.Spots.{keys_in}
use Rattle.rule_terms.specs.Sound.{has_no_operator, all_patterns, is_made, cells_rest, body_mentions}
use Rattle.rule_terms.proofs.Defined.{both, one_of, and_then_gives, map_gives}
use Rattle.rule_terms.proofs.Layers.{Entries, are_formed_entries}
use Rattle.live_config.proofs.Members.{Has}
use Rattle.site_laws.proofs.ReadOnce.{sequence_once, entries_once, members_once}
use Rattle.site_laws.proofs.Shared.{IsShared, joined_tells, all_length, rest_tells, pattern_tells, patterns_tell}
use Rattle.site_laws.proofs.SharedEntries.{put_new_tells, same_keys, entries_tell}

-- the keys of a content that is a map rise
abbrev pub HasRisingKeys : Content → Type 0
HasRisingKeys (MapContent entries) = are_formed_entries entries ≡ true
HasRisingKeys _ = Unit {0}

values_in : Content → List Value
values_in content = elim content [ SeqContent values ↦ values | ListContent values ↦ values | OneContent v ↦ v ∷ [] | _ ↦ [] ]

entries_in : Content → Entries
entries_in content = elim content [ MapContent entries ↦ entries | _ ↦ [] ]

same_sequences : (vs ws : List Value) → SeqContent vs ≡ SeqContent ws → vs ≡ ws
unfolding values_in
same_sequences vs ws e = ap values_in e

same_lists : (vs ws : List Value) → ListContent vs ≡ ListContent ws → vs ≡ ws
unfolding values_in
same_lists vs ws e = ap values_in e

same_ones : (v w : Value) → OneContent v ≡ OneContent w → v ≡ w
unfolding values_in
same_ones v w e = let f : v ∷ [] ≡ w ∷ [] = ap values_in e in cc

same_maps : (es fs : Entries) → MapContent es ≡ MapContent fs → es ≡ fs
unfolding entries_in
same_maps es fs e = ap entries_in e

-- fronts are of one length where the others are
front_length : {A : Type 0} (xs ys us vs : List A) → length ys ≡ length vs → xs ++ ys ≡ us ++ vs → length xs ≡ length us
front_length xs ys us vs same e =
    let whole : length xs + length ys ≡ length us + length vs = sym (length-append xs ys) ∙ ap length e ∙ length-append us vs in
    omega (arith, whole, same)

-- the rest, asked after the members around it
around : (a b c : Bool) → ((a || b) || c) ≡ true → ((a || c) || b) ≡ true
around true b c e = refl
around false true true e = refl
around false true false e = refl
around false false true e = refl
around false false false e = e

module _ (s t : Subst) (x : ℕ) where
  cells_tell : (rest : Option ℕ) → ((y : ℕ) → rest ≡ Some y → IsShared s t y) → is_rest x rest ≡ true → IsShared s t x
  cells_tell None shared m = absurd (let f : false ≡ true = m in cc)
  cells_tell (Some y) shared m = subst (IsShared s t) (sym (eqb-true x y m)) (shared y refl)

  sequence_tells : (parts : List Pattern) (rest : Option ℕ) (vs : List Value) → list_all has_no_operator parts ≡ true
      → (list_any (mentions x) parts || is_rest x rest) ≡ true → joined (eval_all parts s) (rest_of as_sequence rest s) ≡ Some vs
      → joined (eval_all parts t) (rest_of as_sequence rest t) ≡ Some vs → IsShared s t x
  sequence_tells parts rest vs o m e f =
      joined_tells (eval_all parts s) (rest_of as_sequence rest s) (eval_all parts t) (rest_of as_sequence rest t) (list_any (mentions x) parts) (is_rest x rest) vs
      (λ xs ys us ws i j k l same. all_length s t parts xs us i k)
      (λ xs q i j. patterns_tell s t x parts xs o q i j)
      (λ ys q i j. rest_tells s t x as_sequence sequence_once rest ys q i j)
      m e f

  members_tell : (before after : List Pattern) (rest : Option ℕ) (vs : List Value)
      → (list_all has_no_operator before && list_all has_no_operator after) ≡ true
      → ((list_any (mentions x) before || list_any (mentions x) after) || is_rest x rest) ≡ true
      → joined (joined (eval_all before s) (rest_of as_members rest s)) (eval_all after s) ≡ Some vs
      → joined (joined (eval_all before t) (rest_of as_members rest t)) (eval_all after t) ≡ Some vs → IsShared s t x
  members_tell before after rest vs o m e f =
      joined_tells (joined (eval_all before s) (rest_of as_members rest s)) (eval_all after s) (joined (eval_all before t) (rest_of as_members rest t)) (eval_all after t)
      (list_any (mentions x) before || is_rest x rest) (list_any (mentions x) after) vs
      (λ xs ys us ws i j k l same. front_length xs ys us ws (all_length s t after ys ws j l) same)
      (λ ws n i j. joined_tells (eval_all before s) (rest_of as_members rest s) (eval_all before t) (rest_of as_members rest t) (list_any (mentions x) before) (is_rest x rest) ws
      (λ xs ys us zs a b c d same. all_length s t before xs us a c)
      (λ xs q a b. patterns_tell s t x before xs (both _ _ o).0 q a b)
      (λ ys q a b. rest_tells s t x as_members members_once rest ys q a b)
      n i j)
      (λ ws n i j. patterns_tell s t x after ws (both _ _ o).1 n i j)
      (around (list_any (mentions x) before) (list_any (mentions x) after) (is_rest x rest) m) e f

  map_tells : (es : List (Pattern × Pattern)) (rest : Option ℕ) (entries : Entries)
      → list_all (λ e. has_no_operator e.0 && has_no_operator e.1) es ≡ true
      → (list_any (λ e. mentions x e.0 || mentions x e.1) es || is_rest x rest) ≡ true
      → option_and_then (λ news. option_and_then (put_new news) (rest_of as_entries rest s)) (eval_entries es s) ≡ Some entries
      → option_and_then (λ news. option_and_then (put_new news) (rest_of as_entries rest t)) (eval_entries es t) ≡ Some entries
      → are_formed_entries entries ≡ true → ((q : Pattern) → Has (keys_in (Map es rest)) q → eval q s ≡ eval q t) → IsShared s t x
  map_tells es rest entries o m e f formed keys =
      let g = and_then_gives (λ news. option_and_then (put_new news) (rest_of as_entries rest s)) (eval_entries es s) entries e in
      let k = and_then_gives (put_new g.0) (rest_of as_entries rest s) entries g.2 in
      let h = and_then_gives (λ news. option_and_then (put_new news) (rest_of as_entries rest t)) (eval_entries es t) entries f in
      let l = and_then_gives (put_new h.0) (rest_of as_entries rest t) entries h.2 in
      let same = put_new_tells g.0 h.0 k.0 l.0 entries (same_keys s t es g.0 h.0 keys g.1 h.1) k.2 l.2 formed in
      elim (one_of (list_any (λ e. mentions x e.0 || mentions x e.1) es) (is_rest x rest) m) [
        | inl here ↦ entries_tell s t x es g.0 o here g.1 (h.1 ∙ ap Some (sym same.0))
        | inr there ↦ rest_tells s t x as_entries entries_once rest k.0 there k.1 (l.1 ∙ ap Some (sym same.1))
      ]

  single_tells : (p : Pattern) (v : Value) → has_no_operator p ≡ true → (mentions x p || false) ≡ true → eval p s ≡ Some v
      → eval p t ≡ Some v → IsShared s t x
  single_tells p v o m e f = elim (one_of (mentions x p) false m) [
    | inl here ↦ pattern_tells s t x p v o here e f
    | inr there ↦ absurd (let g : false ≡ true = there in cc)
  ]

  -- a variable that stands in a body is shared where the content is, and the keys and the rest of cells are
  pub body_tells : (body : Body) (content : Content) → all_patterns has_no_operator body ≡ true → not (is_made body) ≡ true
      → body_mentions x body ≡ true → content_of body s ≡ Some content → content_of body t ≡ Some content → HasRisingKeys content
      → ((y : ℕ) → cells_rest body ≡ Some y → IsShared s t y) → ((q : Pattern) → Has (keys_in body) q → eval q s ≡ eval q t)
      → IsShared s t x
  body_tells (Cells' n children rest) content o made m e f rising shared keys = cells_tell rest shared m
  body_tells (Seq parts rest) content o made m e f rising shared keys =
      let g = map_gives SeqContent (joined (eval_all parts s) (rest_of as_sequence rest s)) content e in
      let h = map_gives SeqContent (joined (eval_all parts t) (rest_of as_sequence rest t)) content f in
      sequence_tells parts rest g.0 o m g.1 (h.1 ∙ ap Some (same_sequences h.0 g.0 (h.2 ∙ sym g.2)))
  body_tells (Map es rest) content o made m e f rising shared keys =
      let g = map_gives MapContent (option_and_then (λ news. option_and_then (put_new news) (rest_of as_entries rest s)) (eval_entries es s)) content e in
      let h = map_gives MapContent (option_and_then (λ news. option_and_then (put_new news) (rest_of as_entries rest t)) (eval_entries es t)) content f in
      map_tells es rest g.0 o m g.1 (h.1 ∙ ap Some (same_maps h.0 g.0 (h.2 ∙ sym g.2))) (subst HasRisingKeys (sym g.2) rising) keys
  body_tells (Listed before rest after) content o made m e f rising shared keys =
      let g = map_gives ListContent (joined (joined (eval_all before s) (rest_of as_members rest s)) (eval_all after s)) content e in
      let h = map_gives ListContent (joined (joined (eval_all before t) (rest_of as_members rest t)) (eval_all after t)) content f in
      members_tell before after rest g.0 o m g.1 (h.1 ∙ ap Some (same_lists h.0 g.0 (h.2 ∙ sym g.2)))
  body_tells (One p) content o made m e f rising shared keys =
      let g = map_gives OneContent (eval p s) content e in
      let h = map_gives OneContent (eval p t) content f in
      single_tells p g.0 o m g.1 (h.1 ∙ ap Some (same_ones h.0 g.0 (h.2 ∙ sym g.2)))
  body_tells (Made p) content o made m e f rising shared keys = absurd (let g : false ≡ true = made in cc)
