-- What bodies build of well-formed values is well formed, and of a right body's kind.
use Rattle.std.proofs.Common.{◌≡◌, ℕ, true, ◌&&◌, List, [], ◌∷◌, cond, refl, sym, ap, subst, ◌∙◌}
use Rattle.std.specs.Prelude.{Option, Some, None, is_some, IsTrue}
use Rattle.std.specs.Option.{option_map, option_and_then}
use Rattle.std.specs.List.{list_all}
use Rattle.std.specs.FinMap.{find, put}
use Rattle.k_terms.specs.declared.value.Value.{Value, Value-F, Map as Mapping, out-Value}
use Rattle.k_terms.specs.declared.value.Value.TheOpen.{Seq as Seq-F, Map as Map-F, List as List-F}
use Rattle.k_terms.specs.declared.value.Content.{Content}
use Rattle.k_terms.specs.declared.value.Content.TheVariants.{Cells as NoContent, Seq as SeqContent, Map as MapContent, List as ListContent, One as OneContent}
use Rattle.k_terms.specs.Value.{value_cmp, is_well_formed}
use Rattle.k_terms.specs.Parts.{are_well_formed, entries_are_well_formed}
use Rattle.k_terms.specs.Operators.{as_entries, as_members}
use Rattle.k_terms.proofs.WellFormed.{level_well_formed, is_well_formed_levels, is_well_formed-Map}
use Rattle.rule_terms.specs.declared.pattern.Pattern.{Pattern}
use Rattle.rule_terms.specs.declared.pattern.Body.{Body, Cells', Seq, Map, List as Listed, One, Made}
use Rattle.rule_terms.specs.Options.{joined}
use Rattle.rule_terms.specs.Substitution.{Subst, rest_of, as_sequence}
use Rattle.rule_terms.specs.Eval.{eval, eval_all, eval_entry, eval_entries}
use Rattle.rule_terms.specs.Fill.{put_new, content_from, content_of}
use Rattle.rule_terms.specs.Sound.{has_formed_values, all_patterns}
use Rattle.rule_terms.specs.Kinds.{AllFormed}
use Rattle.rule_terms.proofs.Defined.{both, joins, same_some, not_held, and_then_gives, map_gives}
use Rattle.rule_terms.proofs.Layers.{Entries, are_formed_entries, sequence_formed, members_formed, entries_formed, all_formed, put_formed}
use Rattle.rule_terms.proofs.Formed.{rest_passes, rest_formed, with_rest_formed, eval_formed}

-- ---- lists of patterns

pub eval_all_formed : (ps : List Pattern) (s : Subst) (vs : List Value) → AllFormed s → list_all has_formed_values ps ≡ true → eval_all ps s ≡ Some vs → are_well_formed vs ≡ true
eval_all_formed [] s vs all h e = ap are_well_formed (sym (same_some [] vs e))
eval_all_formed (p ∷ ps) s vs all h e =
    let g = and_then_gives (λ v. option_map (λ us. v ∷ us) (eval_all ps s)) (eval p s) vs e in
    let k = map_gives (λ us. g.0 ∷ us) (eval_all ps s) vs g.2 in
    ap are_well_formed (sym k.2) ∙ joins _ _ (eval_formed p s g.0 all (both _ _ h).0 g.1) (eval_all_formed ps s k.0 all (both _ _ h).1 k.1)

-- the two values of an entry
pub entry_gives : (e : Pattern × Pattern) (s : Subst) (entry : Value × Value) → eval_entry e s ≡ Some entry → (eval e.0 s ≡ Some entry.0) × (eval e.1 s ≡ Some entry.1)
entry_gives e s entry is =
    let g = and_then_gives (λ key. option_map (λ value. (key, value)) (eval e.1 s)) (eval e.0 s) entry is in
    let k = map_gives (λ value. (g.0, value)) (eval e.1 s) entry g.2 in
    (g.1 ∙ ap (λ x. Some x.0) k.2, k.1 ∙ ap (λ x. Some x.1) k.2)

eval_entries_formed : (es : List (Pattern × Pattern)) (s : Subst) (entries : Entries) → AllFormed s → list_all (λ e. has_formed_values e.0 && has_formed_values e.1) es ≡ true → eval_entries es s ≡ Some entries → entries_are_well_formed entries ≡ true
eval_entries_formed [] s entries all h is = ap entries_are_well_formed (sym (same_some [] entries is))
eval_entries_formed (e ∷ es) s entries all h is =
    let g = and_then_gives (λ entry. option_map (λ more. entry ∷ more) (eval_entries es s)) (eval_entry e s) entries is in
    let k = map_gives (λ more. g.0 ∷ more) (eval_entries es s) entries g.2 in
    let parts = entry_gives e s g.0 g.1 in
    let tests = both _ _ (both _ _ h).0 in
    ap entries_are_well_formed (sym k.2)
    ∙ joins _ _ (joins _ _ (eval_formed e.0 s g.0.0 all tests.0 parts.0) (eval_formed e.1 s g.0.1 all tests.1 parts.1)) (eval_entries_formed es s k.0 all (both _ _ h).1 k.1)

-- new entries put into others
put_new_formed : (es others entries : Entries) → entries_are_well_formed es ≡ true → are_formed_entries others ≡ true → put_new es others ≡ Some entries → are_formed_entries entries ≡ true
put_new_formed [] others entries h k is = ap are_formed_entries (sym (same_some others entries is)) ∙ k
put_new_formed (e ∷ es) others entries h k is =
    let g = and_then_gives (λ more. cond (is_some (find value_cmp e.0 more)) None (Some (put value_cmp e.0 e.1 more))) (put_new es others) entries is in
    let put_in = not_held (is_some (find value_cmp e.0 g.0)) (put value_cmp e.0 e.1 g.0) entries g.2 in
    let parts = both _ _ (both _ _ h).0 in
    ap are_formed_entries (sym put_in.1) ∙ put_formed e.0 e.1 g.0 parts.0 parts.1 (put_new_formed es others g.0 (both _ _ h).1 k g.1)

-- ---- contents

-- the values in a content are well formed
abbrev pub IsFormedContent : Content → Type 0
IsFormedContent NoContent = Unit {0}
IsFormedContent (SeqContent values) = IsTrue (list_all is_well_formed values)
IsFormedContent (MapContent entries) = IsTrue (is_well_formed (Mapping entries))
IsFormedContent (ListContent values) = IsTrue (list_all is_well_formed values)
IsFormedContent (OneContent v) = IsTrue (is_well_formed v)

-- a value as a content, by its layer
abbrev pub level_content : Value → Value-F Value → Content
level_content v x = elim x [ Seq-F values ↦ SeqContent values | Map-F entries ↦ MapContent entries | List-F values ↦ ListContent values | _ ↦ OneContent v ]

level_content_formed : (v : Value) (x : Value-F Value) → is_well_formed v ≡ true → level_well_formed x ≡ true → IsFormedContent (level_content v x)
level_content_formed v (Seq-F values) h k = all_formed values ∙ k
level_content_formed v (Map-F entries) h k = is_well_formed-Map entries ∙ k
level_content_formed v (List-F values) h k = all_formed values ∙ k
level_content_formed v _ h k = h

content_from_formed : (v : Value) → is_well_formed v ≡ true → IsFormedContent (content_from v)
content_from_formed v h = level_content_formed v (out-Value v) h (sym (is_well_formed_levels v) ∙ h)

sequence_content_formed : (parts : List Pattern) (rest : Option ℕ) (s : Subst) (vs : List Value) → AllFormed s → list_all has_formed_values parts ≡ true → joined (eval_all parts s) (rest_of as_sequence rest s) ≡ Some vs → list_all is_well_formed vs ≡ true
sequence_content_formed parts rest s vs all h e =
    all_formed vs
    ∙ with_rest_formed (eval_all parts s) (rest_of as_sequence rest s) vs (λ ws f. eval_all_formed parts s ws all h f) (λ ws f. rest_formed as_sequence sequence_formed rest s ws all f) e

map_content_formed : (es : List (Pattern × Pattern)) (rest : Option ℕ) (s : Subst) (entries : Entries) → AllFormed s → list_all (λ e. has_formed_values e.0 && has_formed_values e.1) es ≡ true → option_and_then (λ news. option_and_then (put_new news) (rest_of as_entries rest s)) (eval_entries es s) ≡ Some entries → is_well_formed (Mapping entries) ≡ true
map_content_formed es rest s entries all h e =
    let g = and_then_gives (λ news. option_and_then (put_new news) (rest_of as_entries rest s)) (eval_entries es s) entries e in
    let k = and_then_gives (put_new g.0) (rest_of as_entries rest s) entries g.2 in
    is_well_formed-Map entries
    ∙ put_new_formed g.0 k.0 entries (eval_entries_formed es s g.0 all h g.1) (rest_passes as_entries are_formed_entries refl entries_formed rest s k.0 all k.1) k.2

list_content_formed : (before after : List Pattern) (rest : Option ℕ) (s : Subst) (vs : List Value) → AllFormed s → (list_all has_formed_values before && list_all has_formed_values after) ≡ true → joined (joined (eval_all before s) (rest_of as_members rest s)) (eval_all after s) ≡ Some vs → list_all is_well_formed vs ≡ true
list_content_formed before after rest s vs all h e =
    all_formed vs
    ∙ with_rest_formed (joined (eval_all before s) (rest_of as_members rest s)) (eval_all after s) vs
    (λ ws f. with_rest_formed (eval_all before s) (rest_of as_members rest s) ws (λ us g. eval_all_formed before s us all (both _ _ h).0 g) (λ us g. rest_formed as_members members_formed rest s us all g) f)
    (λ ws f. eval_all_formed after s ws all (both _ _ h).1 f) e

-- The content of a body is well formed where what stands for the variables is.
pub content_formed : (body : Body) (s : Subst) (content : Content) → AllFormed s → all_patterns has_formed_values body ≡ true → content_of body s ≡ Some content → IsFormedContent content
content_formed (Cells' n children rest) s content all h e = subst IsFormedContent (same_some NoContent content e) tt
content_formed (Seq parts rest) s content all h e =
    let g = map_gives SeqContent (joined (eval_all parts s) (rest_of as_sequence rest s)) content e in
    subst IsFormedContent g.2 (sequence_content_formed parts rest s g.0 all h g.1)
content_formed (Map es rest) s content all h e =
    let g = map_gives MapContent (option_and_then (λ news. option_and_then (put_new news) (rest_of as_entries rest s)) (eval_entries es s)) content e in
    subst IsFormedContent g.2 (map_content_formed es rest s g.0 all h g.1)
content_formed (Listed before rest after) s content all h e =
    let g = map_gives ListContent (joined (joined (eval_all before s) (rest_of as_members rest s)) (eval_all after s)) content e in
    subst IsFormedContent g.2 (list_content_formed before after rest s g.0 all h g.1)
content_formed (One p) s content all h e =
    let g = map_gives OneContent (eval p s) content e in
    subst IsFormedContent g.2 (eval_formed p s g.0 all h g.1)
content_formed (Made p) s content all h e =
    let g = map_gives content_from (eval p s) content e in
    subst IsFormedContent g.2 (content_from_formed g.0 (eval_formed p s g.0 all h g.1))
